-- Loops that read any number of parts, each of which adds to a list.
use Rattle.std.proofs.Common.{◌≡◌, ◌∙◌, ◌<◌, Bool, true, false, cond, ◌||◌, List, [], ◌∷◌, ◌++◌, length, Ok, Err, refl, sym, ap, subst, append_assoc, append-nil}
use Rattle.std.specs.List.{flat_map}
use Rattle.fx_rules.specs.Rule.{Shaped, and_then, sees}
use Rattle.fx_rules.proofs.RuleLaws as laws
use Rattle.fx_rules.proofs.RuleLaws.{Shortens}
use Rattle.fx_turtle.specs.Gives.{added}
use Rattle.fx_turtle.specs.Rule.{alphabet, Outcome, Refusal, Rule, Shape, shape_of, made, seq, after, token, many, many_from}
use Rattle.fx_turtle.specs.Symbols.{Symbol, is, kind_of}
use Rattle.fx_turtle.specs.declared.kinds.Kind.{Kind}

-- what an outcome left, and a list that it has
abbrev pub rest_of : {A : Type 0} → Outcome A → List Symbol
rest_of (Ok p) = p.1
rest_of (Err r) = []

abbrev list_of : {B : Type 0} → Outcome (List B) → List B
list_of (Ok p) = p.0
list_of (Err r) = []

-- what was added tells what was read
module _ {A B : Type 0} (front : List B) (parts : A → List B) where
  pub added_read : (o : Outcome A) (all : List B) (rest : List Symbol) → added front parts o ≡ Ok (all, rest) → (x : A) × (o ≡ Ok (x, rest)) × (all ≡ front ++ parts x)
  unfolding added
  added_read (Ok p) all rest e = (p.0, ap (λ (v : List Symbol). Ok (p.0, v)) (ap rest_of e), sym (ap list_of e))
  added_read (Err r) all rest e = absurd (cc e)

  pub added_fails : (o : Outcome A) (r : Refusal) → added front parts o ≡ Err r → o ≡ Err r
  unfolding added
  added_fails (Ok p) r e = absurd (cc e)
  added_fails (Err f) r e = cc e

  pub added_ok : (o : Outcome A) (x : A) (rest : List Symbol) → o ≡ Ok (x, rest) → added front parts o ≡ Ok (front ++ parts x, rest)
  unfolding added
  added_ok o x rest e = rw e refl

  pub added_err : (o : Outcome A) (r : Refusal) → o ≡ Err r → added front parts o ≡ Err r
  unfolding added
  added_err o r e = rw e refl

in_each : {A B : Type 0} (parts : A → List B) (front : List B) (x : A) (o : Outcome (List A))
    → and_then (and_then o (λ xs rest. Ok (x ∷ xs, rest))) (λ xs rest. Ok (front ++ flat_map parts xs, rest)) ≡ and_then o (λ xs rest. Ok ((front ++ parts x) ++ flat_map parts xs, rest))
in_each parts front x (Ok p) = rw append_assoc refl
in_each parts front x (Err r) = refl

module _ {S A B : Type 0} (shape : Shape) (rule : S → Rule A) (step : S → A → S) (l : (s : S) → laws.Lawful alphabet (rule s)) (fits : (s : S) → Shaped shape (rule s)) (na : shape.empty ≡ false) (parts : A → List B) where
  turn : (s : S) (ts : List Symbol) → (many_from shape rule step s).read ts
      ≡ cond (sees alphabet shape.begins ts) (and_then ((rule s).read ts) (λ x mid. and_then ((many_from shape rule step (step s x)).read mid) (λ xs rest. Ok (x ∷ xs, rest)))) (Ok ([], ts))
  unfolding laws.turn_of
  turn s ts = laws.turn_is alphabet shape rule step l fits na s ts

  pub from_turn : (s : S) (front : List B) (ts next : List Symbol) (x : A) → sees alphabet shape.begins ts ≡ true → (rule s).read ts ≡ Ok (x, next)
      → added (front ++ parts x) (flat_map parts) ((many_from shape rule step (step s x)).read next) ≡ added front (flat_map parts) ((many_from shape rule step s).read ts)
  unfolding added
  from_turn s front ts next x b e = sym (rw (turn s ts, b, e) (in_each parts front x ((many_from shape rule step (step s x)).read next)))

  pub from_fails : (s : S) (front : List B) (ts : List Symbol) (r : Refusal) → sees alphabet shape.begins ts ≡ true → (rule s).read ts ≡ Err r → added front (flat_map parts) ((many_from shape rule step s).read ts) ≡ Err r
  unfolding added
  from_fails s front ts r b e = rw (turn s ts, b, e) refl

  pub from_ends : (s : S) (front : List B) (ts : List Symbol) → sees alphabet shape.begins ts ≡ false → added front (flat_map parts) ((many_from shape rule step s).read ts) ≡ Ok (front, ts)
  unfolding added
  from_ends s front ts b = rw (turn s ts, b) (ap (λ (v : List B). Ok (v, ts)) (append-nil front))

  pub from_smaller : (s : S) (ts next : List Symbol) (x : A) → (rule s).read ts ≡ Ok (x, next) → length next < length ts
  from_smaller s ts next x e = subst (Shortens ts) e (laws.shortens_from alphabet shape rule step l fits na s ts)

-- ---- parts with a mark before each

module _ {A B : Type 0} (mark : Kind) (a : Rule A) (l : laws.Lawful alphabet a) (parts : A → List B) where
  abbrev item : Rule A
  item = after (token mark) a

  abbrev items : Rule (List A)
  items = many item

  begins_so : (ts : List Symbol) (b : Bool) → sees alphabet (is mark) ts ≡ b → sees alphabet item.begins ts ≡ b
  begins_so [] b e = e
  begins_so (t ∷ ts) b e = go (is mark (kind_of t)) ∙ e
    where
      go : (c : Bool) → (c || false) ≡ c
      go true = refl
      go false = refl

  item_law : laws.Lawful alphabet item
  item_law = laws.lawful_item alphabet mark a l

  item_read : (ts mid next : List Symbol) (x : A) → (token mark).read ts ≡ Ok (tt, mid) → a.read mid ≡ Ok (x, next) → item.read ts ≡ Ok (x, next)
  item_read ts mid next x e f = rw (e, f) refl

  item_fails : (ts mid : List Symbol) (r : Refusal) → (token mark).read ts ≡ Ok (tt, mid) → a.read mid ≡ Err r → item.read ts ≡ Err r
  item_fails ts mid r e f = rw (e, f) refl

  pub items_turn : (front all : List B) (ts mid next : List Symbol) → sees alphabet (is mark) ts ≡ true → (token mark).read ts ≡ Ok (tt, mid) → added front parts (a.read mid) ≡ Ok (all, next)
      → added all (flat_map parts) (items.read next) ≡ added front (flat_map parts) (items.read ts)
  items_turn front all ts mid next s e f =
      let p = added_read front parts (a.read mid) all next f in
      ap (λ (v : List B). added v (flat_map parts) (items.read next)) p.2
      ∙ from_turn {S = Unit {0}} (shape_of item) (λ s. item) (λ s x. s) (λ s. item_law) (λ s. laws.same_shape item) refl parts tt front ts next p.0 (begins_so ts true s) (item_read ts mid next p.0 e p.1)

  pub items_fail : (front : List B) (ts mid : List Symbol) (r : Refusal) → sees alphabet (is mark) ts ≡ true → (token mark).read ts ≡ Ok (tt, mid) → added front parts (a.read mid) ≡ Err r → added front (flat_map parts) (items.read ts) ≡ Err r
  items_fail front ts mid r s e f =
      from_fails {S = Unit {0}} (shape_of item) (λ s. item) (λ s x. s) (λ s. item_law) (λ s. laws.same_shape item) refl parts tt front ts r (begins_so ts true s) (item_fails ts mid r e (added_fails front parts (a.read mid) r f))

  pub items_end : (front : List B) (ts : List Symbol) → sees alphabet (is mark) ts ≡ false → added front (flat_map parts) (items.read ts) ≡ Ok (front, ts)
  items_end front ts s = from_ends {S = Unit {0}} (shape_of item) (λ s. item) (λ s x. s) (λ s. item_law) (λ s. laws.same_shape item) refl parts tt front ts (begins_so ts false s)

  pub items_smaller : (front all : List B) (ts mid next : List Symbol) → (token mark).read ts ≡ Ok (tt, mid) → added front parts (a.read mid) ≡ Ok (all, next) → length next < length ts
  items_smaller front all ts mid next e f =
      let p = added_read front parts (a.read mid) all next f in
      from_smaller {S = Unit {0}} (shape_of item) (λ s. item) (λ s x. s) (λ s. item_law) (λ s. laws.same_shape item) refl parts tt ts next p.0 (item_read ts mid next p.0 e p.1)

-- ---- a first part, and more

module _ {A B C D : Type 0} (a : Rule A) (m : Rule (List B)) (h : A × List B → D) (first : A → List C) (parts : B → List C) (whole : D → List C) (same : (x : A) (xs : List B) → whole (h (x, xs)) ≡ first x ++ flat_map parts xs) where
  abbrev headed : Rule D
  headed = made h (seq a m)

  pub headed_read : (front all : List C) (ts mid : List Symbol) → added front first (a.read ts) ≡ Ok (all, mid) → added all (flat_map parts) (m.read mid) ≡ added front whole (headed.read ts)
  unfolding added
  headed_read front all ts mid e =
      let p = added_read front first (a.read ts) all mid e in
      rw p.1 (ap (λ (v : List C). and_then (m.read mid) (λ xs rest. Ok (v ++ flat_map parts xs, rest))) p.2 ∙ go p.0 (m.read mid))
    where
      go : (x : A) (o : Outcome (List B)) → and_then o (λ xs rest. Ok ((front ++ first x) ++ flat_map parts xs, rest)) ≡ and_then (and_then (and_then {B = A × List B} o (λ y rest. Ok ((x, y), rest))) (λ p rest. Ok (h p, rest))) (λ d rest. Ok (front ++ whole d, rest))
      go x (Ok p) = ap (λ (v : List C). Ok (v, p.1)) (append_assoc front (first x) (flat_map parts p.0) ∙ ap (λ (v : List C). front ++ v) (sym (same x p.0)))
      go x (Err r) = refl

  pub headed_fails : (front : List C) (ts : List Symbol) (r : Refusal) → added front first (a.read ts) ≡ Err r → added front whole (headed.read ts) ≡ Err r
  unfolding added
  headed_fails front ts r e = rw (added_fails front first (a.read ts) r e) refl
