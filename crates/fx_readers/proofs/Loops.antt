-- Loops that read any number of parts, and a rule that may hold itself.
use Rattle.std.proofs.Common.{◌≡◌, ℕ, Option, Some, None, zero, suc, ◌-◌, ◌<◌, Bool, true, false, cond, List, [], ◌∷◌, ◌++◌, length, Ok, Err, refl, sym, ap, ◌∙◌, arith, append_assoc, append-nil, ◌||◌, subst, sub-one}
use Rattle.fx_grammar.specs.Kinds.{is, kind_of}
use Rattle.fx_grammar.specs.declared.kinds.Kind.{Kind}
use Rattle.fx_grammar.specs.declared.kinds.Token.{Token}
use Rattle.fx_grammar.specs.declared.refusals.SyntaxKind.TheVariants.{Unexpected}
use Rattle.fx_readers.specs.declared.faults.Fault.{Fault}
use Rattle.fx_readers.specs.declared.faults.Fault.TheVariants.{Refused, Memory}
use Rattle.std.specs.List.{flat_map}
use Rattle.fx_grammar.specs.Rule.{any_number, any_number_from, refuse, made, with_front, more, Refusal, Outcome, and_then, Rule, Shape, shape_of, Shaped, chain, many, after, token, sees, depth, nested, seq, either, with_each, some, opt}
use Rattle.fx_readers.specs.Gives.{IsRefusal}
use Rattle.fx_grammar.proofs.RuleLaws.{Lawful, lawful_item, same_shape, turn_is, shortens, shortens_from, Shortens}

-- a refusal that is handed on, from what refuses to what then refuses too
pub hands_on : {A B : Type 0} (fault : Fault) (o : Outcome A) (w : Outcome B) → IsRefusal fault o → ((r : Refusal) → o ≡ Err r → w ≡ Err r) → IsRefusal fault w
hands_on Memory o w h f = tt
hands_on (Refused why left) o w h f = f _ h

in_front : {A : Type 0} (front : List A) (x : A) (o : Outcome (List A)) → and_then (and_then o (λ xs rest. Ok (x ∷ xs, rest))) (λ xs rest. Ok (front ++ xs, rest)) ≡ and_then o (λ xs rest. Ok ((front ++ x ∷ []) ++ xs, rest))
in_front front x (Ok p) = rw append_assoc refl
in_front front x (Err r) = refl

module _ {S A : Type 0} (shape : Shape) (rule : S → Rule A) (step : S → A → S) (l : (s : S) → Lawful (rule s)) (fits : (s : S) → Shaped shape (rule s)) (na : shape.empty ≡ false) where
  turn : (s : S) (ts : List Token) → any_number_from shape rule step s ts
      ≡ cond (sees shape.begins ts) (and_then ((rule s).read ts) (λ x mid. and_then (any_number_from shape rule step (step s x) mid) (λ xs rest. Ok (x ∷ xs, rest)))) (Ok ([], ts))
  unfolding any_number_from
  turn s ts = turn_is shape rule step l fits na s ts

  pub from_turn : (s : S) (front : List A) (ts next : List Token) (x : A) → sees shape.begins ts ≡ true → (rule s).read ts ≡ Ok (x, next)
      → with_front (front ++ x ∷ []) (any_number_from shape rule step (step s x) next) ≡ with_front front (any_number_from shape rule step s ts)
  unfolding with_front
  from_turn s front ts next x b e = sym (rw (turn s ts, b, e) (in_front front x (any_number_from shape rule step (step s x) next)))

  pub from_fails : (s : S) (front : List A) (ts : List Token) (r : Refusal) → sees shape.begins ts ≡ true → (rule s).read ts ≡ Err r → with_front front (any_number_from shape rule step s ts) ≡ Err r
  unfolding with_front
  from_fails s front ts r b e = rw (turn s ts, b, e) refl

  pub from_ends : (s : S) (front : List A) (ts : List Token) → sees shape.begins ts ≡ false → with_front front (any_number_from shape rule step s ts) ≡ Ok (front, ts)
  unfolding with_front
  from_ends s front ts b = rw (turn s ts, b) (ap (λ (v : List A). Ok (v, ts)) (append-nil front))

  pub from_smaller : (s : S) (ts next : List Token) (x : A) → (rule s).read ts ≡ Ok (x, next) → length next < length ts
  from_smaller s ts next x e = subst (Shortens ts) e (shortens_from shape rule step l fits na s ts)

module _ {A : Type 0} (a : Rule A) (l : Lawful a) (na : a.empty ≡ false) where
  pub any_turn : (front : List A) (ts next : List Token) (x : A) → sees a.begins ts ≡ true → a.read ts ≡ Ok (x, next) → with_front (front ++ x ∷ []) (any_number a next) ≡ with_front front (any_number a ts)
  unfolding any_number any_number_from
  any_turn front ts next x b e = from_turn {S = Unit {0}} (shape_of a) (λ s. a) (λ s x. s) (λ s. l) (λ s. same_shape a) na tt front ts next x b e

  pub any_fails : (front : List A) (ts : List Token) (r : Refusal) → sees a.begins ts ≡ true → a.read ts ≡ Err r → with_front front (any_number a ts) ≡ Err r
  unfolding any_number any_number_from
  any_fails front ts r b e = from_fails {S = Unit {0}} (shape_of a) (λ s. a) (λ s x. s) (λ s. l) (λ s. same_shape a) na tt front ts r b e

  pub any_ends : (front : List A) (ts : List Token) → sees a.begins ts ≡ false → with_front front (any_number a ts) ≡ Ok (front, ts)
  unfolding any_number any_number_from
  any_ends front ts b = from_ends {S = Unit {0}} (shape_of a) (λ s. a) (λ s x. s) (λ s. l) (λ s. same_shape a) na tt front ts b

  pub any_smaller : (ts next : List Token) (x : A) → a.read ts ≡ Ok (x, next) → length next < length ts
  any_smaller ts next x e = subst (Shortens ts) e (shortens a l na ts)

-- ---- the same, where each that is read gives some parts

in_each : {A B : Type 0} (parts : A → List B) (front : List B) (x : A) (o : Outcome (List A))
    → and_then (and_then o (λ xs rest. Ok (x ∷ xs, rest))) (λ xs rest. Ok (front ++ flat_map parts xs, rest)) ≡ and_then o (λ xs rest. Ok ((front ++ parts x) ++ flat_map parts xs, rest))
in_each parts front x (Ok p) = rw append_assoc refl
in_each parts front x (Err r) = refl

module _ {S A B : Type 0} (shape : Shape) (rule : S → Rule A) (step : S → A → S) (l : (s : S) → Lawful (rule s)) (fits : (s : S) → Shaped shape (rule s)) (na : shape.empty ≡ false) (parts : A → List B) where
  pub from_each_turn : (s : S) (front : List B) (ts next : List Token) (x : A) → sees shape.begins ts ≡ true → (rule s).read ts ≡ Ok (x, next)
      → with_each parts (front ++ parts x) (any_number_from shape rule step (step s x) next) ≡ with_each parts front (any_number_from shape rule step s ts)
  unfolding with_each
  from_each_turn s front ts next x b e = sym (rw (turn shape rule step l fits na s ts, b, e) (in_each parts front x (any_number_from shape rule step (step s x) next)))

  pub from_each_fails : (s : S) (front : List B) (ts : List Token) (r : Refusal) → sees shape.begins ts ≡ true → (rule s).read ts ≡ Err r → with_each parts front (any_number_from shape rule step s ts) ≡ Err r
  unfolding with_each
  from_each_fails s front ts r b e = rw (turn shape rule step l fits na s ts, b, e) refl

  pub from_each_ends : (s : S) (front : List B) (ts : List Token) → sees shape.begins ts ≡ false → with_each parts front (any_number_from shape rule step s ts) ≡ Ok (front, ts)
  unfolding with_each
  from_each_ends s front ts b = rw (turn shape rule step l fits na s ts, b) (ap (λ (v : List B). Ok (v, ts)) (append-nil front))

-- a first part, and what each of the others gives
pub each_is : {T A B : Type 0} (a : Rule T) (b : Rule (List A)) (first : T → List B) (parts : A → List B) (ts mid : List Token) (x : T) (front : List B) → a.read ts ≡ Ok (x, mid) → front ≡ first x
    → (made (λ p. first p.0 ++ flat_map parts p.1) (seq a b)).read ts ≡ with_each parts front (b.read mid)
unfolding with_each
each_is {T} {A} {B} a b first parts ts mid x front e f = rw (e, f) (go (b.read mid))
  where
    go : (o : Outcome (List A)) → and_then (and_then {B = T × List A} o (λ y rest. Ok ((x, y), rest))) (λ p rest. Ok (first p.0 ++ flat_map parts p.1, rest)) ≡ and_then o (λ xs rest. Ok (first x ++ flat_map parts xs, rest))
    go (Ok p) = refl
    go (Err r) = refl

-- nothing in front
pub no_front : {A : Type 0} (o : Outcome (List A)) → with_front [] o ≡ o
unfolding with_front
no_front (Ok p) = refl
no_front (Err r) = refl

-- ---- chains

module _ {A : Type 0} (mark : Kind) (a : Rule A) where
  chain_first : (ts mid : List Token) (x : A) → a.read ts ≡ Ok (x, mid) → with_front (x ∷ []) (more mark a mid) ≡ (chain mark a).read ts
  unfolding with_front more
  chain_first ts mid x e = rw e (go ((many (after (token mark) a)).read mid))
    where
      go : (o : Outcome (List A)) → and_then o (λ xs rest. Ok ((x ∷ []) ++ xs, rest)) ≡ and_then (and_then {B = A × List A} o (λ y rest. Ok ((x, y), rest))) (λ p rest. Ok (p.0 ∷ p.1, rest))
      go (Ok p) = refl
      go (Err r) = refl

  -- a chain as another value
  pub chain_made : {B : Type 0} (f : List A → B) (ts mid rest : List Token) (x : A) (front parts : List A) (y : B) → a.read ts ≡ Ok (x, mid) → front ≡ x ∷ []
      → with_front front (more mark a mid) ≡ Ok (parts, rest) → y ≡ f parts → (made f (chain mark a)).read ts ≡ Ok (y, rest)
  chain_made f ts mid rest x front parts y e first h is =
      ap (λ (o : Outcome (List A)). and_then o (λ v r. Ok (f v, r))) (sym (chain_first ts mid x e) ∙ ap (λ v. with_front v (more mark a mid)) (sym first) ∙ h) ∙ ap (λ v. Ok (v, rest)) (sym is)

  pub chain_made_refused : {B : Type 0} (f : List A → B) (ts mid : List Token) (x : A) (front : List A) (r : Refusal) → a.read ts ≡ Ok (x, mid) → front ≡ x ∷ []
      → with_front front (more mark a mid) ≡ Err r → (made f (chain mark a)).read ts ≡ Err r
  chain_made_refused f ts mid x front r e first h =
      ap (λ (o : Outcome (List A)). and_then o (λ v r. Ok (f v, r))) (sym (chain_first ts mid x e) ∙ ap (λ v. with_front v (more mark a mid)) (sym first) ∙ h)

  pub chain_read : (ts mid rest : List Token) (x : A) (front parts : List A) → a.read ts ≡ Ok (x, mid) → front ≡ x ∷ [] → with_front front (more mark a mid) ≡ Ok (parts, rest) → (chain mark a).read ts ≡ Ok (parts, rest)
  chain_read ts mid rest x front parts e first h = sym (chain_first ts mid x e) ∙ ap (λ v. with_front v (more mark a mid)) (sym first) ∙ h

  pub chain_refused : (ts mid : List Token) (x : A) (front : List A) (r : Refusal) → a.read ts ≡ Ok (x, mid) → front ≡ x ∷ [] → with_front front (more mark a mid) ≡ Err r → (chain mark a).read ts ≡ Err r
  chain_refused ts mid x front r e first h = sym (chain_first ts mid x e) ∙ ap (λ v. with_front v (more mark a mid)) (sym first) ∙ h

  pub chain_is : (ts mid : List Token) (x : A) (front : List A) → a.read ts ≡ Ok (x, mid) → front ≡ x ∷ [] → (chain mark a).read ts ≡ with_front front (more mark a mid)
  chain_is ts mid x front e first = sym (chain_first ts mid x e) ∙ ap (λ v. with_front v (more mark a mid)) (sym first)

  -- a chain whose first part is read by another rule
  module _ {T B : Type 0} (s : Rule T) (g : T → A) (h : List A → B) where
    abbrev headed : Rule B
    headed = made (λ p. h (g p.0 ∷ p.1)) (seq s (many (after (token mark) a)))

    headed_is : (ts mid : List Token) (x : T) → s.read ts ≡ Ok (x, mid) → headed.read ts ≡ and_then (with_front (g x ∷ []) (more mark a mid)) (λ parts rest. Ok (h parts, rest))
    unfolding with_front more
    headed_is ts mid x e = rw e (go ((many (after (token mark) a)).read mid))
      where
        go : (o : Outcome (List A)) → and_then (and_then {B = T × List A} o (λ y rest. Ok ((x, y), rest))) (λ p rest. Ok (h (g p.0 ∷ p.1), rest)) ≡ and_then (and_then o (λ xs rest. Ok ((g x ∷ []) ++ xs, rest))) (λ parts rest. Ok (h parts, rest))
        go (Ok p) = refl
        go (Err r) = refl

    pub headed_made : (ts mid rest : List Token) (x : T) (front parts : List A) (y : B) → s.read ts ≡ Ok (x, mid) → front ≡ g x ∷ [] → with_front front (more mark a mid) ≡ Ok (parts, rest) → y ≡ h parts → headed.read ts ≡ Ok (y, rest)
    headed_made ts mid rest x front parts y e first k is =
        headed_is ts mid x e ∙ ap (λ v. and_then (with_front v (more mark a mid)) (λ parts rest. Ok (h parts, rest))) (sym first)
        ∙ ap (λ (o : Outcome (List A)). and_then o (λ parts rest. Ok (h parts, rest))) k ∙ ap (λ v. Ok (v, rest)) (sym is)

    pub headed_refused : (ts mid : List Token) (x : T) (front : List A) (r : Refusal) → s.read ts ≡ Ok (x, mid) → front ≡ g x ∷ [] → with_front front (more mark a mid) ≡ Err r → headed.read ts ≡ Err r
    headed_refused ts mid x front r e first k =
        headed_is ts mid x e ∙ ap (λ v. and_then (with_front v (more mark a mid)) (λ parts rest. Ok (h parts, rest))) (sym first) ∙ ap (λ (o : Outcome (List A)). and_then o (λ parts rest. Ok (h parts, rest))) k

  module _ (l : Lawful a) where
    begins_so : (ts : List Token) (b : Bool) → sees (is mark) ts ≡ b → sees (after (token mark) a).begins ts ≡ b
    begins_so [] b e = e
    begins_so (t ∷ ts) b e = go (is mark (kind_of t)) ∙ e
      where
        go : (c : Bool) → (c || false) ≡ c
        go true = refl
        go false = refl

    item_read : (ts mid next : List Token) (x : A) → (token mark).read ts ≡ Ok (tt, mid) → a.read mid ≡ Ok (x, next) → (after (token mark) a).read ts ≡ Ok (x, next)
    item_read ts mid next x e f = rw (e, f) refl

    item_refused : (ts mid : List Token) (r : Refusal) → (token mark).read ts ≡ Ok (tt, mid) → a.read mid ≡ Err r → (after (token mark) a).read ts ≡ Err r
    item_refused ts mid r e f = rw (e, f) refl

    pub chain_turn : (front : List A) (ts mid next : List Token) (x : A) → sees (is mark) ts ≡ true → (token mark).read ts ≡ Ok (tt, mid) → a.read mid ≡ Ok (x, next)
        → with_front (front ++ x ∷ []) (more mark a next) ≡ with_front front (more mark a ts)
    unfolding more any_number
    chain_turn front ts mid next x s e f = any_turn (after (token mark) a) (lawful_item mark a l) refl front ts next x (begins_so ts true s) (item_read ts mid next x e f)

    pub chain_fails : (front : List A) (ts mid : List Token) (r : Refusal) → sees (is mark) ts ≡ true → (token mark).read ts ≡ Ok (tt, mid) → a.read mid ≡ Err r → with_front front (more mark a ts) ≡ Err r
    unfolding more any_number
    chain_fails front ts mid r s e f = any_fails (after (token mark) a) (lawful_item mark a l) refl front ts r (begins_so ts true s) (item_refused ts mid r e f)

    pub chain_ends : (front : List A) (ts : List Token) → sees (is mark) ts ≡ false → with_front front (more mark a ts) ≡ Ok (front, ts)
    unfolding more any_number
    chain_ends front ts s = any_ends (after (token mark) a) (lawful_item mark a l) refl front ts (begins_so ts false s)

    pub chain_each_turn : {B : Type 0} (parts : A → List B) (front : List B) (ts mid next : List Token) (x : A) → sees (is mark) ts ≡ true → (token mark).read ts ≡ Ok (tt, mid) → a.read mid ≡ Ok (x, next)
        → with_each parts (front ++ parts x) (more mark a next) ≡ with_each parts front (more mark a ts)
    unfolding more any_number_from
    chain_each_turn parts front ts mid next x s e f =
        let item = after (token mark) a in
        from_each_turn {S = Unit {0}} (shape_of item) (λ s. item) (λ s x. s) (λ s. lawful_item mark a l) (λ s. same_shape item) refl parts tt front ts next x (begins_so ts true s) (item_read ts mid next x e f)

    pub chain_each_fails : {B : Type 0} (parts : A → List B) (front : List B) (ts mid : List Token) (r : Refusal) → sees (is mark) ts ≡ true → (token mark).read ts ≡ Ok (tt, mid) → a.read mid ≡ Err r → with_each parts front (more mark a ts) ≡ Err r
    unfolding more any_number_from
    chain_each_fails parts front ts mid r s e f =
        let item = after (token mark) a in
        from_each_fails {S = Unit {0}} (shape_of item) (λ s. item) (λ s x. s) (λ s. lawful_item mark a l) (λ s. same_shape item) refl parts tt front ts r (begins_so ts true s) (item_refused ts mid r e f)

    pub chain_each_ends : {B : Type 0} (parts : A → List B) (front : List B) (ts : List Token) → sees (is mark) ts ≡ false → with_each parts front (more mark a ts) ≡ Ok (front, ts)
    unfolding more any_number_from
    chain_each_ends parts front ts s =
        let item = after (token mark) a in
        from_each_ends {S = Unit {0}} (shape_of item) (λ s. item) (λ s x. s) (λ s. lawful_item mark a l) (λ s. same_shape item) refl parts tt front ts (begins_so ts false s)

    pub chain_smaller : (ts mid next : List Token) (x : A) → (token mark).read ts ≡ Ok (tt, mid) → a.read mid ≡ Ok (x, next) → length next < length ts
    chain_smaller ts mid next x e f = any_smaller (after (token mark) a) (lawful_item mark a l) refl ts next x (item_read ts mid next x e f)

-- ---- a rule that may hold itself

module _ {A : Type 0} (rule : Rule A → Rule A) where
  pub nested_none : (n : ℕ) (ts : List Token) → n ≡ 0 → (nested rule n).read ts ≡ refuse Unexpected ts
  unfolding depth
  nested_none zero ts e = refl
  nested_none (suc n) ts e = absurd (omega arith)

  pub nested_more : (n : ℕ) (ts : List Token) → 0 < n → (nested rule n).read ts ≡ (rule (nested rule (n - 1))).read ts
  unfolding depth
  nested_more zero ts h = absurd (omega arith)
  nested_more (suc n) ts h = rw sub-one refl

-- one or more
pub some_is : {A : Type 0} (a : Rule A) (ts mid : List Token) (x : A) (front : List A) → a.read ts ≡ Ok (x, mid) → front ≡ x ∷ [] → (some a).read ts ≡ with_front front (any_number a mid)
unfolding with_front any_number
some_is {A} a ts mid x front e f = rw (e, f) (go ((many a).read mid))
  where
    go : (o : Outcome (List A)) → and_then (and_then {B = A × List A} o (λ y rest. Ok ((x, y), rest))) (λ p rest. Ok (p.0 ∷ p.1, rest)) ≡ and_then o (λ xs rest. Ok ((x ∷ []) ++ xs, rest))
    go (Ok p) = refl
    go (Err r) = refl

-- ---- choices

pub either_first : {A : Type 0} (a b : Rule A) (ts : List Token) → sees a.begins ts ≡ true → (either a b).read ts ≡ a.read ts
either_first a b ts e = rw e refl

pub either_second : {A : Type 0} (a b : Rule A) (ts : List Token) → sees a.begins ts ≡ false → (either a b).read ts ≡ b.read ts
either_second a b ts e = rw e refl

-- or nothing else
pub sees-alone : (p : Kind → Bool) (ts : List Token) (b : Bool) → sees p ts ≡ b → sees (λ kind. p kind || false) ts ≡ b
sees-alone p [] b e = e
sees-alone p (t ∷ ts) b e = go (p (kind_of t)) ∙ e
  where
    go : (c : Bool) → (c || false) ≡ c
    go true = refl
    go false = refl

-- ---- perhaps

pub opt_here : {A : Type 0} (a : Rule A) (ts rest : List Token) (x : A) → sees a.begins ts ≡ true → a.read ts ≡ Ok (x, rest) → (opt a).read ts ≡ Ok (Some x, rest)
opt_here a ts rest x e f = rw (e, f) refl

pub opt_fails : {A : Type 0} (a : Rule A) (ts : List Token) (r : Refusal) → sees a.begins ts ≡ true → a.read ts ≡ Err r → (opt a).read ts ≡ Err r
opt_fails a ts r e f = rw (e, f) refl

pub opt_none : {A : Type 0} (a : Rule A) (ts : List Token) → sees a.begins ts ≡ false → (opt a).read ts ≡ Ok (None, ts)
opt_none a ts e = rw e refl

module _ {A B : Type 0} (f : Option A → B) (a : Rule A) (ts : List Token) where
  pub opt_made_here : (rest : List Token) (x : A) (y : B) → sees a.begins ts ≡ true → a.read ts ≡ Ok (x, rest) → y ≡ f (Some x) → (made f (opt a)).read ts ≡ Ok (y, rest)
  opt_made_here rest x y e g h = rw (e, g, h) refl

  pub opt_made_fails : (r : Refusal) → sees a.begins ts ≡ true → a.read ts ≡ Err r → (made f (opt a)).read ts ≡ Err r
  opt_made_fails r e g = rw (e, g) refl

  pub opt_made_none : (y : B) → sees a.begins ts ≡ false → y ≡ f None → (made f (opt a)).read ts ≡ Ok (y, ts)
  opt_made_none y e h = rw (e, h) refl
