-- Rules that leave the symbol d where they read symbols of which it is the last, and rules that may take it: what they refuse is refused at a symbol, and not behind the last.
use Rattle.std.proofs.Common.{◌≡◌, ◌<◌, ℕ, zero, suc, Bool, true, false, cond, List, [], ◌∷◌, ◌++◌, length, Some, Result, Ok, Err, refl, sym, subst, arith, length-append}
use Rattle.fx_rules.specs.Rule.{Alphabet, Outcome, Rule, Shape, and_then, refuse, sees, one, valued, token, refusing, made, seq, after, before, either, opt, many_from, read_from, many, chain, shape_of}

module _ {T K W : Type 0} (G : Alphabet T K W) (d : T) where
  -- the last symbol is d
  abbrev pub EndsIn : List T → Type 0
  EndsIn ts = (front : List T) × (ts ≡ front ++ d ∷ [])

  abbrev pub Anything : List T → Type 0
  Anything ts = Unit {0}

  -- what is left is so, or a symbol is refused
  abbrev pub Out : {A : Type 0} → (List T → Type 0) → Outcome T W A → Type 0
  Out left (Ok p) = left p.1
  Out left (Err f) = 0 < f.left

  -- of symbols that end in d the rule leaves what is so, or it refuses one of them
  pub record Caps {A : Type 0} (left : List T → Type 0) (r : Rule T K W A) : Type 0 where
    pub reads : (front : List T) → Out left (r.read (front ++ d ∷ []))

  module _ (left : List T → Type 0) where
    refused : (A : Type 0) (why : W) (front : List T) → Out {A = A} left (refuse G why (front ++ d ∷ []))
    refused A why front = omega (arith, length-append front (d ∷ []))

    out_cond : {A : Type 0} (b : Bool) (x y : Outcome T W A) → Out left x → Out left y → Out left (cond b x y)
    out_cond true x y f g = f
    out_cond false x y f g = g

    out_made : {A B : Type 0} (f : A → B) (o : Outcome T W A) → Out left o → Out left (and_then o (λ x rest. Ok (f x, rest)))
    out_made f (Ok p) h = h
    out_made f (Err r) h = h

    out_then : {A B : Type 0} (o : Outcome T W A) (k : A → List T → Outcome T W B) → Out EndsIn o → ((x : A) (front : List T) → Out left (k x (front ++ d ∷ []))) → Out left (and_then o k)
    out_then (Ok p) k h l = subst (λ (v : List T). Out left (k p.0 v)) (sym h.1) (l p.0 h.0)
    out_then (Err r) k h l = h

    pub caps_refusing : (A : Type 0) (why : W) (kinds : K → Bool) → Caps {A = A} left (refusing G why kinds)
    caps_refusing A why kinds = record { reads = λ front. refused A why front }

    pub caps_made : {A B : Type 0} (f : A → B) {a : Rule T K W A} → Caps left a → Caps left (made f a)
    caps_made f {a} ka = record { reads = λ front. out_made f (a.read (front ++ d ∷ [])) (ka.reads front) }

    pub caps_seq : {A B : Type 0} {a : Rule T K W A} {b : Rule T K W B} → Caps EndsIn a → Caps left b → Caps left (seq a b)
    caps_seq {A} {B} {a} {b} ka kb = record {
      reads = λ front. out_then (a.read (front ++ d ∷ [])) (λ x mid. and_then (b.read mid) (λ y rest. Ok ((x, y), rest))) (ka.reads front) (λ x rest. out_made (λ y. (x, y)) (b.read (rest ++ d ∷ [])) (kb.reads rest));
    }

    pub caps_after : {A B : Type 0} {a : Rule T K W A} {b : Rule T K W B} → Caps EndsIn a → Caps left b → Caps left (after a b)
    caps_after {A} {B} {a} {b} ka kb = caps_made (λ p. p.1) {a = seq a b} (caps_seq {a = a} {b = b} ka kb)

    pub caps_before : {A B : Type 0} {a : Rule T K W A} {b : Rule T K W B} → Caps EndsIn a → Caps left b → Caps left (before a b)
    caps_before {A} {B} {a} {b} ka kb = caps_made (λ p. p.0) {a = seq a b} (caps_seq {a = a} {b = b} ka kb)

    pub caps_either : {A : Type 0} {a b : Rule T K W A} → Caps left a → Caps left b → Caps left (either G a b)
    caps_either {A} {a} {b} ka kb = record { reads = λ front. out_cond (sees G a.begins (front ++ d ∷ [])) (a.read (front ++ d ∷ [])) (b.read (front ++ d ∷ [])) (ka.reads front) (kb.reads front) }

  -- ---- one symbol

  module _ {A : Type 0} (kinds : K → Bool) (value : T → Result A W) where
    valued_later : (x : T) (front : List T) (w : Result A W) → Out EndsIn (valued G w (x ∷ (front ++ d ∷ [])) (front ++ d ∷ []))
    valued_later x front (Ok y) = (front, refl)
    valued_later x front (Err why) = refused EndsIn A why (x ∷ front)

    -- one that isn't d
    pub caps_one : kinds (G.kind_of d) ≡ false → Caps EndsIn (one G kinds value)
    caps_one other = record { reads = go }
      where
        go : (front : List T) → Out EndsIn ((one G kinds value).read (front ++ d ∷ []))
        go [] = subst (λ (b : Bool). Out EndsIn (cond b (valued G (value d) (d ∷ []) []) (refuse G G.unexpected (d ∷ [])))) (sym other) (refused EndsIn A G.unexpected [])
        go (x ∷ front) = out_cond EndsIn (kinds (G.kind_of x)) (valued G (value x) (x ∷ (front ++ d ∷ [])) (front ++ d ∷ [])) (refuse G G.unexpected (x ∷ (front ++ d ∷ []))) (valued_later x front (value x)) (refused EndsIn A G.unexpected (x ∷ front))

  -- what leaves d leaves something
  out_any : {A : Type 0} (o : Outcome T W A) → Out EndsIn o → Out Anything o
  out_any (Ok p) h = tt
  out_any (Err r) h = h

  pub caps_any : {A : Type 0} {a : Rule T K W A} → Caps EndsIn a → Caps Anything a
  caps_any {A} {a} ka = record { reads = λ front. out_any (a.read (front ++ d ∷ [])) (ka.reads front) }

  -- d itself may be taken
  pub caps_token : (kind : K) → Caps Anything (token G kind)
  caps_token kind = record { reads = go }
    where
      go : (front : List T) → Out Anything ((token G kind).read (front ++ d ∷ []))
      go [] = out_cond Anything (G.is kind (G.kind_of d)) (Ok (tt, [])) (refuse G G.unexpected (d ∷ [])) tt (refused Anything (Unit {0}) G.unexpected [])
      go (x ∷ front) = out_cond Anything (G.is kind (G.kind_of x)) (Ok (tt, front ++ d ∷ [])) (refuse G G.unexpected (x ∷ (front ++ d ∷ []))) tt (refused Anything (Unit {0}) G.unexpected (x ∷ front))

  -- ---- parts that may be left out, and any number

  pub caps_opt : {A : Type 0} {a : Rule T K W A} → Caps EndsIn a → Caps EndsIn (opt G a)
  caps_opt {A} {a} ka = record {
    reads = λ front. out_cond EndsIn (sees G a.begins (front ++ d ∷ [])) (and_then (a.read (front ++ d ∷ [])) (λ x rest. Ok (Some x, rest))) _ (out_made EndsIn Some (a.read (front ++ d ∷ [])) (ka.reads front)) (front, refl);
  }

  module _ {S A : Type 0} (shape : Shape K) (rule : S → Rule T K W A) (step : S → A → S) (k : (s : S) → Caps EndsIn (rule s)) where
    from : (n : ℕ) (s : S) (front : List T) → Out EndsIn (read_from G shape.begins rule step n s (front ++ d ∷ []))
    unfolding read_from
    from zero s front = (front, refl)
    from (suc n) s front =
        out_cond EndsIn (sees G shape.begins (front ++ d ∷ [])) (and_then ((rule s).read (front ++ d ∷ [])) (λ x mid. and_then (read_from G shape.begins rule step n (step s x) mid) (λ xs rest. Ok (x ∷ xs, rest)))) _
        (out_then EndsIn ((rule s).read (front ++ d ∷ [])) (λ x mid. and_then (read_from G shape.begins rule step n (step s x) mid) (λ xs rest. Ok (x ∷ xs, rest))) ((k s).reads front)
        (λ x rest. out_made EndsIn (λ xs. x ∷ xs) (read_from G shape.begins rule step n (step s x) (rest ++ d ∷ [])) (from n (step s x) rest)))
        (front, refl)

    pub caps_many_from : (s : S) → Caps EndsIn (many_from G shape rule step s)
    caps_many_from s = record { reads = λ front. from (length (front ++ d ∷ [])) s front }

  pub caps_many : {A : Type 0} {a : Rule T K W A} → Caps EndsIn a → Caps EndsIn (many G a)
  caps_many {A} {a} ka = caps_many_from {S = Unit {0}} (shape_of a) (λ s. a) (λ s x. s) (λ s. ka) tt

  pub caps_chain : {A : Type 0} (mark : K) {a : Rule T K W A} → G.is mark (G.kind_of d) ≡ false → Caps EndsIn a → Caps EndsIn (chain G mark a)
  caps_chain {A} mark {a} other ka =
      caps_made EndsIn (λ p. p.0 ∷ p.1) {a = seq a (many G (after (token G mark) a))}
      (caps_seq EndsIn {a = a} {b = many G (after (token G mark) a)} ka (caps_many {a = after (token G mark) a} (caps_after EndsIn {a = token G mark} {b = a} (caps_one (G.is mark) (λ t. Ok tt) other) ka)))
