-- What is read, and what is refused, depends on no symbol after the one that comes next.
use Rattle.std.proofs.Common.{◌≡◌, ℕ, zero, suc, ◌<◌, ◌≤◌, Bool, true, false, cond, List, [], ◌∷◌, ◌++◌, length, Option, Some, None, Result, Ok, Err, refl, sym, ap, ◌∙◌, subst, arith, append_assoc, length-append}
use Rattle.fx_rules.specs.Rule.{Alphabet, Settled, Outcome, and_then, refuse, why_at, IsFitting, Rule, sees, one, read_one, valued, made, Shape, Shaped, then_by, either, opt, many_from, read_from, refusing}
use Rattle.fx_rules.proofs.RuleLaws.{Lawful, Shortens, shortens_from, turn_of, turn_is}

-- Two lists that are alike up to a symbol t, and may differ behind it. What is read of the one before t, or refused at t or before,
-- is read of the other, or refused there, in the same way.
abbrev pub Alike : {T W A : Type 0} → T → List T → List T → Outcome T W A → Outcome T W A → Type 0
Alike {T} t u v (Ok p) o = (mid : List T) → p.1 ≡ mid ++ t ∷ u → o ≡ Ok (p.0, mid ++ t ∷ v)
Alike {T} t u v (Err r) o = (mid : List T) → r.left ≡ length (mid ++ t ∷ u) → o ≡ Err (record { why = r.why; left = length (mid ++ t ∷ v) })

cut : {T : Type 0} (front rest mid u : List T) (t : T) → front ++ t ∷ u ≡ mid ++ rest → length (t ∷ u) ≤ length rest → (more : List T) × (front ≡ mid ++ more) × (rest ≡ more ++ t ∷ u)
cut front rest [] u t e h = (front, refl, sym e)
cut [] rest (x ∷ mid) u t e h =
    let f : length (t ∷ u) ≡ length (x ∷ (mid ++ rest)) = ap length e in absurd (omega (arith, length-append mid rest))
cut (y ∷ front) rest (x ∷ mid) u t e h =
    let p = cut front rest mid u t (cc) h in (p.0, (let same : y ≡ x = cc in rw same (ap (λ v. x ∷ v) p.1)), p.2)

-- lists of one length before one list
pub same_length : {T : Type 0} (f m w : List T) → f ++ w ≡ m ++ w → length f ≡ length m
same_length f m w e = let g : length (f ++ w) ≡ length (m ++ w) = ap length e in omega (arith, length-append f w, length-append m w)

pub cancel : {T : Type 0} (f m w : List T) → length f ≡ length m → f ++ w ≡ m ++ w → f ≡ m
cancel [] [] w h e = refl
cancel [] (y ∷ m) w h e = absurd (omega arith)
cancel (x ∷ f) [] w h e = absurd (omega arith)
cancel (x ∷ f) (y ∷ m) w h e = let same : x ≡ y = cc in rw (same, cancel f m w (omega arith) (cc)) refl

alike_cond : {T W A : Type 0} (t : T) (u v : List T) (b c : Bool) (x y x' y' : Outcome T W A) → b ≡ c → Alike t u v x x' → Alike t u v y y' → Alike t u v (cond b x y) (cond c x' y')
alike_cond t u v true true x y x' y' e f g = f
alike_cond t u v false false x y x' y' e f g = g
alike_cond t u v true false x y x' y' e f g = absurd (cc)
alike_cond t u v false true x y x' y' e f g = absurd (cc)

module _ {T K W : Type 0} (G : Alphabet T K W) where
  -- what is left is an end of what was given, and a reason fits it
  abbrev pub Leaves : {A : Type 0} → List T → Outcome T W A → Type 0
  Leaves ts (Ok p) = (front : List T) × (ts ≡ front ++ p.1)
  Leaves ts (Err r) = (front rest : List T) × (ts ≡ front ++ rest) × (r.left ≡ length rest) × IsFitting G r.why rest

  pub record Local {A : Type 0} (r : Rule T K W A) : Type 0 where
    pub leaves : (ts : List T) → Leaves ts (r.read ts)
    pub alike : (t : T) (u v front : List T) → Alike t u v (r.read (front ++ t ∷ u)) (r.read (front ++ t ∷ v))

  -- ---- ends of lists

  sees_alike : (p : K → Bool) (t : T) (u v front : List T) → sees G p (front ++ t ∷ u) ≡ sees G p (front ++ t ∷ v)
  sees_alike p t u v [] = refl
  sees_alike p t u v (x ∷ front) = refl

  -- ---- a choice that both make alike, a refusal or a value at the front

  leaves_cond : {A : Type 0} (ts : List T) (b : Bool) (x y : Outcome T W A) → Leaves ts x → Leaves ts y → Leaves ts (cond b x y)
  leaves_cond ts true x y f g = f
  leaves_cond ts false x y f g = g

  why_alike : (why : W) (t : T) (u v front : List T) → why_at G why (front ++ t ∷ u) ≡ why_at G why (front ++ t ∷ v)
  why_alike why t u v [] = refl
  why_alike why t u v (x ∷ front) = refl

  pub refused_alike : (A : Type 0) (why : W) (t : T) (u v front : List T) → Alike {A = A} t u v (refuse G why (front ++ t ∷ u)) (refuse G why (front ++ t ∷ v))
  refused_alike A why t u v front = λ mid e.
      let same : length (front ++ t ∷ v) ≡ length (mid ++ t ∷ v) = omega (arith, length-append front (t ∷ u), length-append mid (t ∷ u), length-append front (t ∷ v), length-append mid (t ∷ v)) in
      rw (same, why_alike why t u v front) refl

  -- nothing is taken
  here_alike : (A : Type 0) (x : A) (t : T) (u v front : List T) → Alike {W = W} {A = A} t u v (Ok (x, front ++ t ∷ u)) (Ok (x, front ++ t ∷ v))
  here_alike A x t u v front = λ mid e. ap (λ m. Ok (x, m ++ t ∷ v)) (cancel front mid (t ∷ u) (same_length front mid (t ∷ u) e) e)

  -- the symbol itself is taken
  past_alike : (A : Type 0) (x : A) (t : T) (u v : List T) → Alike {W = W} {A = A} t u v (Ok (x, u)) (Ok (x, v))
  past_alike A x t u v = λ mid e. let f : length u ≡ length (mid ++ t ∷ u) = ap length e in absurd (omega (arith, length-append mid (t ∷ u)))

  -- ---- one symbol

  module _ {A : Type 0} (kinds : K → Bool) (value : T → Result A W) where
    valued_alike : (t : T) (u v : List T) (w : Result A W) → Alike t u v (valued G w (t ∷ u) u) (valued G w (t ∷ v) v)
    valued_alike t u v (Ok x) = past_alike A x t u v
    valued_alike t u v (Err why) = refused_alike A why t u v []

    valued_later : (x t : T) (u v front : List T) (w : Result A W) → Alike t u v (valued G w (x ∷ (front ++ t ∷ u)) (front ++ t ∷ u)) (valued G w (x ∷ (front ++ t ∷ v)) (front ++ t ∷ v))
    valued_later x t u v front (Ok y) = here_alike A y t u v front
    valued_later x t u v front (Err why) = refused_alike A why t u v (x ∷ front)

    one_alike : (t : T) (u v front : List T) → Alike t u v (read_one G kinds value (front ++ t ∷ u)) (read_one G kinds value (front ++ t ∷ v))
    one_alike t u v [] =
        alike_cond t u v (kinds (G.kind_of t)) (kinds (G.kind_of t)) (valued G (value t) (t ∷ u) u) (refuse G G.unexpected (t ∷ u)) (valued G (value t) (t ∷ v) v) (refuse G G.unexpected (t ∷ v)) refl
        (valued_alike t u v (value t)) (refused_alike A G.unexpected t u v [])
    one_alike t u v (x ∷ front) =
        alike_cond t u v (kinds (G.kind_of x)) (kinds (G.kind_of x)) (valued G (value x) (x ∷ (front ++ t ∷ u)) (front ++ t ∷ u)) (refuse G G.unexpected (x ∷ (front ++ t ∷ u))) (valued G (value x) (x ∷ (front ++ t ∷ v)) (front ++ t ∷ v)) (refuse G G.unexpected (x ∷ (front ++ t ∷ v))) refl
        (valued_later x t u v front (value x)) (refused_alike A G.unexpected t u v (x ∷ front))

  -- ---- one after the other

  pub leaves_then : {A C : Type 0} (ts : List T) (o : Outcome T W A) (k : A → List T → Outcome T W C) → Leaves ts o → ((x : A) (mid : List T) → Leaves mid (k x mid)) → Leaves ts (and_then o k)
  leaves_then {A} {C} ts (Ok p) k h l = go (k p.0 p.1) (l p.0 p.1)
    where
      go : (o : Outcome T W C) → Leaves p.1 o → Leaves ts o
      go (Ok q) g = (h.0 ++ g.0, h.1 ∙ ap (λ v. h.0 ++ v) g.1 ∙ sym (append_assoc h.0 g.0 q.1))
      go (Err r) g = (h.0 ++ g.0, g.1, h.1 ∙ ap (λ v. h.0 ++ v) g.2 ∙ sym (append_assoc h.0 g.0 g.1), g.3, g.4)
  leaves_then ts (Err r) k h l = h

  module _ {A C : Type 0} (t : T) (u v front : List T) (k : A → List T → Outcome T W C) where
    after_ok : (p : A × List T) (o' : Outcome T W A) → ((mid : List T) → p.1 ≡ mid ++ t ∷ u → o' ≡ Ok (p.0, mid ++ t ∷ v)) → (fa : List T) → front ++ t ∷ u ≡ fa ++ p.1
        → ((m : List T) → p.1 ≡ m ++ t ∷ u → Alike t u v (k p.0 (m ++ t ∷ u)) (k p.0 (m ++ t ∷ v)))
        → (o : Outcome T W C) → k p.0 p.1 ≡ o → Leaves p.1 o → Alike t u v o (and_then o' k)
    after_ok p o' h fa e0 al (Ok q) eq l = λ mid e.
        let m = l.0 ++ mid in
        let e1 : p.1 ≡ m ++ t ∷ u = l.1 ∙ ap (λ w. l.0 ++ w) e ∙ sym (append_assoc l.0 mid (t ∷ u)) in
        let here : k p.0 (m ++ t ∷ u) ≡ Ok q = ap (k p.0) (sym e1) ∙ eq in
        let a : Alike t u v (Ok q) (k p.0 (m ++ t ∷ v)) = subst (λ (w : Outcome T W C). Alike t u v w (k p.0 (m ++ t ∷ v))) here (al m e1) in
        rw (h m e1) (a mid e)
    after_ok p o' h fa e0 al (Err r) eq l = λ mid e.
        let long : length (t ∷ u) ≤ length p.1 = let g : length p.1 ≡ length (l.0 ++ l.1) = ap length l.2 in omega (arith, length-append l.0 l.1, length-append mid (t ∷ u), l.3) in
        let c = cut front p.1 fa u t e0 long in
        let m = c.0 in
        let e1 : p.1 ≡ m ++ t ∷ u = c.2 in
        let here : k p.0 (m ++ t ∷ u) ≡ Err r = ap (k p.0) (sym e1) ∙ eq in
        let a : Alike t u v (Err r) (k p.0 (m ++ t ∷ v)) = subst (λ (w : Outcome T W C). Alike t u v w (k p.0 (m ++ t ∷ v))) here (al m e1) in
        rw (h m e1) (a mid e)

    pub then_alike : (o o' : Outcome T W A) → Alike t u v o o' → Leaves (front ++ t ∷ u) o → ((x : A) (ts : List T) → Leaves ts (k x ts))
        → ((x : A) (m : List T) → o ≡ Ok (x, m ++ t ∷ u) → Alike t u v (k x (m ++ t ∷ u)) (k x (m ++ t ∷ v))) → Alike t u v (and_then o k) (and_then o' k)
    then_alike (Ok p) o' h l lk al = after_ok p o' h l.0 l.1 (λ m e. al p.0 m (ap (λ r. Ok (p.0, r)) e)) (k p.0 p.1) refl (lk p.0 p.1)
    then_alike (Err r) o' h l lk al = λ mid e. rw (h mid e) refl

  module _ {A B : Type 0} (f : A → B) where
    made_alike : (t : T) (u v : List T) (o o' : Outcome T W A) → Alike t u v o o' → Alike t u v (and_then o (λ x rest. Ok (f x, rest))) (and_then o' (λ x rest. Ok (f x, rest)))
    made_alike t u v (Ok p) o' h = λ mid e. rw (h mid e) refl
    made_alike t u v (Err r) o' h = λ mid e. rw (h mid e) refl

    made_leaves : (ts : List T) (o : Outcome T W A) → Leaves ts o → Leaves ts (and_then o (λ x rest. Ok (f x, rest)))
    made_leaves ts (Ok p) h = h
    made_leaves ts (Err r) h = h

    pub local_made : (a : Rule T K W A) → Local a → Local (made f a)
    local_made a l = record { leaves = λ ts. made_leaves ts (a.read ts) (l.leaves ts); alike = λ t u v front. made_alike t u v (a.read (front ++ t ∷ u)) (a.read (front ++ t ∷ v)) (l.alike t u v front) }

  module _ {A B : Type 0} (a : Rule T K W A) (shape : Shape K) (b : A → Rule T K W B) (la : Local a) (lb : (x : A) → Local (b x)) where
    abbrev second : A → List T → Outcome T W (A × B)
    second x mid = and_then ((b x).read mid) (λ y rest. Ok ((x, y), rest))

    second_leaves : (x : A) (ts : List T) → Leaves ts (second x ts)
    second_leaves x ts = made_leaves (λ y. (x, y)) ts ((b x).read ts) ((lb x).leaves ts)

    pub local_then_by : Local (then_by a shape b)
    local_then_by = record {
      leaves = λ ts. leaves_then ts (a.read ts) second (la.leaves ts) second_leaves;
      alike = λ t u v front. then_alike t u v front second (a.read (front ++ t ∷ u)) (a.read (front ++ t ∷ v)) (la.alike t u v front) (la.leaves (front ++ t ∷ u)) second_leaves
          (λ x m e. made_alike (λ y. (x, y)) t u v ((b x).read (m ++ t ∷ u)) ((b x).read (m ++ t ∷ v)) ((lb x).alike t u v m));
    }

  pub local_either : {A : Type 0} (a b : Rule T K W A) → Local a → Local b → Local (either G a b)
  local_either a b la lb = record {
    leaves = λ ts. leaves_cond ts (sees G a.begins ts) (a.read ts) (b.read ts) (la.leaves ts) (lb.leaves ts);
    alike = λ t u v front. alike_cond t u v _ _ _ _ _ _ (sees_alike a.begins t u v front) (la.alike t u v front) (lb.alike t u v front);
  }

  pub local_opt : {A : Type 0} (a : Rule T K W A) → Local a → Local (opt G a)
  local_opt {A} a la = record {
    leaves = λ ts. leaves_cond ts (sees G a.begins ts) (and_then (a.read ts) (λ x rest. Ok (Some x, rest))) (Ok (None, ts)) (made_leaves Some ts (a.read ts) (la.leaves ts)) ([], refl);
    alike = λ t u v front. alike_cond t u v _ _ _ _ _ _ (sees_alike a.begins t u v front) (made_alike Some t u v (a.read (front ++ t ∷ u)) (a.read (front ++ t ∷ v)) (la.alike t u v front)) (here_alike (Option A) None t u v front);
  }

  -- ---- any number, each under what those before it left

  module _ {S A : Type 0} (shape : Shape K) (rule : S → Rule T K W A) (step : S → A → S) (l : (s : S) → Local (rule s)) (law : (s : S) → Lawful G (rule s)) (fits : (s : S) → Shaped shape (rule s)) (na : shape.empty ≡ false) where
    abbrev all_from : S → Rule T K W (List A)
    all_from s = many_from G shape rule step s

    abbrev rest_of : S → A → List T → Outcome T W (List A)
    rest_of s x mid = and_then ((all_from (step s x)).read mid) (λ xs rest. Ok (x ∷ xs, rest))

    from_leaves : (n : ℕ) (s : S) (ts : List T) → Leaves ts (read_from G shape.begins rule step n s ts)
    unfolding read_from
    from_leaves zero s ts = ([], refl)
    from_leaves (suc n) s ts =
        leaves_cond ts (sees G shape.begins ts) (and_then ((rule s).read ts) (λ x mid. and_then (read_from G shape.begins rule step n (step s x) mid) (λ xs rest. Ok (x ∷ xs, rest)))) (Ok ([], ts))
        (leaves_then ts ((rule s).read ts) (λ x mid. and_then (read_from G shape.begins rule step n (step s x) mid) (λ xs rest. Ok (x ∷ xs, rest))) ((l s).leaves ts)
        (λ x mid. made_leaves (λ xs. x ∷ xs) mid (read_from G shape.begins rule step n (step s x) mid) (from_leaves n (step s x) mid)))
        ([], refl)

    rest_leaves : (s : S) (x : A) (ts : List T) → Leaves ts (rest_of s x ts)
    rest_leaves s x ts = made_leaves (λ xs. x ∷ xs) ts ((all_from (step s x)).read ts) (from_leaves (length ts) (step s x) ts)

    shorter : (s : S) (front m u : List T) (t : T) (x : A) → (rule s).read (front ++ t ∷ u) ≡ Ok (x, m ++ t ∷ u) → length m < length front
    shorter s front m u t x e =
        let h : length (m ++ t ∷ u) < length (front ++ t ∷ u) = subst (Shortens (front ++ t ∷ u)) e (shortens_from G shape rule step law fits na s (front ++ t ∷ u)) in
        omega (arith, length-append m (t ∷ u), length-append front (t ∷ u))

    is_turn : (s : S) (ts : List T) → (all_from s).read ts ≡ turn_of G shape rule step law fits na s ts
    is_turn s ts = turn_is G shape rule step law fits na s ts

    from_alike : (n : ℕ) (s : S) (t : T) (u v front : List T) → length front ≤ n → Alike t u v ((all_from s).read (front ++ t ∷ u)) ((all_from s).read (front ++ t ∷ v))
    unfolding turn_of
    from_alike zero s t u v front b = rw (is_turn s (front ++ t ∷ u), is_turn s (front ++ t ∷ v)) (
        alike_cond t u v _ _ _ _ _ _ (sees_alike shape.begins t u v front)
        (then_alike t u v front (rest_of s) ((rule s).read (front ++ t ∷ u)) ((rule s).read (front ++ t ∷ v)) ((l s).alike t u v front) ((l s).leaves (front ++ t ∷ u)) (rest_leaves s) (λ x m e. absurd (omega (arith, shorter s front m u t x e))))
        (here_alike (List A) [] t u v front))
    from_alike (suc n) s t u v front b = rw (is_turn s (front ++ t ∷ u), is_turn s (front ++ t ∷ v)) (
        alike_cond t u v _ _ _ _ _ _ (sees_alike shape.begins t u v front)
        (then_alike t u v front (rest_of s) ((rule s).read (front ++ t ∷ u)) ((rule s).read (front ++ t ∷ v)) ((l s).alike t u v front) ((l s).leaves (front ++ t ∷ u)) (rest_leaves s)
        (λ x m e. made_alike (λ xs. x ∷ xs) t u v ((all_from (step s x)).read (m ++ t ∷ u)) ((all_from (step s x)).read (m ++ t ∷ v)) (from_alike n (step s x) t u v m (omega (arith, shorter s front m u t x e)))))
        (here_alike (List A) [] t u v front))

    pub local_many_from : (s : S) → Local (many_from G shape rule step s)
    local_many_from s = record { leaves = λ ts. from_leaves (length ts) s ts; alike = λ t u v front. from_alike (length front) s t u v front (omega arith) }

  -- ---- one symbol, and refusals at the front, where a reason stays what it is

  module _ (settled : Settled G) where
    pub leaves_refused : (A : Type 0) (t : T) (ts : List T) (why : W) → Leaves {A = A} (t ∷ ts) (refuse G why (t ∷ ts))
    leaves_refused A t ts why = ([], t ∷ ts, refl, refl, settled why (G.kind_of t))

    pub leaves_unexpected : (A : Type 0) (ts : List T) → Leaves {A = A} ts (refuse G G.unexpected ts)
    leaves_unexpected A [] = ([], [], refl, refl, refl)
    leaves_unexpected A (t ∷ ts) = leaves_refused A t ts G.unexpected

    module _ {A : Type 0} (kinds : K → Bool) (value : T → Result A W) where
      valued_leaves : (t : T) (ts : List T) (w : Result A W) → Leaves (t ∷ ts) (valued G w (t ∷ ts) ts)
      valued_leaves t ts (Ok x) = (t ∷ [], refl)
      valued_leaves t ts (Err why) = leaves_refused A t ts why

      one_leaves : (ts : List T) → Leaves ts (read_one G kinds value ts)
      one_leaves [] = leaves_unexpected A []
      one_leaves (t ∷ ts) = leaves_cond (t ∷ ts) (kinds (G.kind_of t)) (valued G (value t) (t ∷ ts) ts) (refuse G G.unexpected (t ∷ ts)) (valued_leaves t ts (value t)) (leaves_unexpected A (t ∷ ts))

      pub local_one : Local (one G kinds value)
      local_one = record { leaves = one_leaves; alike = one_alike kinds value }

    pub local_refusing : (A : Type 0) (why : W) (kinds : K → Bool) → Local (refusing G {A = A} why kinds)
    local_refusing A why kinds = record {
      leaves = refused_leaves;
      alike = λ t u v front. go t u v front _ _ (sees_alike kinds t u v front);
    }
      where
        refused_leaves : (ts : List T) → Leaves {A = A} ts (refuse G (cond (sees G kinds ts) why G.unexpected) ts)
        refused_leaves [] = leaves_unexpected A []
        refused_leaves (t ∷ ts) = leaves_refused A t ts (cond (sees G kinds (t ∷ ts)) why G.unexpected)

        go : (t : T) (u v front : List T) (b c : Bool) → b ≡ c → Alike {A = A} t u v (refuse G (cond b why G.unexpected) (front ++ t ∷ u)) (refuse G (cond c why G.unexpected) (front ++ t ∷ v))
        go t u v front true true e = refused_alike A why t u v front
        go t u v front false false e = refused_alike A G.unexpected t u v front
        go t u v front true false e = absurd (cc)
        go t u v front false true e = absurd (cc)
