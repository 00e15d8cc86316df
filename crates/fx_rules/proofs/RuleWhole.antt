-- All the symbols are read exactly where they are spelled, and refused exactly where they stop; and a refusal stays one.
use Rattle.std.proofs.Common.{◌≡◌, ◌⊎◌, inl, inr, List, [], ◌∷◌, ◌++◌, length, Ok, Err, refl, sym, ap, ◌∙◌, subst, append-nil, ◌≤◌, arith, length-append}
use Rattle.fx_rules.specs.Rule.{Alphabet, Settled, Outcome, Refusal, refused_at, and_then, Rule, to_end, read_whole, stops_whole, ReadAsSpelled, RefusedAsStopped, SpelledOrStopped, EndsAsSpelled, RefusedForGood, RefusedTheSame, RefusedFitly, IsFitting}
use Rattle.fx_rules.proofs.RuleLaws.{Sound, Lawful}
use Rattle.fx_rules.proofs.RuleLocal.{Local, Alike, Leaves, then_alike, leaves_then, leaves_unexpected, refused_alike}
use Rattle.fx_rules.proofs.RuleStops.{Tells, Exact, spelled}

value_of : {T W A : Type 0} → A → Outcome T W A → A
value_of d (Ok p) = p.0
value_of d (Err r) = d

pub same_value : {T W A : Type 0} (o : Outcome T W A) (x y : A) (ts us : List T) → o ≡ Ok (x, ts) → o ≡ Ok (y, us) → x ≡ y
unfolding value_of
same_value o x y ts us e f = ap (value_of x) (sym e ∙ f)

rest_of : {T W A : Type 0} → Outcome T W A → List T
rest_of (Ok p) = p.1
rest_of (Err r) = []

same_rest : {T W A : Type 0} (o : Outcome T W A) (x y : A) (ts us : List T) → o ≡ Ok (x, ts) → o ≡ Ok (y, us) → ts ≡ us
unfolding rest_of
same_rest o x y ts us e f = ap rest_of (sym e ∙ f)

module _ {T K W : Type 0} (G : Alphabet T K W) where
  module _ {A : Type 0} (r : Rule T K W A) (l : Lawful G r) (ts : List T) where
    found_at : (x y : A) (rest : List T) → (front : List T) × (ts ≡ front ++ rest) × r.spells front x → to_end G x rest ≡ Ok (y, []) → r.spells ts y
    unfolding to_end
    found_at x y [] h e =
        let P : A → Type 0 = λ v. r.spells ts v in
        let Q : List T → Type 0 = λ v. r.spells v x in
        subst P (same_value (to_end G x []) x y [] [] refl e) (subst Q (sym (h.1 ∙ append-nil h.0)) h.2)
    found_at x y (t ∷ rest) h e = absurd (cc)

    found_in : (o : Outcome T W A) (y : A) → Sound r.spells ts o → and_then o (to_end G) ≡ Ok (y, []) → r.spells ts y
    found_in (Ok p) y h e = found_at p.0 y p.1 h e
    found_in (Err f) y h e = absurd (cc)

    pub whole_found : (y : A) → read_whole G r ts ≡ Ok (y, []) → r.spells ts y
    unfolding read_whole
    whole_found y e = found_in (r.read ts) y (l.sound ts) e

    pub whole_read : (g : A) → r.spells ts g → read_whole G r ts ≡ Ok (g, [])
    unfolding read_whole to_end
    whole_read g s = rw (subst (λ (v : List T). r.read v ≡ Ok (g, [])) (append-nil ts) (l.complete ts [] g s refl)) refl

  pub read_as_spelled : {A : Type 0} (r : Rule T K W A) → Lawful G r → ReadAsSpelled G r
  read_as_spelled r l = (λ ts x e. whole_found r l ts x e, λ ts x s. whole_read r l ts x s)

  module _ {A : Type 0} (r : Rule T K W A) (law : Lawful G r) (exact : Exact G r) where
    stopped_at : (ts : List T) (f : Refusal W) (y : A) (front rest : List T) → ts ≡ front ++ rest → r.ends front y rest → to_end G y rest ≡ Err f → stops_whole G r ts f
    unfolding to_end
    stopped_at ts f y front [] e h s = absurd (cc)
    stopped_at ts f y front (t ∷ rest) e h s = inr (y, front, t, rest, e, h, cc s)

    stopped_in : (ts : List T) (f : Refusal W) (o : Outcome T W A) → Tells r.ends r.stops ts o → and_then o (to_end G) ≡ Err f → stops_whole G r ts f
    stopped_in ts f (Ok p) h s = stopped_at ts f p.0 h.0 p.1 h.1 h.2 s
    stopped_in ts f (Err g) h s = inl (let same : g ≡ f = cc s in subst (r.stops ts) same h)

    pub whole_stopped : (ts : List T) (f : Refusal W) → read_whole G r ts ≡ Err f → stops_whole G r ts f
    unfolding read_whole
    whole_stopped ts f s = stopped_in ts f (r.read ts) (exact.tells ts) s

    pub whole_refused : (ts : List T) (f : Refusal W) → stops_whole G r ts f → read_whole G r ts ≡ Err f
    unfolding read_whole to_end
    whole_refused ts f (inl h) = rw (exact.stops ts f h) refl
    whole_refused ts f (inr h) = rw h.6 (rw (h.4, exact.ends h.1 (h.2 ∷ h.3) h.0 h.5) refl)

    pub refused_as_stopped : RefusedAsStopped G r
    refused_as_stopped = (whole_stopped, whole_refused)

    ended_at : (ts : List T) (y : A) (front rest : List T) → ts ≡ front ++ rest → r.ends front y rest → ((x : A) × r.spells ts x) ⊎ ((f : Refusal W) × stops_whole G r ts f)
    ended_at ts y front [] e h = inl (y, subst (λ (v : List T). r.spells v y) (sym (e ∙ append-nil front)) (spelled G r law exact front [] y h))
    ended_at ts y front (t ∷ rest) e h = inr (refused_at G G.unexpected (t ∷ rest), inr (y, front, t, rest, e, h, refl))

    ended_in : (ts : List T) (o : Outcome T W A) → Tells r.ends r.stops ts o → ((x : A) × r.spells ts x) ⊎ ((f : Refusal W) × stops_whole G r ts f)
    ended_in ts (Ok p) h = ended_at ts p.0 h.0 p.1 h.1 h.2
    ended_in ts (Err f) h = inr (f, inl h)

    pub spelled_or_stopped : SpelledOrStopped G r
    spelled_or_stopped = record {
      one_at_least = λ ts. ended_in ts (r.read ts) (exact.tells ts);
      not_both = λ ts y f s t. let a = whole_read r law ts y s in let b = whole_refused ts f t in cc (a, b);
      one_value = λ ts y z s t. same_value (read_whole G r ts) y z [] [] (whole_read r law ts y s) (whole_read r law ts z t);
      one_refusal = λ ts f g s t. let a = whole_refused ts f s in let b = whole_refused ts g t in cc (a, b);
    }

  module _ (settled : Settled G) {A : Type 0} (r : Rule T K W A) (law : Lawful G r) (l : Local G r) where
    end_leaves : (x : A) (ts : List T) → Leaves G ts (to_end G x ts)
    unfolding to_end
    end_leaves x [] = ([], refl)
    end_leaves x (t ∷ ts) = leaves_unexpected G settled A (t ∷ ts)

    end_alike : (t : T) (u v : List T) (x : A) (m : List T) → Alike t u v (to_end G x (m ++ t ∷ u)) (to_end G x (m ++ t ∷ v))
    unfolding to_end
    end_alike t u v x [] = refused_alike G A G.unexpected t u v []
    end_alike t u v x (y ∷ m) = refused_alike G A G.unexpected t u v (y ∷ m)

    whole_alike : (t : T) (u v front : List T) → Alike t u v (read_whole G r (front ++ t ∷ u)) (read_whole G r (front ++ t ∷ v))
    unfolding read_whole
    whole_alike t u v front =
        then_alike G t u v front (to_end G) (r.read (front ++ t ∷ u)) (r.read (front ++ t ∷ v)) (l.alike t u v front) (l.leaves (front ++ t ∷ u)) end_leaves (λ x m e. end_alike t u v x m)

    within_by : (ts : List T) (o : Outcome T W A) (f : Refusal W) → Leaves G ts o → o ≡ Err f → f.left ≤ length ts
    within_by ts (Ok p) f h e = absurd (cc)
    within_by ts (Err g) f h e =
        let same : g ≡ f = cc e in
        let long : length ts ≡ length (h.0 ++ h.1) = ap length h.2 in
        let left : g.left ≡ f.left = ap (λ (x : Refusal W). x.left) same in
        omega (arith, length-append h.0 h.1, h.3, long, left)

    -- a refusal stands within the symbols, or behind the last
    pub left_within : (ts : List T) (f : Refusal W) → read_whole G r ts ≡ Err f → f.left ≤ length ts
    unfolding read_whole
    left_within ts f e = within_by ts (and_then (r.read ts) (to_end G)) f (leaves_then G ts (r.read ts) (to_end G) (l.leaves ts) end_leaves) e

    refused_again : (t : T) (u v front : List T) (f : Refusal W) (x : A) → read_whole G r (front ++ t ∷ u) ≡ Err f → f.left ≡ length (t ∷ u) → read_whole G r (front ++ t ∷ v) ≡ Ok (x, []) → ⊥
    refused_again t u v front f x e h g =
        let a : Alike t u v (Err f) (read_whole G r (front ++ t ∷ v)) = subst (λ (o : Outcome T W A). Alike t u v o (read_whole G r (front ++ t ∷ v))) e (whole_alike t u v front) in
        let b = a [] h in cc (b, g)

    module _ (exact : Exact G r) where
      -- what ends before a symbol is read up to it, whatever stands behind it
      no_longer : (front rest other : List T) (t : T) (x y : A) → r.ends front x (t ∷ rest) → r.spells (front ++ t ∷ other) y → ⊥
      no_longer front rest other t x y h s =
          let a : Alike t rest other (Ok (x, t ∷ rest)) (r.read (front ++ t ∷ other)) = subst (λ (o : Outcome T W A). Alike t rest other o (r.read (front ++ t ∷ other))) (exact.ends front (t ∷ rest) x h) (l.alike t rest other front) in
          let b : r.read (front ++ t ∷ other) ≡ Ok (y, []) = subst (λ (v : List T). r.read v ≡ Ok (y, [])) (append-nil (front ++ t ∷ other)) (law.complete (front ++ t ∷ other) [] y s refl) in
          let e : t ∷ other ≡ [] = same_rest (r.read (front ++ t ∷ other)) x y (t ∷ other) [] (a [] refl) b in cc

      pub ends_as_spelled : EndsAsSpelled r
      ends_as_spelled = (spelled G r law exact, no_longer)

      pub refused_for_good : RefusedForGood G r
      refused_for_good symbols refusal e = λ front rest t is h other x s.
          refused_again t rest other front refusal x (ap (read_whole G r) (sym is) ∙ whole_refused r law exact symbols refusal e) h (whole_read r law (front ++ t ∷ other) x s)

      pub refused_the_same : RefusedTheSame G r
      refused_the_same symbols refusal e = λ front rest t is h other.
          let a : Alike t rest other (Err refusal) (read_whole G r (front ++ t ∷ other)) = subst (λ (o : Outcome T W A). Alike t rest other o (read_whole G r (front ++ t ∷ other))) (ap (read_whole G r) (sym is) ∙ whole_refused r law exact symbols refusal e) (whole_alike t rest other front) in
          whole_stopped r law exact (front ++ t ∷ other) (record { why = refusal.why; left = length (t ∷ other) }) (a [] h)

      fit_by : (ts : List T) (o : Outcome T W A) (f : Refusal W) → Leaves G ts o → o ≡ Err f → (front rest : List T) × (ts ≡ front ++ rest) × (f.left ≡ length rest) × IsFitting G f.why rest
      fit_by ts (Ok p) f h e = absurd (cc)
      fit_by ts (Err g) f h e =
          let same : g ≡ f = cc e in
          subst (λ (x : Refusal W). (front rest : List T) × (ts ≡ front ++ rest) × (x.left ≡ length rest) × IsFitting G x.why rest) same h

      pub refused_fitly : RefusedFitly G r
      unfolding read_whole
      refused_fitly ts f e = fit_by ts (and_then (r.read ts) (to_end G)) f (leaves_then G ts (r.read ts) (to_end G) (l.leaves ts) end_leaves) (whole_refused r law exact ts f e)
