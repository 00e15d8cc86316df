-- Any number of parts, read in windows, one after the other: where nothing goes on with a part, what the windows spell and where one of them stops is what the
-- whole spells, and where it stops.
use Rattle.std.proofs.Common.{◌≡◌, ◌∙◌, ap, sym, subst, refl, Bool, false, inl, inr, List, [], ◌∷◌, ◌++◌, Ok, append_assoc}
use Rattle.fx_rules.specs.Rule.{Alphabet, Refusal, Rule, Shape, sees, many_from, spells_from, ends_from, stops_from, stops_whole}
use Rattle.fx_rules.proofs.RuleKept.{Kept}
use Rattle.fx_rules.proofs.RuleLocal.{cancel, same_length}
use Rattle.fx_rules.proofs.RuleStops.{Tells}

-- the state behind what was read
abbrev pub behind : {S A : Type 0} → (S → A → S) → S → List A → S
behind step s [] = s
behind step s (x ∷ xs) = behind step (step s x) xs

module _ {T K W : Type 0} (G : Alphabet T K W) where
  pub sees_none : (p : K → Bool) (ts : List T) → ((kind : K) → p kind ≡ false) → sees G p ts ≡ false
  sees_none p [] none = refl
  sees_none p (t ∷ ts) none = none (G.kind_of t)

  -- what goes on with nothing ends wherever it is spelled
  module _ {A : Type 0} (r : Rule T K W A) (k : Kept G r) (none : (kind : K) → r.goes_on kind ≡ false) where
    pub ends_there : (front rest : List T) (x : A) → r.spells front x → r.ends front x rest
    ends_there front rest x h =
        let read : r.read (front ++ rest) ≡ Ok (x, rest) = k.law.complete front rest x h (sees_none r.goes_on rest none) in
        let t : Tells {W = W} r.ends r.stops (front ++ rest) (Ok (x, rest)) = subst (Tells {W = W} r.ends r.stops (front ++ rest)) read (k.exact.tells (front ++ rest)) in
        subst (λ (v : List T). r.ends v x rest) (sym (cancel front t.0 rest (same_length front t.0 rest t.1) t.1)) t.2

  module _ {S A : Type 0} (shape : Shape K) (rule : S → Rule T K W A) (step : S → A → S) (k : (s : S) → Kept G (rule s)) (none : (s : S) (kind : K) → (rule s).goes_on kind ≡ false) where
    -- a window, and then the rest
    pub spelled_on : (s : S) (window rest : List T) (xs ys : List A) → spells_from rule step s window xs → spells_from rule step (behind step s xs) rest ys → spells_from rule step s (window ++ rest) (xs ++ ys)
    spelled_on s window rest [] ys h l = subst (λ (v : List T). spells_from rule step s (v ++ rest) ys) (sym h) l
    spelled_on s window rest (x ∷ xs) ys h l =
        (h.0, h.1 ++ rest, ap (λ (v : List T). v ++ rest) h.2 ∙ append_assoc h.0 h.1 rest, h.3, spelled_on (step s x) h.1 rest xs ys h.4 l)

    stopped_on : (s : S) (window rest : List T) (xs ys : List A) (f : Refusal W) → spells_from rule step s window xs → stops_from G shape.begins rule step (behind step s xs) ys rest f → stops_from G shape.begins rule step s (xs ++ ys) (window ++ rest) f
    stopped_on s window rest [] ys f h l = subst (λ (v : List T). stops_from G shape.begins rule step s ys (v ++ rest) f) (sym h) l
    stopped_on s window rest (x ∷ xs) ys f h l =
        (h.0, h.1 ++ rest, ap (λ (v : List T). v ++ rest) h.2 ∙ append_assoc h.0 h.1 rest, ends_there (rule s) (k s) (none s) h.0 (h.1 ++ rest) x h.3, stopped_on (step s x) h.1 rest xs ys f h.4 l)

    ended_on : (s : S) (window front rest : List T) (xs ys : List A) → spells_from rule step s window xs → ends_from G shape.begins rule step (behind step s xs) front ys rest → ends_from G shape.begins rule step s (window ++ front) (xs ++ ys) rest
    ended_on s window front rest [] ys h l = subst (λ (v : List T). ends_from G shape.begins rule step s (v ++ front) ys rest) (sym h) l
    ended_on s window front rest (x ∷ xs) ys h l = (
      h.0,
      h.1 ++ front,
      ap (λ (v : List T). v ++ front) h.2 ∙ append_assoc h.0 h.1 front,
      subst (λ (v : List T). (rule s).ends h.0 x v) (sym (append_assoc h.1 front rest)) (ends_there (rule s) (k s) (none s) h.0 (h.1 ++ (front ++ rest)) x h.3),
      ended_on (step s x) h.1 front rest xs ys h.4 l,
    )

    -- where the rest stops, the whole stops, for the same reason at the same symbol
    pub whole_stops : (s : S) (window rest : List T) (xs : List A) (f : Refusal W) → spells_from rule step s window xs → stops_whole G (many_from G shape rule step (behind step s xs)) rest f → stops_whole G (many_from G shape rule step s) (window ++ rest) f
    whole_stops s window rest xs f h (inl l) = inl (xs ++ l.0, stopped_on s window rest xs l.0 f h l.1)
    whole_stops s window rest xs f h (inr l) =
        inr (xs ++ l.0, window ++ l.1, l.2, l.3, ap (λ (v : List T). window ++ v) l.4 ∙ sym (append_assoc window l.1 (l.2 ∷ l.3)), ended_on s window l.1 (l.2 ∷ l.3) xs l.0 h l.5, l.6)
