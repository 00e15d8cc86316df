-- What a store gives for a pattern, as the definitions have it.
use Rattle.std.proofs.Common.{◌≡◌, ◌∙◌, ◌↔◌, ap, sym, subst, refl, T, ℕ, zero, suc, ◌-◌, ◌<◌, ◌≤◌, Bool, true, false, ◌&&◌, cond, List, [], ◌∷◌, length, filter, get_or, Contains, append-nil, arith}
use Rattle.std.specs.List.{filter_map}
use Rattle.std.specs.Prelude.{IsTrue}
use Rattle.std.specs.Ordering.{is_eq}
use Rattle.std.proofs.lemmas.Cmp.{tied_itself}
use Rattle.fx_terms.specs.Terms.{terms_total}
use Rattle.fx_terms.specs.declared.terms.Term.{Term}
use Rattle.fx_terms.specs.declared.terms.Term.TheVariants.{Iri}
use Rattle.fx_terms.specs.declared.triples.Triple.{Triple}
use Rattle.fx_terms.specs.declared.patterns.Pattern.{Pattern}
use Rattle.fx_algebra.specs.Solutions.{Bindings, rises, same_term}
use Rattle.fx_algebra.specs.BasicGraphPatterns.{bgp, forced, parts_of}
use Rattle.fx_algebra.specs.Operators.{merges}
use Rattle.fx_algebra.proofs.JoinLemmas.{join_extends}
use Rattle.fx_store.specs.Lookups.{has_parts, known_all}
use Rattle.fx_store.proofs.FitLemmas.{same_from}
use Rattle.fx_store.proofs.PlaceLemmas.{of_parts}

to_T : (b : Bool) → b ≡ true → T b
to_T true h = tt
to_T false h = cc

pub matches_are : (graph : List Triple) (p : Pattern) (s : Bindings) → IsTrue (rises s) → filter_map (λ t. forced s (parts_of p t)) graph ≡ merges (bgp graph (p ∷ [])) s
matches_are graph p s up = sym (append-nil (filter_map (λ t. forced s (parts_of p t)) graph)) ∙ sym (join_extends graph p (s ∷ []) (to_T (rises s) up, tt)) ∙ append-nil (merges (bgp graph (p ∷ [])) s)

-- ---- whether a triple is there

itself : (v : Term) → same_term v v ≡ true
itself v = ap is_eq (tied_itself terms_total v)

has_itself : (t : Triple) → has_parts (known_all t) t ≡ true
has_itself t =
    ap (λ b. b && (same_term (Iri t.predicate) (Iri t.predicate) && same_term t.object t.object)) (itself (Iri t.subject))
    ∙ ap (λ b. b && same_term t.object t.object) (itself (Iri t.predicate))
    ∙ itself t.object

all_three : (a b c : Bool) → (a && (b && c)) ≡ true → (a ≡ true) × (b ≡ true) × (c ≡ true)
all_three true true c h = (refl, refl, h)
all_three true false c h = absurd (cc)
all_three false b c h = absurd (cc)

-- one triple alone has all parts of a triple
only_itself : (t u : Triple) → has_parts (known_all t) u ≡ true → u ≡ t
only_itself t u h =
    let each = all_three (same_term (Iri t.subject) (Iri u.subject)) (same_term (Iri t.predicate) (Iri u.predicate)) (same_term t.object u.object) h in
    sym (of_parts t u (same_from _ _ each.0) (same_from _ _ each.1) (same_from _ _ each.2))

module _ (t : Triple) (q : Triple → Bool) (itself : q t ≡ true) (only : (u : Triple) → q u ≡ true → u ≡ t) where
  from_count : (xs : List Triple) → 0 < length (filter q xs) → Contains xs t
  from_count [] h = absurd (omega arith)
  from_count (x ∷ xs) h = pick (q x) refl h (from_count xs)
    where
      later : Contains xs t → Contains (x ∷ xs) t
      later (k, b, e) = (suc k, omega arith, e)

      pick : (b : Bool) → q x ≡ b → 0 < length (cond b (x ∷ filter q xs) (filter q xs)) → (0 < length (filter q xs) → Contains xs t) → Contains (x ∷ xs) t
      pick true e h rest = (0, omega arith, only x e)
      pick false e h rest = later (rest h)

  no_fewer : (b : Bool) (x : Triple) (xs : List Triple) → length xs ≤ length (cond b (x ∷ xs) xs)
  no_fewer true x xs = omega arith
  no_fewer false x xs = omega arith

  counted : (xs : List Triple) (k : ℕ) → k < length xs → get_or xs k t ≡ t → 0 < length (filter q xs)
  counted [] k b e = absurd (omega arith)
  counted (x ∷ xs) zero b e = subst (λ (v : Bool). 0 < length (cond v (x ∷ filter q xs) (filter q xs))) (sym (ap q e ∙ itself)) (omega arith)
  counted (x ∷ xs) (suc k) b e = let rest = counted xs k (omega arith) e in omega (arith, rest, no_fewer (q x) x (filter q xs))

-- the triples with all parts of a triple tell whether it is there
pub found_or_not : (graph : List Triple) (t : Triple) (start end : ℕ) → start ≤ end → end - start ≡ length (filter (has_parts (known_all t)) graph) → (start < end) ↔ Contains graph t
found_or_not graph t start end a e = (
  λ h. from_count t (has_parts (known_all t)) (has_itself t) (only_itself t) graph (omega (arith, a, e, h)),
  λ c. let some = counted t (has_parts (known_all t)) (has_itself t) (only_itself t) graph c.0 c.1 c.2 in omega (arith, a, e, some),
)
