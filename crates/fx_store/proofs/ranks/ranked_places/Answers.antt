use Rattle.std.proofs.Common.{◌≡◌, ◌∙◌, ap, sym, subst, IsPermutation, List, ℕ, rules}
use Rattle.std.proofs.lemmas.List.Sorted.{IsPermutation-map}
use Rattle.fx_store.specs.Ranks.{places_of}
use Rattle.fx_store.specs.declared.ranks.Ranked.{Ranked}
use Rattle.fx_store.proofs.PlaceLemmas.{all_moved, still_all}
use Rattle.fx_store.proofs.ranks.ranked_places.Goals as goal

-- places beside numbers, moved with them
moved : (before behind : List Ranked) (places : List ℕ) → IsPermutation before behind → places ≡ places_of behind → IsPermutation (places_of before) places
moved before behind places p e = subst (λ (v : List ℕ). IsPermutation (places_of before) v) (sym e) (IsPermutation-map (λ (r : Ranked). r.place) before behind p)

pub returns-clause-first : goal.returns-clause-first
returns-clause-first c =
    let before = c.in_ok-ranked.ranked.items in
    all_moved c.args.triples.now (places_of before) c.in_ok-by_predicate.by_predicate.items c.in_ok-ranked.ensures
    (moved before c.sort_unstable_by.new.self.items c.in_ok-by_predicate.by_predicate.items c.sort_unstable_by.ensures.permutation
    (c.in_ok-by_predicate.ensures ∙ ap places_of c.as_slice.ensures.value))

pub returns-clause-second : goal.returns-clause-second
returns-clause-second c =
    let before = c.in_ok-turned.turned.items in
    let first = c.in_ok-by_predicate.by_predicate.items in
    let second = c.in_ok-by_object.by_object.items in
    let same : places_of before ≡ first = search rules in
    still_all c.args.triples.now first second (returns-clause-first c)
    (subst (λ (v : List ℕ). IsPermutation v second) same
    (moved before c.sort_by.new.self.items second c.sort_by.ensures.permutation (search rules)))
