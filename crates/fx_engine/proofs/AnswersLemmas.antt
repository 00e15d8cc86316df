-- The probes that have an answer stand once, and the cache lacked them.
use Rattle.std.proofs.Common.{◌≡◌, ◌≢◌, refl, subst, ℕ, false, List, ◌++◌, arith}
use Rattle.std.specs.Prelude.{All, AllPairs, IsPermutation, get_or}
use Rattle.std.proofs.lemmas.List.{get_or_append_left, length-append}
use Rattle.std.proofs.lemmas.List.Sorted.{All-permutation, IsPermutation-sym}
use Rattle.std.proofs.lemmas.Map.Keys.{IsDistinct-IsPermutation}
use Rattle.std.proofs.lemmas.Map.Made.{AllPairs-from_IsDistinct, IsDistinct-from_AllPairs}
use Rattle.fx_algebra.specs.declared.queries.Query.{Query}
use Rattle.fx_keys.specs.Probes.{probes_decide, same_probe}
use Rattle.fx_keys.specs.declared.probes.Probe.{Probe}
use Rattle.fx_sources.specs.Probes.{Entry, is_held, missing}
use Rattle.fx_sources.proofs.EntryLemmas.{same_turned}
use Rattle.fx_sources.proofs.SourceLemmas.{missing_distinct, missing_new}

all_front : {X : Type 0} (P : X → Type 0) (xs ys : List X) → All P (xs ++ ys) → All P xs
all_front P xs ys h k d low = subst P (get_or_append_left xs ys d k low) (h k d (let long = length-append xs ys in omega (arith, low, long)))

pairs_front : {X : Type 0} (R : X → X → Type 0) (xs ys : List X) → AllPairs R (xs ++ ys) → AllPairs R xs
pairs_front R xs ys h i j d low below =
    let long = length-append xs ys in
    let first = get_or_append_left xs ys d i (omega (arith, low, below)) in
    let second = get_or_append_left xs ys d j below in
    subst (λ x. R x (get_or xs j d)) first (subst (λ y. R (get_or (xs ++ ys) i d) y) second (h i j d low (omega (arith, below, long))))

module _ (q : Query) (members : ℕ) (entries : List Entry) (ps unanswered : List Probe) (split : IsPermutation (ps ++ unanswered) (missing q members entries)) where
  abbrev all : List Probe
  all = missing q members entries

  back : IsPermutation all (ps ++ unanswered)
  back = IsPermutation-sym (ps ++ unanswered) all split

  pub answers_distinct : AllPairs ◌≢◌ ps
  answers_distinct =
      let once = IsDistinct-from_AllPairs {eq = same_probe} probes_decide all (missing_distinct q members entries all refl) in
      pairs_front ◌≢◌ ps unanswered (AllPairs-from_IsDistinct {eq = same_probe} probes_decide (ps ++ unanswered) (IsDistinct-IsPermutation same_probe same_turned all (ps ++ unanswered) back once))

  pub answers_new : All (λ p. is_held entries p ≡ false) ps
  answers_new = all_front (λ p. is_held entries p ≡ false) ps unanswered (All-permutation (λ p. is_held entries p ≡ false) all (ps ++ unanswered) back (missing_new q members entries all refl))
