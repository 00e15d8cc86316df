use Rattle.std.proofs.Common.{◌<◌, ◌++◌, ◌∷◌, [], sym, subst, length, IsPermutation, List, ℕ}
use Rattle.std.proofs.lemmas.List.Sorted.{IsPermutation-more}
use Rattle.fx_terms.specs.declared.patterns.Pattern.{Pattern}
use Rattle.fx_evaluation.specs.Runs.{place_of}
use Rattle.fx_evaluation.proofs.runs.in_order.Goals as goal

pub loop-alloc-preserved : goal.loop-alloc-preserved
loop-alloc-preserved c =
    let all = c.args.patterns.items in
    let left = c.loop-alloc.left.items in
    let within : c.place-place.result < length left =
    subst (λ (n : ℕ). n < length left) (sym c.place-place.ensures) (subst (λ (ps : List Pattern). place_of c.next.result < length ps) c.as_slice.ensures.value c.next.ensures) in
    let more = IsPermutation-more all c.loop-alloc.ordered.items left c.place-place.result c.remove.result within c.remove.ensures.value c.loop-alloc.invariant in
    subst (λ (v : List Pattern). IsPermutation all (v ++ c.remove.new.self.items)) (sym c.in_ok-push.ensures.items)
    (subst (λ (v : List Pattern). IsPermutation all ((c.loop-alloc.ordered.items ++ c.remove.result ∷ []) ++ v)) (sym c.remove.ensures.items) more)
