use Rattle.std.proofs.Common.{◌<◌, ◌++◌, ◌∷◌, [], ap, sym, subst, length, IsPermutation, List, ℕ}
use Rattle.std.proofs.lemmas.List.Sorted.{IsPermutation-more}
use Rattle.fx_terms.specs.declared.patterns.Pattern.{Pattern}
use Rattle.fx_evaluation.specs.Runs.{place_of}
use Rattle.fx_evaluation.proofs.first_rows.order_under.Goals as goal

pub loop-alloc-preserved : goal.loop-alloc-preserved
loop-alloc-preserved c =
    let all = c.args.patterns.items in
    let left = c.loop-alloc.left.items in
    let place = c.in-Beside.place in
    let below : place_of c.next.result < length left = subst (λ (ps : List Pattern). place_of c.next.result < length ps) c.as_slice.ensures.value c.next.ensures in
    let within : place < length left = subst (λ (n : ℕ). n < length left) (ap place_of c.in-Beside.is) below in
    let more = IsPermutation-more all c.loop-alloc.ordered.items left place c.remove.result within c.remove.ensures.value c.loop-alloc.invariant in
    subst (λ (v : List Pattern). IsPermutation all (v ++ c.remove.new.self.items)) (sym c.in_ok-push-in-Beside.ensures.items)
    (subst (λ (v : List Pattern). IsPermutation all ((c.loop-alloc.ordered.items ++ c.remove.result ∷ []) ++ v)) (sym c.remove.ensures.items) more)
