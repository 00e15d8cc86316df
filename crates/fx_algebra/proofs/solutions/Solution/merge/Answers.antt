use Rattle.fx_algebra.proofs.PairLemmas.{rises_merge}
use Rattle.fx_algebra.proofs.solutions.Solution.merge.Goals as goal

pub invariant_of-result : goal.invariant_of-result
invariant_of-result c = rw (c.in_ok-merge_pairs.ensures, c.as_slice.ensures.value, c.as_slice-2.ensures.value) (rises_merge c.self.inside.pairs.items c.other.inside.pairs.items c.self.invariant)
