use Rattle.fx_algebra.proofs.PairLemmas.{rises_with}
use Rattle.fx_algebra.proofs.solutions.Solution.with.Goals as goal

pub invariant_of-result : goal.invariant_of-result
invariant_of-result c = rw (c.in_ok-with_pair.ensures, c.as_slice.ensures.value) (rises_with c.self.inside.pairs.items c.args.name.now c.args.term.now c.self.invariant)
