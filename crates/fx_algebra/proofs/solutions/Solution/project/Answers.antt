use Rattle.fx_algebra.specs.Scopes.{is_among}
use Rattle.fx_algebra.proofs.PairLemmas.{rises_kept}
use Rattle.fx_algebra.proofs.solutions.Solution.project.Goals as goal

pub invariant_of-result : goal.invariant_of-result
invariant_of-result c = rw (c.in_ok-kept_pairs.ensures, c.as_slice.ensures.value) (rises_kept (is_among c.args.columns.now) c.self.inside.pairs.items c.self.invariant)
