use Rattle.std.proofs.Common.{ap}
use Rattle.fx_algebra.specs.Answers.{has_rows}
use Rattle.fx_store.proofs.FitLemmas.{none_fitting}
use Rattle.fx_store.proofs.finding.some_fits.Goals as goal

pub returns-in-None-clause-some : goal.returns-in-None-clause-some
returns-in-None-clause-some g c = ap has_rows (none_fitting c.args.row.now c.args.pattern.now c.args.orders.now c.in-None.ensures.none)
