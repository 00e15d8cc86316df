use Rattle.std.proofs.Common.{◌<◌, All, ℕ, length}
use Rattle.fx_algebra.specs.declared.units.Unit as unit
use Rattle.fx_spelling.specs.Units.{IsFit}
use Rattle.fx_flows.proofs.RowsLemmas.{of_first}
use Rattle.fx_alone.proofs.runs.first_of.Goals as goal

pub returns-in-Some-clause-fit : goal.returns-in-Some-clause-fit
returns-in-Some-clause-fit c = of_first IsFit c.args.units.now c.in-Some.unit.now c.in-Some.others.now c.in-Some.ensures.cases.0 c.requires.fit

pub returns-in-Some-clause-within : goal.returns-in-Some-clause-within
returns-in-Some-clause-within c =
    of_first (λ (u : unit.Unit). All (λ (at : ℕ). at < length c.args._endpoints.now) u.members) c.args.units.now c.in-Some.unit.now c.in-Some.others.now c.in-Some.ensures.cases.0 c.requires.within
