use Rattle.fx_local.proofs.reports.write_turtle_refused.Goals as goal

pub returns : goal.returns
returns g c = rw c.name.ensures at c.write_refused.ensures
