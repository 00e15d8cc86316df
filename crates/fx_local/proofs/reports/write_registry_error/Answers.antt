use Rattle.fx_local.proofs.reports.write_registry_error.Goals as goal

pub returns-in-TooMany : goal.returns-in-TooMany
returns-in-TooMany g c = rw c.in-TooMany.is c.write_number-in-TooMany.ensures
