use Rattle.fx_local.proofs.reports.write_unknown_service.Goals as goal

pub returns : goal.returns
returns g c = rw c.text.ensures.value at c.write_named.ensures
