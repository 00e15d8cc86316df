use Rattle.std.proofs.Common.{◌≡◌, map}
use Rattle.fx_founds.specs.Uniting.{row_by}
use Rattle.fx_founds.proofs.uniting.rows_of.Given as goal

abbrev pub invariant-loop-found : goal.invariant-loop-found
invariant-loop-found l = l.united.items ≡ map (row_by l.rows) l.yielded
