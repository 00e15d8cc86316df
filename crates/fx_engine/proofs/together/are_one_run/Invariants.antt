use Rattle.std.proofs.Common.{◌≡◌, drop}
use Rattle.std.specs.List.{list_all}
use Rattle.fx_engine.specs.Together.{is_one_run}
use Rattle.fx_engine.proofs.together.are_one_run.Given as goal

abbrev pub invariant-loop-group : goal.invariant-loop-group
invariant-loop-group l = list_all is_one_run (drop l.group-index l.groups) ≡ list_all is_one_run l.groups
