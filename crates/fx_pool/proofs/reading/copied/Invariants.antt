use Rattle.std.proofs.Common.{◌≡◌, map, take}
use Rattle.fx_values.specs.Reading.{found_of}
use Rattle.fx_pool.proofs.reading.copied.Given as goal

abbrev pub invariant-loop-located : goal.invariant-loop-located
invariant-loop-located l = l.founds ≡ map found_of (take l.located-index l.all)
