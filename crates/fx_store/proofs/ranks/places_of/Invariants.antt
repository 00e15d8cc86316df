use Rattle.std.proofs.Common.{◌≡◌, take}
use Rattle.fx_store.specs.Ranks as spec
use Rattle.fx_store.proofs.ranks.places_of.Given as goal

abbrev pub invariant-loop-one : goal.invariant-loop-one
invariant-loop-one l = l.places.items ≡ spec.places_of (take l.one-index l.ranked)
