use Rattle.std.proofs.Common.{◌≡◌, map, take, Some}
use Rattle.std.specs.List.{slice_get}
use Rattle.fx_store.specs.Ranks.{places_of}
use Rattle.fx_store.proofs.ranks.ranked_triples.Given as goal

abbrev pub invariant-loop-place : goal.invariant-loop-place
invariant-loop-place l = map (slice_get l.triples) (places_of l.ranked.items) ≡ map Some (take l.place l.triples)
