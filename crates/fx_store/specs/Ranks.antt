-- The places that stand beside numbers.
use Rattle.std.specs.Prelude.{ℕ, List, map}
use Rattle.fx_store.specs.declared.ranks.Ranked.{Ranked}

abbrev pub places_of : List Ranked → List ℕ
places_of ranked = map (λ (r : Ranked). r.place) ranked
