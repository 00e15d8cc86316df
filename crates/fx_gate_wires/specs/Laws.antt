-- Laws of what a gate tells.
use Rattle.std.specs.Prelude.{◌≡◌, ◌≢◌, ◌∷◌, [], ℕ, List, All, Some}
use Rattle.fx_terms.specs.Graphs.{IsGraph}
use Rattle.fx_terms.specs.declared.triples.Triple.{Triple}
use Rattle.fx_outside.specs.Endpoints.{EndpointParts}
use Rattle.fx_algebra.specs.Graphs.{union}
use Rattle.fx_traffic.specs.Gains.{TellAll}
use Rattle.fx_wire.specs.Exchanges.{Seen}
use Rattle.fx_gate_wires.specs.Told.{gate_seen}

-- where the first wire tells a graph of each endpoint, a gate tells their union at its own address
abbrev pub GatesTellTheUnion : Type 0
GatesTellTheUnion = (at : List ℕ) (endpoints : List EndpointParts) (count : ℕ) (first : Seen) (others : List Seen) (graphs : List (List Triple))
    → TellAll (first ∷ []) endpoints graphs → All IsGraph graphs → (gate_seen at endpoints count (first ∷ others)).graph at ≡ Some (union graphs)

-- at any other it tells what that wire tells, its graph and how many faults it counted there
abbrev pub GatesTellOthers : Type 0
GatesTellOthers = (at : List ℕ) (endpoints : List EndpointParts) (count : ℕ) (first : Seen) (others : List Seen) (address : List ℕ) → address ≢ at
    → ((gate_seen at endpoints count (first ∷ others)).graph address ≡ first.graph address) × ((gate_seen at endpoints count (first ∷ others)).faults address ≡ first.faults address)
