-- What the steps of `fedx generate` give. `summary` says what the whole gives.
use Rattle.std.specs.Prelude.{◌≡◌, ℕ, List, [], ◌∷◌, map}
use Rattle.fx_terms.specs.declared.triples.Triple.{Triple}
use Rattle.fx_member.specs.GraphWires.{graph_in, graph_of}
use Rattle.fx_member.specs.declared.graph_wires.GraphWire.{GraphWire}
use Rattle.fx_commands.specs.Counting.{first_address, second_address, third_address}

-- the graphs of members, each of which stands beside its address
abbrev pub graphs_of : List (List ℕ × List Triple) → List (List Triple)
graphs_of members = map (λ member. member.1) members

-- three graphs, each at its address
abbrev pub at_addresses : List Triple → List Triple → List Triple → List (List ℕ × List Triple)
at_addresses first second third = (first_address, first) ∷ (second_address, second) ∷ (third_address, third) ∷ []

-- the wire tells the graphs of the members
abbrev pub IsOver : List (List ℕ × List Triple) → GraphWire → Type 0
IsOver members wire = (address : List ℕ) → graph_in wire address ≡ graph_of members address
