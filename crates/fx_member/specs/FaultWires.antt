-- What a wire that fails where it is to holds.
use Rattle.std.specs.Prelude.{◌≡◌, ◌+◌, ◌&&◌, ◌||◌, ◌==◌, ℕ, Bool, List, Option, cond, bytes_eq}
use Rattle.std.specs.List.{list_any}
use Rattle.std.specs.Ordering.{is_eq}
use Rattle.fx_outside.specs.NameCounts.{count_of}
use Rattle.fx_terms.specs.Texts.{text_cmp}
use Rattle.fx_terms.specs.declared.triples.Triple.{Triple}
use Rattle.fx_wire.specs.Exchanges.{Exchange}
use Rattle.fx_member.specs.declared.fault_wires.FaultWire.{FaultWire}
use Rattle.fx_member.specs.declared.graph_wires.GraphWire.{GraphWire}
use Rattle.fx_member.specs.GraphWires as graph

-- whether a pair names the exchange of this number at an address
abbrev pub names : List ℕ → ℕ → List ℕ × ℕ → Bool
names address number pair = is_eq (text_cmp pair.0 address) && pair.1 == number

abbrev pub graph_in : FaultWire → List ℕ → Option (List Triple)
graph_in wire address = graph.graph_in wire.wire address

abbrev pub log_in : FaultWire → List Exchange
log_in wire = graph.log_in wire.wire

-- how many exchanges at an address have failed: those that were to fail, and those of the wire inside
abbrev pub faults_in : FaultWire → List ℕ → ℕ
faults_in wire address = count_of wire.faults address + graph.faults_in wire.wire address

-- the number of the next exchange on the wire, from 1
abbrev pub next_exchange : FaultWire → ℕ
next_exchange wire = wire.exchanges + 1

-- the number of the next exchange at an address, from 1
abbrev pub next_at : FaultWire → List ℕ → ℕ
next_at wire address = count_of wire.exchanges_at address + 1

-- whether the next exchange is to fail where it is one at this address
abbrev pub fails_next : FaultWire → List ℕ → Bool
fails_next wire address = list_any (λ (number : ℕ). number == next_exchange wire) wire.fails.items || list_any (names address (next_at wire address)) wire.fails_at.items

-- a wire that was just made
pub record IsFreshWire (made : FaultWire) (wire : GraphWire) (fails : List ℕ) (fails_at : List (List ℕ × ℕ)) : Type 0 where
  pub told : (address : List ℕ) → graph_in made address ≡ graph.graph_in wire address
  pub log : log_in made ≡ graph.log_in wire
  pub faults : (address : List ℕ) → faults_in made address ≡ graph.faults_in wire address
  pub first : next_exchange made ≡ 1
  pub first_at : (address : List ℕ) → next_at made address ≡ 1
  pub failing : made.fails.items ≡ fails
  pub failing_at : made.fails_at.items ≡ fails_at

-- a wire after one exchange at an address: its exchanges are one more, there and altogether, and the same are to fail
pub record IsAfterExchange (before after : FaultWire) (address : List ℕ) : Type 0 where
  pub next : next_exchange after ≡ next_exchange before + 1
  pub there : (other : List ℕ) → next_at after other ≡ next_at before other + cond (bytes_eq address other) 1 0
  pub failing : after.fails ≡ before.fails
  pub failing_at : after.fails_at ≡ before.fails_at

-- a wire whose exchange wasn't counted: the next one has the number that it had, there and altogether, and the same are to fail
pub record IsUncounted (before after : FaultWire) : Type 0 where
  pub next : next_exchange after ≡ next_exchange before
  pub there : (other : List ℕ) → next_at after other ≡ next_at before other
  pub failing : after.fails ≡ before.fails
  pub failing_at : after.fails_at ≡ before.fails_at
