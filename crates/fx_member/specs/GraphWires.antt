-- What a wire that answers by graphs holds, and what it has answered.
use Rattle.std.specs.Prelude.{◌≡◌, ℕ, List, [], ◌∷◌, Option, Some, None, if◌then◌else◌, map, take}
use Rattle.std.specs.Ordering.{is_eq}
use Rattle.fx_algebra.specs.Answers.{answer_alone}
use Rattle.fx_algebra.specs.Occurrences.{services}
use Rattle.fx_algebra.specs.declared.queries.Query.{Query}
use Rattle.fx_outside.specs.NameCounts.{count_of}
use Rattle.fx_grammar.specs.Accepted.{Accepted}
use Rattle.fx_terms.specs.Texts.{text_cmp}
use Rattle.fx_terms.specs.declared.triples.Triple.{Triple}
use Rattle.fx_wire.specs.Exchanges.{Exchange}
use Rattle.fx_wire.specs.Honest.{Replies}
use Rattle.fx_wire.specs.Scripts.{exchange_of}
use Rattle.fx_wire.specs.declared.script_wires.Answered.{Answered}
use Rattle.fx_member.specs.declared.graph_wires.GraphWire.{GraphWire}
use Rattle.fx_member.specs.Served.{IsServed}

-- the graph of the first pair with an address
abbrev pub graph_of : List (List ℕ × List Triple) → List ℕ → Option (List Triple)
graph_of [] address = None
graph_of (pair ∷ pairs) address = if is_eq (text_cmp pair.0 address) then Some pair.1 else graph_of pairs address

-- the graph of an address
abbrev pub graph_in : GraphWire → List ℕ → Option (List Triple)
graph_in wire address = graph_of wire.stores.items address

-- the exchanges that were answered, as the wire keeps them
abbrev pub answered_in : GraphWire → List Answered
answered_in wire = wire.log.items

-- the exchanges that were answered
abbrev pub log_in : GraphWire → List Exchange
log_in wire = map exchange_of (answered_in wire)

-- how many exchanges at an address have failed
abbrev pub faults_in : GraphWire → List ℕ → ℕ
faults_in wire address = count_of wire.faults address

-- a wire that was just made
pub record IsFreshWire (wire : GraphWire) (graphs : List (List ℕ × List Triple)) : Type 0 where
  pub told : (address : List ℕ) → graph_in wire address ≡ graph_of graphs address
  pub silent : log_in wire ≡ []
  pub faultless : (address : List ℕ) → faults_in wire address ≡ 0

-- a reply to a request where this graph is told: the first bytes, at most so many, of what a member serves over the graph
pub record IsFrontServed (told : Option (List Triple)) (request : List ℕ) (most : ℕ) (reply : List ℕ) : Type 0 where
  pub graph : List Triple
  pub is_told : told ≡ Some graph
  pub status : ℕ
  pub whole : List ℕ
  pub served : IsServed graph request status whole
  pub front : reply ≡ take most whole

-- where the text is accepted as a query without SERVICE, the reply means its answer over the graph
abbrev pub RepliesTo : List Triple → List ℕ → List ℕ → Type 0
RepliesTo graph text reply = (q : Query) → Accepted text q → services q ≡ [] → Replies reply (answer_alone q graph)
