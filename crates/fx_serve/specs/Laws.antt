-- What a federation replies to connections one after another, where the wires tell the graphs of its members.
use Rattle.std.specs.Prelude.{List, ℕ, All, IsTrue}
use Rattle.fx_terms.specs.declared.triples.Triple.{Triple}
use Rattle.fx_outside.specs.Endpoints.{EndpointParts}
use Rattle.fx_member.specs.Served.{IsServedBy}
use Rattle.fx_outcomes.specs.Mediation.{AreKnown, Serve}
use Rattle.fx_outcomes.specs.Outcomes.{AllTell}
use Rattle.fx_traffic.specs.Gains.{AreAfter}
use Rattle.fx_gateway.specs.Laws.{GainsReply, TellsOver}
use Rattle.fx_serve.specs.Connections.{AreServed, Connection, Known, Members}

-- The link gained the reply that is told of its input over these graphs, where each IRI has a graph for SERVICE: the refusal of the request or its text; the document of the answer over the union of the graphs
-- of the members that weren't left out in this connection, where the occurrences of SERVICE are down that were in it; or the fault. It gained a front of it where a write failed, and nothing where a read did.
abbrev pub IsToldOver : List EndpointParts → List (List Triple) → (List ℕ → List Triple) → Connection → Type 0
IsToldOver endpoints graphs services c = IsTrue c.before.tells_left → GainsReply c.before c.after (λ gated reply. IsServedBy (TellsOver endpoints graphs services gated) c.before.left gated.status reply) c.given

-- so it is of each connection, where the wires tell the graphs before them all, and what the cache holds then is true of these
abbrev pub AreTold : Members → Known → List Connection → Type 0
AreTold m first cs =
    (graphs : List (List Triple)) → AreKnown first.wires m.endpoints first.entries graphs → (services : List ℕ → List Triple) → Serve services m.endpoints graphs
    → All (IsToldOver m.endpoints graphs services) cs

-- connections that were served one after another are told so
abbrev pub ServedAreTold : Type 0
ServedAreTold = (m : Members) (first last : Known) (cs : List Connection) → AllTell m.tells first.wires → AreServed m first cs last → AreTold m first cs

-- exchanges alone came to the wires
abbrev pub WiresAreAfter : Type 0
WiresAreAfter = (m : Members) (first last : Known) (cs : List Connection) → AllTell m.tells first.wires → AreServed m first cs last → AreAfter first.wires last.wires
