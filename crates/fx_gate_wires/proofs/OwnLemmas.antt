-- What comes of an exchange at a gate's own address.
use Rattle.std.proofs.Common.{◌≡◌, ◌∙◌, ap, sym, subst, refl, inl, inr, ℕ, ◌≤◌, List, [], Option, Some, None, Ok, Err, All, IsTrue, length}
use Rattle.std.specs.Prelude.{AllPairs, Result, ◌≢◌}
use Rattle.std.specs.declared.alloc.Global.{Global}
use Rattle.std.specs.declared.vec.Vec.{Vec}
use Rattle.fx_terms.specs.declared.allocation.Memory.{Memory}
use Rattle.fx_terms.specs.declared.triples.Triple.{Triple}
use Rattle.fx_algebra.specs.Graphs.{union}
use Rattle.fx_algebra.specs.Occurrences.{services}
use Rattle.fx_algebra.specs.declared.queries.Query.{Query}
use Rattle.fx_grammar.specs.Accepted.{Accepted}
use Rattle.fx_grammar.proofs.OneQuery.{one_query_holds}
use Rattle.fx_http.specs.Requests.{Asks}
use Rattle.fx_http.proofs.ReadRequestLaws.{asks_one, request_asks_text}
use Rattle.fx_member.specs.Served.{Told, told}
use Rattle.fx_member.specs.declared.serving.ServeError.{ServeError}
use Rattle.fx_member.specs.declared.serving.ServeError.TheVariants as serve_error
use Rattle.fx_outside.specs.Endpoints.{EndpointParts}
use Rattle.fx_sources.specs.Sources as source
use Rattle.fx_traffic.specs.Gains.{AreAfter}
use Rattle.fx_walks.specs.Unknown.{first_unknown, unknown_of}
use Rattle.fx_wire.specs.Honest.{IsHonest}
use Rattle.fx_outcomes.specs.Mediation.{AreKnown, Serve}
use Rattle.fx_outcomes.specs.Outcomes.{AllTell}
use Rattle.fx_outcomes.specs.declared.federated.FedError.{FedError}
use Rattle.fx_outcomes.specs.declared.federated.FedError.TheVariants as fed
use Rattle.fx_outcomes.specs.declared.rounds.OutcomeInRounds.{OutcomeInRounds}
use Rattle.fx_gateway.specs.Connected.{Federation, IsGated, LinkSeen, WasAsked}
use Rattle.fx_gateway.specs.Replies.{IsReplyTo, fault_told}
use Rattle.fx_gateway.specs.declared.connections.GateError.TheVariants as error
use Rattle.fx_gateway.specs.declared.connections.Gated.{Gated}
use Rattle.fx_gateway.specs.declared.connections.GatedReply.{GatedReply}
use Rattle.fx_gateway.specs.Steps.{IsPrepared}
use Rattle.fx_gateway.proofs.AloneLemmas.{graph_at, serves_each}
use Rattle.fx_gateway.proofs.ToldLemmas.{are_after, gated_after, gated_honest, gated_true, stay_true}
use Rattle.fx_gate_wires.specs.Gates.{AnswersOwn, IsGiven, IsGivenBy, IsLostOf, Passes}

-- ---- a reply

module _ (f : Federation) (request : List ℕ) (limit : ℕ) (link : LinkSeen) where
  pub own_given : IsTrue link.tells_left → link.left ≡ request → (reply : GatedReply) (o : Option (Vec ℕ Global)) → IsGated link f reply.gated reply.bytes.items → IsGivenBy reply limit o → AnswersOwn f request limit (Ok o)
  own_given tells asks reply (Some bytes) h k = record {
    gated = reply.gated;
    is_reply = record { link = link; tells = tells; asks = asks; is_gated = subst (IsGated link f reply.gated) (sym k.0) h };
    passes = k.1;
    short = subst (λ (v : List ℕ). length v ≤ limit) (sym k.0) k.2;
  }
  own_given tells asks reply None h k = record {
    gated = reply.gated;
    reply = reply.bytes.items;
    is_reply = record { link = link; tells = tells; asks = asks; is_gated = h };
    fails = k;
  }

  pub own_lost : (why : ServeError) → IsPrepared link f (Err why) → IsLostOf f request
  own_lost serve_error.ReadFault h = record { link = link; is_lost = inl h }
  own_lost serve_error.WriteFault h = absurd h
  own_lost serve_error.Memory h = record { link = link; is_lost = h }

-- ---- the wires and the cache behind it

pub own_after : (f : Federation) (request : List ℕ) (limit : ℕ) (r : Result (Option (Vec ℕ Global)) Memory) → AllTell f.wires.tells f.wires.before → AnswersOwn f request limit r → AreAfter f.wires.before f.wires.after
own_after f request limit (Ok (Some reply)) tell a = gated_after a.is_reply.link f a.gated reply.items a.is_reply.is_gated tell
own_after f request limit (Ok None) tell a = gated_after a.is_reply.link f a.gated a.reply a.is_reply.is_gated tell
own_after f request limit (Err why) tell a = are_after a.link a.link f (Err error.Memory) (a.is_lost, λ told. refl) tell

pub own_true : (f : Federation) (request : List ℕ) (limit : ℕ) (r : Result (Option (Vec ℕ Global)) Memory) → AnswersOwn f request limit r → (graphs : List (List Triple)) → AreKnown f.wires.before f.endpoints f.old graphs
    → All (source.Tells graphs) f.new
own_true f request limit (Ok (Some reply)) a = gated_true a.is_reply.link f a.gated reply.items a.is_reply.is_gated
own_true f request limit (Ok None) a = gated_true a.is_reply.link f a.gated a.reply a.is_reply.is_gated
own_true f request limit (Err why) a = stay_true a.link a.link f (Err error.Memory) (a.is_lost, λ told. refl)

-- ---- honest

status_502 : (t : Told) (body : List ℕ) → Some (told 502 body) ≡ Some t → t.status ≡ 502
status_502 t body h = let same : told 502 body ≡ t = cc in ap (λ (x : Told). x.status) (sym same)

unknown_none : (es : List EndpointParts) (q : Query) (iri : List ℕ) → services q ≡ [] → unknown_of es q ≡ Some iri → ⊥
unknown_none es q iri none h = let nothing : first_unknown es (services q) ≡ None = ap (first_unknown es) none in absurd (cc)

module _ (link : LinkSeen) (f : Federation) (gated : Gated) (reply : List ℕ) (tells : IsTrue link.tells_left) (addresses : AllPairs (λ (d e : EndpointParts). d.iri ≢ e.iri) f.endpoints) (passes : Passes gated)
    (graphs : List (List Triple)) (known : AreKnown f.wires.before f.endpoints f.old graphs) where
  abbrev services_at : List ℕ → List Triple
  services_at = graph_at f.endpoints graphs

  serve : Serve services_at f.endpoints graphs
  serve = serves_each f.wires.before f.endpoints graphs addresses known.told

  unfaulted : IsGated link f gated reply → gated.fault ≡ None → IsHonest (union graphs) link.left reply
  unfaulted h none = gated_honest link f gated reply tells graphs known services_at serve h none passes.whole

  text_of : (text other : List ℕ) → Asks link.left (Ok text) → Asks link.left (Ok other) → text ≡ other
  text_of text other x y = let same = asks_one link.left (Ok text) (Ok other) x y in cc

  -- an IRI that is unknown is one of a SERVICE, of which nothing is owed
  unknown_honest : (iri : List ℕ) → WasAsked link f (Err (fed.UnknownService iri)) → IsHonest (union graphs) link.left reply
  unknown_honest iri asked = λ text q whole short a none.
      let same : text ≡ asked.text = text_of text asked.text (request_asks_text link.left text whole) (asked.asks tells) in
      let here : Accepted asked.text q = subst (λ (v : List ℕ). Accepted v q) same a in
      let alike : q ≡ asked.query = one_query_holds asked.text q asked.query here asked.accepted in
      absurd (unknown_none f.endpoints asked.query iri (subst (λ (v : Query). services v ≡ []) alike none) asked.federated.known)

  refused_502 : (e : FedError) (body : List ℕ) → fault_told e ≡ Some (told 502 body) → IsReplyTo (Err e) gated reply → ⊥
  refused_502 e body is p =
      let code : p.t.status ≡ 502 = status_502 p.t body (sym is ∙ p.told) in
      passes.answered (ap (λ (g : Gated). g.status) p.gated_is ∙ code)

  by_fault : (e : FedError) → WasAsked link f (Err e) → IsReplyTo (Err e) gated reply → IsHonest (union graphs) link.left reply
  by_fault (fed.Member name) asked p = absurd (refused_502 (fed.Member name) _ refl p)
  by_fault (fed.Service iri) asked p = absurd (refused_502 (fed.Service iri) _ refl p)
  by_fault (fed.BadReply name bad) asked p = absurd (refused_502 (fed.BadReply name bad) _ refl p)
  by_fault (fed.RequestTooLong name size) asked p = absurd (refused_502 (fed.RequestTooLong name size) _ refl p)
  by_fault (fed.UnknownService iri) asked p = unknown_honest iri asked
  by_fault fed.Memory asked p = let none : None ≡ Some p.t = p.told in absurd (cc)

  by_result : (result : Result OutcomeInRounds FedError) → WasAsked link f result → IsReplyTo result gated reply → IsHonest (union graphs) link.left reply
  by_result (Ok all) asked p = unfaulted (inr (record { result = Ok all; asked = asked; replied = p })) (ap (λ (g : Gated). g.fault) p.gated_is)
  by_result (Err e) asked p = by_fault e asked p

  pub passing_is_honest : IsGated link f gated reply → IsHonest (union graphs) link.left reply
  passing_is_honest (inl r) = unfaulted (inl r) (ap (λ (g : Gated). g.fault) r.gated_is)
  passing_is_honest (inr r) = by_result r.result r.asked r.replied

pub given_is_honest : (f : Federation) (request : List ℕ) (limit : ℕ) (reply : List ℕ) → IsGiven f request limit reply → AllPairs (λ (d e : EndpointParts). d.iri ≢ e.iri) f.endpoints → (graphs : List (List Triple)) → AreKnown f.wires.before f.endpoints f.old graphs
    → IsHonest (union graphs) request reply
given_is_honest f request limit reply h addresses graphs known =
    subst (λ (input : List ℕ). IsHonest (union graphs) input reply) h.is_reply.asks
    (passing_is_honest h.is_reply.link f h.gated reply h.is_reply.tells addresses h.passes graphs known h.is_reply.is_gated)
