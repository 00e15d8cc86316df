-- What is replied, where the wires tell the graphs.
use Rattle.std.proofs.Common.{◌≡◌, ◌∙◌, ap, sym, subst, refl, inl, inr, ◌⊎◌, ℕ, Bool, true, List, [], All, None, Some, Ok, Err, IsTrue}
use Rattle.std.specs.Prelude.{Result, IfOk}
use Rattle.fx_terms.specs.declared.triples.Triple.{Triple}
use Rattle.fx_algebra.specs.Answers.{answer, answer_alone}
use Rattle.fx_algebra.specs.Graphs.{union}
use Rattle.fx_algebra.specs.Occurrences.{services}
use Rattle.fx_algebra.specs.Units.{of_kept}
use Rattle.fx_algebra.specs.declared.answers.Answer.{Answer}
use Rattle.fx_algebra.specs.declared.queries.Query.{Query}
use Rattle.fx_grammar.specs.Accepted.{Accepted}
use Rattle.fx_grammar.proofs.OneQuery.{never_both_holds, one_query_holds}
use Rattle.fx_http.specs.Requests.{Asks}
use Rattle.fx_http.specs.WrittenReplies.{reply_of}
use Rattle.fx_http.proofs.ReadRequestLaws.{asks_one, request_asks_text}
use Rattle.fx_results.specs.Documents.{document}
use Rattle.fx_results.specs.Meanings.{binds_columns}
use Rattle.fx_wire.specs.Honest.{IsHonest, Replies}
use Rattle.fx_member.specs.Served.{IsServedBy, IsTextToldBy, Told, accepted, refused, told}
use Rattle.fx_member.proofs.AnswerLemmas.{spelled_answer}
use Rattle.fx_member.proofs.HonestLemmas.{honest_refusal, served_refusal, served_text}
use Rattle.fx_services.specs.Noted.{places}
use Rattle.fx_sources.specs.Probes.{Entry}
use Rattle.fx_sources.specs.Sources as source
use Rattle.fx_traffic.specs.Gains.{AreAfter}
use Rattle.fx_pool.proofs.WireLemmas.{after_itself}
use Rattle.fx_outcomes.specs.InRounds.{FederatedInRoundsOver}
use Rattle.fx_outcomes.specs.Mediation.{AreKnown, Serve}
use Rattle.fx_outcomes.specs.Outcomes.{AllTell}
use Rattle.fx_outcomes.proofs.ChoiceLemmas.{as_many_graphs}
use Rattle.fx_outcomes.specs.declared.federated.FedError.{FedError}
use Rattle.fx_outcomes.specs.declared.rounds.OutcomeInRounds.{OutcomeInRounds}
use Rattle.fx_outcomes.specs.declared.rounds.Round.{Round}
use Rattle.fx_rounds.proofs.GainedLemmas.{rounds_have_gained}
use Rattle.fx_rounds.proofs.LeftOutLemmas.{answers_went, members_are_left_once}
use Rattle.fx_gateway.specs.Connected.{Connected, Federation, IsFederated, IsGated, IsRefusal, IsRefused, IsUnasked, LinkSeen, NoQuery, WasAsked, of_request, of_text}
use Rattle.fx_gateway.specs.Laws.{CachesStayTrue, ConnectionsAreHonest, ConnectionsAreTold, GainsReply, TellsOver, WiresAreAfter, answered, failed, kept_after, union_after}
use Rattle.fx_gateway.specs.Replies.{fed_told, gated_of}
use Rattle.fx_gateway.specs.declared.connections.GateError.{GateError}
use Rattle.fx_gateway.specs.declared.connections.GateError.TheVariants as error
use Rattle.fx_gateway.specs.declared.connections.Gated.{Gated}
use Rattle.fx_gateway.proofs.AloneLemmas.{answered_alone, graph_at, of_everybody, serves_each}

some_is : {X : Type 0} (a b : X) → Some a ≡ Some b → a ≡ b
some_is a b h = cc

status_is : (s : ℕ) (result : Result OutcomeInRounds FedError) → (gated_of s result).status ≡ s
status_is s (Ok all) = refl
status_is s (Err e) = refl

-- a text of which nothing is told as a query is refused, whatever else is told of queries
text_refused : (Tells : Query → Told → Type 0) (text : List ℕ) (t : Told) → IsTextToldBy NoQuery text t → IsTextToldBy Tells text t
text_refused Tells text t (accepted q a none) = absurd none
text_refused Tells text t (refused kind place h is) = refused kind place h is

-- and is no query
text_unasked : (text : List ℕ) (t : Told) (q : Query) → IsTextToldBy NoQuery text t → Accepted text q → ⊥
text_unasked text t q (accepted p a none) k = none
text_unasked text t q (refused kind place h is) k = never_both_holds text kind place q h k

module _ (link : LinkSeen) (f : Federation) (gated : Gated) (reply : List ℕ) (tells : IsTrue link.tells_left) where
  abbrev input : List ℕ
  input = link.left

  -- ---- a refusal

  refused_told : (Tells : Query → Told → Type 0) → IsRefused link f gated reply → IsServedBy Tells input gated.status reply
  refused_told Tells r = by r.refusal
    where
      status : gated.status ≡ r.t.status
      status = ap (λ (g : Gated). g.status) r.gated_is

      by : IsRefusal link r.t → IsServedBy Tells input gated.status reply
      by (of_request why code asks is named) =
          served_refusal Tells input why code gated.status reply (asks tells) is (record {
            is_status = status ∙ ap (λ (t : Told). t.status) named;
            is_reply = r.laid_out ∙ ap (λ (t : Told). reply_of t.status t.body) named;
          })
      by (of_text text asks h) = served_text Tells input text r.t gated.status reply (asks tells) (text_refused Tells text r.t h) (record { is_status = status; is_reply = r.laid_out })

  refused_honest : (graph : List Triple) → IsRefused link f gated reply → IsHonest graph input reply
  refused_honest graph r = by r.refusal
    where
      text_of : (text other : List ℕ) → Asks input (Ok text) → Asks input (Ok other) → text ≡ other
      text_of text other a b = let same = asks_one input (Ok text) (Ok other) a b in cc

      by : IsRefusal link r.t → IsHonest graph input reply
      by (of_request why code asks is named) = honest_refusal graph input reply why (asks tells)
      by (of_text text asks h) = λ other q whole short accepted none.
          let same : other ≡ text = text_of other text (request_asks_text input other whole) (asks tells) in
          absurd (text_unasked text r.t q h (subst (λ (v : List ℕ). Accepted v q) same accepted))

  -- ---- what the members gave

  module _ (graphs : List (List Triple)) (known : AreKnown f.wires.before f.endpoints f.old graphs) (services_at : List ℕ → List Triple) (serve : Serve services_at f.endpoints graphs) where
    -- the answer is over those that are kept
    over_kept : (q : Query) (all : OutcomeInRounds) → FederatedInRoundsOver f.wires f.endpoints q f.old f.new f.block (Ok all)
        → all.outcome.answer ≡ answer q (union_after f.endpoints graphs all.abandoned) services_at (places all.outcome.down)
    over_kept q all h =
        let w = answers_went f.wires.tells f.wires.alone f.wires.before f.wires.after f.endpoints q f.old f.new f.block all h in
        let left = members_are_left_once f.wires.tells f.wires.alone f.wires.before f.wires.after f.endpoints q f.old f.new f.block all w in
        w.answer graphs known services_at serve
        ∙ ap (λ (kept : List Bool). answer q (union (of_kept kept graphs)) services_at (places all.outcome.down)) left.those_kept

    given_told : (q : Query) (result : Result OutcomeInRounds FedError) (t : Told) → FederatedInRoundsOver f.wires f.endpoints q f.old f.new f.block result → fed_told result ≡ Some t
        → TellsOver f.endpoints graphs services_at (gated_of t.status result) q t
    given_told q (Ok all) t h is =
        let doc : t ≡ told 200 (document all.outcome.answer) = sym (some_is (told 200 (document all.outcome.answer)) t is) in
        answered refl h.known (doc ∙ ap (λ (a : Answer). told 200 (document a)) (over_kept q all h))
    given_told q (Err e) t h is = failed e refl h.known is

    federated_told : IsFederated link f gated reply → IsServedBy (TellsOver f.endpoints graphs services_at gated) input gated.status reply
    federated_told r =
        let p = r.replied in
        let a = r.asked in
        let Tells = TellsOver f.endpoints graphs services_at gated in
        let tell : Tells a.query p.t = subst (λ (g : Gated). TellsOver f.endpoints graphs services_at g a.query p.t) (sym p.gated_is) (given_told a.query r.result p.t a.federated p.told) in
        served_text Tells input a.text p.t gated.status reply (a.asks tells) (accepted a.query a.accepted tell) (record {
          is_status = ap (λ (g : Gated). g.status) p.gated_is ∙ status_is p.t.status r.result;
          is_reply = p.laid_out;
        })

    pub gated_told : IsGated link f gated reply → IsServedBy (TellsOver f.endpoints graphs services_at gated) input gated.status reply
    gated_told (inl r) = refused_told (TellsOver f.endpoints graphs services_at gated) r
    gated_told (inr r) = federated_told r

    -- ---- an honest reply

    given_honest : (text : List ℕ) (q : Query) (result : Result OutcomeInRounds FedError) (t : Told) → Accepted text q → services q ≡ [] → FederatedInRoundsOver f.wires f.endpoints q f.old f.new f.block result
        → IfOk result (λ all. binds_columns all.outcome.answer ≡ true → Replies reply all.outcome.answer) → (gated_of t.status result).fault ≡ None → (gated_of t.status result).abandoned ≡ []
        → Replies reply (answer_alone q (union graphs))
    given_honest text q (Ok all) t a none h means unfaulted unabandoned =
        let everyone : of_kept (kept_after f.endpoints all.abandoned) graphs ≡ graphs =
        ap (λ (rounds : List Round). of_kept (kept_after f.endpoints rounds) graphs) unabandoned ∙ of_everybody f.endpoints graphs (as_many_graphs f.wires.before f.endpoints graphs known.told) in
        let is : all.outcome.answer ≡ answer q (union graphs) services_at (places all.outcome.down) =
        over_kept q all h ∙ ap (λ (kept : List (List Triple)). answer q (union kept) services_at (places all.outcome.down)) everyone in
        let binds : binds_columns all.outcome.answer ≡ true =
        subst (λ (v : Answer). binds_columns v ≡ true) (sym is) (spelled_answer q (union graphs) services_at (places all.outcome.down) (text, a)) in
        subst (Replies reply) (is ∙ answered_alone q (union graphs) services_at (places all.outcome.down) none) (means binds)
    given_honest text q (Err e) t a none h means unfaulted unabandoned = absurd (cc)

    federated_honest : gated.fault ≡ None → gated.abandoned ≡ [] → IsFederated link f gated reply → IsHonest (union graphs) input reply
    federated_honest unfaulted unabandoned r = λ text q whole short a none.
        let p = r.replied in
        let it = r.asked in
        let same : text ≡ it.text = text_of text it.text (request_asks_text input text whole) (it.asks tells) in
        let here : Accepted it.text q = subst (λ (v : List ℕ). Accepted v q) same a in
        let alike : q ≡ it.query = one_query_holds it.text q it.query here it.accepted in
        subst (λ (v : Query). Replies reply (answer_alone v (union graphs))) (sym alike)
        (given_honest it.text it.query r.result p.t it.accepted (subst (λ (v : Query). services v ≡ []) alike none) it.federated p.means
        (ap (λ (g : Gated). g.fault) (sym p.gated_is) ∙ unfaulted) (ap (λ (g : Gated). g.abandoned) (sym p.gated_is) ∙ unabandoned))
      where
        text_of : (text other : List ℕ) → Asks input (Ok text) → Asks input (Ok other) → text ≡ other
        text_of text other x y = let same = asks_one input (Ok text) (Ok other) x y in cc

    pub gated_honest : IsGated link f gated reply → gated.fault ≡ None → gated.abandoned ≡ [] → IsHonest (union graphs) input reply
    gated_honest (inl r) unfaulted unabandoned = refused_honest (union graphs) r
    gated_honest (inr r) unfaulted unabandoned = federated_honest unfaulted unabandoned r

-- ---- the cache and the wires

module _ (link : LinkSeen) (f : Federation) where
  abbrev StaysTrue : Type 0
  StaysTrue = (graphs : List (List Triple)) → AreKnown f.wires.before f.endpoints f.old graphs → All (source.Tells graphs) f.new

  unasked_true : IsUnasked f → StaysTrue
  unasked_true u = λ graphs known. subst (λ (es : List Entry). All (source.Tells graphs) es) (sym u.kept) known.entries_are

  asked_true : (result : Result OutcomeInRounds FedError) → WasAsked link f result → StaysTrue
  asked_true result a = a.federated.stays_true

  pub gated_true : (gated : Gated) (reply : List ℕ) → IsGated link f gated reply → StaysTrue
  gated_true gated reply (inl r) = unasked_true r.unasked
  gated_true gated reply (inr r) = asked_true r.result r.asked

  abbrev IsAfterAll : Type 0
  IsAfterAll = AllTell f.wires.tells f.wires.before → AreAfter f.wires.before f.wires.after

  unasked_after : IsUnasked f → IsAfterAll
  unasked_after u = λ tell. subst (AreAfter f.wires.before) (sym u.same) (after_itself f.wires.before)

  asked_after : (result : Result OutcomeInRounds FedError) → WasAsked link f result → IsAfterAll
  asked_after result a = λ tell. (rounds_have_gained f.wires.tells f.wires.alone f.wires.before f.wires.after f.endpoints a.query f.old f.new f.block result tell a.federated).after_all

  pub gated_after : (gated : Gated) (reply : List ℕ) → IsGated link f gated reply → IsAfterAll
  gated_after gated reply (inl r) = unasked_after r.unasked
  gated_after gated reply (inr r) = asked_after r.result r.asked

-- ---- connections

pub are_told : ConnectionsAreTold
are_told before after f (Ok gated) c tells graphs known services_at serve = (c.0, gated_told before f gated c.0 tells graphs known services_at serve c.1, c.2)
are_told before after f (Err (error.WriteFault gated)) c tells graphs known services_at serve = (c.0, gated_told before f gated c.0 tells graphs known services_at serve c.1, c.2)
are_told before after f (Err error.ReadFault) c tells graphs known services_at serve = c.1
are_told before after f (Err error.Memory) c tells graphs known services_at serve = c.1

pub are_honest : ConnectionsAreHonest
are_honest before after f result c tells registry graphs known = by result c
  where
    services_at : List ℕ → List Triple
    services_at = graph_at f.endpoints graphs

    serve : Serve services_at f.endpoints graphs
    serve = serves_each f.wires.before f.endpoints graphs registry.addresses known.told

    by : (r : Result Gated GateError) → Connected before after f r → GainsReply before after (λ gated reply. gated.fault ≡ None → gated.abandoned ≡ [] → IsHonest (union graphs) before.left reply) r
    by (Ok gated) c = (c.0, gated_honest before f gated c.0 tells graphs known services_at serve c.1, c.2)
    by (Err (error.WriteFault gated)) c = (c.0, gated_honest before f gated c.0 tells graphs known services_at serve c.1, c.2)
    by (Err error.ReadFault) c = c.1
    by (Err error.Memory) c = c.1

pub stay_true : CachesStayTrue
stay_true before after f (Ok gated) c = gated_true before f gated c.0 c.1
stay_true before after f (Err (error.WriteFault gated)) c = gated_true before f gated c.0 c.1
stay_true before after f (Err error.ReadFault) c = unasked_true before f c.0
stay_true before after f (Err error.Memory) c = by c.0
  where
    by : IsUnasked f ⊎ ((result : Result OutcomeInRounds FedError) × WasAsked before f result) → (graphs : List (List Triple)) → AreKnown f.wires.before f.endpoints f.old graphs → All (source.Tells graphs) f.new
    by (inl u) = unasked_true before f u
    by (inr a) = asked_true before f a.0 a.1

pub are_after : WiresAreAfter
are_after before after f (Ok gated) c = gated_after before f gated c.0 c.1
are_after before after f (Err (error.WriteFault gated)) c = gated_after before f gated c.0 c.1
are_after before after f (Err error.ReadFault) c = unasked_after before f c.0
are_after before after f (Err error.Memory) c = by c.0
  where
    by : IsUnasked f ⊎ ((result : Result OutcomeInRounds FedError) × WasAsked before f result) → AllTell f.wires.tells f.wires.before → AreAfter f.wires.before f.wires.after
    by (inl u) = unasked_after before f u
    by (inr a) = asked_after before f a.0 a.1
