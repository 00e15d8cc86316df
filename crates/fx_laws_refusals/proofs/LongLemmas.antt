-- A text that a refusal tells as too long is one of the call's.
use Rattle.std.proofs.Common.{◌≡◌, sym, subst, ◌⊎◌, inl, inr, ℕ, true, List, [], length}
use Rattle.std.specs.Prelude.{Contains}
use Rattle.std.proofs.lemmas.List.Elements.{All-contains}
use Rattle.fx_outside.specs.Endpoints.{EndpointParts}
use Rattle.fx_algebra.specs.declared.queries.Query.{Query}
use Rattle.fx_algebra.specs.declared.units.Unit as unit
use Rattle.fx_flows.specs.Flows.{IsLongBatch}
use Rattle.fx_http.specs.Requests.{request_of}
use Rattle.fx_services.specs.declared.noted.DownCause.TheVariants as cause
use Rattle.fx_sources.specs.Probes.{Entry, missing}
use Rattle.fx_traffic.specs.Gains.{WiresSeen}
use Rattle.fx_walks.specs.GroupsAsked.{units_in}
use Rattle.fx_walks.specs.Tasks.{tasks_with}
use Rattle.fx_wire.specs.Exchanges.{Exchange}
use Rattle.fx_outcomes.specs.Asks.{IsLongAsk}
use Rattle.fx_outcomes.specs.Calls.{Came, HasComeTo, HasFirstRefused, failed}
use Rattle.fx_outcomes.specs.InRounds.{IsRefusedAtAsks, IsUnasked, WentInRounds, plan_over}
use Rattle.fx_outcomes.specs.Mediation.{AtNamed, IsNamed}
use Rattle.fx_outcomes.specs.Outcomes.{AllTell}
use Rattle.fx_outcomes.specs.RoundEnds.{LeavesOut}
use Rattle.fx_outcomes.specs.declared.federated.FedError.TheVariants as fed
use Rattle.fx_rounds.specs.Licences.{IsPlannedFor}
use Rattle.fx_rounds.proofs.AskedForLemmas.{units_for}
use Rattle.fx_laws_refusals.specs.Refusals.{IsOwnLongRequest, LongRequestsAreOwn}
use Rattle.fx_laws_refusals.proofs.CauseLemmas.{AtBatch, AtProbe, AtRequired, long_at_ask, long_at_last, of_query, refused, refused_among, same_refusal, sent_among, unasked_long}
use Rattle.fx_laws_refusals.proofs.RoundLemmas.{come_among, kept_at_last, runs_at_last, were_invoked}

module _ (w : WiresSeen) (es : List EndpointParts) (asked : Query) (new : List Entry) (block : ℕ) (name : List ℕ) (size : ℕ) where
  abbrev Own : Type 0
  Own = AtNamed es name (λ e. IsOwnLongRequest w es asked block e size)

  -- ---- an ASK is too long

  at_asks : AtRequired es name (AtProbe es (missing asked (length es) []) (λ e p. IsLongAsk p size)) → Own
  at_asks (e, here, named, (required, (p, among, found, is))) = (e, here, named, record { long = is.1; asked = inl (required, inl (p, record { lacked = among; found = found }, is)) })

  -- ---- the last round

  module _ (alike : AllTell w.tells w.before) (it : WentInRounds w.tells w.alone w.before w.after es asked [] new block (refused (fed.RequestTooLong name size))) where
    -- a batch is
    at_batch : AtRequired es name (AtBatch es (units_in (tasks_with (plan_over es asked [] it.answers it.went.last_kept) it.went.last.found)) block it.went.last.texts (λ e u rows. IsLongBatch e (record { unit = u; rows = rows }) size)) → Own
    at_batch (e, here, named, (required, k)) =
        let us : List unit.Unit = units_in (tasks_with (plan_over es asked [] it.answers it.went.last_kept) it.went.last.found) in (
          e,
          here,
          named,
          record {
            long = k.cause.long;
            asked =
                inl (
                  required,
                  inr
                      (record {
                        unit = k.unit;
                        of_query = All-contains (IsPlannedFor asked) us k.unit (units_for es asked [] it.answers it.went.last_kept it.went.last.found) k.of_run;
                        rows = k.rows;
                        sized = k.sized;
                        at = k.at;
                        member = k.member;
                        found = k.found;
                        text = k.cause.text;
                        of_batch = k.cause.of_batch;
                        size_is = k.cause.size_is;
                        texts = it.went.last.texts;
                        among = k.allowed (record { at = e; request = request_of e k.cause.text }) (sent_among es k.unit k.rows k.at e k.cause.text k.member k.found k.cause.of_batch);
                        kept = it.went.last_kept;
                        keep = kept_at_last w es asked new block (fed.RequestTooLong name size) alike it;
                        calls = it.went.last.calls;
                        invoked = were_invoked w es asked new block (fed.RequestTooLong name size) alike it;
                        runs = runs_at_last w es asked new block (fed.RequestTooLong name size) alike it;
                      }),
                );
          },
        )

    -- the text of an occurrence of SERVICE is
    came_long : (e : EndpointParts) → Contains es e → e.name ≡ name → (k : HasFirstRefused it.went.last.calls (cause.TooLong size) e.iri) → (mine : List Exchange) → HasComeTo it.went.between es k.refused.of.iri k.refused.of.group (failed (cause.TooLong size)) mine → Own
    came_long e here named k mine (d, there, at, (nothing, is, long)) = (
      e,
      here,
      named,
      record {
        long = long;
        asked =
            inr
            (record {
              calls = it.went.last.calls;
              invoked = were_invoked w es asked new block (fed.RequestTooLong name size) alike it;
              first = k;
              of_query = of_query asked it.went.last.calls k.refused it.went.last.called (refused_among it.went.last.calls (cause.TooLong size) e.iri k);
              size_is = is;
            });
      },
    )

    at_service : AtNamed es name (λ e. HasFirstRefused it.went.last.calls (cause.TooLong size) e.iri) → Own
    at_service (e, here, named, k) =
        let its = come_among w es asked new block (fed.RequestTooLong name size) alike it k.refused (refused_among it.went.last.calls (cause.TooLong size) e.iri k) in
        came_long e here named k its.0 (subst (λ (v : Came). HasComeTo it.went.between es k.refused.of.iri k.refused.of.group v its.0) k.came its.1)

  -- ---- the law

  own_long : AllTell w.tells w.before
      → IsUnasked w.before w.after [] new (refused (fed.RequestTooLong name size)) ⊎ (IsRefusedAtAsks w.tells w.alone w.before w.after es asked [] new (refused (fed.RequestTooLong name size)) ⊎ WentInRounds w.tells w.alone w.before w.after es asked [] new block (refused (fed.RequestTooLong name size))) → Own
  own_long alike (inl n) = absurd (unasked_long name size n.error n.unasked (same_refusal (fed.RequestTooLong name size) n.error n.is))
  own_long alike (inr (inl h)) =
      at_asks
      (long_at_ask w.before w.after es (missing asked (length es) []) h.asking.exchanges name size h.why h.asking.cause h.asking.required (subst (IsNamed es h.why) (sym (same_refusal (fed.RequestTooLong name size) h.error h.is)) h.named))
  own_long alike (inr (inr it)) =
      by (long_at_last (LeavesOut es) w.tells w.alone it.went.between w.after es asked (plan_over es asked [] it.answers it.went.last_kept) block name size it.went.ended it.went.last it.told)
    where
      by : AtRequired es name (AtBatch es (units_in (tasks_with (plan_over es asked [] it.answers it.went.last_kept) it.went.last.found)) block it.went.last.texts (λ e u rows. IsLongBatch e (record { unit = u; rows = rows }) size))
          ⊎ AtNamed es name (λ e. HasFirstRefused it.went.last.calls (cause.TooLong size) e.iri) → Own
      by (inl b) = at_batch alike it b
      by (inr r) = at_service alike it r

pub long_requests_are_own : LongRequestsAreOwn
long_requests_are_own w es asked new block name size alike f = own_long w es asked new block name size alike f.went
