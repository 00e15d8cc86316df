-- A bad reply that a refusal tells is that of an exchange of the call.
use Rattle.std.proofs.Common.{◌≡◌, ◌∙◌, sym, subst, refl, ◌⊎◌, inl, inr, ℕ, true, List, [], ◌∷◌, length}
use Rattle.std.specs.Prelude.{Contains}
use Rattle.std.proofs.lemmas.List.Elements.{All-contains}
use Rattle.fx_terms.proofs.SetLemmas.{among_from, contains_from}
use Rattle.fx_outside.specs.Endpoints.{EndpointParts}
use Rattle.fx_algebra.specs.declared.queries.Query.{Query}
use Rattle.fx_algebra.specs.declared.units.Unit as unit
use Rattle.fx_flows.specs.Flows.{IsBadBatch}
use Rattle.fx_pool.specs.declared.jobs.BadReply.{BadReply}
use Rattle.fx_pool.proofs.WiresLemmas.{still_tell}
use Rattle.fx_services.specs.ServicesAsked.{IsBadService}
use Rattle.fx_services.specs.declared.noted.DownCause.TheVariants as cause
use Rattle.fx_sources.specs.Probes.{Entry, missing}
use Rattle.fx_sources.specs.Registries.{IsRegistry}
use Rattle.fx_traffic.specs.Gains.{AreAfter, Tell, WiresSeen}
use Rattle.fx_walks.specs.GroupsAsked.{units_in}
use Rattle.fx_walks.specs.Tasks.{tasks_with}
use Rattle.fx_wire.specs.Exchanges.{Exchange, exchanged}
use Rattle.fx_outcomes.specs.Asks.{IsBadAsk}
use Rattle.fx_outcomes.specs.Calls.{Call, Came, HasComeTo, HasFirstRefused, failed}
use Rattle.fx_outcomes.specs.InRounds.{IsRefusedAtAsks, IsUnasked, WentInRounds, plan_over}
use Rattle.fx_outcomes.specs.Mediation.{AtNamed, IsNamed}
use Rattle.fx_outcomes.specs.Outcomes.{AllTell}
use Rattle.fx_outcomes.specs.RoundEnds.{LeavesOut}
use Rattle.fx_outcomes.specs.declared.federated.FedError.TheVariants as fed
use Rattle.fx_rounds.specs.Licences.{IsPlannedFor}
use Rattle.fx_rounds.proofs.AskedForLemmas.{units_for}
use Rattle.fx_rounds.proofs.GainedLemmas.{has_begun}
use Rattle.fx_rounds.proofs.ReplyLemmas.{one_endpoint}
use Rattle.fx_laws_refusals.specs.Refusals.{BadRepliesAreOwn, IsOwnBadReply}
use Rattle.fx_laws_refusals.proofs.CauseLemmas.{AtBatch, AtProbe, AtRequired, bad_at_ask, bad_at_last, of_query, refused, refused_among, same_refusal, unasked_bad}
use Rattle.fx_laws_refusals.proofs.RoundLemmas.{come_among, in_all, run_among, were_invoked}

module _ (w : WiresSeen) (es : List EndpointParts) (asked : Query) (new : List Entry) (block : ℕ) (name : List ℕ) (bad : BadReply) where
  abbrev Own : Type 0
  Own = AtNamed es name (λ e. IsOwnBadReply w es asked e bad)

  -- ---- an ASK was refused

  at_asks : (h : IsRefusedAtAsks w.tells w.alone w.before w.after es asked [] new (refused (fed.BadReply name bad)))
      → AtRequired es name (AtProbe es (missing asked (length es) []) (λ e p. IsBadAsk (Tell w.before e.iri) e p h.asking.exchanges bad)) → Own
  at_asks h (e, here, named, (required, (p, among, found, is))) = (
    e,
    here,
    named,
    record {
      exchanges = h.asking.exchanges;
      gained = h.asking.gained;
      among = is.exchanged_so;
      asked = inl (required, inl (record { probe = p; of_query = among; found = found; posts = is.posts; fault = is.fault }));
      long = is.long;
    },
  )

  -- ---- the last round

  module _ (registry : IsRegistry es) (alike : AllTell w.tells w.before) (it : WentInRounds w.tells w.alone w.before w.after es asked [] new block (refused (fed.BadReply name bad))) where
    began : AreAfter w.before it.went.between
    began = has_begun w.tells w.alone es asked block w.before w.after [] new (refused (fed.BadReply name bad)) alike it

    -- of a batch
    at_batch : AtRequired es name (AtBatch es (units_in (tasks_with (plan_over es asked [] it.answers it.went.last_kept) it.went.last.found)) block it.went.last.texts (λ e u rows. IsBadBatch (Tell it.went.between e.iri) e (record { unit = u; rows = rows }) it.went.last.of_runs bad)) → Own
    at_batch (e, here, named, (required, k)) =
        let us : List unit.Unit = units_in (tasks_with (plan_over es asked [] it.answers it.went.last_kept) it.went.last.found) in
        let x : Exchange = exchanged e bad.request bad.reply in (
          e,
          here,
          named,
          record {
            exchanges = (in_all w es asked new block (fed.BadReply name bad) alike it).exchanges;
            gained = (in_all w es asked new block (fed.BadReply name bad) alike it).gained;
            among = run_among w es asked new block (fed.BadReply name bad) alike it x k.cause.exchanged_so;
            asked =
                inl (
                  required,
                  inr
                      (record {
                        unit = k.unit;
                        of_query = All-contains (IsPlannedFor asked) us k.unit (units_for es asked [] it.answers it.went.last_kept it.went.last.found) k.of_run;
                        rows = k.rows;
                        at = k.at;
                        member = k.member;
                        found = k.found;
                        text = k.cause.text;
                        of_batch = k.cause.of_batch;
                        posts = k.cause.posts;
                        fault = k.cause.fault;
                      }),
                );
            long = λ g told. k.cause.long g (still_tell w.before it.went.between e.iri g began told);
          },
        )

    -- of an occurrence of SERVICE
    came_bad : (e : EndpointParts) → Contains es e → e.name ≡ name → (k : HasFirstRefused it.went.last.calls (cause.Bad bad) e.iri) → (mine : List Exchange) → ((x : Exchange) → Contains mine x → Contains (in_all w es asked new block (fed.BadReply name bad) alike it).exchanges x)
        → HasComeTo it.went.between es k.refused.of.iri k.refused.of.group (failed (cause.Bad bad)) mine → Own
    came_bad e here named k mine among (d, there, at, own) =
        let c : Call = k.refused in
        let x : Exchange = exchanged e bad.request bad.reply in
        let same : d ≡ e = one_endpoint (λ (v : EndpointParts). v.iri) es registry.addresses d e (among_from es d there) (among_from es e here) (at ∙ k.at) in
        let is : IsBadService (Tell it.went.between c.of.iri) e c.of.group mine bad = subst (λ (v : EndpointParts). IsBadService (Tell it.went.between c.of.iri) v c.of.group mine bad) same own in (
          e,
          here,
          named,
          record {
            exchanges = (in_all w es asked new block (fed.BadReply name bad) alike it).exchanges;
            gained = (in_all w es asked new block (fed.BadReply name bad) alike it).gained;
            among = among x (subst (λ (l : List Exchange). Contains l x) (sym is.alone) (contains_from (x ∷ []) x (inl refl)));
            asked =
                inr
                (record {
                  calls = it.went.last.calls;
                  invoked = were_invoked w es asked new block (fed.BadReply name bad) alike it;
                  first = k;
                  asked =
                      record {
                        occurrence = c.of;
                        of_query = of_query asked it.went.last.calls c it.went.last.called (refused_among it.went.last.calls (cause.Bad bad) e.iri k);
                        plain = k.plain;
                        endpoint = here;
                        named = sym k.at;
                        posts = is.posts;
                        fault = is.fault;
                      };
                  same = refl;
                });
            long = λ g told. is.long g (subst (λ (a : List ℕ). Tell it.went.between a g) (sym k.at) (still_tell w.before it.went.between e.iri g began told));
          },
        )

    at_service : AtNamed es name (λ e. HasFirstRefused it.went.last.calls (cause.Bad bad) e.iri) → Own
    at_service (e, here, named, k) =
        let its = come_among w es asked new block (fed.BadReply name bad) alike it k.refused (refused_among it.went.last.calls (cause.Bad bad) e.iri k) in
        came_bad e here named k its.0 its.2 (subst (λ (v : Came). HasComeTo it.went.between es k.refused.of.iri k.refused.of.group v its.0) k.came its.1)

  -- ---- the law

  own_bad : AllTell w.tells w.before → IsRegistry es
      → IsUnasked w.before w.after [] new (refused (fed.BadReply name bad)) ⊎ (IsRefusedAtAsks w.tells w.alone w.before w.after es asked [] new (refused (fed.BadReply name bad)) ⊎ WentInRounds w.tells w.alone w.before w.after es asked [] new block (refused (fed.BadReply name bad))) → Own
  own_bad alike registry (inl n) = absurd (unasked_bad name bad n.error n.unasked (same_refusal (fed.BadReply name bad) n.error n.is))
  own_bad alike registry (inr (inl h)) =
      at_asks h
      (bad_at_ask w.before w.after es (missing asked (length es) []) h.asking.exchanges name bad h.why h.asking.cause h.asking.required (subst (IsNamed es h.why) (sym (same_refusal (fed.BadReply name bad) h.error h.is)) h.named))
  own_bad alike registry (inr (inr it)) =
      by (bad_at_last (LeavesOut es) w.tells w.alone it.went.between w.after es asked (plan_over es asked [] it.answers it.went.last_kept) block name bad it.went.ended it.went.last it.told)
    where
      by : AtRequired es name (AtBatch es (units_in (tasks_with (plan_over es asked [] it.answers it.went.last_kept) it.went.last.found)) block it.went.last.texts (λ e u rows. IsBadBatch (Tell it.went.between e.iri) e (record { unit = u; rows = rows }) it.went.last.of_runs bad))
          ⊎ AtNamed es name (λ e. HasFirstRefused it.went.last.calls (cause.Bad bad) e.iri) → Own
      by (inl b) = at_batch registry alike it b
      by (inr r) = at_service registry alike it r

pub bad_replies_are_own : BadRepliesAreOwn
bad_replies_are_own w es asked new block name bad alike registry f = own_bad w es asked new block name bad alike registry f.went
