-- Whom a refusal names.
use Rattle.std.proofs.Common.{◌≡◌, sym, subst, ◌⊎◌, inl, inr, ℕ, true, List, [], length}
use Rattle.std.specs.Prelude.{Contains}
use Rattle.fx_outside.specs.Endpoints.{EndpointParts}
use Rattle.fx_algebra.specs.declared.queries.Query.{Query}
use Rattle.fx_pool.specs.declared.jobs.BadReply.{BadReply}
use Rattle.fx_services.specs.declared.noted.DownCause.{DownCause}
use Rattle.fx_services.specs.declared.noted.DownCause.TheVariants as cause
use Rattle.fx_sources.specs.Probes.{Entry, missing}
use Rattle.fx_traffic.specs.Gains.{WiresSeen}
use Rattle.fx_outcomes.specs.Calls.{AreAllOrNone, Call, HasFirstRefused, occurrences}
use Rattle.fx_outcomes.specs.InRounds.{FederatedInRounds, IsRefusedAtAsks, IsUnasked, WentInRounds, plan_over}
use Rattle.fx_outcomes.specs.Mediation.{AtNamed, IsNamed}
use Rattle.fx_outcomes.specs.RoundEnds.{LeavesOut}
use Rattle.fx_outcomes.specs.declared.federated.FedError.{FedError}
use Rattle.fx_outcomes.specs.declared.federated.FedError.TheVariants as fed
use Rattle.fx_rounds.proofs.RefusedLemmas.{members_failed, no_service_named, unasked_service}
use Rattle.fx_laws_refusals.specs.Refusals.{IsAskedPlainly, IsNeededFor, NamesNoOptional, RefusalsNameNoOptional}
use Rattle.fx_laws_refusals.proofs.CauseLemmas.{AtRequired, bad_at_ask, bad_at_last, long_at_ask, long_at_last, of_query, refused, refused_among, same_refusal, service_at_last, unasked_bad, unasked_long}

-- ---- an occurrence without SILENT that was refused first is the query's

asked_plainly : (q : Query) (calls : List Call) (why : DownCause) (iri : List ℕ) → AreAllOrNone calls (occurrences q) → HasFirstRefused calls why iri → IsAskedPlainly q iri
asked_plainly q calls why iri called h = (h.refused.of, of_query q calls h.refused called (refused_among calls why iri h), h.plain, h.at)

-- ---- an endpoint that is named

required_is_needed : (es : List EndpointParts) (name : List ℕ) (q : Query) (P : EndpointParts → Type 0) → AtRequired es name P → AtNamed es name (IsNeededFor q)
required_is_needed es name q P h = (h.0, h.1, h.2, inl h.3.0)

plain_is_needed : (es : List EndpointParts) (name : List ℕ) (q : Query) (calls : List Call) (why : DownCause) → AreAllOrNone calls (occurrences q) → AtNamed es name (λ e. HasFirstRefused calls why e.iri) → AtNamed es name (IsNeededFor q)
plain_is_needed es name q calls why called h = (h.0, h.1, h.2, inr (asked_plainly q calls why h.0.iri called h.3))

-- ---- the law

module _ (w : WiresSeen) (es : List EndpointParts) (asked : Query) (new : List Entry) (block : ℕ) where
  abbrev Went : FedError → Type 0
  Went e = IsUnasked w.before w.after [] new (refused e) ⊎ (IsRefusedAtAsks w.tells w.alone w.before w.after es asked [] new (refused e) ⊎ WentInRounds w.tells w.alone w.before w.after es asked [] new block (refused e))

  service_needed : (iri : List ℕ) → Went (fed.Service iri) → ((e : EndpointParts) × Contains es e × (e.iri ≡ iri)) × IsAskedPlainly asked iri
  service_needed iri (inl n) = absurd (unasked_service iri n.error n.unasked (same_refusal (fed.Service iri) n.error n.is))
  service_needed iri (inr (inl h)) = absurd (no_service_named es iri h.why (subst (IsNamed es h.why) (sym (same_refusal (fed.Service iri) h.error h.is)) h.named))
  service_needed iri (inr (inr it)) =
      let last = it.went.last in
      let k = service_at_last (LeavesOut es) w.tells w.alone it.went.between w.after es asked (plan_over es asked [] it.answers it.went.last_kept) block iri it.went.ended last it.told in
      (k.1, asked_plainly asked last.calls cause.Failed iri last.called k.0)

  bad_needed : (name : List ℕ) (bad : BadReply) → Went (fed.BadReply name bad) → AtNamed es name (IsNeededFor asked)
  bad_needed name bad (inl n) = absurd (unasked_bad name bad n.error n.unasked (same_refusal (fed.BadReply name bad) n.error n.is))
  bad_needed name bad (inr (inl h)) =
      required_is_needed es name asked _
      (bad_at_ask w.before w.after es (missing asked (length es) []) h.asking.exchanges name bad h.why h.asking.cause h.asking.required (subst (IsNamed es h.why) (sym (same_refusal (fed.BadReply name bad) h.error h.is)) h.named))
  bad_needed name bad (inr (inr it)) =
      by (bad_at_last (LeavesOut es) w.tells w.alone it.went.between w.after es asked (plan_over es asked [] it.answers it.went.last_kept) block name bad it.went.ended it.went.last it.told)
    where
      by : {P : EndpointParts → Type 0} → AtRequired es name P ⊎ AtNamed es name (λ e. HasFirstRefused it.went.last.calls (cause.Bad bad) e.iri) → AtNamed es name (IsNeededFor asked)
      by (inl b) = required_is_needed es name asked _ b
      by (inr r) = plain_is_needed es name asked it.went.last.calls (cause.Bad bad) it.went.last.called r

  long_needed : (name : List ℕ) (size : ℕ) → Went (fed.RequestTooLong name size) → AtNamed es name (IsNeededFor asked)
  long_needed name size (inl n) = absurd (unasked_long name size n.error n.unasked (same_refusal (fed.RequestTooLong name size) n.error n.is))
  long_needed name size (inr (inl h)) =
      required_is_needed es name asked _
      (long_at_ask w.before w.after es (missing asked (length es) []) h.asking.exchanges name size h.why h.asking.cause h.asking.required (subst (IsNamed es h.why) (sym (same_refusal (fed.RequestTooLong name size) h.error h.is)) h.named))
  long_needed name size (inr (inr it)) =
      by (long_at_last (LeavesOut es) w.tells w.alone it.went.between w.after es asked (plan_over es asked [] it.answers it.went.last_kept) block name size it.went.ended it.went.last it.told)
    where
      by : {P : EndpointParts → Type 0} → AtRequired es name P ⊎ AtNamed es name (λ e. HasFirstRefused it.went.last.calls (cause.TooLong size) e.iri) → AtNamed es name (IsNeededFor asked)
      by (inl b) = required_is_needed es name asked _ b
      by (inr r) = plain_is_needed es name asked it.went.last.calls (cause.TooLong size) it.went.last.called r

  needed : (e : FedError) → FederatedInRounds w.tells w.alone w.before w.after es asked [] new block (refused e) → NamesNoOptional es asked e
  needed (fed.Member name) f = let k = members_failed w es asked new block name f in (k.0, k.1, k.2, k.3.0)
  needed (fed.Service iri) f = service_needed iri f.went
  needed (fed.BadReply name bad) f = bad_needed name bad f.went
  needed (fed.RequestTooLong name size) f = long_needed name size f.went
  needed (fed.UnknownService iri) f = tt
  needed fed.Memory f = tt

pub refusals_name_no_optional : RefusalsNameNoOptional
refusals_name_no_optional w es asked new block e f = needed w es asked new block e f
