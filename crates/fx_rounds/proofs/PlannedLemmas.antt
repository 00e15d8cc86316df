-- What a plan in rounds rests on, and why there is none.
use Rattle.std.proofs.Common.{◌≡◌, ◌∙◌, ap, sym, subst, refl, ◌⊎◌, inl, inr, ℕ, ◌+◌, ◌≤◌, List, [], ◌∷◌, append-nil, length, All, Ok, Err, Result, arith}
use Rattle.std.proofs.lemmas.List.Elements.{All-nil}
use Rattle.fx_outside.specs.Endpoints.{EndpointParts}
use Rattle.fx_algebra.specs.declared.queries.Query.{Query}
use Rattle.fx_sources.specs.Probes.{Entry, missing}
use Rattle.fx_sources.specs.Registries.{IsRegistry}
use Rattle.fx_sources.specs.Sources as source
use Rattle.fx_traffic.specs.Gains.{WiresSeen, faults_at}
use Rattle.fx_outcomes.specs.InRounds.{IsRefusedAtAsks, IsUnasked, PlannedByAnswers, PlannedInRounds, by_asks}
use Rattle.fx_outcomes.specs.Mediation.{IsNamed}
use Rattle.fx_outcomes.specs.Rounds.{AreAnswers, IsLeftAtAsk, everybody}
use Rattle.fx_outcomes.specs.declared.federated.FedError.{FedError}
use Rattle.fx_outcomes.specs.declared.federated.FedError.TheVariants as fed
use Rattle.fx_outcomes.specs.declared.rounds.Left.{Left}
use Rattle.fx_outcomes.specs.declared.rounds.PlanInRounds.{PlanInRounds}
use Rattle.fx_rounds.specs.Answered.{IsPlanLicensed, IsPlanOver, PlansCountNone, PlansRestOnThis}
use Rattle.fx_rounds.specs.LeftOut.{AreLeftOut, LeavesSomebody, left_in, IsByNumber}
use Rattle.fx_rounds.specs.Licences.{Licence, lefts_failed}
use Rattle.fx_rounds.specs.Refused.{NoPlanServiceFails, PlanMembersFailed, RequiredFailed}
use Rattle.fx_rounds.proofs.LeftOutLemmas.{all_leave, left_of_asks, left_out, marked, once}
use Rattle.fx_rounds.proofs.LicenceLemmas.{asks_licensed}
use Rattle.fx_rounds.proofs.RefusedLemmas.{named_at_ask, no_service_named, unasked_member, unasked_service}
use Rattle.fx_rounds.proofs.NumberLemmas.{all_by_number, missing_come}

abbrev given : PlanInRounds → Result PlanInRounds FedError
given p = Ok p

abbrev refused : FedError → Result PlanInRounds FedError
refused e = Err e

-- ---- with a plan

module _ (w : WiresSeen) (es : List EndpointParts) (asked : Query) (new : List Entry) (p : PlanInRounds) where
  not_refused : (e : FedError) → given p ≡ refused e → ⊥
  not_refused e h = cc

  -- the ASKs were asked
  plans_went : PlannedInRounds w.tells w.alone w.before w.after es asked [] new (Ok p) → PlannedByAnswers w.tells w.alone w.before w.after es asked [] new (Ok p)
  plans_went f = by f.went
    where
      by : IsUnasked w.before w.after [] new (given p) ⊎ (IsRefusedAtAsks w.tells w.alone w.before w.after es asked [] new (given p) ⊎ PlannedByAnswers w.tells w.alone w.before w.after es asked [] new (given p))
          → PlannedByAnswers w.tells w.alone w.before w.after es asked [] new (given p)
      by (inl n) = absurd (not_refused n.error n.is)
      by (inr (inl h)) = absurd (not_refused h.error h.is)
      by (inr (inr it)) = it

  module _ (it : PlannedByAnswers w.tells w.alone w.before w.after es asked [] new (Ok p)) where
    lefts_are : left_in p.abandoned ≡ it.answers.left.items
    lefts_are = ap left_in it.listed ∙ left_of_asks it.answers.left.items

    plan_licensed : IsRegistry es → IsPlanLicensed w es asked it.answers.kept.items p.abandoned
    plan_licensed registry =
        let left = it.answers.left.items in
        let probes = missing asked (length es) [] in
        let fit : AreAnswers es probes it.answers = it.asking.fit in
        let causes : All (IsLeftAtAsk w.before w.after es probes it.asking.exchanges) left = it.asking.causes in
        let own : Licence es asked w.before w.after it.asking.exchanges left [] =
        asks_licensed es asked registry w.tells w.alone 0 w.before w.after it.asking.after_all probes (λ p among. among) it.asking.exchanges left (once es (everybody es) left fit.may_leave) (marked es (everybody es) left fit.may_leave) causes in
        let licence : Licence es asked w.before w.after it.asking.exchanges (left_in p.abandoned) [] = subst (λ (v : List Left). Licence es asked w.before w.after it.asking.exchanges v []) (sym lefts_are) own in
        record {
          left_out = subst (λ (v : List Left). AreLeftOut es v it.answers.kept.items) (sym lefts_are) (left_out es left it.answers.kept.items fit.may_leave fit.those_kept);
          leave = all_leave left [] p.abandoned (it.listed ∙ sym (append-nil (by_asks left))) (All-nil LeavesSomebody);
          by_number = all_by_number left [] p.abandoned (it.listed ∙ sym (append-nil (by_asks left))) (fit.by_number (missing_come asked (length es) [])) (All-nil IsByNumber);
          counted = λ address.
              let counted : faults_at w.before address + (lefts_failed es address (left_in p.abandoned) + 0) ≤ faults_at w.after address = licence.counted address in
              omega (arith, counted);
          exchanges = it.asking.exchanges;
          gained = it.asking.gained;
          licence = licence;
          texts = it.asking.wanted;
          unsent = it.asking.left;
          are_asks = record { probes = it.asking.asked; unasked = it.asking.unasked; lacked = it.asking.split; texts = it.asking.texts };
          sent = it.asking.sent;
        }

    plan_over_kept : IsPlanOver w es asked it.answers.kept.items p
    plan_over_kept graphs told = it.parts graphs (record { told = told; entries_are = All-nil (source.Tells graphs) })

pub plans_rest_on_this : PlansRestOnThis
plans_rest_on_this w es asked new p registry f =
    let it = plans_went w es asked new p f in
    (it.answers.kept.items, plan_licensed w es asked new p it registry, plan_over_kept w es asked new p it)

none_left : (left : List Left) → by_asks left ≡ [] → left ≡ []
none_left [] h = refl
none_left (l ∷ left) h = absurd (cc)

pub plans_count_none : PlansCountNone
plans_count_none w es asked new p f alone none address =
    let it = plans_went w es asked new p f in
    it.asking.quiet alone (none_left it.answers.left.items (sym it.listed ∙ none)) address

-- ---- without one

-- memory alone runs out behind the ASKs
not_member : (name : List ℕ) → fed.Member name ≡ fed.Memory → ⊥
not_member name h = cc

not_service : (iri : List ℕ) → fed.Service iri ≡ fed.Memory → ⊥
not_service iri h = cc

pub plan_members_failed : PlanMembersFailed
plan_members_failed w es asked new name f = by f.went
  where
    same : (e : FedError) → refused (fed.Member name) ≡ refused e → fed.Member name ≡ e
    same e h = cc

    by : IsUnasked w.before w.after [] new (refused (fed.Member name)) ⊎ (IsRefusedAtAsks w.tells w.alone w.before w.after es asked [] new (refused (fed.Member name)) ⊎ PlannedByAnswers w.tells w.alone w.before w.after es asked [] new (refused (fed.Member name)))
        → RequiredFailed w es name
    by (inl n) = absurd (unasked_member name n.error n.unasked (same n.error n.is))
    by (inr (inl h)) =
        named_at_ask w.before w.before w.after es name (λ a. omega arith) (missing asked (length es) []) h.asking.exchanges h.why h.asking.cause h.asking.required (subst (IsNamed es h.why) (sym (same h.error h.is)) h.named)
    by (inr (inr it)) = absurd (not_member name it.lost)

pub no_plan_service_fails : NoPlanServiceFails
no_plan_service_fails w es asked new iri f = by f.went
  where
    same : (e : FedError) → refused (fed.Service iri) ≡ refused e → fed.Service iri ≡ e
    same e h = cc

    by : IsUnasked w.before w.after [] new (refused (fed.Service iri)) ⊎ (IsRefusedAtAsks w.tells w.alone w.before w.after es asked [] new (refused (fed.Service iri)) ⊎ PlannedByAnswers w.tells w.alone w.before w.after es asked [] new (refused (fed.Service iri))) → ⊥
    by (inl n) = unasked_service iri n.error n.unasked (same n.error n.is)
    by (inr (inl h)) = no_service_named es iri h.why (subst (IsNamed es h.why) (sym (same h.error h.is)) h.named)
    by (inr (inr it)) = not_service iri it.lost
