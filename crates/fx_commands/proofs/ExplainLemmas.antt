-- What the steps of `explain` report is what the whole reports.
use Rattle.std.proofs.Common.{◌≡◌, ◌∙◌, ap, sym, subst, refl, ℕ, ◌≤◌, ◌⊎◌, Bool, List, Option, Some, None, Ok, Err, IfOk, length, inl, inr}
use Rattle.std.specs.Prelude.{All, IfSome, Result}
use Rattle.fx_outside.specs.Endpoints.{EndpointParts}
use Rattle.fx_algebra.specs.declared.queries.Query.{Query}
use Rattle.fx_grammar.specs.Accepted.{Accepted}
use Rattle.fx_plan.specs.Explained.{HasMembers, explained}
use Rattle.fx_pool.proofs.WireLemmas.{after_itself}
use Rattle.fx_sources.specs.Probes.{Entry}
use Rattle.fx_sources.specs.Registries.{IsRegistry, read_registry}
use Rattle.fx_traffic.specs.Gains.{AreAfter, WiresSeen}
use Rattle.fx_wire.specs.Exchanges.{Seen}
use Rattle.fx_outcomes.specs.InRounds.{IsRefusedAtAsks, IsUnasked, PlannedByAnswers, PlannedInRounds}
use Rattle.fx_outcomes.specs.declared.federated.FedError.{FedError}
use Rattle.fx_outcomes.specs.declared.federated.FedError.TheVariants as fed
use Rattle.fx_outcomes.specs.declared.rounds.PlanInRounds.{PlanInRounds}
use Rattle.fx_rounds.specs.LeftOut.{left_in}
use Rattle.fx_rounds.proofs.PlannedLemmas.{plans_rest_on_this}
use Rattle.fx_local.specs.Limits.{query_limit, registry_limit}
use Rattle.fx_local.specs.declared.statuses.Status.{Status}
use Rattle.fx_commands.specs.Explain.{IsExplainCut, IsExplainDone, IsExplainReported, IsExplanation, IsExplanationOf, IsPlanCut, IsPlanText, IsPlanWritten}
use Rattle.fx_commands.specs.FedRefusals.{IsGivenEnd, fed_line, fed_status_of}
use Rattle.fx_local.specs.Files.{FileRead}
use Rattle.fx_local.specs.LocalSteps.{GivesQuery}
use Rattle.fx_lines.specs.MemberLines.{plan_lines}
use Rattle.fx_commands.specs.MemberSteps.{IsLaidOut, IsLayoutCut, IsLayoutDone, IsLayoutReported}
use Rattle.fx_local.specs.RegistryFiles.{GivesRegistry}
use Rattle.fx_local.specs.Sinks.{SinkWritten}
use Rattle.fx_commands.proofs.QueryLemmas.{want_before}

none_planned : (p : PlanInRounds) → Ok p ≡ Err fed.Memory → ⊥
none_planned p h = cc

-- the plan by what the members said is that by the sources of the patterns among those that are kept
pub plan_text : (w : WiresSeen) (es : List EndpointParts) (asked : Query) (p : PlanInRounds) (text : List ℕ) → IsRegistry es → IsLaidOut w es asked (Ok p) → text ≡ explained p.parts.items es → IsPlanText w.before es asked text
plan_text w es asked p text registry (inl none) is = absurd (none_planned p none.1)
plan_text w es asked p text registry (inr given) is =
    let rests = plans_rest_on_this w es asked given.entries p registry given.in_rounds in
    (left_in p.abandoned, rests.0, rests.1.left_out, λ graphs told. is ∙ ap (λ ps. explained ps es) (rests.2 graphs told))

module _ (tells alone : Bool) (before after : List Seen) (es : List EndpointParts) (q : Query) (old new : List Entry) where
  not_refused : (p : PlanInRounds) (e : FedError) → Ok p ≡ Err e → ⊥
  not_refused p e h = cc

  -- the members of its parts are those of the registry
  pub plan_within : (result : Result PlanInRounds FedError) → PlannedInRounds tells alone before after es q old new result → IfOk result (λ p. All (HasMembers (length es)) p.parts.items)
  plan_within (Err e) h = tt
  plan_within (Ok p) h = by h.went
    where
      by : IsUnasked before after old new (Ok p) ⊎ (IsRefusedAtAsks tells alone before after es q old new (Ok p) ⊎ PlannedByAnswers tells alone before after es q old new (Ok p)) → All (HasMembers (length es)) p.parts.items
      by (inl u) = absurd (not_refused p u.error u.is)
      by (inr (inl r)) = absurd (not_refused p r.error r.is)
      by (inr (inr w)) = w.within

  -- what it leaves of the wires is what exchanges leave of them
  pub plan_after : (result : Result PlanInRounds FedError) → PlannedInRounds tells alone before after es q old new result → AreAfter before after
  plan_after result h = by h.went
    where
      by : IsUnasked before after old new result ⊎ (IsRefusedAtAsks tells alone before after es q old new result ⊎ PlannedByAnswers tells alone before after es q old new result) → AreAfter before after
      by (inl u) = subst (λ (l : List Seen). AreAfter before l) (sym u.same) (after_itself before)
      by (inr (inl r)) = r.asking.after_all
      by (inr (inr w)) = w.asking.after_all

-- ---- reports

pub plan_given : (w : WiresSeen) (es : List EndpointParts) (asked : Query) (p : PlanInRounds) (s : Status) (text : List ℕ) → IsRegistry es → IsLaidOut w es asked (Ok p) → IsGivenEnd (plan_lines es p) s text → IsLayoutReported w es asked s text
plan_given w es asked p s text registry (inl none) end = absurd (none_planned p none.1)
plan_given w es asked p s text registry (inr given) end = inr (Ok p, registry, given, end)

pub plan_done : (w : WiresSeen) (es : List EndpointParts) (asked : Query) (p : PlanInRounds) (out err : SinkWritten) → IsRegistry es → IsLaidOut w es asked (Ok p) → IsPlanWritten es p out err → IsLayoutDone w es asked out err
plan_done w es asked p out err registry (inl none) wrote = absurd (none_planned p none.1)
plan_done w es asked p out err registry (inr given) wrote = (p, registry, given, wrote)

pub plan_cut : (w : WiresSeen) (es : List EndpointParts) (asked : Query) (p : PlanInRounds) (out : SinkWritten) → IsRegistry es → IsLaidOut w es asked (Ok p) → IsPlanCut es p out → IsLayoutCut w es asked out
plan_cut w es asked p out registry (inl none) wrote = absurd (none_planned p none.1)
plan_cut w es asked p out registry (inr given) wrote = (p, registry, given, wrote)

pub plan_refused : (w : WiresSeen) (es : List EndpointParts) (asked : Query) (e : FedError) (s : Status) → IsRegistry es → s ≡ fed_status_of e → IsLaidOut w es asked (Err e) → IsLayoutReported w es asked s (fed_line e)
plan_refused w es asked e s registry is (inl none) = let same = the_want (Err e) e refl none.1 in inl (none.0, (is ∙ ap fed_status_of same, ap fed_line same))
  where
    the_want : (r : Result PlanInRounds FedError) (e : FedError) → r ≡ Err e → r ≡ Err fed.Memory → e ≡ fed.Memory
    the_want r e a b = cc
plan_refused w es asked e s registry is (inr given) = inr (Err e, registry, given, (is, refl))

pub plan_explained : (w : WiresSeen) (r q : FileRead) (es : List EndpointParts) (asked : Query) (s : Status) (text : List ℕ) → GivesRegistry r (Ok es) → GivesQuery q (Ok asked) → IsLayoutReported w es asked s text → IsExplainReported w r q s text
plan_explained w r q es asked s text g h (inl (none, want)) = inl (none, want_before r q s text want)
plan_explained w r q es asked s text g h (inr (result, registry, planned, end)) = inr (result, record { endpoints = es; registered = g; registry = registry; asked = asked; accepted = h; planned = planned }, end)

pub explain_done : (w : WiresSeen) (r q : FileRead) (es : List EndpointParts) (asked : Query) (out err : SinkWritten) → GivesRegistry r (Ok es) → GivesQuery q (Ok asked) → IsLayoutDone w es asked out err → IsExplainDone w r q out err
explain_done w r q es asked out err g h (p, registry, planned, wrote) = (p, record { endpoints = es; registered = g; registry = registry; asked = asked; accepted = h; planned = planned }, wrote)

pub explain_cut : (w : WiresSeen) (r q : FileRead) (es : List EndpointParts) (asked : Query) (out : SinkWritten) → GivesRegistry r (Ok es) → GivesQuery q (Ok asked) → IsLayoutCut w es asked out → IsExplainCut w r q out
explain_cut w r q es asked out g h (p, registry, planned, wrote) = (p, record { endpoints = es; registered = g; registry = registry; asked = asked; accepted = h; planned = planned }, wrote)

pub an_explanation : (wires : List Seen) (r q : FileRead) (es : List EndpointParts) (asked : Query) (text : List ℕ) → GivesRegistry r (Ok es) → GivesQuery q (Ok asked) → IsPlanText wires es asked text → IsExplanation wires r q text
an_explanation wires r q es asked text g h k = pick r.content g
  where
    both : (all : List ℕ) → read_registry all ≡ Ok es → (o : Option (List ℕ)) → IfSome o (λ query. (length query ≤ query_limit) × Accepted query asked) → IfSome o (λ query. IsExplanationOf wires all query text)
    both all e None h = tt
    both all e (Some query) h = record { endpoints = es; registered = e; asked = asked; accepted = h.1; text_is = k }

    pick : (o : Option (List ℕ)) → IfSome o (λ all. (length all ≤ registry_limit) × (read_registry all ≡ Ok es)) → IfSome o (λ all. IfSome q.content (λ query. IsExplanationOf wires all query text))
    pick None g = tt
    pick (Some all) g = both all g.1 q.content h
