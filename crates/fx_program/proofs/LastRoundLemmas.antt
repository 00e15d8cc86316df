-- What is known of the last round of a query: who is kept in it, what its wires tell, and by which plan it is asked.
use Rattle.std.proofs.Common.{sym, subst, refl, ℕ, ◌≤◌, ◌++◌, List, [], Result}
use Rattle.std.specs.Prelude.{Contains, length}
use Rattle.std.proofs.lemmas.List.Elements.{All-contains, All-nil, Contains-append_right}
use Rattle.std.proofs.lemmas.List.Sorted.{Contains-permutation}
use Rattle.fx_terms.specs.declared.triples.Triple.{Triple}
use Rattle.fx_outside.specs.Endpoints.{EndpointParts}
use Rattle.fx_algebra.specs.Units.{of_kept}
use Rattle.fx_algebra.specs.declared.queries.Query.{Query}
use Rattle.fx_sources.specs.Probes.{Entry}
use Rattle.fx_sources.specs.Sources as source
use Rattle.fx_traffic.specs.Gains.{TellAll, WiresSeen, faults_at}
use Rattle.fx_traffic.proofs.GainLemmas.{gain_laws}
use Rattle.fx_wire.specs.Exchanges.{Exchange}
use Rattle.fx_pool.proofs.WiresLemmas.{still_tell_all}
use Rattle.fx_outcomes.specs.InRounds.{WentInRounds, plan_over}
use Rattle.fx_outcomes.specs.Mediation.{Serve}
use Rattle.fx_outcomes.specs.Outcomes.{AllTell, IsPlannedOver}
use Rattle.fx_outcomes.specs.Rounds.{AreStillKept, everybody}
use Rattle.fx_outcomes.specs.declared.federated.FedError.{FedError}
use Rattle.fx_outcomes.specs.declared.rounds.OutcomeInRounds.{OutcomeInRounds}
use Rattle.fx_outcomes.proofs.KeptPlanLemmas.{plan_by_kept}
use Rattle.fx_rounds.specs.Gained.{rounds_exchanged}
use Rattle.fx_rounds.proofs.GainedLemmas.{has_begun, went_gained}
use Rattle.fx_program.specs.Completeness.{AreRepliesShort, AreWell, KeepRequired}
use Rattle.fx_program.proofs.KeptLemmas.{everybody_keeps, keep_without_all, rounds_keep, rounds_still_keep}

module _ (w : WiresSeen) (es : List EndpointParts) (asked : Query) (entries : List Entry) (block : ℕ) (r : Result OutcomeInRounds FedError) (alike : AllTell w.tells w.before) (it : WentInRounds w.tells w.alone w.before w.after es asked [] entries block r) where
  -- its wires are those before, later on: no count fell until then, and what they tell of graphs stayed
  pub low_at_last : (address : List ℕ) → faults_at w.before address ≤ faults_at it.went.between address
  low_at_last address = gain_laws.never_fall w.before it.went.between address (has_begun w.tells w.alone es asked block w.before w.after [] entries r alike it)

  pub told_at_last : (graphs : List (List Triple)) → TellAll w.before es graphs → TellAll it.went.between es graphs
  told_at_last graphs told = still_tell_all w.before it.went.between (has_begun w.tells w.alone es asked block w.before w.after [] entries r alike it) es graphs told

  -- each endpoint is kept that queries can't do without
  pub kept_at_last : KeepRequired es it.went.last_kept
  kept_at_last =
      let first : KeepRequired es it.answers.kept.items =
      subst (KeepRequired es) (sym it.asking.fit.those_kept) (keep_without_all es it.answers.left.items (everybody es) it.asking.fit.may_leave (everybody_keeps es)) in
      rounds_keep w.tells w.alone es asked (plan_over es asked [] it.answers) block it.asked it.went.between it.answers.kept.items it.went.last_kept it.went.abandoned it.went.rounds first

  -- the plan is by the sources that patterns have among the graphs of those that are kept
  pub planned_at_last : (graphs : List (List Triple)) (graph_at : List ℕ → List Triple) → TellAll w.before es graphs → Serve graph_at es graphs → IsPlannedOver it.went.between es asked (plan_over es asked [] it.answers it.went.last_kept) (of_kept it.went.last_kept graphs) graph_at
  planned_at_last graphs graph_at told serve =
      let later = told_at_last graphs told in
      let still : AreStillKept it.went.last_kept it.answers.kept.items =
      rounds_still_keep w.tells w.alone es asked (plan_over es asked [] it.answers) block it.asked it.went.between it.answers.kept.items it.went.last_kept it.went.abandoned it.went.rounds in
      record {
        all = graphs;
        told = later;
        served = serve;
        kept = it.went.last_kept;
        those_kept = refl;
        plan_is = plan_by_kept it.went.between es asked [] it.answers it.asking.fit it.went.last_kept still graphs later (All-nil (source.Tells graphs)) (it.asking.told graphs told);
      }

  -- no reply in it is longer than it may be
  pub short_at_last : AreWell w es asked → AreRepliesShort w → (x : Exchange) → Contains it.went.last.exchanges x → length x.reply ≤ 67108864
  short_at_last well replies x among =
      let all = went_gained w.tells w.alone es asked block w.before w.after [] entries r alike it in
      let mid = rounds_exchanged w.tells w.alone it.asked it.went.between es asked (plan_over es asked [] it.answers) block it.answers.kept.items it.went.last_kept it.went.abandoned it.went.rounds in
      let here : Contains (it.asking.exchanges ++ (mid ++ it.went.last.exchanges)) x =
      Contains-append_right it.asking.exchanges (mid ++ it.went.last.exchanges) x (Contains-append_right mid it.went.last.exchanges x among) in
      All-contains (λ (y : Exchange). length y.reply ≤ 67108864) all.exchanges x (replies all.exchanges (all.gained well.0))
      (Contains-permutation (it.asking.exchanges ++ (mid ++ it.went.last.exchanges)) all.exchanges x all.same here)
