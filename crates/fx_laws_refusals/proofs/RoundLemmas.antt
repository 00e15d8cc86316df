-- What is known of the last round of a query that was refused: who is kept in it, which occurrences of SERVICE were invoked, and what was exchanged.
use Rattle.std.proofs.Common.{sym, subst, refl, inl, inr, ℕ, ◌++◌, List, [], ◌∷◌}
use Rattle.std.specs.Prelude.{Contains}
use Rattle.std.proofs.lemmas.List.Elements.{All-nil, Contains-append_left, Contains-append_right}
use Rattle.std.proofs.lemmas.List.Sorted.{Contains-permutation}
use Rattle.fx_terms.specs.declared.triples.Triple.{Triple}
use Rattle.fx_terms.proofs.SetLemmas.{Among}
use Rattle.fx_outside.specs.Endpoints.{EndpointParts}
use Rattle.fx_algebra.specs.Cuts.{seeds, stations}
use Rattle.fx_algebra.specs.Graphs.{union}
use Rattle.fx_algebra.specs.Units.{of_kept}
use Rattle.fx_algebra.specs.declared.queries.Query.{Query}
use Rattle.fx_sources.specs.Probes.{Entry}
use Rattle.fx_sources.specs.Sources as source
use Rattle.fx_traffic.specs.Gains.{TellAll, WiresSeen}
use Rattle.fx_walks.specs.RunsSent.{AreRunsSent}
use Rattle.fx_wire.specs.Exchanges.{Exchange, Seen}
use Rattle.fx_pool.proofs.WiresLemmas.{still_tell_all}
use Rattle.fx_outcomes.specs.Calls.{AgreesWith, AreCalls, Call, HasComeTo}
use Rattle.fx_outcomes.specs.InRounds.{WentInRounds, plan_over}
use Rattle.fx_outcomes.specs.Mediation.{Serve}
use Rattle.fx_outcomes.specs.Outcomes.{AllTell}
use Rattle.fx_outcomes.specs.Rounds.{AreStillKept, everybody}
use Rattle.fx_outcomes.specs.declared.federated.FedError.{FedError}
use Rattle.fx_outcomes.proofs.KeptPlanLemmas.{plan_by_kept}
use Rattle.fx_rounds.specs.Gained.{GainedInAll, rounds_exchanged, went_exchanged}
use Rattle.fx_rounds.proofs.GainedLemmas.{has_begun, went_gained}
use Rattle.fx_laws_refusals.specs.Refusals.{KeepAllRequired, WereInvoked}
use Rattle.fx_laws_refusals.proofs.CauseLemmas.{refused}
use Rattle.fx_laws_refusals.proofs.KeptLemmas.{everybody_keeps, keep_without_all, rounds_keep, rounds_still_keep}

-- ---- one of the occurrences

-- its own exchanges are among those of all
its_own : (s : List Seen) (es : List EndpointParts) (calls : List Call) (xs : List Exchange) → AreCalls s es calls xs → (c : Call) → Among c calls → (own : List Exchange) × HasComeTo s es c.of.iri c.of.group c.came own × ((x : Exchange) → Contains own x → Contains xs x)
its_own s es [] xs h c m = absurd m
its_own s es (d ∷ cs) xs h c (inl same) =
    (h.0, subst (λ (v : Call). HasComeTo s es v.of.iri v.of.group v.came h.0) same h.3, λ x among. subst (λ (l : List Exchange). Contains l x) (sym h.2) (Contains-append_left h.0 h.1 x among))
its_own s es (d ∷ cs) xs h c (inr m) =
    let rest = its_own s es cs h.1 h.5 c m in
    (rest.0, rest.1, λ x among. subst (λ (l : List Exchange). Contains l x) (sym h.2) (Contains-append_right h.0 h.1 x (rest.2 x among)))

-- ---- the last round

module _ (w : WiresSeen) (es : List EndpointParts) (asked : Query) (entries : List Entry) (block : ℕ) (e : FedError) (alike : AllTell w.tells w.before) (it : WentInRounds w.tells w.alone w.before w.after es asked [] entries block (refused e)) where
  pub were_invoked : WereInvoked w es asked it.went.last.calls
  were_invoked = record {
    called = it.went.last.called;
    since = it.went.between;
    began = has_begun w.tells w.alone es asked block w.before w.after [] entries (refused e) alike it;
    exchanges = it.went.last.exchanges;
    gained = it.went.last.gained;
    own = it.went.last.of_calls;
    others = it.went.last.of_runs;
    parted = it.went.last.parted;
    come_to = it.went.last.are_calls;
  }

  -- what was exchanged in all
  pub in_all : GainedInAll w.tells w.before w.after (went_exchanged w.tells w.alone w.before w.after es asked [] entries block (refused e) it)
  in_all = went_gained w.tells w.alone es asked block w.before w.after [] entries (refused e) alike it

  last_among : (x : Exchange) → Contains (it.went.last.of_runs ++ it.went.last.of_calls) x → Contains in_all.exchanges x
  last_among x among =
      let mid = rounds_exchanged w.tells w.alone it.asked it.went.between es asked (plan_over es asked [] it.answers) block it.answers.kept.items it.went.last_kept it.went.abandoned it.went.rounds in
      let last = it.went.last.exchanges in
      Contains-permutation (it.asking.exchanges ++ (mid ++ last)) in_all.exchanges x in_all.same
      (Contains-append_right it.asking.exchanges (mid ++ last) x (Contains-append_right mid last x (Contains-permutation (it.went.last.of_runs ++ it.went.last.of_calls) last x it.went.last.parted among)))

  pub run_among : (x : Exchange) → Contains it.went.last.of_runs x → Contains in_all.exchanges x
  run_among x among = last_among x (Contains-append_left it.went.last.of_runs it.went.last.of_calls x among)

  pub call_among : (x : Exchange) → Contains it.went.last.of_calls x → Contains in_all.exchanges x
  call_among x among = last_among x (Contains-append_right it.went.last.of_runs it.went.last.of_calls x among)

  -- what an occurrence came to, by its own exchanges, which are among all
  pub come_among : (c : Call) → Among c it.went.last.calls → (own : List Exchange) × HasComeTo it.went.between es c.of.iri c.of.group c.came own × ((x : Exchange) → Contains own x → Contains in_all.exchanges x)
  come_among c m = let its = its_own it.went.between es it.went.last.calls it.went.last.of_calls it.went.last.are_calls c m in (its.0, its.1, λ x among. call_among x (its.2 x among))

  -- each endpoint is kept that isn't marked as optional
  pub kept_at_last : KeepAllRequired es it.went.last_kept
  kept_at_last =
      let first : KeepAllRequired es it.answers.kept.items =
      subst (KeepAllRequired es) (sym it.asking.fit.those_kept) (keep_without_all es it.answers.left.items (everybody es) it.asking.fit.may_leave (everybody_keeps es)) in
      rounds_keep w.tells w.alone es asked (plan_over es asked [] it.answers) block it.asked it.went.between it.answers.kept.items it.went.last_kept it.went.abandoned it.went.rounds first

  -- the texts that were wanted are those of the query's runs over the graphs of those that are kept
  pub runs_at_last : (graphs : List (List Triple)) (services : List ℕ → List Triple) → TellAll w.before es graphs → Serve services es graphs → (down : List ℕ) → AgreesWith down it.went.last.calls
      → AreRunsSent es (of_kept it.went.last_kept graphs) block (stations asked) (seeds asked (union (of_kept it.went.last_kept graphs)) services down) it.went.last.texts
  runs_at_last graphs services told serve down agrees =
      let later : TellAll it.went.between es graphs = still_tell_all w.before it.went.between (has_begun w.tells w.alone es asked block w.before w.after [] entries (refused e) alike it) es graphs told in
      let still : AreStillKept it.went.last_kept it.answers.kept.items =
      rounds_still_keep w.tells w.alone es asked (plan_over es asked [] it.answers) block it.asked it.went.between it.answers.kept.items it.went.last_kept it.went.abandoned it.went.rounds in
      it.went.last.runs (of_kept it.went.last_kept graphs) services
      (record {
        all = graphs;
        told = later;
        served = serve;
        kept = it.went.last_kept;
        those_kept = refl;
        plan_is = plan_by_kept it.went.between es asked [] it.answers it.asking.fit it.went.last_kept still graphs later (All-nil (source.Tells graphs)) (it.asking.told graphs told);
      }) down agrees
