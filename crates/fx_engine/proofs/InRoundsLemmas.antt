-- A query was asked in rounds: what it gives, or the cause of a refusal.
use Rattle.std.proofs.Common.{◌≡◌, ◌∙◌, sym, subst, refl, inl, inr, ◌⊎◌, ℕ, Bool, true, List, [], ◌∷◌, ◌++◌, length, None, Ok, Err, IfOk, Result, IfErr}
use Rattle.std.specs.Prelude.{All}
use Rattle.std.specs.List.{zip}
use Rattle.fx_terms.specs.declared.triples.Triple.{Triple}
use Rattle.fx_outside.specs.Endpoints.{EndpointParts}
use Rattle.fx_algebra.specs.Answers.{answer as answer_of}
use Rattle.fx_algebra.specs.Graphs.{union}
use Rattle.fx_algebra.specs.Solutions.{Bindings}
use Rattle.fx_algebra.specs.Units.{of_kept, sources}
use Rattle.fx_algebra.specs.declared.queries.Query.{Query}
use Rattle.fx_plan.specs.declared.parts.Part.{Part}
use Rattle.fx_flows.specs.declared.flows.FlowError.{FlowError}
use Rattle.fx_flows.specs.declared.flows.FlowError.TheVariants as flow
use Rattle.fx_services.specs.Noted.{places}
use Rattle.fx_sources.specs.Probes.{Entry, missing}
use Rattle.fx_sources.specs.Sources as source
use Rattle.fx_sources.proofs.SourceLemmas.{kept_tells, learned_tells}
use Rattle.fx_traffic.specs.Gains.{TellAll}
use Rattle.fx_traffic.specs.Sent.{Sent}
use Rattle.fx_walks.specs.Sections.{parts_with}
use Rattle.fx_walks.specs.Unknown.{unknown_of}
use Rattle.fx_wire.specs.Exchanges.{Exchange, Seen}
use Rattle.fx_outcomes.specs.Calls.{Call}
use Rattle.fx_outcomes.specs.InRounds.{FederatedInRounds, PlannedInRounds, HoldsAnswers, IsLast, WentRound, by_asks, plan_over}
use Rattle.fx_outcomes.specs.Mediation.{AreKnown, IsNamed, KnowsServices, Serve}
use Rattle.fx_outcomes.specs.Outcomes.{HasOutcomeCause, Outcomed}
use Rattle.fx_outcomes.specs.RoundEnds.{AreAbandoned, LeavesOut}
use Rattle.fx_outcomes.specs.Rounds.{AreStillKept, AskedMembers, IsRequired}
use Rattle.fx_outcomes.specs.declared.federated.FedError.{FedError}
use Rattle.fx_outcomes.specs.declared.federated.FedError.TheVariants as fed
use Rattle.fx_outcomes.specs.declared.federated.Outcome.{Outcome}
use Rattle.fx_outcomes.specs.declared.rounds.Answers.{Answers}
use Rattle.fx_outcomes.specs.declared.rounds.OutcomeInRounds.{OutcomeInRounds}
use Rattle.fx_outcomes.specs.declared.rounds.PlanInRounds.{PlanInRounds}
use Rattle.fx_outcomes.specs.declared.rounds.Round.{Round}
use Rattle.fx_engine.specs.Rounds.{IsPlan}
use Rattle.fx_outcomes.proofs.KeptPlanLemmas.{plan_by_kept}
use Rattle.fx_outcomes.proofs.MediationLemmas.{known_named}
use Rattle.fx_engine.proofs.LoopLemmas.{still_kept}
use Rattle.fx_pool.proofs.WiresLemmas.{still_tell_all}

-- nothing was asked for a plan
pub unplanned_in_rounds : (tells alone : Bool) (s : List Seen) (es : List EndpointParts) (q : Query) (old : List Entry) (e : FedError) → KnowsServices {X = PlanInRounds} es q (Err e) → (e ≡ fed.Memory) ⊎ ((iri : List ℕ) × (e ≡ fed.UnknownService iri))
    → PlannedInRounds tells alone s s es q old old (Err e)
unplanned_in_rounds tells alone s es q old e known why = record {
  known = known;
  went = inl (record { same = refl; kept = refl; error = e; is = refl; unasked = why });
  stays_true = λ graphs is. is.entries_are;
}

-- an ASK of it was refused
pub plan_refused_at_asks : (tells alone : Bool) (s t : List Seen) (es : List EndpointParts) (q : Query) (old : List Entry) → unknown_of es q ≡ None → (why : FlowError) (e : FedError) → AskedMembers tells alone s t es (missing q (length es) old) (Err why) → IsNamed es why e
    → PlannedInRounds tells alone s t es q old old (Err e)
plan_refused_at_asks tells alone s t es q old known why e h n = record {
  known = known_named PlanInRounds es q why e n known;
  went = inr (inl (record { why = why; asking = h; error = e; is = refl; named = n; kept = refl }));
  stays_true = λ graphs is. is.entries_are;
}

-- what is held behind it stays true of graphs
module _ (tells alone : Bool) (s t : List Seen) (es : List EndpointParts) (q : Query) (old : List Entry) (known : unknown_of es q ≡ None) (a : Answers) (h : AskedMembers tells alone s t es (missing q (length es) old) (Ok a)) where
  plan_true : (new : List Entry) (r : Result PlanInRounds FedError) → IfErr r (λ e. e ≡ fed.Memory) → HoldsAnswers old new a r → (graphs : List (List Triple)) → AreKnown s es old graphs → All (source.Tells graphs) new
  plan_true new (Ok p) lost held graphs knows = subst (All (source.Tells graphs)) (sym held) (learned_tells graphs old a.probes.items a.truths.items knows.entries_are (h.told graphs knows.told))
  plan_true new (Err e) lost held graphs knows =
      kept_tells graphs old (zip a.probes.items a.truths.items) new knows.entries_are (h.told graphs knows.told) (subst (λ (x : FedError). HoldsAnswers {X = PlanInRounds} old new a (Err x)) lost held)

  plan_known : (r : Result PlanInRounds FedError) → IfErr r (λ e. e ≡ fed.Memory) → KnowsServices es q r
  plan_known (Ok p) lost = known
  plan_known (Err e) lost = subst (λ (x : FedError). KnowsServices {X = PlanInRounds} es q (Err x)) (sym lost) tt

  by_graphs : (r : Result PlanInRounds FedError) → IfOk r (λ p. p.parts.items ≡ plan_over es q old a a.kept.items) → IfOk r (λ p. (graphs : List (List Triple)) → AreKnown s es old graphs → p.parts.items ≡ parts_with (sources (of_kept a.kept.items graphs)) q)
  by_graphs (Ok p) are = λ graphs knows. are ∙ plan_by_kept s es q old a h.fit a.kept.items (λ at m. m) graphs knows.told knows.entries_are (h.told graphs knows.told)
  by_graphs (Err e) are = tt

  pub planned_in_rounds : (new : List Entry) (r : Result PlanInRounds FedError) → IsPlan es q old new a r → PlannedInRounds tells alone s t es q old new r
  planned_in_rounds new r k = record {
    known = plan_known r k.lost;
    went = inr (inr (record { answers = a; asking = h; listed = k.listed; lost = k.lost; held = k.held; plan_is = k.plan_is; within = k.within; parts = by_graphs r k.plan_is }));
    stays_true = plan_true new r k.lost k.held;
  }

-- nothing was asked
pub unasked_in_rounds : (tells alone : Bool) (s : List Seen) (es : List EndpointParts) (q : Query) (old : List Entry) (block : ℕ) (e : FedError) → KnowsServices {X = OutcomeInRounds} es q (Err e) → (e ≡ fed.Memory) ⊎ ((iri : List ℕ) × (e ≡ fed.UnknownService iri))
    → FederatedInRounds tells alone s s es q old old block (Err e)
unasked_in_rounds tells alone s es q old block e known why = record {
  known = known;
  went = inl (record { same = refl; kept = refl; error = e; is = refl; unasked = why });
  stays_true = λ graphs is. is.entries_are;
}

module _ (tells alone : Bool) (s t : List Seen) (es : List EndpointParts) (q : Query) (old : List Entry) (known : unknown_of es q ≡ None) (block : ℕ) where
  -- an ASK was refused
  pub refused_at_asks : (why : FlowError) (e : FedError) → AskedMembers tells alone s t es (missing q (length es) old) (Err why) → IsNamed es why e → FederatedInRounds tells alone s t es q old old block (Err e)
  refused_at_asks why e h n = record {
    known = known_named OutcomeInRounds es q why e n known;
    went = inr (inl (record { why = why; asking = h; error = e; is = refl; named = n; kept = refl }));
    stays_true = λ graphs is. is.entries_are;
  }

  -- ---- rounds behind the ASKs

  module _ (u : List Seen) (a : Answers) (h : AskedMembers tells alone s t es (missing q (length es) old) (Ok a)) (rest : Result OutcomeInRounds FedError) (k : WentRound tells alone t u es q (plan_over es q old a) block a.kept.items rest) where
    abbrev plan : List Bool → List Part
    plan = plan_over es q old a

    -- what the wires told before they tell behind rounds that were abandoned
    still_tell : (graphs : List (List Triple)) (v w : List Seen) (kept last : List Bool) (rounds : List Round) → AreAbandoned tells alone v w es q plan block kept last rounds → TellAll v es graphs → TellAll w es graphs
    still_tell graphs v w kept last [] c told = subst (λ (x : List Seen). TellAll x es graphs) (sym c.0) told
    still_tell graphs v w kept last (r ∷ rounds) c told = still_tell graphs c.0 w _ last rounds c.3 (still_tell_all v c.0 c.1.went.after_all es graphs told)

    -- who is kept at last was kept at first
    kept_at_last : (v w : List Seen) (kept last : List Bool) (rounds : List Round) → AreAbandoned tells alone v w es q plan block kept last rounds → AreStillKept kept a.kept.items → AreStillKept last a.kept.items
    kept_at_last v w kept last [] c still = subst (λ (x : List Bool). AreStillKept x a.kept.items) (sym c.1) still
    kept_at_last v w kept last (r ∷ rounds) c still = kept_at_last c.0 w _ last rounds c.3 (still_kept r.left kept _ a.kept.items refl still)

    abbrev Answered : Outcome → Type 0
    Answered outcome = (graphs : List (List Triple)) → AreKnown s es old graphs → (services : List ℕ → List Triple) → Serve services es graphs → outcome.answer ≡ answer_of q (union (of_kept k.last_kept graphs)) services (places outcome.down)

    -- the last round's answer is that over the graphs of who is kept
    is_answered : (outcome : Outcome) → k.ended ≡ Ok outcome → Answered outcome
    is_answered outcome same graphs knows services serve =
        let its = subst (λ (o : Result Outcome FedError). Outcomed (IsRequired es) (LeavesOut es) tells alone k.between u es q (plan k.last_kept) block o) same k.last in
        its.answer (of_kept k.last_kept graphs) services
        (record {
          all = graphs;
          told = still_tell graphs t k.between a.kept.items k.last_kept k.abandoned k.rounds (still_tell_all s t h.after_all es graphs knows.told);
          served = serve;
          kept = k.last_kept;
          those_kept = refl;
          plan_is = plan_by_kept s es q old a h.fit k.last_kept (kept_at_last t k.between a.kept.items k.last_kept k.abandoned k.rounds (λ at m. m)) graphs knows.told knows.entries_are (h.told graphs knows.told);
        })

    -- a last round is never refused for a SERVICE that is unknown
    not_unknown : (iri : List ℕ) → k.ended ≡ Err (fed.UnknownService iri) → ⊥
    not_unknown iri same =
        let its = subst (λ (o : Result Outcome FedError). Outcomed (IsRequired es) (LeavesOut es) tells alone k.between u es q (plan k.last_kept) block o) same k.last in
        of_cause (IsRequired es) k.between u its.found its.calls its.texts its.of_runs iri its.cause
      where
        of_batch : (why : FlowError) → IsNamed es why (fed.UnknownService iri) → ⊥
        of_batch (flow.Member at) n = n
        of_batch (flow.BadReply at bad) n = n
        of_batch (flow.RequestTooLong at size) n = n
        of_batch flow.Memory n = n

        of_cause : (Told : FlowError → Type 0) (v w : List Seen) (found : List (List Bindings)) (calls : List Call) (texts : List Sent) (xs : List Exchange) (its : List ℕ) → HasOutcomeCause Told v w es (plan k.last_kept) found block calls texts xs (fed.UnknownService iri) → ⊥
        of_cause Told v w found calls texts xs its (inl c) = of_batch c.0 c.2
        of_cause Told v w found calls texts xs its (inr c) = c

    services_known : (r : Result OutcomeInRounds FedError) → IsLast k.ended r → KnowsServices es q r
    services_known (Ok all) last = known
    services_known (Err fed.Memory) last = tt
    services_known (Err (fed.Member name)) last = known
    services_known (Err (fed.Service iri)) last = known
    services_known (Err (fed.BadReply name bad)) last = known
    services_known (Err (fed.RequestTooLong name size)) last = known
    services_known (Err (fed.UnknownService iri)) last = absurd (by k.ended refl last)
      where
        by : (o : Result Outcome FedError) → k.ended ≡ o → IsLast o (Err (fed.UnknownService iri)) → ⊥
        by (Ok outcome) same is = is
        by (Err e) same is = not_unknown iri (subst (λ (x : FedError). k.ended ≡ Err x) (sym is) same)

    given : (r : Result OutcomeInRounds FedError) → IsLast k.ended r → IfOk r (λ all. Answered all.outcome)
    given (Err e) last = tt
    given (Ok all) last = by k.ended refl last
      where
        by : (o : Result Outcome FedError) → k.ended ≡ o → IsLast o (Ok all) → Answered all.outcome
        by (Ok outcome) same is = subst Answered (sym is) (is_answered outcome same)
        by (Err e) same is = absurd is

    holds_true : (new : List Entry) (r : Result OutcomeInRounds FedError) → HoldsAnswers old new a r → (graphs : List (List Triple)) → AreKnown s es old graphs → All (source.Tells graphs) new
    holds_true new (Ok all) held graphs knows = subst (All (source.Tells graphs)) (sym held) (learned_tells graphs old a.probes.items a.truths.items knows.entries_are (h.told graphs knows.told))
    holds_true new (Err fed.Memory) held graphs knows = kept_tells graphs old (zip a.probes.items a.truths.items) new knows.entries_are (h.told graphs knows.told) held
    holds_true new (Err (fed.Member name)) held graphs knows = subst (All (source.Tells graphs)) (sym held) knows.entries_are
    holds_true new (Err (fed.Service iri)) held graphs knows = subst (All (source.Tells graphs)) (sym held) knows.entries_are
    holds_true new (Err (fed.BadReply name bad)) held graphs knows = subst (All (source.Tells graphs)) (sym held) knows.entries_are
    holds_true new (Err (fed.RequestTooLong name size)) held graphs knows = subst (All (source.Tells graphs)) (sym held) knows.entries_are
    holds_true new (Err (fed.UnknownService iri)) held graphs knows = subst (All (source.Tells graphs)) (sym held) knows.entries_are

    pub gone_in_rounds : (new : List Entry) (r : Result OutcomeInRounds FedError) → IfOk r (λ all. all.abandoned ≡ by_asks a.left.items ++ k.abandoned) → IsLast k.ended r → HoldsAnswers old new a r → FederatedInRounds tells alone s u es q old new block r
    gone_in_rounds new r listed last held = record {
      known = services_known r last;
      went = inr (inr (record { asked = t; answers = a; asking = h; rest = rest; went = k; listed = listed; told = last; held = held; answer = given r last }));
      stays_true = holds_true new r held;
    }
