-- What an answer in rounds rests on.
use Rattle.std.proofs.Common.{◌≡◌, ◌∙◌, ap, sym, subst, refl, ℕ, ◌+◌, ◌≤◌, Bool, List, [], ◌∷◌, ◌++◌, map, All, IfOk, IsPermutation, Ok, Err, Result, arith, length}
use Rattle.std.specs.List.{flat_map}
use Rattle.std.proofs.lemmas.List.Elements.{All-nil, recursion_from_All}
use Rattle.fx_terms.specs.declared.triples.Triple.{Triple}
use Rattle.fx_outside.specs.Endpoints.{EndpointParts}
use Rattle.fx_algebra.specs.Groups.{is_down}
use Rattle.fx_algebra.specs.declared.queries.Query.{Query}
use Rattle.fx_plan.specs.declared.parts.Part.{Part}
use Rattle.fx_services.specs.Noted.{places}
use Rattle.fx_services.specs.declared.noted.Down.{Down}
use Rattle.fx_sources.specs.Probes.{Entry, missing}
use Rattle.fx_sources.specs.Registries.{IsRegistry}
use Rattle.fx_sources.specs.Sources as source
use Rattle.fx_traffic.specs.Gains.{WiresSeen, faults_at}
use Rattle.fx_wire.specs.Exchanges.{Exchange, Seen}
use Rattle.fx_outcomes.specs.Calls.{IsPassed, down_in, failures_at, occurrences}
use Rattle.fx_outcomes.specs.InRounds.{FederatedInRounds, IsLast, WentInRounds, by_asks, plan_over}
use Rattle.fx_outcomes.specs.Mediation.{AreKnown}
use Rattle.fx_outcomes.specs.Outcomes.{AllTell}
use Rattle.fx_outcomes.specs.RoundEnds.{AreAbandoned}
use Rattle.fx_outcomes.specs.Rounds.{AreAnswers, without_all}
use Rattle.fx_outcomes.specs.declared.federated.FedError.{FedError}
use Rattle.fx_outcomes.specs.declared.federated.Outcome.{Outcome}
use Rattle.fx_outcomes.specs.declared.rounds.Left.{Left}
use Rattle.fx_outcomes.specs.declared.rounds.OutcomeInRounds.{OutcomeInRounds}
use Rattle.fx_outcomes.specs.declared.rounds.Round.{Round}
use Rattle.fx_rounds.specs.Answered.{AnswersRestOnThis, AreLicensed, EachSent, FaultsAreTold, IsAnswerOver, SentInRounds}
use Rattle.fx_rounds.specs.Down.{unregistered}
use Rattle.fx_rounds.specs.Gained.{rounds_exchanged, went_exchanged}
use Rattle.fx_rounds.specs.LeftOut.{left_in}
use Rattle.fx_rounds.specs.Licences.{downs_failed, downs_in, lefts_failed}
use Rattle.fx_rounds.specs.Traffic.{RoundsSend}
use Rattle.fx_rounds.proofs.DownLemmas.{IsUnknown, are_unregistered, failed_alike}
use Rattle.fx_rounds.proofs.GainedLemmas.{has_begun, went_gained}
use Rattle.fx_rounds.proofs.LeftOutLemmas.{all_leave, answers_went, each_leaves, members_are_left_once}
use Rattle.fx_rounds.proofs.LicenceLemmas.{answers_are_licensed, downs_append, last_down, licences_in_any_order}
use Rattle.fx_rounds.proofs.NumberLemmas.{all_by_number, each_by_number, missing_come}
use Rattle.fx_rounds.proofs.SumLemmas.{faults_and_refusals_are_enough}
use Rattle.fx_rounds.proofs.TrafficLemmas.{rounds_are_traffic}

-- ---- the last round

-- what holds of it where it has an answer
of_answer : (P : Type 0) (all : OutcomeInRounds) (ended : Result Outcome FedError) → IsLast ended (Ok all) → IfOk ended (λ _. P) → P
of_answer P all (Ok outcome) same h = h
of_answer P all (Err e) same h = absurd same

-- ---- what each round exchanged

module _ (tells alone : Bool) (es : List EndpointParts) (q : Query) (plan : List Bool → List Part) (block : ℕ) where
  abbrev parts_of : (s t : List Seen) (kept last : List Bool) (rounds : List Round) → AreAbandoned tells alone s t es q plan block kept last rounds → List (List Exchange)
  parts_of s t kept last [] c = []
  parts_of s t kept last (r ∷ rounds) c = c.1.went.exchanges ∷ parts_of c.0 t (without_all r.left kept) last rounds c.3

  -- one behind the other
  parts_are : (s t : List Seen) (kept last : List Bool) (rounds : List Round) (c : AreAbandoned tells alone s t es q plan block kept last rounds)
      → flat_map (λ (xs : List Exchange). xs) (parts_of s t kept last rounds c) ≡ rounds_exchanged tells alone s t es q plan block kept last rounds c
  parts_are s t kept last [] c = refl
  parts_are s t kept last (r ∷ rounds) c = ap (λ (v : List Exchange). c.1.went.exchanges ++ v) (parts_are c.0 t (without_all r.left kept) last rounds c.3)

  each_sent : (graphs : List (List Triple)) (services : List ℕ → List Triple) (s t : List Seen) (kept last : List Bool) (rounds : List Round) (c : AreAbandoned tells alone s t es q plan block kept last rounds)
      → RoundsSend tells alone s t es q plan block kept last rounds c graphs services → EachSent es graphs block services q kept rounds (parts_of s t kept last rounds c)
  each_sent graphs services s t kept last [] c h = tt
  each_sent graphs services s t kept last (r ∷ rounds) c h = (h.0, each_sent graphs services c.0 t (without_all r.left kept) last rounds c.3 h.1)

-- ---- an answer

module _ (w : WiresSeen) (es : List EndpointParts) (asked : Query) (new : List Entry) (block : ℕ) (all : OutcomeInRounds) (it : WentInRounds w.tells w.alone w.before w.after es asked [] new block (Ok all)) where
  down_is : all.outcome.down ≡ down_in it.went.last.calls
  down_is = last_down all (down_in it.went.last.calls) it.went.ended it.told it.went.last.down

  all_called : map (λ c. c.of) it.went.last.calls ≡ occurrences asked
  all_called = of_answer (map (λ c. c.of) it.went.last.calls ≡ occurrences asked) all it.went.ended it.told it.went.last.all_called

  all_passed : All IsPassed it.went.last.calls
  all_passed = of_answer (All IsPassed it.went.last.calls) all it.went.ended it.told it.went.last.passed

  alike : (address : List ℕ) → downs_failed address all.outcome.down ≡ failures_at address it.went.last.calls
  alike address = ap (downs_failed address) down_is ∙ failed_alike address 0 it.went.last.calls (recursion_from_All IsPassed it.went.last.calls all_passed)

  sent_in_rounds : (exchanges : List Exchange) → IsPermutation (went_exchanged w.tells w.alone w.before w.after es asked [] new block (Ok all) it) exchanges → SentInRounds w es asked block it.went.last_kept all.abandoned (places all.outcome.down) exchanges
  sent_in_rounds exchanges same =
      let plan = plan_over es asked [] it.answers in
      let kept = it.answers.kept.items in
      let fit : AreAnswers es (missing asked (length es) []) it.answers = it.asking.fit in
      let parts = parts_of w.tells w.alone es asked plan block it.asked it.went.between kept it.went.last_kept it.went.abandoned it.went.rounds in
      let mid = parts_are w.tells w.alone es asked plan block it.asked it.went.between kept it.went.last_kept it.went.abandoned it.went.rounds in
      record {
        left = it.answers.left.items;
        abandoned = it.went.abandoned;
        rounds_are = it.listed;
        asks = it.asking.exchanges;
        parts = parts;
        last = it.went.last.exchanges;
        parted = subst (λ (v : List Exchange). IsPermutation (it.asking.exchanges ++ (v ++ it.went.last.exchanges)) exchanges) (sym mid) same;
        texts = it.asking.wanted;
        unsent = it.asking.left;
        are_asks = record { probes = it.asking.asked; unasked = it.asking.unasked; lacked = it.asking.split; texts = it.asking.texts };
        sent = it.asking.sent;
        each = λ graphs told services serve.
            let knows : AreKnown w.before es [] graphs = record { told = told; entries_are = All-nil (source.Tells graphs) } in
            let sends = rounds_are_traffic w.tells w.alone w.before w.after es asked [] new block (Ok all) it graphs knows services serve in (
              subst (λ (v : List Bool). EachSent es graphs block services asked v it.went.abandoned parts) fit.those_kept
                  (each_sent w.tells w.alone es asked plan block graphs services it.asked it.went.between kept it.went.last_kept it.went.abandoned it.went.rounds sends.0),
              sends.1 (places all.outcome.down) (λ k c there passes before. ap (λ (l : List Down). is_down (places l) k) down_is),
            );
      }

  licensed : AllTell w.tells w.before → IsRegistry es → FederatedInRounds w.tells w.alone w.before w.after es asked [] new block (Ok all) → AreLicensed w es asked block it.went.last_kept all.abandoned all.outcome.down
  unfolding sent_in_rounds
  licensed told registry f =
      let plan = plan_over es asked [] it.answers in
      let lefts = left_in all.abandoned in
      let downs = downs_in w.tells w.alone it.asked it.went.between es asked plan block it.answers.kept.items it.went.last_kept it.went.abandoned it.went.rounds in
      let g = went_gained w.tells w.alone es asked block w.before w.after [] new (Ok all) told it in
      let l =
      licences_in_any_order es asked w.before w.after (went_exchanged w.tells w.alone w.before w.after es asked [] new block (Ok all) it) g.exchanges lefts (downs ++ all.outcome.down) g.same
      (answers_are_licensed w.tells w.alone w.before w.after es asked [] new block all registry it) in
      record {
        left_out = members_are_left_once w.tells w.alone w.before w.after es asked [] new block all it;
        leave = all_leave it.answers.left.items it.went.abandoned all.abandoned it.listed
            (each_leaves w.tells w.alone es asked plan block it.asked it.went.between it.answers.kept.items it.went.last_kept it.went.abandoned it.went.rounds);
        by_number = all_by_number it.answers.left.items it.went.abandoned all.abandoned it.listed (it.asking.fit.by_number (missing_come asked (length es) []))
            (each_by_number w.tells w.alone es asked plan block it.asked it.went.between it.answers.kept.items it.went.last_kept it.went.abandoned it.went.rounds);
        down = record { calls = it.went.last.calls; all_called = all_called; passed = all_passed; noted_are = down_is };
        counted = λ address.
            let counted : faults_at w.before address + (lefts_failed es address lefts + downs_failed address (downs ++ all.outcome.down)) ≤ faults_at w.after address = l.counted address in
            let apart : downs_failed address (downs ++ all.outcome.down) ≡ downs_failed address downs + downs_failed address all.outcome.down = downs_append address downs all.outcome.down in
            omega (arith, counted, apart);
        exchanges = g.exchanges;
        gained = g.gained;
        earlier = downs;
        licence = l;
        enough = faults_and_refusals_are_enough w.tells w.alone w.before w.after es asked [] new block all told registry f;
        in_rounds = sent_in_rounds g.exchanges g.same;
        since = it.went.between;
        began = has_begun w.tells w.alone es asked block w.before w.after [] new (Ok all) told it;
        own = it.went.last.of_calls;
        others = it.went.last.of_runs;
        own_part = it.went.last.parted;
        come_to = it.went.last.are_calls;
        all_unknown = λ every.
            let each = recursion_from_All IsUnknown (down_in it.went.last.calls) (subst (λ (d : List Down). All IsUnknown d) down_is every) in
            ap places down_is ∙ are_unregistered it.went.between es 0 it.went.last.calls it.went.last.of_calls it.went.last.are_calls (recursion_from_All IsPassed it.went.last.calls all_passed) each
            ∙ ap (unregistered es 0) all_called;
      }

  answer_over : IsAnswerOver w es asked it.went.last_kept all
  answer_over graphs told services serve = it.answer graphs (record { told = told; entries_are = All-nil (source.Tells graphs) }) services serve

pub answers_rest_on_this : AnswersRestOnThis
answers_rest_on_this w es asked new block all told registry f =
    let it = answers_went w.tells w.alone w.before w.after es asked [] new block all f in
    (it.went.last_kept, licensed w es asked new block all it told registry f, answer_over w es asked new block all it)

-- ---- faults

-- where no round was abandoned the ASKs left nobody out
none_left : (left : List Left) (rounds : List Round) → by_asks left ++ rounds ≡ [] → (left ≡ []) × (rounds ≡ [])
none_left [] rounds h = (refl, h)
none_left (l ∷ left) rounds h = absurd (cc)

module _ (tells alone : Bool) (es : List EndpointParts) (q : Query) (plan : List Bool → List Part) (block : ℕ) where
  same_wires : (s t : List Seen) (kept last : List Bool) (rounds : List Round) → rounds ≡ [] → AreAbandoned tells alone s t es q plan block kept last rounds → t ≡ s
  same_wires s t kept last [] none c = c.0
  same_wires s t kept last (r ∷ rounds) none c = absurd (cc)

pub faults_are_told : FaultsAreTold
faults_are_told w es asked new block all f alone none address =
    let it = answers_went w.tells w.alone w.before w.after es asked [] new block all f in
    let nobody = none_left it.answers.left.items it.went.abandoned (sym it.listed ∙ none) in
    let quiet : faults_at it.asked address ≡ faults_at w.before address = it.asking.quiet alone nobody.0 address in
    let wires : it.went.between ≡ it.asked = same_wires w.tells w.alone es asked (plan_over es asked [] it.answers) block it.asked it.went.between it.answers.kept.items it.went.last_kept it.went.abandoned nobody.1 it.went.rounds in
    let same : faults_at it.went.between address ≡ faults_at it.asked address = ap (λ (v : List Seen). faults_at v address) wires in
    let calls = it.went.last.calls in
    let exact : faults_at w.after address ≡ faults_at it.went.between address + failures_at address calls =
    of_answer ((a : List ℕ) → faults_at w.after a ≡ faults_at it.went.between a + failures_at a calls) all it.went.ended it.told (it.went.last.exact alone) address in
    let told : downs_failed address all.outcome.down ≡ failures_at address calls = alike w es asked new block all it address in
    omega (arith, quiet, same, exact, told)
