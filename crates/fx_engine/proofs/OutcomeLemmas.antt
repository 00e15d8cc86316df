-- A query's occurrences of SERVICE were invoked, and then its runs were asked for: its outcome, or the cause of a refusal.
use Rattle.std.proofs.Common.{◌≡◌, ◌∙◌, ap, sym, subst, refl, ℕ, zero, suc, ◌+◌, ◌≤◌, zero-le, Bool, true, false, List, [], ◌∷◌, ◌++◌, map, length, take, ◌⊎◌, Some, All, Contains, IfErr, IfOk, IsTrue, Result, Ok, Err, append-nil, append_assoc, arith, slice_get}
use Rattle.std.specs.List.{AllByRecursion}
use Rattle.std.proofs.lemmas.List.{length-map, map-append}
use Rattle.std.proofs.lemmas.List.Elements.{All-from_recursion, recursion_from_All}
use Rattle.std.proofs.lemmas.List.Sorted.{IsPermutation-append_comm, IsPermutation-append_right, IsPermutation-trans}
use Rattle.fx_terms.specs.declared.triples.Triple.{Triple}
use Rattle.fx_outside.specs.Endpoints.{EndpointParts}
use Rattle.fx_algebra.specs.Answers.{answer as answer_of}
use Rattle.fx_algebra.specs.Cuts.{seeds, stations}
use Rattle.fx_algebra.specs.Graphs.{union}
use Rattle.fx_algebra.specs.Groups.{is_down}
use Rattle.fx_algebra.specs.Occurrences.{services}
use Rattle.fx_algebra.specs.Solutions.{Bindings}
use Rattle.fx_algebra.specs.Units.{sources}
use Rattle.fx_algebra.specs.declared.answers.Answer.{Answer}
use Rattle.fx_algebra.specs.declared.queries.Query.{Query}
use Rattle.fx_grammar.specs.Accepted.{Accepted}
use Rattle.fx_plan.specs.declared.parts.Part.{Part}
use Rattle.fx_flows.specs.Flows.{IsBatchRead}
use Rattle.fx_traffic.specs.Gains.{faults_at}
use Rattle.fx_traffic.proofs.GainLemmas.{gain_laws}
use Rattle.fx_traffic.proofs.NumberLemmas.{stations_have_the_numbers}
use Rattle.fx_wire.specs.Exchanges.{Exchange, Seen}
use Rattle.fx_walks.specs.AnswersAsked.{AnswerDue, AnswerGiven}
use Rattle.fx_engine.specs.Asked.{Asked, Knows}
use Rattle.fx_outcomes.specs.Calls.{AgreesWith, AreAllOrNone, AreCalls, Call, Came, IsPassed, IsRefused, Passes, down_in, failed, failures_at, occurrences, rows_of}
use Rattle.fx_services.specs.Beside.{Occurrence}
use Rattle.fx_walks.specs.GroupsAsked.{HasRows, all_planned, units_in}
use Rattle.fx_walks.specs.Served.{Served}
use Rattle.fx_outcomes.specs.Invocations.{Calling}
use Rattle.fx_outcomes.specs.Mediation.{FailedBeside}
use Rattle.fx_services.specs.Noted.{places}
use Rattle.fx_outcomes.specs.Order.{AreGiven}
use Rattle.fx_flows.specs.declared.flows.FlowError.{FlowError}
use Rattle.fx_outcomes.specs.Outcomes.{HasBatchEvent, HasBatchRefusal, HasOutcomeCause, IsPlannedOver, Outcomed}
use Rattle.fx_walks.specs.RunsSent.{AreRunsSent}
use Rattle.fx_walks.specs.Sections.{part_with, section_of}
use Rattle.fx_walks.specs.Tasks.{tasks_with}
use Rattle.fx_services.specs.declared.noted.DownCause.{DownCause}
use Rattle.fx_outcomes.specs.declared.federated.FedError.{FedError}
use Rattle.fx_outcomes.specs.declared.federated.Outcome.{Outcome}
use Rattle.fx_engine.specs.declared.rows.RowsError.{RowsError}
use Rattle.fx_walks.specs.declared.tasks.Task.{Task}
use Rattle.fx_outcomes.proofs.CallLemmas.{AreFirst, first_of}
use Rattle.fx_outcomes.proofs.DownLemmas.{down_at, has_gone}
use Rattle.fx_engine.proofs.HandLemmas.{Fits, at_hand, calls_fit}
use Rattle.fx_engine.proofs.KeptLemmas.{told_over}
use Rattle.fx_outcomes.proofs.TaskLemmas.{AreAtHand, tasks_are_planned}
use Rattle.fx_pool.proofs.WiresLemmas.{AllTell, all_after, gained_both, still_tell_all}

-- the front of a list
in_front : {X : Type 0} (xs ys : List X) (i : ℕ) (x : X) → slice_get xs i ≡ Some x → slice_get (xs ++ ys) i ≡ Some x
in_front [] ys i x h = absurd (cc)
in_front (y ∷ xs) ys zero x h = h
in_front (y ∷ xs) ys (suc i) x h = in_front xs ys i x h

passed_at : (calls : List Call) → AllByRecursion IsPassed calls → (i : ℕ) (c : Call) → slice_get calls i ≡ Some c → IsPassed c
passed_at [] h i c is = absurd (cc)
passed_at (d ∷ calls) h zero c is = let same : d ≡ c = cc in subst IsPassed same h.0
passed_at (d ∷ calls) h (suc i) c is = passed_at calls h.1 i c is

not_both : (silent : Bool) (came : Came) → Passes silent came → silent ≡ false → (why : DownCause) → came ≡ failed why → ⊥
not_both silent came passes plain why is = let both : false ≡ true = sym plain ∙ subst (Passes silent) is passes in absurd (cc)

-- what was refused isn't among those that passed
behind_passed : (front rest : List Call) → AllByRecursion IsPassed front → (k : ℕ) (c : Call) → slice_get (front ++ rest) k ≡ Some c → IsRefused c → length front ≤ k
behind_passed [] rest h k c there refused = zero-le
behind_passed (d ∷ front) rest h zero c there refused =
    let same : d ≡ c = cc in
    let passes : IsPassed c = subst IsPassed same h.0 in
    absurd (not_both c.of.silent c.came passes refused.0 refused.1.0 refused.1.1)
behind_passed (d ∷ front) rest h (suc k) c there refused = omega (arith, behind_passed front rest h.1 k c there refused)

-- and so have all before one that did
passed_before : (front rest : List Call) → AllByRecursion IsPassed front → (i : ℕ) (c : Call) → slice_get front i ≡ Some c → AllByRecursion IsPassed (take i (front ++ rest))
passed_before [] rest h i c is = absurd (cc)
passed_before (d ∷ front) rest h zero c is = tt
passed_before (d ∷ front) rest h (suc i) c is = (h.0, passed_before front rest h.1 i c is)

module _ (tells alone : Bool) (s t u : List Seen) (a : AllTell tells s) (b : AllTell tells t) (es : List EndpointParts) (q : Query) (text : List ℕ) (accepted : Accepted text q) (plan : List Part) (block : ℕ) (found : List (List Bindings)) (front rest : List Call)
    (passed : All IsPassed front) (rows_are : found ≡ map rows_of front) (c : Calling tells alone s t es (front ++ rest)) (called : AreAllOrNone (front ++ rest) (occurrences q)) where
  abbrev calls : List Call
  calls = front ++ rest

  abbrev tasks : List Task
  tasks = tasks_with plan found

  first : AreFirst calls (occurrences q)
  first = first_of calls (occurrences q) called

  -- ---- how SERVICE is served

  module _ (graphs : List (List Triple)) (its : List ℕ → List Triple) (over : IsPlannedOver s es q plan graphs its) (down : List ℕ) (agrees : AgreesWith down calls) where
    abbrev served : Served
    served = record { graphs = its; down = down; rows = λ i. slice_get found i }

    front_fits : AllByRecursion (Fits its) front
    front_fits = by front rest c.in_turn (recursion_from_All IsPassed front passed) c.are_calls
      where
        by : (xs ys : List Call) (all : List Exchange) → AllByRecursion IsPassed xs → AreCalls s es (xs ++ ys) all → AllByRecursion (Fits its) xs
        by [] ys all p h = tt
        by (x ∷ xs) ys all p h = ((calls_fit s es over.all its over.told over.served (x ∷ []) h.0 (p.0, tt) (h.0, [], sym (append-nil h.0), h.3, h.4, refl)).0, by xs ys h.1 p.1 h.5)

    down_so : (i : ℕ) (d : Call) → slice_get front i ≡ Some d → is_down down (0 + i) ≡ has_gone d.of.silent d.came
    down_so i d is =
        let same : 0 + i ≡ i = omega arith in
        let there = in_front front rest i d is in
        let each = recursion_from_All IsPassed front passed in
        ap (is_down down) same ∙ agrees i d there (passed_at front each i d is) (All-from_recursion IsPassed (take i calls) (passed_before front rest each i d is)) ∙ ap (is_down (places (down_in calls))) (sym same) ∙ down_at 0 calls i d there

    at_numbers : ((i : ℕ) → served.rows (0 + i) ≡ slice_get (map rows_of front) i) × ((i : ℕ) (c : Call) → slice_get front i ≡ Some c → is_down served.down (0 + i) ≡ has_gone c.of.silent c.came)
    at_numbers = ((λ i. let same : 0 + i ≡ i = omega arith in ap (λ (n : ℕ). slice_get found n) same ∙ ap (λ (v : List (List Bindings)). slice_get v i) rows_are), λ i d is. down_so i d is)

    behind_front : map (λ (c : Call). c.of) front ++ (map (λ (c : Call). c.of) rest ++ first.others) ≡ occurrences q
    behind_front =
        sym (append_assoc (map (λ (c : Call). c.of) front) (map (λ (c : Call). c.of) rest) first.others)
        ∙ ap (λ (v : List Occurrence). v ++ first.others) (sym (map-append (λ (c : Call). c.of) front rest))
        ∙ first.are

    hands : AreAtHand served (stations q) (map rows_of front) × AllByRecursion (HasRows served) (stations q)
    hands = at_hand served (stations q) 0 (services q) (stations_have_the_numbers text q accepted) front (map (λ (c : Call). c.of) rest ++ first.others) behind_front at_numbers front_fits

    tasks_are : tasks ≡ all_planned served graphs (stations q)
    tasks_are =
        ap (λ (v : List Part). tasks_with v found) over.plan_is
        ∙ ap (λ (v : List (List Bindings)). tasks_with (map (part_with (sources graphs)) (map section_of (stations q))) v) rows_are
        ∙ tasks_are_planned served graphs (stations q) (map rows_of front) hands.0

    rows_right : All (HasRows served) (stations q)
    rows_right = All-from_recursion (HasRows served) (stations q) hands.1

  -- ---- with what was asked for

  module _ (r : Result Answer RowsError) (k : Asked tells alone t u es tasks block (AnswerGiven es block tasks q) (AnswerDue es block tasks q) r) where
    pub behind_them : (graphs : List (List Triple)) (its : List ℕ → List Triple) → IsPlannedOver s es q plan graphs its → Knows (AnswerGiven es block tasks q) (AnswerDue es block tasks q) graphs k.wanted r
    behind_them graphs its over = k.known graphs (told_over t es q plan graphs found over.all (still_tell_all s t c.after_all es over.all over.told) over.kept over.those_kept over.plan_is)

    pub runs_for : (o : Result Answer RowsError) (graphs : List (List Triple)) (its : List ℕ → List Triple) (over : IsPlannedOver s es q plan graphs its) (down : List ℕ) (agrees : AgreesWith down calls)
        → Knows (AnswerGiven es block tasks q) (AnswerDue es block tasks q) graphs k.wanted o → AreRunsSent es graphs block (stations q) (seeds q (union graphs) its down) k.wanted
    runs_for (Ok answer) graphs its over down agrees known = (known (served graphs its over down agrees) (tasks_are graphs its over down agrees) (rows_right graphs its over down agrees)).0
    runs_for (Err why) graphs its over down agrees known = known (served graphs its over down agrees) (tasks_are graphs its over down agrees) (rows_right graphs its over down agrees)

    -- what is down of them agrees with itself
    itself : AgreesWith (places (down_in calls)) calls
    itself i d there passes before = refl

    pub its_answer : (answer : Answer) → r ≡ Ok answer → (graphs : List (List Triple)) (its : List ℕ → List Triple) → IsPlannedOver s es q plan graphs its → answer ≡ answer_of q (union graphs) its (places (down_in calls))
    its_answer answer same graphs its over =
        let known = subst (Knows (AnswerGiven es block tasks q) (AnswerDue es block tasks q) graphs k.wanted) same (behind_them graphs its over) in
        let gone = places (down_in calls) in
        (known (served graphs its over gone itself) (tasks_are graphs its over gone itself) (rows_right graphs its over gone itself)).1

    -- no faults were counted at the occurrences but theirs
    abbrev AreCounted : Type 0
    AreCounted = IsTrue alone → (address : List ℕ) → faults_at t address ≡ faults_at s address + failures_at address calls

    -- where no batch was refused, no faults are counted but those of the occurrences
    pub none_but_theirs : k.failed ≡ 0 → AreCounted → IsTrue alone → (address : List ℕ) → faults_at u address ≡ faults_at s address + failures_at address calls
    none_but_theirs none exact is address =
        let low : faults_at t address ≤ faults_at u address = gain_laws.never_fall t u address k.went.after_all in
        let high : faults_at u address ≤ faults_at t address + k.failed = k.went.counted is address in
        let same : faults_at t address ≡ faults_at s address + failures_at address calls = exact is address in
        omega (arith, low, high, same, none)

    pub unfaulted : (o : Result Outcome FedError) → IfOk o (λ _. k.failed ≡ 0) → IfOk o (λ _. AreCounted) → IsTrue alone → IfOk o (λ _. (address : List ℕ) → faults_at u address ≡ faults_at s address + failures_at address calls)
    unfaulted (Ok outcome) none exact is = λ address. none_but_theirs none exact is address
    unfaulted (Err e) none exact is = tt

    -- one that was refused stands behind those that passed, which have rows
    pub behind_rows : (k : ℕ) (d : Call) → slice_get calls k ≡ Some d → IsRefused d → length found ≤ k
    behind_rows k d there refused =
        let many : length found ≡ length front = ap length rows_are ∙ length-map front rows_of in
        let behind : length front ≤ k = behind_passed front rest (recursion_from_All IsPassed front passed) k d there refused in
        omega (arith, many, behind)

    unfoldable pub outcomed : (Told Untold : FlowError → Type 0) (o : Result Outcome FedError) → IfOk o (λ _. k.failed ≡ 0) → IfOk o (λ _. AreCounted) → IfOk o (λ _. map (λ c. c.of) calls ≡ occurrences q) → IfOk o (λ _. All IsPassed calls) → IfOk o (λ outcome. outcome.down ≡ down_in calls)
        → IfOk o (λ outcome. (graphs : List (List Triple)) (its : List ℕ → List Triple) → IsPlannedOver s es q plan graphs its → outcome.answer ≡ answer_of q (union graphs) its (places outcome.down))
        → IfOk o (λ _. k.left ≡ [])
        → IfOk o (λ _. All (IsBatchRead (Contains (units_in tasks))) k.exchanges)
        → IfErr o (HasOutcomeCause Told s u es plan found block calls k.wanted k.exchanges) → IfErr o (FailedBeside s u es q calls)
        → IfErr o (λ e. HasBatchRefusal Told s u es plan found block k.wanted k.exchanges e ⊎ (HasBatchEvent Untold s u es plan found block k.wanted k.exchanges ⊎ AreGiven alone s u calls (IsBatchRead (Contains (units_in tasks))) k.left k.exchanges))
        → Outcomed Told Untold tells alone s u es q plan block o
    outcomed Told Untold o none counted all_called all_passed down answer whole read cause own_failure in_turn =
        let both = gained_both tells s t u c.exchanges k.exchanges c.gained k.went.gained in
        record {
          found = found;
          exchanges = both.all;
          gained = both.gained;
          after_all = all_after tells s t u a b c.after_all k.went.after_all;
          calls = calls;
          called = called;
          behind = behind_rows;
          all_called = all_called;
          passed = all_passed;
          down = down;
          counted = λ address.
              let one : faults_at s address + failures_at address calls ≤ faults_at t address = c.counted address in
              let low : faults_at t address ≤ faults_at u address = gain_laws.never_fall t u address k.went.after_all in
              omega (arith, one, low);
          exact = λ is. unfaulted o none counted is;
          of_calls = c.in_turn;
          of_runs = k.exchanges;
          parted =
              IsPermutation-trans (k.exchanges ++ c.in_turn) (k.exchanges ++ c.exchanges) both.all (IsPermutation-append_right k.exchanges c.in_turn c.exchanges c.same)
              (IsPermutation-trans (k.exchanges ++ c.exchanges) (c.exchanges ++ k.exchanges) both.all (IsPermutation-append_comm k.exchanges c.exchanges) both.same);
          are_calls = c.are_calls;
          texts = k.wanted;
          of_batches = k.of_batches;
          left = k.left;
          sent = k.sent;
          whole = whole;
          faultless = read;
          runs = λ graphs its over down agrees. runs_for r graphs its over down agrees (behind_them graphs its over);
          answer = answer;
          cause = cause;
          own_failure = own_failure;
          in_turn = in_turn;
        }

-- ---- what goes before

-- the rows are as many as the occurrences
pub rows_of_all : (q : Query) (calls : List Call) (rows : List (List Bindings)) → map (λ c. c.of) calls ≡ occurrences q → rows ≡ map rows_of calls → length rows ≡ length (occurrences q)
rows_of_all q calls rows are is = ap length is ∙ length-map calls rows_of ∙ sym (length-map calls (λ (c : Call). c.of)) ∙ ap length are
