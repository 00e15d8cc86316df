-- Several runs, asked for step by step.
use Rattle.std.proofs.Common.{◌≡◌, ◌∙◌, ap, sym, subst, refl, ℕ, ◌+◌, ◌≤◌, List, [], ◌∷◌, ◌++◌, Bool, All, Contains, IfErr, IfOk, length, map, take, Result, Ok, Err, arith, append-nil, append_assoc, IsPermutation}
use Rattle.std.specs.List.{AllByRecursion}
use Rattle.std.specs.declared.alloc.Global.{Global}
use Rattle.std.specs.declared.vec.Vec.{Vec}
use Rattle.std.proofs.Math.Seq.{take-add}
use Rattle.std.proofs.lemmas.Grind.{flat_map-append}
use Rattle.std.proofs.lemmas.List.{length-map, take_all}
use Rattle.std.proofs.lemmas.List.Elements.{All-append, All-weaker, recursion_from_All}
use Rattle.std.proofs.lemmas.List.Sorted.{IsPermutation-append_right, IsPermutation-refl, IsPermutation-trans}
use Rattle.std.proofs.lemmas.List.Sums.{sum_by-append, sum_by-cons}
use Rattle.fx_terms.specs.declared.triples.Triple.{Triple}
use Rattle.fx_outside.specs.Endpoints.{EndpointParts}
use Rattle.fx_algebra.specs.Graphs.{union}
use Rattle.fx_algebra.specs.Groups.{one_empty}
use Rattle.fx_algebra.specs.declared.units.Row.{Row}
use Rattle.fx_algebra.specs.declared.units.Unit as unit
use Rattle.fx_spelling.specs.Units.{IsSound}
use Rattle.fx_steps.specs.Steps.{numbered, stepped}
use Rattle.fx_traffic.specs.Batches.{IsBatchText, IsRunSent}
use Rattle.fx_traffic.specs.Gains.{IsMemberIn, TellOf}
use Rattle.fx_traffic.specs.Sent.{Sent}
use Rattle.fx_traffic.proofs.CutLemmas.{batch_laws}
use Rattle.fx_traffic.proofs.GainLemmas.{gain_laws}
use Rattle.fx_traffic.proofs.SentLemmas.{middle_changes, sent_laws}
use Rattle.fx_wire.specs.Exchanges.{Seen}
use Rattle.fx_pool.proofs.WiresLemmas.{AllTell, all_tell, as_many, still_tell}
use Rattle.fx_flows.specs.Flows.{IsBatchRead, IsShort, rows_in}
use Rattle.fx_flows.specs.RunFlows.{HasFlowCause}
use Rattle.fx_flows.specs.declared.flows.FlowError.{FlowError}
use Rattle.fx_pool.proofs.BesideLemmas.{back_all, front_all}
use Rattle.fx_flows.proofs.FlowLemmas.{behind, has_wider, in_front, told_fewer}
use Rattle.fx_flows.proofs.TurnLemmas.{cause_of_more, members_of_more, of_more, read_of_more, sent_in_turn, stepped_all, stepped_moves}
use Rattle.fx_side_by_side.specs.SideBySide.{AreShared, RunShared, RunsFlowed, Share}
use Rattle.fx_side_by_side.specs.Steps.{AreBehind, IsBehind, StepsFlowed, begins, nothing_shared, unit_at}
use Rattle.fx_side_by_side.proofs.GainedLemmas.{exchanged, failures, falls_in_turn, falls_into, nothing_falls}
use Rattle.fx_side_by_side.proofs.RunsLemmas.{Results, all_wider, falls_of_runs, none_exchanged, nothings, runs_from}
use Rattle.fx_side_by_side.proofs.ShareLemmas.{shared_of_none}
use Rattle.fx_side_by_side.proofs.StepLemmas.{behind_wider}

-- ---- one run

abbrev pub both_shares : Share → Share → Share
both_shares a b = record { exchanges = a.exchanges ++ b.exchanges; failed = a.failed + b.failed; wanted = a.wanted ++ b.wanted; left = a.left ++ b.left }

module _ (s v : List Seen) (es : List EndpointParts) (us vs : List unit.Unit) (block : ℕ) (rows : List Row) where
  front : (u : unit.Unit) → Contains us u → Contains (us ++ vs) u
  front u m = in_front us vs u m

  back : (u : unit.Unit) → Contains vs u → Contains (us ++ vs) u
  back u m = behind us vs u m

  told_us : (graphs : List (List Triple)) → TellOf s es graphs (IsMemberIn (us ++ vs)) → TellOf s es graphs (IsMemberIn us)
  told_us graphs told = told_fewer s es graphs (IsMemberIn (us ++ vs)) (IsMemberIn us) (members_of_more us (us ++ vs) front) told

  told_vs : (graphs : List (List Triple)) → TellOf s es graphs (IsMemberIn (us ++ vs)) → TellOf s es graphs (IsMemberIn vs)
  told_vs graphs told = told_fewer s es graphs (IsMemberIn (us ++ vs)) (IsMemberIn vs) (members_of_more vs (us ++ vs) back) told

  pub shared_in_turn : (a b : Share) (mid : List Row) (r : Result (List Row) FlowError) → RunShared s v es us block rows a (Ok mid) → RunShared s v es vs block mid b r → RunShared s v es (us ++ vs) block rows (both_shares a b) r
  shared_in_turn a b mid r h k = record {
    few = (let none : a.failed ≡ 0 = h.unfailed in let few : b.failed ≤ length s = k.few in omega (arith, none, few));
    unfailed = unfailed r k.unfailed;
    sent = sent_laws.together a.wanted a.left b.wanted b.left a.exchanges b.exchanges h.sent k.sent;
    of_batches = All-append (IsBatchText es block (Contains (us ++ vs))) a.wanted b.wanted (of_more es block us (us ++ vs) front a.wanted h.of_batches) (of_more es block vs (us ++ vs) back b.wanted k.of_batches);
    whole = whole r k.whole;
    short = All-append IsShort a.exchanges b.exchanges h.short k.short;
    faultless = faultless r k.faultless;
    of_run = λ graphs told sound.
        sent_in_turn es (union graphs) block 1 us vs rows a.wanted b.wanted (omega arith) (h.of_run graphs (told_us graphs told) (front_all (IsSound graphs) us vs sound))
        (batch_laws.run_in_any_order es (union graphs) block 1 vs mid (stepped (union graphs) us rows) b.wanted (h.done graphs (told_us graphs told) (front_all (IsSound graphs) us vs sound))
        (k.of_run graphs (told_vs graphs told) (back_all (IsSound graphs) us vs sound)));
    done = done r k.done;
    cause = cause r k.cause;
  }
    where
      unfailed : (o : Result (List Row) FlowError) → IfOk o (λ _. b.failed ≡ 0) → IfOk o (λ _. a.failed + b.failed ≡ 0)
      unfailed (Ok next) none = let one : a.failed ≡ 0 = h.unfailed in let two : b.failed ≡ 0 = none in omega (arith, one, two)
      unfailed (Err why) none = tt

      whole : (o : Result (List Row) FlowError) → IfOk o (λ _. b.left ≡ []) → IfOk o (λ _. a.left ++ b.left ≡ [])
      whole (Ok next) none = ap (λ (l : List Sent). l ++ b.left) h.whole ∙ none
      whole (Err why) none = tt

      faultless : (o : Result (List Row) FlowError) → IfOk o (λ _. All (IsBatchRead (Contains vs)) b.exchanges) → IfOk o (λ _. All (IsBatchRead (Contains (us ++ vs))) (a.exchanges ++ b.exchanges))
      faultless (Ok next) read =
          All-append (IsBatchRead (Contains (us ++ vs))) a.exchanges b.exchanges (read_of_more us (us ++ vs) front a.exchanges h.faultless) (read_of_more vs (us ++ vs) back b.exchanges read)
      faultless (Err why) read = tt

      done : (o : Result (List Row) FlowError) → IfOk o (λ next. (graphs : List (List Triple)) → TellOf s es graphs (IsMemberIn vs) → All (IsSound graphs) vs → IsPermutation next (stepped (union graphs) vs mid))
          → IfOk o (λ next. (graphs : List (List Triple)) → TellOf s es graphs (IsMemberIn (us ++ vs)) → All (IsSound graphs) (us ++ vs) → IsPermutation next (stepped (union graphs) (us ++ vs) rows))
      done (Ok next) d = λ graphs told sound.
          subst (IsPermutation next) (sym (stepped_all (union graphs) us vs rows))
          (IsPermutation-trans next (stepped (union graphs) vs mid) (stepped (union graphs) vs (stepped (union graphs) us rows)) (d graphs (told_vs graphs told) (back_all (IsSound graphs) us vs sound))
          (stepped_moves (union graphs) vs mid (stepped (union graphs) us rows) (h.done graphs (told_us graphs told) (front_all (IsSound graphs) us vs sound))))
      done (Err why) d = tt

      cause : (o : Result (List Row) FlowError) → IfErr o (HasFlowCause s v es vs block b.wanted b.exchanges) → IfErr o (HasFlowCause s v es (us ++ vs) block (a.wanted ++ b.wanted) (a.exchanges ++ b.exchanges))
      cause (Ok next) c = tt
      cause (Err why) c =
          cause_of_more s v es vs (us ++ vs) block (a.wanted ++ b.wanted) (a.exchanges ++ b.exchanges) back why
          (has_wider s v s v es vs block b.wanted (a.wanted ++ b.wanted) b.exchanges (a.exchanges ++ b.exchanges) (λ address rose. rose) (λ address g tell. tell)
          (λ x m. behind a.wanted b.wanted x m) (λ x m. behind a.exchanges b.exchanges x m) why c)

  -- it was refused before the others were come to
  pub shared_refused : (a : Share) (why : FlowError) → RunShared s v es us block rows a (Err why) → RunShared s v es (us ++ vs) block rows a (Err why)
  shared_refused a why h = record {
    few = h.few;
    unfailed = tt;
    sent = h.sent;
    of_batches = of_more es block us (us ++ vs) front a.wanted h.of_batches;
    whole = tt;
    short = h.short;
    faultless = tt;
    of_run = λ graphs told sound.
        subst (IsRunSent es (union graphs) block 1 (us ++ vs) rows) (append-nil a.wanted)
        (sent_in_turn es (union graphs) block 1 us vs rows a.wanted [] (omega arith) (h.of_run graphs (told_us graphs told) (front_all (IsSound graphs) us vs sound))
        (batch_laws.nothing es (union graphs) block 1 vs (stepped (union graphs) us rows)));
    done = tt;
    cause = cause_of_more s v es us (us ++ vs) block a.wanted a.exchanges front why h.cause;
  }

-- ---- each run

-- the units of each up to this step
abbrev pub up_to : ℕ → List (List unit.Unit) → List (List unit.Unit)
up_to step runs = map (take step) runs

-- shares of both
record Joined (s v : List Seen) (es : List EndpointParts) (step block : ℕ) (runs : List (List unit.Unit)) (shares more : List Share) (qs : Results) : Type 0 where
  pub all : List Share
  pub each : AreShared s v es block (up_to (step + 1) runs) all qs
  pub same : IsPermutation (exchanged all) (exchanged shares ++ exchanged more)
  pub count : failures all ≡ failures shares + failures more

module _ (s v : List Seen) (es : List EndpointParts) (step block : ℕ) where
  longer : (us : List unit.Unit) (sh : Share) (q : Result (List Row) FlowError) → RunShared s v es (take step us ++ unit_at step us) block (numbered 0 one_empty) sh q → RunShared s v es (take (step + 1) us) block (numbered 0 one_empty) sh q
  longer us sh q h = subst (λ (l : List unit.Unit). RunShared s v es l block (numbered 0 one_empty) sh q) (sym (take-add step 1 us)) h

  module _ (us : List unit.Unit) (runs : List (List unit.Unit)) (sh : Share) (shares : List Share) (m : Share) (more : List Share) (q : Result (List Row) FlowError) (qs : Results) (rest : Joined s v es step block runs shares more qs) where
    counted : (x : Share) (l : List Share) → failures (x ∷ l) ≡ x.failed + failures l
    counted x l = sum_by-cons (λ (y : Share). y.failed) x l

    went_on : (mid : List Row) → RunShared s v es (take step us) block (numbered 0 one_empty) sh (Ok mid) → RunShared s v es (unit_at step us) block mid m q → Joined s v es step block (us ∷ runs) (sh ∷ shares) (m ∷ more) (q ∷ qs)
    went_on mid h k = record {
      all = both_shares sh m ∷ rest.all;
      each = (longer us (both_shares sh m) q (shared_in_turn s v es (take step us) (unit_at step us) block (numbered 0 one_empty) sh m mid q h k), rest.each);
      same =
          IsPermutation-trans ((sh.exchanges ++ m.exchanges) ++ exchanged rest.all) ((sh.exchanges ++ m.exchanges) ++ (exchanged shares ++ exchanged more)) ((sh.exchanges ++ exchanged shares) ++ (m.exchanges ++ exchanged more))
          (IsPermutation-append_right (sh.exchanges ++ m.exchanges) (exchanged rest.all) (exchanged shares ++ exchanged more) rest.same)
          (middle_changes sh.exchanges m.exchanges (exchanged shares) (exchanged more));
      count = omega (arith, counted (both_shares sh m) rest.all, counted sh shares, counted m more, rest.count);
    }

    stood_still : (why : FlowError) → RunShared s v es (take step us) block (numbered 0 one_empty) sh (Err why) → m ≡ nothing_shared → q ≡ Err why → Joined s v es step block (us ∷ runs) (sh ∷ shares) (m ∷ more) (q ∷ qs)
    stood_still why h none is = record {
      all = sh ∷ rest.all;
      each = (longer us sh q (subst (RunShared s v es (take step us ++ unit_at step us) block (numbered 0 one_empty) sh) (sym is) (shared_refused s v es (take step us) (unit_at step us) block (numbered 0 one_empty) sh why h)), rest.each);
      same =
          subst (λ (x : Share). IsPermutation (sh.exchanges ++ exchanged rest.all) ((sh.exchanges ++ exchanged shares) ++ exchanged (x ∷ more))) (sym none)
          (subst (IsPermutation (sh.exchanges ++ exchanged rest.all)) (sym (append_assoc sh.exchanges (exchanged shares) (exchanged more)))
          (IsPermutation-append_right sh.exchanges (exchanged rest.all) (exchanged shares ++ exchanged more) rest.same));
      count =
          let nothing : m.failed ≡ 0 = ap (λ (x : Share). x.failed) none in
          omega (arith, nothing, counted sh rest.all, counted sh shares, counted m more, rest.count);
    }

    one_joined : (r : Result (List Row) FlowError) → RunShared s v es (take step us) block (numbered 0 one_empty) sh r → IsBehind s v es block (unit_at step us) r m q → Joined s v es step block (us ∷ runs) (sh ∷ shares) (m ∷ more) (q ∷ qs)
    one_joined (Ok mid) h k = went_on mid h k
    one_joined (Err why) h k = stood_still why h k.0 k.1

  joined : (runs : List (List unit.Unit)) (shares : List Share) (rs : Results) (more : List Share) (qs : Results) → AreShared s v es block (up_to step runs) shares rs → AreBehind s v es step block runs rs more qs → Joined s v es step block runs shares more qs
  joined [] [] [] [] [] h k = record { all = []; each = tt; same = IsPermutation-refl []; count = refl }
  joined [] [] [] [] (q ∷ qs) h k = absurd k
  joined [] [] [] (m ∷ more) [] h k = absurd k
  joined [] [] [] (m ∷ more) (q ∷ qs) h k = absurd k
  joined [] [] (r ∷ rs) [] [] h k = absurd h
  joined [] [] (r ∷ rs) [] (q ∷ qs) h k = absurd h
  joined [] [] (r ∷ rs) (m ∷ more) [] h k = absurd h
  joined [] [] (r ∷ rs) (m ∷ more) (q ∷ qs) h k = absurd h
  joined [] (sh ∷ shares) [] [] [] h k = absurd h
  joined [] (sh ∷ shares) [] [] (q ∷ qs) h k = absurd h
  joined [] (sh ∷ shares) [] (m ∷ more) [] h k = absurd h
  joined [] (sh ∷ shares) [] (m ∷ more) (q ∷ qs) h k = absurd h
  joined [] (sh ∷ shares) (r ∷ rs) [] [] h k = absurd h
  joined [] (sh ∷ shares) (r ∷ rs) [] (q ∷ qs) h k = absurd h
  joined [] (sh ∷ shares) (r ∷ rs) (m ∷ more) [] h k = absurd h
  joined [] (sh ∷ shares) (r ∷ rs) (m ∷ more) (q ∷ qs) h k = absurd h
  joined (us ∷ runs) [] [] [] [] h k = absurd h
  joined (us ∷ runs) [] [] [] (q ∷ qs) h k = absurd h
  joined (us ∷ runs) [] [] (m ∷ more) [] h k = absurd h
  joined (us ∷ runs) [] [] (m ∷ more) (q ∷ qs) h k = absurd h
  joined (us ∷ runs) [] (r ∷ rs) [] [] h k = absurd h
  joined (us ∷ runs) [] (r ∷ rs) [] (q ∷ qs) h k = absurd h
  joined (us ∷ runs) [] (r ∷ rs) (m ∷ more) [] h k = absurd h
  joined (us ∷ runs) [] (r ∷ rs) (m ∷ more) (q ∷ qs) h k = absurd h
  joined (us ∷ runs) (sh ∷ shares) [] [] [] h k = absurd h
  joined (us ∷ runs) (sh ∷ shares) [] [] (q ∷ qs) h k = absurd h
  joined (us ∷ runs) (sh ∷ shares) [] (m ∷ more) [] h k = absurd h
  joined (us ∷ runs) (sh ∷ shares) [] (m ∷ more) (q ∷ qs) h k = absurd h
  joined (us ∷ runs) (sh ∷ shares) (r ∷ rs) [] [] h k = absurd k
  joined (us ∷ runs) (sh ∷ shares) (r ∷ rs) [] (q ∷ qs) h k = absurd k
  joined (us ∷ runs) (sh ∷ shares) (r ∷ rs) (m ∷ more) [] h k = absurd k
  joined (us ∷ runs) (sh ∷ shares) (r ∷ rs) (m ∷ more) (q ∷ qs) h k = one_joined us runs sh shares m more q qs (joined runs shares rs more qs h.1 k.1) r h.0 k.0

-- ---- runs up to a step, and then this step

pub step_on : (tells alone : Bool) (s t v : List Seen) (es : List EndpointParts) (step block : ℕ) (runs : List (List unit.Unit)) (rs qs : Results) → AllTell tells s → AllTell tells t
    → RunsFlowed tells alone s t es (up_to step runs) block rs → StepsFlowed tells alone t v es step block runs rs qs → RunsFlowed tells alone s v es (up_to (step + 1) runs) block qs
step_on tells alone s t v es step block runs rs qs s_tells t_tells h k =
    runs_from tells alone s v es block (up_to (step + 1) runs) all.all qs
    (falls_into tells alone s v (h.shares ++ k.shares) all.all
    (subst (IsPermutation (exchanged all.all)) (sym (flat_map-append (λ (x : Share). x.exchanges) h.shares k.shares)) all.same)
    (all.count ∙ sym (sum_by-append (λ (x : Share). x.failed) h.shares k.shares))
    (falls_in_turn tells alone s t v h.shares k.shares s_tells t_tells (falls_of_runs tells alone s t es block (up_to step runs) rs h) k.exchanged))
    all.each
  where
    all : Joined s v es step block runs h.shares k.shares qs
    all = joined s v es step block runs h.shares rs k.shares qs
        (all_wider s t s v (λ address rose. omega (arith, rose, gain_laws.never_fall t v address k.exchanged.after_all)) (λ address g tell. tell) (omega arith) es block (up_to step runs) h.shares rs h.each)
        (behind_wider t v s v (λ address rose. omega (arith, rose, gain_laws.never_fall s t address h.after_all)) (λ address g tell. still_tell s t address g h.after_all tell) (omega (arith, as_many s t h.after_all)) es step block runs rs k.shares qs k.each)

-- ---- before the first step

each_begun : (s t : List Seen) (es : List EndpointParts) (block : ℕ) (runs : List (List unit.Unit)) → AreShared s t es block (up_to 0 runs) (nothings runs) (begins runs)
each_begun s t es block [] = tt
each_begun s t es block (us ∷ runs) = (shared_of_none s t es block (numbered 0 one_empty), each_begun s t es block runs)

pub runs_begun : (tells alone : Bool) (wires : List Seen) (es : List EndpointParts) (block : ℕ) (runs : List (List unit.Unit)) → RunsFlowed tells alone wires wires es (up_to 0 runs) block (begins runs)
runs_begun tells alone wires es block runs =
    runs_from tells alone wires wires es block (up_to 0 runs) (nothings runs) (begins runs) (nothing_falls tells alone wires (nothings runs) (none_exchanged runs)) (each_begun wires wires es block runs)

-- ---- behind the last

all_of_each : (step : ℕ) (runs : List (List unit.Unit)) → AllByRecursion (λ (us : List unit.Unit). length us ≤ step) runs → up_to step runs ≡ runs
all_of_each step [] h = refl
all_of_each step (us ∷ runs) h = ap (λ (l : List unit.Unit). l ∷ up_to step runs) (take_all step us h.0) ∙ ap (λ (l : List (List unit.Unit)). us ∷ l) (all_of_each step runs h.1)

pub steps_done : (step longest : ℕ) (runs : List (List unit.Unit)) → longest ≤ step → All (λ (us : List unit.Unit). length us ≤ longest) runs → up_to step runs ≡ runs
steps_done step longest runs le h =
    all_of_each step runs
    (recursion_from_All (λ (us : List unit.Unit). length us ≤ step) runs
    (All-weaker (λ (us : List unit.Unit). length us ≤ longest) (λ (us : List unit.Unit). length us ≤ step) (λ us low. omega (arith, low, le)) runs h))

-- ---- as runs lie in memory

pub as_many_begun : (found : List (Result (Vec Row Global) FlowError)) (runs : List (List unit.Unit)) → map rows_in found ≡ begins runs → length found ≡ length runs
as_many_begun found runs is = sym (length-map found rows_in) ∙ ap length is ∙ length-map runs (λ (us : List unit.Unit). Ok (numbered 0 one_empty))

pub next_step : {W : Type 0} (see : W → Seen) (tells alone : Bool) → ((w : W) → (see w).tells_log ≡ tells) → (es : List EndpointParts) (step block : ℕ) (runs : List (List unit.Unit)) (s t v : List W) (rs qs : Results)
    → RunsFlowed tells alone (map see s) (map see t) es (up_to step runs) block rs → StepsFlowed tells alone (map see t) (map see v) es step block runs rs qs → RunsFlowed tells alone (map see s) (map see v) es (up_to (step + 1) runs) block qs
next_step see tells alone told es step block runs s t v rs qs h k = step_on tells alone (map see s) (map see t) (map see v) es step block runs rs qs (all_tell see tells told s) (all_tell see tells told t) h k
