-- A run of some units, and then of others over the rows that these give, is a run of all of them.
use Rattle.std.proofs.Common.{◌≡◌, ◌∙◌, ap, sym, subst, refl, ℕ, ◌+◌, ◌/◌, ◌≤◌, List, [], ◌∷◌, ◌++◌, IfOk, IfErr, Result, Ok, Err, All, Contains, length, arith, append-nil, append_assoc, zero-le, IsPermutation}
use Rattle.std.proofs.lemmas.List.Elements.{All-append, All-nil, All-weaker, recursion_from_All}
use Rattle.std.proofs.lemmas.List.Sorted.{All-permutation, Contains-permutation, IsPermutation-refl, IsPermutation-trans}
use Rattle.fx_terms.specs.declared.triples.Triple.{Triple}
use Rattle.fx_outside.specs.Endpoints.{EndpointParts}
use Rattle.fx_algebra.specs.Graphs.{union}
use Rattle.fx_algebra.specs.Units.{step}
use Rattle.fx_algebra.specs.declared.units.Row.{Row}
use Rattle.fx_algebra.specs.declared.units.Unit as unit
use Rattle.fx_spelling.specs.Units.{IsSound}
use Rattle.fx_steps.specs.Steps.{stepped}
use Rattle.fx_traffic.specs.Batches.{IsBatchText, IsRunSent}
use Rattle.fx_traffic.specs.Gains.{IsMemberIn, TellOf, faults_at}
use Rattle.fx_traffic.specs.Sent.{Sent, Sends}
use Rattle.fx_traffic.proofs.CutLemmas.{batch_laws}
use Rattle.fx_traffic.proofs.GainLemmas.{gain_laws}
use Rattle.fx_traffic.proofs.SentLemmas.{sent_laws}
use Rattle.fx_wire.specs.Exchanges.{Exchange, Seen}
use Rattle.fx_flows.specs.Flows.{IsBatchRead, IsShort}
use Rattle.fx_flows.specs.RunFlows.{HasFlowCause, IsFlowCause}
use Rattle.fx_flows.specs.RunLaws.{RunInTurn, RunLaws, RunOfNoRows, RunOfNone, RunRefused, SentInTurn}
use Rattle.fx_flows.specs.declared.flows.FlowError.{FlowError}
use Rattle.fx_flows.specs.declared.flows.FlowError.TheVariants as flow
use Rattle.fx_pool.specs.Runs.{IsHonestOver}
use Rattle.fx_pool.proofs.BesideLemmas.{back_all, front_all}
use Rattle.fx_pool.proofs.WireLemmas.{after_itself}
use Rattle.fx_pool.proofs.WiresLemmas.{GainedBoth, all_after, as_many, gained_both, still_tell, still_tell_of}
use Rattle.fx_flows.proofs.InPartLemmas.{in_part_together, in_part_whole, in_part_wider, none_in_part}
use Rattle.fx_flows.proofs.FlowLemmas.{behind, has_wider, in_front, no_rows, told_fewer}

-- ---- rows

pub stepped_all : (graph : List Triple) (us vs : List unit.Unit) (rows : List Row) → stepped graph (us ++ vs) rows ≡ stepped graph vs (stepped graph us rows)
stepped_all graph [] vs rows = refl
stepped_all graph (u ∷ us) vs rows = stepped_all graph us vs (step graph u rows)

pub stepped_moves : (graph : List Triple) (us : List unit.Unit) (rows others : List Row) → IsPermutation rows others → IsPermutation (stepped graph us rows) (stepped graph us others)
stepped_moves graph [] rows others h = h
stepped_moves graph (u ∷ us) rows others h = stepped_moves graph us (step graph u rows) (step graph u others) (batch_laws.any_order graph u rows others h)

-- ---- what may be sent

more_may_be : (es : List EndpointParts) (graph : List Triple) (block most more : ℕ) (us : List unit.Unit) (rows : List Row) (wanted : List Sent)
    → most ≤ more → IsRunSent es graph block most us rows wanted → IsRunSent es graph block more us rows wanted
more_may_be es graph block most more [] rows wanted le h = h
more_may_be es graph block most more (u ∷ us) rows wanted le h =
    let next : most + length rows / block ≤ more + length rows / block = omega (arith, le) in (
      h.0,
      h.1,
      h.2,
      record { batches = h.3.batches; cut = batch_laws.more rows block (most + length rows / block) (more + length rows / block) h.3.batches next h.3.cut; texts = h.3.texts },
      more_may_be es graph block (most + length rows / block) (more + length rows / block) us (step graph u rows) h.1 next h.4,
    )

pub sent_in_turn : SentInTurn
sent_in_turn es graph block most [] vs rows wanted more some h k = subst (λ (v : List Sent). IsRunSent es graph block most vs rows (v ++ more)) (sym h) (more_may_be es graph block 1 most vs rows more some k)
sent_in_turn es graph block most (u ∷ us) vs rows wanted more some h k =
    let next : 1 ≤ most + length rows / block = omega (arith, some) in (
      h.0,
      h.1 ++ more,
      ap (λ (v : List Sent). v ++ more) h.2 ∙ append_assoc h.0 h.1 more,
      h.3,
      sent_in_turn es graph block (most + length rows / block) us vs (step graph u rows) h.1 more next h.4 k,
    )

-- ---- of some of the units, and of all

pub members_of_more : (us vs : List unit.Unit) → ((u : unit.Unit) → Contains us u → Contains vs u) → (at : ℕ) → IsMemberIn us at → IsMemberIn vs at
members_of_more us vs wider at m = (m.0, wider m.0 m.1, m.2)

pub of_more : (es : List EndpointParts) (block : ℕ) (us vs : List unit.Unit) → ((u : unit.Unit) → Contains us u → Contains vs u) → (wanted : List Sent) → All (IsBatchText es block (Contains us)) wanted → All (IsBatchText es block (Contains vs)) wanted
of_more es block us vs wider wanted h =
    All-weaker (IsBatchText es block (Contains us)) (IsBatchText es block (Contains vs)) (λ x b. record { unit = b.unit; of_these = wider b.unit b.of_these; batch = b.batch; sized = b.sized; sent = b.sent }) wanted h

pub read_of_more : (us vs : List unit.Unit) → ((u : unit.Unit) → Contains us u → Contains vs u) → (xs : List Exchange) → All (IsBatchRead (Contains us)) xs → All (IsBatchRead (Contains vs)) xs
read_of_more us vs wider xs h = All-weaker (IsBatchRead (Contains us)) (IsBatchRead (Contains vs)) (λ x b. record { unit = b.unit; of_these = wider b.unit b.of_these; batch = b.batch; read = b.read }) xs h

module _ (s t : List Seen) (es : List EndpointParts) (us vs : List unit.Unit) (block : ℕ) (wanted : List Sent) (xs : List Exchange) (wider : (u : unit.Unit) → Contains us u → Contains vs u) where
  its_cause : (why : FlowError) → IsFlowCause s t es us block wanted xs why → IsFlowCause s t es vs block wanted xs why
  its_cause why k = record {
    unit = k.unit;
    of_run = wider k.unit k.of_run;
    batch = k.batch;
    sized = k.sized;
    allowed = k.allowed;
    at = k.at;
    member = k.member;
    endpoint = k.endpoint;
    found = k.found;
    named = k.named;
    cause = k.cause;
  }

  pub cause_of_more : (why : FlowError) → HasFlowCause s t es us block wanted xs why → HasFlowCause s t es vs block wanted xs why
  cause_of_more (flow.Member at) k = its_cause (flow.Member at) k
  cause_of_more (flow.BadReply at bad) k = its_cause (flow.BadReply at bad) k
  cause_of_more (flow.RequestTooLong at size) k = its_cause (flow.RequestTooLong at size) k
  cause_of_more flow.Memory k = tt

-- ---- one run after the other

pub run_in_turn : RunInTurn
run_in_turn tells alone s t v es us vs block rows mid result s_tells t_tells h k = record {
  exchanges = gained.all;
  gained = gained.gained;
  honest =
      All-permutation (IsHonestOver s) (h.exchanges ++ k.exchanges) gained.all gained.same
      (All-append (IsHonestOver s) h.exchanges k.exchanges h.honest
      (All-weaker (IsHonestOver t) (IsHonestOver s) (λ x honest graph tell. honest graph (still_tell s t x.at.iri graph h.after_all tell)) k.exchanges k.honest));
  after_all = all_after tells s t v (recursion_from_All (λ (w : Seen). w.tells_log ≡ tells) s s_tells) (recursion_from_All (λ (w : Seen). w.tells_log ≡ tells) t t_tells) h.after_all k.after_all;
  failed = k.failed;
  few = (let few : k.failed ≤ length t = k.few in omega (arith, few, as_many s t h.after_all));
  unfailed = k.unfailed;
  counted = λ is address.
      let none : h.failed ≡ 0 = h.unfailed in
      let low : faults_at t address ≤ faults_at s address + h.failed = h.counted is address in
      let high : faults_at v address ≤ faults_at t address + k.failed = k.counted is address in
      omega (arith, none, low, high);
  wanted = h.wanted ++ k.wanted;
  left = h.left ++ k.left;
  sent =
      sent_laws.any_order (h.wanted ++ k.wanted) (h.left ++ k.left) (h.exchanges ++ k.exchanges) gained.all gained.same
      (sent_laws.together h.wanted h.left k.wanted k.left h.exchanges k.exchanges h.sent k.sent);
  in_part =
      in_part_wider es (0 + length t) (length s) (h.wanted ++ k.wanted) (h.wanted ++ k.wanted) (h.exchanges ++ k.exchanges) gained.all (omega (arith, as_many s t h.after_all)) (IsPermutation-refl (h.wanted ++ k.wanted)) gained.same
      (in_part_together es 0 (length t) h.wanted k.wanted h.exchanges k.exchanges
      (in_part_whole es (length s) h.wanted h.exchanges (subst (λ (l : List Sent). Sends h.wanted l h.exchanges) h.whole h.sent) h.in_part) k.in_part);
  of_batches = All-append (IsBatchText es block (Contains (us ++ vs))) h.wanted k.wanted (of_more es block us (us ++ vs) front h.wanted h.of_batches) (of_more es block vs (us ++ vs) back k.wanted k.of_batches);
  whole = whole result k.whole;
  short = All-permutation IsShort (h.exchanges ++ k.exchanges) gained.all gained.same (All-append IsShort h.exchanges k.exchanges h.short k.short);
  faultless = faultless result k.faultless;
  of_run = λ graphs told sound.
      sent_in_turn es (union graphs) block 1 us vs rows h.wanted k.wanted (omega arith) (h.of_run graphs (told_us graphs told) (front_all (IsSound graphs) us vs sound))
      (batch_laws.run_in_any_order es (union graphs) block 1 vs mid (stepped (union graphs) us rows) k.wanted (h.done graphs (told_us graphs told) (front_all (IsSound graphs) us vs sound))
      (k.of_run graphs (told_vs graphs told) (back_all (IsSound graphs) us vs sound)));
  done = done result k.done;
  cause = cause result k.cause;
}
  where
    gained : GainedBoth tells s v h.exchanges k.exchanges
    gained = gained_both tells s t v h.exchanges k.exchanges h.gained k.gained

    front : (u : unit.Unit) → Contains us u → Contains (us ++ vs) u
    front u m = in_front us vs u m

    back : (u : unit.Unit) → Contains vs u → Contains (us ++ vs) u
    back u m = behind us vs u m

    told_us : (graphs : List (List Triple)) → TellOf s es graphs (IsMemberIn (us ++ vs)) → TellOf s es graphs (IsMemberIn us)
    told_us graphs told = told_fewer s es graphs (IsMemberIn (us ++ vs)) (IsMemberIn us) (members_of_more us (us ++ vs) front) told

    told_vs : (graphs : List (List Triple)) → TellOf s es graphs (IsMemberIn (us ++ vs)) → TellOf t es graphs (IsMemberIn vs)
    told_vs graphs told = still_tell_of s t h.after_all es graphs (IsMemberIn vs) (told_fewer s es graphs (IsMemberIn (us ++ vs)) (IsMemberIn vs) (members_of_more vs (us ++ vs) back) told)

    whole : (o : Result (List Row) FlowError) → IfOk o (λ _. k.left ≡ []) → IfOk o (λ _. h.left ++ k.left ≡ [])
    whole (Ok next) none = ap (λ (l : List Sent). l ++ k.left) h.whole ∙ none
    whole (Err why) none = tt

    faultless : (o : Result (List Row) FlowError) → IfOk o (λ _. All (IsBatchRead (Contains vs)) k.exchanges) → IfOk o (λ _. All (IsBatchRead (Contains (us ++ vs))) gained.all)
    faultless (Ok next) read =
        All-permutation (IsBatchRead (Contains (us ++ vs))) (h.exchanges ++ k.exchanges) gained.all gained.same
        (All-append (IsBatchRead (Contains (us ++ vs))) h.exchanges k.exchanges (read_of_more us (us ++ vs) front h.exchanges h.faultless) (read_of_more vs (us ++ vs) back k.exchanges read))
    faultless (Err why) read = tt

    done : (o : Result (List Row) FlowError) → IfOk o (λ next. (graphs : List (List Triple)) → TellOf t es graphs (IsMemberIn vs) → All (IsSound graphs) vs → IsPermutation next (stepped (union graphs) vs mid))
        → IfOk o (λ next. (graphs : List (List Triple)) → TellOf s es graphs (IsMemberIn (us ++ vs)) → All (IsSound graphs) (us ++ vs) → IsPermutation next (stepped (union graphs) (us ++ vs) rows))
    done (Ok next) d = λ graphs told sound.
        subst (IsPermutation next) (sym (stepped_all (union graphs) us vs rows))
        (IsPermutation-trans next (stepped (union graphs) vs mid) (stepped (union graphs) vs (stepped (union graphs) us rows))
        (d graphs (told_vs graphs told) (back_all (IsSound graphs) us vs sound))
        (stepped_moves (union graphs) vs mid (stepped (union graphs) us rows) (h.done graphs (told_us graphs told) (front_all (IsSound graphs) us vs sound))))
    done (Err why) d = tt

    cause : (o : Result (List Row) FlowError) → IfErr o (HasFlowCause t v es vs block k.wanted k.exchanges) → IfErr o (HasFlowCause s v es (us ++ vs) block (h.wanted ++ k.wanted) gained.all)
    cause (Ok next) c = tt
    cause (Err why) c =
        cause_of_more s v es vs (us ++ vs) block (h.wanted ++ k.wanted) gained.all back why
        (has_wider t v s v es vs block k.wanted (h.wanted ++ k.wanted) k.exchanges gained.all
        (λ address rose. omega (arith, rose, gain_laws.never_fall s t address h.after_all))
        (λ address g tell. still_tell s t address g h.after_all tell)
        (λ x m. behind h.wanted k.wanted x m)
        (λ x m. Contains-permutation (h.exchanges ++ k.exchanges) gained.all x gained.same (behind h.exchanges k.exchanges x m)) why c)

-- ---- units that weren't come to

pub run_refused : RunRefused
run_refused tells alone s t es us vs block rows why h = record {
  exchanges = h.exchanges;
  gained = h.gained;
  honest = h.honest;
  after_all = h.after_all;
  failed = h.failed;
  few = h.few;
  unfailed = tt;
  counted = h.counted;
  wanted = h.wanted;
  left = h.left;
  sent = h.sent;
  in_part = h.in_part;
  of_batches = of_more es block us (us ++ vs) (λ u m. in_front us vs u m) h.wanted h.of_batches;
  whole = tt;
  short = h.short;
  faultless = tt;
  of_run = λ graphs told sound.
      subst (IsRunSent es (union graphs) block 1 (us ++ vs) rows) (append-nil h.wanted)
      (sent_in_turn es (union graphs) block 1 us vs rows h.wanted [] (omega arith)
      (h.of_run graphs (told_fewer s es graphs (IsMemberIn (us ++ vs)) (IsMemberIn us) (members_of_more us (us ++ vs) (λ u m. in_front us vs u m)) told) (front_all (IsSound graphs) us vs sound))
      (batch_laws.nothing es (union graphs) block 1 vs (stepped (union graphs) us rows)));
  done = tt;
  cause = cause_of_more s t es us (us ++ vs) block h.wanted h.exchanges (λ u m. in_front us vs u m) why h.cause;
}

pub run_of_none : RunOfNone
run_of_none tells alone wires es block rows = record {
  exchanges = [];
  gained = λ told. gain_laws.nothing wires;
  honest = All-nil (IsHonestOver wires);
  after_all = after_itself wires;
  failed = 0;
  few = zero-le;
  unfailed = refl;
  counted = λ is address. omega arith;
  wanted = [];
  left = [];
  sent = IsPermutation-refl [];
  in_part = in_part_wider es 0 (length wires) [] [] [] [] zero-le (IsPermutation-refl []) (IsPermutation-refl []) (none_in_part es []);
  of_batches = All-nil (IsBatchText es block (Contains []));
  whole = refl;
  short = All-nil IsShort;
  faultless = All-nil (IsBatchRead (Contains []));
  of_run = λ graphs told sound. refl;
  done = λ graphs told sound. IsPermutation-refl rows;
  cause = tt;
}

run_of_no_rows : RunOfNoRows
run_of_no_rows tells alone wires es us block = no_rows tells alone wires es us block [] refl

pub run_laws : RunLaws
run_laws = record { sent = sent_in_turn; in_turn = run_in_turn; refused = run_refused; none = run_of_none; no_rows = run_of_no_rows }
