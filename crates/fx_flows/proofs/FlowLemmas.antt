-- What workers on one queue of parcels did, with several wires.
use Rattle.std.proofs.Common.{◌≡◌, ◌∙◌, ap, sym, subst, refl, ℕ, zero, suc, ◌+◌, ◌-◌, ◌/◌, ◌<◌, ◌≤◌, Bool, false, List, [], ◌∷◌, ◌++◌, map, Option, Some, None, IfOk, IfErr, OnOk, IsTrue, Result, Ok, Err, All, Contains, length, get_or, slice_get, slice_set, sum_by, arith, append-nil, inl, inr, length-append, zero-le, IsPermutation}
use Rattle.std.specs.declared.alloc.Global.{Global}
use Rattle.std.specs.declared.vec.Vec.{Vec}
use Rattle.std.proofs.lemmas.Grind.{flat_map-append}
use Rattle.std.proofs.lemmas.List.{map-append}
use Rattle.std.proofs.lemmas.List.Elements.{All-append, All-contains, All-contains_itself, All-from_recursion, All-nil, All-weaker, recursion_from_All}
use Rattle.std.proofs.lemmas.List.Sorted.{All-permutation, Contains-permutation, IsPermutation-append, IsPermutation-refl, IsPermutation-trans}
use Rattle.std.proofs.lemmas.List.Sums.{sum_by-append, sum_by-cons}
use Rattle.fx_terms.specs.declared.allocation.Memory.{Memory}
use Rattle.fx_terms.specs.declared.triples.Triple.{Triple}
use Rattle.fx_terms.proofs.SetLemmas.{Among, among_from, contains_from}
use Rattle.fx_outside.specs.Endpoints.{EndpointParts}
use Rattle.fx_algebra.specs.Graphs.{union}
use Rattle.fx_algebra.specs.Solutions.{Bindings}
use Rattle.fx_algebra.specs.Units.{graph_of, row_of}
use Rattle.fx_algebra.specs.declared.units.Row.{Row}
use Rattle.fx_algebra.specs.declared.units.Unit as unit
use Rattle.fx_algebra.proofs.MemberLemmas.{among_flat_map, among_left, among_right}
use Rattle.fx_spelling.specs.Units.{IsSound}
use Rattle.fx_bound.specs.Parts.{Parts}
use Rattle.fx_steps.specs.Steps.{numbered, stepped}
use Rattle.fx_traffic.specs.Batches.{AreCut, IsBatchText}
use Rattle.fx_traffic.specs.Gains.{AreAfter, IsMemberIn, Tell, TellOf, faults_at}
use Rattle.fx_traffic.specs.Sent.{Sent, Sends}
use Rattle.fx_traffic.proofs.CutLemmas.{batch_laws}
use Rattle.fx_traffic.proofs.GainLemmas.{gain_laws}
use Rattle.fx_traffic.proofs.SentLemmas.{middle_changes, sent_laws}
use Rattle.fx_wire.specs.Exchanges.{Exchange, Seen}
use Rattle.fx_flows.specs.Flows.{AreTold, IsBatchCause, IsBatchRead, IsCause, IsMemberCause, IsShort, rows_in}
use Rattle.fx_flows.specs.Followed.{AreOfBoth, ArePut, HasFlowed, HasTriedCause, HaveFlowed, IsEven, IsTriedCause, WireFlowed, WiresFlowed}
use Rattle.fx_flows.specs.Lines.{hand}
use Rattle.fx_flows.specs.Parcels.{Finished, IsFinished, IsParcelOf, IsStepOf, SameParcels, created, made, of_finished, parcel_sent, parcels, parcels_sent, sent_for, sent_in_turn}
use Rattle.fx_pool.specs.Posting.{IsHonestAt}
use Rattle.fx_flows.specs.RunFlows.{HasFlowCause, IsFlowCause, RunFlowed}
use Rattle.fx_pool.specs.Runs.{IsHonestOver}
use Rattle.fx_flows.specs.declared.flows.FlowError.{FlowError}
use Rattle.fx_flows.specs.declared.flows.FlowError.TheVariants as flow
use Rattle.fx_flows.specs.declared.lines.Hand.{Hand}
use Rattle.fx_flows.specs.declared.parcels.RunShape.{RunShape}
use Rattle.fx_flows.specs.declared.parcels.Parcel.{Parcel}
use Rattle.fx_pool.proofs.BesideLemmas.{after_beside, back_all, front_all}
use Rattle.fx_flows.proofs.FollowLemmas.{all_passed, begun_by_both, cause_in_turn, ended_by_both, made_both, none_tried, weight_created, weight_finished}
use Rattle.fx_flows.proofs.InPartLemmas.{in_part_wider, none_in_part, parcels_in_part}
use Rattle.fx_flows.proofs.ParcelLemmas.{all_rows, finished_of_run, may_be_sent, stepped_none, texts_in_turn, turned}
use Rattle.fx_pool.proofs.WireLemmas.{after_itself, honest_over}
use Rattle.fx_pool.proofs.WiresLemmas.{AllTell, all_after, as_many, gained_both, still_tell, still_tell_of}

-- ---- rows under their numbers

pub numbered_more : (n : ℕ) (solutions : List Bindings) (s : Bindings) → numbered n (solutions ++ s ∷ []) ≡ numbered n solutions ++ row_of (n + length solutions) s ∷ []
numbered_more n [] s = let last : n ≡ n + 0 = omega arith in ap (λ (k : ℕ). row_of k s ∷ []) last
numbered_more n (first ∷ solutions) s =
    let last : suc n + length solutions ≡ n + suc (length solutions) = omega arith in
    ap (λ (v : List Row). row_of n first ∷ v) (numbered_more (suc n) solutions s ∙ ap (λ (k : ℕ). numbered (suc n) solutions ++ row_of k s ∷ []) last)

pub numbered_length : (n : ℕ) (solutions : List Bindings) → length (numbered n solutions) ≡ length solutions
numbered_length n [] = refl
numbered_length n (s ∷ solutions) = ap suc (numbered_length (suc n) solutions)

-- ---- what wires tell

pub told_front : (s u : List Seen) (es : List EndpointParts) (graphs : List (List Triple)) (Of : ℕ → Type 0) → TellOf (s ++ u) es graphs Of → TellOf s es graphs Of
told_front s u es graphs Of h = λ at e of found. front_all (λ (w : Seen). w.graph e.iri ≡ Some (graph_of graphs at)) s u (h at e of found)

pub told_back : (s u : List Seen) (es : List EndpointParts) (graphs : List (List Triple)) (Of : ℕ → Type 0) → TellOf (s ++ u) es graphs Of → TellOf u es graphs Of
told_back s u es graphs Of h = λ at e of found. back_all (λ (w : Seen). w.graph e.iri ≡ Some (graph_of graphs at)) s u (h at e of found)

-- so it is of fewer numbers
pub told_fewer : (wires : List Seen) (es : List EndpointParts) (graphs : List (List Triple)) (Of Fewer : ℕ → Type 0) → ((at : ℕ) → Fewer at → Of at) → TellOf wires es graphs Of → TellOf wires es graphs Fewer
told_fewer wires es graphs Of Fewer fewer h = λ at e of found. h at e (fewer at of) found

-- ---- causes, of some of the wires and exchanges, are causes of all of them

module _ (s t u v : List Seen) (es : List EndpointParts) (us : List unit.Unit) (block : ℕ) (wanted all : List Sent) (xs ys : List Exchange)
    (rises : (address : List ℕ) → faults_at s address < faults_at t address → faults_at u address < faults_at v address)
    (tells : (address : List ℕ) (g : List Triple) → Tell u address g → Tell s address g)
    (sent : (x : Sent) → Contains wanted x → Contains all x)
    (exchanges : (x : Exchange) → Contains xs x → Contains ys x) where
  wider : (e : EndpointParts) (p : Parts) (why : FlowError) → IsCause (faults_at s e.iri < faults_at t e.iri) (Tell s e.iri) e p xs why → IsCause (faults_at u e.iri < faults_at v e.iri) (Tell u e.iri) e p ys why
  wider e p (flow.Member at) k = rises e.iri k
  wider e p (flow.BadReply at bad) k = record {
    of_kind = k.of_kind;
    text = k.text;
    of_batch = k.of_batch;
    posts = k.posts;
    exchanged_so = exchanges _ k.exchanged_so;
    fault = k.fault;
    long = λ g told. k.long g (tells e.iri g told);
  }
  wider e p (flow.RequestTooLong at size) k = k
  wider e p flow.Memory k = tt

  wider_cause : (why : FlowError) → IsFlowCause s t es us block wanted xs why → IsFlowCause u v es us block all ys why
  wider_cause why k = record {
    unit = k.unit;
    of_run = k.of_run;
    batch = k.batch;
    sized = k.sized;
    allowed = λ x m. sent x (k.allowed x m);
    at = k.at;
    member = k.member;
    endpoint = k.endpoint;
    found = k.found;
    named = k.named;
    cause = wider k.endpoint (record { unit = k.unit; rows = k.batch }) why k.cause;
  }

  pub has_wider : (why : FlowError) → HasFlowCause s t es us block wanted xs why → HasFlowCause u v es us block all ys why
  has_wider (flow.Member at) k = wider_cause (flow.Member at) k
  has_wider (flow.BadReply at bad) k = wider_cause (flow.BadReply at bad) k
  has_wider (flow.RequestTooLong at size) k = wider_cause (flow.RequestTooLong at size) k
  has_wider flow.Memory k = tt

pub in_front : {X : Type 0} (xs ys : List X) (x : X) → Contains xs x → Contains (xs ++ ys) x
in_front xs ys x h = contains_from (xs ++ ys) x (among_left x xs ys (among_from xs x h))

pub behind : {X : Type 0} (xs ys : List X) (x : X) → Contains ys x → Contains (xs ++ ys) x
behind xs ys x h = contains_from (xs ++ ys) x (among_right x xs ys (among_from ys x h))

pub its_among : (l : List unit.Unit) (n : ℕ) (u : unit.Unit) → slice_get l n ≡ Some u → Among u l
its_among [] n u e = cc
its_among (v ∷ l) zero u e = inl (let same : v ≡ u = cc in same)
its_among (v ∷ l) (suc n) u e = inr (its_among l n u e)

-- ---- the first of several wires

module _ (tells alone : Bool) (w t : Seen) (others : List Seen) (es : List EndpointParts) (us : List unit.Unit) (c : RunShape) where
  first_tells : (address : List ℕ) (g : List Triple) → Tell (w ∷ others) address g → w.graph address ≡ Some g
  first_tells address g told = (recursion_from_All (λ (s : Seen). s.graph address ≡ Some g) (w ∷ others) told).0

  first_told : (graphs : List (List Triple)) → TellOf (w ∷ others) es graphs (IsMemberIn us) → AreTold w.graph es graphs (IsMemberIn us)
  first_told graphs told = λ at e of found. first_tells e.iri (graph_of graphs at) (told at e of found)

  counts : (first : Seen) (address : List ℕ) → faults_at (first ∷ others) address ≡ first.faults address + faults_at others address
  counts first address = sum_by-cons (λ (s : Seen). s.faults address) first others

  over : (e : EndpointParts) (p : Parts) (xs : List Exchange) (why : FlowError) → IsBatchCause w t e p xs why
      → IsCause (faults_at (w ∷ others) e.iri < faults_at (t ∷ others) e.iri) (Tell (w ∷ others) e.iri) e p xs why
  over e p xs (flow.Member at) k = let rose : w.faults e.iri < t.faults e.iri = k in omega (arith, rose, counts w e.iri, counts t e.iri)
  over e p xs (flow.BadReply at bad) k = record {
    of_kind = k.of_kind;
    text = k.text;
    of_batch = k.of_batch;
    posts = k.posts;
    exchanged_so = k.exchanged_so;
    fault = k.fault;
    long = λ g told. k.long g (first_tells e.iri g told);
  }
  over e p xs (flow.RequestTooLong at size) k = k
  over e p xs flow.Memory k = tt

  first_flows : (from to : Hand) (tried held : List Parcel) (rows : List Row) → w.tells_log ≡ tells → WireFlowed alone w t es us c from to [] tried held rows
      → WiresFlowed tells alone (w ∷ others) (t ∷ others) es us c from to tried held rows
  first_flows from to tried held rows same h =
      let passed = all_passed alone es us c w t from to [] tried held rows h in
      record {
        exchanges = h.exchanges;
        gained = λ told. (h.exchanges, [], sym (append-nil h.exchanges), passed.logged (subst IsTrue (sym same) told), gain_laws.nothing others);
        honest = All-from_recursion (IsHonestOver (w ∷ others)) h.exchanges (honest_over w others h.exchanges (recursion_from_All (IsHonestAt w.graph) h.exchanges passed.honest));
        after_all = (record { logged = λ told. (h.exchanges, passed.logged told); same = passed.same; kept = passed.kept }, after_itself others);
        ended = h.ended;
        begun = h.begun;
        parted = subst (IsPermutation (h.ended ++ h.begun)) (sym h.parted) (IsPermutation-refl (h.ended ++ h.begun));
        failed = h.failed;
        few = h.few;
        counted = λ is address. let few : t.faults address ≤ w.faults address + h.failed = passed.counted is address in omega (arith, few, counts w address, counts t address);
        spent = h.spent;
        finished = h.finished;
        of_run = h.of_run;
        even = h.even;
        rows_are = h.rows_are;
        sent = h.sent;
        left = h.left;
        tied = h.tied;
        short = h.short;
        faultless = h.faultless;
        steps = λ graphs told sound. h.steps graphs (first_told graphs told) sound;
      }

  -- a cause at a parcel that was tried is one of the run
  first_cause : (tried : List Parcel) (xs : List Exchange) → All (IsParcelOf c) tried → (why : FlowError) → HasTriedCause w t es us tried xs why
      → HasFlowCause (w ∷ others) (t ∷ others) es us c.block (parcels_sent es us tried) xs why
  first_cause tried xs of_run why k = by why k
    where
      of_these : (l : List unit.Unit) (n : ℕ) (u : unit.Unit) → slice_get l n ≡ Some u → Contains l u
      of_these l n u e = contains_from l u (its_among l n u e)

      its : (o : FlowError) (k : IsTriedCause w t es us tried xs o) → IsMemberCause w t es (record { unit = k.unit; rows = k.parcel.rows }) k.unit.members xs o
          → IsFlowCause (w ∷ others) (t ∷ others) es us c.block (parcels_sent es us tried) xs o
      its o k m = record {
        unit = k.unit;
        of_run = of_these us k.parcel.step k.unit k.found;
        batch = k.parcel.rows;
        sized = (All-contains (IsParcelOf c) tried k.parcel of_run k.among).sized;
        allowed = λ x n.
            contains_from (parcels_sent es us tried) x
            (among_flat_map (parcel_sent es us) k.parcel x tried (among_from tried k.parcel k.among)
            (among_from (parcel_sent es us k.parcel) x (subst (λ (v : List Sent). Contains v x) (sym (ap (λ (o : Option unit.Unit). sent_for es o k.parcel.rows) k.found)) n)));
        at = m.at;
        member = m.member;
        endpoint = m.endpoint;
        found = m.found;
        named = m.named;
        cause = over m.endpoint (record { unit = k.unit; rows = k.parcel.rows }) xs o m.cause;
      }

      by : (o : FlowError) → HasTriedCause w t es us tried xs o → HasFlowCause (w ∷ others) (t ∷ others) es us c.block (parcels_sent es us tried) xs o
      by (flow.Member at) k = its (flow.Member at) k k.cause
      by (flow.BadReply at bad) k = its (flow.BadReply at bad) k k.cause
      by (flow.RequestTooLong at size) k = its (flow.RequestTooLong at size) k k.cause
      by flow.Memory k = tt

  pub wires_flowed : (from to : Hand) (r : Result (Vec Row Global) FlowError) → w.tells_log ≡ tells → HasFlowed alone w t es us c from to r → HaveFlowed tells alone (w ∷ others) (t ∷ others) es us c from to r
  unfolding first_flows
  wires_flowed from to r same h = record {
    tried = h.tried;
    one = (let one : length h.tried ≤ 1 = h.one in omega (arith, one));
    held = h.held;
    rows = h.rows;
    did = first_flows from to h.tried h.held h.rows same h.did;
    ended = h.ended;
    cause = cause r h.cause;
  }
    where
      cause : (o : Result (Vec Row Global) FlowError) → IfErr o (HasTriedCause h.did.between t es us h.tried h.did.begun) → IfErr o (HasFlowCause (w ∷ others) (t ∷ others) es us c.block (parcels_sent es us h.tried) h.did.exchanges)
      cause (Ok found) k = tt
      cause (Err why) k = first_cause h.tried h.did.exchanges h.did.of_run why (subst (λ (xs : List Exchange). HasTriedCause w t es us h.tried xs why) (sym h.did.parted) (cause_in_turn alone w h.did.between t es us h.tried h.did.ended h.did.begun why h.did.unfailed k))

-- the first of the wires was worked with
pub first_flowed : {W : Type 0} (see : W → Seen) (tells alone : Bool) (wires : List W) (x new : W) (es : List EndpointParts) (us : List unit.Unit) (c : RunShape) (from to : Hand) (r : Result (Vec Row Global) FlowError)
    → ((w : W) → (see w).tells_log ≡ tells) → 0 < length wires → HasFlowed alone (see (get_or wires 0 x)) (see new) es us c from to r
    → HaveFlowed tells alone (map see wires) (map see (slice_set wires 0 new)) es us c from to r
first_flowed see tells alone [] x new es us c from to r same some h = absurd (omega (arith, some))
first_flowed see tells alone (w ∷ others) x new es us c from to r same some h = wires_flowed tells alone (see w) (see new) (map see others) es us c from to r (same w) h

-- ---- two halves of the wires

abbrev RowList : Type 0
RowList = Vec Row Global

-- what both ended and what both began
parts_of_both : (one two begun more xs ys : List Exchange) → IsPermutation (one ++ begun) xs → IsPermutation (two ++ more) ys → IsPermutation ((one ++ two) ++ (begun ++ more)) (xs ++ ys)
parts_of_both one two begun more xs ys h k =
    IsPermutation-trans ((one ++ two) ++ (begun ++ more)) ((one ++ begun) ++ (two ++ more)) (xs ++ ys) (middle_changes one two begun more) (IsPermutation-append (one ++ begun) xs (two ++ more) ys h k)

module _ (tells alone : Bool) (es : List EndpointParts) (us : List unit.Unit) (c : RunShape) where
  -- the view of a pass that was split, between its two halves
  beside_even : (v l m r s j : Hand) (x y : List Finished) (tx ty hx hy : List Parcel)
      → ((h : Parcel → ℕ) → sum_by h l.put ≡ sum_by h v.put) → ((h : Parcel → ℕ) → sum_by h l.took ≡ sum_by h v.took)
      → ((h : Parcel → ℕ) → sum_by h r.put ≡ 0) → ((h : Parcel → ℕ) → sum_by h r.took ≡ 0)
      → ((h : Parcel → ℕ) → sum_by h j.put ≡ sum_by h m.put + sum_by h s.put) → ((h : Parcel → ℕ) → sum_by h j.took ≡ sum_by h m.took + sum_by h s.took)
      → IsEven l m [] x tx hx → IsEven r s [] y ty hy → IsEven v j [] (x ++ y) (tx ++ ty) (hx ++ hy)
  beside_even v l m r s j x y tx ty hx hy lp lt rp rt jp jt h k w =
      let one = h w in
      let two = k w in
      let nil : sum_by w [] ≡ 0 = refl in
      omega (arith, one, two, nil, lp w, lt w, rp w, rt w, jp w, jt w, weight_created w x y, weight_finished w x y, sum_by-append w tx ty, sum_by-append w hx hy)

  beside : (s t u v : List Seen) (from to : Hand) (l m r n : Hand) (tx ty hx hy : List Parcel) (rows more : List Row)
      → (h : WiresFlowed tells alone s t es us c l m tx hx rows) → (k : WiresFlowed tells alone u v es us c r n ty hy more)
      → IsEven from to [] (h.spent ++ k.spent) (tx ++ ty) (hx ++ hy)
      → WiresFlowed tells alone (s ++ u) (t ++ v) es us c from to (tx ++ ty) (hx ++ hy) (rows ++ more)
  beside s t u v from to l m r n tx ty hx hy rows more h k even = record {
    exchanges = h.exchanges ++ k.exchanges;
    gained = λ told. gain_laws.beside s t u v h.exchanges k.exchanges (h.gained told) (k.gained told);
    honest =
        All-append (IsHonestOver (s ++ u)) h.exchanges k.exchanges
        (All-weaker (IsHonestOver s) (IsHonestOver (s ++ u)) (λ x honest graph tell. honest graph (front_all (λ (w : Seen). w.graph x.at.iri ≡ Some graph) s u tell)) h.exchanges h.honest)
        (All-weaker (IsHonestOver u) (IsHonestOver (s ++ u)) (λ x honest graph tell. honest graph (back_all (λ (w : Seen). w.graph x.at.iri ≡ Some graph) s u tell)) k.exchanges k.honest);
    after_all = after_beside s t u v h.after_all k.after_all;
    ended = h.ended ++ k.ended;
    begun = h.begun ++ k.begun;
    parted = parts_of_both h.ended k.ended h.begun k.begun h.exchanges k.exchanges h.parted k.parted;
    failed = h.failed + k.failed;
    few = (let one : h.failed ≤ length tx = h.few in let two : k.failed ≤ length ty = k.few in omega (arith, one, two, length-append tx ty));
    counted = λ is address. omega (arith, h.counted is address, k.counted is address, gain_laws.add_up s u address, gain_laws.add_up t v address);
    spent = h.spent ++ k.spent;
    finished = All-append (IsFinished c) h.spent k.spent h.finished k.finished;
    of_run = All-append (IsParcelOf c) tx ty h.of_run k.of_run;
    even = even;
    rows_are = ap (λ (w : List Row). w ++ more) h.rows_are ∙ ap (λ (w : List Row). made c h.spent ++ w) k.rows_are ∙ sym (made_both c h.spent k.spent);
    sent = ended_by_both es us h.spent k.spent h.ended k.ended h.sent k.sent;
    left = h.left ++ k.left;
    tied = begun_by_both es us tx ty h.left k.left h.begun k.begun h.tied k.tied;
    short = All-append IsShort h.exchanges k.exchanges h.short k.short;
    faultless = All-append (IsBatchRead (Contains us)) h.ended k.ended h.faultless k.faultless;
    steps = λ graphs told sound.
        All-append (IsStepOf (union graphs) us) h.spent k.spent (h.steps graphs (told_front s u es graphs (IsMemberIn us) told) sound) (k.steps graphs (told_back s u es graphs (IsMemberIn us) told) sound);
  }

  -- of the result of both there is a cause where there was one of either
  both_cause : (a b o : Result RowList FlowError) (P Q R : FlowError → Type 0) → AreOfBoth a b o → ((why : FlowError) → P why → R why) → ((why : FlowError) → Q why → R why) → R flow.Memory → IfErr a P → IfErr b Q → IfErr o R
  both_cause (Ok x) (Ok y) (Ok all) P Q R h f g m p q = tt
  both_cause (Ok x) (Ok y) (Err why) P Q R h f g m p q = subst R (sym h) m
  both_cause (Ok x) (Err why) o P Q R h f g m p q = subst (λ (v : Result RowList FlowError). IfErr v R) (sym h) (g why q)
  both_cause (Err why) b o P Q R h f g m p q = subst (λ (v : Result RowList FlowError). IfErr v R) (sym h) (f why p)

  both_ended : (a b o : Result RowList FlowError) (tx ty hx hy : List Parcel) (rows more : List Row) → AreOfBoth a b o
      → IfOk a (λ made. (tx ≡ []) × (hx ≡ []) × (made.items ≡ rows)) → IfOk b (λ made. (ty ≡ []) × (hy ≡ []) × (made.items ≡ more))
      → IfOk o (λ made. (tx ++ ty ≡ []) × (hx ++ hy ≡ []) × (made.items ≡ rows ++ more))
  both_ended (Ok x) (Ok y) (Ok all) tx ty hx hy rows more h p q = (
    ap (λ (v : List Parcel). v ++ ty) p.0 ∙ q.0,
    ap (λ (v : List Parcel). v ++ hy) p.1 ∙ q.1,
    h ∙ ap (λ (v : List Row). v ++ y.items) p.2 ∙ ap (λ (v : List Row). rows ++ v) q.2,
  )
  both_ended (Ok x) (Ok y) (Err why) tx ty hx hy rows more h p q = tt
  both_ended (Ok x) (Err why) o tx ty hx hy rows more h p q = subst (λ (v : Result RowList FlowError). IfOk v (λ made. (tx ++ ty ≡ []) × (hx ++ hy ≡ []) × (made.items ≡ rows ++ more))) (sym h) tt
  both_ended (Err why) b o tx ty hx hy rows more h p q = subst (λ (v : Result RowList FlowError). IfOk v (λ made. (tx ++ ty ≡ []) × (hx ++ hy ≡ []) × (made.items ≡ rows ++ more))) (sym h) tt

  module _ (s t u v : List Seen) (tx ty : List Parcel) (xs ys : List Exchange) (h_after : AreAfter s t) (k_after : AreAfter u v) where
    left_rises : (address : List ℕ) → faults_at s address < faults_at t address → faults_at (s ++ u) address < faults_at (t ++ v) address
    left_rises address rose = omega (arith, rose, gain_laws.add_up s u address, gain_laws.add_up t v address, gain_laws.never_fall u v address k_after)

    right_rises : (address : List ℕ) → faults_at u address < faults_at v address → faults_at (s ++ u) address < faults_at (t ++ v) address
    right_rises address rose = omega (arith, rose, gain_laws.add_up s u address, gain_laws.add_up t v address, gain_laws.never_fall s t address h_after)

    left_cause : (why : FlowError) → HasFlowCause s t es us c.block (parcels_sent es us tx) xs why → HasFlowCause (s ++ u) (t ++ v) es us c.block (parcels_sent es us (tx ++ ty)) (xs ++ ys) why
    left_cause why k =
        has_wider s t (s ++ u) (t ++ v) es us c.block (parcels_sent es us tx) (parcels_sent es us (tx ++ ty)) xs (xs ++ ys)
        left_rises
        (λ address g tell. front_all (λ (w : Seen). w.graph address ≡ Some g) s u tell)
        (λ x m. subst (λ (l : List Sent). Contains l x) (sym (flat_map-append (parcel_sent es us) tx ty)) (in_front (parcels_sent es us tx) (parcels_sent es us ty) x m))
        (λ x m. in_front xs ys x m) why k

    right_cause : (why : FlowError) → HasFlowCause u v es us c.block (parcels_sent es us ty) ys why → HasFlowCause (s ++ u) (t ++ v) es us c.block (parcels_sent es us (tx ++ ty)) (xs ++ ys) why
    right_cause why k =
        has_wider u v (s ++ u) (t ++ v) es us c.block (parcels_sent es us ty) (parcels_sent es us (tx ++ ty)) ys (xs ++ ys)
        right_rises
        (λ address g tell. back_all (λ (w : Seen). w.graph address ≡ Some g) s u tell)
        (λ x m. subst (λ (l : List Sent). Contains l x) (sym (flat_map-append (parcel_sent es us) tx ty)) (behind (parcels_sent es us tx) (parcels_sent es us ty) x m))
        (λ x m. behind xs ys x m) why k

pub both_flowed : {W : Type 0} (see : W → Seen) (tells alone : Bool) (es : List EndpointParts) (us : List unit.Unit) (c : RunShape) (v l m r s j : Hand) (whole ws vs xs ys : List W) (a b o : Result RowList FlowError)
    → whole ≡ ws ++ xs
    → l ≡ hand (v.parts - v.parts / 2) v.shape v.put v.took → r ≡ hand (v.parts / 2) v.shape [] []
    → j ≡ hand (m.parts + s.parts) m.shape (m.put ++ s.put) (m.took ++ s.took)
    → HaveFlowed tells alone (map see ws) (map see vs) es us c l m a → HaveFlowed tells alone (map see xs) (map see ys) es us c r s b → AreOfBoth a b o
    → HaveFlowed tells alone (map see whole) (map see (vs ++ ys)) es us c v j o
unfolding beside
both_flowed see tells alone es us c v l m r s j whole ws vs xs ys a b o parts left right both h k ok =
    let before : map see whole ≡ map see ws ++ map see xs = ap (map see) parts ∙ map-append see ws xs in
    let after : map see (vs ++ ys) ≡ map see vs ++ map see ys = map-append see vs ys in
    let even = beside_even tells alone es us c v l m r s j h.did.spent k.did.spent h.tried k.tried h.held k.held
    (λ w. ap (λ (u : Hand). sum_by w u.put) left) (λ w. ap (λ (u : Hand). sum_by w u.took) left)
    (λ w. ap (λ (u : Hand). sum_by w u.put) right) (λ w. ap (λ (u : Hand). sum_by w u.took) right)
    (λ w. ap (λ (u : Hand). sum_by w u.put) both ∙ sum_by-append w m.put s.put) (λ w. ap (λ (u : Hand). sum_by w u.took) both ∙ sum_by-append w m.took s.took)
    h.did.even k.did.even in
    let all : HaveFlowed tells alone (map see ws ++ map see xs) (map see vs ++ map see ys) es us c v j o = record {
      tried = h.tried ++ k.tried;
      one = (let one : length h.tried ≤ length (map see ws) = h.one in let two : length k.tried ≤ length (map see xs) = k.one in omega (arith, one, two, length-append h.tried k.tried, length-append (map see ws) (map see xs)));
      held = h.held ++ k.held;
      rows = h.rows ++ k.rows;
      did = beside tells alone es us c (map see ws) (map see vs) (map see xs) (map see ys) v j l m r s h.tried k.tried h.held k.held h.rows k.rows h.did k.did even;
      ended = both_ended tells alone es us c a b o h.tried k.tried h.held k.held h.rows k.rows ok h.ended k.ended;
      cause = both_cause tells alone es us c a b o _ _ _ ok
          (left_cause tells alone es us c (map see ws) (map see vs) (map see xs) (map see ys) h.tried k.tried h.did.exchanges k.did.exchanges h.did.after_all k.did.after_all)
          (right_cause tells alone es us c (map see ws) (map see vs) (map see xs) (map see ys) h.tried k.tried h.did.exchanges k.did.exchanges h.did.after_all k.did.after_all) tt h.cause k.cause;
    } in
    subst (λ (w : List Seen). HaveFlowed tells alone w (map see (vs ++ ys)) es us c v j o) (sym before)
    (subst (λ (w : List Seen). HaveFlowed tells alone (map see ws ++ map see xs) w es us c v j o) (sym after) all)

-- wires that did nothing
idle_flowed : (tells alone : Bool) (es : List EndpointParts) (us : List unit.Unit) (c : RunShape) (wires : List Seen) (view : Hand) → WiresFlowed tells alone wires wires es us c view view [] [] []
idle_flowed tells alone es us c wires view = record {
  exchanges = [];
  gained = λ told. gain_laws.nothing wires;
  honest = All-nil (IsHonestOver wires);
  after_all = after_itself wires;
  ended = [];
  begun = [];
  parted = IsPermutation-refl [];
  failed = 0;
  few = zero-le;
  counted = λ is address. omega arith;
  spent = [];
  finished = All-nil (IsFinished c);
  of_run = All-nil (IsParcelOf c);
  even = λ w. (let nil : sum_by w [] ≡ 0 = refl in omega (arith, nil));
  rows_are = refl;
  sent = IsPermutation-refl [];
  left = [];
  tied = IsPermutation-refl [];
  short = All-nil IsShort;
  faultless = All-nil (IsBatchRead (Contains us));
  steps = λ graphs told sound. All-nil (IsStepOf (union graphs) us);
}

-- some of the wires were worked with
pub beside_idle : {W : Type 0} (see : W → Seen) (tells alone : Bool) (es : List EndpointParts) (us : List unit.Unit) (c : RunShape) (from to : Hand) (whole used later idle : List W) (r : Result RowList FlowError)
    → whole ≡ used ++ idle → HaveFlowed tells alone (map see used) (map see later) es us c from to r → HaveFlowed tells alone (map see whole) (map see (later ++ idle)) es us c from to r
unfolding beside idle_flowed
beside_idle see tells alone es us c from to whole used later idle r parts h =
    let before : map see whole ≡ map see used ++ map see idle = ap (map see) parts ∙ map-append see used idle in
    let after : map see (later ++ idle) ≡ map see later ++ map see idle = map-append see later idle in
    let rest = idle_flowed tells alone es us c (map see idle) to in
    let even : IsEven from to [] (h.did.spent ++ []) (h.tried ++ []) (h.held ++ []) = λ w.
    (let e = h.did.even w in
    let nil : sum_by w [] ≡ 0 = refl in
    omega (arith, e, nil, weight_created w h.did.spent [], weight_finished w h.did.spent [], sum_by-append w h.tried [], sum_by-append w h.held [])) in
    let all : HaveFlowed tells alone (map see used ++ map see idle) (map see later ++ map see idle) es us c from to r = record {
      tried = h.tried ++ [];
      one = (let one : length h.tried ≤ length (map see used) = h.one in omega (arith, one, length-append h.tried [], length-append (map see used) (map see idle)));
      held = h.held ++ [];
      rows = h.rows ++ [];
      did = beside tells alone es us c (map see used) (map see later) (map see idle) (map see idle) from to from to to to h.tried [] h.held [] h.rows [] h.did rest even;
      ended = ended r h.ended;
      cause = cause r h.cause;
    } in
    subst (λ (w : List Seen). HaveFlowed tells alone w (map see (later ++ idle)) es us c from to r) (sym before)
    (subst (λ (w : List Seen). HaveFlowed tells alone (map see used ++ map see idle) w es us c from to r) (sym after) all)
  where
    ended : (o : Result RowList FlowError) → IfOk o (λ made. (h.tried ≡ []) × (h.held ≡ []) × (made.items ≡ h.rows)) → IfOk o (λ made. (h.tried ++ [] ≡ []) × (h.held ++ [] ≡ []) × (made.items ≡ h.rows ++ []))
    ended (Ok found) k = (append-nil h.tried ∙ k.0, append-nil h.held ∙ k.1, k.2 ∙ sym (append-nil h.rows))
    ended (Err why) k = tt

    cause : (o : Result RowList FlowError) → IfErr o (HasFlowCause (map see used) (map see later) es us c.block (parcels_sent es us h.tried) h.did.exchanges)
        → IfErr o (HasFlowCause (map see used ++ map see idle) (map see later ++ map see idle) es us c.block (parcels_sent es us (h.tried ++ [])) (h.did.exchanges ++ []))
    cause (Ok found) k = tt
    cause (Err why) k = left_cause tells alone es us c (map see used) (map see later) (map see idle) (map see idle) h.tried [] h.did.exchanges [] h.did.after_all (after_itself (map see idle)) why k

-- ---- one call after the other

pub then_flowed : (tells alone : Bool) (es : List EndpointParts) (us : List unit.Unit) (c : RunShape) (from mid to : Hand) (s t v : List Seen) (made : RowList) (b o : Result RowList FlowError)
    → AllTell tells s → AllTell tells t
    → HaveFlowed tells alone s t es us c from mid (Ok made) → HaveFlowed tells alone t v es us c mid to b → AreOfBoth (Ok made) b o
    → HaveFlowed tells alone s v es us c from to o
then_flowed tells alone es us c from mid to s t v made_rows b o s_tells t_tells h k ok =
    let none : h.tried ≡ [] = h.ended.0 in
    let empty : h.held ≡ [] = h.ended.1 in
    let unfailed : h.did.failed ≡ 0 = (let few : h.did.failed ≤ length h.tried = h.did.few in let long : length h.tried ≡ 0 = ap length none in omega (arith, few, long)) in
    let gained = gained_both tells s t v h.did.exchanges k.did.exchanges h.did.gained k.did.gained in
    let did : WiresFlowed tells alone s v es us c from to (h.tried ++ k.tried) (h.held ++ k.held) (h.rows ++ k.rows) = record {
      exchanges = gained.all;
      gained = gained.gained;
      honest =
          All-permutation (IsHonestOver s) (h.did.exchanges ++ k.did.exchanges) gained.all gained.same
          (All-append (IsHonestOver s) h.did.exchanges k.did.exchanges h.did.honest
          (All-weaker (IsHonestOver t) (IsHonestOver s) (λ x honest graph tell. honest graph (still_tell s t x.at.iri graph h.did.after_all tell)) k.did.exchanges k.did.honest));
      after_all = all_after tells s t v s_tells t_tells h.did.after_all k.did.after_all;
      ended = h.did.ended ++ k.did.ended;
      begun = h.did.begun ++ k.did.begun;
      parted =
          IsPermutation-trans ((h.did.ended ++ k.did.ended) ++ (h.did.begun ++ k.did.begun)) (h.did.exchanges ++ k.did.exchanges) gained.all
          (parts_of_both h.did.ended k.did.ended h.did.begun k.did.begun h.did.exchanges k.did.exchanges h.did.parted k.did.parted) gained.same;
      failed = k.did.failed;
      few = (let few : k.did.failed ≤ length k.tried = k.did.few in omega (arith, few, length-append h.tried k.tried));
      counted = λ is address.
          let low : faults_at t address ≤ faults_at s address + h.did.failed = h.did.counted is address in
          let high : faults_at v address ≤ faults_at t address + k.did.failed = k.did.counted is address in
          omega (arith, low, high, unfailed);
      spent = h.did.spent ++ k.did.spent;
      finished = All-append (IsFinished c) h.did.spent k.did.spent h.did.finished k.did.finished;
      of_run = All-append (IsParcelOf c) h.tried k.tried h.did.of_run k.did.of_run;
      even = λ w.
          let one = h.did.even w in
          let two = k.did.even w in
          let nil : sum_by w [] ≡ 0 = refl in
          let held : sum_by w h.held ≡ 0 = ap (sum_by w) empty in
          omega (arith, one, two, nil, held, weight_created w h.did.spent k.did.spent, weight_finished w h.did.spent k.did.spent, sum_by-append w h.tried k.tried, sum_by-append w h.held k.held);
      rows_are = ap (λ (l : List Row). l ++ k.rows) h.did.rows_are ∙ ap (λ (l : List Row). made c h.did.spent ++ l) k.did.rows_are ∙ sym (made_both c h.did.spent k.did.spent);
      sent = ended_by_both es us h.did.spent k.did.spent h.did.ended k.did.ended h.did.sent k.did.sent;
      left = h.did.left ++ k.did.left;
      tied = begun_by_both es us h.tried k.tried h.did.left k.did.left h.did.begun k.did.begun h.did.tied k.did.tied;
      short = All-permutation IsShort (h.did.exchanges ++ k.did.exchanges) gained.all gained.same (All-append IsShort h.did.exchanges k.did.exchanges h.did.short k.did.short);
      faultless = All-append (IsBatchRead (Contains us)) h.did.ended k.did.ended h.did.faultless k.did.faultless;
      steps = λ graphs told sound.
          All-append (IsStepOf (union graphs) us) h.did.spent k.did.spent (h.did.steps graphs told sound) (k.did.steps graphs (still_tell_of s t h.did.after_all es graphs (IsMemberIn us) told) sound);
    } in
    record {
      tried = h.tried ++ k.tried;
      one = (
          let long : length h.tried ≡ 0 = ap length none in
          let few : length k.tried ≤ length t = k.one in
          omega (arith, long, few, length-append h.tried k.tried, as_many s t h.did.after_all)
          );
      held = h.held ++ k.held;
      rows = h.rows ++ k.rows;
      did = did;
      ended = both_ended tells alone es us c (Ok made_rows) b o h.tried k.tried h.held k.held h.rows k.rows ok h.ended k.ended;
      cause = both_cause tells alone es us c (Ok made_rows) b o (HasFlowCause s v es us c.block (parcels_sent es us (h.tried ++ k.tried)) gained.all) _ _ ok (λ why cause. cause)
          (has_wider t v s v es us c.block (parcels_sent es us k.tried) (parcels_sent es us (h.tried ++ k.tried)) k.did.exchanges gained.all
          (λ address rose. omega (arith, rose, gain_laws.never_fall s t address h.did.after_all))
          (λ address g tell. still_tell s t address g h.did.after_all tell)
          (λ x m. subst (λ (l : List Sent). Contains l x) (sym (flat_map-append (parcel_sent es us) h.tried k.tried)) (behind (parcels_sent es us h.tried) (parcels_sent es us k.tried) x m))
          (λ x m. Contains-permutation _ _ x gained.same (behind h.did.exchanges k.did.exchanges x m))) tt tt k.cause;
    }

-- ---- the whole run

module _ (tells alone : Bool) (es : List EndpointParts) (us : List unit.Unit) (c : RunShape) (positive : 0 < c.block) (units : c.units ≡ length us) (some : 0 < length us) (rows : List Row) (first : List (List Row)) (cut : AreCut rows c.block first)
    (s t : List Seen) (from to : Hand)
    (put : (h : Parcel → ℕ) → sum_by h from.put ≡ sum_by h (parcels c 0 first)) (took : (h : Parcel → ℕ) → sum_by h from.took ≡ 0)
    (rest : List Parcel) (waits : SameParcels to.put (to.took ++ rest)) where
  pub run_flowed : (r : Result RowList FlowError) → HaveFlowed tells alone s t es us c from to r → IfOk r (λ made. SameParcels to.put to.took) → RunFlowed tells alone s t es us c.block rows (rows_in r)
  run_flowed r h empty = record {
    exchanges = h.did.exchanges;
    gained = h.did.gained;
    honest = h.did.honest;
    after_all = h.did.after_all;
    failed = h.did.failed;
    few = (let one : length h.tried ≤ length s = h.one in let few : h.did.failed ≤ length h.tried = h.did.few in omega (arith, one, few));
    unfailed = by_ok r (λ tried. (let few : h.did.failed ≤ length h.tried = h.did.few in let long : length h.tried ≡ 0 = ap length tried in omega (arith, few, long))) h.ended;
    counted = h.did.counted;
    wanted = wanted;
    left = h.did.left;
    sent = IsPermutation-trans _ all_sent wanted (sent_laws.any_order all_sent h.did.left (h.did.ended ++ h.did.begun) h.did.exchanges h.did.parted all_tied) turned_sent;
    in_part =
        in_part_wider es (length s) (length s) all_sent wanted h.did.exchanges h.did.exchanges (omega arith) turned_sent (IsPermutation-refl h.did.exchanges)
        (parcels_in_part es us (of_finished h.did.spent) h.tried (length s) h.did.left h.did.ended h.did.begun h.did.exchanges h.one h.did.sent h.did.tied h.did.parted);
    of_batches = texts_in_turn es c (Contains us) asked of_run 0 us (recursion_from_All (Contains us) us (All-contains_itself us));
    whole = by_ok r (λ tried. (none_tried es us h.tried h.did.left h.did.begun h.did.tied tried).1) h.ended;
    short = h.did.short;
    faultless = by_ok r all_read h.ended;
    of_run = λ graphs told sound. may_be_sent es (union graphs) us c positive units first h.did.spent h.tried (h.held ++ rest) h.did.finished (h.did.steps graphs told sound) balance h.did.of_run rows cut;
    done = done r h.ended empty;
    cause = cause r h.cause;
  }
    where
      asked : List Parcel
      asked = of_finished h.did.spent ++ h.tried

      wanted : List Sent
      wanted = sent_in_turn es 0 us asked

      all_sent : List Sent
      all_sent = parcels_sent es us (of_finished h.did.spent) ++ parcels_sent es us h.tried

      all_tied : Sends all_sent h.did.left (h.did.ended ++ h.did.begun)
      all_tied = sent_laws.together (parcels_sent es us (of_finished h.did.spent)) [] (parcels_sent es us h.tried) h.did.left h.did.ended h.did.begun h.did.sent h.did.tied

      all_read : h.tried ≡ [] → All (IsBatchRead (Contains us)) h.did.exchanges
      all_read tried =
          All-permutation (IsBatchRead (Contains us)) (h.did.ended ++ h.did.begun) h.did.exchanges h.did.parted
          (subst (λ (xs : List Exchange). All (IsBatchRead (Contains us)) (h.did.ended ++ xs)) (sym (none_tried es us h.tried h.did.left h.did.begun h.did.tied tried).0)
          (All-append (IsBatchRead (Contains us)) h.did.ended [] h.did.faultless (All-nil (IsBatchRead (Contains us)))))

      turned_sent : IsPermutation all_sent wanted
      turned_sent = subst (λ (l : List Sent). IsPermutation l wanted) (flat_map-append (parcel_sent es us) (of_finished h.did.spent) h.tried) (turned es us asked)

      balance : (w : Parcel → ℕ) → sum_by w (parcels c 0 first) + sum_by w (created h.did.spent) ≡ (sum_by w (of_finished h.did.spent) + sum_by w h.tried) + sum_by w (h.held ++ rest)
      balance w =
          let even = h.did.even w in
          let nil : sum_by w [] ≡ 0 = refl in
          let left = waits w in
          omega (arith, even, nil, left, put w, took w, sum_by-append w to.took rest, sum_by-append w h.held rest)

      of_run : All (IsParcelOf c) asked
      of_run = All-append (IsParcelOf c) (of_finished h.did.spent) h.tried (finished_of_run c h.did.spent h.did.finished) h.did.of_run

      by_ok : {X : Type 0} (o : Result RowList FlowError) → (h.tried ≡ [] → X) → IfOk o (λ made. (h.tried ≡ []) × (h.held ≡ []) × (made.items ≡ h.rows)) → IfOk (rows_in o) (λ _. X)
      by_ok (Ok found) f k = f k.0
      by_ok (Err why) f k = tt

      done : (o : Result RowList FlowError) → IfOk o (λ made. (h.tried ≡ []) × (h.held ≡ []) × (made.items ≡ h.rows)) → IfOk o (λ made. SameParcels to.put to.took)
          → IfOk (rows_in o) (λ next. (graphs : List (List Triple)) → TellOf s es graphs (IsMemberIn us) → All (IsSound graphs) us → IsPermutation next (stepped (union graphs) us rows))
      done (Err why) k e = tt
      done (Ok made_rows) k e = λ graphs told sound.
          subst (λ (l : List Row). IsPermutation l (stepped (union graphs) us rows)) (append-nil (made c h.did.spent) ∙ sym h.did.rows_are ∙ sym k.2)
          (all_rows (union graphs) us c units rows first h.did.spent [] cut.of_rows h.did.finished (h.did.steps graphs told sound) (λ w.
          let even = h.did.even w in
          let nil : sum_by w [] ≡ 0 = refl in
          let same = e w in
          let tried : sum_by w h.tried ≡ 0 = ap (sum_by w) k.0 in
          let held : sum_by w h.held ≡ 0 = ap (sum_by w) k.1 in
          omega (arith, even, nil, same, tried, held, put w, took w)))

      cause : (o : Result RowList FlowError) → IfErr o (HasFlowCause s t es us c.block (parcels_sent es us h.tried) h.did.exchanges) → IfErr (rows_in o) (HasFlowCause s t es us c.block wanted h.did.exchanges)
      cause (Ok found) k = tt
      cause (Err why) k =
          has_wider s t s t es us c.block (parcels_sent es us h.tried) wanted h.did.exchanges h.did.exchanges (λ address rose. rose) (λ address g tell. tell)
          (λ x m. Contains-permutation all_sent wanted x turned_sent (behind (parcels_sent es us (of_finished h.did.spent)) (parcels_sent es us h.tried) x m))
          (λ x m. m) why k

-- nothing was asked for: there are no rows, or memory ran out
pub not_flowed : (tells alone : Bool) (wires : List Seen) (es : List EndpointParts) (us : List unit.Unit) (block : ℕ) (rows : List Row) → RunFlowed tells alone wires wires es us block rows (Err flow.Memory)
not_flowed tells alone wires es us block rows = record {
  exchanges = [];
  gained = λ told. gain_laws.nothing wires;
  honest = All-nil (IsHonestOver wires);
  after_all = after_itself wires;
  failed = 0;
  few = zero-le;
  unfailed = tt;
  counted = λ is address. omega arith;
  wanted = [];
  left = [];
  sent = IsPermutation-refl [];
  in_part = in_part_wider es 0 (length wires) [] [] [] [] zero-le (IsPermutation-refl []) (IsPermutation-refl []) (none_in_part es []);
  of_batches = All-nil (IsBatchText es block (Contains us));
  whole = tt;
  short = All-nil IsShort;
  faultless = tt;
  of_run = λ graphs told sound. batch_laws.nothing es (union graphs) block 1 us rows;
  done = tt;
  cause = tt;
}

pub no_rows : (tells alone : Bool) (wires : List Seen) (es : List EndpointParts) (us : List unit.Unit) (block : ℕ) (rows : List Row) → rows ≡ [] → RunFlowed tells alone wires wires es us block rows (Ok [])
no_rows tells alone wires es us block rows none = record {
  exchanges = [];
  gained = λ told. gain_laws.nothing wires;
  honest = All-nil (IsHonestOver wires);
  after_all = after_itself wires;
  failed = 0;
  few = zero-le;
  unfailed = refl;
  counted = λ is address. omega arith;
  wanted = [];
  left = [];
  sent = IsPermutation-refl [];
  in_part = in_part_wider es 0 (length wires) [] [] [] [] zero-le (IsPermutation-refl []) (IsPermutation-refl []) (none_in_part es []);
  of_batches = All-nil (IsBatchText es block (Contains us));
  whole = refl;
  short = All-nil IsShort;
  faultless = All-nil (IsBatchRead (Contains us));
  of_run = λ graphs told sound. batch_laws.nothing es (union graphs) block 1 us rows;
  done = λ graphs told sound. subst (λ (l : List Row). IsPermutation [] (stepped (union graphs) us l)) (sym none) (subst (IsPermutation []) (sym (stepped_none (union graphs) us)) (IsPermutation-refl []));
  cause = tt;
}

-- ---- the begin and the end

pub on_ok : (from to : Hand) (r : Result RowList FlowError) → OnOk r (from.parts ≡ 16 → SameParcels to.put to.took) → from.parts ≡ 16 → IfOk r (λ _. SameParcels to.put to.took)
on_ok from to (Ok found) h whole = h whole
on_ok from to (Err e) h whole = tt

-- the second of two calls found the queue empty
pub emptied_by_both : (made : RowList) (b o : Result RowList FlowError) (from mid to : Hand) → AreOfBoth (Ok made) b o → OnOk b (false ≡ false → mid.parts ≡ 16 → SameParcels to.put to.took) → mid.parts ≡ from.parts
    → OnOk o (from.parts ≡ 16 → SameParcels to.put to.took)
emptied_by_both made (Ok x) (Ok all) from mid to both h same = λ whole. h refl (same ∙ whole)
emptied_by_both made (Ok x) (Err why) from mid to both h same = tt
emptied_by_both made (Err why) o from mid to both h same = subst (λ (v : Result RowList FlowError). OnOk v (from.parts ≡ 16 → SameParcels to.put to.took)) (sym both) tt

-- the first parcels were put by the one pass that there is
pub at_the_begin : (from to : Hand) (c : RunShape) (first : List (List Row)) (r : Result (Unit {0}) Memory) → from ≡ hand 16 None [] [] → r ≡ Ok tt → ArePut from to (parcels c 0 first) r
    → ((h : Parcel → ℕ) → sum_by h to.put ≡ sum_by h (parcels c 0 first)) × ((h : Parcel → ℕ) → sum_by h to.took ≡ 0) × (to.parts ≡ 16)
at_the_begin from to c first r new ok h = (
  (λ w.
      let put = h.put w in
      let none : sum_by w from.put ≡ 0 = ap (λ (v : Hand). sum_by w v.put) new in
      let nothing_lost : h.lost ≡ [] = all_put r ok h.all in
      let lost : sum_by w h.lost ≡ 0 = ap (sum_by w) nothing_lost in
      omega (arith, put, none, lost)),
  (λ w. ap (sum_by w) h.took ∙ ap (λ (v : Hand). sum_by w v.took) new),
  h.parts ∙ ap (λ (v : Hand). v.parts) new,
)
  where
    all_put : (o : Result (Unit {0}) Memory) → o ≡ Ok tt → IfOk o (λ _. h.lost ≡ []) → h.lost ≡ []
    all_put (Ok x) e k = k
    all_put (Err x) e k = cc
