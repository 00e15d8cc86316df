-- What asking over several wires leaves of them: nothing asked for, one call after the other, and what is given or lost in the end.
use Rattle.std.proofs.Common.{ap, ◌∙◌, ◌≡◌, sym, subst, refl, ℕ, ◌+◌, ◌<◌, ◌≤◌, Bool, List, [], ◌++◌, All, IfErr, IfOk, Result, Ok, Err, Contains, IsPermutation, arith}
use Rattle.std.proofs.lemmas.List.Elements.{All-append, All-nil, All-weaker}
use Rattle.std.proofs.lemmas.List.Sorted.{All-permutation, Contains-permutation, IsPermutation-refl}
use Rattle.std.specs.declared.alloc.Global.{Global}
use Rattle.std.specs.declared.vec.Vec.{Vec}
use Rattle.fx_terms.proofs.SetLemmas.{among_from, contains_from}
use Rattle.fx_terms.specs.declared.triples.Triple.{Triple}
use Rattle.fx_outside.specs.Endpoints.{EndpointParts}
use Rattle.fx_algebra.specs.Solutions.{Bindings}
use Rattle.fx_algebra.specs.declared.units.Unit as unit
use Rattle.fx_algebra.proofs.MemberLemmas.{among_right}
use Rattle.fx_bound.specs.Parts.{Parts}
use Rattle.fx_traffic.specs.Batches.{IsBatchText}
use Rattle.fx_traffic.specs.Gains.{AreAfter, IsMemberIn, Tell, faults_at}
use Rattle.fx_traffic.specs.Sent.{Sent}
use Rattle.fx_traffic.proofs.GainLemmas.{gain_laws}
use Rattle.fx_traffic.proofs.SentLemmas.{sent_laws}
use Rattle.fx_wire.specs.Exchanges.{Exchange, Seen}
use Rattle.fx_flows.specs.Flows.{IsBatchRead, IsCause}
use Rattle.fx_flows.specs.RunFlows.{HasFlowCause, IsFlowCause}
use Rattle.fx_flows.specs.declared.flows.FlowError.{FlowError}
use Rattle.fx_flows.specs.declared.flows.FlowError.TheVariants as flow
use Rattle.fx_services.proofs.WentLemmas.{went_nowhere}
use Rattle.fx_engine.specs.Asked.{Asked, HasRowsCause, IfGiven, IfRefused, Knows}
use Rattle.fx_services.specs.Went.{Went}
use Rattle.fx_walks.specs.GroupsAsked.{units_in}
use Rattle.fx_engine.specs.RowsAsked.{solutions_in}
use Rattle.fx_engine.specs.declared.rows.RowsError.{RowsError}
use Rattle.fx_engine.specs.declared.rows.RowsError.TheVariants as rows_error
use Rattle.fx_walks.specs.declared.tasks.Task.{Task}
use Rattle.fx_pool.proofs.WiresLemmas.{all_after, gained_both, still_tell}
pub use Rattle.fx_pool.proofs.WiresLemmas.{AllTell, all_tell, still_tell_of}

-- ---- what was exchanged

-- what both of two calls exchanged, in the order of the wires
pub record WentBoth (tells alone : Bool) (failed : ℕ) (before after : List Seen) (xs ys : List Exchange) : Type 0 where
  pub all : List Exchange
  pub same : IsPermutation (xs ++ ys) all
  pub went : Went tells alone failed before after all

pub went_both : (tells alone : Bool) (failed : ℕ) (before between after : List Seen) (xs ys : List Exchange) → AllTell tells before → AllTell tells between → Went tells alone 0 before between xs → Went tells alone failed between after ys
    → WentBoth tells alone failed before after xs ys
went_both tells alone failed before between after xs ys a b h k =
    let both = gained_both tells before between after xs ys h.gained k.gained in
    record {
      all = both.all;
      same = both.same;
      went = record {
        gained = both.gained;
        after_all = all_after tells before between after a b h.after_all k.after_all;
        counted = λ is address.
            let low : faults_at between address ≤ faults_at before address + 0 = h.counted is address in
            let high : faults_at after address ≤ faults_at between address + failed = k.counted is address in
            omega arith;
      };
    }

-- replies that are read of batches of some units are so of batches of more
pub read_of_more : (Of Of_also : unit.Unit → Type 0) → ((u : unit.Unit) → Of u → Of_also u) → (xs : List Exchange) → All (IsBatchRead Of) xs → All (IsBatchRead Of_also) xs
read_of_more Of Of_also more xs h = All-weaker (IsBatchRead Of) (IsBatchRead Of_also) (λ x r. record { unit = r.unit; of_these = more r.unit r.of_these; batch = r.batch; read = r.read }) xs h

-- what is so anyway is so where no batch was refused
so_if_refused : (P : Type 0) (e : RowsError) → P → IfRefused e P
so_if_refused P (rows_error.Flow e) p = tt
so_if_refused P rows_error.Refused p = p

-- no text
abbrev no_texts : List Sent
no_texts = []

-- ---- the cause of a refusal is one of all that was done before it, too

module _ (before between after : List Seen) (h : AreAfter before between) (xs all : List Exchange) (more : (x : Exchange) → Contains xs x → Contains all x) where
  cause_behind : (e : EndpointParts) (p : Parts) (why : FlowError) → IsCause (faults_at between e.iri < faults_at after e.iri) (Tell between e.iri) e p xs why → IsCause (faults_at before e.iri < faults_at after e.iri) (Tell before e.iri) e p all why
  cause_behind e p (flow.Member at) k =
      let low : faults_at before e.iri ≤ faults_at between e.iri = gain_laws.never_fall before between e.iri h in
      let rose : faults_at between e.iri < faults_at after e.iri = k in
      omega arith
  cause_behind e p (flow.BadReply at bad) k = record {
    of_kind = k.of_kind;
    text = k.text;
    of_batch = k.of_batch;
    posts = k.posts;
    exchanged_so = more _ k.exchanged_so;
    fault = k.fault;
    long = λ g told. k.long g (still_tell before between e.iri g h told);
  }
  cause_behind e p (flow.RequestTooLong at size) k = k
  cause_behind e p flow.Memory k = tt

  module _ (endpoints : List EndpointParts) (us : List unit.Unit) (block : ℕ) (own wanted : List Sent) where
    its_cause : (why : FlowError) → IsFlowCause between after endpoints us block wanted xs why → IsFlowCause before after endpoints us block (own ++ wanted) all why
    its_cause why k = record {
      unit = k.unit;
      of_run = k.of_run;
      batch = k.batch;
      sized = k.sized;
      allowed = λ x m. contains_from (own ++ wanted) x (among_right x own wanted (among_from wanted x (k.allowed x m)));
      at = k.at;
      member = k.member;
      endpoint = k.endpoint;
      found = k.found;
      named = k.named;
      cause = cause_behind k.endpoint (record { unit = k.unit; rows = k.batch }) why k.cause;
    }

    pub flow_cause_behind : (why : FlowError) → HasFlowCause between after endpoints us block wanted xs why → HasFlowCause before after endpoints us block (own ++ wanted) all why
    flow_cause_behind (flow.Member at) k = its_cause (flow.Member at) k
    flow_cause_behind (flow.BadReply at bad) k = its_cause (flow.BadReply at bad) k
    flow_cause_behind (flow.RequestTooLong at size) k = its_cause (flow.RequestTooLong at size) k
    flow_cause_behind flow.Memory k = tt

module _ (before between after : List Seen) (h : AreAfter before between) (xs all : List Exchange) (more : (x : Exchange) → Contains xs x → Contains all x) (endpoints : List EndpointParts) (tasks : List Task) (block : ℕ) (own wanted : List Sent) where
  rows_cause_behind : (e : RowsError) → HasRowsCause between after endpoints tasks block wanted xs e → HasRowsCause before after endpoints tasks block (own ++ wanted) all e
  rows_cause_behind (rows_error.Flow e) k = flow_cause_behind before between after h xs all more endpoints (units_in tasks) block own wanted e k
  rows_cause_behind rows_error.Refused k = k

-- ---- what was asked for

abbrev Of : Type 0 → Type 1
Of X = List (List Triple) → List Sent → X → Type 0

abbrev Alone : Type 1
Alone = List (List Triple) → List Sent → Type 0

module _ (tells alone : Bool) (endpoints : List EndpointParts) (tasks : List Task) (block : ℕ) where
  -- nothing was, and something is given
  pub given_unasked : {X : Type 0} (Given : Of X) (Due : Alone) (wires : List Seen) (x : X) → ((graphs : List (List Triple)) → Given graphs [] x) → Asked tells alone wires wires endpoints tasks block Given Due (Ok x)
  given_unasked Given Due wires x f = record {
    exchanges = [];
    failed = 0;
    unfailed = refl;
    went = went_nowhere tells alone wires;
    wanted = [];
    left = [];
    sent = IsPermutation-refl [];
    whole = refl;
    of_batches = All-nil (IsBatchText endpoints block (Contains (units_in tasks)));
    faultless = All-nil (IsBatchRead (Contains (units_in tasks)));
    known = λ graphs told. f graphs;
    cause = tt;
  }

  -- nothing was, for a cause that needs nothing
  pub refused_unasked : {X : Type 0} (Given : Of X) (Due : Alone) (wires : List Seen) (e : RowsError) → HasRowsCause wires wires endpoints tasks block [] [] e → ((graphs : List (List Triple)) → Due graphs [])
      → Asked {X = X} tells alone wires wires endpoints tasks block Given Due (Err e)
  refused_unasked Given Due wires e cause f = record {
    exchanges = [];
    failed = 0;
    unfailed = so_if_refused (0 ≡ 0) e refl;
    went = went_nowhere tells alone wires;
    wanted = [];
    left = [];
    sent = IsPermutation-refl [];
    whole = so_if_refused (no_texts ≡ []) e refl;
    of_batches = All-nil (IsBatchText endpoints block (Contains (units_in tasks)));
    faultless = so_if_refused (All (IsBatchRead (Contains (units_in tasks))) []) e (All-nil (IsBatchRead (Contains (units_in tasks))));
    known = λ graphs told. f graphs;
    cause = cause;
  }

  -- nothing was, for want of memory
  pub unasked : {X : Type 0} (Given : Of X) (Due : Alone) (wires : List Seen) → ((graphs : List (List Triple)) → Due graphs []) → Asked {X = X} tells alone wires wires endpoints tasks block Given Due (Err (rows_error.Flow flow.Memory))
  unasked Given Due wires f = refused_unasked Given Due wires (rows_error.Flow flow.Memory) tt f

  module _ (before after : List Seen) where
    -- what is given is made into something else
    pub given_as : {X Y : Type 0} (Given : Of X) (Due : Alone) (Given_also : Of Y) (Due_also : Alone) (x : X) (y : Y) → ((graphs : List (List Triple)) (wanted : List Sent) → Given graphs wanted x → Given_also graphs wanted y)
        → Asked tells alone before after endpoints tasks block Given Due (Ok x) → Asked tells alone before after endpoints tasks block Given_also Due_also (Ok y)
    given_as Given Due Given_also Due_also x y f h = record {
      exchanges = h.exchanges;
      failed = h.failed;
      unfailed = h.unfailed;
      went = h.went;
      wanted = h.wanted;
      left = h.left;
      sent = h.sent;
      whole = h.whole;
      of_batches = h.of_batches;
      faultless = h.faultless;
      known = λ graphs told. f graphs h.wanted (h.known graphs told);
      cause = tt;
    }

    -- it is lost for want of memory
    pub lost_behind : {X Y : Type 0} (Given : Of X) (Due : Alone) (Given_also : Of Y) (Due_also : Alone) (x : X) → ((graphs : List (List Triple)) (wanted : List Sent) → Given graphs wanted x → Due_also graphs wanted)
        → Asked tells alone before after endpoints tasks block Given Due (Ok x) → Asked {X = Y} tells alone before after endpoints tasks block Given_also Due_also (Err (rows_error.Flow flow.Memory))
    lost_behind Given Due Given_also Due_also x f h = record {
      exchanges = h.exchanges;
      failed = h.failed;
      unfailed = tt;
      went = h.went;
      wanted = h.wanted;
      left = h.left;
      sent = h.sent;
      whole = tt;
      of_batches = h.of_batches;
      faultless = tt;
      known = λ graphs told. f graphs h.wanted (h.known graphs told);
      cause = tt;
    }

    -- a refusal is handed on
    pub refused_as : {X Y : Type 0} (Given : Of X) (Due : Alone) (Given_also : Of Y) (Due_also : Alone) (e : RowsError) → ((graphs : List (List Triple)) (wanted : List Sent) → Due graphs wanted → Due_also graphs wanted)
        → Asked {X = X} tells alone before after endpoints tasks block Given Due (Err e) → Asked {X = Y} tells alone before after endpoints tasks block Given_also Due_also (Err e)
    refused_as Given Due Given_also Due_also why f h = record {
      exchanges = h.exchanges;
      failed = h.failed;
      unfailed = h.unfailed;
      went = h.went;
      wanted = h.wanted;
      left = h.left;
      sent = h.sent;
      whole = h.whole;
      of_batches = h.of_batches;
      faultless = h.faultless;
      known = λ graphs told. f graphs h.wanted (h.known graphs told);
      cause = h.cause;
    }

  -- more was asked for behind what is given
  module _ (before between after : List Seen) (a : AllTell tells before) (b : AllTell tells between) where
    pub asked_behind : {X Y : Type 0} (Given : Of X) (Due : Alone) (Given_next : Of Y) (Due_next : Alone) (Given_both : Of Y) (Due_both : Alone) (x : X) (r : Result Y RowsError)
        → ((graphs : List (List Triple)) (own more : List Sent) (y : Y) → Given graphs own x → Given_next graphs more y → Given_both graphs (own ++ more) y)
        → ((graphs : List (List Triple)) (own more : List Sent) → Given graphs own x → Due_next graphs more → Due_both graphs (own ++ more))
        → Asked tells alone before between endpoints tasks block Given Due (Ok x)
        → Asked tells alone between after endpoints tasks block Given_next Due_next r
        → Asked tells alone before after endpoints tasks block Given_both Due_both r
    asked_behind {X} {Y} Given Due Given_next Due_next Given_both Due_both x r f d h k =
        let none : Went tells alone 0 before between h.exchanges = subst (λ (n : ℕ). Went tells alone n before between h.exchanges) h.unfailed h.went in
        let both = went_both tells alone k.failed before between after h.exchanges k.exchanges a b none k.went in
        record {
          exchanges = both.all;
          failed = k.failed;
          unfailed = k.unfailed;
          went = both.went;
          wanted = h.wanted ++ k.wanted;
          left = h.left ++ k.left;
          sent = sent_laws.any_order (h.wanted ++ k.wanted) (h.left ++ k.left) (h.exchanges ++ k.exchanges) both.all both.same (sent_laws.together h.wanted h.left k.wanted k.left h.exchanges k.exchanges h.sent k.sent);
          whole = whole r k.whole;
          of_batches = All-append (IsBatchText endpoints block (Contains (units_in tasks))) h.wanted k.wanted h.of_batches k.of_batches;
          faultless = faultless both.all both.same r k.faultless;
          known = λ graphs told. known r graphs (h.known graphs told) (k.known graphs (still_tell_of before between none.after_all endpoints graphs (IsMemberIn (units_in tasks)) told));
          cause = cause both.all both.same r k.cause;
        }
      where
        none_left : k.left ≡ [] → h.left ++ k.left ≡ []
        none_left none = ap (λ (v : List Sent). v ++ k.left) h.whole ∙ none

        whole : (o : Result Y RowsError) → IfGiven o (k.left ≡ []) → IfGiven o (h.left ++ k.left ≡ [])
        whole (Ok y) none = none_left none
        whole (Err (rows_error.Flow e)) none = tt
        whole (Err rows_error.Refused) none = none_left none

        both_read : (all : List Exchange) → IsPermutation (h.exchanges ++ k.exchanges) all → All (IsBatchRead (Contains (units_in tasks))) k.exchanges → All (IsBatchRead (Contains (units_in tasks))) all
        both_read all same g = All-permutation (IsBatchRead (Contains (units_in tasks))) (h.exchanges ++ k.exchanges) all same (All-append (IsBatchRead (Contains (units_in tasks))) h.exchanges k.exchanges h.faultless g)

        faultless : (all : List Exchange) → IsPermutation (h.exchanges ++ k.exchanges) all → (o : Result Y RowsError) → IfGiven o (All (IsBatchRead (Contains (units_in tasks))) k.exchanges) → IfGiven o (All (IsBatchRead (Contains (units_in tasks))) all)
        faultless all same (Ok y) g = both_read all same g
        faultless all same (Err (rows_error.Flow e)) g = tt
        faultless all same (Err rows_error.Refused) g = both_read all same g

        known : (o : Result Y RowsError) (graphs : List (List Triple)) → Given graphs h.wanted x → Knows Given_next Due_next graphs k.wanted o → Knows Given_both Due_both graphs (h.wanted ++ k.wanted) o
        known (Ok y) graphs g n = f graphs h.wanted k.wanted y g n
        known (Err e) graphs g n = d graphs h.wanted k.wanted g n

        cause : (all : List Exchange) → IsPermutation (h.exchanges ++ k.exchanges) all → (o : Result Y RowsError) → IfErr o (HasRowsCause between after endpoints tasks block k.wanted k.exchanges) → IfErr o (HasRowsCause before after endpoints tasks block (h.wanted ++ k.wanted) all)
        cause all same (Ok y) c = tt
        cause all same (Err e) c =
            rows_cause_behind before between after h.went.after_all k.exchanges all
            (λ x m. Contains-permutation (h.exchanges ++ k.exchanges) all x same (contains_from (h.exchanges ++ k.exchanges) x (among_right x h.exchanges k.exchanges (among_from k.exchanges x m))))
            endpoints tasks block h.wanted k.wanted e c

  -- something is made of what is given, unless memory lacks
  pub made_of : {X : Type 0} (Given : Of X) (Due : Alone) (Given_also : Of (List Bindings)) (Due_also : Alone) (P : List Bindings → Type 0) (before after : List Seen) (x : X) (r : Result (Vec Bindings Global) RowsError)
      → IfOk r (λ rows. P rows.items)
      → IfErr r (λ e. e ≡ rows_error.Flow flow.Memory)
      → ((graphs : List (List Triple)) (wanted : List Sent) (rows : List Bindings) → Given graphs wanted x → P rows → Given_also graphs wanted rows)
      → ((graphs : List (List Triple)) (wanted : List Sent) → Given graphs wanted x → Due_also graphs wanted)
      → Asked tells alone before after endpoints tasks block Given Due (Ok x)
      → Asked tells alone before after endpoints tasks block Given_also Due_also (solutions_in r)
  made_of Given Due Given_also Due_also P before after x (Ok rows) given memory f d h = given_as before after Given Due Given_also Due_also x rows.items (λ graphs wanted g. f graphs wanted rows.items g given) h
  made_of {X} Given Due Given_also Due_also P before after x (Err e) given memory f d h =
      subst (λ (e : RowsError). Asked {X = List Bindings} tells alone before after endpoints tasks block Given_also Due_also (Err e)) (sym memory) (lost_behind before after Given Due Given_also Due_also x d h)

  -- so it is where nothing was asked for
  pub made_unasked : (Given : Of (List Bindings)) (Due : Alone) (P : List Bindings → Type 0) (wires : List Seen) (r : Result (Vec Bindings Global) RowsError)
      → IfOk r (λ rows. P rows.items)
      → IfErr r (λ e. e ≡ rows_error.Flow flow.Memory)
      → ((graphs : List (List Triple)) (rows : List Bindings) → P rows → Given graphs [] rows)
      → ((graphs : List (List Triple)) → Due graphs [])
      → Asked tells alone wires wires endpoints tasks block Given Due (solutions_in r)
  made_unasked Given Due P wires (Ok rows) given memory f d = given_unasked Given Due wires rows.items (λ graphs. f graphs rows.items given)
  made_unasked Given Due P wires (Err e) given memory f d = subst (λ (e : RowsError). Asked {X = List Bindings} tells alone wires wires endpoints tasks block Given Due (Err e)) (sym memory) (unasked Given Due wires d)
