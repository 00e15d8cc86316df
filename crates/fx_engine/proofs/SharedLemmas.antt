-- Runs that were asked for side by side: what was asked for, from the share that each of them has in it.
use Rattle.std.proofs.Common.{ap, ◌∙◌, ◌≡◌, sym, subst, refl, ℕ, ◌+◌, Bool, List, [], ◌∷◌, ◌++◌, length, All, Contains, Result, Ok, Err, IsPermutation, arith}
use Rattle.std.specs.List.{AllByRecursion, flat_map, sum_by}
use Rattle.std.proofs.lemmas.List.Elements.{All-append, All-nil, recursion_from_All}
use Rattle.std.proofs.lemmas.List.Sums.{sum_by-cons}
use Rattle.std.proofs.lemmas.List.Sorted.{All-permutation, Contains-permutation, IsPermutation-refl}
use Rattle.fx_terms.proofs.SetLemmas.{among_from, contains_from}
use Rattle.fx_terms.specs.declared.triples.Triple.{Triple}
use Rattle.fx_outside.specs.Endpoints.{EndpointParts}
use Rattle.fx_algebra.proofs.MemberLemmas.{among_flat_map, among_left, among_right}
use Rattle.fx_algebra.specs.Groups.{one_empty}
use Rattle.fx_algebra.specs.declared.units.Row.{Row}
use Rattle.fx_algebra.specs.declared.units.Unit as unit
use Rattle.fx_spelling.specs.Units.{IsFit}
use Rattle.fx_steps.specs.Steps.{numbered}
use Rattle.fx_traffic.specs.Batches.{IsBatchText}
use Rattle.fx_traffic.specs.Gains.{IsMemberIn, TellOf}
use Rattle.fx_traffic.specs.Sent.{Sent, Sends}
use Rattle.fx_traffic.proofs.SentLemmas.{sent_laws}
use Rattle.fx_traffic.proofs.TextLemmas.{texts_of_more}
use Rattle.fx_wire.specs.Exchanges.{Exchange, Seen}
use Rattle.fx_flows.specs.Flows.{IsBatchRead}
use Rattle.fx_flows.specs.RunFlows.{HasFlowCause}
use Rattle.fx_flows.proofs.FlowLemmas.{has_wider}
use Rattle.fx_flows.specs.declared.flows.FlowError.{FlowError}
use Rattle.fx_flows.specs.declared.flows.FlowError.TheVariants as flow
use Rattle.fx_side_by_side.specs.SideBySide.{AreShared, CanAsk, RunShared, RunsFlowed, Share}
use Rattle.fx_engine.specs.Asked.{Asked}
use Rattle.fx_walks.specs.GroupsAsked.{task_units, units_in}
use Rattle.fx_engine.specs.RowsAsked.{CanBeAsked}
use Rattle.fx_walks.specs.Tasks.{front_of}
use Rattle.fx_engine.specs.Together.{AreFounds, TaskDue, TaskGiven, TasksDue, TasksGiven, founds_by, runs_in, with_first}
use Rattle.fx_engine.specs.declared.rows.RowsError.{RowsError}
use Rattle.fx_engine.specs.declared.rows.RowsError.TheVariants as rows_error
use Rattle.fx_walks.specs.declared.tasks.Task.{Task}
use Rattle.fx_walks.specs.declared.tasks.Task.TheVariants as task
use Rattle.fx_engine.proofs.AskedLemmas.{read_of_more}
use Rattle.fx_engine.proofs.RunTaskLemmas.{cause_of_more, found_so, nothing_found, nothing_sent, sent_so, sound}

-- ---- all shares together

abbrev pub exchanges_of : List Share → List Exchange
exchanges_of shares = flat_map (λ s. s.exchanges) shares

abbrev pub wanted_of : List Share → List Sent
wanted_of shares = flat_map (λ s. s.wanted) shares

abbrev pub left_of : List Share → List Sent
left_of shares = flat_map (λ s. s.left) shares

abbrev pub failed_of : List Share → ℕ
failed_of shares = sum_by (λ s. s.failed) shares

module _ (before after : List Seen) (endpoints : List EndpointParts) (block : ℕ) where
  abbrev Are : List (List unit.Unit) → List Share → List (Result (List Row) FlowError) → Type 0
  Are = AreShared before after endpoints block

  all_sent : (runs : List (List unit.Unit)) (shares : List Share) (results : List (Result (List Row) FlowError)) → Are runs shares results → Sends (wanted_of shares) (left_of shares) (exchanges_of shares)
  all_sent [] [] [] h = IsPermutation-refl []
  all_sent [] [] (r ∷ results) h = absurd h
  all_sent [] (s ∷ shares) results h = absurd h
  all_sent (us ∷ runs) [] results h = absurd h
  all_sent (us ∷ runs) (s ∷ shares) [] h = absurd h
  all_sent (us ∷ runs) (s ∷ shares) (r ∷ results) h = sent_laws.together s.wanted s.left (wanted_of shares) (left_of shares) s.exchanges (exchanges_of shares) h.0.sent (all_sent runs shares results h.1)

  all_texts : (Of : unit.Unit → Type 0) (runs : List (List unit.Unit)) (shares : List Share) (results : List (Result (List Row) FlowError)) → AllByRecursion (λ us. (u : unit.Unit) → Contains us u → Of u) runs → Are runs shares results
      → All (IsBatchText endpoints block Of) (wanted_of shares)
  all_texts Of [] [] [] of h = All-nil (IsBatchText endpoints block Of)
  all_texts Of [] [] (r ∷ results) of h = absurd h
  all_texts Of [] (s ∷ shares) results of h = absurd h
  all_texts Of (us ∷ runs) [] results of h = absurd h
  all_texts Of (us ∷ runs) (s ∷ shares) [] of h = absurd h
  all_texts Of (us ∷ runs) (s ∷ shares) (r ∷ results) of h =
      All-append (IsBatchText endpoints block Of) s.wanted (wanted_of shares) (texts_of_more endpoints block (Contains us) Of of.0 s.wanted h.0.of_batches) (all_texts Of runs shares results of.1 h.1)

-- ---- those of tasks

module _ (before after : List Seen) (endpoints : List EndpointParts) (block : ℕ) (all : List Task) where
  abbrev Its : List Task → List Share → List (Result (List Row) FlowError) → Type 0
  Its its = AreShared before after endpoints block (runs_in its)

  abbrev Front : Task → Type 0
  Front t = Contains (front_of all) t

  -- the units of a task in front
  of_task : (units : List unit.Unit) → Front (task.Run units) → (u : unit.Unit) → Contains units u → Contains (units_in all) u
  of_task units its u m = contains_from (units_in all) u (among_flat_map task_units (task.Run units) u (front_of all) (among_from (front_of all) (task.Run units) its) (among_from units u m))

  of_tasks : (its : List Task) → AllByRecursion Front its → AllByRecursion (λ us. (u : unit.Unit) → Contains us u → Contains (units_in all) u) (runs_in its)
  of_tasks [] h = tt
  of_tasks (task.Run units ∷ its) h = (of_task units h.0, of_tasks its h.1)
  of_tasks (task.EmptyRun ∷ its) h = of_tasks its h.1
  of_tasks (task.Service rows ∷ its) h = of_tasks its h.1
  of_tasks (task.Refused ∷ its) h = of_tasks its h.1

  -- the graphs of the members of all units in front are told
  abbrev pub Told : List (List Triple) → Type 0
  Told graphs = TellOf before endpoints graphs (IsMemberIn (units_in all))

  its_told : (graphs : List (List Triple)) → Told graphs → (units : List unit.Unit) → Front (task.Run units) → TellOf before endpoints graphs (IsMemberIn units)
  its_told graphs told units front = λ at e m found. told at e (m.0, of_task units front m.0 m.1, m.2) found

  -- ---- what is due

  one_due : (graphs : List (List Triple)) → Told graphs → (units : List unit.Unit) → All IsFit units → Front (task.Run units) → (s : Share) (r : Result (List Row) FlowError) → RunShared before after endpoints units block (numbered 0 one_empty) s r
      → TaskDue endpoints block (task.Run units) graphs s.wanted
  one_due graphs told units fit front s r h = λ ps filters known gone defined moved is.
      sent_so endpoints block one_empty (task.Run units) units refl fit graphs ps filters known gone defined s.wanted moved is (h.of_run graphs (its_told graphs told units front) (sound endpoints block one_empty (task.Run units) units refl fit graphs ps filters known is))

  none_due : (graphs : List (List Triple)) (t : Task) → TaskDue endpoints block t graphs []
  none_due graphs t = λ ps filters known gone defined moved is. nothing_sent endpoints graphs block ps filters known defined

  due : (graphs : List (List Triple)) → Told graphs → (its : List Task) → AllByRecursion (CanBeAsked (length endpoints)) its → AllByRecursion Front its → (shares : List Share) (results : List (Result (List Row) FlowError)) → Its its shares results
      → TasksDue endpoints block its graphs (wanted_of shares)
  due graphs told [] can front [] [] h = refl
  due graphs told [] can front [] (r ∷ results) h = absurd h
  due graphs told [] can front (s ∷ shares) results h = absurd h
  due graphs told (task.Run units ∷ its) can front [] results h = absurd h
  due graphs told (task.Run units ∷ its) can front (s ∷ shares) [] h = absurd h
  due graphs told (task.Run units ∷ its) can front (s ∷ shares) (r ∷ results) h = (s.wanted, wanted_of shares, refl, one_due graphs told units can.0.fit front.0 s r h.0, due graphs told its can.1 front.1 shares results h.1)
  due graphs told (task.EmptyRun ∷ its) can front shares results h = ([], wanted_of shares, refl, none_due graphs task.EmptyRun, due graphs told its can.1 front.1 shares results h)
  due graphs told (task.Service rows ∷ its) can front shares results h = ([], wanted_of shares, refl, none_due graphs (task.Service rows), due graphs told its can.1 front.1 shares results h)
  due graphs told (task.Refused ∷ its) can front shares results h = ([], wanted_of shares, refl, none_due graphs task.Refused, due graphs told its can.1 front.1 shares results h)

  -- ---- what is given

  one_given : (graphs : List (List Triple)) → Told graphs → (units : List unit.Unit) → All IsFit units → Front (task.Run units) → (s : Share) (found : List Row) → RunShared before after endpoints units block (numbered 0 one_empty) s (Ok found)
      → TaskGiven endpoints block (task.Run units) graphs s.wanted found
  one_given graphs told units fit front s found h = λ ps filters known gone defined moved is. (
    one_due graphs told units fit front s (Ok found) h ps filters known gone defined moved is,
    found_so endpoints block one_empty (task.Run units) units refl fit graphs ps filters known found is (h.done graphs (its_told graphs told units front) (sound endpoints block one_empty (task.Run units) units refl fit graphs ps filters known is)),
  )

  -- a task that has no units has no rows
  none_given : (graphs : List (List Triple)) (t : Task) → ((units : List unit.Unit) → t ≡ task.Run units → ⊥) → TaskGiven endpoints block t graphs [] []
  none_given graphs t none = λ ps filters known gone defined moved is. (none_due graphs t ps filters known gone defined moved is, nothing_found graphs ps filters known one_empty t none is)

  -- everything was given
  record Whole (its : List Task) (shares : List Share) (founds : List (List Row)) : Type 0 where
    given : (graphs : List (List Triple)) → Told graphs → TasksGiven endpoints block its graphs (wanted_of shares) founds
    unfailed : failed_of shares ≡ 0
    sent_all : left_of shares ≡ []
    read : All (IsBatchRead (Contains (units_in all))) (exchanges_of shares)

  -- or one was refused
  record Lost (shares : List Share) (e : FlowError) : Type 0 where
    units : List unit.Unit
    of_units : (u : unit.Unit) → Contains units u → Contains (units_in all) u
    share : Share
    more_exchanges : (x : Exchange) → Contains share.exchanges x → Contains (exchanges_of shares) x
    more_wanted : (x : Sent) → Contains share.wanted x → Contains (wanted_of shares) x
    cause : HasFlowCause before after endpoints units block share.wanted share.exchanges e

  abbrev Came : List Task → List Share → Result (List (List Row)) FlowError → Type 0
  Came its shares (Ok founds) = Whole its shares founds
  Came its shares (Err e) = Lost shares e

  with_none : (t : Task) → ((units : List unit.Unit) → t ≡ task.Run units → ⊥) → (its : List Task) (shares : List Share) (r : Result (List (List Row)) FlowError) → Came its shares r → Came (t ∷ its) shares (with_first [] r)
  with_none t none its shares (Ok founds) h = record {
    given = λ graphs told. ([], wanted_of shares, refl, none_given graphs t none, h.given graphs told);
    unfailed = h.unfailed;
    sent_all = h.sent_all;
    read = h.read;
  }
  with_none t none its shares (Err e) h = h

  with_one : (units : List unit.Unit) → All IsFit units → Front (task.Run units) → (s : Share) (found : List Row) → RunShared before after endpoints units block (numbered 0 one_empty) s (Ok found)
      → (its : List Task) (shares : List Share) (r : Result (List (List Row)) FlowError) → Came its shares r → Came (task.Run units ∷ its) (s ∷ shares) (with_first found r)
  with_one units fit front s found k its shares (Ok founds) h = record {
    given = λ graphs told. (s.wanted, wanted_of shares, refl, one_given graphs told units fit front s found k, h.given graphs told);
    unfailed =
        let mine : s.failed ≡ 0 = k.unfailed in
        let others : failed_of shares ≡ 0 = h.unfailed in
        let whole : failed_of (s ∷ shares) ≡ s.failed + failed_of shares = sum_by-cons (λ (x : Share). x.failed) s shares in
        omega (arith, mine, others, whole);
    sent_all = ap (λ (v : List Sent). v ++ left_of shares) k.whole ∙ h.sent_all;
    read = All-append (IsBatchRead (Contains (units_in all))) s.exchanges (exchanges_of shares) (read_of_more (Contains units) (Contains (units_in all)) (of_task units front) s.exchanges k.faultless) h.read;
  }
  with_one units fit front s found k its shares (Err e) h = record {
    units = h.units;
    of_units = h.of_units;
    share = h.share;
    more_exchanges = λ x m. contains_from (s.exchanges ++ exchanges_of shares) x (among_right x s.exchanges (exchanges_of shares) (among_from (exchanges_of shares) x (h.more_exchanges x m)));
    more_wanted = λ x m. contains_from (s.wanted ++ wanted_of shares) x (among_right x s.wanted (wanted_of shares) (among_from (wanted_of shares) x (h.more_wanted x m)));
    cause = h.cause;
  }

  came : (its : List Task) → AllByRecursion (CanBeAsked (length endpoints)) its → AllByRecursion Front its → (shares : List Share) (results : List (Result (List Row) FlowError)) → Its its shares results → Came its shares (founds_by its results)
  came [] can front [] [] h = record { given = λ graphs told. refl; unfailed = refl; sent_all = refl; read = All-nil (IsBatchRead (Contains (units_in all))) }
  came [] can front [] (r ∷ results) h = absurd h
  came [] can front (s ∷ shares) results h = absurd h
  came (task.Run units ∷ its) can front [] results h = absurd h
  came (task.Run units ∷ its) can front (s ∷ shares) [] h = absurd h
  came (task.Run units ∷ its) can front (s ∷ shares) (Ok found ∷ results) h =
      with_one units can.0.fit front.0 s found h.0 its shares (founds_by its results) (came its can.1 front.1 shares results h.1)
  came (task.Run units ∷ its) can front (s ∷ shares) (Err e ∷ results) h = record {
    units = units;
    of_units = of_task units front.0;
    share = s;
    more_exchanges = λ x m. contains_from (s.exchanges ++ exchanges_of shares) x (among_left x s.exchanges (exchanges_of shares) (among_from s.exchanges x m));
    more_wanted = λ x m. contains_from (s.wanted ++ wanted_of shares) x (among_left x s.wanted (wanted_of shares) (among_from s.wanted x m));
    cause = h.0.cause;
  }
  came (task.EmptyRun ∷ its) can front shares results h = with_none task.EmptyRun (λ units is. absurd (cc)) its shares (founds_by its results) (came its can.1 front.1 shares results h)
  came (task.Service rows ∷ its) can front shares results h = with_none (task.Service rows) (λ units is. absurd (cc)) its shares (founds_by its results) (came its can.1 front.1 shares results h)
  came (task.Refused ∷ its) can front shares results h = with_none task.Refused (λ units is. absurd (cc)) its shares (founds_by its results) (came its can.1 front.1 shares results h)

  -- ---- the cause of a refusal

  module _ (shares : List Share) (xs : List Exchange) (same : IsPermutation (exchanges_of shares) xs) where
    lost_cause : (e : FlowError) → Lost shares e → HasFlowCause before after endpoints (units_in all) block (wanted_of shares) xs e
    lost_cause e k =
        cause_of_more before after endpoints k.units (units_in all) block k.of_units (wanted_of shares) xs e
        (has_wider before after before after endpoints k.units block k.share.wanted (wanted_of shares) k.share.exchanges xs (λ address rose. rose) (λ address g told. told) k.more_wanted
        (λ x m. Contains-permutation (exchanges_of shares) xs x same (k.more_exchanges x m)) e k.cause)

-- ---- what was asked for

module _ (tells alone : Bool) (before after : List Seen) (endpoints : List EndpointParts) (block : ℕ) (all its : List Task) (can : All (CanBeAsked (length endpoints)) its) (front : All (Contains (front_of all)) its) (results : List (Result (List Row) FlowError))
    (h : RunsFlowed tells alone before after endpoints (runs_in its) block results) where
  abbrev Given : List (List Triple) → List Sent → List (List Row) → Type 0
  Given = TasksGiven endpoints block its

  abbrev Due : List (List Triple) → List Sent → Type 0
  Due = TasksDue endpoints block its

  abbrev here : AllByRecursion (CanBeAsked (length endpoints)) its
  here = recursion_from_All (CanBeAsked (length endpoints)) its can

  abbrev there : AllByRecursion (Contains (front_of all)) its
  there = recursion_from_All (Contains (front_of all)) its front

  what_came : Came before after endpoints block all its h.shares (founds_by its results)
  what_came = came before after endpoints block all its here there h.shares results h.each

  what_is_due : (graphs : List (List Triple)) → Told before after endpoints block all graphs → Due graphs (wanted_of h.shares)
  what_is_due graphs told = due before after endpoints block all graphs told its here there h.shares results h.each

  what_was_sent : Sends (wanted_of h.shares) (left_of h.shares) h.exchanges
  what_was_sent = sent_laws.any_order (wanted_of h.shares) (left_of h.shares) (exchanges_of h.shares) h.exchanges h.parted (all_sent before after endpoints block (runs_in its) h.shares results h.each)

  texts : All (IsBatchText endpoints block (Contains (units_in all))) (wanted_of h.shares)
  texts = all_texts before after endpoints block (Contains (units_in all)) (runs_in its) h.shares results (of_tasks before after endpoints block all its there) h.each

  given : (founds : List (List Row)) → Whole before after endpoints block all its h.shares founds → Asked tells alone before after endpoints all block Given Due (Ok founds)
  given founds k = record {
    exchanges = h.exchanges;
    failed = failed_of h.shares;
    unfailed = k.unfailed;
    went = record { gained = h.gained; after_all = h.after_all; counted = h.counted };
    wanted = wanted_of h.shares;
    left = left_of h.shares;
    sent = what_was_sent;
    whole = k.sent_all;
    of_batches = texts;
    faultless = All-permutation (IsBatchRead (Contains (units_in all))) (exchanges_of h.shares) h.exchanges h.parted k.read;
    known = λ graphs told. k.given graphs told;
    cause = tt;
  }

  refused : (e : FlowError) → HasFlowCause before after endpoints (units_in all) block (wanted_of h.shares) h.exchanges e → Asked {X = List (List Row)} tells alone before after endpoints all block Given Due (Err (rows_error.Flow e))
  refused e cause = record {
    exchanges = h.exchanges;
    failed = failed_of h.shares;
    unfailed = tt;
    went = record { gained = h.gained; after_all = h.after_all; counted = h.counted };
    wanted = wanted_of h.shares;
    left = left_of h.shares;
    sent = what_was_sent;
    whole = tt;
    of_batches = texts;
    faultless = tt;
    known = λ graphs told. what_is_due graphs told;
    cause = cause;
  }

  -- whatever came of it; memory may have run out behind it
  pub asked_together : (r : Result (List (List Row)) RowsError) → AreFounds (founds_by its results) r → Asked tells alone before after endpoints all block Given Due r
  asked_together r k = by (founds_by its results) r k what_came
    where
      why : (e : FlowError) (w : RowsError) → w ≡ rows_error.Flow e → Lost before after endpoints block all h.shares e → Asked {X = List (List Row)} tells alone before after endpoints all block Given Due (Err w)
      why e w is lost =
          subst (λ (v : RowsError). Asked {X = List (List Row)} tells alone before after endpoints all block Given Due (Err v)) (sym is)
          (refused e (lost_cause before after endpoints block all h.shares h.exchanges h.parted e lost))

      by : (f : Result (List (List Row)) FlowError) (r : Result (List (List Row)) RowsError) → AreFounds f r → Came before after endpoints block all its h.shares f → Asked tells alone before after endpoints all block Given Due r
      by (Ok founds) (Ok found) is c = subst (λ (v : List (List Row)). Asked tells alone before after endpoints all block Given Due (Ok v)) (sym is) (given founds c)
      by (Err e) (Ok found) is c = absurd is
      by f (Err (rows_error.Flow flow.Memory)) is c = refused flow.Memory tt
      by (Err e) (Err (rows_error.Flow (flow.Member at))) is c = why e (rows_error.Flow (flow.Member at)) is c
      by (Err e) (Err (rows_error.Flow (flow.BadReply at bad))) is c = why e (rows_error.Flow (flow.BadReply at bad)) is c
      by (Err e) (Err (rows_error.Flow (flow.RequestTooLong at size))) is c = why e (rows_error.Flow (flow.RequestTooLong at size)) is c
      by (Err e) (Err rows_error.Refused) is c = why e rows_error.Refused is c
      by (Ok founds) (Err (rows_error.Flow (flow.Member at))) is c = absurd is
      by (Ok founds) (Err (rows_error.Flow (flow.BadReply at bad))) is c = absurd is
      by (Ok founds) (Err (rows_error.Flow (flow.RequestTooLong at size))) is c = absurd is
      by (Ok founds) (Err rows_error.Refused) is c = absurd is

-- ---- which tasks

pub all_can : (count : ℕ) (its : List Task) → AllByRecursion (CanBeAsked count) its → AllByRecursion (CanAsk count) (runs_in its)
all_can count [] h = tt
all_can count (task.Run units ∷ its) h = (h.0, all_can count its h.1)
all_can count (task.EmptyRun ∷ its) h = all_can count its h.1
all_can count (task.Service rows ∷ its) h = all_can count its h.1
all_can count (task.Refused ∷ its) h = all_can count its h.1

-- nothing of tasks need be sent
pub nothing_due : (endpoints : List EndpointParts) (block : ℕ) (graphs : List (List Triple)) (its : List Task) → TasksDue endpoints block its graphs []
nothing_due endpoints block graphs [] = refl
nothing_due endpoints block graphs (t ∷ its) = ([], [], refl, (λ ps filters known gone defined moved is. nothing_sent endpoints graphs block ps filters known defined), nothing_due endpoints block graphs its)
