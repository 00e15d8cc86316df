-- What a run sends and gives by its task.
use Rattle.std.proofs.Common.{◌≡◌, ◌∙◌, sym, subst, refl, ℕ, ◌+◌, ◌≤◌, Bool, true, false, List, [], ◌∷◌, map, drop, length, Ok, Err, All, Contains, drop_of_length-le}
use Rattle.std.specs.List.{list_any}
use Rattle.fx_terms.proofs.SetLemmas.{among_from, contains_from}
use Rattle.fx_terms.specs.declared.triples.Triple.{Triple}
use Rattle.fx_terms.specs.declared.patterns.Pattern.{Pattern}
use Rattle.fx_outside.specs.Endpoints.{EndpointParts}
use Rattle.fx_algebra.proofs.MemberLemmas.{among_flat_map}
use Rattle.fx_algebra.specs.Answers.{is_empty_list}
use Rattle.fx_algebra.specs.Graphs.{union}
use Rattle.fx_algebra.specs.Solutions.{Bindings}
use Rattle.fx_algebra.specs.Stations as station
use Rattle.fx_algebra.specs.Units.{sources}
use Rattle.fx_algebra.specs.declared.expressions.Expr.{Expr}
use Rattle.fx_algebra.specs.declared.units.Row.{Row}
use Rattle.fx_algebra.specs.declared.units.Unit as unit
use Rattle.fx_plan.specs.Plans.{plan}
use Rattle.fx_spelling.specs.Units.{IsFit}
use Rattle.fx_steps.specs.Steps.{numbered}
use Rattle.fx_traffic.specs.Batches.{IsRunSent}
use Rattle.fx_traffic.specs.Gains.{IsMemberIn, TellOf}
use Rattle.fx_traffic.specs.Sent.{Sent}
use Rattle.fx_traffic.specs.Traffic.{SentUnless}
use Rattle.fx_traffic.proofs.TextLemmas.{texts_of_more}
use Rattle.fx_wire.specs.Exchanges.{Exchange, Seen}
use Rattle.fx_flows.specs.RunFlows.{HasFlowCause, RunFlowed}
use Rattle.fx_flows.specs.declared.flows.FlowError.{FlowError}
use Rattle.fx_engine.specs.Asked.{Asked}
use Rattle.fx_walks.specs.GroupsAsked.{ComesOf, RunDue, RunGiven, run_task, task_units, units_in}
use Rattle.fx_walks.specs.Tasks.{front_of}
use Rattle.fx_engine.specs.declared.rows.RowsError.TheVariants as rows_error
use Rattle.fx_walks.specs.declared.tasks.Task.{Task}
use Rattle.fx_walks.specs.declared.tasks.Task.TheVariants as task
use Rattle.fx_engine.proofs.AskedLemmas.{given_unasked, read_of_more, refused_unasked}
use Rattle.fx_engine.proofs.RunTaskLemmas.{cause_of_more, found_so, lacks_one, no_service, none_refused, sent_so, sound}
use Rattle.fx_walks.proofs.FrontLemmas.{first_is}
use Rattle.fx_walks.proofs.StationLemmas.{no_run_sent, sent_alone}

-- ---- the run of a task

module _ (tells alone : Bool) (before after : List Seen) (endpoints : List EndpointParts) (block : ℕ) (tasks : List Task) (next : ℕ) (rows : List Bindings) where
  -- there is no task: what is claimed is of no run
  pub no_task : length tasks ≤ next → Asked {X = List Row} tells alone before before endpoints tasks block (RunGiven endpoints block tasks next next rows) (RunDue endpoints block tasks next rows) (Ok [])
  no_task over =
      given_unasked tells alone endpoints tasks block (RunGiven endpoints block tasks next next rows) (RunDue endpoints block tasks next rows) before []
      (λ graphs ps filters known gone defined rest moved next_is.
      let none : [] ≡ run_task graphs ps filters known ∷ rest = sym (drop_of_length-le tasks over) ∙ next_is in
      absurd (cc))

  -- an occurrence of SERVICE before it was refused
  pub run_behind : Contains tasks task.Refused → Asked {X = List Row} tells alone before before endpoints tasks block (RunGiven endpoints block tasks next next rows) (RunDue endpoints block tasks next rows) (Err rows_error.Refused)
  run_behind refused =
      refused_unasked tells alone endpoints tasks block (RunGiven endpoints block tasks next next rows) (RunDue endpoints block tasks next rows) before rows_error.Refused refused
      (λ graphs ps filters known gone defined rest moved next_is. no_run_sent endpoints graphs block (station.run ps filters known ∷ []) (defined ∷ []) refl)

  module _ (it : Task) (next_is : drop next tasks ≡ it ∷ drop (next + 1) tasks) where
    -- a pattern lacks a source
    pub no_run : it ≡ task.EmptyRun → Asked {X = List Row} tells alone before before endpoints tasks block (RunGiven endpoints block tasks next (next + 1) rows) (RunDue endpoints block tasks next rows) (Ok [])
    no_run empty =
        given_unasked tells alone endpoints tasks block (RunGiven endpoints block tasks next (next + 1) rows) (RunDue endpoints block tasks next rows) before []
        (λ graphs ps filters known gone defined rest moved is.
        let here = first_is _ _ _ _ (sym is ∙ next_is) in
        let lacks = lacks_one graphs ps filters known (here.0 ∙ empty) in (
          record {
            behind = sym here.1;
            sent = sent_alone endpoints graphs block (station.run ps filters known) defined [] (unless graphs ps filters known defined (list_any is_empty_list (map (sources graphs) ps)) lacks);
          },
          subst (λ (b : Bool). ComesOf b (union graphs) (plan ps (map (sources graphs) ps) filters known) rows []) (sym lacks) refl,
        ))
      where
        unless : (graphs : List (List Triple)) (ps : List Pattern) (filters : List Expr) (known : List (List ℕ)) (defined : List Bindings) (b : Bool) → b ≡ true
            → SentUnless b [] (IsRunSent endpoints (union graphs) block 1 (plan ps (map (sources graphs) ps) filters known) (numbered 0 defined) [])
        unless graphs ps filters known defined true e = refl
        unless graphs ps filters known defined false e = absurd (cc)

    -- it is no run
    unrun : ((graphs : List (List Triple)) (ps : List Pattern) (filters : List Expr) (known : List (List ℕ)) → run_task graphs ps filters known ≡ it → ⊥)
        → Asked {X = List Row} tells alone before before endpoints tasks block (RunGiven endpoints block tasks next (next + 1) rows) (RunDue endpoints block tasks next rows) (Ok [])
    unrun none =
        given_unasked tells alone endpoints tasks block (RunGiven endpoints block tasks next (next + 1) rows) (RunDue endpoints block tasks next rows) before []
        (λ graphs ps filters known gone defined rest moved is. let here = first_is _ _ _ _ (sym is ∙ next_is) in absurd (none graphs ps filters known here.0))

    pub service_unrun : (found : List Bindings) → it ≡ task.Service found → Asked {X = List Row} tells alone before before endpoints tasks block (RunGiven endpoints block tasks next (next + 1) rows) (RunDue endpoints block tasks next rows) (Ok [])
    service_unrun found service = unrun (λ graphs ps filters known is. no_service graphs ps filters known found (is ∙ service))

    pub refused_unrun : it ≡ task.Refused → Asked {X = List Row} tells alone before before endpoints tasks block (RunGiven endpoints block tasks next (next + 1) rows) (RunDue endpoints block tasks next rows) (Ok [])
    refused_unrun refused = unrun (λ graphs ps filters known is. none_refused graphs ps filters known (is ∙ refused))

    module _ (units : List unit.Unit) (is_run : it ≡ task.Run units) (fit : All IsFit units) (its : Contains (front_of tasks) it) where
      of_plan : (u : unit.Unit) → Contains units u → Contains (units_in tasks) u
      of_plan u m = contains_from (units_in tasks) u (among_flat_map task_units it u (front_of tasks) (among_from (front_of tasks) it its) (among_from (task_units it) u (subst (λ (t : Task). Contains (task_units t) u) (sym is_run) m)))

      its_told : (graphs : List (List Triple)) → TellOf before endpoints graphs (IsMemberIn (units_in tasks)) → TellOf before endpoints graphs (IsMemberIn units)
      its_told graphs told = λ at e m found. told at e (m.0, of_plan m.0 m.1, m.2) found

      has_cause : (wanted : List Sent) (xs : List Exchange) (why : FlowError) → HasFlowCause before after endpoints units block wanted xs why → HasFlowCause before after endpoints (units_in tasks) block wanted xs why
      has_cause = cause_of_more before after endpoints units (units_in tasks) block of_plan

      abbrev Given : List (List Triple) → List Sent → List Row → Type 0
      Given = RunGiven endpoints block tasks next (next + 1) rows

      abbrev Due : List (List Triple) → List Sent → Type 0
      Due = RunDue endpoints block tasks next rows

      -- its units were asked for
      pub run_asked : (found : List Row) → RunFlowed tells alone before after endpoints units block (numbered 0 rows) (Ok found) → Asked tells alone before after endpoints tasks block Given Due (Ok found)
      run_asked found h = record {
        exchanges = h.exchanges;
        failed = h.failed;
        unfailed = h.unfailed;
        went = record { gained = h.gained; after_all = h.after_all; counted = h.counted };
        wanted = h.wanted;
        left = h.left;
        sent = h.sent;
        whole = h.whole;
        of_batches = texts_of_more endpoints block (Contains units) (Contains (units_in tasks)) of_plan h.wanted h.of_batches;
        faultless = read_of_more (Contains units) (Contains (units_in tasks)) of_plan h.exchanges h.faultless;
        known = λ graphs told ps filters known gone defined rest moved is.
            let here = first_is _ _ _ _ (sym is ∙ next_is) in
            let all_sound = sound endpoints block rows it units is_run fit graphs ps filters known here.0 in (
              record {
                behind = sym here.1;
                sent = sent_alone endpoints graphs block (station.run ps filters known) defined h.wanted (sent_so endpoints block rows it units is_run fit graphs ps filters known gone defined h.wanted moved here.0 (h.of_run graphs (its_told graphs told) all_sound));
              },
              found_so endpoints block rows it units is_run fit graphs ps filters known found here.0 (h.done graphs (its_told graphs told) all_sound),
            );
        cause = tt;
      }

      -- or some of them were, before one was refused
      pub run_refused : (why : FlowError) → RunFlowed tells alone before after endpoints units block (numbered 0 rows) (Err why) → Asked {X = List Row} tells alone before after endpoints tasks block Given Due (Err (rows_error.Flow why))
      run_refused why h = record {
        exchanges = h.exchanges;
        failed = h.failed;
        unfailed = tt;
        went = record { gained = h.gained; after_all = h.after_all; counted = h.counted };
        wanted = h.wanted;
        left = h.left;
        sent = h.sent;
        whole = tt;
        of_batches = texts_of_more endpoints block (Contains units) (Contains (units_in tasks)) of_plan h.wanted h.of_batches;
        faultless = tt;
        known = λ graphs told ps filters known gone defined rest moved is.
            let here = first_is _ _ _ _ (sym is ∙ next_is) in
            sent_alone endpoints graphs block (station.run ps filters known) defined h.wanted (sent_so endpoints block rows it units is_run fit graphs ps filters known gone defined h.wanted moved here.0 (h.of_run graphs (its_told graphs told) (sound endpoints block rows it units is_run fit graphs ps filters known here.0)));
        cause = has_cause h.wanted h.exchanges why h.cause;
      }
