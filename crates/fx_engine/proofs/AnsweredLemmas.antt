-- The answer of a query from what was asked for its group.
use Rattle.std.proofs.Common.{◌≡◌, ◌∙◌, sym, subst, refl, ℕ, Bool, List, [], ◌∷◌, None, Ok, Err, IfErr, IfOk, Result, All, IsTrue, IsPermutation, append-nil}
use Rattle.std.proofs.lemmas.List.Sorted.{IsPermutation-sym, IsPermutation-trans}
use Rattle.fx_terms.specs.declared.triples.Triple.{Triple}
use Rattle.fx_outside.specs.Endpoints.{EndpointParts}
use Rattle.fx_algebra.specs.Answers.{form_answer, no_graphs, with_inline}
use Rattle.fx_algebra.specs.Cuts.{seeds, stations}
use Rattle.fx_algebra.specs.Graphs.{union}
use Rattle.fx_algebra.specs.Groups.{group_rows}
use Rattle.fx_algebra.specs.Solutions.{Bindings, rises}
use Rattle.fx_algebra.specs.Stations.{Station}
use Rattle.fx_algebra.specs.Stations as station
use Rattle.fx_algebra.specs.declared.answers.Answer.{Answer}
use Rattle.fx_algebra.specs.declared.queries.Query.{Query}
use Rattle.fx_algebra.proofs.CutLemmas.{seeds_for_each, stations_are_fixed}
use Rattle.fx_algebra.proofs.OperatorLemmas.{with_inline_moves}
use Rattle.fx_solutions.proofs.AnswerLemmas.{one_answer_holds}
use Rattle.fx_traffic.specs.Sent.{Sent}
use Rattle.fx_wire.specs.Exchanges.{Seen}
use Rattle.fx_flows.specs.declared.flows.FlowError.TheVariants as flow
use Rattle.fx_walks.specs.AnswersAsked.{AnswerDue, AnswerGiven, IsFromRows}
use Rattle.fx_engine.specs.Asked.{Asked}
use Rattle.fx_walks.specs.GroupsAsked.{GroupDue, GroupGiven, HasRows, IsNext, all_planned, seeds_in, stations_in}
use Rattle.fx_walks.specs.Served.{Served, group_in}
use Rattle.fx_walks.specs.RunsSent.{AreRunsSent}
use Rattle.fx_engine.specs.declared.rows.RowsError.{RowsError}
use Rattle.fx_engine.specs.declared.rows.RowsError.TheVariants as rows_error
use Rattle.fx_walks.specs.declared.tasks.Task.{Task}
use Rattle.fx_engine.proofs.AskedLemmas.{given_as, lost_behind}
use Rattle.fx_walks.proofs.StationLemmas.{no_run_sent}
use Rattle.fx_outcomes.proofs.TaskLemmas.{AreAtHand}

-- ---- from rows

pub from_rows : (q : Query) (rows all : List Bindings) (answer : Answer) → IsPermutation (with_inline q.inline rows) all → All (λ s. IsTrue (rises s)) all → answer ≡ form_answer q q.form all → IsFromRows q rows answer
from_rows q rows all answer same up is = λ defined moved.
    is
    ∙ one_answer_holds q all (with_inline q.inline defined) up
    (IsPermutation-trans all (with_inline q.inline rows) (with_inline q.inline defined) (IsPermutation-sym (with_inline q.inline rows) all same) (with_inline_moves q.inline rows defined moved))

-- ---- by the tasks

-- no SERVICE is served
abbrev pub alone_served : Served
alone_served = record { graphs = no_graphs; down = []; rows = λ number. None }

pub none_at_hand : (ss : List Station) → AreAtHand alone_served ss []
none_at_hand [] = tt
none_at_hand (station.run ps filters before ∷ ss) = none_at_hand ss
none_at_hand (station.service number silent iri g ∷ ss) = (refl, none_at_hand ss)

station_alone : (s : Station) → HasRows alone_served s
station_alone (station.run ps filters before) = tt
station_alone (station.service number silent iri g) = tt

pub rows_alone : (ss : List Station) → All (HasRows alone_served) ss
rows_alone ss = λ k d low. station_alone _

module _ (q : Query) (graphs : List (List Triple)) (served : Served) where
  fixed : stations_in served 0 q.group ≡ stations q
  fixed = stations_are_fixed q served.graphs served.down

  -- the tasks begin with those of the query's stations, and nothing is behind them
  from_the_start : (tasks : List Task) → tasks ≡ all_planned served graphs (stations q) → All (HasRows served) (stations q) → IsNext tasks 0 graphs served (stations_in served 0 q.group) []
  from_the_start tasks is right = subst (λ (v : List Station). IsNext tasks 0 graphs served v []) (sym fixed) (record { next_is = is ∙ sym (append-nil (all_planned served graphs (stations q))); right = right })

  sent_so : (endpoints : List EndpointParts) (block : ℕ) (wanted : List Sent) → AreRunsSent endpoints graphs block (stations_in served 0 q.group) (seeds_in served 0 graphs q.group) wanted
      → AreRunsSent endpoints graphs block (stations q) (seeds q (union graphs) served.graphs served.down) wanted
  sent_so endpoints block wanted h = subst (λ (v : List Station). AreRunsSent endpoints graphs block v (seeds_in served 0 graphs q.group) wanted) fixed h

module _ (endpoints : List EndpointParts) (block : ℕ) (tasks : List Task) (q : Query) (later : ℕ) (graphs : List (List Triple)) (wanted : List Sent) where
  pub answer_due : GroupDue endpoints block tasks 0 q.group graphs wanted → AnswerDue endpoints block tasks q graphs wanted
  answer_due h = λ served is right. sent_so q graphs served endpoints block wanted (h served 0 [] (from_the_start q graphs served tasks is right))

  pub group_was_due : (rows : List Bindings) → GroupGiven endpoints block tasks 0 later q.group graphs wanted rows → AnswerDue endpoints block tasks q graphs wanted
  group_was_due rows h = λ served is right. sent_so q graphs served endpoints block wanted (h served 0 [] (from_the_start q graphs served tasks is right)).0.sent

  pub answer_given : (rows : List Bindings) (answer : Answer) → GroupGiven endpoints block tasks 0 later q.group graphs wanted rows → IsFromRows q rows answer → AnswerGiven endpoints block tasks q graphs wanted answer
  answer_given rows answer h from = λ served is right.
      let both = h served 0 [] (from_the_start q graphs served tasks is right) in
      (sent_so q graphs served endpoints block wanted both.0.sent, from (group_rows (group_in served q.group) (union graphs) 0) both.1)

-- nothing of a query may be sent
pub nothing_due : (endpoints : List EndpointParts) (block : ℕ) (tasks : List Task) (q : Query) (graphs : List (List Triple)) → AnswerDue endpoints block tasks q graphs []
nothing_due endpoints block tasks q graphs = λ served is right.
    no_run_sent endpoints graphs block (stations q) (seeds q (union graphs) served.graphs served.down) (seeds_for_each q (union graphs) served.graphs served.down)

-- ---- with what was asked

pub answered : (tells one : Bool) (endpoints : List EndpointParts) (tasks : List Task) (block : ℕ) (q : Query) (later : ℕ) (before after : List Seen) (rows : List Bindings) (r : Result Answer RowsError)
    → IfOk r (IsFromRows q rows)
    → IfErr r (λ e. e ≡ rows_error.Flow flow.Memory)
    → Asked tells one before after endpoints tasks block (GroupGiven endpoints block tasks 0 later q.group) (GroupDue endpoints block tasks 0 q.group) (Ok rows)
    → Asked tells one before after endpoints tasks block (AnswerGiven endpoints block tasks q) (AnswerDue endpoints block tasks q) r
answered tells one endpoints tasks block q later before after rows (Ok answer) from memory h =
    given_as tells one endpoints tasks block before after (GroupGiven endpoints block tasks 0 later q.group) (GroupDue endpoints block tasks 0 q.group) (AnswerGiven endpoints block tasks q) (AnswerDue endpoints block tasks q) rows answer
    (λ graphs wanted g. answer_given endpoints block tasks q later graphs wanted rows answer g from) h
answered tells one endpoints tasks block q later before after rows (Err e) from memory h =
    subst (λ (why : RowsError). Asked {X = Answer} tells one before after endpoints tasks block (AnswerGiven endpoints block tasks q) (AnswerDue endpoints block tasks q) (Err why)) (sym memory)
    (lost_behind tells one endpoints tasks block before after (GroupGiven endpoints block tasks 0 later q.group) (GroupDue endpoints block tasks 0 q.group) (AnswerGiven endpoints block tasks q) (AnswerDue endpoints block tasks q) rows
    (λ graphs wanted g. group_was_due endpoints block tasks q later graphs wanted rows g) h)
