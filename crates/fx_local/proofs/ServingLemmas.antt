-- Connections that were served, one after another.
use Rattle.std.proofs.Common.{length-append, ◌≡◌, ◌∙◌, ap, sym, subst, ℕ, Bool, suc, ◌+◌, ◌<◌, ◌≤◌, List, [], ◌∷◌, ◌++◌, map, length, append_assoc, append-nil, arith, refl, Ok, Err, inl, inr}
use Rattle.std.specs.Prelude.{◌⊎◌, IsTrue}
use Rattle.std.proofs.lemmas.List.Elements.{All-append, All-cons, All-nil}
use Rattle.std.proofs.lemmas.List.{map-append}
use Rattle.fx_terms.specs.declared.triples.Triple.{Triple}
use Rattle.fx_outside.specs.Doors.{DoorSeen, Output, IsTaken}
use Rattle.fx_http.specs.Requests.{TakesOfRequest}
use Rattle.fx_ntriples.specs.declared.faults.NtError.TheVariants as error
use Rattle.fx_local.specs.Files.{FileRead}
use Rattle.fx_local.specs.Lines.{cannot_serve, no_memory}
use Rattle.fx_local.specs.LocalSteps.{GivesGraph, graph_line}
use Rattle.fx_local.specs.RefusalStatuses.{graph_status}
use Rattle.fx_local.specs.declared.refusals.GraphRefusal.{GraphRefusal}
use Rattle.fx_local.specs.declared.refusals.GraphFault.TheVariants as fault
use Rattle.fx_local.specs.declared.refusals.GraphRefusal.TheVariants as refusal
use Rattle.fx_local.specs.Serving.{Visit, IsVisit, IsEnded, HasVisits, Serves, ending_line, ending_lines, IsServingReported, IsUnwritten, IsCut, IsOpen, IsShut, HasStopped, IsGraphOf, IsMemberReported, once_more}
use Rattle.fx_local.specs.ServingSteps.{IsServedNext, IsLost, GivesEnding, end_status, end_line}
use Rattle.fx_local.specs.declared.serving.Ending.{Ending}
use Rattle.fx_local.specs.declared.statuses.Status.{Status}
use Rattle.fx_local.specs.declared.statuses.Status.TheVariants as status
use Rattle.fx_outside.specs.declared.doors.DoorError.{DoorError}
use Rattle.fx_outside.specs.declared.doors.DoorError.TheVariants as door

-- ---- lines

-- the line of one more
pub lines_more : (n m : ℕ) (es : List Ending) (e : Ending) → m ≡ n + length es → ending_lines n (es ++ e ∷ []) ≡ ending_lines n es ++ ending_line m e
lines_more n m [] e h = append-nil (ending_line n e) ∙ ap (λ k. ending_line k e) {x = n} {y = m} (omega (arith, h))
lines_more n m (x ∷ es) e h = ap (λ v. ending_line n x ++ v) (lines_more (suc n) m es e (omega (arith, h))) ∙ sym (append_assoc (ending_line n x) (ending_lines (suc n) es) (ending_line m e))

-- ---- visits

pub none_yet : (graph : List Triple) (seen : DoorSeen) → HasVisits graph seen seen [] []
none_yet graph seen = record { visits = []; each = All-nil (IsVisit graph); ended = refl; went_out = sym (append-nil seen.outputs); came_in = refl }

pub one_more : (graph : List Triple) (before mid after : DoorSeen) (endings : List Ending) (ending : Ending) → HasVisits graph before mid endings [] → IsServedNext graph mid after ending → HasVisits graph before after (endings ++ ending ∷ []) []
one_more graph before mid after endings ending h next = record {
  visits = h.visits ++ next.visit ∷ [];
  each = All-append (IsVisit graph) h.visits (next.visit ∷ []) h.each (All-cons (IsVisit graph) next.visit [] next.is (All-nil (IsVisit graph)));
  ended = ap (λ es. es ++ ending ∷ []) h.ended ∙ ap (λ (e : Ending). map (λ (v : Visit). v.ending) h.visits ++ e ∷ []) (sym next.ended) ∙ sym (map-append (λ (v : Visit). v.ending) h.visits (next.visit ∷ []));
  went_out =
      next.went_out
      ∙ ap (λ os. os ++ next.visit.output ∷ []) h.went_out
      ∙ append_assoc before.outputs (map (λ (v : Visit). v.output) h.visits) (next.visit.output ∷ [])
      ∙ ap (λ os. before.outputs ++ os) (sym (map-append (λ (v : Visit). v.output) h.visits (next.visit ∷ [])));
  came_in =
      h.came_in
      ∙ ap (λ (is : List (List ℕ)). map (λ (v : Visit). v.input) h.visits ++ is) next.came_in
      ∙ sym (append_assoc (map (λ (v : Visit). v.input) h.visits) (next.visit.input ∷ []) after.inputs)
      ∙ ap (λ (is : List (List ℕ)). is ++ after.inputs) (sym (map-append (λ (v : Visit). v.input) h.visits (next.visit ∷ [])));
}

pub cut_off : (graph : List Triple) (before mid after : DoorSeen) (endings : List Ending) → HasVisits graph before mid endings [] → (lost : IsLost mid after) → HasVisits graph before after endings lost.unanswered
cut_off graph before mid after endings h lost = record {
  visits = h.visits;
  each = h.each;
  ended = h.ended;
  went_out = lost.went_out ∙ h.went_out;
  came_in = h.came_in ∙ ap (λ (is : List (List ℕ)). map (λ (v : Visit). v.input) h.visits ++ is) lost.came_in;
}

-- a door whose inputs and outputs are the same
pub from_same : (graph : List Triple) (before mid after : DoorSeen) (endings : List Ending) (unanswered : List (List ℕ)) → mid.outputs ≡ before.outputs → mid.inputs ≡ before.inputs → HasVisits graph mid after endings unanswered → HasVisits graph before after endings unanswered
from_same graph before mid after endings unanswered o i h = record {
  visits = h.visits;
  each = h.each;
  ended = h.ended;
  went_out = h.went_out ∙ ap (λ os. os ++ map (λ (v : Visit). v.output) h.visits) o;
  came_in = sym i ∙ h.came_in;
}

-- nothing came in or went out
pub nothing_yet : (graph : List Triple) (before after : DoorSeen) → after.outputs ≡ before.outputs → after.inputs ≡ before.inputs → HasVisits graph before after [] []
nothing_yet graph before after o i = record { visits = []; each = All-nil (IsVisit graph); ended = refl; went_out = o ∙ sym (append-nil before.outputs); came_in = sym i }

-- ---- the loop

-- so many connections were served, each with its line, and no write failed
pub record IsServedSo (graph : List Triple) (before now : DoorSeen) (is_told : Bool) (held_before held : List ℕ) (faults_before faults number : ℕ) : Type 0 where
  pub endings : List Ending
  pub count : length endings ≡ number
  pub serves : Serves graph before now endings []
  pub started : IsTrue before.tells → now.started ≡ before.started
  pub unfailed : now.faults ≡ before.faults
  pub lines : IsTrue is_told → held ≡ held_before ++ ending_lines 1 endings
  pub faultless : faults ≡ faults_before

module _ (graph : List Triple) (before : DoorSeen) (is_told : Bool) (held_before : List ℕ) (faults_before : ℕ) where
  pub first : IsServedSo graph before before is_told held_before held_before faults_before faults_before 0
  first = record { endings = []; count = refl; serves = λ _. none_yet graph before; started = λ _. refl; unfailed = refl; lines = λ _. sym (append-nil held_before); faultless = refl }

  module _ (mid after : DoorSeen) (held : List ℕ) (faults number : ℕ) (so : IsServedSo graph before mid is_told held_before held faults_before faults number) (same : mid.tells ≡ before.tells) where
    told : IsTrue before.tells → IsTrue mid.tells
    told t = subst IsTrue (sym same) t

    served_more : (ending : Ending) → GivesEnding graph mid after (Ok ending) → Serves graph before after (so.endings ++ ending ∷ []) []
    served_more ending h t = one_more graph before mid after so.endings ending (so.serves t) (h (told t))

    pub next : (ending : Ending) (held_after : List ℕ) (faults_after : ℕ) → GivesEnding graph mid after (Ok ending) → (IsTrue mid.tells → after.started ≡ mid.started) → after.faults ≡ mid.faults
        → (IsTrue is_told → held_after ≡ held ++ ending_line (number + 1) ending) → faults_after ≡ faults → IsServedSo graph before after is_told held_before held_after faults_before faults_after (number + 1)
    next ending held_after faults_after h s k w f = record {
      endings = so.endings ++ ending ∷ [];
      count = length-append so.endings (ending ∷ []) ∙ omega (arith, so.count);
      serves = served_more ending h;
      started = λ t. s (told t) ∙ so.started t;
      unfailed = k ∙ so.unfailed;
      lines = λ t. w t ∙ ap (λ v. v ++ ending_line (number + 1) ending) (so.lines t) ∙ append_assoc held_before (ending_lines 1 so.endings) (ending_line (number + 1) ending) ∙ ap (λ v. held_before ++ v) (sym (lines_more 1 (number + 1) so.endings ending (omega (arith, so.count))));
      faultless = f ∙ so.faultless;
    }

    module _ (total : ℕ) (below : number < total) where
      -- the line could not be written
      pub unwritten : (ending : Ending) → GivesEnding graph mid after (Ok ending) → (IsTrue mid.tells → after.started ≡ mid.started) → IsUnwritten before after before.started total graph (ending_lines 1 so.endings) (ending_line (number + 1) ending)
      unwritten ending h s = (so.endings, ending, served_more ending h, omega (arith, so.count, below), λ t. s (told t) ∙ so.started t, refl, ap (λ (n : ℕ). ending_line (n + 1) ending) (sym so.count))

      -- the door did nothing
      pub cut : (e : DoorError) → GivesEnding graph mid after (Err e) → (IsTrue mid.tells → after.started ≡ mid.started) → (last : List ℕ) → IsCut before after before.started total graph last (ending_lines 1 so.endings) last
      cut e h s last = (so.endings, omega (arith, so.count, below), λ t. stopped t (h (told t)), refl, refl)
        where
          stopped : IsTrue before.tells → IsLost mid after → HasStopped graph before after before.started total so.endings
          stopped t lost = record {
            unanswered = lost.unanswered;
            visits = cut_off graph before mid after so.endings (so.serves t) lost;
            few = lost.few;
            within = omega (arith, so.count, below, lost.few);
            opened = inl (s (told t) ∙ so.started t);
          }

-- ---- statuses

pub ended : (before after : DoorSeen) (addresses : List (List ℕ)) (count : ℕ) (graph : List Triple) (e : DoorError) (lines last : List ℕ) → (e ≡ door.Failed → before.faults < after.faults) → IsCut before after addresses count graph (end_line e) lines last → IsServingReported before after addresses count graph (end_status e) lines last
ended before after addresses count graph door.Failed lines last f cut = (f refl, cut)
ended before after addresses count graph door.Memory lines last f cut = cut

-- neither `Done` nor a door's end is a fault of a write
pub done_otherwise : status.Done ≡ status.WriteFault → ⊥
done_otherwise is = cc

pub ends_otherwise : (e : DoorError) → end_status e ≡ status.WriteFault → ⊥
ends_otherwise door.Failed is = cc
ends_otherwise door.Memory is = cc

-- nor is a graph that is refused
pub refused_otherwise : (r : GraphRefusal) → graph_status r ≡ status.WriteFault → ⊥
refused_otherwise refusal.Fault is = cc
refused_otherwise refusal.TooLong is = cc
refused_otherwise (refusal.Refused (fault.Triples (error.BadUtf8 at))) is = cc
refused_otherwise (refusal.Refused (fault.Triples (error.Bad l c))) is = cc
refused_otherwise (refusal.Refused (fault.Triples (error.Blank l c))) is = cc
refused_otherwise (refusal.Refused (fault.Triples (error.Relative l c))) is = cc
refused_otherwise (refusal.Refused (fault.Triples error.Memory)) is = cc
refused_otherwise (refusal.Refused (fault.Turtle kind at)) is = cc
refused_otherwise refusal.Memory is = cc

-- a door that could not be opened
pub not_opened : (graph : List Triple) (before after : DoorSeen) (addresses : List (List ℕ)) (count : ℕ) (last : List ℕ) → (IsTrue before.tells → after.started ≡ before.started) → (IsTrue before.tells → after.outputs ≡ before.outputs) → (IsTrue before.tells → after.inputs ≡ before.inputs)
    → IsCut before after addresses count graph last [] last
not_opened graph before after addresses count last s o i = ([], omega arith, λ t. stopped (s t) (o t) (i t), refl, refl)
  where
    stopped : after.started ≡ before.started → after.outputs ≡ before.outputs → after.inputs ≡ before.inputs → HasStopped graph before after addresses count []
    stopped s o i = record {
      unanswered = [];
      visits = nothing_yet graph before after o i;
      few = omega arith;
      within = omega arith;
      opened = inr (record { started = s; outputs = o; inputs = i });
    }

-- a door that was opened and served
module _ (graph : List Triple) (before mid after : DoorSeen) (address : List ℕ) (tells : IsTrue before.tells → IsTrue mid.tells) (s : IsTrue before.tells → mid.started ≡ once_more before address) (o : IsTrue before.tells → mid.outputs ≡ before.outputs) (i : IsTrue before.tells → mid.inputs ≡ before.inputs) (k : before.faults ≤ mid.faults) where
  serves_from : (endings : List Ending) → Serves graph mid after endings [] → Serves graph before after endings []
  serves_from endings h t = from_same graph before mid after endings [] (o t) (i t) (h (tells t))

  is_open : IsTrue before.tells → IsOpen after mid.started → IsOpen after (once_more before address)
  is_open t here = here ∙ s t

  was_open : IsTrue before.tells → IsOpen after mid.started ⊎ IsShut mid after → IsOpen after (once_more before address)
  was_open t (inl here) = is_open t here
  was_open t (inr shut) = is_open t shut.started

  stopped_from : (count : ℕ) (endings : List Ending) → IsTrue before.tells → HasStopped graph mid after mid.started count endings → HasStopped graph before after (once_more before address) count endings
  stopped_from count endings t h = record {
    unanswered = h.unanswered;
    visits = from_same graph before mid after endings h.unanswered (o t) (i t) h.visits;
    few = h.few;
    within = h.within;
    opened = inl (was_open t h.opened);
  }

  cut_from : (count : ℕ) (line lines last : List ℕ) → IsCut mid after mid.started count graph line lines last → IsCut before after (once_more before address) count graph line lines last
  cut_from count line lines last h = (h.0, h.1, λ t. stopped_from count h.0 t (h.2 (tells t)), h.3, h.4)

  pub opened_reported : (count : ℕ) (s : Status) (lines last : List ℕ) → IsServingReported mid after mid.started count graph s lines last → IsServingReported before after (once_more before address) count graph s lines last
  opened_reported count status.Done lines last h = (h.0, serves_from h.0 h.1, h.2, λ t. is_open t (h.3 (tells t)), h.4, h.5)
  opened_reported count status.WriteFault lines last h = (h.0, h.1, serves_from (h.0 ++ h.1 ∷ []) h.2, h.3, λ t. is_open t (h.4 (tells t)), h.5, h.6)
  opened_reported count status.DoorFault lines last h = (omega (arith, h.0), cut_from count cannot_serve lines last h.1)
  opened_reported count status.NoMemory lines last h = cut_from count no_memory lines last h
  opened_reported count status.Usage lines last h = absurd h
  opened_reported count status.QueryRefused lines last h = absurd h
  opened_reported count status.RegistryRefused lines last h = absurd h
  opened_reported count status.EndpointFault lines last h = absurd h
  opened_reported count status.BadReply lines last h = absurd h
  opened_reported count status.UnknownService lines last h = absurd h
  opened_reported count status.ReadFault lines last h = absurd h
  opened_reported count status.RequestTooLong lines last h = absurd h
  opened_reported count status.GraphRefused lines last h = absurd h
  opened_reported count status.FileTooLong lines last h = absurd h

-- the file's graph was served
pub graph_reported : (g : FileRead) (before after : DoorSeen) (address : List ℕ) (count : ℕ) (graph : List Triple) (s : Status) (lines last : List ℕ) → IsGraphOf g graph → IsServingReported before after (once_more before address) count graph s lines last → IsMemberReported g before after address count s lines last
graph_reported g before after address count graph status.Done lines last is h = (graph, is, h)
graph_reported g before after address count graph status.WriteFault lines last is h = (graph, is, h)
graph_reported g before after address count graph status.DoorFault lines last is h = (graph, is, h)
graph_reported g before after address count graph status.NoMemory lines last is h = inr (graph, is, h)
graph_reported g before after address count graph status.Usage lines last is h = absurd h
graph_reported g before after address count graph status.QueryRefused lines last is h = absurd h
graph_reported g before after address count graph status.RegistryRefused lines last is h = absurd h
graph_reported g before after address count graph status.EndpointFault lines last is h = absurd h
graph_reported g before after address count graph status.BadReply lines last is h = absurd h
graph_reported g before after address count graph status.UnknownService lines last is h = absurd h
graph_reported g before after address count graph status.ReadFault lines last is h = absurd h
graph_reported g before after address count graph status.RequestTooLong lines last is h = absurd h
graph_reported g before after address count graph status.GraphRefused lines last is h = absurd h
graph_reported g before after address count graph status.FileTooLong lines last is h = absurd h

-- the file gives no graph, and the door is left alone
pub no_graph_reported : (g : FileRead) (seen : DoorSeen) (address : List ℕ) (count : ℕ) (r : GraphRefusal) → GivesGraph g (Err r) → IsMemberReported g seen seen address count (graph_status r) [] (graph_line r g.name)
no_graph_reported g seen address count refusal.Fault h = (h, refl, refl, refl)
no_graph_reported g seen address count refusal.TooLong h = (h, refl, refl, refl)
no_graph_reported g seen address count (refusal.Refused (fault.Triples (error.BadUtf8 at))) h = (fault.Triples (error.BadUtf8 at), h, refl, refl, refl)
no_graph_reported g seen address count (refusal.Refused (fault.Triples (error.Bad l c))) h = (fault.Triples (error.Bad l c), h, refl, refl, refl)
no_graph_reported g seen address count (refusal.Refused (fault.Triples (error.Blank l c))) h = (fault.Triples (error.Blank l c), h, refl, refl, refl)
no_graph_reported g seen address count (refusal.Refused (fault.Triples (error.Relative l c))) h = (fault.Triples (error.Relative l c), h, refl, refl, refl)
no_graph_reported g seen address count (refusal.Refused (fault.Triples error.Memory)) h = inl (refl, refl, refl)
no_graph_reported g seen address count (refusal.Refused (fault.Turtle kind at)) h = (fault.Turtle kind at, h, refl, refl, refl)
no_graph_reported g seen address count refusal.Memory h = inl (refl, refl, refl)

-- ---- one connection

pub lost_one : (before after : DoorSeen) (left held : List ℕ) → IsTaken before.inputs after.inputs left held → after.outputs ≡ before.outputs → IsLost before after
lost_one before after left held taken o = record { unanswered = left ∷ []; few = omega arith; went_out = o; came_in = taken.first }

pub served_one : (graph : List Triple) (before after : DoorSeen) (input : List ℕ) (output : Output) (ending : Ending) → IsEnded graph input output ending → TakesOfRequest input output.left → before.inputs ≡ input ∷ after.inputs → after.outputs ≡ before.outputs ++ output ∷ [] → IsServedNext graph before after ending
served_one graph before after input output ending h w i o = record { visit = record { input = input; output = output; ending = ending }; is = (h, w); ended = refl; went_out = o; came_in = i }
