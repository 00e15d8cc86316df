-- Serving connections in turn, and how it ends.
use Rattle.std.proofs.Common.{◌≡◌, ◌∙◌, ap, sym, subst, refl, ℕ, Bool, ◌+◌, ◌<◌, ◌≤◌, List, [], ◌∷◌, ◌++◌, map, length, length-append, append_assoc, append-nil, arith, Ok, Err, inl, inr}
use Rattle.std.specs.Prelude.{◌⊎◌, All, IsTrue}
use Rattle.std.proofs.lemmas.List.{length-map}
use Rattle.std.proofs.lemmas.List.Elements.{All-append, All-cons, All-nil}
use Rattle.fx_outside.specs.Doors.{DoorSeen}
use Rattle.fx_outside.specs.declared.doors.DoorError.{DoorError}
use Rattle.fx_outside.specs.declared.doors.DoorError.TheVariants as door
use Rattle.fx_outcomes.specs.Outcomes.{AllTell}
use Rattle.fx_local.specs.Lines.{cannot_serve, no_memory}
use Rattle.fx_local.specs.Serving.{IsOpen, IsShut, ending_line, once_more}
use Rattle.fx_local.specs.ServingSteps.{end_line, end_status}
use Rattle.fx_local.specs.declared.statuses.Status.{Status}
use Rattle.fx_local.specs.declared.statuses.Status.TheVariants as status
use Rattle.fx_serve.specs.Connections.{AreServed, Come, Connection, HaveCome, IsReplied, Known, Members, known, lines_from, lines_of}
use Rattle.fx_serve.specs.Serving.{IsCut, IsDone, IsServingReported, IsUnwritten}
use Rattle.fx_serve.specs.Steps.{GivesServed}
use Rattle.fx_serve.specs.declared.serving.Served.{Served}
use Rattle.fx_traffic.specs.Gains.{AreAfter}
use Rattle.fx_pool.proofs.WiresLemmas.{as_many}
use Rattle.fx_sources.specs.Probes.{Entry}
use Rattle.fx_wire.specs.Exchanges.{Seen}
use Rattle.fx_serve.proofs.ToldLemmas.{wires_after}
use Rattle.fx_serve.proofs.ConnectionLemmas.{come_cut, come_from, come_then, lines_more, none_came, served_one, served_then, were_served}

-- ---- the loop

-- so many connections were served, each with its lines, and no write failed
pub record IsServedSo (m : Members) (first now : Known) (before at : DoorSeen) (is_told : Bool) (held_before held : List ℕ) (faults_before faults number : ℕ) : Type 0 where
  pub connections : List Connection
  pub count : length connections ≡ number
  pub served : AreServed m first connections now
  pub replied : All IsReplied connections
  pub come : Come before at connections []
  pub started : IsTrue before.tells → at.started ≡ before.started
  pub unfailed : at.faults ≡ before.faults
  pub lines : IsTrue is_told → held ≡ held_before ++ lines_from m.endpoints 1 connections
  pub faultless : faults ≡ faults_before

module _ (m : Members) (first : Known) (before : DoorSeen) (is_told : Bool) (held_before : List ℕ) (faults_before : ℕ) where
  pub begin : IsServedSo m first first before before is_told held_before held_before faults_before faults_before 0
  begin = record {
    connections = [];
    count = refl;
    served = refl;
    replied = All-nil IsReplied;
    come = λ _. none_came before before refl refl;
    started = λ _. refl;
    unfailed = refl;
    lines = λ _. sym (append-nil held_before);
    faultless = refl;
  }

  module _ (now later : Known) (mid after : DoorSeen) (held : List ℕ) (faults number : ℕ) (so : IsServedSo m first now before mid is_told held_before held faults_before faults number) (same : mid.tells ≡ before.tells) where
    told : IsTrue before.tells → IsTrue mid.tells
    told t = subst IsTrue (sym same) t

    module _ (served : Served) (h : GivesServed m mid after now later (Ok served)) where
      -- with one more
      abbrev more : List Connection
      more = so.connections ++ h.connection ∷ []

      served_more : AreServed m first more later
      served_more = served_then m first now later so.connections (h.connection ∷ []) so.served (served_one m now later h.connection h.was h.behind)

      replied_more : All IsReplied more
      replied_more = All-append IsReplied so.connections (h.connection ∷ []) so.replied (All-cons IsReplied h.connection [] h.replied (All-nil IsReplied))

      come_more : Come before after more []
      come_more t = come_then before mid after so.connections (h.connection ∷ []) [] (so.come t) (h.come (told t))

      lines_are : lines_of m.endpoints (number + 1) h.connection.given ≡ ending_line (number + 1) served.ending ++ served.lines.items
      lines_are = h.lines (number + 1)

      pub next : (held_after : List ℕ) (faults_after : ℕ) → (IsTrue mid.tells → after.started ≡ mid.started) → after.faults ≡ mid.faults → (IsTrue is_told → held_after ≡ held ++ (ending_line (number + 1) served.ending ++ served.lines.items)) → faults_after ≡ faults
          → IsServedSo m first later before after is_told held_before held_after faults_before faults_after (number + 1)
      next held_after faults_after s k w f = record {
        connections = more;
        count = length-append so.connections (h.connection ∷ []) ∙ omega (arith, so.count);
        served = served_more;
        replied = replied_more;
        come = come_more;
        started = λ t. s (told t) ∙ so.started t;
        unfailed = k ∙ so.unfailed;
        lines = λ t.
            w t
            ∙ ap (λ v. held ++ v) (sym lines_are)
            ∙ ap (λ v. v ++ lines_of m.endpoints (number + 1) h.connection.given) (so.lines t)
            ∙ append_assoc held_before (lines_from m.endpoints 1 so.connections) (lines_of m.endpoints (number + 1) h.connection.given)
            ∙ ap (λ v. held_before ++ v) (sym (lines_more m.endpoints 1 (number + 1) so.connections h.connection (omega (arith, so.count))));
        faultless = f ∙ so.faultless;
      }

      -- its lines could not be written
      pub unwritten : (total : ℕ) → number < total → AllTell m.tells first.wires → (IsTrue mid.tells → after.started ≡ mid.started)
          → IsUnwritten m before after before.started total first later (lines_from m.endpoints 1 so.connections) (ending_line (number + 1) served.ending ++ served.lines.items)
      unwritten total below alike s = record {
        connections = so.connections;
        unwritten = h.connection;
        served = were_served m first later later more [] alike served_more replied_more refl (omega arith);
        come = come_more;
        opened = λ t. s (told t) ∙ so.started t;
        many = omega (arith, so.count, below);
        each_has_lines = refl;
        its_lines = sym lines_are ∙ ap (λ (n : ℕ). lines_of m.endpoints (n + 1) h.connection.given) (sym so.count);
      }

    -- the door did nothing, or memory ran out
    pub cut : (e : DoorError) → GivesServed m mid after now later (Err e) → (total : ℕ) → number < total → AllTell m.tells first.wires → (IsTrue mid.tells → after.started ≡ mid.started) → (last : List ℕ)
        → IsCut m before after before.started total first later last (lines_from m.endpoints 1 so.connections) last
    cut e h total below alike s last = record {
      connections = so.connections;
      lost = h.lost;
      served = were_served m first now later so.connections h.lost alike so.served so.replied h.served h.few;
      stopped = λ t. record {
        unanswered = h.unanswered;
        come = come_cut before mid after so.connections h.unanswered (so.come t) (h.come (told t));
        few = h.few_inputs;
        within = omega (arith, so.count, below, h.few_inputs);
        opened = inl (s (told t) ∙ so.started t);
      };
      many = omega (arith, so.count, below);
      each_has_lines = refl;
      last_line = refl;
    }

  -- all were served
  pub done : (now : Known) (after : DoorSeen) (held : List ℕ) (faults number : ℕ) → (so : IsServedSo m first now before after is_told held_before held faults_before faults number) → (total : ℕ) → number ≡ total → AllTell m.tells first.wires
      → IsDone m before after before.started total first now (lines_from m.endpoints 1 so.connections) []
  done now after held faults number so total is alike = record {
    connections = so.connections;
    served = were_served m first now now so.connections [] alike so.served so.replied refl (omega arith);
    come = so.come;
    opened = so.started;
    many = so.count ∙ is;
    each_has_lines = refl;
    no_more = refl;
  }

-- as many wires as before
pub still_wired : {W : Type 0} (see : W → Seen) (m : Members) (old new : List Entry) (wires later : List W) (cs : List Connection) → AllTell m.tells (map see wires) → AreServed m (known (map see wires) old) cs (known (map see later) new)
    → (0 < length wires) × (length wires ≤ 16) → (0 < length later) × (length later ≤ 16)
still_wired see m old new wires later cs alike h few =
    let after = wires_after m (known (map see wires) old) (known (map see later) new) cs alike h in
    let same : length later ≡ length wires = sym (length-map later see) ∙ as_many (map see wires) (map see later) after ∙ length-map wires see in
    (omega (arith, same, few.0), omega (arith, same, few.1))

-- what was served leaves wires as exchanges leave them
pub report_after : (m : Members) (before after : DoorSeen) (addresses : List (List ℕ)) (count : ℕ) (first last : Known) (s : Status) (lines behind : List ℕ) → AllTell m.tells first.wires → IsServingReported m before after addresses count first last s lines behind → AreAfter first.wires last.wires
report_after m before after addresses count first last status.Done lines behind alike h = wires_after m first last (h.connections ++ []) alike h.served.served
report_after m before after addresses count first last status.WriteFault lines behind alike h = wires_after m first last ((h.connections ++ h.unwritten ∷ []) ++ []) alike h.served.served
report_after m before after addresses count first last status.DoorFault lines behind alike h = wires_after m first last (h.1.connections ++ h.1.lost) alike h.1.served.served
report_after m before after addresses count first last status.NoMemory lines behind alike h = wires_after m first last (h.connections ++ h.lost) alike h.served.served
report_after m before after addresses count first last status.Usage lines behind alike h = absurd h
report_after m before after addresses count first last status.QueryRefused lines behind alike h = absurd h
report_after m before after addresses count first last status.RegistryRefused lines behind alike h = absurd h
report_after m before after addresses count first last status.EndpointFault lines behind alike h = absurd h
report_after m before after addresses count first last status.BadReply lines behind alike h = absurd h
report_after m before after addresses count first last status.UnknownService lines behind alike h = absurd h
report_after m before after addresses count first last status.ReadFault lines behind alike h = absurd h
report_after m before after addresses count first last status.RequestTooLong lines behind alike h = absurd h
report_after m before after addresses count first last status.GraphRefused lines behind alike h = absurd h
report_after m before after addresses count first last status.FileTooLong lines behind alike h = absurd h

-- ---- statuses

pub ended : (m : Members) (before after : DoorSeen) (addresses : List (List ℕ)) (count : ℕ) (first last : Known) (e : DoorError) (lines behind : List ℕ) → (e ≡ door.Failed → before.faults < after.faults) → IsCut m before after addresses count first last (end_line e) lines behind
    → IsServingReported m before after addresses count first last (end_status e) lines behind
ended m before after addresses count first last door.Failed lines behind f cut = (f refl, cut)
ended m before after addresses count first last door.Memory lines behind f cut = cut

-- a door that could not be opened
pub not_opened : (m : Members) (before after : DoorSeen) (addresses : List (List ℕ)) (count : ℕ) (first : Known) (line : List ℕ) → AllTell m.tells first.wires
    → (IsTrue before.tells → after.started ≡ before.started) → (IsTrue before.tells → after.outputs ≡ before.outputs) → (IsTrue before.tells → after.inputs ≡ before.inputs)
    → IsCut m before after addresses count first first line [] line
not_opened m before after addresses count first line alike s o i = record {
  connections = [];
  lost = [];
  served = were_served m first first first [] [] alike refl (All-nil IsReplied) refl (omega arith);
  stopped = λ t. record {
    unanswered = [];
    come = none_came before after (o t) (i t);
    few = omega arith;
    within = omega arith;
    opened = inr (record { started = s t; outputs = o t; inputs = i t });
  };
  many = omega arith;
  each_has_lines = refl;
  last_line = refl;
}

-- a door that was opened, and where members were served then
module _ (m : Members) (before mid after : DoorSeen) (address : List ℕ) (first last : Known) (tells : IsTrue before.tells → IsTrue mid.tells) (s : IsTrue before.tells → mid.started ≡ once_more before address) (o : IsTrue before.tells → mid.outputs ≡ before.outputs) (i : IsTrue before.tells → mid.inputs ≡ before.inputs) (k : before.faults ≤ mid.faults) where
  opened_come : (cs : List Connection) (unanswered : List (List ℕ)) → IsTrue before.tells → HaveCome mid after cs unanswered → HaveCome before after cs unanswered
  opened_come cs unanswered t h = come_from before mid after cs unanswered (o t) (i t) h

  is_open : IsTrue before.tells → IsOpen after mid.started → IsOpen after (once_more before address)
  is_open t here = here ∙ s t

  was_open : IsTrue before.tells → IsOpen after mid.started ⊎ IsShut mid after → IsOpen after (once_more before address)
  was_open t (inl here) = is_open t here
  was_open t (inr shut) = is_open t shut.started

  cut_from : (count : ℕ) (line lines behind : List ℕ) → IsCut m mid after mid.started count first last line lines behind → IsCut m before after (once_more before address) count first last line lines behind
  cut_from count line lines behind h = record {
    connections = h.connections;
    lost = h.lost;
    served = h.served;
    stopped = λ t.
        let at = h.stopped (tells t) in
        record {
          unanswered = at.unanswered;
          come = opened_come h.connections at.unanswered t at.come;
          few = at.few;
          within = at.within;
          opened = inl (was_open t at.opened);
        };
    many = h.many;
    each_has_lines = h.each_has_lines;
    last_line = h.last_line;
  }

  pub opened_reported : (count : ℕ) (e : Status) (lines behind : List ℕ) → IsServingReported m mid after mid.started count first last e lines behind → IsServingReported m before after (once_more before address) count first last e lines behind
  opened_reported count status.Done lines behind h = record {
    connections = h.connections;
    served = h.served;
    come = λ t. opened_come h.connections [] t (h.come (tells t));
    opened = λ t. is_open t (h.opened (tells t));
    many = h.many;
    each_has_lines = h.each_has_lines;
    no_more = h.no_more;
  }
  opened_reported count status.WriteFault lines behind h = record {
    connections = h.connections;
    unwritten = h.unwritten;
    served = h.served;
    come = λ t. opened_come (h.connections ++ h.unwritten ∷ []) [] t (h.come (tells t));
    opened = λ t. is_open t (h.opened (tells t));
    many = h.many;
    each_has_lines = h.each_has_lines;
    its_lines = h.its_lines;
  }
  opened_reported count status.DoorFault lines behind h = (omega (arith, h.0), cut_from count cannot_serve lines behind h.1)
  opened_reported count status.NoMemory lines behind h = cut_from count no_memory lines behind h
  opened_reported count status.Usage lines behind h = absurd h
  opened_reported count status.QueryRefused lines behind h = absurd h
  opened_reported count status.RegistryRefused lines behind h = absurd h
  opened_reported count status.EndpointFault lines behind h = absurd h
  opened_reported count status.BadReply lines behind h = absurd h
  opened_reported count status.UnknownService lines behind h = absurd h
  opened_reported count status.ReadFault lines behind h = absurd h
  opened_reported count status.RequestTooLong lines behind h = absurd h
  opened_reported count status.GraphRefused lines behind h = absurd h
  opened_reported count status.FileTooLong lines behind h = absurd h
