-- One connection, from the door and back.
use Rattle.std.proofs.Common.{◌≡◌, ◌∙◌, ap, sym, subst, refl, ℕ, List, [], ◌∷◌, ◌++◌, append-nil, append_assoc, arith, Ok, Err}
use Rattle.std.specs.Prelude.{IfErr, IfOk, IsTrue, Result}
use Rattle.std.proofs.lemmas.List.Elements.{All-cons, All-nil}
use Rattle.fx_outside.specs.Doors.{DoorSeen, IsTaken, output_of}
use Rattle.fx_outside.specs.Endpoints.{EndpointParts}
use Rattle.fx_outside.specs.declared.doors.DoorError.{DoorError}
use Rattle.fx_outside.specs.declared.doors.DoorError.TheVariants as door
use Rattle.fx_gateway.specs.Connected.{LinkSeen}
use Rattle.fx_gateway.specs.declared.connections.GateError.{GateError}
use Rattle.fx_gateway.specs.declared.connections.GateError.TheVariants as error
use Rattle.fx_gateway.specs.declared.connections.Gated.{Gated}
use Rattle.fx_local.specs.Serving.{ending_line}
use Rattle.fx_local.specs.declared.serving.Ending.TheVariants.{Replied, ReadFault, WriteFault}
use Rattle.fx_serve.specs.Connections.{IsFresh, Known, Members, WasServed, asked_between, connection, gated_lines}
use Rattle.fx_serve.specs.Steps.{HasLines, IsLost, IsNoted, IsServedNext}
use Rattle.fx_serve.specs.declared.serving.Served.{Served}
use Rattle.fx_serve.proofs.ConnectionLemmas.{none_came, served_one}

-- ---- lines

pub replied_lines : (es : List EndpointParts) (gated : Gated) (served : Served) → served.ending ≡ Replied gated.status → served.lines.items ≡ gated_lines es gated → HasLines es (Ok gated) served
replied_lines es gated served e l number = ap (λ v. ending_line number (Replied gated.status) ++ v) (sym l) ∙ ap (λ v. ending_line number v ++ served.lines.items) (sym e)

pub cut_lines : (es : List EndpointParts) (gated : Gated) (served : Served) → served.ending ≡ WriteFault → served.lines.items ≡ gated_lines es gated → HasLines es (Err (error.WriteFault gated)) served
cut_lines es gated served e l number = ap (λ v. ending_line number WriteFault ++ v) (sym l) ∙ ap (λ v. ending_line number v ++ served.lines.items) (sym e)

pub unread_lines : (es : List EndpointParts) (served : Served) → served.ending ≡ ReadFault → served.lines.items ≡ [] → HasLines es (Err error.ReadFault) served
unread_lines es served e l number = sym (append-nil (ending_line number ReadFault)) ∙ ap (λ v. ending_line number ReadFault ++ v) (sym l) ∙ ap (λ v. ending_line number v ++ served.lines.items) (sym e)

-- the pieces that are written, one behind the other
pub pieces_are : (a d b t lines : List ℕ) → a ++ (d ++ (b ++ (t ++ (10 ∷ (lines ++ []))))) ≡ (a ++ (d ++ (b ++ (t ++ 10 ∷ [])))) ++ lines
pieces_are a d b t lines =
    ap (λ v. a ++ (d ++ (b ++ (t ++ 10 ∷ v)))) (append-nil lines)
    ∙ sym
    (append_assoc a (d ++ (b ++ (t ++ 10 ∷ []))) lines
    ∙ ap (λ v. a ++ v) (append_assoc d (b ++ (t ++ 10 ∷ [])) lines)
    ∙ ap (λ v. a ++ (d ++ v)) (append_assoc b (t ++ 10 ∷ []) lines)
    ∙ ap (λ v. a ++ (d ++ (b ++ v))) (append_assoc t (10 ∷ []) lines))

-- as `noted` gives them
module _ (es members : List EndpointParts) (gated : Gated) (result : Result Served DoorError) (same : es ≡ members) (memory : IfErr result (λ e. e ≡ door.Memory)) where
  pub replied_noted : IfOk result (λ served. (served.ending ≡ Replied gated.status) × (served.lines.items ≡ gated_lines es gated)) → IsNoted members (Ok gated) result
  replied_noted h = noted result h memory
    where
      noted : (r : Result Served DoorError) → IfOk r (λ served. (served.ending ≡ Replied gated.status) × (served.lines.items ≡ gated_lines es gated)) → IfErr r (λ e. e ≡ door.Memory) → IsNoted members (Ok gated) r
      noted (Ok served) h m = ((λ is. cc), subst (λ (at : List EndpointParts). HasLines at (Ok gated) served) same (replied_lines es gated served h.0 h.1))
      noted (Err e) h m = subst (λ (e : DoorError). IsNoted members (Ok gated) (Err e)) (sym m) tt

  pub cut_noted : IfOk result (λ served. (served.ending ≡ WriteFault) × (served.lines.items ≡ gated_lines es gated)) → IsNoted members (Err (error.WriteFault gated)) result
  cut_noted h = noted result h memory
    where
      noted : (r : Result Served DoorError) → IfOk r (λ served. (served.ending ≡ WriteFault) × (served.lines.items ≡ gated_lines es gated)) → IfErr r (λ e. e ≡ door.Memory) → IsNoted members (Err (error.WriteFault gated)) r
      noted (Ok served) h m = ((λ is. cc), subst (λ (at : List EndpointParts). HasLines at (Err (error.WriteFault gated)) served) same (cut_lines es gated served h.0 h.1))
      noted (Err e) h m = subst (λ (e : DoorError). IsNoted members (Err (error.WriteFault gated)) (Err e)) (sym m) tt

pub unread_noted : (es : List EndpointParts) (served : Served) → served.ending ≡ ReadFault → served.lines.items ≡ [] → IsNoted es (Err error.ReadFault) (Ok served)
unread_noted es served e l = ((λ is. cc), unread_lines es served e l)

-- ---- the door

-- nothing was taken
pub lost_before : (m : Members) (before after : DoorSeen) (now : Known) → (IsTrue before.tells → after.outputs ≡ before.outputs) → (IsTrue before.tells → after.inputs ≡ before.inputs) → IsLost m before after now now
lost_before m before after now o i = record {
  lost = [];
  few = omega arith;
  served = refl;
  unanswered = [];
  few_inputs = omega arith;
  come = λ t. none_came before after (o t) (i t);
}

module _ (m : Members) (before after : DoorSeen) (now later : Known) (from to : LinkSeen) (given : Result Gated GateError) (was : WasServed (asked_between m now later) (connection from to given later)) where
  -- a connection was taken, and wasn't ended
  pub lost_one : (IsTrue before.tells → IsTaken before.inputs after.inputs from.left from.held) → (IsTrue before.tells → after.outputs ≡ before.outputs) → IsLost m before after now later
  lost_one taken o = record {
    lost = connection from to given later ∷ [];
    few = omega arith;
    served = served_one m now later (connection from to given later) was refl;
    unanswered = from.left ∷ [];
    few_inputs = omega arith;
    come = λ t. record { fresh = All-nil IsFresh; went_out = o t ∙ sym (append-nil before.outputs); came_in = (taken t).first };
  }

  -- it was served and ended
  pub next_one : (served : Served) → (given ≡ Err error.Memory → ⊥) → HasLines m.endpoints given served
      → (IsTrue before.tells → IsFresh (connection from to given later)) → (IsTrue before.tells → before.inputs ≡ from.left ∷ after.inputs)
      → (IsTrue before.tells → after.outputs ≡ before.outputs ++ output_of to.held to.left to.read_faults to.write_faults ∷ []) → IsServedNext m before after now later served
  next_one served replied lines fresh i o = record {
    connection = connection from to given later;
    was = was;
    behind = refl;
    replied = replied;
    lines = lines;
    come = λ t. record { fresh = All-cons IsFresh (connection from to given later) [] (fresh t) (All-nil IsFresh); went_out = o t; came_in = i t };
  }
