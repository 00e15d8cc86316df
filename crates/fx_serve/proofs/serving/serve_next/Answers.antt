use Rattle.std.proofs.Common.{◌≡◌, ◌∙◌, ap, sym, subst, [], ◌∷◌, ◌++◌, Err, arith}
use Rattle.std.proofs.lemmas.Result.{err_from_is_err_and}
use Rattle.std.specs.Prelude.{IsTrue, Result}
use Rattle.fx_outside.specs.declared.doors.DoorError.{DoorError}
use Rattle.fx_serve.specs.Steps.{GivesServed}
use Rattle.fx_serve.specs.declared.serving.Served.{Served}
use Rattle.fx_outside.proofs.AlikeLemmas.{alike}
use Rattle.fx_outside.specs.declared.doors.DoorError.TheVariants as door
use Rattle.fx_outside.specs.Doors.{output_of}
use Rattle.fx_gateway.specs.Connected.{link_seen}
use Rattle.fx_serve.specs.Connections.{known_of, members_of}
use Rattle.fx_serve.proofs.StepLemmas.{lost_before, lost_one, next_one}
use Rattle.fx_serve.proofs.serving.serve_next.Goals as goal

pub returns-in_err-conn-clause-served : goal.returns-in_err-conn-clause-served
returns-in_err-conn-clause-served g c =
    let m = members_of g.W.Wire c.args.service.members.now c.args.service.asked.block in
    let before = g.D.Door.seen c.args.door.now in
    let after = g.D.Door.seen c.accept.new.self in
    let now = known_of g.W.Wire c.args.wires.now c.args.cache.now in
    let p = err_from_is_err_and c.from_residual.result c.from_residual.ensures.1 in
    subst (λ (r : Result Served DoorError). GivesServed m before after now now r) (sym p.1) (lost_before m before after now c.in_err-conn.ensures.outputs c.in_err-conn.ensures.untaken)

pub returns-in-Err-clause-served : goal.returns-in-Err-clause-served
returns-in-Err-clause-served g c =
    let given = c.serve_conn.ensures.served in
    lost_one (members_of g.W.Wire c.args.service.members.now c.args.service.asked.block) (g.D.Door.seen c.args.door.now) (g.D.Door.seen c.accept.new.self) (known_of g.W.Wire c.args.wires.now c.args.cache.now) (known_of g.W.Wire c.serve_conn.new.wires c.serve_conn.new.cache)
    (link_seen g.D.Conn.Ends c.in_ok-conn.conn) (link_seen g.D.Conn.Ends c.serve_conn.new.conn) given.0 given.1
    (λ tells. (c.in_ok-conn.ensures.taken tells).1.1) (λ tells. c.in_ok-conn.ensures.outputs tells)

pub returns-in-Err-finish-clause-served : goal.returns-in-Err-finish-clause-served
returns-in-Err-finish-clause-served g c =
    let given = c.serve_conn.ensures.served in
    let later : IsTrue (g.D.Door.seen c.args.door.now).tells → IsTrue (g.D.Door.seen c.accept.new.self).tells = λ tells. subst IsTrue (alike g.met.D.Door.told c.args.door.now c.accept.new.self) tells in
    lost_one (members_of g.W.Wire c.args.service.members.now c.args.service.asked.block) (g.D.Door.seen c.args.door.now) (g.D.Door.seen c.finish.new.self) (known_of g.W.Wire c.args.wires.now c.args.cache.now) (known_of g.W.Wire c.serve_conn.new.wires c.serve_conn.new.cache)
    (link_seen g.D.Conn.Ends c.in_ok-conn.conn) (link_seen g.D.Conn.Ends c.serve_conn.new.conn) given.0 given.1
    (λ tells. record { first = (c.in_ok-conn.ensures.taken tells).1.1.first ∙ ap (λ is. g.D.Conn.Ends.left c.in_ok-conn.conn ∷ is) (sym (c.in-Err-finish.ensures.inputs (later tells))); empty = (c.in_ok-conn.ensures.taken tells).1.1.empty })
    (λ tells. c.in-Err-finish.ensures.unended (later tells) ∙ c.in_ok-conn.ensures.outputs tells)

pub returns-in-Ok-finish-clause-served : goal.returns-in-Ok-finish-clause-served
returns-in-Ok-finish-clause-served g c =
    let given = c.in-Ok.ensures.served in
    let later : IsTrue (g.D.Door.seen c.args.door.now).tells → IsTrue (g.D.Door.seen c.accept.new.self).tells = λ tells. subst IsTrue (alike g.met.D.Door.told c.args.door.now c.accept.new.self) tells in
    next_one (members_of g.W.Wire c.args.service.members.now c.args.service.asked.block) (g.D.Door.seen c.args.door.now) (g.D.Door.seen c.finish.new.self) (known_of g.W.Wire c.args.wires.now c.args.cache.now) (known_of g.W.Wire c.serve_conn.new.wires c.serve_conn.new.cache)
    (link_seen g.D.Conn.Ends c.in_ok-conn.conn) (link_seen g.D.Conn.Ends c.serve_conn.new.conn) given.0 given.1
    c.in-Ok.served given.2.0 given.2.1
    (λ tells. let taken = c.in_ok-conn.ensures.taken tells in record { tells_left = taken.0; tells_held = taken.1.0; empty = taken.1.1.empty; unread = c.in_ok-conn.ensures.faultless_connection.0; unwritten = c.in_ok-conn.ensures.faultless_connection.1 })
    (λ tells. (c.in_ok-conn.ensures.taken tells).1.1.first ∙ ap (λ is. g.D.Conn.Ends.left c.in_ok-conn.conn ∷ is) (sym (c.in-Ok-finish.ensures.inputs (later tells))))
    (λ tells. c.in-Ok-finish.ensures.ended (later tells) ∙ ap (λ os. os ++ output_of (g.D.Conn.Ends.held c.serve_conn.new.conn) (g.D.Conn.Ends.left c.serve_conn.new.conn) (g.D.Conn.Ends.read_faults c.serve_conn.new.conn) (g.D.Conn.Ends.write_faults c.serve_conn.new.conn) ∷ []) (c.in_ok-conn.ensures.outputs tells))

pub returns-in-Err-finish-clause-counted : goal.returns-in-Err-finish-clause-counted
returns-in-Err-finish-clause-counted g c = λ is.
    let same : c.in-Err-finish.error ≡ door.Failed = cc in
    omega (arith, c.in_ok-conn.ensures.faultless (λ failed. cc), c.in-Err-finish.ensures.counted (ap Err same))

pub returns-in-Err-finish-clause-faultless : goal.returns-in-Err-finish-clause-faultless
returns-in-Err-finish-clause-faultless g c = λ not.
    c.in-Err-finish.ensures.faultless (λ is. let same : c.in-Err-finish.error ≡ door.Failed = cc in not (ap Err same)) ∙ c.in_ok-conn.ensures.faultless (λ failed. cc)

pub returns-in-Ok-finish-clause-faultless : goal.returns-in-Ok-finish-clause-faultless
returns-in-Ok-finish-clause-faultless g c = λ not. c.in-Ok-finish.ensures.faultless (λ failed. cc) ∙ c.in_ok-conn.ensures.faultless (λ failed. cc)

pub returns-in-Err-finish-clause-started : goal.returns-in-Err-finish-clause-started
returns-in-Err-finish-clause-started g c = λ tells.
    c.in-Err-finish.ensures.started (subst IsTrue (alike g.met.D.Door.told c.args.door.now c.accept.new.self) tells) ∙ c.in_ok-conn.ensures.started tells

pub returns-in-Ok-finish-clause-started : goal.returns-in-Ok-finish-clause-started
returns-in-Ok-finish-clause-started g c = λ tells.
    c.in-Ok-finish.ensures.started (subst IsTrue (alike g.met.D.Door.told c.args.door.now c.accept.new.self) tells) ∙ c.in_ok-conn.ensures.started tells
