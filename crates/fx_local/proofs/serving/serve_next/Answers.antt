use Rattle.std.proofs.Common.{◌≡◌, ◌∙◌, ap, sym, subst, [], ◌∷◌, ◌++◌, Err, arith}
use Rattle.std.specs.Prelude.{IsTrue}
use Rattle.fx_outside.proofs.AlikeLemmas.{alike}
use Rattle.fx_outside.specs.declared.doors.DoorError.TheVariants as door
use Rattle.fx_outside.specs.Doors.{output_of}
use Rattle.fx_local.proofs.ServingLemmas.{lost_one, served_one}
use Rattle.fx_local.proofs.serving.serve_next.Goals as goal

pub returns-in-Err-clause-ended : goal.returns-in-Err-clause-ended
returns-in-Err-clause-ended g c = λ tells.
    lost_one (g.D.Door.seen c.args.door.now) (g.D.Door.seen c.accept.new.self) _ _ (c.in_ok-conn.ensures.taken tells).1.1 (c.in_ok-conn.ensures.outputs tells)

pub returns-in-Err-finish-clause-ended : goal.returns-in-Err-finish-clause-ended
returns-in-Err-finish-clause-ended g c = λ tells.
    let later = subst IsTrue (alike g.met.D.Door.told c.args.door.now c.accept.new.self) tells in
    lost_one (g.D.Door.seen c.args.door.now) (g.D.Door.seen c.finish.new.self) _ _ (record { first = (c.in_ok-conn.ensures.taken tells).1.1.first ∙ ap (λ is. g.D.Conn.Ends.left c.in_ok-conn.conn ∷ is) (sym (c.in-Err-finish.ensures.inputs later)); empty = (c.in_ok-conn.ensures.taken tells).1.1.empty }) (c.in-Err-finish.ensures.unended later ∙ c.in_ok-conn.ensures.outputs tells)

pub returns-in-Ok-finish-clause-ended : goal.returns-in-Ok-finish-clause-ended
returns-in-Ok-finish-clause-ended g c = λ tells.
    let taken = c.in_ok-conn.ensures.taken tells in
    let later = subst IsTrue (alike g.met.D.Door.told c.args.door.now c.accept.new.self) tells in
    served_one c.args.store.now (g.D.Door.seen c.args.door.now) (g.D.Door.seen c.finish.new.self) _ (output_of (g.D.Conn.Ends.held c.serve_conn.new.conn) (g.D.Conn.Ends.left c.serve_conn.new.conn) (g.D.Conn.Ends.read_faults c.serve_conn.new.conn) (g.D.Conn.Ends.write_faults c.serve_conn.new.conn)) c.in-Ok.ending
    (c.in-Ok.ensures.ended taken.0 taken.1.0 taken.1.1.empty c.in_ok-conn.ensures.faultless_connection.0 c.in_ok-conn.ensures.faultless_connection.1) (c.serve_conn.ensures.within taken.0)
    (taken.1.1.first ∙ ap (λ is. g.D.Conn.Ends.left c.in_ok-conn.conn ∷ is) (sym (c.in-Ok-finish.ensures.inputs later)))
    (c.in-Ok-finish.ensures.ended later ∙ ap (λ os. os ++ output_of (g.D.Conn.Ends.held c.serve_conn.new.conn) (g.D.Conn.Ends.left c.serve_conn.new.conn) (g.D.Conn.Ends.read_faults c.serve_conn.new.conn) (g.D.Conn.Ends.write_faults c.serve_conn.new.conn) ∷ []) (c.in_ok-conn.ensures.outputs tells))

pub returns-in-Err-finish-clause-counted : goal.returns-in-Err-finish-clause-counted
returns-in-Err-finish-clause-counted g c = λ is.
    let same : c.in-Err-finish.error ≡ door.Failed = cc in
    omega (arith, c.in_ok-conn.ensures.faultless (λ failed. cc), c.in-Err-finish.ensures.counted (ap Err same))

pub returns-in-Err-finish-clause-faultless : goal.returns-in-Err-finish-clause-faultless
returns-in-Err-finish-clause-faultless g c = λ not.
    c.in-Err-finish.ensures.faultless (λ is. let same : c.in-Err-finish.error ≡ door.Failed = cc in not (ap Err same)) ∙ c.in_ok-conn.ensures.faultless (λ failed. cc)

pub returns-in-Ok-finish-clause-faultless : goal.returns-in-Ok-finish-clause-faultless
returns-in-Ok-finish-clause-faultless g c = λ not. c.in-Ok-finish.ensures.faultless (λ failed. cc) ∙ c.in_ok-conn.ensures.faultless (λ failed. cc)

pub returns-in-Err-finish-clause-started : goal.returns-in-Err-finish-clause-started
returns-in-Err-finish-clause-started g c = λ tells.
    c.in-Err-finish.ensures.started (subst IsTrue (alike g.met.D.Door.told c.args.door.now c.accept.new.self) tells) ∙ c.in_ok-conn.ensures.started tells

pub returns-in-Ok-finish-clause-started : goal.returns-in-Ok-finish-clause-started
returns-in-Ok-finish-clause-started g c = λ tells.
    c.in-Ok-finish.ensures.started (subst IsTrue (alike g.met.D.Door.told c.args.door.now c.accept.new.self) tells) ∙ c.in_ok-conn.ensures.started tells
