use Rattle.fx_serve.specs.Connections.{known_of, members_of}
use Rattle.fx_serve.proofs.ServingLemmas.{IsServedSo}
use Rattle.fx_serve.proofs.serving.serve_connections.Given as goal

abbrev pub invariant-loop-number : goal.invariant-loop-number
invariant-loop-number g l =
    IsServedSo (members_of g.W.Wire l.service.members.now l.service.asked.block) (known_of g.W.Wire l.initial.wires l.initial.cache) (known_of g.W.Wire l.wires l.cache)
    (g.D.Door.seen l.initial.door) (g.D.Door.seen l.door) g.E.Ends.tells_held (g.E.Ends.held l.initial.err) (g.E.Ends.held l.err) (g.E.Ends.write_faults l.initial.err) (g.E.Ends.write_faults l.err) l.number
