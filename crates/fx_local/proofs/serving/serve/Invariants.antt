use Rattle.fx_local.proofs.ServingLemmas.{IsServedSo}
use Rattle.fx_local.proofs.serving.serve.Given as goal

abbrev pub invariant-loop-number : goal.invariant-loop-number
invariant-loop-number g l =
    IsServedSo l.store (g.D.Door.seen l.initial.door) (g.D.Door.seen l.door) g.E.Ends.tells_held (g.E.Ends.held l.initial.err) (g.E.Ends.held l.err) (g.E.Ends.write_faults l.initial.err) (g.E.Ends.write_faults l.err) l.number
