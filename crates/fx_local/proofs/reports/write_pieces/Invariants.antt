use Rattle.std.proofs.Common.{◌≡◌, ◌++◌, take}
use Rattle.std.specs.Prelude.{IsTrue}
use Rattle.fx_local.specs.Lines.{all_pieces}
use Rattle.fx_local.proofs.reports.write_pieces.Given as goal

abbrev pub invariant-loop-piece : goal.invariant-loop-piece
invariant-loop-piece g l = (IsTrue g.E.Ends.tells_held → g.E.Ends.held l.err ≡ g.E.Ends.held l.initial.err ++ all_pieces (take l.piece-index l.pieces)) × (g.E.Ends.write_faults l.err ≡ g.E.Ends.write_faults l.initial.err)
