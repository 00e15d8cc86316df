use Rattle.std.proofs.Common.{refl, ap, ◌∙◌, ◌++◌, take_all}
use Rattle.fx_local.specs.Lines.{all_pieces}
use Rattle.fx_local.proofs.GainLemmas.{on_err, pieces_cut, pieces_part, pieces_whole}
use Rattle.fx_local.proofs.reports.write_pieces.Goals as goal

pub returns-in_err-write_all-clause-front : goal.returns-in_err-write_all-clause-front
returns-in_err-write_all-clause-front g c = λ told. pieces_cut _ _ _ _ c.args.pieces.now c.loop-piece.piece-index _ c.loop-piece-test.true refl (c.loop-piece.invariant.0 told) (c.in_err-write_all.ensures.front told)

pub returns-in_err-write_all-clause-part : goal.returns-in_err-write_all-clause-part
returns-in_err-write_all-clause-part g c = λ told. on_err c.from_residual.result _ (pieces_part _ _ _ _ c.args.pieces.now c.loop-piece.piece-index _ c.loop-piece-test.true refl (c.loop-piece.invariant.0 told) (c.in_err-write_all.ensures.part told))

pub returns-clause-front : goal.returns-clause-front
returns-clause-front g c = λ told. pieces_whole _ _ _ (c.loop-piece.invariant.0 told ∙ ap (λ pieces. g.E.Ends.held c.args.err.now ++ all_pieces pieces) (take_all c.loop-piece.piece-index c.args.pieces.now c.loop-piece-test.false))
