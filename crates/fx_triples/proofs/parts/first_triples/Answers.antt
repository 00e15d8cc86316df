use Rattle.std.proofs.Common.{sym, ◌∙◌, refl}
use Rattle.fx_triples.proofs.TripleLaws.{opened_by_select, opened_otherwise}
use Rattle.fx_triples.proofs.parts.first_triples.Goals as goal

pub returns-then-sees : goal.returns-then-sees
returns-then-sees c = rw (opened_by_select c.args.prefixes.now c.args.tokens.now (sym c.sees.ensures ∙ c.if-sees.true)) (rw c.refuse.ensures refl)

pub returns : goal.returns
returns c = rw (opened_otherwise c.args.prefixes.now c.args.tokens.now (sym c.sees.ensures ∙ c.if-sees.false)) c.opt_triples.ensures
