use Rattle.std.proofs.Common.{sym, ◌∙◌}
use Rattle.std.proofs.lemmas.Result.{err_from_is_err_and}
use Rattle.fx_grammar.specs.Grammar.{property}
use Rattle.fx_readers.proofs.Loops.{hands_on, opt_here, opt_fails, opt_none}
use Rattle.fx_triples.proofs.subjects.opt_property.Goals as goal

pub returns-in_err-found : goal.returns-in_err-found
returns-in_err-found c =
    let p = err_from_is_err_and c.from_residual.result c.from_residual.ensures.1 in
    rw (p.1, p.2) (hands_on _ _ _ c.in_err-found.ensures (λ r e. opt_fails (property c.args.prefixes.now) c.args.tokens.now r (sym (c.sees_property.ensures c.args.prefixes.now) ∙ c.if-sees_property.true) e))

pub returns-then-sees_property : goal.returns-then-sees_property
returns-then-sees_property c = opt_here (property c.args.prefixes.now) c.args.tokens.now c.in_ok-found.rest.now c.in_ok-found.found (sym (c.sees_property.ensures c.args.prefixes.now) ∙ c.if-sees_property.true) c.in_ok-found.ensures

pub returns : goal.returns
returns c = opt_none (property c.args.prefixes.now) c.args.tokens.now (sym (c.sees_property.ensures c.args.prefixes.now) ∙ c.if-sees_property.false)
