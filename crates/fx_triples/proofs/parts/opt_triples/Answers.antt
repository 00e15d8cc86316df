use Rattle.std.proofs.Common.{sym, ◌∙◌, refl, true, false}
use Rattle.std.proofs.lemmas.Result.{err_from_is_err_and}
use Rattle.fx_grammar.specs.Grammar.{triples, triple_elements}
use Rattle.fx_readers.proofs.Loops.{hands_on, opt_made_here, opt_made_fails, opt_made_none}
use Rattle.fx_triples.proofs.TripleLaws.{triples_see}
use Rattle.fx_triples.proofs.parts.opt_triples.Goals as goal

pub returns-in_err-patterns : goal.returns-in_err-patterns
returns-in_err-patterns c =
    let p = err_from_is_err_and c.from_residual.result c.from_residual.ensures.1 in
    rw (p.1, p.2) (hands_on _ _ _ c.in_err-patterns.ensures (λ r e. opt_made_fails triple_elements (triples c.args.prefixes.now) c.args.tokens.now r (triples_see c.args.prefixes.now c.args.tokens.now true (sym (c.sees_graph_term.ensures c.args.prefixes.now) ∙ c.if-sees_graph_term.true)) e))

pub returns-then-sees_graph_term : goal.returns-then-sees_graph_term
returns-then-sees_graph_term c =
    opt_made_here triple_elements (triples c.args.prefixes.now) c.args.tokens.now c.in_ok-patterns.rest.now c.in_ok-patterns.patterns c.in_ok-elements.elements
    (triples_see c.args.prefixes.now c.args.tokens.now true (sym (c.sees_graph_term.ensures c.args.prefixes.now) ∙ c.if-sees_graph_term.true)) c.in_ok-patterns.ensures (rw (c.in_ok-elements.ensures, c.as_slice.ensures) refl)

pub returns : goal.returns
returns c =
    opt_made_none triple_elements (triples c.args.prefixes.now) c.args.tokens.now c.new-none.result (triples_see c.args.prefixes.now c.args.tokens.now false (sym (c.sees_graph_term.ensures c.args.prefixes.now) ∙ c.if-sees_graph_term.false)) c.new-none.ensures
