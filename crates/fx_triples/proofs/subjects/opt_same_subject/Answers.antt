use Rattle.std.proofs.Common.{sym, ◌∙◌, true, false}
use Rattle.std.proofs.lemmas.Result.{err_from_is_err_and}
use Rattle.fx_grammar.specs.Grammar.{same_subject}
use Rattle.fx_triples.proofs.TripleLaws.{subject_sees}
use Rattle.fx_readers.proofs.Loops.{hands_on, opt_here, opt_fails, opt_none}
use Rattle.fx_triples.proofs.subjects.opt_same_subject.Goals as goal

pub returns-in_err-patterns : goal.returns-in_err-patterns
returns-in_err-patterns c =
    let p = err_from_is_err_and c.from_residual.result c.from_residual.ensures.1 in
    rw (p.1, p.2) (hands_on _ _ _ c.in_err-patterns.ensures (λ r e. opt_fails (same_subject c.args.prefixes.now) c.args.tokens.now r (subject_sees c.args.prefixes.now c.args.tokens.now true (sym (c.sees_graph_term.ensures c.args.prefixes.now) ∙ c.if-sees_graph_term.true)) e))

pub returns-then-sees_graph_term : goal.returns-then-sees_graph_term
returns-then-sees_graph_term c = opt_here (same_subject c.args.prefixes.now) c.args.tokens.now c.in_ok-patterns.rest.now c.in_ok-patterns.patterns (subject_sees c.args.prefixes.now c.args.tokens.now true (sym (c.sees_graph_term.ensures c.args.prefixes.now) ∙ c.if-sees_graph_term.true)) c.in_ok-patterns.ensures

pub returns : goal.returns
returns c = opt_none (same_subject c.args.prefixes.now) c.args.tokens.now (subject_sees c.args.prefixes.now c.args.tokens.now false (sym (c.sees_graph_term.ensures c.args.prefixes.now) ∙ c.if-sees_graph_term.false))
