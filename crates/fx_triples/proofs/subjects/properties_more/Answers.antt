use Rattle.std.proofs.Common.{sym, ◌∙◌}
use Rattle.std.proofs.lemmas.Result.{err_from_is_err_and}
use Rattle.fx_grammar.specs.declared.kinds.Kind.TheVariants as k
use Rattle.fx_grammar.specs.Rule.{opt}
use Rattle.fx_grammar.specs.Grammar.{property, option_list}
use Rattle.fx_grammar.proofs.GrammarLaws.{opt_property_law}
use Rattle.fx_readers.proofs.Loops.{hands_on, chain_each_turn, chain_each_fails, chain_each_ends, chain_smaller}
use Rattle.fx_triples.proofs.subjects.properties_more.Goals as goal

pub returns-in_err-next : goal.returns-in_err-next
returns-in_err-next c =
    let p = err_from_is_err_and c.from_residual-in_err-next.result c.from_residual-in_err-next.ensures.1 in
    rw (p.1, p.2, ← c.more.invariant)
    (hands_on _ _ _ c.in_err-next.ensures (λ r e. chain_each_fails k.Semicolon (opt (property c.args.prefixes.now)) (opt_property_law c.args.prefixes.now) option_list c.more.parts c.more.rest.now c.in_ok-after.after.now r (sym c.sees.ensures ∙ c.more-test.true) c.in_ok-after.ensures e))

pub more-smaller : goal.more-smaller
more-smaller c = chain_smaller k.Semicolon (opt (property c.args.prefixes.now)) (opt_property_law c.args.prefixes.now) c.more.rest.now c.in_ok-after.after.now c.in_ok-next.after.now c.in_ok-next.next c.in_ok-after.ensures c.in_ok-next.ensures

pub more-preserved : goal.more-preserved
more-preserved c =
    rw c.in_ok-add_property.ensures
    (chain_each_turn k.Semicolon (opt (property c.args.prefixes.now)) (opt_property_law c.args.prefixes.now) option_list c.more.parts c.more.rest.now c.in_ok-after.after.now c.in_ok-next.after.now c.in_ok-next.next (sym c.sees.ensures ∙ c.more-test.true) c.in_ok-after.ensures c.in_ok-next.ensures ∙ c.more.invariant)

pub returns : goal.returns
returns c =
    sym c.more.invariant ∙ chain_each_ends k.Semicolon (opt (property c.args.prefixes.now)) (opt_property_law c.args.prefixes.now) option_list c.more.parts c.more.rest.now (sym c.sees.ensures ∙ c.more-test.false)
