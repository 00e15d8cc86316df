use Rattle.std.proofs.Common.{ap, ◌∙◌}
use Rattle.std.proofs.lemmas.List.{drop_all}
use Rattle.fx_grammar.specs.Classified.{token_of}
use Rattle.fx_lexicon.proofs.PlaceLaws.{placed_turn, placed_end}
use Rattle.fx_lexicon.proofs.said.classify.Goals as goal

pub loop-token-preserved : goal.loop-token-preserved
loop-token-preserved c =
    rw (c.in_ok-push.ensures.items, c.placed.ensures, c.behind-context.ensures, c.kind-kind.ensures)
    (placed_turn c.loop-token.context c.loop-token.said.items c.args.text.now c.args.tokens.now c.loop-token.token-index _ c.in_ok-word.word c.loop-token-test.true (c.in_ok-word.ensures ∙ ap (token_of _) c.range.ensures.value)
    ∙ c.loop-token.invariant)

pub returns : goal.returns
returns c = placed_end c.loop-token.context c.loop-token.said.items c.args.text.now c.args.tokens.now c.loop-token.token-index _ (drop_all _ _ c.loop-token-test.false) c.loop-token.invariant
