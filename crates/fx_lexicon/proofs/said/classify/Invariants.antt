use Rattle.std.proofs.Common.{◌≡◌, ◌++◌, map, drop}
use Rattle.fx_grammar.specs.Classified.{all_placed, says, classified}
use Rattle.fx_lexicon.proofs.said.classify.Given as goal

-- what is left completes the tokens
abbrev pub invariant-loop-token : goal.invariant-loop-token
invariant-loop-token l = l.said.items ++ all_placed l.context (map (says l.text) (drop l.token-index l.tokens)) ≡ classified l.text l.tokens
