-- The law is the lemma of `BracketLemmas`.
use Rattle.fx_laws_brackets.proofs.BracketLemmas.{filters_open_their_brackets}
use Rattle.fx_laws_brackets.proofs.filters_open_their_brackets.Goals as goal

pub returns : goal.returns
returns c = filters_open_their_brackets
