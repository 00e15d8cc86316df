use Rattle.std.proofs.Common.{◌∙◌}
use Rattle.fx_print.proofs.Equations.{nothing_in_front}
use Rattle.fx_print.proofs.words.without_the_first_space.Goals as goal

pub returns-in-None-clause-words : goal.returns-in-None-clause-words
unfolding lib.Utf8.encode
returns-in-None-clause-words c = nothing_in_front _ (λ rest e. c.in-None.ensures.cases rest (c.deref.ensures ∙ e))

pub returns-in-None-clause-behind : goal.returns-in-None-clause-behind
unfolding lib.Utf8.encode
returns-in-None-clause-behind c rest e = absurd (c.in-None.ensures.cases rest (c.deref.ensures ∙ e))
