use Rattle.std.proofs.Common.{◌∙◌, sym}
use Rattle.fx_sources.proofs.PartLemmas.{words_first}
use Rattle.fx_sources.proofs.words.first_word.Goals as goal

pub returns-then-not-is_empty : goal.returns-then-not-is_empty
returns-then-not-is_empty c =
    sym c.loop-left.invariant
    ∙ rw c.behind-left.ensures
    (words_first c.loop-left.left.now c.blank_place-place.result c.blank_place-place.ensures.place c.blank_place-place.ensures.within
    (sym c.is_empty-in-loop-left.ensures ∙ c.if-not-is_empty.true))
