use Rattle.std.proofs.Common.{◌∙◌, arith, sym}
use Rattle.fx_words.proofs.NumberLemmas.{read_as, not_read}
use Rattle.fx_words.proofs.numbers.number_to.Goals as goal

pub returns-in-Ok-clause-value : goal.returns-in-Ok-clause-value
returns-in-Ok-clause-value c = c.in_range.ensures.value ∙ read_as c.args.most c.args.word.now c.in-Ok.number (sym c.if-not-is_digits.ensures) c.in-Ok.ensures.value.0.1

pub returns-in-Err-clause-value : goal.returns-in-Err-clause-value
returns-in-Err-clause-value c = not_read c.args.most c.args.word.now (omega arith) (sym c.if-not-is_digits.ensures) c.in-Err.ensures.value.0
