use Rattle.std.proofs.Common.{◌∙◌, sym}
use Rattle.std.proofs.lemmas.Option.{IfSome_then}
use Rattle.fx_evaluation.proofs.answering.pattern_asked.Goals as goal

pub returns-in-None : goal.returns-in-None
returns-in-None c = IfSome_then c.only_pattern.result c.only_pattern.ensures (λ p e. record { form = c.in-Ask.is; alone = c.in-None.is; group = sym c.as_slice.ensures ∙ e })
