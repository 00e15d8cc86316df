use Rattle.std.proofs.lemmas.Str.Pattern.{starts_text}
use Rattle.fx_algebra.specs.Words.{begins}
use Rattle.fx_expr.proofs.words.begins.Goals as goal

pub returns : goal.returns
unfolding begins
returns c = starts_text c.starts_with.result c.args.part.now c.args.text.now c.starts_with.ensures.cases
