use Rattle.std.proofs.lemmas.Str.Pattern.{ends_text}
use Rattle.fx_algebra.specs.Words.{ends}
use Rattle.fx_expr.proofs.words.ends.Goals as goal

pub returns : goal.returns
unfolding ends
returns c = ends_text c.ends_with.result c.args.part.now c.args.text.now c.ends_with.ensures.cases
