use Rattle.std.proofs.lemmas.Str.Pattern.{contains_text}
use Rattle.fx_expr.proofs.WordLemmas.{has_part_so}
use Rattle.fx_expr.proofs.words.has_part.Goals as goal

pub returns : goal.returns
returns c = has_part_so c.args.text.now c.args.part.now c.contains.result (contains_text c.contains.result c.args.part.now c.args.text.now c.contains.ensures.cases)
