use Rattle.fx_terms.specs.Datatypes.{xsd}
use Rattle.fx_expr.proofs.WordLemmas.{behind_front}
use Rattle.fx_expr.proofs.integers.schema_name.Goals as goal

pub returns : goal.returns
returns c = behind_front xsd c.args.datatype.now c.strip_prefix.result c.strip_prefix.ensures.cases
