use Rattle.std.proofs.Common.{◌∙◌}
use Rattle.fx_sources.proofs.LineLemmas.{utf8_read}
use Rattle.fx_sources.proofs.lines.is_utf8.Goals as goal

pub returns : goal.returns
returns c = c.is_ok.ensures.value ∙ utf8_read _ _ c.from_utf8.result c.args.bytes.now c.from_utf8.ensures.cases
