use Rattle.std.proofs.Common.{rules}
use Rattle.fx_tokens.proofs.TextLaws.{past_first, past_none}
use Rattle.fx_tokens.proofs.decoding.behind_first.Goals as goal

pub returns-in-Some-clause-bytes : goal.returns-in-Some-clause-bytes
returns-in-Some-clause-bytes c = past_first _ _ _ (search rules) c.in-Some.ensures

pub returns-in-None-clause-bytes : goal.returns-in-None-clause-bytes
returns-in-None-clause-bytes c = past_none _ c.utf8.text c.in-None.ensures
