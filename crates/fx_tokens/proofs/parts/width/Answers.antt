use Rattle.std.proofs.Common.{sym, ap, ℕ, List, length}
use Rattle.std.proofs.lemmas.Str.{encodes-chars}
use Rattle.fx_tokens.proofs.parts.width.Goals as goal

pub returns : goal.returns
returns c = ap (λ (s : List ℕ). length s) (sym (encodes-chars c.args.text.now c.utf8.text))
