use Rattle.std.proofs.Common.{◌≡◌, ℕ, List, ap, arith, length}
use Rattle.std.specs.Str.{chars}
use Rattle.std.proofs.lemmas.Str.{encodes-chars}
use Rattle.fx_tokens.specs.Answers.{width}
use Rattle.fx_tokens.proofs.Runs.{barren_whole}
use Rattle.fx_turtle.proofs.reading.start.Goals as goal

pub returns-clause-barren : goal.returns-clause-barren
returns-clause-barren c =
    let long : width (chars c.args.text.now) ≡ length c.args.text.now = ap (λ (v : List ℕ). length v) (encodes-chars c.args.text.now c.utf8.text) in
    barren_whole (chars c.args.text.now) (length c.args.text.now) (omega (arith, long))
