use Rattle.std.proofs.Common.{ℕ, sym, subst}
use Rattle.std.specs.Str.{chars}
use Rattle.fx_terms.specs.Names.{is_base_char}
use Rattle.fx_tokens.specs.Scan.{Barren}
use Rattle.fx_tokens.proofs.Runs.{barren_run, one_rest}
use Rattle.fx_tokens.proofs.kinds.barren_behind.Goals as goal

pub returns-in-None : goal.returns-in-None
returns-in-None c =
    let first = one_rest is_base_char (chars c.args.text.now) (chars c.in-Some.rest.now) c.in-Some.ensures in
    subst (λ (n : ℕ). Barren n (chars c.args.text.now)) (sym c.width-in-None.ensures)
    (barren_run (chars c.args.text.now) first.0 (chars c.in-Some.rest.now) (chars c.skip_parts-end.result.now) first.1 c.skip_parts-end.ensures (sym c.in-None.ensures))
