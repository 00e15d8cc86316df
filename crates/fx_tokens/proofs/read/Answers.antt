use Rattle.std.proofs.Common.{◌≡◌, List, sym, ap, subst, ℕ, arith, length}
use Rattle.std.specs.Str.{chars}
use Rattle.std.proofs.lemmas.Str.{encodes-chars}
use Rattle.fx_tokens.specs.Answers.{width}
use Rattle.fx_tokens.specs.declared.Token.{Token}
use Rattle.fx_tokens.proofs.Nexts.{GoesOn, goes_on_none}
use Rattle.fx_tokens.proofs.Runs.{barren_whole}
use Rattle.fx_tokens.proofs.read.Goals as goal

pub each-init : goal.each-init
each-init c =
    let long : width (chars c.args.text.now) ≡ length c.args.text.now = ap (λ (v : List ℕ). length v) (encodes-chars c.args.text.now c.utf8.text) in
    record {
      on = subst (λ (v : List Token). GoesOn c.args.text.now 0 v) (sym c.new-tokens.ensures.items) (goes_on_none c.args.text.now c.utf8.text);
      barren = barren_whole (chars c.args.text.now) (length c.args.text.now) (omega (arith, long));
    }
