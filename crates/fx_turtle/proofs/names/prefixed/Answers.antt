use Rattle.std.proofs.Common.{◌≡◌, ◌∙◌, ℕ, List, Some, None, sym, ap, refl}
use Rattle.std.specs.Str.{chars, encode_utf8_all}
use Rattle.std.specs.Option.{option_copied}
use Rattle.fx_tokens.specs.Decoding.{prefix}
use Rattle.fx_grammar.specs.Grammar.{declared}
use Rattle.fx_turtle.proofs.names.prefixed.Goals as goal

pub returns-in-Some : goal.returns-in-Some
returns-in-Some c =
    let name = c.as_str.ensures.value ∙ c.in_ok-prefix.ensures.0 in
    let base : declared c.args.prefixes.now (encode_utf8_all (prefix (chars c.args.text.now))) ≡ Some c.in-Some.base.now =
    ap (λ (n : List ℕ). declared c.args.prefixes.now n) (sym name) ∙ sym c.find.ensures ∙ ap option_copied c.in-Some.is in
    let local = c.as_str-in-Some.ensures.value ∙ c.in_ok-prefix.ensures.1 in
    rw (base, ← local) c.expanded.ensures

pub returns : goal.returns
returns c =
    let name = c.as_str.ensures.value ∙ c.in_ok-prefix.ensures.0 in
    let base : declared c.args.prefixes.now (encode_utf8_all (prefix (chars c.args.text.now))) ≡ None =
    ap (λ (n : List ℕ). declared c.args.prefixes.now n) (sym name) ∙ sym c.find.ensures ∙ ap option_copied c.in-None.is in
    rw base refl
