use Rattle.std.proofs.Common.{◌++◌, sym, ap, ◌∙◌, ℕ, List}
use Rattle.std.specs.Prelude.{encode_utf8}
use Rattle.std.proofs.lemmas.Str.{chars_past_char}
use Rattle.fx_tokens.proofs.parts.split_first.Goals as goal

pub returns : goal.returns
returns c =
    chars_past_char c.args.text.now c.as_str.result.now c.in_ok-first.first c.utf8.text
    (sym c.chars-chars.ensures.rest ∙ c.in_ok-first.ensures.steps.0 ∙ ap (λ (s : List ℕ). encode_utf8 c.in_ok-first.first ++ s) (sym c.as_str.ensures))
