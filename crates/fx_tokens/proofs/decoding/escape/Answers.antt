use Rattle.std.proofs.Common.{ap, sym, ◌∙◌}
use Rattle.std.specs.Str.{chars}
use Rattle.fx_tokens.specs.Decoding.{coded}
use Rattle.fx_tokens.proofs.TextLaws.{escape_none, escape_short, escape_long, escape_letter}
use Rattle.fx_tokens.proofs.decoding.escape.Goals as goal

pub returns-in_default : goal.returns-in_default
returns-in_default c = escape_none _ c.in_default.ensures

pub returns-then-first-eq117 : goal.returns-then-first-eq117
returns-then-first-eq117 c =
    c.coded.ensures ∙ ap (λ p. coded p (chars c.in-Some.rest.now)) c.four.ensures.value ∙ sym (escape_short _ _ _ c.in-Some.ensures c.if-first-eq117.true)

pub returns-then-first-eq85 : goal.returns-then-first-eq85
returns-then-first-eq85 c =
    c.coded-then-first-eq85.ensures ∙ ap (λ p. coded p (chars c.in-Some.rest.now)) c.eight.ensures ∙ sym (escape_long _ _ _ c.in-Some.ensures c.if-first-eq85.true)

pub returns-else-first-eq85 : goal.returns-else-first-eq85
returns-else-first-eq85 c =
    ap (λ l. (l, chars c.in-Some.rest.now)) c.letter.ensures ∙ sym (escape_letter _ _ _ c.in-Some.ensures c.if-first-eq117.false c.if-first-eq85.false)
