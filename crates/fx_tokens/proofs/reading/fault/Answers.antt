use Rattle.std.proofs.Common.{◌-◌, ◌∷◌, ap, ◌∙◌, subst, refl, ℕ}
use Rattle.std.specs.Str.{chars}
use Rattle.fx_tokens.specs.Answers.{width}
use Rattle.fx_tokens.specs.Reads.{Faulty}
use Rattle.fx_tokens.specs.declared.TokenError.TheVariants.{Bad}
use Rattle.fx_tokens.specs.declared.TokenFault.TheVariants.{Character}
use Rattle.fx_tokens.proofs.Turns.{faulty_text, faulty_character, no_quote}
use Rattle.fx_tokens.proofs.reading.fault.Goals as goal

pub returns-then-first-eq39 : goal.returns-then-first-eq39
returns-then-first-eq39 c =
    subst (λ (n : ℕ). Faulty (c.args.size - n) (chars c.args.text.now) c.text_fault.result) c.width.ensures
    (faulty_text (c.args.size - c.width.result) (chars c.args.text.now) 39 (chars c.in-Some.rest.now) c.text_fault.result (c.in-Some.ensures ∙ ap (λ v. v ∷ chars c.in-Some.rest.now) c.if-first-eq39.true) refl c.text_fault.ensures)

pub returns-then-first-eq34 : goal.returns-then-first-eq34
returns-then-first-eq34 c =
    subst (λ (n : ℕ). Faulty (c.args.size - n) (chars c.args.text.now) c.text_fault-then-first-eq34.result) c.width.ensures
    (faulty_text (c.args.size - c.width.result) (chars c.args.text.now) 34 (chars c.in-Some.rest.now) c.text_fault-then-first-eq34.result (c.in-Some.ensures ∙ ap (λ v. v ∷ chars c.in-Some.rest.now) c.if-first-eq34.true) refl c.text_fault-then-first-eq34.ensures)

pub returns : goal.returns
returns c =
    faulty_character (c.args.size - width (chars c.args.text.now)) (chars c.args.text.now) c.in-Some.first (chars c.in-Some.rest.now) _ c.in-Some.ensures (no_quote c.in-Some.first c.if-first-eq39.false c.if-first-eq34.false) (ap (λ (n : ℕ). Bad (c.args.size - n) Character) c.width.ensures)
