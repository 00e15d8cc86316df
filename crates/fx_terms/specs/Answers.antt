-- What an answer says where want of memory, and nothing else, is free.
use Rattle.std.specs.Prelude.{◌≡◌, ◌++◌, ℕ, List, Result, Ok, Err}
use Rattle.fx_terms.specs.declared.allocation.Memory.{Memory}
use Rattle.fx_terms.specs.declared.iris.TermError.{TermError}
use Rattle.fx_terms.specs.declared.iris.TermError.TheVariants as term
use Rattle.fx_terms.specs.declared.literals.LiteralError.{LiteralError}
use Rattle.fx_terms.specs.declared.literals.LiteralError.TheVariants as literal
use Rattle.fx_terms.specs.declared.names.NameError.{NameError}
use Rattle.fx_terms.specs.declared.names.NameError.TheVariants as name

-- unless memory ran out, the answer is the wanted one
abbrev pub AnswersTerm : {X : Type 0} → Result X TermError → Result X TermError → Type 0
AnswersTerm (Ok x) wanted = wanted ≡ Ok x
AnswersTerm (Err term.Memory) wanted = Unit {0}
AnswersTerm (Err e) wanted = wanted ≡ Err e

-- unless memory ran out, the answer is the wanted one
abbrev pub AnswersName : {X : Type 0} → Result X NameError → Result X NameError → Type 0
AnswersName (Ok x) wanted = wanted ≡ Ok x
AnswersName (Err name.Memory) wanted = Unit {0}
AnswersName (Err name.BadName) wanted = wanted ≡ Err name.BadName

-- unless memory ran out, the answer is the wanted one
abbrev pub AnswersLiteral : {X : Type 0} → Result X LiteralError → Result X LiteralError → Type 0
AnswersLiteral (Ok x) wanted = wanted ≡ Ok x
AnswersLiteral (Err literal.Memory) wanted = Unit {0}
AnswersLiteral (Err e) wanted = wanted ≡ Err e

-- after success a text has grown by another
abbrev pub Grows : Result (Unit {0}) Memory → List ℕ → List ℕ → List ℕ → Type 0
Grows (Ok u) old new more = new ≡ old ++ more
Grows (Err e) old new more = Unit {0}
