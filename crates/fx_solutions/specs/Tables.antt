-- Answers that come of the same rows.
use Rattle.std.specs.Prelude.{◌≡◌, List, All, IsTrue}
use Rattle.fx_algebra.specs.Answers.{form_answer}
use Rattle.fx_algebra.specs.Solutions.{Bindings, rises, SameRows}
use Rattle.fx_algebra.specs.declared.queries.Query.{Query}

-- the same rows, however they arrived, give one answer
abbrev pub OneAnswer : Type 0
OneAnswer = (q : Query) (a b : List Bindings) → All (λ s. IsTrue (rises s)) a → SameRows a b → form_answer q q.form a ≡ form_answer q q.form b
