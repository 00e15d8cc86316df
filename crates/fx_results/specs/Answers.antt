-- What an answer says where want of memory, and nothing else, is free.
use Rattle.std.specs.Prelude.{◌≡◌, Result, Ok, Err}
use Rattle.fx_results.specs.declared.faults.ResultsError.{ResultsError}
use Rattle.fx_results.specs.declared.faults.ResultsError.TheVariants.{Memory}

-- unless memory ran out, what is seen of the answer is the wanted one
abbrev pub AnswersAs : {X Y : Type 0} → (X → Y) → Result X ResultsError → Result Y ResultsError → Type 0
AnswersAs seen (Ok x) wanted = wanted ≡ Ok (seen x)
AnswersAs seen (Err Memory) wanted = Unit {0}
AnswersAs seen (Err e) wanted = wanted ≡ Err e

-- unless memory ran out, the answer is the wanted one
abbrev pub AnswersResults : {X : Type 0} → Result X ResultsError → Result X ResultsError → Type 0
AnswersResults result wanted = AnswersAs (λ x. x) result wanted
