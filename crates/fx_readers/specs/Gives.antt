-- What a function that reads ensures: the rule's outcome, unless memory runs out.
use Rattle.std.specs.Prelude.{◌≡◌, List, Result, Ok, Err}
use Rattle.fx_grammar.specs.Rule.{Outcome}
use Rattle.fx_grammar.specs.declared.kinds.Token.{Token}
use Rattle.fx_readers.specs.declared.faults.Fault.{Fault}
use Rattle.fx_readers.specs.declared.faults.Fault.TheVariants.{Refused, Memory}

abbrev pub IsRefusal : {A : Type 0} → Fault → Outcome A → Type 0
IsRefusal Memory outcome = Unit {0}
IsRefusal (Refused why left) outcome = outcome ≡ Err (record { why = why; left = left })

abbrev pub Gives : {X A : Type 0} → (X → A × List Token) → Result X Fault → Outcome A → Type 0
Gives view (Ok x) outcome = outcome ≡ Ok (view x)
Gives view (Err fault) outcome = IsRefusal fault outcome
