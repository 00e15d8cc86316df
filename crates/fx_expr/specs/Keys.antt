-- What keys are worth.
use Rattle.std.specs.Prelude.{Option, Some, None}
use Rattle.fx_terms.specs.declared.terms.Term.{Term}
use Rattle.fx_algebra.specs.declared.worths.Worth.{Worth}
use Rattle.fx_algebra.specs.declared.worths.Worth.TheVariants.{Opaque}
use Rattle.fx_algebra.specs.Worths.{worth_of}

-- an error and an unbound variable have no value
abbrev pub key_worth : Option Term → Worth
key_worth (Some term) = worth_of term
key_worth None = Opaque
