-- Answers whose names and terms are what their readers accept, as those of every `Answer` are.
use Rattle.std.specs.Prelude.{All, IsTrue}
use Rattle.fx_terms.specs.Names.{IsName}
use Rattle.fx_terms.specs.Terms.{IsTerm}
use Rattle.fx_algebra.specs.Solutions.{Bindings, rises}
use Rattle.fx_algebra.specs.declared.answers.Answer.{Answer}
use Rattle.fx_algebra.specs.declared.answers.Answer.TheVariants.{Table, Truth}

-- its names rise, and its terms are accepted
pub record IsKnownRow (row : Bindings) : Type 0 where
  pub rises : IsTrue (rises row)
  pub terms : All (λ e. IsTerm e.1) row

-- columns that are names, and such rows
abbrev pub IsKnown : Answer → Type 0
IsKnown (Table columns rows) = All IsName columns × All IsKnownRow rows
IsKnown (Truth truth) = Unit {0}
