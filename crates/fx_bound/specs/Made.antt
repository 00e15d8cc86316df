-- What a batch keeps beside its parts.
use Rattle.std.specs.Prelude.{◌≡◌, ℕ, List, Option}
use Rattle.fx_bound.specs.Parts.{IsBatch, Parts, branches_of, text_of}
use Rattle.fx_bound.specs.declared.branches.Branch.{Branch}

pub record IsMade (p : Parts) (branches : List Branch) (text : Option (List ℕ)) : Type 0 where
  pub known : IsBatch p
  pub branches_are : branches ≡ branches_of p
  pub text_is : text ≡ text_of p
