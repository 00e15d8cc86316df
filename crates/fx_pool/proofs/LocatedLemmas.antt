-- What is read of a reply to a VALUES block, as what was found for branches.
use Rattle.std.proofs.Common.{◌≡◌, subst, sym, ℕ, List, [], ◌∷◌, map, All, Contains, IfOk, Result, Ok, Err}
use Rattle.std.specs.List.{AllByRecursion}
use Rattle.std.proofs.lemmas.List.Elements.{All-from_recursion, recursion_from_All}
use Rattle.fx_founds.specs.declared.founds.Found.{Found}
use Rattle.fx_values.specs.Reading.{found_of}
use Rattle.fx_values.specs.declared.located.Located.{Located}
use Rattle.fx_pool.specs.declared.faults.ReadError.{ReadError}

module _ (ns : List ℕ) where
  each_numbered : (all : List Located) → AllByRecursion (λ l. Contains ns l.row) all → AllByRecursion (λ f. Contains ns f.branch) (map found_of all)
  each_numbered [] h = tt
  each_numbered (l ∷ all) h = (h.0, each_numbered all h.1)

  pub numbered : (all : List Located) → All (λ l. Contains ns l.row) all → (result : Result (List Found) ReadError) → IfOk result (λ founds. founds ≡ map found_of all) → IfOk result (λ founds. All (λ f. Contains ns f.branch) founds)
  numbered all h (Ok founds) found =
      subst (All (λ (f : Found). Contains ns f.branch)) (sym found)
      (All-from_recursion (λ (f : Found). Contains ns f.branch) (map found_of all) (each_numbered all (recursion_from_All (λ (l : Located). Contains ns l.row) all h)))
  numbered all h (Err why) found = tt
