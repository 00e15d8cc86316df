-- What the rows of an answer tell, under the numbers that their rows came with, is the unit's step.
use Rattle.std.proofs.Common.{◌≡◌, ◌∙◌, ap, sym, subst, refl, inl, inr, ℕ, zero, suc, ◌+◌, Bool, true, false, not, cond, List, [], ◌∷◌, ◌++◌, map, filter, IsTrue, IsPermutation, arith}
use Rattle.std.specs.Prelude.{slice_get}
use Rattle.std.specs.List.{AllByRecursion, flat_map}
use Rattle.std.proofs.lemmas.List.Elements.{All-from_recursion, recursion_from_All}
use Rattle.std.proofs.lemmas.List.Sorted.{IsPermutation-map}
use Rattle.fx_terms.specs.declared.triples.Triple.{Triple}
use Rattle.fx_terms.proofs.SetLemmas.{Among}
use Rattle.fx_algebra.specs.Solutions.{Bindings, rises}
use Rattle.fx_algebra.specs.Units.{is_covered, row_of, row_step, step}
use Rattle.fx_algebra.specs.declared.units.Row.{Row}
use Rattle.fx_algebra.specs.declared.units.Unit as unit
use Rattle.fx_spelling.specs.Units.{IsPushed}
use Rattle.fx_renaming.specs.Branches.{bound_pattern, is_hopeless}
use Rattle.fx_renaming.proofs.BranchLemmas.{hopeless_branch_has_none}
use Rattle.fx_founds.specs.Unions.{beside}
use Rattle.fx_founds.specs.Uniting.{Place, branches, is_worth_asking, origin_by, places_from, row_by, tells}
use Rattle.fx_founds.proofs.RowLemmas.{flat_each, map_both, map_flat}
use Rattle.fx_founds.proofs.UnionLemmas.{in_kept}
use Rattle.fx_founds.proofs.UniteLemmas.{all_covered, its_row, number_above}
use Rattle.fx_values.specs.Reading.{AnswerIsTheStep, found_of}
use Rattle.fx_values.proofs.ReadingLemmas.{answer_tells_rows}

-- what gives nothing may be left out
left_out : {X Y : Type 0} (f : X → List Y) (p : X → Bool) (xs : List X) → ((x : X) → Among x xs → p x ≡ false → f x ≡ []) → flat_map f (filter p xs) ≡ flat_map f xs
left_out f p [] h = refl
left_out f p (x ∷ xs) h = by (p x) refl (left_out f p xs (λ y m. h y (inr m)))
  where
    by : (b : Bool) → p x ≡ b → flat_map f (filter p xs) ≡ flat_map f xs → flat_map f (cond b (x ∷ filter p xs) (filter p xs)) ≡ f x ++ flat_map f xs
    by true e k = ap (λ v. f x ++ v) k
    by false e k = k ∙ ap (λ v. v ++ flat_map f xs) (sym (h x (inl refl) e))

over_rows : (f : Row → List Row) (n : ℕ) (rows : List Row) → flat_map (λ b. f b.row) (places_from n rows) ≡ flat_map f rows
over_rows f n [] = refl
over_rows f n (r ∷ rows) = ap (λ (v : List Row). f r ++ v) (over_rows f (suc n) rows)

not_true : (b : Bool) → not b ≡ false → b ≡ true
not_true true h = refl
not_true false h = cc

-- the number of a place leads to its row
origin_found : (n k : ℕ) (rows : List Row) (b : Place) → Among b (places_from n rows) → b.number ≡ n + k → origin_by (slice_get rows k) ≡ b.row.origin
origin_found n k [] b m e = absurd m
origin_found n zero (r ∷ rows) b (inl same) e = ap (λ (v : Place). v.row.origin) same
origin_found n zero (r ∷ rows) b (inr m) e = let low = number_above (suc n) rows b m in absurd (omega (arith, low, e))
origin_found n (suc k) (r ∷ rows) b (inl same) e = let number : n ≡ b.number = ap (λ (v : Place). v.number) same in absurd (omega (arith, number, e))
origin_found n (suc k) (r ∷ rows) b (inr m) e = origin_found (suc n) k rows b m (omega (arith, e))

-- what the graph has for the rows that are worth asking for is the step over all rows
all_steps : (graph : List Triple) (u : unit.Unit) (rows : List Row) → AllByRecursion (IsPushed u.patterns) u.filters → AllByRecursion (λ r. IsTrue (rises r.solution)) rows
    → map (row_by rows) (flat_map (tells graph u) (branches u rows)) ≡ step graph u rows
all_steps graph u rows pushed up =
    let covered = All-from_recursion (λ e. is_covered u.patterns e ≡ true) u.filters (all_covered u.patterns u.filters pushed) in
    map_flat (tells graph u) (row_by rows) (branches u rows)
    ∙ flat_each (λ b. map (row_by rows) (tells graph u b)) (λ b. row_step graph u b.row) (branches u rows)
    (λ b m.
    map_both (λ (s : Bindings). record { branch = b.number; solution = s }) (row_by rows) (beside graph u b.row.solution)
    ∙ ap (λ (n : ℕ). map (row_of n) (beside graph u b.row.solution)) (origin_found 0 b.number rows b (in_kept (is_worth_asking u) b (places_from 0 rows) m).0 (omega arith)))
    ∙ left_out (λ (b : Place). row_step graph u b.row) (is_worth_asking u) (places_from 0 rows)
    (λ b m e. ap (map (row_of b.row.origin))
    (hopeless_branch_has_none graph u.patterns u.filters b.row.solution (λ name. name) (its_row (λ r. IsTrue (rises r.solution)) 0 rows up b m) (λ x y k l same. same) covered (not_true (is_hopeless (map (bound_pattern (λ name. name) b.row.solution) u.patterns)) e)))
    ∙ over_rows (row_step graph u) 0 rows

pub answer_is_the_step : AnswerIsTheStep
answer_is_the_step graph u rows answer fit up few short h =
    let a = answer_tells_rows graph u rows answer fit up few short h in
    record {
      all = a.all;
      read = a.read;
      step_is =
          subst (λ (v : List Row). IsPermutation v (step graph u rows)) (map_both found_of (row_by rows) a.all)
          (subst (λ (v : List Row). IsPermutation (map (row_by rows) (map found_of a.all)) v)
          (all_steps graph u rows (recursion_from_All (IsPushed u.patterns) u.filters fit.filters) (recursion_from_All (λ (r : Row). IsTrue (rises r.solution)) rows up))
          (IsPermutation-map (row_by rows) (map found_of a.all) (flat_map (tells graph u) (branches u rows)) a.told_all));
    }
