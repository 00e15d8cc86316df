-- What is found for the rows on the left of an OPTIONAL, row after row.
use Rattle.std.proofs.Common.{◌≡◌, ◌∙◌, ap, sym, refl, ℕ, zero, suc, ◌+◌, ◌<◌, ◌≤◌, Bool, true, false, ◌&&◌, cond, List, [], ◌∷◌, ◌++◌, map, filter, length, get_or, set, arith, append-nil, zero-add}
use Rattle.std.specs.Prelude.{◌==◌}
use Rattle.std.specs.List.{flat_map}
use Rattle.std.proofs.lemmas.Bool.Decides.{nat_tests}
use Rattle.std.proofs.lemmas.List.{map-append}
use Rattle.std.proofs.lemmas.List.Elements.{filter-append}
use Rattle.fx_algebra.specs.Conditions.{holds}
use Rattle.fx_algebra.specs.Operators.{filtered}
use Rattle.fx_algebra.specs.Solutions.{Bindings}
use Rattle.fx_algebra.specs.declared.expressions.Expr.{Expr}
use Rattle.fx_algebra.specs.declared.units.Row.{Row}
use Rattle.fx_steps.specs.Optionals.{behind, optional_rows}
use Rattle.fx_steps.specs.Steps.{solutions_of}
use Rattle.fx_walks.specs.LeftRows.{kept, pair_of, rows_of, with_found, with_none}
use Rattle.fx_walks.specs.declared.optionals.LeftRow.{LeftRow}

-- ---- a row more

module _ (conditions : List Expr) (found : List Row) (r : Row) where
  abbrev more : List Row
  more = found ++ r ∷ []

  -- what comes of it under a number
  abbrev own : Bool → Bool → List Bindings
  own here held = cond (here && held) (r.solution ∷ []) []

  one : (here held : Bool) → (holds conditions r.solution) ≡ held → filtered conditions (solutions_of (cond here (r ∷ []) [])) ≡ own here held
  one true held e = ap (λ (b : Bool). cond b (r.solution ∷ []) []) e
  one false held e = refl

  behind_more : (n : ℕ) (here held : Bool) → (r.origin == n) ≡ here → holds conditions r.solution ≡ held → filtered conditions (behind n more) ≡ filtered conditions (behind n found) ++ own here held
  behind_more n here held e f =
      let is : Row → Bool = λ (x : Row). x.origin == n in
      ap (λ (v : List Row). filtered conditions (solutions_of v)) (filter-append is found (r ∷ []))
      ∙ ap (filtered conditions) (map-append (λ (x : Row). x.solution) (filter is found) (filter is (r ∷ [])))
      ∙ filter-append (holds conditions) (behind n found) (solutions_of (filter is (r ∷ [])))
      ∙ ap (λ (b : Bool). filtered conditions (behind n found) ++ filtered conditions (solutions_of (cond b (r ∷ []) []))) e
      ∙ ap (λ (v : List Bindings). filtered conditions (behind n found) ++ v) (one here held f)

  -- a row on which the conditions don't hold changes nothing
  refused_behind : (here : Bool) (n : ℕ) → (r.origin == n) ≡ here → holds conditions r.solution ≡ false → filtered conditions (behind n more) ≡ filtered conditions (behind n found)
  refused_behind true n e f = behind_more n true false e f ∙ append-nil (filtered conditions (behind n found))
  refused_behind false n e f = behind_more n false false e f ∙ append-nil (filtered conditions (behind n found))

  pub kept_refused : (n : ℕ) (left : List Bindings) → holds conditions r.solution ≡ false → kept conditions n left more ≡ kept conditions n left found
  kept_refused n [] f = refl
  kept_refused n (s ∷ left) f = λ i. (s, refused_behind (r.origin == n) n refl f i) ∷ kept_refused (suc n) left f i

  -- nor does a row under another number
  other_behind : (n : ℕ) → (r.origin == n) ≡ false → filtered conditions (behind n more) ≡ filtered conditions (behind n found)
  other_behind n e = behind_more n false (holds conditions r.solution) e refl ∙ append-nil (filtered conditions (behind n found))

  differs : (m n : ℕ) → m < n → (m == n) ≡ false
  differs m n h = grind (arith, nat_tests)

  exceeds : (m n : ℕ) → n < m → (m == n) ≡ false
  exceeds m n h = grind (arith, nat_tests)

  same : (m n : ℕ) → m ≡ n → (m == n) ≡ true
  same m n h = grind (arith, nat_tests)

  kept_below : (n : ℕ) (left : List Bindings) → r.origin < n → kept conditions n left more ≡ kept conditions n left found
  kept_below n [] h = refl
  kept_below n (s ∷ left) h = λ i. (s, other_behind n (differs r.origin n h) i) ∷ kept_below (suc n) left (omega arith) i

  kept_from : (n k : ℕ) (left : List Bindings) → r.origin ≡ n + k → holds conditions r.solution ≡ true → with_found r.solution k (kept conditions n left found) ≡ kept conditions n left more
  kept_from n k [] e f = refl
  kept_from n zero (s ∷ left) e f =
      λ i. (s, sym (behind_more n true true (same r.origin n (omega arith)) f) i) ∷ sym (kept_below (suc n) left (omega arith)) i
  kept_from n (suc k) (s ∷ left) e f =
      λ i. (s, sym (other_behind n (exceeds r.origin n (omega arith))) i) ∷ kept_from (suc n) k left (omega arith) f i

  pub kept_more : (left : List Bindings) → holds conditions r.solution ≡ true → with_found r.solution r.origin (kept conditions 0 left found) ≡ kept conditions 0 left more
  kept_more left f = kept_from 0 r.origin left (sym (zero-add r.origin)) f

-- ---- from nothing to all

pub kept_none : (conditions : List Expr) (n : ℕ) (left : List Bindings) → map with_none left ≡ kept conditions n left []
kept_none conditions n [] = refl
kept_none conditions n (s ∷ left) = ap (λ (v : List (Bindings × List Bindings)). with_none s ∷ v) (kept_none conditions (suc n) left)

pub all_kept : (conditions : List Expr) (n : ℕ) (left : List Bindings) (found : List Row) → flat_map rows_of (kept conditions n left found) ≡ optional_rows conditions n left found
all_kept conditions n [] found = refl
all_kept conditions n (s ∷ left) found = ap (λ (v : List Bindings). rows_of (s, filtered conditions (behind n found)) ++ v) (all_kept conditions (suc n) left found)

-- ---- places

pub with_found_past : (s : Bindings) (at : ℕ) (rows : List LeftRow) → length rows ≤ at → map pair_of rows ≡ with_found s at (map pair_of rows)
with_found_past s at [] h = refl
with_found_past s zero (r ∷ rows) h = absurd (omega arith)
with_found_past s (suc at) (r ∷ rows) h = ap (λ (v : List (Bindings × List Bindings)). pair_of r ∷ v) (with_found_past s at rows (omega arith))

pub with_found_at : (s : Bindings) (at : ℕ) (rows : List LeftRow) (d new : LeftRow) → at < length rows → new.row ≡ (get_or rows at d).row → new.found.items ≡ (get_or rows at d).found.items ++ s ∷ []
    → map pair_of (set rows at new) ≡ with_found s at (map pair_of rows)
with_found_at s at [] d new h e f = absurd (omega arith)
with_found_at s zero (r ∷ rows) d new h e f = λ i. (e i, f i) ∷ map pair_of rows
with_found_at s (suc at) (r ∷ rows) d new h e f = ap (λ (v : List (Bindings × List Bindings)). pair_of r ∷ v) (with_found_at s at rows d new (omega arith) e f)
