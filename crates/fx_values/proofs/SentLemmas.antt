-- What a row tells by the columns of a block is what it tells by the unit.
use Rattle.std.proofs.Common.{◌≡◌, ◌∙◌, ap, sym, refl, ℕ, Bool, true, false, not, ◌&&◌, ◌||◌, cond, List, [], ◌∷◌, map, filter, IsTrue}
use Rattle.std.specs.Prelude.{MatchResult, Result, Ok, Err, is_none, pos}
use Rattle.std.specs.List.{list_all, list_any}
use Rattle.fx_terms.specs.declared.terms.Term.{Term}
use Rattle.fx_algebra.specs.Operators.{with_value}
use Rattle.fx_algebra.specs.Scopes.{is_among}
use Rattle.fx_algebra.specs.Solutions.{Bindings, rises, term_of}
use Rattle.fx_algebra.specs.Values.{integer}
use Rattle.fx_algebra.specs.declared.units.Row.{Row}
use Rattle.fx_algebra.specs.declared.units.Unit as unit
use Rattle.fx_renaming.specs.Branches.{told}
use Rattle.fx_renaming.proofs.BranchLemmas.{value_rises}
use Rattle.fx_founds.specs.Uniting.{Place}
use Rattle.fx_values.specs.Parts.{columns_by, place_by}
use Rattle.fx_values.specs.Reading as reading
use Rattle.fx_values.specs.Reading.{is_own, is_that, located_by, read_row}
use Rattle.fx_values.specs.Sent as block
use Rattle.fx_values.specs.Sent.{has_own, lacks_one, with_told}
use Rattle.fx_values.specs.Values.{number_name, renamed, unit_names}
use Rattle.fx_values.specs.declared.columns.Columns.{Columns}
use Rattle.fx_values.specs.declared.faults.RowFault.{RowFault}
use Rattle.fx_values.specs.declared.faults.RowFault.TheVariants.{Foreign, Partial}
use Rattle.fx_values.specs.declared.located.Located.{Located}
use Rattle.fx_values.proofs.BlockTextLemmas.{all_columns_are}

pub sent_rises : (sent : List (List ℕ × List ℕ)) (row t : Bindings) → IsTrue (rises row) → IsTrue (rises (with_told sent row t))
sent_rises [] row t up = up
sent_rises (e ∷ es) row t up = sent_rises es (with_value row e.1 (term_of t e.0)) t (value_rises row e.1 (term_of t e.0) up)

-- the other name of each, beside it
abbrev paired : (List ℕ → List ℕ) → List (List ℕ) → List (List ℕ × List ℕ)
paired rename names = map (λ n. (rename n, n)) names

told_sent : (rename : List ℕ → List ℕ) (names : List (List ℕ)) (row t : Bindings) → with_told (paired rename names) row t ≡ told rename names row t
told_sent rename [] row t = refl
told_sent rename (n ∷ ns) row t = told_sent rename ns (with_value row n (term_of t (rename n))) t

own_sent : (rename : List ℕ → List ℕ) (names : List (List ℕ)) (row t : Bindings) → has_own (paired rename names) row t ≡ list_all (λ name. is_own (term_of row name) (term_of t (rename name))) names
own_sent rename [] row t = refl
own_sent rename (n ∷ ns) row t = ap (λ (b : Bool). is_own (term_of row n) (term_of t (rename n)) && b) (own_sent rename ns row t)

lacks_sent : (rename : List ℕ → List ℕ) (names : List (List ℕ)) (t : Bindings) → lacks_one (paired rename names) t ≡ list_any (λ name. is_none (term_of t name)) (map rename names)
lacks_sent rename [] t = refl
lacks_sent rename (n ∷ ns) t = ap (λ (b : Bool). is_none (term_of t (rename n)) || b) (lacks_sent rename ns t)

module _ (u : unit.Unit) where
  abbrev columns : Columns
  columns = columns_by (renamed u) (unit_names u)

  foreign_is : (t : Bindings) → block.is_foreign columns t ≡ reading.is_foreign u t
  foreign_is t = ap (λ (ns : List (List ℕ)). list_any (λ (e : List ℕ × Term). not (is_among ns e.0)) t) (all_columns_are u)

  partial_is : (t : Bindings) → block.is_partial columns t ≡ reading.is_partial u t
  partial_is t = ap (λ (b : Bool). is_none (term_of t number_name) || b) (lacks_sent (renamed u) (unit_names u) t)

  of_is : (t : Bindings) (r : ℕ × Row) → block.is_of columns t r ≡ reading.is_of u t (place_by r)
  of_is t r = ap (λ (b : Bool). is_that (integer (pos r.0)) (term_of t number_name) && b) (own_sent (renamed u) (unit_names u) r.1.solution t)

  kept_are : (t : Bindings) (rows : List (ℕ × Row)) → filter (reading.is_of u t) (map place_by rows) ≡ map place_by (filter (block.is_of columns t) rows)
  kept_are t [] = refl
  kept_are t (r ∷ rows) =
      by (reading.is_of u t (place_by r)) (kept_are t rows) ∙ ap (λ (b : Bool). map place_by (cond b (r ∷ filter (block.is_of columns t) rows) (filter (block.is_of columns t) rows))) (sym (of_is t r))
    where
      by : (b : Bool) → filter (reading.is_of u t) (map place_by rows) ≡ map place_by (filter (block.is_of columns t) rows)
          → cond b (place_by r ∷ filter (reading.is_of u t) (map place_by rows)) (filter (reading.is_of u t) (map place_by rows)) ≡ map place_by (cond b (r ∷ filter (block.is_of columns t) rows) (filter (block.is_of columns t) rows))
      by true e = ap (λ (v : List Place). place_by r ∷ v) e
      by false e = e

  located_is : (t : Bindings) (r : ℕ × Row) → reading.located u t (place_by r) ≡ block.located columns t r
  located_is t r = ap (λ (s : Bindings). record { row = r.0; solution = s }) (sym (told_sent (renamed u) (unit_names u) r.1.solution t))

  abbrev as_located : Bindings → Result (ℕ × Row) RowFault → Result Located RowFault
  as_located t (Ok r) = Ok (block.located columns t r)
  as_located t (Err e) = Err e

  first_is : (t : Bindings) (rows : List (ℕ × Row)) → located_by u t (map place_by rows) ≡ as_located t (block.first_of rows)
  first_is t [] = refl
  first_is t (r ∷ rows) = ap (λ (l : Located). Ok l) (located_is t r)

  row_is : (t : Bindings) (rows : List (ℕ × Row)) → read_row u (map place_by rows) t ≡ as_located t (block.row_of columns rows t)
  row_is t rows =
      by (reading.is_foreign u t) (reading.is_partial u t)
      ∙ (λ i. as_located t (cond (sym (foreign_is t) i) (Err Foreign) (cond (sym (partial_is t) i) (Err Partial) (block.first_of (filter (block.is_of columns t) rows)))))
    where
      by : (b c : Bool) → cond b (Err Foreign) (cond c (Err Partial) (located_by u t (filter (reading.is_of u t) (map place_by rows))))
          ≡ as_located t (cond b (Err Foreign) (cond c (Err Partial) (block.first_of (filter (block.is_of columns t) rows))))
      by true c = refl
      by false true = refl
      by false false = ap (located_by u t) (kept_are t rows) ∙ first_is t (filter (block.is_of columns t) rows)

  pub row_of_batch : {B : Type 0} (now : B → ℕ × Row) (places : List Place) (cs : Columns) (rows : List (ℕ × Row)) (t : Bindings) (result : Result B RowFault)
      → cs ≡ columns_by (renamed u) (unit_names u) → map place_by rows ≡ places
      → MatchResult result (λ b. block.row_of cs rows t ≡ Ok (now b)) (λ e. block.row_of cs rows t ≡ Err e)
      → MatchResult result (λ b. read_row u places t ≡ Ok (block.located (columns_by (renamed u) (unit_names u)) t (now b))) (λ e. read_row u places t ≡ Err e)
  row_of_batch now places cs rows t (Ok b) are there h =
      ap (λ (bs : List Place). read_row u bs t) (sym there) ∙ row_is t rows ∙ ap (λ (c : Columns). as_located t (block.row_of c rows t)) (sym are) ∙ ap (as_located t) h
  row_of_batch now places cs rows t (Err e) are there h =
      ap (λ (bs : List Place). read_row u bs t) (sym there) ∙ row_is t rows ∙ ap (λ (c : Columns). as_located t (block.row_of c rows t)) (sym are) ∙ ap (as_located t) h
