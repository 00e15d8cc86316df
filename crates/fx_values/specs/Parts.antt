-- What a batch is: a unit and the rows that its block has, its query and its text.
use Rattle.std.specs.Prelude.{◌≡◌, ◌<◌, ◌≤◌, ◌^◌, ℕ, List, [], ◌∷◌, map, length, Option, Some, None, All, IsTrue}
use Rattle.fx_algebra.specs.Printed.{Word, joined, printed_query}
use Rattle.fx_algebra.specs.Solutions.{Bindings, rises}
use Rattle.fx_algebra.specs.declared.queries.Query.{Query}
use Rattle.fx_algebra.specs.declared.units.Row.{Row}
use Rattle.fx_algebra.specs.declared.units.Unit as units
use Rattle.fx_spelling.specs.Units.{IsFit}
use Rattle.fx_founds.specs.Uniting.{Place, branches}
use Rattle.fx_values.specs.Texts.{HasTerms}
use Rattle.fx_values.specs.Values.{number_name, renamed, unit_names, values_query}
use Rattle.fx_values.specs.declared.columns.Columns.{Columns}

-- what a batch is made of: the rows that are asked for stand with the numbers that they had among those handed in
pub record Parts : Type 0 where
  pub unit : units.Unit
  pub places : List Place

-- a row with its number
abbrev pub place_by : ℕ × Row → Place
place_by r = record { number = r.0; row = r.1 }

-- ---- its text

abbrev pub query_of : Parts → Query
query_of p = values_query p.unit p.places

abbrev pub printed_by : Query → List Place → Option (List ℕ)
printed_by query [] = None
printed_by query (b ∷ bs) = Some (printed_query query)

abbrev pub printed_words : List Word → List (ℕ × Row) → Option (List ℕ)
printed_words words [] = None
printed_words words (r ∷ rows) = Some (joined words)

-- none exactly where no row is left
abbrev pub text_of : Parts → Option (List ℕ)
text_of p = printed_by (query_of p) p.places

-- ---- what holds of each batch

-- its names rise, and its terms are terms
pub record IsKnown (s : Bindings) : Type 0 where
  pub rising : IsTrue (rises s)
  pub terms : HasTerms s

abbrev pub AreKnown : List Row → Type 0
AreKnown rows = All (λ r. IsKnown r.solution) rows

-- it asks for those of at most 64 rows that are worth asking for
pub record IsValues (p : Parts) : Type 0 where
  pub fit : IsFit p.unit
  pub named : length (unit_names p.unit) < 2 ^ 64
  pub rows : List Row
  pub few : length rows ≤ 64
  pub known : AreKnown rows
  pub asked : p.places ≡ branches p.unit rows

-- ---- what it keeps beside its parts

-- the columns of names: that of the numbers, and the other name of each variable beside its own
abbrev pub columns_by : (List ℕ → List ℕ) → List (List ℕ) → Columns
columns_by rename names = record { number = number_name; sent = map (λ n. (rename n, n)) names }

abbrev pub columns_of : units.Unit → Columns
columns_of u = columns_by (renamed u) (unit_names u)

pub record IsMade (p : Parts) (names : List (List ℕ)) (columns : Columns) (text : Option (List ℕ)) : Type 0 where
  pub known : IsValues p
  pub names_are : names ≡ unit_names p.unit
  pub columns_are : columns ≡ columns_of p.unit
  pub text_is : text ≡ text_of p
