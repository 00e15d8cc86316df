-- What a batch is: a unit and rows, its branches, its query and its text.
use Rattle.std.specs.Prelude.{◌<◌, ◌≤◌, ◌^◌, ℕ, List, [], ◌∷◌, map, length, Option, Some, None, All, IsTrue}
use Rattle.fx_algebra.specs.Printed.{Word, joined, printed_query}
use Rattle.fx_algebra.specs.Solutions.{Bindings, rises}
use Rattle.fx_algebra.specs.declared.queries.Query.{Query}
use Rattle.fx_algebra.specs.declared.units.Row.{Row}
use Rattle.fx_algebra.specs.declared.units.Unit as units
use Rattle.fx_spelling.specs.Units.{IsFit}
use Rattle.fx_bound.specs.Batches.{batch_query}
use Rattle.fx_bound.specs.Reading.{check_name, free_among, named, unit_names}
use Rattle.fx_bound.specs.Texts.{HasTerms}
use Rattle.fx_founds.specs.Uniting.{Place, branches}
use Rattle.fx_bound.specs.declared.branches.Branch.{Branch}

-- what a batch is made of
pub record Parts : Type 0 where
  pub unit : units.Unit
  pub rows : List Row

-- the rows that it asks for
abbrev pub places : Parts → List Place
places p = branches p.unit p.rows

-- ---- its branches

-- the other name of each variable that the row leaves free, beside its own
abbrev pub sent_by : List (List ℕ) → ℕ → Bindings → List (List ℕ × List ℕ)
sent_by names number row = map (λ name. (named names number name, name)) (free_among names row)

-- the name that says that there is a solution, where none is sent
abbrev pub checked_when : ℕ → List (List ℕ × List ℕ) → Option (List ℕ)
checked_when number [] = Some (check_name number)
checked_when number (e ∷ es) = None

abbrev pub branch_by : List (List ℕ) → Place → Branch
branch_by names b = record {
  number = b.number;
  row = b.row;
  sent = sent_by names b.number b.row.solution;
  checked = checked_when b.number (sent_by names b.number b.row.solution);
}

abbrev pub branch_of : units.Unit → Place → Branch
branch_of u = branch_by (unit_names u)

abbrev pub branches_of : Parts → List Branch
branches_of p = map (branch_of p.unit) (places p)

-- ---- its text

abbrev pub query_of : Parts → Query
query_of p = batch_query p.unit (places p)

abbrev pub printed_by : Query → List Place → Option (List ℕ)
printed_by query [] = None
printed_by query (b ∷ bs) = Some (printed_query query)

abbrev pub printed_words : List Word → List Branch → Option (List ℕ)
printed_words words [] = None
printed_words words (b ∷ bs) = Some (joined words)

-- none exactly where no branch is left
abbrev pub text_of : Parts → Option (List ℕ)
text_of p = printed_by (query_of p) (places p)

-- ---- what holds of each batch

-- its names rise, and its terms are terms
pub record IsKnown (s : Bindings) : Type 0 where
  pub rising : IsTrue (rises s)
  pub terms : HasTerms s

abbrev pub AreKnown : List Row → Type 0
AreKnown rows = All (λ r. IsKnown r.solution) rows

pub record IsBatch (p : Parts) : Type 0 where
  pub fit : IsFit p.unit
  pub named : length (unit_names p.unit) < 2 ^ 64
  pub few : length p.rows ≤ 64
  pub known : AreKnown p.rows
