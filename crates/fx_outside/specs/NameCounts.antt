-- Counts, one for each name.
use Rattle.std.specs.Prelude.{◌≡◌, ℕ, ◌<◌, Bool, List, [], ◌∷◌, String, string_bytes, bytes_eq, if◌then◌else◌, slice_get, Some}
use Rattle.std.specs.List.{position_or_len}
use Rattle.std.specs.declared.alloc.Global.{Global}
use Rattle.fx_outside.specs.declared.name_counts.NameCounts.{NameCounts}

-- whether an entry is that of a name
abbrev pub has_name : List ℕ → String Global × ℕ → Bool
has_name name entry = bytes_eq (string_bytes entry.0) name

-- what the first entry of a name counts, or 0
abbrev pub count_in : List (String Global × ℕ) → List ℕ → ℕ
count_in [] name = 0
count_in (entry ∷ entries) name = if has_name name entry then entry.1 else count_in entries name

-- the count of a name
abbrev pub count_of : NameCounts → List ℕ → ℕ
count_of c name = count_in c.counts.items name

-- the count at this place is the name's, and has room for one more
abbrev pub IsPlaceOf : NameCounts → ℕ → List ℕ → Type 0
IsPlaceOf c place name = (position_or_len (has_name name) c.counts.items ≡ place) × ((entry : String Global × ℕ) × (slice_get c.counts.items place ≡ Some entry) × (entry.1 < 18446744073709551615))
