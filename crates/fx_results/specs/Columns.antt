-- Names that are found by their texts.
use Rattle.std.specs.Prelude.{◌≡◌, ℕ, List, Some, None, String, bytes_eq, if◌then◌else◌}
use Rattle.std.specs.declared.alloc.Global.{Global}
use Rattle.std.specs.Map.{lookup}
use Rattle.std.specs.String.{string_bytes}
use Rattle.fx_algebra.specs.Scopes.{is_among}

-- each of the names, and no other, is found at its text
abbrev pub IsIndex : List (String Global × List ℕ) → List (List ℕ) → Type 0
IsIndex entries names = (q : List ℕ) → lookup (λ k. bytes_eq q (string_bytes k)) entries ≡ (if is_among names q then Some q else None)
