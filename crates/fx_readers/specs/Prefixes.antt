-- Prefixes that are found by their texts.
use Rattle.std.specs.Prelude.{◌≡◌, ℕ, List, Option, String, bytes_eq}
use Rattle.std.specs.declared.alloc.Global.{Global}
use Rattle.std.specs.Map.{lookup}
use Rattle.std.specs.String.{string_bytes}
use Rattle.fx_grammar.specs.Grammar.{Prefixes, declared}

-- the IRI at a text
abbrev pub found : List (String Global × List ℕ) → List ℕ → Option (List ℕ)
found entries q = lookup (λ k. bytes_eq q (string_bytes k)) entries

-- at each text stands the IRI that it is declared for last, where it is
abbrev pub IsFound : List (String Global × List ℕ) → Prefixes → Type 0
IsFound entries prefixes = (q : List ℕ) → found entries q ≡ declared prefixes q
