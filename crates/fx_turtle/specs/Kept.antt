-- The declarations that a map of prefixes stands for: the last of each prefix.
use Rattle.std.specs.Prelude.{ℕ, List, [], ◌∷◌, ◌++◌, String}
use Rattle.std.specs.declared.alloc.Global.{Global}
use Rattle.std.specs.String.{string_bytes}
use Rattle.fx_grammar.specs.Grammar.{Prefixes}

unfoldable pub kept : List (String Global × List ℕ) → Prefixes
kept [] = []
kept (e ∷ entries) = kept entries ++ (string_bytes e.0, e.1) ∷ []
