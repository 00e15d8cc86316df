-- Rows that are ordered whole, and projected behind.
use Rattle.std.specs.Prelude.{ℕ, List, map, take, Option, Some, None}
use Rattle.fx_algebra.specs.Solutions.{Bindings}
use Rattle.fx_algebra.specs.Sequences.{projected}
use Rattle.fx_algebra.specs.OrderedRows.{key_of}
use Rattle.fx_algebra.specs.declared.queries.Order.{Order}
use Rattle.fx_algebra.specs.declared.keys.Keyed.{Keyed}

-- the keys of a row beside the whole row
abbrev pub ranked : List Order → Bindings → Keyed
ranked orders s = record { keys = map (key_of s) orders; row = s }

abbrev pub whole_rows : List Keyed → List Bindings
whole_rows ks = map (λ k. k.row) ks

abbrev pub projected_rows : List (List ℕ) → List Keyed → List Bindings
projected_rows columns ks = map (λ k. projected columns k.row) ks

-- the rows in front that a limit leaves
abbrev pub front : Option ℕ → List Keyed → List Keyed
front (Some limit) ks = take limit ks
front None ks = ks
