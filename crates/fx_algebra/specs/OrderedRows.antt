-- The rows of an answer under ORDER BY (SPARQL 1.1 sections 15.1 and 18.2.5), in this project's profile: rows that the keys leave
-- equal come in the order of the projected row.
use Rattle.std.specs.Prelude.{◌≡◌, ℕ, Bool, true, false, List, [], ◌∷◌, map, drop, Option, None, All, IsTrue}
use Rattle.std.specs.declared.cmp.Ordering.{Ordering}
use Rattle.std.specs.declared.cmp.Ordering.TheVariants.{Equal}
use Rattle.std.specs.Ordering.{ordering_then, ordering_reverse}
use Rattle.fx_terms.specs.declared.terms.Term.{Term}
use Rattle.fx_algebra.specs.Solutions.{Bindings, rises, SameRows}
use Rattle.fx_algebra.specs.Sequences.{projected, row_cmp, sorted_by}
use Rattle.fx_algebra.specs.declared.queries.Order.{Order}
use Rattle.fx_algebra.specs.Keys.{key_order}
use Rattle.fx_algebra.specs.Values.{value}
use Rattle.fx_algebra.specs.declared.keys.Keyed.{Keyed}

-- a key of a whole row
unfoldable pub key_of : Bindings → Order → Option Term
key_of s o = value o.expr s

-- the keys of a row beside the projected row
abbrev pub keyed : List Order → List (List ℕ) → Bindings → Keyed
keyed orders columns s = record { keys = map (key_of s) orders; row = projected columns s }

abbrev pub first_key : List (Option Term) → Option Term
first_key [] = None
first_key (k ∷ ks) = k

-- DESC turns the order of its key round
abbrev pub directed : Bool → Ordering → Ordering
directed true r = ordering_reverse r
directed false r = r

abbrev pub key_cmp : Order → Option Term → Option Term → Ordering
key_cmp o a b = directed o.descending (key_order a b)

-- by the first key, and then by the next
abbrev pub keys_cmp : List Order → List (Option Term) → List (Option Term) → Ordering
keys_cmp [] a b = Equal
keys_cmp (o ∷ os) a b = ordering_then (key_cmp o (first_key a) (first_key b)) (keys_cmp os (drop 1 a) (drop 1 b))

-- by the keys, and then by the projected row
abbrev pub keyed_cmp : List Order → List (List ℕ) → Keyed → Keyed → Ordering
keyed_cmp orders columns a b = ordering_then (keys_cmp orders a.keys b.keys) (row_cmp columns a.row b.row)

-- the projected rows in their order
abbrev pub in_order : List Order → List (List ℕ) → List Bindings → List Bindings
in_order orders columns rows = map (λ k. k.row) (sorted_by (keyed_cmp orders columns) (map (keyed orders columns) rows))

-- the same rows, however they arrived, come in one order
abbrev pub OneOrder : Type 0
OneOrder = (orders : List Order) (columns : List (List ℕ)) (a b : List Bindings) → All (λ s. IsTrue (rises s)) a → SameRows a b → in_order orders columns a ≡ in_order orders columns b
