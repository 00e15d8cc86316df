-- The pairs of a form, and of a target's query part (URL Standard, 5.1; SPARQL 1.1 Protocol, 2.1.1 and 2.1.2).
use Rattle.std.specs.Prelude.{ℕ, ◌+◌, Bool, ◌||◌, ◌==◌, List, map, filter, drop, codes, bytes_eq}
use Rattle.std.specs.List.{list_any, position_or_len}
use Rattle.std.specs.Str.Lossy.{utf8_lossy}
use Rattle.form_urlencoded.specs.Form.{decode, raw_pairs}

abbrev pub is_question_mark : ℕ → Bool
is_question_mark b = b == 63

-- what is behind a target's first `?`, or nothing where it has none
abbrev pub query_part : List ℕ → List ℕ
query_part target = drop (position_or_len is_question_mark target + 1) target

-- a name or a value, decoded; each sequence that is no UTF-8 becomes U+FFFD
abbrev pub decoded : List ℕ → List ℕ
decoded raw = utf8_lossy (decode raw)

-- the values of a form's pairs of a name, in order
abbrev pub form_values : List ℕ → List ℕ → List (List ℕ)
form_values name form = map (λ (pair : List ℕ × List ℕ). decoded pair.1) (filter (λ pair. bytes_eq (decoded pair.0) name) (raw_pairs form))

abbrev pub is_dataset_name : List ℕ → Bool
is_dataset_name raw = bytes_eq (decoded raw) (codes "default-graph-uri") || bytes_eq (decoded raw) (codes "named-graph-uri")

-- a pair of the form names a graph of the dataset
abbrev pub names_dataset : List ℕ → Bool
names_dataset form = list_any (λ (pair : List ℕ × List ℕ). is_dataset_name pair.0) (raw_pairs form)
