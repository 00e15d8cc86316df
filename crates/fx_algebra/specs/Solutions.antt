-- Solutions (SPARQL 1.1 section 18.1.8, solution mappings): pairs of a name and a term, by rising name, no name twice.
use Rattle.std.specs.Prelude.{ℕ, Bool, true, List, [], ◌∷◌, Option, Some, None, if◌then◌else◌, is_some, IsPermutation, fold}
use Rattle.std.specs.List.{list_all}
use Rattle.std.proofs.Common.{suc}
use Rattle.std.specs.declared.cmp.Ordering.{Ordering}
use Rattle.std.specs.Ordering.{is_eq, is_lt, ordering_then}
use Rattle.std.specs.Cmp.{IsTotalOrder}
use Rattle.std.specs.Cmp.Lexicographic.{slice_cmp}
use Rattle.std.proofs.lemmas.Cmp.{then_total, on_total, lists_total}
use Rattle.std.specs.FinMap.Entries.{find, put, is_sorted}
use Rattle.fx_terms.specs.Texts.{text_cmp, texts_total}
use Rattle.fx_terms.specs.Terms.{term_cmp, terms_total}
use Rattle.fx_terms.specs.declared.terms.Term.{Term}

abbrev pub Bindings : Type 0
Bindings = List (List ℕ × Term)

-- the term of a name
abbrev pub term_of : Bindings → List ℕ → Option Term
term_of s name = find text_cmp name s

-- whether the names rise, so that no name comes twice
abbrev pub rises : Bindings → Bool
rises s = is_sorted text_cmp s

abbrev pub same_term : Term → Term → Bool
same_term a b = is_eq (term_cmp a b)

-- with one more pair, at the name's place
abbrev pub with_pair : Bindings → List ℕ → Term → Bindings
with_pair s name term = put text_cmp name term s

-- whether a term is that of a name, where the name has one
abbrev pub is_or_none : Term → Option Term → Bool
is_or_none term None = true
is_or_none term (Some other) = same_term term other

-- whether two solutions are equal on each common name (section 18.3, compatible mappings)
abbrev pub agree : Bindings → Bindings → Bool
agree a b = list_all (λ e. is_or_none e.1 (term_of b e.0)) a

-- with one more pair, where the name has no term
abbrev pub with_new : Bindings → List ℕ × Term → Bindings
with_new s e = if is_some (term_of s e.0) then s else with_pair s e.0 e.1

-- the pairs of the first, and of the second those whose names the first lacks
abbrev pub merge : Bindings → Bindings → Bindings
merge a b = fold with_new a b

-- each solution stands in the one list as often as in the other (a multiset of solutions)
abbrev pub SameRows : List Bindings → List Bindings → Type 0
SameRows a b = IsPermutation a b

-- how many names lie below one that the pairs lack
abbrev pub place_in : Bindings → List ℕ → ℕ
place_in [] name = 0
place_in (e ∷ es) name = if is_lt (text_cmp name e.0) then 0 else suc (place_in es name)

-- ---- the order of solutions: pair by pair, by name and then by term

abbrev pub pair_cmp : List ℕ × Term → List ℕ × Term → Ordering
pair_cmp a b = ordering_then (text_cmp a.0 b.0) (term_cmp a.1 b.1)

abbrev pub solution_cmp : Bindings → Bindings → Ordering
solution_cmp = slice_cmp pair_cmp

pub solutions_total : IsTotalOrder solution_cmp
solutions_total = lists_total (then_total (on_total (λ e. e.0) texts_total) (on_total (λ e. e.1) terms_total))
