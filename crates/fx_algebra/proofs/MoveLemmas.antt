-- Steps of a group give the same rows from the same rows, however these arrived.
use Rattle.std.proofs.Common.{◌≡◌, sym, subst, ℕ, ◌+◌, List, [], ◌∷◌, map, IsPermutation}
use Rattle.std.specs.List.{AllByRecursion}
use Rattle.std.proofs.lemmas.List.Sorted.{IsPermutation-refl}
use Rattle.fx_terms.specs.declared.triples.Triple.{Triple}
use Rattle.fx_terms.specs.declared.patterns.Pattern.{Pattern}
use Rattle.fx_algebra.specs.BasicGraphPatterns.{bgp}
use Rattle.fx_algebra.specs.Groups.{Part, pattern, condition, operator, Step, run, apply, Meaning, element_meaning, group_meaning, with_pattern, with_part, steps_of, after, group_rows, alternatives, service_rows}
use Rattle.fx_algebra.specs.Operators.{join, inline_rows}
use Rattle.fx_algebra.specs.Solutions.{Bindings}
use Rattle.fx_algebra.specs.declared.queries.Element.{Element, Element-F, fold_out-Element}
use Rattle.fx_algebra.proofs.CutLemmas.{part_of}
use Rattle.fx_algebra.proofs.JoinLemmas.{same_join}
use Rattle.fx_algebra.proofs.OperatorLemmas.{extend_moves, left_join_moves, minus_moves}

abbrev pub Moves : (List Triple → ℕ → List Bindings → List Bindings) → Type 0
Moves f = (graph : List Triple) (number : ℕ) (xs ys : List Bindings) → IsPermutation xs ys → IsPermutation (f graph number xs) (f graph number ys)

abbrev pub PartMoves : Part → Type 0
PartMoves (pattern p) = Unit {0}
PartMoves (condition e) = Unit {0}
PartMoves (operator o) = Moves o.rows

abbrev pub StepMoves : Step → Type 0
StepMoves (run ps) = Unit {0}
StepMoves (apply o) = Moves o.rows

pub element_moves : (graphs : List ℕ → List Triple) (down : List ℕ) (e : Element-F Part Meaning) → PartMoves (element_meaning graphs down e)
element_moves graphs down (Element-F.Triple p) = tt
element_moves graphs down (Element-F.Filter e) = tt
element_moves graphs down (Element-F.Optional g) = λ graph number xs ys h. left_join_moves xs ys (g.rows graph number) (g.rows graph number) g.filters h (IsPermutation-refl (g.rows graph number))
element_moves graphs down (Element-F.Union gs) = λ graph number xs ys h. same_join xs ys (alternatives gs graph number) (alternatives gs graph number) h (IsPermutation-refl (alternatives gs graph number))
element_moves graphs down (Element-F.Minus g) = λ graph number xs ys h. minus_moves xs ys (group_rows g graph number) (group_rows g graph number) h (IsPermutation-refl (group_rows g graph number))
element_moves graphs down (Element-F.Bind e name) = λ graph number xs ys h. extend_moves name e xs ys h
element_moves graphs down (Element-F.Values inline) = λ graph number xs ys h. same_join xs ys (inline_rows inline) (inline_rows inline) h (IsPermutation-refl (inline_rows inline))
element_moves graphs down (Element-F.Service silent iri g) =
    λ graph number xs ys h. same_join xs ys (service_rows graphs down iri g number) (service_rows graphs down iri g number) h (IsPermutation-refl (service_rows graphs down iri g number))

pub part_moves : (graphs : List ℕ → List Triple) (down : List ℕ) (e : Element) → PartMoves (part_of graphs down e)
part_moves graphs down e = subst PartMoves (sym (fold_out-Element Part Meaning (element_meaning graphs down) group_meaning e)) (element_moves graphs down _)

with_pattern_moves : (p : Pattern) (steps : List Step) → AllByRecursion StepMoves steps → AllByRecursion StepMoves (with_pattern p steps)
with_pattern_moves p [] h = (tt, tt)
with_pattern_moves p (run ps ∷ steps) h = (tt, h.1)
with_pattern_moves p (apply o ∷ steps) h = (tt, h)

with_part_moves : (part : Part) (steps : List Step) → PartMoves part → AllByRecursion StepMoves steps → AllByRecursion StepMoves (with_part part steps)
with_part_moves (pattern p) steps h k = with_pattern_moves p steps k
with_part_moves (condition e) steps h k = k
with_part_moves (operator o) steps h k = (h, k)

pub steps_move : (graphs : List ℕ → List Triple) (down : List ℕ) (elements : List Element) → AllByRecursion StepMoves (steps_of (map (part_of graphs down) elements))
steps_move graphs down [] = tt
steps_move graphs down (e ∷ es) = with_part_moves (part_of graphs down e) (steps_of (map (part_of graphs down) es)) (part_moves graphs down e) (steps_move graphs down es)

pub after_moves : (graph : List Triple) (steps : List Step) → AllByRecursion StepMoves steps → (number : ℕ) (xs ys : List Bindings) → IsPermutation xs ys → IsPermutation (after graph number xs steps) (after graph number ys steps)
after_moves graph [] all number xs ys h = h
after_moves graph (run ps ∷ steps) all number xs ys h = after_moves graph steps all.1 number (join xs (bgp graph ps)) (join ys (bgp graph ps)) (same_join xs ys (bgp graph ps) (bgp graph ps) h (IsPermutation-refl (bgp graph ps)))
after_moves graph (apply o ∷ steps) all number xs ys h = after_moves graph steps all.1 (number + o.services) (o.rows graph number xs) (o.rows graph number ys) (all.0 graph number xs ys h)
