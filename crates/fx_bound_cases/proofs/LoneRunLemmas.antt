-- The run of an accepted query whose group holds triple patterns and filters alone.
use Rattle.std.proofs.Common.{◌≡◌, ◌∙◌, ap, sym, subst, refl, ℕ, ◌<◌, true, false, List, [], ◌∷◌, map, length, All, arith}
use Rattle.std.specs.Prelude.{AllPairs}
use Rattle.std.specs.List.{flat_map, list_all, list_any}
use Rattle.std.proofs.lemmas.List.Elements.{All-head, All-map}
use Rattle.fx_terms.specs.declared.patterns.Pattern.{Pattern}
use Rattle.fx_algebra.specs.Answers.{is_empty_list, no_graphs}
use Rattle.fx_algebra.specs.Cuts.{stations}
use Rattle.fx_algebra.specs.Groups.{Meaning, Part, pattern, condition, operator, Step, run, with_pattern, steps_of, stations_of, conditions_of, keeps_run, element_meaning, group_meaning, meaning}
use Rattle.fx_algebra.specs.Stations.{Station}
use Rattle.fx_algebra.specs.Stations as station
use Rattle.fx_algebra.specs.declared.expressions.Expr.{Expr}
use Rattle.fx_algebra.specs.declared.queries.Element.{Element}
use Rattle.fx_algebra.specs.declared.queries.Group.{Group, fold_out-Group}
use Rattle.fx_algebra.specs.declared.queries.Query.{Query}
use Rattle.fx_grammar.specs.Accepted.{Accepted}
use Rattle.fx_spelling.specs.Runs.{HasRun, IsRun}
use Rattle.fx_spelling.proofs.Runs.{runs_are_of_the_grammar}
use Rattle.fx_traffic.specs.Planned.{AreMembers}
use Rattle.fx_bound_cases.specs.LoneRuns.{member_of, one_member, part_filters, part_of, part_patterns}

-- ---- its steps

in_front : List Pattern → List Step
in_front [] = []
in_front (p ∷ ps) = with_pattern p (in_front ps)

one_step : (p : Pattern) (ps : List Pattern) → in_front (p ∷ ps) ≡ run (p ∷ ps) ∷ []
unfolding in_front
one_step p [] = refl
one_step p (q ∷ ps) = ap (with_pattern p) (one_step q ps)

steps_are : (parts : List Part) → list_all keeps_run parts ≡ true → steps_of parts ≡ in_front (flat_map part_patterns parts)
unfolding in_front
steps_are [] h = refl
steps_are (pattern p ∷ parts) h = ap (with_pattern p) (steps_are parts h)
steps_are (condition e ∷ parts) h = steps_are parts h
steps_are (operator o ∷ parts) h = absurd (cc)

filters_are : (parts : List Part) → conditions_of parts ≡ flat_map part_filters parts
filters_are [] = refl
filters_are (pattern p ∷ parts) = filters_are parts
filters_are (condition e ∷ parts) = ap (λ (v : List Expr). e ∷ v) (filters_are parts)
filters_are (operator o ∷ parts) = filters_are parts

meaning_is : (g : Group) → meaning no_graphs [] g ≡ group_meaning (record { elements = map part_of g.elements })
meaning_is g = fold_out-Group Part Meaning (element_meaning no_graphs []) group_meaning g

stations_are : (q : Query) → list_all keeps_run (map part_of q.group.elements) ≡ true
    → stations q ≡ stations_of (flat_map part_filters (map part_of q.group.elements)) 0 [] (in_front (flat_map part_patterns (map part_of q.group.elements)))
stations_are q h =
    let parts = map part_of q.group.elements in
    ap (λ (m : Meaning). m.cut.stations 0 []) (meaning_is q.group)
    ∙ ap (λ (es : List Expr). stations_of es 0 [] (steps_of parts)) (filters_are parts)
    ∙ ap (stations_of (flat_map part_filters parts) 0 []) (steps_are parts h)

by_steps : (ps : List Pattern) (filters : List Expr) → 0 < length ps → All HasRun (stations_of filters 0 [] (in_front ps)) → IsRun ps filters
by_steps [] filters some h = absurd (omega arith)
by_steps (p ∷ ps) filters some h =
    All-head HasRun (station.run (p ∷ ps) filters []) [] (subst (λ (steps : List Step). All HasRun (stations_of filters 0 [] steps)) (one_step p ps) h)

is_of_the_grammar : (text : List ℕ) (q : Query) → Accepted text q → list_all keeps_run (map part_of q.group.elements) ≡ true → 0 < length (flat_map part_patterns (map part_of q.group.elements))
    → IsRun (flat_map part_patterns (map part_of q.group.elements)) (flat_map part_filters (map part_of q.group.elements))
is_of_the_grammar text q accepted h some =
    let parts = map part_of q.group.elements in
    by_steps (flat_map part_patterns parts) (flat_map part_filters parts) some (subst (λ (all : List Station). All HasRun all) (stations_are q h) (runs_are_of_the_grammar text q accepted))

some_of : (ps : List Pattern) → (ps ≡ [] → ⊥) → 0 < length ps
some_of [] h = absurd (h refl)
some_of (p ∷ ps) h = omega arith

-- the same by lists that are its own
pub of_query : (text : List ℕ) (q : Query) (es : List Element) (ps : List Pattern) (filters : List Expr) → Accepted text q → es ≡ q.group.elements → list_all keeps_run (map part_of es) ≡ true
    → (ps ≡ [] → ⊥) → ps ≡ flat_map part_patterns (map part_of es) → filters ≡ flat_map part_filters (map part_of es) → IsRun ps filters
of_query text q es ps filters accepted here keeps some a b =
    let its = ap (λ (v : List Element). flat_map part_patterns (map part_of v)) here in
    let own = ap (λ (v : List Element). flat_map part_filters (map part_of v)) here in
    let whole = is_of_the_grammar text q accepted (ap (λ (v : List Element). list_all keeps_run (map part_of v)) (sym here) ∙ keeps) (subst (λ (v : List Pattern). 0 < length v) (a ∙ its) (some_of ps some)) in
    subst (λ (v : List Pattern). IsRun v filters) (sym (a ∙ its)) (subst (λ (v : List Expr). IsRun (flat_map part_patterns (map part_of q.group.elements)) v) (sym (b ∙ own)) whole)

-- ---- its member

none_empty : (ps : List Pattern) → list_any is_empty_list (map member_of ps) ≡ false
none_empty [] = refl
none_empty (p ∷ ps) = none_empty ps

one_rises : AllPairs ◌<◌ one_member
one_rises i j d before within = absurd (omega arith)

pub are_members : (ps : List Pattern) → AreMembers (map member_of ps)
are_members ps = record { some = none_empty ps; rising = All-map (AllPairs ◌<◌) member_of ps (λ k d below. one_rises) }
