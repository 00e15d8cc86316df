-- How the rows of a group come of those after its elements, one element after the other.
use Rattle.std.proofs.Common.{◌≡◌, ◌∙◌, ap, sym, subst, refl, ℕ, suc, ◌+◌, ◌<◌, ◌≤◌, Bool, true, false, T, cond, List, [], ◌∷◌, ◌++◌, map, length, take, drop, get_or, Option, Some, None, IsTrue, IsPermutation, arith, append-nil, append_assoc}
use Rattle.std.proofs.lemmas.List.{map-append, take_more, drop_more, drop_all}
use Rattle.std.proofs.lemmas.List.Elements.{recursion_from_All}
use Rattle.std.specs.Prelude.{All}
use Rattle.std.specs.List.{AllByRecursion, filter_map, cons_option}
use Rattle.std.proofs.lemmas.List.Sorted.{IsPermutation-refl, IsPermutation-trans}
use Rattle.fx_terms.specs.declared.terms.Term.{Term}
use Rattle.fx_terms.specs.declared.triples.Triple.{Triple}
use Rattle.fx_terms.specs.declared.patterns.Pattern.{Pattern}
use Rattle.fx_terms.specs.declared.patterns.PatternTerm.{PatternTerm}
use Rattle.fx_algebra.specs.BasicGraphPatterns.{parts_of, forced, bgp}
use Rattle.fx_algebra.specs.Evaluation.{extended}
use Rattle.fx_algebra.specs.Operators.{join, merges, left_join, extend, inline_rows}
use Rattle.fx_algebra.specs.Solutions.{Bindings, rises}
use Rattle.fx_algebra.specs.Groups.{Part, pattern, condition, operator, Step, run, apply, Meaning, meaning, element_meaning, group_meaning, with_pattern, with_part, steps_of, after, conditions_of, part_services, parts_services, groups_services, one_empty, group_rows, alternatives, is_down, service_rows}
use Rattle.fx_algebra.specs.declared.expressions.Expr.{Expr}
use Rattle.fx_algebra.specs.declared.queries.Element.{Element, Element-F, map-Element, fold-roll-Element, roll-Element}
use Rattle.fx_algebra.specs.declared.queries.Element.TheVariants.{Triple as Triple-E, Filter, Optional, Union, Minus, Bind, Values, Service, rolls-Triple, rolls-Filter, rolls-Optional, rolls-Union, rolls-Minus, rolls-Bind, rolls-Values, rolls-Service}
use Rattle.fx_algebra.specs.declared.queries.Inline.{Inline}
use Rattle.fx_algebra.specs.declared.queries.Group.{Group, fold_out-Group}
use Rattle.fx_algebra.proofs.ForcedLemmas.{IsForced, of_outcome, forced_is}
use Rattle.fx_algebra.proofs.JoinLemmas.{join_extends, join_run}
use Rattle.fx_steps.specs.Fewer.{AreFewer}
use Rattle.fx_evaluation.specs.GroupRows.{AreDown, part_of, after_part, AreFewerRows, AreUnfiltered, AreFilters, AreMoreFilters, AreAlternatives, AreAfter}
use Rattle.fx_evaluation.proofs.ConditionLemmas.{all_of_them}
use Rattle.fx_evaluation.proofs.OutsideLemmas.{fewer_appended}
use Rattle.fx_algebra.proofs.MoveLemmas.{after_moves, steps_move}
use Rattle.fx_algebra.proofs.OperatorLemmas.{filtered_by_none, left_join_moves, join_one}

-- the rows rise by their names
abbrev pub AllRise : List Bindings → Type 0
AllRise rows = AllByRecursion (λ s. T (rises s)) rows

-- ---- rows that rise stay so

all_append : {X : Type 0} (P : X → Type 0) (xs ys : List X) → AllByRecursion P xs → AllByRecursion P ys → AllByRecursion P (xs ++ ys)
all_append P [] ys h k = k
all_append P (x ∷ xs) ys h k = (h.0, all_append P xs ys h.1 k)

to_T : (b : Bool) → b ≡ true → T b
to_T true h = tt
to_T false h = cc

true_from : (b : Bool) → T b → b ≡ true
true_from true h = refl
true_from false h = absurd h

rising_row : (a : Bindings) (cs : List (PatternTerm × Term)) (r : Bindings) → T (rises a) → forced a cs ≡ Some r → T (rises r)
rising_row a cs r up e = to_T _ ((of_outcome (IsForced a cs) (forced a cs) r e (forced_is a cs)).rising (true_from _ up))

rising_some : (a : Bindings) (cs : List (PatternTerm × Term)) (o : Option Bindings) (rows : List Bindings) → T (rises a) → forced a cs ≡ o → AllRise rows → AllRise (cons_option o rows)
rising_some a cs None rows up e h = h
rising_some a cs (Some r) rows up e h = (rising_row a cs r up e, h)

rising_rows : (p : Pattern) (a : Bindings) (ts : List Triple) → T (rises a) → AllRise (filter_map (λ t. forced a (parts_of p t)) ts)
rising_rows p a [] up = tt
rising_rows p a (t ∷ ts) up = rising_some a (parts_of p t) (forced a (parts_of p t)) _ up refl (rising_rows p a ts up)

pub rising_extended : (graph : List Triple) (p : Pattern) (rows : List Bindings) → AllRise rows → AllRise (extended graph p rows)
rising_extended graph p [] up = tt
rising_extended graph p (a ∷ rows) up = all_append (λ s. T (rises s)) (filter_map (λ t. forced a (parts_of p t)) graph) (extended graph p rows) (rising_rows p a graph up.0) (rising_extended graph p rows up.1)

-- ---- a pattern before steps

join_more : (graph : List Triple) (p : Pattern) (ps : List Pattern) (rows : List Bindings) → AllRise rows → join rows (bgp graph (p ∷ ps)) ≡ join (extended graph p rows) (bgp graph ps)
join_more graph p ps rows up = join_run graph (p ∷ ps) rows up ∙ sym (join_run graph ps (extended graph p rows) (rising_extended graph p rows up))

pub after_pattern : (graph : List Triple) (number : ℕ) (p : Pattern) (steps : List Step) (rows : List Bindings) → AllRise rows → after graph number rows (with_pattern p steps) ≡ after graph number (extended graph p rows) steps
after_pattern graph number p [] rows up = join_extends graph p rows up
after_pattern graph number p (run ps ∷ steps) rows up = ap (λ v. after graph number v steps) (join_more graph p ps rows up)
after_pattern graph number p (apply o ∷ steps) rows up = ap (λ v. after graph number v (apply o ∷ steps)) (join_extends graph p rows up)

-- ---- one element more

pub plus_none : (n : ℕ) → n + 0 ≡ n
plus_none n = omega arith

pub part_step : (graph : List Triple) (number : ℕ) (part : Part) (steps : List Step) (rows : List Bindings) → AllRise rows → after graph number rows (with_part part steps) ≡ after graph (number + part_services part) (after_part graph number rows part) steps
part_step graph number (pattern p) steps rows up = after_pattern graph number p steps rows up ∙ ap (λ n. after graph n (extended graph p rows) steps) (sym (plus_none number))
part_step graph number (condition e) steps rows up = ap (λ n. after graph n rows steps) (sym (plus_none number))
part_step graph number (operator o) steps rows up = refl

abbrev pub services_of : (List ℕ → List Triple) → List ℕ → List Element → ℕ
services_of graphs down elements = parts_services (map (part_of graphs down) elements)

pub services_append : (graphs : List ℕ → List Triple) (down : List ℕ) (xs ys : List Element) → services_of graphs down (xs ++ ys) ≡ services_of graphs down xs + services_of graphs down ys
services_append graphs down [] ys = omega arith
services_append graphs down (x ∷ xs) ys =
    let rest : services_of graphs down (xs ++ ys) ≡ services_of graphs down xs + services_of graphs down ys = services_append graphs down xs ys in
    omega (arith, rest)

pub down_within : (down : List ℕ) (number count start part : ℕ) → AreDown down number count → number ≤ start → start + part ≤ number + count → AreDown down start part
down_within down number count start part h low high = record { each = λ n a b. h.each n (omega arith) (omega arith) }

-- what is left completes the rows after the elements so far
pub record IsSoFar (all done left : List Element) (graph : List Triple) (rows : List Bindings) : Type 0 where
  pub split : done ++ left ≡ all
  pub same : (graphs : List ℕ → List Triple) (down : List ℕ) (number : ℕ) → AreDown down number (services_of graphs down all)
      → IsPermutation (after graph number one_empty (steps_of (map (part_of graphs down) all))) (after graph (number + services_of graphs down done) rows (steps_of (map (part_of graphs down) left)))

pub so_far_first : (all : List Element) (graph : List Triple) → IsSoFar all [] all graph one_empty
so_far_first all graph = record {
  split = refl;
  same = λ graphs down number h.
      subst (λ n. IsPermutation (after graph number one_empty (steps_of (map (part_of graphs down) all))) (after graph n one_empty (steps_of (map (part_of graphs down) all)))) (sym (plus_none number))
      (IsPermutation-refl (after graph number one_empty (steps_of (map (part_of graphs down) all))));
}

module _ (all done left : List Element) (e : Element) (graph : List Triple) (before rows : List Bindings) where
  more_at : IsSoFar all done (e ∷ left) graph before → AllRise before → AreAfter e graph before rows → (graphs : List ℕ → List Triple) (down : List ℕ) (number : ℕ) → AreDown down number (services_of graphs down all)
      → IsPermutation (after graph number one_empty (steps_of (map (part_of graphs down) all))) (after graph (number + services_of graphs down (done ++ e ∷ [])) rows (steps_of (map (part_of graphs down) left)))
  more_at so up next graphs down number h =
      let part = part_of graphs down e in
      let steps = steps_of (map (part_of graphs down) left) in
      let start = after graph number one_empty (steps_of (map (part_of graphs down) all)) in
      let here = number + services_of graphs down done in
      let counted : services_of graphs down (done ++ e ∷ left) ≡ services_of graphs down done + services_of graphs down (e ∷ left) = services_append graphs down done (e ∷ left) in
      let whole : services_of graphs down (done ++ e ∷ left) ≡ services_of graphs down all = ap (services_of graphs down) so.split in
      let all_here : AreDown down here (part_services part) = down_within down number (services_of graphs down all) here (part_services part) h (omega arith) (omega (arith, counted, whole)) in
      let one : services_of graphs down (done ++ e ∷ []) ≡ services_of graphs down done + services_of graphs down (e ∷ []) = services_append graphs down done (e ∷ []) in
      let behind : here + part_services part ≡ number + services_of graphs down (done ++ e ∷ []) = omega (arith, one) in
      let moved = after_moves graph steps (steps_move graphs down left) (here + part_services part) (after_part graph here before part) rows (next.same graphs down here all_here) in
      IsPermutation-trans start (after graph (here + part_services part) (after_part graph here before part) steps) (after graph (number + services_of graphs down (done ++ e ∷ [])) rows steps)
      (subst (λ (v : List Bindings). IsPermutation start v) (part_step graph here part steps before up) (so.same graphs down number h))
      (subst (λ n. IsPermutation (after graph (here + part_services part) (after_part graph here before part) steps) (after graph n rows steps)) behind moved)

  pub so_far_more : IsSoFar all done (e ∷ left) graph before → AllRise before → AreAfter e graph before rows → IsSoFar all (done ++ e ∷ []) left graph rows
  so_far_more so up next = record { split = append_assoc done (e ∷ []) left ∙ so.split; same = more_at so up next }

pub all_rise : (rows : List Bindings) → AllByRecursion (λ s. IsTrue (rises s)) rows → AllRise rows
all_rise [] h = tt
all_rise (s ∷ rows) h = (to_T (rises s) h.0, all_rise rows h.1)

pub taken : {X : Type 0} (xs : List X) (i : ℕ) (x : X) → i < length xs → x ≡ get_or xs i x → take i xs ++ x ∷ [] ≡ take (i + 1) xs
taken xs i x b e = ap (λ v. take i xs ++ v ∷ []) e ∙ sym (take_more xs i x b)

pub so_far_at : (all : List Element) (i : ℕ) (e : Element) (graph : List Triple) (before rows : List Bindings) → i < length all → e ≡ get_or all i e
    → IsSoFar all (take i all) (drop i all) graph before → AllRise before → AreAfter e graph before rows → IsSoFar all (take (i + 1) all) (drop (i + 1) all) graph rows
so_far_at all i e graph before rows b is so up next =
    let split : drop i all ≡ e ∷ drop (i + 1) all = drop_more all i e b ∙ ap (λ (v : Element). v ∷ drop (i + 1) all) (sym is) in
    let here : IsSoFar all (take i all) (e ∷ drop (i + 1) all) graph before = subst (λ (v : List Element). IsSoFar all (take i all) v graph before) split so in
    subst (λ (v : List Element). IsSoFar all v (drop (i + 1) all) graph rows) (taken all i e b is) (so_far_more all (take i all) (drop (i + 1) all) e graph before rows here up next)

pub so_far_next : (all : List Element) (i : ℕ) (e : Element) (graph : List Triple) (before rows : List Bindings) → i < length all → e ≡ get_or all i e
    → IsSoFar all (take i all) (drop i all) graph before → All (λ s. IsTrue (rises s)) before → AreAfter e graph before rows → IsSoFar all (take (i + 1) all) (drop (i + 1) all) graph rows
so_far_next all i e graph before rows b is so up = so_far_at all i e graph before rows b is so (all_rise before (recursion_from_All (λ s. IsTrue (rises s)) before up))

pub meaning_is : (graphs : List ℕ → List Triple) (down : List ℕ) (g : Group) → meaning graphs down g ≡ group_meaning (record { elements = map (part_of graphs down) g.elements })
meaning_is graphs down g = fold_out-Group Part Meaning (element_meaning graphs down) group_meaning g

pub so_far_all : (g : Group) (done : List Element) (graph : List Triple) (rows : List Bindings) → IsSoFar g.elements done [] graph rows → AreUnfiltered g graph rows
so_far_all g done graph rows so = record {
  same = λ graphs down number h.
      subst (λ (m : Meaning). IsPermutation (m.rows graph number) rows) (sym (meaning_is graphs down g))
      (so.same graphs down number (subst (λ (m : Meaning). AreDown down number m.services) (meaning_is graphs down g) h));
}

pub so_far_end : (g : Group) (all : List Element) (i : ℕ) (graph : List Triple) (rows : List Bindings) → all ≡ g.elements → length all ≤ i → IsSoFar all (take i all) (drop i all) graph rows → AreUnfiltered g graph rows
so_far_end g all i graph rows e b so =
    so_far_all g (take i all) graph rows
    (subst (λ (v : List Element). IsSoFar v (take i all) [] graph rows) e (subst (λ (v : List Element). IsSoFar all (take i all) v graph rows) (drop_all i all b) so))

-- ---- one element

module _ (graphs : List ℕ → List Triple) (down : List ℕ) where
  rolled : (e : Element-F Element Group) → part_of graphs down (roll-Element e) ≡ element_meaning graphs down (map-Element Element Group Part Meaning (part_of graphs down) (meaning graphs down) e)
  rolled e = fold-roll-Element Part Meaning (element_meaning graphs down) group_meaning e

  pub part_triple : (p : Pattern) → part_of graphs down (Triple-E p) ≡ pattern p
  part_triple p = ap (part_of graphs down) (sym (rolls-Triple p)) ∙ rolled (Element-F.Triple p)

  pub part_filter : (e : Expr) → part_of graphs down (Filter e) ≡ condition e
  part_filter e = ap (part_of graphs down) (sym (rolls-Filter e)) ∙ rolled (Element-F.Filter e)

  pub part_optional : (g : Group) → part_of graphs down (Optional g) ≡ element_meaning graphs down (Element-F.Optional (meaning graphs down g))
  part_optional g = ap (part_of graphs down) (sym (rolls-Optional g)) ∙ rolled (Element-F.Optional g)

  pub part_union : (gs : List Group) → part_of graphs down (Union gs) ≡ element_meaning graphs down (Element-F.Union (map (meaning graphs down) gs))
  part_union gs = ap (part_of graphs down) (sym (rolls-Union gs)) ∙ rolled (Element-F.Union gs)

  pub part_minus : (g : Group) → part_of graphs down (Minus g) ≡ element_meaning graphs down (Element-F.Minus (meaning graphs down g))
  part_minus g = ap (part_of graphs down) (sym (rolls-Minus g)) ∙ rolled (Element-F.Minus g)

  pub part_bind : (e : Expr) (name : List ℕ) → part_of graphs down (Bind e name) ≡ element_meaning graphs down (Element-F.Bind e name)
  part_bind e name = ap (part_of graphs down) (sym (rolls-Bind e name)) ∙ rolled (Element-F.Bind e name)

  pub part_values : (inline : Inline) → part_of graphs down (Values inline) ≡ element_meaning graphs down (Element-F.Values inline)
  part_values inline = ap (part_of graphs down) (sym (rolls-Values inline)) ∙ rolled (Element-F.Values inline)

  pub part_service : (silent : Bool) (iri : List ℕ) (g : Group) → part_of graphs down (Service silent iri g) ≡ element_meaning graphs down (Element-F.Service silent iri (meaning graphs down g))
  part_service silent iri g = ap (part_of graphs down) (sym (rolls-Service silent iri g)) ∙ rolled (Element-F.Service silent iri g)

module _ (graph : List Triple) (before rows : List Bindings) where
  -- where a part is known, the rows after it are
  pub by_part : (e : Element) (known : (List ℕ → List Triple) → List ℕ → Part) → ((graphs : List ℕ → List Triple) (down : List ℕ) → part_of graphs down e ≡ known graphs down)
      → ((graphs : List ℕ → List Triple) (down : List ℕ) (number : ℕ) → AreDown down number (part_services (known graphs down)) → IsPermutation (after_part graph number before (known graphs down)) rows) → AreAfter e graph before rows
  by_part e known same f = record {
    same = λ graphs down number h.
        subst (λ (part : Part). IsPermutation (after_part graph number before part) rows) (sym (same graphs down))
        (f graphs down number (subst (λ (part : Part). AreDown down number (part_services part)) (same graphs down) h));
  }

  equal_rows : (v : List Bindings) → rows ≡ v → IsPermutation v rows
  equal_rows v e = subst (λ (r : List Bindings). IsPermutation v r) (sym e) (IsPermutation-refl v)

  pub after_triple : (p : Pattern) → rows ≡ extended graph p before → AreAfter (Triple-E p) graph before rows
  after_triple p e = by_part (Triple-E p) (λ graphs down. pattern p) (λ graphs down. part_triple graphs down p) (λ graphs down number h. equal_rows (extended graph p before) e)

  pub after_filter : (e : Expr) → rows ≡ before → AreAfter (Filter e) graph before rows
  after_filter e same = by_part (Filter e) (λ graphs down. condition e) (λ graphs down. part_filter graphs down e) (λ graphs down number h. equal_rows before same)

  pub after_optional : (g : Group) (found : List Bindings) (filters : List Expr) → AreUnfiltered g graph found → AreFilters g filters → IsPermutation (left_join before found filters) rows → AreAfter (Optional g) graph before rows
  after_optional g found filters h k p =
      by_part (Optional g) (λ graphs down. element_meaning graphs down (Element-F.Optional (meaning graphs down g))) (λ graphs down. part_optional graphs down g)
      (λ graphs down number all. let m = meaning graphs down g in
      IsPermutation-trans (left_join before (m.rows graph number) m.filters) (left_join before found m.filters) rows
      (left_join_moves before before (m.rows graph number) found m.filters (IsPermutation-refl before) (h.same graphs down number all))
      (subst (λ (es : List Expr). IsPermutation (left_join before found es) rows) (k.same graphs down) p))

  pub after_bind : (e : Expr) (name : List ℕ) → rows ≡ extend before name e → AreAfter (Bind e name) graph before rows
  after_bind e name same =
      by_part (Bind e name) (λ graphs down. element_meaning graphs down (Element-F.Bind e name)) (λ graphs down. part_bind graphs down e name) (λ graphs down number h. equal_rows (extend before name e) same)

  pub after_values : (inline : Inline) (found : List Bindings) → found ≡ inline_rows inline → IsPermutation (join before found) rows → AreAfter (Values inline) graph before rows
  after_values inline found e p =
      by_part (Values inline) (λ graphs down. element_meaning graphs down (Element-F.Values inline)) (λ graphs down. part_values graphs down inline)
      (λ graphs down number h. subst (λ (v : List Bindings). IsPermutation (join before v) rows) e p)

  pub after_service : (silent : Bool) (iri : List ℕ) (g : Group) → rows ≡ before → AreAfter (Service silent iri g) graph before rows
  after_service silent iri g e =
      by_part (Service silent iri g) (λ graphs down. element_meaning graphs down (Element-F.Service silent iri (meaning graphs down g))) (λ graphs down. part_service graphs down silent iri g)
      (λ graphs down number all. let m = meaning graphs down g in
      let is : is_down down number ≡ true = all.each number (omega arith) (omega arith) in
      let one : service_rows graphs down iri m number ≡ one_empty = ap (λ b. cond b one_empty (group_rows m (graphs iri) (suc number))) is in
      equal_rows (join before (service_rows graphs down iri m number)) (e ∙ sym (ap (join before) one ∙ join_one before)))

-- ---- filters, and groups one after the other

-- the filters of the elements so far
pub record AreFiltersSoFar (done : List Element) (filters : List Expr) : Type 0 where
  pub same : (graphs : List ℕ → List Triple) (down : List ℕ) → filters ≡ conditions_of (map (part_of graphs down) done)

conditions_append : (parts : List Part) (part : Part) → conditions_of (parts ++ part ∷ []) ≡ conditions_of parts ++ conditions_of (part ∷ [])
conditions_append [] part = refl
conditions_append (pattern p ∷ parts) part = conditions_append parts part
conditions_append (condition e ∷ parts) part = ap (λ v. e ∷ v) (conditions_append parts part)
conditions_append (operator o ∷ parts) part = conditions_append parts part

pub filters_none : AreFiltersSoFar [] []
filters_none = record { same = λ graphs down. refl }

pub filters_more : (done : List Element) (e : Element) (before filters : List Expr) → AreFiltersSoFar done before → AreMoreFilters e before filters → AreFiltersSoFar (done ++ e ∷ []) filters
filters_more done e before filters h k = record {
  same = λ graphs down.
      k.same graphs down
      ∙ ap (λ (v : List Expr). v ++ conditions_of (part_of graphs down e ∷ [])) (h.same graphs down)
      ∙ sym (conditions_append (map (part_of graphs down) done) (part_of graphs down e))
      ∙ ap conditions_of (sym (map-append (part_of graphs down) done (e ∷ [])));
}

pub filters_next : (all : List Element) (i : ℕ) (e : Element) (before filters : List Expr) → i < length all → e ≡ get_or all i e → AreFiltersSoFar (take i all) before → AreMoreFilters e before filters → AreFiltersSoFar (take (i + 1) all) filters
filters_next all i e before filters b is h k = subst (λ (v : List Element). AreFiltersSoFar v filters) (taken all i e b is) (filters_more (take i all) e before filters h k)

pub filters_all : (g : Group) (filters : List Expr) → AreFiltersSoFar g.elements filters → AreFilters g filters
filters_all g filters h = record { same = λ graphs down. h.same graphs down ∙ ap (λ (m : Meaning). m.filters) (sym (meaning_is graphs down g)) }

-- an element by what it is to its group
pub more_filters : (e : Element) (before filters : List Expr) (known : (List ℕ → List Triple) → List ℕ → Part) → ((graphs : List ℕ → List Triple) (down : List ℕ) → part_of graphs down e ≡ known graphs down)
    → ((graphs : List ℕ → List Triple) (down : List ℕ) → filters ≡ before ++ conditions_of (known graphs down ∷ [])) → AreMoreFilters e before filters
more_filters e before filters known same f = record { same = λ graphs down. f graphs down ∙ ap (λ (part : Part). before ++ conditions_of (part ∷ [])) (sym (same graphs down)) }

pub more_by_filter : (e : Expr) (before filters : List Expr) → filters ≡ before ++ e ∷ [] → AreMoreFilters (Filter e) before filters
more_by_filter e before filters h = more_filters (Filter e) before filters (λ graphs down. condition e) (λ graphs down. part_filter graphs down e) (λ graphs down. h)

groups_append : (graphs : List ℕ → List Triple) (down : List ℕ) (xs ys : List Group) → groups_services (map (meaning graphs down) (xs ++ ys)) ≡ groups_services (map (meaning graphs down) xs) + groups_services (map (meaning graphs down) ys)
groups_append graphs down [] ys = omega arith
groups_append graphs down (x ∷ xs) ys =
    let rest : groups_services (map (meaning graphs down) (xs ++ ys)) ≡ groups_services (map (meaning graphs down) xs) + groups_services (map (meaning graphs down) ys) = groups_append graphs down xs ys in
    omega (arith, rest)

alternatives_append : (ms : List Meaning) (m : Meaning) (graph : List Triple) (number : ℕ) → alternatives (ms ++ m ∷ []) graph number ≡ alternatives ms graph number ++ group_rows m graph (number + groups_services ms)
alternatives_append [] m graph number = append-nil (group_rows m graph number) ∙ ap (group_rows m graph) (sym (plus_none number))
alternatives_append (x ∷ ms) m graph number =
    let there : (number + x.services) + groups_services ms ≡ number + (x.services + groups_services ms) = omega arith in
    ap (λ v. group_rows x graph number ++ v) (alternatives_append ms m graph (number + x.services) ∙ ap (λ n. alternatives ms graph (number + x.services) ++ group_rows m graph n) there)
    ∙ sym (append_assoc (group_rows x graph number) (alternatives ms graph (number + x.services)) (group_rows m graph (number + (x.services + groups_services ms))))

pub alternatives_none : (graph : List Triple) (outside : List Expr) → AreAlternatives [] graph outside []
alternatives_none graph outside = record { same = λ graphs down number h. all_of_them outside [] }

pub alternatives_more : (gs : List Group) (g : Group) (graph : List Triple) (outside : List Expr) (before found rows : List Bindings) → AreAlternatives gs graph outside before → AreFewerRows g graph outside found → rows ≡ before ++ found
    → AreAlternatives (gs ++ g ∷ []) graph outside rows
alternatives_more gs g graph outside before found rows h k e = record {
  same = λ graphs down number all.
      let ms = map (meaning graphs down) gs in
      let m = meaning graphs down g in
      let counted : groups_services (map (meaning graphs down) (gs ++ g ∷ [])) ≡ groups_services ms + groups_services (map (meaning graphs down) (g ∷ [])) = groups_append graphs down gs (g ∷ []) in
      let parts : map (meaning graphs down) (gs ++ g ∷ []) ≡ ms ++ m ∷ [] = map-append (meaning graphs down) gs (g ∷ []) in
      subst (λ (v : List Bindings). AreFewer outside v (alternatives (map (meaning graphs down) (gs ++ g ∷ [])) graph number)) (sym e)
      (subst (λ (v : List Bindings). AreFewer outside (before ++ found) v) (sym (ap (λ (l : List Meaning). alternatives l graph number) parts ∙ alternatives_append ms m graph number))
      (fewer_appended outside before (alternatives ms graph number) found (group_rows m graph (number + groups_services ms))
      (h.same graphs down number (down_within down number (groups_services (map (meaning graphs down) (gs ++ g ∷ []))) number (groups_services ms) all (omega arith) (omega (arith, counted))))
      (k.same graphs down (number + groups_services ms) (down_within down number (groups_services (map (meaning graphs down) (gs ++ g ∷ []))) (number + groups_services ms) m.services all (omega arith) (omega (arith, counted))))));
}

pub alternatives_next : (all : List Group) (i : ℕ) (g : Group) (graph : List Triple) (outside : List Expr) (before found rows : List Bindings) → i < length all → g ≡ get_or all i g
    → AreAlternatives (take i all) graph outside before → AreFewerRows g graph outside found → rows ≡ before ++ found → AreAlternatives (take (i + 1) all) graph outside rows
alternatives_next all i g graph outside before found rows b is h k e = subst (λ (v : List Group). AreAlternatives v graph outside rows) (taken all i g b is) (alternatives_more (take i all) g graph outside before found rows h k e)

-- ---- a group of one pattern

-- its meaning is that of the one part
of_one : (graphs : List ℕ → List Triple) (down : List ℕ) (g : Group) (p : Pattern) → g.elements ≡ Triple-E p ∷ [] → meaning graphs down g ≡ group_meaning (record { elements = pattern p ∷ [] })
of_one graphs down g p e =
    meaning_is graphs down g
    ∙ ap (λ (es : List Element). group_meaning (record { elements = map (part_of graphs down) es })) e
    ∙ ap (λ (part : Part). group_meaning (record { elements = part ∷ [] })) (part_triple graphs down p)

-- its rows are those of the pattern
pub rows_of_one : (graphs : List ℕ → List Triple) (down : List ℕ) (g : Group) (graph : List Triple) (p : Pattern) → g.elements ≡ Triple-E p ∷ [] → group_rows (meaning graphs down g) graph 0 ≡ merges (bgp graph (p ∷ [])) []
rows_of_one graphs down g graph p e =
    ap (λ (m : Meaning). group_rows m graph 0) (of_one graphs down g p e)
    ∙ filtered_by_none (join one_empty (bgp graph (p ∷ [])))
    ∙ append-nil (merges (bgp graph (p ∷ [])) [])
