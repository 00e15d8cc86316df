-- A run in which a pattern has no source has no rows.
use Rattle.std.proofs.Common.{◌≡◌, ◌∙◌, ap, sym, subst, refl, ℕ, suc, ◌+◌, Bool, true, false, T, cond, ◌||◌, List, [], ◌∷◌, ◌++◌, map, length, arith, append_assoc, inl, inr, IsPermutation}
use Rattle.std.specs.Prelude.{filter}
use Rattle.std.specs.List.{AllByRecursion, list_any, range_with_len}
use Rattle.std.proofs.lemmas.List.Sorted.{Contains-permutation, IsPermutation-refl, IsPermutation-trans}
use Rattle.fx_terms.specs.Graphs.{set_of}
use Rattle.fx_terms.specs.declared.triples.Triple.{Triple}
use Rattle.fx_terms.specs.declared.patterns.Pattern.{Pattern}
use Rattle.fx_terms.proofs.SetLemmas.{Among, among_from, contains_from}
use Rattle.fx_algebra.specs.Answers.{has_rows, is_empty_list}
use Rattle.fx_algebra.specs.BasicGraphPatterns.{bgp}
use Rattle.fx_algebra.specs.Evaluation.{extended, rows_from}
use Rattle.fx_algebra.specs.Graphs.{union}
use Rattle.fx_algebra.specs.Operators.{join}
use Rattle.fx_algebra.specs.Solutions.{Bindings, SameRows, rises}
use Rattle.fx_algebra.proofs.BgpLemmas.{rows_from-bgp, solution_of}
use Rattle.fx_algebra.proofs.JoinLemmas.{join_extends, same_join}
use Rattle.fx_algebra.proofs.UnionLemmas.{rows_of_union}
use Rattle.fx_algebra.specs.Units.{fits, graph_of, sources}

-- ---- a pattern without a source has no rows

in_if : (x y : ℕ) (b : Bool) (rest : List ℕ) → Among y rest → Among y (cond b (x ∷ rest) rest)
in_if x y true rest m = inr m
in_if x y false rest m = m

here_if : (x y : ℕ) (b : Bool) (rest : List ℕ) → x ≡ y → b ≡ true → Among y (cond b (x ∷ rest) rest)
here_if x y true rest e h = inl e
here_if x y false rest e h = cc

in_filter : (test : ℕ → Bool) (y : ℕ) (xs : List ℕ) → Among y xs → test y ≡ true → Among y (filter test xs)
in_filter test y [] m h = absurd m
in_filter test y (x ∷ xs) (inl e) h = here_if x y (test x) (filter test xs) e (ap test e ∙ h)
in_filter test y (x ∷ xs) (inr m) h = in_if x y (test x) (filter test xs) (in_filter test y xs m h)

-- the number of a graph in a list
record Placed (gs : List (List Triple)) (a : ℕ) (g : List Triple) : Type 0 where
  number : ℕ
  at : ℕ
  is : number ≡ a + at
  within : Among number (range_with_len a (length gs))
  there : graph_of gs at ≡ g

placed : (gs : List (List Triple)) (a : ℕ) (g : List Triple) → Among g gs → Placed gs a g
placed [] a g m = absurd m
placed (d ∷ gs) a g (inl e) = record { number = a; at = 0; is = omega arith; within = inl refl; there = e }
placed (d ∷ gs) a g (inr m) =
    let r = placed gs (a + 1) g m in
    let is = r.is in
    record { number = r.number; at = suc r.at; is = omega arith; within = inr r.within; there = r.there }

has_some : (s : Bindings) (rows : List Bindings) → Among s rows → has_rows rows ≡ true
has_some s [] m = absurd m
has_some s (r ∷ rows) m = refl

sourceless : (graphs : List (List Triple)) (p : Pattern) → sources graphs p ≡ [] → SameRows (bgp (union graphs) (p ∷ [])) []
unfolding set_of
sourceless graphs p none =
    rows_of_union graphs p [] (λ s m. absurd m)
    (λ s graph m n.
    let f = placed graphs 0 graph m in
    let same : f.at ≡ f.number = omega (arith, f.is) in
    let there : graph_of graphs f.number ≡ graph = ap (graph_of graphs) (sym same) ∙ f.there in
    let yes : fits p (graph_of graphs f.number) ≡ true = ap (fits p) there ∙ has_some s (bgp graph (p ∷ [])) n in
    absurd (subst (Among f.number) none (in_filter (λ at. fits p (graph_of graphs at)) f.number (range_with_len 0 (length graphs)) f.within yes)))

-- ---- one pattern more

to_T : (b : Bool) → b ≡ true → T b
to_T true h = tt
to_T false h = cc

-- all solutions rise
all_rise : (graph : List Triple) (ps : List Pattern) (rows : List Bindings) → ((s : Bindings) → Among s rows → Among s (bgp graph ps)) → AllByRecursion (λ s. T (rises s)) rows
all_rise graph ps [] f = tt
all_rise graph ps (s ∷ rows) f =
    let h = solution_of graph ps s (contains_from (bgp graph ps) s (f s (inl refl))) in
    (to_T (rises s) h.rises, all_rise graph ps rows (λ t m. f t (inr m)))

rows_from_more : (graph : List Triple) (rows : List Bindings) (ps : List Pattern) (p : Pattern) → rows_from graph rows (ps ++ p ∷ []) ≡ extended graph p (rows_from graph rows ps)
rows_from_more graph rows [] p = refl
rows_from_more graph rows (q ∷ ps) p = rows_from_more graph (extended graph q rows) ps p

-- one pattern more is the join with its rows
joined_more : (graph : List Triple) (ps : List Pattern) (p : Pattern) (rows found all : List Bindings) → SameRows (bgp graph ps) rows → SameRows (bgp graph (p ∷ [])) found → IsPermutation (join rows found) all → SameRows (bgp graph (ps ++ p ∷ [])) all
joined_more graph ps p rows found all h k m =
    let before = bgp graph ps in
    let more : bgp graph (ps ++ p ∷ []) ≡ join before (bgp graph (p ∷ [])) =
    sym (rows_from-bgp graph (ps ++ p ∷ []))
    ∙ rows_from_more graph ([] ∷ []) ps p
    ∙ ap (extended graph p) (rows_from-bgp graph ps)
    ∙ sym (join_extends graph p before (all_rise graph ps before (λ s n. n))) in
    subst (λ (v : List Bindings). IsPermutation v all) (sym more)
    (IsPermutation-trans (join before (bgp graph (p ∷ []))) (join rows found) all (same_join before rows (bgp graph (p ∷ [])) found h k) m)

-- ---- nothing joined is nothing

pub nothing_of : (xs : List Bindings) → IsPermutation xs [] → xs ≡ []
nothing_of [] h = refl
nothing_of (x ∷ xs) h = absurd (among_from [] x (Contains-permutation (x ∷ xs) [] x h (contains_from (x ∷ xs) x (inl refl))))

join_nothing : (rows : List Bindings) → join rows [] ≡ []
join_nothing [] = refl
join_nothing (r ∷ rows) = join_nothing rows

rows_from_nothing : (graph : List Triple) (ps : List Pattern) → rows_from graph [] ps ≡ []
rows_from_nothing graph [] = refl
rows_from_nothing graph (p ∷ ps) = rows_from_nothing graph ps

rows_from_both : (graph : List Triple) (ps qs : List Pattern) (rows : List Bindings) → rows_from graph rows (ps ++ qs) ≡ rows_from graph (rows_from graph rows ps) qs
rows_from_both graph [] qs rows = refl
rows_from_both graph (p ∷ ps) qs rows = rows_from_both graph ps qs (extended graph p rows)

lost : (graph : List Triple) (front rest : List Pattern) (p : Pattern) → SameRows (bgp graph (p ∷ [])) [] → bgp graph (front ++ p ∷ rest) ≡ []
lost graph front rest p h =
    let none : SameRows (bgp graph (front ++ p ∷ [])) [] = joined_more graph front p (bgp graph front) [] [] (IsPermutation-refl (bgp graph front)) h (subst (λ (v : List Bindings). IsPermutation v []) (sym (join_nothing (bgp graph front))) (IsPermutation-refl [])) in
    sym (rows_from-bgp graph (front ++ p ∷ rest))
    ∙ ap (rows_from graph ([] ∷ [])) (sym (append_assoc front (p ∷ []) rest))
    ∙ rows_from_both graph (front ++ p ∷ []) rest ([] ∷ [])
    ∙ ap (λ (v : List Bindings). rows_from graph v rest) (rows_from-bgp graph (front ++ p ∷ []) ∙ nothing_of (bgp graph (front ++ p ∷ [])) none)
    ∙ rows_from_nothing graph rest

record Lacking (graphs : List (List Triple)) (ps : List Pattern) : Type 0 where
  front : List Pattern
  rest : List Pattern
  pattern : Pattern
  is : ps ≡ front ++ pattern ∷ rest
  none : sources graphs pattern ≡ []

empty_is : (xs : List ℕ) → is_empty_list xs ≡ true → xs ≡ []
empty_is [] h = refl
empty_is (x ∷ xs) h = absurd (cc)

lacking : (graphs : List (List Triple)) (ps : List Pattern) → list_any is_empty_list (map (sources graphs) ps) ≡ true → Lacking graphs ps
lacking graphs [] h = absurd (cc)
lacking graphs (p ∷ ps) h = pick (λ k. lacking graphs ps k) (is_empty_list (sources graphs p)) refl h
  where
    later : Lacking graphs ps → Lacking graphs (p ∷ ps)
    later r = record { front = p ∷ r.front; rest = r.rest; pattern = r.pattern; is = ap (λ (v : List Pattern). p ∷ v) r.is; none = r.none }

    pick : (list_any is_empty_list (map (sources graphs) ps) ≡ true → Lacking graphs ps) → (b : Bool) → is_empty_list (sources graphs p) ≡ b → (b || list_any is_empty_list (map (sources graphs) ps)) ≡ true → Lacking graphs (p ∷ ps)
    pick f true e k = record { front = []; rest = ps; pattern = p; is = refl; none = empty_is (sources graphs p) e }
    pick f false e k = later (f k)

-- where one of the patterns has no source, they have no rows
pub none_of_all : (graphs : List (List Triple)) (ps : List Pattern) (members : List (List ℕ)) → list_any is_empty_list members ≡ true → members ≡ map (sources graphs) ps → SameRows (bgp (union graphs) ps) []
none_of_all graphs ps members h e =
    let x = lacking graphs ps (ap (list_any is_empty_list) (sym e) ∙ h) in
    let none = lost (union graphs) x.front x.rest x.pattern (sourceless graphs x.pattern x.none) in
    subst (λ (v : List Bindings). SameRows v []) (sym (ap (bgp (union graphs)) x.is ∙ none)) (IsPermutation-refl [])
