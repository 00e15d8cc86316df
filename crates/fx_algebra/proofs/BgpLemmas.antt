-- The solutions of a basic graph pattern are those that the law says, and going pattern by pattern gives them.
use Rattle.std.proofs.Common.{◌≡◌, ◌∙◌, ap, sym, subst, refl, inl, inr, ℕ, List, [], ◌∷◌, ◌++◌, map, Option, Some, None, option_and_then, Contains, append_assoc, append-nil}
use Rattle.std.specs.List.{AllByRecursion, flat_map, filter_map, cons_option}
use Rattle.std.proofs.lemmas.List.Concat.{flat_map-append}
use Rattle.std.proofs.lemmas.List.Elements.{All-from_recursion, recursion_from_All, filter_map-append}
use Rattle.fx_terms.specs.Triples.{triple_cmp, triples_total}
use Rattle.fx_terms.specs.declared.terms.Term.{Term}
use Rattle.fx_terms.specs.declared.terms.Term.TheVariants.{Iri}
use Rattle.fx_terms.specs.declared.triples.Triple.{Triple}
use Rattle.fx_terms.specs.declared.patterns.Pattern.{Pattern}
use Rattle.fx_terms.specs.declared.patterns.PatternTerm.{PatternTerm}
use Rattle.fx_terms.proofs.SetLemmas.{Among, among_from, contains_from}
use Rattle.fx_algebra.specs.Solutions.{Bindings}
use Rattle.fx_algebra.specs.Scopes.{is_among, part_names}
use Rattle.fx_algebra.specs.BasicGraphPatterns.{choices, parts_of, all_parts, forced, bgp, TurnsInto, variables, IsSolutionOf, BgpLaw, with_part}
use Rattle.fx_algebra.specs.Evaluation.{extended, rows_from}
use Rattle.fx_algebra.proofs.MemberLemmas.{IsOnce, pairs_differ, once_append, once_rising, once_map, once_filter_map, among_map, among_from_map, among_flat_map, among_from_flat_map, among_filter_map, among_from_filter_map}
use Rattle.fx_algebra.proofs.ForcedLemmas.{AllAre, IsForced, names_of, same_value, of_outcome, forced_is, forces_it}

-- ---- choices

-- a triple of the graph for each pattern
abbrev IsChoice : List Triple → List Pattern → List Triple → Type 0
IsChoice graph [] [] = Unit {0}
IsChoice graph [] (t ∷ ts) = ⊥
IsChoice graph (p ∷ ps) [] = ⊥
IsChoice graph (p ∷ ps) (t ∷ ts) = Among t graph × IsChoice graph ps ts

one_more : (graph : List Triple) (p : Pattern) (ps : List Pattern) (t : Triple) (ts us : List Triple) → Among t graph → IsChoice graph ps ts → t ∷ ts ≡ us → IsChoice graph (p ∷ ps) us
one_more graph p ps t ts us m h e = let P : List Triple → Type 0 = IsChoice graph (p ∷ ps) in subst P e (m, h)

choice_from : (graph : List Triple) (ps : List Pattern) (ts : List Triple) → Among ts (choices graph ps) → IsChoice graph ps ts
choice_from graph [] [] m = tt
choice_from graph [] (t ∷ ts) (inl e) = cc
choice_from graph [] (t ∷ ts) (inr m) = m
choice_from graph (p ∷ ps) ts m =
    let a = among_from_flat_map (λ t. map (λ us. t ∷ us) (choices graph ps)) ts graph m in
    let b = among_from_map (λ us. a.0 ∷ us) ts (choices graph ps) a.2 in
    one_more graph p ps a.0 b.0 ts a.1 (choice_from graph ps b.0 b.1) b.2

among_choices : (graph : List Triple) (ps : List Pattern) (ts : List Triple) → IsChoice graph ps ts → Among ts (choices graph ps)
among_choices graph [] [] h = inl refl
among_choices graph [] (t ∷ ts) h = absurd h
among_choices graph (p ∷ ps) [] h = absurd h
among_choices graph (p ∷ ps) (t ∷ ts) h = among_flat_map (λ u. map (λ us. u ∷ us) (choices graph ps)) t (t ∷ ts) graph h.0 (among_map (λ us. t ∷ us) ts (choices graph ps) (among_choices graph ps ts h.1))

-- each head before each rest, where both stand once
once_heads : (graph : List Triple) (rests : List (List Triple)) → IsOnce graph → IsOnce rests → IsOnce (flat_map (λ t. map (λ ts. t ∷ ts) rests) graph)
once_heads [] rests h k = tt
once_heads (t ∷ graph) rests h k =
    once_append (map (λ ts. t ∷ ts) rests) (flat_map (λ u. map (λ ts. u ∷ ts) rests) graph)
    (once_map (λ ts. t ∷ ts) (λ a b e. cc) rests k)
    (once_heads graph rests h.1 k)
    (λ us m n.
    let a = among_from_map (λ ts. t ∷ ts) us rests m in
    let b = among_from_flat_map (λ u. map (λ ts. u ∷ ts) rests) us graph n in
    let c = among_from_map (λ ts. b.0 ∷ ts) us rests b.2 in
    let same : b.0 ∷ c.0 ≡ t ∷ a.0 = c.2 ∙ sym a.2 in
    let head : b.0 ≡ t = cc in
    h.0 (subst (λ (v : Triple). Among v graph) head b.1))

once_choices : (graph : List Triple) (ps : List Pattern) → IsOnce graph → IsOnce (choices graph ps)
once_choices graph [] h = (λ m. m, tt)
once_choices graph (p ∷ ps) h = once_heads graph (choices graph ps) h (once_choices graph ps h)

-- ---- a solution determines the choice

-- the parts of the first pattern, and the others
turned : (s : Bindings) (p : Pattern) (t : Triple) (cs : List (PatternTerm × Term)) → AllAre s (parts_of p t ++ cs) → TurnsInto s p t × AllAre s cs
turned s p t cs h = (record { subject = h.0; predicate = h.1.0; object = h.1.1.0 }, h.1.1.1)

same_triple : (a b : Triple) → a.subject ≡ b.subject → a.predicate ≡ b.predicate → a.object ≡ b.object → a ≡ b
same_triple a b s p o i = record { subject = s i; predicate = p i; object = o i }

equal_iris : (a b : List ℕ) → Some (Iri a) ≡ Some (Iri b) → a ≡ b
equal_iris a b e = cc

-- a pattern is turned into one triple
one_triple : (s : Bindings) (p : Pattern) (t u : Triple) → TurnsInto s p t → TurnsInto s p u → t ≡ u
one_triple s p t u h k = same_triple t u (equal_iris _ _ (sym h.subject ∙ k.subject)) (equal_iris _ _ (sym h.predicate ∙ k.predicate)) (same_value _ _ (sym h.object ∙ k.object))

-- a solution comes of one choice
one_choice : (graph : List Triple) (s : Bindings) (ps : List Pattern) (ts us : List Triple) → IsChoice graph ps ts → IsChoice graph ps us → AllAre s (all_parts ps ts) → AllAre s (all_parts ps us) → ts ≡ us
one_choice graph s [] [] [] h k a b = refl
one_choice graph s [] [] (u ∷ us) h k a b = absurd k
one_choice graph s [] (t ∷ ts) us h k a b = absurd h
one_choice graph s (p ∷ ps) [] us h k a b = absurd h
one_choice graph s (p ∷ ps) (t ∷ ts) [] h k a b = absurd k
one_choice graph s (p ∷ ps) (t ∷ ts) (u ∷ us) h k a b =
    let x = turned s p t (all_parts ps ts) a in
    let y = turned s p u (all_parts ps us) b in
    let head : t ≡ u = one_triple s p t u x.0 y.0 in
    let rest : ts ≡ us = one_choice graph s ps ts us h.1 k.1 x.1 y.1 in
    λ i. head i ∷ rest i

-- ---- a choice and what the patterns are turned into

-- a triple of the graph that the pattern is turned into
abbrev HasTriple : List Triple → Bindings → Pattern → Type 0
HasTriple graph s p = (t : Triple) × Contains graph t × TurnsInto s p t

-- what a choice forces turns each pattern into a triple
triples_from : (graph : List Triple) (s : Bindings) (ps : List Pattern) (ts : List Triple) → IsChoice graph ps ts → AllAre s (all_parts ps ts) → AllByRecursion (HasTriple graph s) ps
triples_from graph s [] ts h a = tt
triples_from graph s (p ∷ ps) [] h a = absurd h
triples_from graph s (p ∷ ps) (t ∷ ts) h a = let x = turned s p t (all_parts ps ts) a in ((t, contains_from graph t h.0, x.0), triples_from graph s ps ts h.1 x.1)

-- the triples that patterns are turned into are a choice
a_choice : (graph : List Triple) (s : Bindings) (ps : List Pattern) → AllByRecursion (HasTriple graph s) ps → (ts : List Triple) × IsChoice graph ps ts × AllAre s (all_parts ps ts)
a_choice graph s [] h = ([], tt, tt)
a_choice graph s (p ∷ ps) h =
    let rest = a_choice graph s ps h.1 in
    (h.0.0 ∷ rest.0, (among_from graph h.0.0 h.0.1, rest.1), (h.0.2.subject, (h.0.2.predicate, (h.0.2.object, rest.2))))

-- the parts' names are the patterns' variables
names_are : (graph : List Triple) (ps : List Pattern) (ts : List Triple) → IsChoice graph ps ts → names_of (all_parts ps ts) ≡ variables ps
names_are graph [] ts h = refl
names_are graph (p ∷ ps) [] h = absurd h
names_are graph (p ∷ ps) (t ∷ ts) h =
    ap (λ rest. part_names p.subject ++ (part_names p.predicate ++ (part_names p.object ++ rest))) (names_are graph ps ts h.1)
    ∙ ap (λ rest. part_names p.subject ++ rest) (sym (append_assoc (part_names p.predicate) (part_names p.object) (variables ps)))
    ∙ sym (append_assoc (part_names p.subject) (part_names p.predicate ++ part_names p.object) (variables ps))

-- ---- the law

module _ (graph : List Triple) (ps : List Pattern) where
  -- what the choice forces
  row_of : List Triple → Option Bindings
  row_of ts = forced [] (all_parts ps ts)

  is_forced : (ts : List Triple) (s : Bindings) → row_of ts ≡ Some s → IsForced [] (all_parts ps ts) s
  unfolding row_of
  is_forced ts s e = of_outcome (IsForced [] (all_parts ps ts)) (forced [] (all_parts ps ts)) s e (forced_is [] (all_parts ps ts))

  -- what a choice forces is a solution
  solution_from : (s : Bindings) (ts : List Triple) → IsChoice graph ps ts → row_of ts ≡ Some s → IsSolutionOf graph ps s
  solution_from s ts h e =
      let f = is_forced ts s e in
      record {
        rises = f.rising refl;
        binds = λ name. f.binds name ∙ ap (λ v. is_among v name) (names_are graph ps ts h);
        turns = All-from_recursion (HasTriple graph s) ps (triples_from graph s ps ts h f.values);
      }

  -- a solution is what some choice forces
  a_row : (s : Bindings) → IsSolutionOf graph ps s → (ts : List Triple) × IsChoice graph ps ts × (row_of ts ≡ Some s)
  unfolding row_of
  a_row s h =
      let c = a_choice graph s ps (recursion_from_All (HasTriple graph s) ps h.turns) in (
        c.0,
        c.1,
        forces_it [] s (all_parts ps c.0) refl h.rises (record { has = λ name term e. cc }) c.2
            (λ name. h.binds name ∙ ap (λ v. is_among v name) (sym (names_are graph ps c.0 c.1))),
      )

  pub solution_of : (s : Bindings) → Contains (bgp graph ps) s → IsSolutionOf graph ps s
  unfolding row_of
  solution_of s h =
      let a = among_from_filter_map row_of s (choices graph ps) (among_from (bgp graph ps) s h) in
      solution_from s a.0 (choice_from graph ps a.0 a.1) a.2

  pub row_from : (s : Bindings) → IsSolutionOf graph ps s → Contains (bgp graph ps) s
  unfolding row_of
  row_from s h =
      let a = a_row s h in
      contains_from (bgp graph ps) s (among_filter_map row_of a.0 s (choices graph ps) (among_choices graph ps a.0 a.1) a.2)

  pub once_rows : IsOnce graph → IsOnce (bgp graph ps)
  unfolding row_of
  once_rows h =
      once_filter_map row_of (choices graph ps)
      (λ ts us s m n e f. one_choice graph s ps ts us (choice_from graph ps ts m) (choice_from graph ps us n) (is_forced ts s e).values (is_forced us s f).values)
      (once_choices graph ps h)

pub bgp_law_holds : BgpLaw
bgp_law_holds graph ps h = record {
  exactly = λ s. (solution_of graph ps s, row_from graph ps s);
  each_once = pairs_differ (bgp graph ps) (once_rows graph ps (once_rising triple_cmp triples_total graph h));
}

-- ---- pattern by pattern

flat_map-flat_map : {A B C : Type 0} (f : A → List B) (g : B → List C) (xs : List A) → flat_map g (flat_map f xs) ≡ flat_map (λ x. flat_map g (f x)) xs
flat_map-flat_map f g [] = refl
flat_map-flat_map f g (x ∷ xs) = flat_map-append g (f x) (flat_map f xs) ∙ ap (λ rest. flat_map g (f x) ++ rest) (flat_map-flat_map f g xs)

flat_map_same : {A B : Type 0} (f g : A → List B) → ((x : A) → f x ≡ g x) → (xs : List A) → flat_map f xs ≡ flat_map g xs
flat_map_same f g same [] = refl
flat_map_same f g same (x ∷ xs) = λ i. same x i ++ flat_map_same f g same xs i

flat_map_alone : {A : Type 0} (xs : List A) → flat_map (λ x. x ∷ []) xs ≡ xs
flat_map_alone [] = refl
flat_map_alone (x ∷ xs) = ap (λ rest. x ∷ rest) (flat_map_alone xs)

filter_map_same : {A B : Type 0} (f g : A → Option B) → ((x : A) → f x ≡ g x) → (xs : List A) → filter_map f xs ≡ filter_map g xs
filter_map_same f g same [] = refl
filter_map_same f g same (x ∷ xs) = λ i. cons_option (same x i) (filter_map_same f g same xs i)

filter_map_none : {A B : Type 0} (xs : List A) → filter_map {Y = B} (λ x. None) xs ≡ []
filter_map_none [] = refl
filter_map_none (x ∷ xs) = filter_map_none xs

filter_map-map : {A B C : Type 0} (f : B → Option C) (g : A → B) (xs : List A) → filter_map f (map g xs) ≡ filter_map (λ x. f (g x)) xs
filter_map-map f g [] = refl
filter_map-map f g (x ∷ xs) = ap (cons_option (f (g x))) (filter_map-map f g xs)

forced_on : (cs ds : List (PatternTerm × Term)) (o : Option Bindings) → ((s : Bindings) → forced s (cs ++ ds) ≡ option_and_then (λ r. forced r ds) (forced s cs))
    → option_and_then (λ r. forced r (cs ++ ds)) o ≡ option_and_then (λ r. forced r ds) (option_and_then (λ r. forced r cs) o)
forced_on cs ds None same = refl
forced_on cs ds (Some s) same = same s

-- what parts and then others force
pub forced-append : (s : Bindings) (cs ds : List (PatternTerm × Term)) → forced s (cs ++ ds) ≡ option_and_then (λ r. forced r ds) (forced s cs)
forced-append s [] ds = refl
forced-append s (c ∷ cs) ds = forced_on cs ds (with_part s c.0 c.1) (λ r. forced-append r cs ds)

module _ (graph : List Triple) where
  -- what the choices for patterns force beside a row
  abbrev pub rows_beside : List Pattern → Bindings → List Bindings
  rows_beside ps row = filter_map (λ ts. forced row (all_parts ps ts)) (choices graph ps)

  -- the rows from the first triple, if it fits, before the rest
  after : (ps : List Pattern) (o : Option Bindings) (rest : List Bindings) → filter_map (λ ts. option_and_then (λ r. forced r (all_parts ps ts)) o) (choices graph ps) ++ flat_map (rows_beside ps) rest ≡ flat_map (rows_beside ps) (cons_option o rest)
  after ps None rest = ap (λ v. v ++ flat_map (rows_beside ps) rest) (filter_map_none {B = Bindings} (choices graph ps))
  after ps (Some r) rest = refl

  -- the first pattern's triples, from any list, and then the others'
  rows_first : (p : Pattern) (ps : List Pattern) (row : Bindings) (ts : List Triple) →
      filter_map (λ us. forced row (all_parts (p ∷ ps) us)) (flat_map (λ t. map (λ us. t ∷ us) (choices graph ps)) ts)
      ≡ flat_map (rows_beside ps) (filter_map (λ t. forced row (parts_of p t)) ts)
  rows_first p ps row [] = refl
  rows_first p ps row (t ∷ ts) =
      let f : List Triple → Option Bindings = λ us. forced row (all_parts (p ∷ ps) us) in
      let others = flat_map (λ u. map (λ us. u ∷ us) (choices graph ps)) ts in
      let found = flat_map (rows_beside ps) (filter_map (λ u. forced row (parts_of p u)) ts) in
      filter_map-append f (map (λ us. t ∷ us) (choices graph ps)) others
      ∙ ap (λ v. filter_map f (map (λ us. t ∷ us) (choices graph ps)) ++ v) (rows_first p ps row ts)
      ∙ ap (λ v. v ++ found) (filter_map-map f (λ us. t ∷ us) (choices graph ps))
      ∙ ap (λ v. v ++ found) (filter_map_same (λ us. forced row (parts_of p t ++ all_parts ps us)) (λ us. option_and_then (λ r. forced r (all_parts ps us)) (forced row (parts_of p t))) (λ us. forced-append row (parts_of p t) (all_parts ps us)) (choices graph ps))
      ∙ after ps (forced row (parts_of p t)) (filter_map (λ u. forced row (parts_of p u)) ts)

  -- pattern by pattern gives for each row what the choices force beside it
  pub rows_from-flat_map : (rows : List Bindings) (ps : List Pattern) → rows_from graph rows ps ≡ flat_map (rows_beside ps) rows
  rows_from-flat_map rows [] = sym (flat_map_alone rows)
  rows_from-flat_map rows (p ∷ ps) =
      rows_from-flat_map (extended graph p rows) ps
      ∙ flat_map-flat_map (λ row. filter_map (λ t. forced row (parts_of p t)) graph) (rows_beside ps) rows
      ∙ flat_map_same (λ row. flat_map (rows_beside ps) (filter_map (λ t. forced row (parts_of p t)) graph)) (rows_beside (p ∷ ps)) (λ row. sym (rows_first p ps row graph)) rows

  -- pattern by pattern from the empty solution gives the solutions, in their order
  pub rows_from-bgp : (ps : List Pattern) → rows_from graph ([] ∷ []) ps ≡ bgp graph ps
  rows_from-bgp ps = rows_from-flat_map ([] ∷ []) ps ∙ append-nil (bgp graph ps)
