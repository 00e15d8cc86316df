-- What the members of a sound unit have beside a row is what the union of the graphs has.
use Rattle.std.proofs.Common.{◌≡◌, ◌∙◌, ap, sym, subst, refl, inl, inr, ◌⊎◌, ℕ, zero, suc, ◌<◌, Bool, true, false, T, cond, List, [], ◌∷◌, map, filter, length, Option, Some, None, is_some, Contains, arith, append-nil}
use Rattle.std.specs.Prelude.{All}
use Rattle.std.specs.List.{AllByRecursion, filter_map, range_with_len}
use Rattle.std.specs.FinMap.Entries.{same_entries}
use Rattle.std.proofs.lemmas.List.Elements.{All-from_recursion, recursion_from_All}
use Rattle.std.proofs.lemmas.List.FromFn.{get_or-range_with_len, length-range_with_len}
use Rattle.std.proofs.lemmas.Map.Lookups.{exact_bytes}
use Rattle.fx_terms.specs.Texts.{text_cmp, texts_total}
use Rattle.fx_terms.specs.Triples.{triple_cmp, triples_total}
use Rattle.fx_terms.specs.declared.terms.Term.{Term}
use Rattle.fx_terms.specs.declared.triples.Triple.{Triple}
use Rattle.fx_terms.specs.declared.patterns.Pattern.{Pattern}
use Rattle.fx_terms.proofs.SetLemmas.{Among, among_at, among_from, contains_from}
use Rattle.fx_algebra.specs.Answers.{has_rows}
use Rattle.fx_algebra.specs.BasicGraphPatterns.{bgp, forced, parts_of, TurnsInto}
use Rattle.fx_algebra.specs.Conditions.{holds}
use Rattle.fx_algebra.specs.Graphs.{union}
use Rattle.fx_algebra.specs.Operators.{merges}
use Rattle.fx_algebra.specs.Solutions.{Bindings, agree, merge, rises, solution_cmp, solutions_total, term_of}
use Rattle.fx_algebra.specs.Units.{fits, graph_of, sources}
use Rattle.fx_algebra.specs.declared.units.Unit as unit
use Rattle.fx_algebra.proofs.BgpLemmas.{once_rows, row_from, rows_from-bgp, solution_of}
use Rattle.fx_algebra.proofs.ForcedLemmas.{AllAre, forces}
use Rattle.fx_algebra.proofs.JoinLemmas.{exact_solutions, merge_extends_right}
use Rattle.fx_algebra.proofs.MemberLemmas.{IsOnce, among_filter_map, among_flat_map, among_from_flat_map, among_from_map, among_map, once_rising}
use Rattle.fx_algebra.proofs.UnionLemmas.{AmongOne, from_union, in_union, once_is_set, union_rises}
use Rattle.fx_spelling.specs.Units.{IsExclusive, IsSingle}
use Rattle.fx_founds.specs.Unions.{MembersHaveTheUnion, beside, of_members}

to_T : (b : Bool) → b ≡ true → T b
to_T true h = tt
to_T false h = cc

-- ---- lists

pub in_kept : {X : Type 0} (p : X → Bool) (x : X) (xs : List X) → Among x (filter p xs) → Among x xs × (p x ≡ true)
in_kept p x [] m = absurd m
in_kept p x (y ∷ ys) m = by (p y) refl (in_kept p x ys) m
  where
    more : Among x ys × (p x ≡ true) → Among x (y ∷ ys) × (p x ≡ true)
    more t = (inr t.0, t.1)

    by : (b : Bool) → p y ≡ b → (Among x (filter p ys) → Among x ys × (p x ≡ true)) → Among x (cond b (y ∷ filter p ys) (filter p ys)) → Among x (y ∷ ys) × (p x ≡ true)
    by true e f (inl same) = (inl same, ap p (sym same) ∙ e)
    by true e f (inr n) = more (f n)
    by false e f n = more (f n)

pub kept_in : {X : Type 0} (p : X → Bool) (x : X) (xs : List X) → Among x xs → p x ≡ true → Among x (filter p xs)
kept_in p x [] m e = absurd m
kept_in p x (y ∷ ys) (inl same) e = subst (λ (b : Bool). Among x (cond b (y ∷ filter p ys) (filter p ys))) (sym (ap p same ∙ e)) (inl same)
kept_in p x (y ∷ ys) (inr m) e = by (p y) (kept_in p x ys m e)
  where
    by : (b : Bool) → Among x (filter p ys) → Among x (cond b (y ∷ filter p ys) (filter p ys))
    by true n = inr n
    by false n = n

pub once_kept : {X : Type 0} (p : X → Bool) (xs : List X) → IsOnce xs → IsOnce (filter p xs)
once_kept p [] h = tt
once_kept p (x ∷ xs) h = by (p x) (once_kept p xs h.1)
  where
    by : (b : Bool) → IsOnce (filter p xs) → IsOnce (cond b (x ∷ filter p xs) (filter p xs))
    by true k = ((λ m. h.0 (in_kept p x xs m).0), k)
    by false k = k

pub once_mapped : {X Y : Type 0} (f : X → Y) (xs : List X) → ((a b : X) → Among a xs → Among b xs → f a ≡ f b → a ≡ b) → IsOnce xs → IsOnce (map f xs)
once_mapped f [] apart h = tt
once_mapped f (x ∷ xs) apart h = (
  (λ m. let a = among_from_map f (f x) xs m in h.0 (subst (λ v. Among v xs) (apart a.0 x (inr a.1) (inl refl) a.2) a.1)),
  once_mapped f xs (λ a b m n. apart a b (inr m) (inr n)) h.1,
)

-- ---- what a row merges to stands once

same_bound : (o p : Option Term) → is_some o ≡ is_some p → ((t : Term) → o ≡ Some t → p ≡ Some t) → o ≡ p
same_bound None None h f = refl
same_bound None (Some t) h f = cc
same_bound (Some t) p h f = sym (f t refl)

its_term : (row b : Bindings) (name : List ℕ) (term : Term) (o : Option Term) → term_of b name ≡ o → is_some o ≡ true → agree row b ≡ true → term_of (merge row b) name ≡ Some term → term_of b name ≡ Some term
its_term row b name term None e h l found = absurd (cc)
its_term row b name term (Some u) e h l found = e ∙ sym ((merge_extends_right row b l).has name u e) ∙ found

module _ (graph : List Triple) (ps : List Pattern) (row : Bindings) where
  -- two solutions that a row agrees with and merges to the same with are the same
  one_merge : (a b : Bindings) → Among a (filter (agree row) (bgp graph ps)) → Among b (filter (agree row) (bgp graph ps)) → merge row a ≡ merge row b → a ≡ b
  one_merge a b m n same =
      let k = in_kept (agree row) a (bgp graph ps) m in
      let l = in_kept (agree row) b (bgp graph ps) n in
      let s = solution_of graph ps a (contains_from (bgp graph ps) a k.0) in
      let t = solution_of graph ps b (contains_from (bgp graph ps) b l.0) in
      same_entries text_cmp texts_total exact_bytes a b (to_T (rises a) s.rises) (to_T (rises b) t.rises)
      (λ name. same_bound (term_of a name) (term_of b name) (s.binds name ∙ sym (t.binds name))
      (λ term e. its_term row b name term (term_of b name) refl (t.binds name ∙ sym (s.binds name) ∙ ap is_some e) l.1 (ap (λ v. term_of v name) (sym same) ∙ (merge_extends_right row a k.1).has name term e)))

  merges_once : IsOnce (bgp graph ps) → IsOnce (merges (bgp graph ps) row)
  merges_once h = once_mapped (merge row) (filter (agree row) (bgp graph ps)) one_merge (once_kept (agree row) (bgp graph ps) h)

beside_once : (graphs : List (List Triple)) (u : unit.Unit) (row : Bindings) → IsOnce (beside (union graphs) u row)
beside_once graphs u row =
    once_kept (holds u.filters) (merges (bgp (union graphs) u.patterns) row)
    (merges_once (union graphs) u.patterns row (once_rows (union graphs) u.patterns (once_rising triple_cmp triples_total (union graphs) (union_rises graphs))))

-- ---- what a row merges to over one graph, it merges to over another that has the solution

moved : (graph other : List Triple) (u : unit.Unit) (row s : Bindings) → ((b : Bindings) → Among b (bgp graph u.patterns) → Among b (bgp other u.patterns)) → Among s (beside graph u row) → Among s (beside other u row)
moved graph other u row s f m =
    let k = in_kept (holds u.filters) s (merges (bgp graph u.patterns) row) m in
    let b = among_from_map (merge row) s (filter (agree row) (bgp graph u.patterns)) k.0 in
    let l = in_kept (agree row) b.0 (bgp graph u.patterns) b.1 in
    kept_in (holds u.filters) s (merges (bgp other u.patterns) row)
    (subst (λ (v : Bindings). Among v (merges (bgp other u.patterns) row)) b.2 (among_map (merge row) b.0 (filter (agree row) (bgp other u.patterns)) (kept_in (agree row) b.0 (bgp other u.patterns) (f b.0 l.0) l.1))) k.1

-- ---- solutions over other graphs

abbrev HasTriple : List Triple → Bindings → Pattern → Type 0
HasTriple graph s p = (t : Triple) × Contains graph t × TurnsInto s p t

turns_over : (graph other : List Triple) (s : Bindings) (ps : List Pattern) → ((p : Pattern) (t : Triple) → Among p ps → Among t graph → TurnsInto s p t → Among t other) → AllByRecursion (HasTriple graph s) ps → AllByRecursion (HasTriple other s) ps
turns_over graph other s [] f h = tt
turns_over graph other s (p ∷ ps) f h = (
  (h.0.0, contains_from other h.0.0 (f p h.0.0 (inl refl) (among_from graph h.0.0 h.0.1) h.0.2), h.0.2),
  turns_over graph other s ps (λ q t m. f q t (inr m)) h.1,
)

over_other : (graph other : List Triple) (ps : List Pattern) (s : Bindings) → ((p : Pattern) (t : Triple) → Among p ps → Among t graph → TurnsInto s p t → Among t other) → Among s (bgp graph ps) → Among s (bgp other ps)
over_other graph other ps s f m =
    let h = solution_of graph ps s (contains_from (bgp graph ps) s m) in
    among_from (bgp other ps) s (row_from other ps s (record {
      rises = h.rises;
      binds = h.binds;
      turns = All-from_recursion (HasTriple other s) ps (turns_over graph other s ps f (recursion_from_All (HasTriple graph s) ps h.turns));
    }))

-- ---- which members have a triple

in_member : (graphs : List (List Triple)) (at : ℕ) (t : Triple) → Among t (graph_of graphs at) → AmongOne t graphs
in_member [] at t m = absurd m
in_member (g ∷ gs) zero t m = (g, inl refl, m)
in_member (g ∷ gs) (suc at) t m = let x = in_member gs at t m in (x.0, inr x.1, x.2)

member_in_union : (graphs : List (List Triple)) (at : ℕ) (t : Triple) → Among t (graph_of graphs at) → Among t (union graphs)
member_in_union graphs at t m = in_union graphs t (in_member graphs at t m)

-- the number of a graph
number_of : (graphs : List (List Triple)) (g : List Triple) → Among g graphs → (at : ℕ) × (at < length graphs) × (graph_of graphs at ≡ g)
number_of [] g m = absurd m
number_of (h ∷ hs) g (inl e) = (0, omega arith, e)
number_of (h ∷ hs) g (inr m) = let x = number_of hs g m in (suc x.0, (let low = x.1 in omega arith), x.2)

among_range : (n at : ℕ) → at < n → Among at (range_with_len 0 n)
among_range n at low =
    let long = length-range_with_len 0 n in
    among_at (range_with_len 0 n) at at (omega (arith, long)) (get_or-range_with_len 0 n at at low ∙ (omega arith))

all_are : (s : Bindings) (p : Pattern) (t : Triple) → TurnsInto s p t → AllAre s (parts_of p t)
all_are s p t h = (h.subject, (h.predicate, (h.object, tt)))

has_one : (s : Bindings) (rows : List Bindings) → Among s rows → has_rows rows ≡ true
has_one s [] m = absurd m
has_one s (r ∷ rows) m = refl

-- a pattern that a solution turns into a triple of a graph fits the graph
fits_from : (p : Pattern) (graph : List Triple) (s : Bindings) (t : Triple) → Among t graph → TurnsInto s p t → fits p graph ≡ true
fits_from p graph s t m h =
    let r = forces [] s (parts_of p t) (record { has = λ name term e. cc }) (all_are s p t h) in
    let one : bgp graph (p ∷ []) ≡ filter_map (λ v. forced [] (parts_of p v)) graph = sym (rows_from-bgp graph (p ∷ [])) ∙ append-nil (filter_map (λ v. forced [] (parts_of p v)) graph) in
    has_one r.0 (bgp graph (p ∷ [])) (subst (Among r.0) (sym one) (among_filter_map (λ v. forced [] (parts_of p v)) t r.0 graph m r.1))

-- a triple of the union that a solution turns a pattern into is one of a source of the pattern
a_source : (graphs : List (List Triple)) (p : Pattern) (s : Bindings) (t : Triple) → Among t (union graphs) → TurnsInto s p t → (at : ℕ) × Among at (sources graphs p) × Among t (graph_of graphs at)
a_source graphs p s t m h =
    let g = from_union graphs t m in
    let k = number_of graphs g.0 g.1 in
    let there : Among t (graph_of graphs k.0) = subst (Among t) (sym k.2) g.2 in
    (k.0, kept_in (λ at. fits p (graph_of graphs at)) k.0 (range_with_len 0 (length graphs)) (among_range (length graphs) k.0 k.1) (fits_from p (graph_of graphs k.0) s t there h), there)

-- ---- a sound unit

-- a member of the unit has the solution
abbrev AsksOne : List (List Triple) → unit.Unit → Bindings → Type 0
AsksOne graphs u s = (at : ℕ) × Among at u.members × Among s (bgp (graph_of graphs at) u.patterns)

pub each_of : {X : Type 0} (P : X → Type 0) (xs : List X) → AllByRecursion P xs → (x : X) → Among x xs → P x
each_of P [] h x m = absurd m
each_of P (y ∷ ys) h x (inl e) = subst P e h.0
each_of P (y ∷ ys) h x (inr m) = each_of P ys h.1 x m

one_only : (m k : ℕ) → Among k (m ∷ []) → k ≡ m
one_only m k (inl e) = sym e
one_only m k (inr n) = absurd n

-- each solution over the union is one over a member
from_member : (graphs : List (List Triple)) (u : unit.Unit) → IsSingle graphs u ⊎ IsExclusive graphs u → (s : Bindings) → Among s (bgp (union graphs) u.patterns) → AsksOne graphs u s
from_member graphs u (inl x) s m =
    let all = union graphs in
    let h = solution_of all u.patterns s (contains_from (bgp all u.patterns) s m) in
    let only : AllByRecursion (HasTriple all s) (x.pattern ∷ []) = subst (AllByRecursion (HasTriple all s)) x.alone (recursion_from_All (HasTriple all s) u.patterns h.turns) in
    let a = a_source graphs x.pattern s only.0.0 (among_from all only.0.0 only.0.1) only.0.2 in
    let turned : All (HasTriple (graph_of graphs a.0) s) u.patterns =
    subst (All (HasTriple (graph_of graphs a.0) s)) (sym x.alone) (All-from_recursion (HasTriple (graph_of graphs a.0) s) (x.pattern ∷ []) ((only.0.0, contains_from (graph_of graphs a.0) only.0.0 a.2, only.0.2), tt)) in (
      a.0,
      among_from u.members a.0 (each_of (Contains u.members) (sources graphs x.pattern) (recursion_from_All (Contains u.members) (sources graphs x.pattern) x.all) a.0 a.1),
      among_from (bgp (graph_of graphs a.0) u.patterns) s (row_from (graph_of graphs a.0) u.patterns s (record { rises = h.rises; binds = h.binds; turns = turned })),
    )
from_member graphs u (inr x) s m = (
  x.member,
  subst (Among x.member) (sym x.alone) (inl refl),
  over_other (union graphs) (graph_of graphs x.member) u.patterns s
      (λ p t n k h.
      let a = a_source graphs p s t k h in
      let same : a.0 ≡ x.member = one_only x.member a.0 (subst (Among a.0) (each_of (λ q. sources graphs q ≡ x.member ∷ []) u.patterns (recursion_from_All (λ q. sources graphs q ≡ x.member ∷ []) u.patterns x.only) p n) a.1) in
      subst (λ (at : ℕ). Among t (graph_of graphs at)) same a.2) m,
)

-- each solution over a member is one over the union
into_union : (graphs : List (List Triple)) (u : unit.Unit) (at : ℕ) (s : Bindings) → Among s (bgp (graph_of graphs at) u.patterns) → Among s (bgp (union graphs) u.patterns)
into_union graphs u at s m = over_other (graph_of graphs at) (union graphs) u.patterns s (λ p t n k h. member_in_union graphs at t k) m

pub members_have_the_union : MembersHaveTheUnion
members_have_the_union graphs u row up sound =
    once_is_set solution_cmp solutions_total exact_solutions (beside (union graphs) u row) (of_members graphs u row) (beside_once graphs u row)
    (λ s m.
    let k = in_kept (holds u.filters) s (merges (bgp (union graphs) u.patterns) row) m in
    let b = among_from_map (merge row) s (filter (agree row) (bgp (union graphs) u.patterns)) k.0 in
    let l = in_kept (agree row) b.0 (bgp (union graphs) u.patterns) b.1 in
    let a = from_member graphs u sound.complete b.0 l.0 in
    let mine = bgp (graph_of graphs a.0) u.patterns in
    among_flat_map (λ at. beside (graph_of graphs at) u row) a.0 s u.members a.1
    (kept_in (holds u.filters) s (merges mine row) (subst (λ (v : Bindings). Among v (merges mine row)) b.2 (among_map (merge row) b.0 (filter (agree row) mine) (kept_in (agree row) b.0 mine a.2 l.1))) k.1))
    (λ s m.
    let a = among_from_flat_map (λ at. beside (graph_of graphs at) u row) s u.members m in
    moved (graph_of graphs a.0) (union graphs) u row s (λ b n. into_union graphs u a.0 b n) a.2)
