-- The solutions of one pattern over a union of graphs: those over each graph, each once.
use Rattle.std.proofs.Common.{◌≡◌, sym, subst, refl, List, [], ◌∷◌, IsPermutation, inl, inr}
use Rattle.std.specs.Prelude.{Contains}
use Rattle.std.specs.List.{flat_map}
use Rattle.std.specs.List.Sorted.{IsStrictlySortedBy}
use Rattle.std.specs.declared.cmp.Ordering.{Ordering}
use Rattle.std.specs.declared.cmp.Ordering.TheVariants.{Less, Equal, Greater}
use Rattle.std.specs.FinMap.Entries.{by_order}
use Rattle.std.specs.Cmp.{IsTotalOrder}
use Rattle.std.proofs.lemmas.List.Elements.{All-from_recursion, recursion_from_All}
use Rattle.std.proofs.lemmas.List.Sorted.{IsPermutation-refl, IsPermutation-sym, IsPermutation-cons, IsPermutation-trans, IsPermutation-middle}
use Rattle.fx_terms.specs.Graphs.{put_once, set_of}
use Rattle.fx_terms.specs.Triples.{triple_cmp, triples_total}
use Rattle.fx_terms.specs.declared.triples.Triple.{Triple}
use Rattle.fx_terms.specs.declared.patterns.Pattern.{Pattern}
use Rattle.fx_terms.proofs.OrderLemmas.{exact_triples}
use Rattle.fx_terms.proofs.SetLemmas.{Among, among_from, contains_from, rises_set, among_set, among_from_set, one_rising}
use Rattle.fx_algebra.specs.Graphs.{union}
use Rattle.fx_algebra.specs.Solutions.{Bindings, solution_cmp, solutions_total}
use Rattle.fx_algebra.specs.BasicGraphPatterns.{bgp, TurnsInto, IsSolutionOf}
use Rattle.fx_algebra.proofs.MemberLemmas.{IsOnce, once_rising, among_flat_map, among_from_flat_map}
use Rattle.fx_algebra.proofs.BgpLemmas.{solution_of, row_from, once_rows}
use Rattle.fx_algebra.proofs.JoinLemmas.{exact_solutions}

-- ---- a list in which each element stands once, in order

module _ {X : Type 0} (R : X → X → Ordering) (o : IsTotalOrder R) (exact : (a b : X) → R a b ≡ Equal → a ≡ b) where
  put_at : (x y : X) (ys : List X) (r : Ordering) → R x y ≡ r → (Among x (y ∷ ys) → ⊥) → IsPermutation (x ∷ ys) (put_once R x ys) → IsPermutation (x ∷ y ∷ ys) (by_order r (x ∷ y ∷ ys) (y ∷ ys) (y ∷ put_once R x ys))
  put_at x y ys Less e new rest = IsPermutation-refl (x ∷ y ∷ ys)
  put_at x y ys Equal e new rest = absurd (new (inl (sym (exact x y e))))
  put_at x y ys Greater e new rest =
      IsPermutation-trans (x ∷ y ∷ ys) (y ∷ x ∷ ys) (y ∷ put_once R x ys)
      (IsPermutation-sym (y ∷ x ∷ ys) (x ∷ y ∷ ys) (IsPermutation-middle (y ∷ []) x ys))
      (IsPermutation-cons y (x ∷ ys) (put_once R x ys) rest)

  put_moves : (x : X) (ys : List X) → (Among x ys → ⊥) → IsPermutation (x ∷ ys) (put_once R x ys)
  unfolding put_once
  put_moves x [] new = IsPermutation-refl (x ∷ [])
  put_moves x (y ∷ ys) new = put_at x y ys (R x y) refl new (put_moves x ys (λ m. new (inr m)))

  set_moves : (xs : List X) → IsOnce xs → IsPermutation xs (set_of R xs)
  unfolding set_of
  set_moves [] h = IsPermutation-refl []
  set_moves (x ∷ xs) h =
      IsPermutation-trans (x ∷ xs) (x ∷ set_of R xs) (put_once R x (set_of R xs))
      (IsPermutation-cons x xs (set_of R xs) (set_moves xs h.1))
      (put_moves x (set_of R xs) (λ m. h.0 (among_from_set R o exact x xs m)))

  -- a list in which each element stands once is the elements of any list that holds the same, in order, each once
  pub once_is_set : (xs ys : List X) → IsOnce xs → ((x : X) → Among x xs → Among x ys) → ((x : X) → Among x ys → Among x xs) → IsPermutation xs (set_of R ys)
  once_is_set xs ys h f g =
      let same : set_of R xs ≡ set_of R ys =
      one_rising R o exact (set_of R xs) (set_of R ys) (rises_set R o exact xs) (rises_set R o exact ys)
      (λ x m. among_set R o exact x ys (f x (among_from_set R o exact x xs m)))
      (λ x m. among_set R o exact x xs (g x (among_from_set R o exact x ys m))) in
      subst (λ (v : List X). IsPermutation xs v) same (set_moves xs h)

-- ---- solutions of one pattern

-- one of the lists holds it
abbrev pub AmongOne : {X : Type 0} → X → List (List X) → Type 0
AmongOne {X} x lists = (list : List X) × Among list lists × Among x list

-- the triple that a solution of one pattern turns it into
triple_of : (graph : List Triple) (p : Pattern) (s : Bindings) → IsSolutionOf graph (p ∷ []) s → (t : Triple) × Among t graph × TurnsInto s p t
triple_of graph p s h =
    let P : Pattern → Type 0 = λ q. (t : Triple) × Contains graph t × TurnsInto s q t in
    let one = recursion_from_All P (p ∷ []) h.turns in
    (one.0.0, among_from graph one.0.0 one.0.1, one.0.2)

with_triple : (graph other : List Triple) (p : Pattern) (s : Bindings) (t : Triple) → IsSolutionOf graph (p ∷ []) s → Among t other → TurnsInto s p t → IsSolutionOf other (p ∷ []) s
with_triple graph other p s t h m k =
    let P : Pattern → Type 0 = λ q. (u : Triple) × Contains other u × TurnsInto s q u in
    record { rises = h.rises; binds = h.binds; turns = All-from_recursion P (p ∷ []) ((t, contains_from other t m, k), tt) }

-- what one of the graphs holds the union holds, and the other way round
pub in_union : (graphs : List (List Triple)) (t : Triple) → AmongOne t graphs → Among t (union graphs)
in_union graphs t m = among_set triple_cmp triples_total exact_triples t (flat_map (λ graph. graph) graphs) (among_flat_map (λ graph. graph) m.0 t graphs m.1 m.2)

pub from_union : (graphs : List (List Triple)) (t : Triple) → Among t (union graphs) → AmongOne t graphs
from_union graphs t m = among_from_flat_map (λ graph. graph) t graphs (among_from_set triple_cmp triples_total exact_triples t (flat_map (λ graph. graph) graphs) m)

rows_over_union : (graphs : List (List Triple)) (p : Pattern) (s : Bindings) → Among s (bgp (union graphs) (p ∷ [])) → (graph : List Triple) × Among graph graphs × Among s (bgp graph (p ∷ []))
rows_over_union graphs p s m =
    let h = solution_of (union graphs) (p ∷ []) s (contains_from (bgp (union graphs) (p ∷ [])) s m) in
    let t = triple_of (union graphs) p s h in
    let g = from_union graphs t.0 t.1 in
    (g.0, g.1, among_from (bgp g.0 (p ∷ [])) s (row_from g.0 (p ∷ []) s (with_triple (union graphs) g.0 p s t.0 h g.2 t.2)))

rows_into_union : (graphs : List (List Triple)) (p : Pattern) (s : Bindings) (graph : List Triple) → Among graph graphs → Among s (bgp graph (p ∷ [])) → Among s (bgp (union graphs) (p ∷ []))
rows_into_union graphs p s graph m n =
    let h = solution_of graph (p ∷ []) s (contains_from (bgp graph (p ∷ [])) s n) in
    let t = triple_of graph p s h in
    among_from (bgp (union graphs) (p ∷ [])) s (row_from (union graphs) (p ∷ []) s (with_triple graph (union graphs) p s t.0 h (in_union graphs t.0 (graph, m, t.1)) t.2))

once_union : (graphs : List (List Triple)) (ps : List Pattern) → IsOnce (bgp (union graphs) ps)
once_union graphs ps = once_rows (union graphs) ps (once_rising triple_cmp triples_total (union graphs) (rises_set triple_cmp triples_total exact_triples (flat_map (λ graph. graph) graphs)))

-- rows that are those of the graphs, however often, are the rows of the union, once each is kept once
pub rows_of_union : (graphs : List (List Triple)) (p : Pattern) (rows : List Bindings)
    → ((s : Bindings) → Among s rows → (graph : List Triple) × Among graph graphs × Among s (bgp graph (p ∷ [])))
    → ((s : Bindings) (graph : List Triple) → Among graph graphs → Among s (bgp graph (p ∷ [])) → Among s rows)
    → IsPermutation (bgp (union graphs) (p ∷ [])) (set_of solution_cmp rows)
rows_of_union graphs p rows f g =
    once_is_set solution_cmp solutions_total exact_solutions (bgp (union graphs) (p ∷ [])) rows (once_union graphs (p ∷ []))
    (λ s m. let h = rows_over_union graphs p s m in g s h.0 h.1 h.2)
    (λ s m. let h = f s m in rows_into_union graphs p s h.0 h.1 h.2)

pub union_rises : (graphs : List (List Triple)) → IsStrictlySortedBy triple_cmp (union graphs)
union_rises graphs = rises_set triple_cmp triples_total exact_triples (flat_map (λ graph. graph) graphs)
