-- Graphs with an empty one in the place of each member that isn't kept.
use Rattle.std.proofs.Common.{◌≡◌, ◌∙◌, ap, sym, refl, zero, suc, Bool, true, false, ◌&&◌, cond, List, [], ◌∷◌, ◌++◌, length, arith, filter}
use Rattle.std.specs.List.{flat_map, range_with_len}
use Rattle.fx_terms.specs.Graphs.{graph_of as set_of_triples}
use Rattle.fx_terms.specs.declared.triples.Triple.{Triple}
use Rattle.fx_terms.specs.declared.patterns.Pattern.{Pattern}
use Rattle.fx_algebra.specs.Units.{fits, graph_of, is_kept, of_kept, kept_alone, KeptHaveTheirNumbers, KeptHaveTheirGraphs, SourcesAreKept, UnionIsOfTheKept, AllKeptAreAll}

pub kept_numbers : KeptHaveTheirNumbers
kept_numbers kept [] = refl
kept_numbers [] (graph ∷ graphs) = ap suc (kept_numbers [] graphs)
kept_numbers (k ∷ kept) (graph ∷ graphs) = ap suc (kept_numbers kept graphs)

empty_either : (b : Bool) → [] ≡ cond {A = List Triple} b [] []
empty_either true = refl
empty_either false = refl

pub kept_graphs : KeptHaveTheirGraphs
kept_graphs kept [] at = empty_either (is_kept kept at)
kept_graphs [] (graph ∷ graphs) zero = refl
kept_graphs [] (graph ∷ graphs) (suc at) = kept_graphs [] graphs at
kept_graphs (k ∷ kept) (graph ∷ graphs) zero = refl
kept_graphs (k ∷ kept) (graph ∷ graphs) (suc at) = kept_graphs kept graphs at

-- ---- sources

module _ {X : Type 0} (f g : X → Bool) where
  both_at : (x : X) (c d : Bool) (rest kept : List X) → g x ≡ d → rest ≡ filter g kept → cond (c && d) (x ∷ rest) rest ≡ filter g (cond c (x ∷ kept) kept)
  both_at x true true rest kept e h = λ i. cond (sym e i) (x ∷ h i) (h i)
  both_at x true false rest kept e h = λ i. cond (sym e i) (x ∷ h i) (h i)
  both_at x false d rest kept e h = h

  -- what passes both tests is what passes one of what passes the other
  pub filter_both : (xs : List X) → filter (λ x. f x && g x) xs ≡ filter g (filter f xs)
  filter_both [] = refl
  filter_both (x ∷ xs) = both_at x (f x) (g x) (filter (λ y. f y && g y) xs) (filter f xs) refl (filter_both xs)

-- tests that say the same keep the same
pub filter_alike : {X : Type 0} (f g : X → Bool) → ((x : X) → f x ≡ g x) → (xs : List X) → filter f xs ≡ filter g xs
filter_alike f g same [] = refl
filter_alike f g same (x ∷ xs) = λ i. cond (same x i) (x ∷ filter_alike f g same xs i) (filter_alike f g same xs i)

fits_if : (p : Pattern) (graph : List Triple) (b : Bool) → fits p (cond b graph []) ≡ fits p graph && b
fits_if p graph true = and_true (fits p graph)
  where
    and_true : (c : Bool) → c ≡ c && true
    and_true true = refl
    and_true false = refl
fits_if p graph false = and_false (fits p graph)
  where
    and_false : (c : Bool) → false ≡ c && false
    and_false true = refl
    and_false false = refl

pub kept_sources : SourcesAreKept
kept_sources kept graphs p =
    ap (λ n. filter (λ at. fits p (graph_of (of_kept kept graphs) at)) (range_with_len 0 n)) (kept_numbers kept graphs)
    ∙ filter_alike (λ at. fits p (graph_of (of_kept kept graphs) at)) (λ at. fits p (graph_of graphs at) && is_kept kept at)
    (λ at. ap (fits p) (kept_graphs kept graphs at) ∙ fits_if p (graph_of graphs at) (is_kept kept at)) (range_with_len 0 (length graphs))
    ∙ filter_both (λ at. fits p (graph_of graphs at)) (is_kept kept) (range_with_len 0 (length graphs))

-- ---- unions

triples_kept : (kept : List Bool) (graphs : List (List Triple)) → flat_map (λ graph. graph) (of_kept kept graphs) ≡ flat_map (λ graph. graph) (kept_alone kept graphs)
triples_kept [] [] = refl
triples_kept [] (graph ∷ graphs) = triples_kept [] graphs
triples_kept (k ∷ kept) [] = refl
triples_kept (true ∷ kept) (graph ∷ graphs) = ap (λ triples. graph ++ triples) (triples_kept kept graphs)
triples_kept (false ∷ kept) (graph ∷ graphs) = triples_kept kept graphs

pub kept_union : UnionIsOfTheKept
kept_union kept graphs = ap set_of_triples (triples_kept kept graphs)

-- ---- all are kept

pub all_kept : AllKeptAreAll
all_kept kept [] all = refl
all_kept [] (graph ∷ graphs) all = absurd (let kept : false ≡ true = all zero (omega arith) in cc)
all_kept (k ∷ kept) (graph ∷ graphs) all =
    let first : k ≡ true = all zero (omega arith) in
    let rest = all_kept kept graphs (λ at within. all (suc at) (omega (arith, within))) in
    λ i. cond (first i) graph [] ∷ rest i
