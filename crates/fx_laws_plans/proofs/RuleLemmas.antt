-- The plan goes by its rules.
use Rattle.std.proofs.Common.{◌≡◌, ◌∙◌, ap, sym, subst, refl, ℕ, ◌⊎◌, inl, inr, Bool, not, ◌&&◌, List, [], ◌∷◌, ◌++◌, map, filter, length, All, IsPermutation}
use Rattle.std.specs.List.{AllByRecursion, zip}
use Rattle.std.proofs.lemmas.List.Elements.{All-from_recursion}
use Rattle.std.proofs.lemmas.List.Sorted.{IsPermutation-trans}
use Rattle.std.proofs.lemmas.List.{length-map}
use Rattle.fx_algebra.specs.Units.{is_covered, is_pushable}
use Rattle.fx_algebra.specs.declared.expressions.Expr.{Expr}
use Rattle.fx_plan.specs.Plans.{by_position, in_order, pushed, shared, taken}
use Rattle.fx_laws_plans.specs.Rules.{IsGroup, IsPlanned, IsSingle, Placed, PlanGoesByItsRules, Spot, goes_along, has_sooner, pattern_at, spots}
use Rattle.fx_laws_plans.proofs.EachLemmas.{EachLater, each_weaker, filter_same}
use Rattle.fx_laws_plans.proofs.PositionLemmas.{IsEarlier, Rises, all_spots, asked_numbered, numbered_rise, positioned, positioned_kinds, positioned_patterns, positioned_rise, positioned_units, positioned_whole, unit_in}
use Rattle.fx_laws_plans.proofs.FilterLemmas.{any_shared, each_shared, filters_go, shared_out, shared_rise, shared_units, with_own}
use Rattle.fx_laws_plans.proofs.OrderLemmas.{of_taken, order_from, taken_any, taken_in_order, taken_of, taken_spots, taken_units}

-- the units of a run by position, with their filters
abbrev with_shares : List Expr → List Spot → List Placed
with_shares filters run = shared_out (filter is_pushable filters) (positioned run)

-- and in the order of the plan
abbrev planned : List Expr → List (List ℕ) → List Spot → List Placed
planned filters bound run = taken_of (length (with_shares filters run)) bound (with_shares filters run)

shared_spots : (es : List Expr) (us : List Placed) → all_spots (shared_out es us) ≡ all_spots us
shared_spots es [] = refl
shared_spots es (u ∷ us) = ap (λ (v : List Spot). u.spots ++ v) (shared_spots (filter (λ e. not (is_covered u.unit.patterns e)) es) us)

module _ (filters : List Expr) (bound : List (List ℕ)) (run : List Spot) (h : Rises run) where
  rise : EachLater IsEarlier (positioned run)
  rise = positioned_rise run h

  of_units : (P : Placed → Type 0) → AllByRecursion P (with_shares filters run) → All P (planned filters bound run)
  of_units P k = All-from_recursion P (planned filters bound run) (of_taken P (length (with_shares filters run)) bound (with_shares filters run) k)

  -- the order leaves which filters go along
  same_test : (u : Placed) (e : Expr) → goes_along (positioned run) u e ≡ goes_along (planned filters bound run) u e
  same_test u e =
      ap (λ (b : Bool). is_pushable e && (is_covered u.unit.patterns e && not b))
      (sym (taken_any (has_sooner e u) (length (with_shares filters run)) bound (with_shares filters run) refl ∙ any_shared (has_sooner e u) (λ v es. refl) (filter is_pushable filters) (positioned run)))

  is_planned : IsPlanned run filters bound (planned filters bound run)
  is_planned = record {
    patterns =
        of_units (λ u. u.unit.patterns ≡ map pattern_at u.spots)
        (each_shared (λ u. u.unit.patterns ≡ map pattern_at u.spots) (λ u es e. e) (filter is_pushable filters) (positioned run) (positioned_patterns run));
    whole =
        IsPermutation-trans (all_spots (planned filters bound run)) (all_spots (with_shares filters run)) run
        (taken_spots (length (with_shares filters run)) bound (with_shares filters run) refl)
        (subst (λ (v : List Spot). IsPermutation v run) (sym (shared_spots (filter is_pushable filters) (positioned run))) (positioned_whole run));
    kinds =
        of_units (λ u. IsGroup run u ⊎ IsSingle u)
        (each_shared (λ u. IsGroup run u ⊎ IsSingle u) kept (filter is_pushable filters) (positioned run) (positioned_kinds run h));
    order = order_from bound (planned filters bound run) (taken_in_order (length (with_shares filters run)) bound (with_shares filters run) (shared_rise (filter is_pushable filters) (positioned run) rise));
    filters =
        of_units (λ u. u.unit.filters ≡ filter (goes_along (planned filters bound run) u) filters)
        (each_weaker (λ u. u.unit.filters ≡ filter (goes_along (positioned run) u) filters) (λ u. u.unit.filters ≡ filter (goes_along (planned filters bound run) u) filters)
        (λ u e. e ∙ filter_same (goes_along (positioned run) u) (goes_along (planned filters bound run) u) (same_test u) filters) (with_shares filters run) (filters_go filters (positioned run) rise));
  }
    where
      kept : (u : Placed) (es : List Expr) → IsGroup run u ⊎ IsSingle u → IsGroup run (with_own u es) ⊎ IsSingle (with_own u es)
      kept u es (inl g) = inl (record { member = g.member; kind = g.kind; alone = g.alone; some = g.some; all = g.all; rises = g.rises })
      kept u es (inr s) = inr (record { spot = s.spot; kind = s.kind; alone = s.alone; members = s.members; several = s.several })

pub plan_goes_by_its_rules : PlanGoesByItsRules
plan_goes_by_its_rules run sources filters bound =
    let all = spots run sources in
    let us = with_shares filters all in
    let same : map unit_in us ≡ pushed filters (by_position (zip run sources)) =
    shared_units (filter is_pushable filters) (positioned all)
    ∙ ap (shared (filter is_pushable filters)) (positioned_units all ∙ ap by_position (asked_numbered 0 (zip run sources))) in (
      planned filters bound all,
      ap (in_order bound) (sym same) ∙ (ap (λ n. taken n bound (map unit_in us)) (length-map us unit_in) ∙ sym (taken_units (length us) bound us)),
      is_planned filters bound all (numbered_rise 0 (zip run sources)).1,
    )
