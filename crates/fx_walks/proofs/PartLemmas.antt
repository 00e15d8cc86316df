-- The parts of a query by the sources of its patterns, and the members in them.
use Rattle.std.proofs.Common.{◌≡◌, ◌∙◌, ap, sym, subst, refl, ℕ, zero, suc, ◌<◌, ◌≤◌, ◌+◌, ◌-◌, Bool, true, false, cond, List, [], ◌∷◌, ◌++◌, map, length, take, drop, ◌⊎◌, inl, inr, arith, append-nil, append_assoc}
use Rattle.std.proofs.lemmas.List.{length-append, length-drop, map-append}
use Rattle.std.proofs.lemmas.List.Elements.{All-from_recursion, recursion_from_All}
use Rattle.std.specs.Prelude.{All}
use Rattle.std.specs.List.{AllByRecursion, flat_map, list_any, zip}
use Rattle.fx_terms.specs.declared.patterns.Pattern.{Pattern}
use Rattle.fx_algebra.specs.Answers.{is_empty_list}
use Rattle.fx_algebra.specs.declared.expressions.Expr.{Expr}
use Rattle.fx_algebra.specs.declared.units.Unit as unit
use Rattle.fx_plan.specs.Explained.{HasMembers, IsWithin}
use Rattle.fx_plan.specs.Laws.{IsAsked, IsGroup, IsSingle}
use Rattle.fx_plan.specs.Plans.{Asked, plan}
use Rattle.fx_plan.specs.declared.parts.Part.{Part}
use Rattle.fx_plan.specs.declared.parts.Part.TheVariants as part
use Rattle.fx_plan.proofs.LawLemmas.{units_are_of_the_run}
use Rattle.fx_walks.specs.Sections.{part_of_run, part_with, parts_by, run_patterns}
use Rattle.fx_walks.specs.declared.sections.Section.{Section}
use Rattle.fx_walks.specs.declared.sections.Section.TheVariants.{Run, Service}

-- ---- by a function

take_front : (f : Pattern → List ℕ) (ps : List Pattern) (rest : List (List ℕ)) → take (length ps) (map f ps ++ rest) ≡ map f ps
take_front f [] rest = refl
take_front f (p ∷ ps) rest = ap (λ (v : List (List ℕ)). f p ∷ v) (take_front f ps rest)

drop_front : (f : Pattern → List ℕ) (ps : List Pattern) (rest : List (List ℕ)) → drop (length ps) (map f ps ++ rest) ≡ rest
drop_front f [] rest = refl
drop_front f (p ∷ ps) rest = drop_front f ps rest

-- sections by what a function gives for the patterns of all runs
pub by_function : (f : Pattern → List ℕ) (ss : List Section) → parts_by ss (map f (flat_map run_patterns ss)) ≡ map (part_with f) ss
by_function f [] = refl
by_function f (Run ps filters bound ∷ ss) =
    let rest = map f (flat_map run_patterns ss) in
    ap (λ (v : List (List ℕ)). parts_by (Run ps filters bound ∷ ss) v) (map-append f ps (flat_map run_patterns ss))
    ∙ ap (λ (v : List (List ℕ)). part_of_run ps filters bound v ∷ parts_by ss (drop (length ps) (map f ps ++ rest))) (take_front f ps rest)
    ∙ ap (λ (v : List (List ℕ)). part_of_run ps filters bound (map f ps) ∷ parts_by ss v) (drop_front f ps rest)
    ∙ ap (λ (v : List Part). part_of_run ps filters bound (map f ps) ∷ v) (by_function f ss)
by_function f (Service iri ∷ ss) = ap (λ (v : List Part). part.Service iri ∷ v) (by_function f ss)

-- ---- the members of parts

each : {X : Type 0} (P Q : X → Type 0) (xs : List X) → ((x : X) → P x → Q x) → AllByRecursion P xs → AllByRecursion Q xs
each P Q [] f h = tt
each P Q (x ∷ xs) f h = (f x h.0, each P Q xs f h.1)

all_take : {X : Type 0} (P : X → Type 0) (n : ℕ) (xs : List X) → AllByRecursion P xs → AllByRecursion P (take n xs)
all_take P zero xs h = tt
all_take P (suc n) [] h = tt
all_take P (suc n) (x ∷ xs) h = (h.0, all_take P n xs h.1)

all_drop : {X : Type 0} (P : X → Type 0) (n : ℕ) (xs : List X) → AllByRecursion P xs → AllByRecursion P (drop n xs)
all_drop P zero xs h = h
all_drop P (suc n) [] h = tt
all_drop P (suc n) (x ∷ xs) h = all_drop P n xs h.1

module _ (count : ℕ) where
  abbrev Within : List ℕ → Type 0
  Within ms = All (λ m. m < count) ms

  asked_within : (ps : List Pattern) (sources : List (List ℕ)) (a : Asked) → AllByRecursion Within sources → IsAsked (zip ps sources) a → Within a.1
  asked_within [] sources a h m = absurd m
  asked_within (p ∷ ps) [] a h m = absurd m
  asked_within (p ∷ ps) (s ∷ sources) a h (inl e) = subst (λ (b : Asked). Within b.1) e h.0
  asked_within (p ∷ ps) (s ∷ sources) a h (inr m) = asked_within ps sources a h.1 m

  first_asked : (asked : List Asked) (member : ℕ) (ps : List Pattern) → 0 < length ps → AllByRecursion (λ p. IsAsked asked (p, member ∷ [])) ps → (p : Pattern) × IsAsked asked (p, member ∷ [])
  first_asked asked member [] some h = absurd (omega arith)
  first_asked asked member (p ∷ ps) some h = (p, h.0)

  unit_within : (ps : List Pattern) (sources : List (List ℕ)) → AllByRecursion Within sources → (u : unit.Unit) → IsGroup (zip ps sources) u ⊎ IsSingle (zip ps sources) u → IsWithin count u
  unit_within ps sources h u (inl g) =
      let first = first_asked (zip ps sources) g.member u.patterns g.some (recursion_from_All _ u.patterns g.only) in
      subst Within (sym g.alone) (asked_within ps sources (first.0, g.member ∷ []) h first.1)
  unit_within ps sources h u (inr s) = asked_within ps sources (s.pattern, u.members) h s.its

  plan_within : (ps : List Pattern) (sources : List (List ℕ)) (filters : List Expr) (bound : List (List ℕ)) → AllByRecursion Within sources → All (IsWithin count) (plan ps sources filters bound)
  plan_within ps sources filters bound h =
      let us = plan ps sources filters bound in
      All-from_recursion (IsWithin count) us
      (each (λ u. IsGroup (zip ps sources) u ⊎ IsSingle (zip ps sources) u) (IsWithin count) us (unit_within ps sources h) (recursion_from_All _ us (units_are_of_the_run ps sources filters bound)))

  run_within : (b : Bool) (us : List unit.Unit) (bound : List (List ℕ)) → All (IsWithin count) us → HasMembers count (cond b part.EmptyRun (part.Run us bound))
  run_within true us bound h = tt
  run_within false us bound h = h

  sections_within : (ss : List Section) (sources : List (List ℕ)) → AllByRecursion Within sources → AllByRecursion (HasMembers count) (parts_by ss sources)
  sections_within [] sources h = tt
  sections_within (Run ps filters bound ∷ ss) sources h =
      let own = take (length ps) sources in (
        run_within (list_any is_empty_list own) (plan ps own filters bound) bound (plan_within ps own filters bound (all_take Within (length ps) sources h)),
        sections_within ss (drop (length ps) sources) (all_drop Within (length ps) sources h),
      )
  sections_within (Service iri ∷ ss) sources h = (tt, sections_within ss sources h)

  pub parts_within : (ss : List Section) (sources : List (List ℕ)) → All Within sources → All (HasMembers count) (parts_by ss sources)
  parts_within ss sources h = All-from_recursion (HasMembers count) (parts_by ss sources) (sections_within ss sources (recursion_from_All Within sources h))

-- ---- one section after another

-- what the sections that are left add to the parts, and as many sources are left as they have patterns
pub record Left (parts : List Part) (rest : List Section) (left : List (List ℕ)) (all : List Part) : Type 0 where
  pub parts_are : parts ++ parts_by rest left ≡ all
  pub many : length left ≡ length (flat_map run_patterns rest)

run_count : (ps : List Pattern) (filters : List Expr) (bound : List (List ℕ)) (ss rest : List Section) → rest ≡ Run ps filters bound ∷ ss → length (flat_map run_patterns rest) ≡ length ps + length (flat_map run_patterns ss)
run_count ps filters bound ss rest is = ap (λ (r : List Section). length (flat_map run_patterns r)) is ∙ length-append ps (flat_map run_patterns ss)

-- the patterns of the next run have their sources
pub has_sources : (parts : List Part) (rest : List Section) (left : List (List ℕ)) (all : List Part) (ps : List Pattern) (filters : List Expr) (bound : List (List ℕ)) (ss : List Section) → Left parts rest left all → rest ≡ Run ps filters bound ∷ ss → length ps ≤ length left
has_sources parts rest left all ps filters bound ss h is = omega (arith, h.many, run_count ps filters bound ss rest is)

pub after_run : (parts new : List Part) (rest : List Section) (left own others : List (List ℕ)) (all : List Part) (ps : List Pattern) (filters : List Expr) (bound : List (List ℕ)) (ss : List Section) (one : Part)
    → Left parts rest left all → rest ≡ Run ps filters bound ∷ ss → own ≡ take (length ps) left → others ≡ drop (length ps) left → one ≡ part_of_run ps filters bound own → new ≡ parts ++ one ∷ [] → Left new ss others all
after_run parts new rest left own others all ps filters bound ss one h is front back made more = record {
  parts_are =
      ap (λ (v : List Part). v ++ parts_by ss others) more
      ∙ append_assoc parts (one ∷ []) (parts_by ss others)
      ∙ ap (λ (v : List Part). parts ++ v)
      (ap (λ (p : Part). p ∷ parts_by ss others) (made ∙ ap (part_of_run ps filters bound) front)
      ∙ ap (λ (v : List (List ℕ)). part_of_run ps filters bound (take (length ps) left) ∷ parts_by ss v) back
      ∙ sym (ap (λ (r : List Section). parts_by r left) is))
      ∙ h.parts_are;
  many =
      let short : length others ≡ length left - length ps = ap length back ∙ length-drop (length ps) left in
      omega (arith, short, h.many, run_count ps filters bound ss rest is);
}

pub after_service : (parts new : List Part) (rest : List Section) (left : List (List ℕ)) (all : List Part) (iri : List ℕ) (ss : List Section) → Left parts rest left all → rest ≡ Service iri ∷ ss → new ≡ parts ++ part.Service iri ∷ [] → Left new ss left all
after_service parts new rest left all iri ss h is more = record {
  parts_are =
      ap (λ (v : List Part). v ++ parts_by ss left) more
      ∙ append_assoc parts (part.Service iri ∷ []) (parts_by ss left)
      ∙ ap (λ (v : List Part). parts ++ v) (sym (ap (λ (r : List Section). parts_by r left) is))
      ∙ h.parts_are;
  many = h.many ∙ ap (λ (r : List Section). length (flat_map run_patterns r)) is;
}

pub none_left : (parts : List Part) (rest : List Section) (left : List (List ℕ)) (all : List Part) → Left parts rest left all → rest ≡ [] → parts ≡ all
none_left parts rest left all h is = sym (append-nil parts) ∙ sym (ap (λ (r : List Section). parts ++ parts_by r left) is) ∙ h.parts_are

no_length : {X : Type 0} (xs : List X) → length xs ≡ 0 → xs ≡ []
no_length [] h = refl
no_length (x ∷ xs) h = absurd (omega arith)

-- nothing is left behind all
pub nothing_behind : {X : Type 0} (ys rest all : List X) → ys ++ rest ≡ all → length ys ≡ length all → rest ≡ []
nothing_behind ys rest all whole same = no_length rest (let a = ap length whole in omega (arith, same, length-append ys rest))
