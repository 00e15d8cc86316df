-- The filters that go along with the units of a run by position, beside their spots.
use Rattle.std.proofs.Common.{◌≡◌, ◌∙◌, ap, sym, subst, refl, ◌<◌, Bool, true, false, not, ◌&&◌, ◌||◌, List, [], ◌∷◌, ◌++◌, map, filter, append_assoc, arith}
use Rattle.std.specs.Prelude.{nat_lt}
use Rattle.std.specs.List.{AllByRecursion, list_any}
use Rattle.std.proofs.lemmas.Bool.Decides.{nat_tests}
use Rattle.fx_algebra.specs.Units.{is_covered, is_pushable}
use Rattle.fx_algebra.specs.declared.expressions.Expr.{Expr}
use Rattle.fx_algebra.specs.declared.units.Unit as unit
use Rattle.fx_plan.specs.Plans.{shared, with_filters}
use Rattle.fx_laws_plans.specs.Rules.{Placed, goes_along, has_sooner, place}
use Rattle.fx_laws_plans.proofs.EachLemmas.{EachLater, filter_same, filter_twice}
use Rattle.fx_laws_plans.proofs.PositionLemmas.{IsEarlier, unit_in}

abbrev pub with_own : Placed → List Expr → Placed
with_own u es = record { spots = u.spots; unit = with_filters u.unit es }

abbrev covers : Placed → Expr → Bool
covers u e = is_covered u.unit.patterns e

abbrev pub shared_out : List Expr → List Placed → List Placed
shared_out es [] = []
shared_out es (u ∷ us) = with_own u (filter (covers u) es) ∷ shared_out (filter (λ e. not (covers u e)) es) us

pub shared_units : (es : List Expr) (us : List Placed) → map unit_in (shared_out es us) ≡ shared es (map unit_in us)
shared_units es [] = refl
shared_units es (u ∷ us) = ap (λ (v : List unit.Unit). with_filters u.unit (filter (covers u) es) ∷ v) (shared_units (filter (λ e. not (covers u e)) es) us)

-- what holds of units whatever their filters are holds behind that
pub each_shared : (P : Placed → Type 0) → ((u : Placed) (es : List Expr) → P u → P (with_own u es)) → (es : List Expr) (us : List Placed) → AllByRecursion P us → AllByRecursion P (shared_out es us)
each_shared P f es [] h = tt
each_shared P f es (u ∷ us) h = (f u (filter (covers u) es) h.0, each_shared P f (filter (λ e. not (covers u e)) es) us h.1)

later_each : (u : Placed) (es : List Expr) (us : List Placed) → AllByRecursion (IsEarlier u) us → AllByRecursion (IsEarlier u) (shared_out es us)
later_each u es us h = each_shared (IsEarlier u) (λ v fs t. t) es us h

pub shared_rise : (es : List Expr) (us : List Placed) → EachLater IsEarlier us → EachLater IsEarlier (shared_out es us)
shared_rise es [] h = tt
shared_rise es (u ∷ us) h =
    (later_each u (filter (λ e. not (covers u e)) es) us h.0, shared_rise (filter (λ e. not (covers u e)) es) us h.1)

-- a test that knows nothing of filters
pub any_shared : (p : Placed → Bool) → ((u : Placed) (es : List Expr) → p (with_own u es) ≡ p u) → (es : List Expr) (us : List Placed) → list_any p (shared_out es us) ≡ list_any p us
any_shared p f es [] = refl
any_shared p f es (u ∷ us) = λ i. f u (filter (covers u) es) i || any_shared p f (filter (λ e. not (covers u e)) es) us i

-- ---- which filters

-- no unit of some has the variables of a filter
abbrev has_none : List Placed → Expr → Bool
has_none us e = not (list_any (λ v. covers v e) us)

none_here : (v u : Placed) (e : Expr) → place u < place v → has_sooner e u v ≡ false
none_here v u e h = let k : nat_lt (place v) (place u) ≡ false = grind (arith, nat_tests) in ap (λ (b : Bool). b && covers v e) k

none_at : (u : Placed) (e : Expr) → has_sooner e u u ≡ false
none_at u e = let k : nat_lt (place u) (place u) ≡ false = grind (arith, nat_tests) in ap (λ (b : Bool). b && covers u e) k

here_sooner : (v u : Placed) (e : Expr) → place v < place u → has_sooner e u v ≡ covers v e
here_sooner v u e h = let k : nat_lt (place v) (place u) ≡ true = grind (arith, nat_tests) in ap (λ (b : Bool). b && covers v e) k

none_later : (u : Placed) (e : Expr) (us : List Placed) → AllByRecursion (IsEarlier u) us → list_any (has_sooner e u) us ≡ false
none_later u e [] h = refl
none_later u e (v ∷ vs) h = ap (λ (b : Bool). b || list_any (has_sooner e u) vs) (none_here v u e h.0) ∙ none_later u e vs h.1

-- of units by position, those in front of one are those that come sooner
any_sooner : (front : List Placed) (u : Placed) (us : List Placed) (e : Expr) → EachLater IsEarlier (front ++ (u ∷ us)) → list_any (has_sooner e u) (front ++ (u ∷ us)) ≡ list_any (λ v. covers v e) front
any_sooner [] u us e h = ap (λ (b : Bool). b || list_any (has_sooner e u) us) (none_at u e) ∙ none_later u e us h.0
any_sooner (v ∷ front) u us e h = λ i. here_sooner v u e (of_front front h.0) i || any_sooner front u us e h.1 i
  where
    of_front : (fs : List Placed) → AllByRecursion (IsEarlier v) (fs ++ (u ∷ us)) → place v < place u
    of_front [] k = k.0
    of_front (f ∷ fs) k = of_front fs k.1

and_turned : (b c : Bool) → (b && c) ≡ (c && b)
and_turned true true = refl
and_turned true false = refl
and_turned false true = refl
and_turned false false = refl

none_more : (a b : Bool) → (not a && not b) ≡ not (a || b)
none_more true b = refl
none_more false b = refl

or_end : (p : Placed → Bool) (front : List Placed) (u : Placed) → list_any p (front ++ (u ∷ [])) ≡ (list_any p front || p u)
or_end p [] u = or_false (p u)
  where
    or_false : (b : Bool) → (b || false) ≡ b
    or_false true = refl
    or_false false = refl
or_end p (v ∷ vs) u = ap (λ (b : Bool). p v || b) (or_end p vs u) ∙ or_assoc (p v) (list_any p vs) (p u)
  where
    or_assoc : (a b c : Bool) → (a || (b || c)) ≡ ((a || b) || c)
    or_assoc true b c = refl
    or_assoc false b c = refl

-- the filters of units behind some, where those that these have are gone
module _ (all : List Placed) (filters : List Expr) where
  abbrev Goes : Placed → Type 0
  Goes u = u.unit.filters ≡ filter (goes_along all u) filters

  left_more : (front : List Placed) (u : Placed) → filter (λ e. not (covers u e)) (filter (has_none front) (filter is_pushable filters)) ≡ filter (has_none (front ++ (u ∷ []))) (filter is_pushable filters)
  left_more front u =
      filter_twice (has_none front) (λ e. not (covers u e)) (filter is_pushable filters)
      ∙ filter_same (λ e. has_none front e && not (covers u e)) (has_none (front ++ (u ∷ [])))
      (λ e. none_more (list_any (λ v. covers v e) front) (covers u e) ∙ ap not (sym (or_end (λ v. covers v e) front u))) (filter is_pushable filters)

  own_left : (front : List Placed) (u : Placed) (us : List Placed) → all ≡ front ++ (u ∷ us) → EachLater IsEarlier all
      → filter (covers u) (filter (has_none front) (filter is_pushable filters)) ≡ filter (goes_along all u) filters
  own_left front u us e h =
      filter_twice (has_none front) (covers u) (filter is_pushable filters)
      ∙ filter_twice is_pushable (λ x. has_none front x && covers u x) filters
      ∙ filter_same (λ x. is_pushable x && (has_none front x && covers u x)) (goes_along all u)
      (λ x. ap (λ (b : Bool). is_pushable x && b)
      (and_turned (has_none front x) (covers u x)
      ∙ ap (λ (b : Bool). covers u x && not b) (sym (ap (λ (v : List Placed). list_any (has_sooner x u) v) e ∙ any_sooner front u us x (subst (EachLater IsEarlier) e h))))) filters

  -- the filters of each of the units behind some
  go_along : (front us : List Placed) → all ≡ front ++ us → EachLater IsEarlier all
      → AllByRecursion Goes (shared_out (filter (has_none front) (filter is_pushable filters)) us)
  go_along front [] e h = tt
  go_along front (u ∷ us) e h = (
    own_left front u us e h,
    subst (λ (v : List Expr). AllByRecursion Goes (shared_out v us)) (sym (left_more front u)) (go_along (front ++ (u ∷ [])) us (e ∙ sym (append_assoc front (u ∷ []) us)) h),
  )

all_pass : (xs : List Expr) → filter (has_none []) xs ≡ xs
all_pass [] = refl
all_pass (x ∷ xs) = ap (λ (v : List Expr). x ∷ v) (all_pass xs)

pub filters_go : (filters : List Expr) (us : List Placed) → EachLater IsEarlier us → AllByRecursion (λ u. u.unit.filters ≡ filter (goes_along us u) filters) (shared_out (filter is_pushable filters) us)
filters_go filters us h =
    subst (λ (v : List Expr). AllByRecursion (λ u. u.unit.filters ≡ filter (goes_along us u) filters) (shared_out v us)) (all_pass (filter is_pushable filters)) (go_along us filters [] us refl h)
