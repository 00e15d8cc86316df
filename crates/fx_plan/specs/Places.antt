-- Where units stand in lists: that of a group, and that of the unit that is taken next.
use Rattle.std.specs.Prelude.{◌≡◌, ℕ, ◌==◌, Bool, not, ◌&&◌, ◌||◌, List, [], ◌∷◌, ◌++◌, filter, length, nat_lt, nat_eq, position, Option, None, Some, if◌then◌else◌}
use Rattle.std.proofs.Common.{zero, suc}
use Rattle.indexmap.specs.IndexMap.{IndexMap, get}
use Rattle.fx_terms.specs.declared.patterns.Pattern.{Pattern}
use Rattle.fx_algebra.specs.Scopes.{is_among}
use Rattle.fx_algebra.specs.declared.units.Unit as unit
use Rattle.fx_plan.specs.Plans.{Asked, free_names, group_of, is_group_of, only_source, single_of}
use Rattle.fx_plan.specs.declared.orders.Waiting.{Waiting}

-- ---- a pattern more

abbrev pub with_pattern : unit.Unit → Pattern → unit.Unit
with_pattern u p = record { patterns = u.patterns ++ p ∷ []; filters = u.filters; members = u.members; group = u.group }

-- a pattern joins the unit at a place
abbrev pub joined : List unit.Unit → ℕ → Pattern → List unit.Unit
joined [] at p = []
joined (u ∷ us) zero p = with_pattern u p ∷ us
joined (u ∷ us) (suc at) p = u ∷ joined us at p

-- a pattern joins the group of its only source, or begins it
abbrev pub placed_in_group : List unit.Unit → Pattern → ℕ → List unit.Unit
placed_in_group [] p m = group_of m (p ∷ []) ∷ []
placed_in_group (u ∷ us) p m = if is_group_of m u then with_pattern u p ∷ us else u ∷ placed_in_group us p m

abbrev pub placed_by : List unit.Unit → Asked → Option ℕ → List unit.Unit
placed_by us a None = us ++ single_of a.0 a.1 ∷ []
placed_by us a (Some m) = placed_in_group us a.0 m

-- the units with one pattern more, behind those that they have
abbrev pub placed : List unit.Unit → Asked → List unit.Unit
placed us a = placed_by us a (only_source a.1)

-- a map says for each member where its group stands
abbrev pub Knows : {S : Type 0} → IndexMap ℕ ℕ S → List unit.Unit → Type 0
Knows groups us = (m : ℕ) → get nat_eq groups m ≡ position (is_group_of m) us

-- ---- the unit that is taken next

-- a unit beside its variables that aren't known
abbrev pub waits : List (List ℕ) → unit.Unit → Waiting
waits known u = record { unit = u; free = free_names known u.patterns }

-- it beside those that aren't among more names either
abbrev pub without : List (List ℕ) → Waiting → Waiting
without names w = record { unit = w.unit; free = filter (λ name. not (is_among names name)) w.free }

-- whether it is taken before one of an earlier position
abbrev pub is_sooner_waiting : Waiting → Waiting → Bool
is_sooner_waiting w earlier = nat_lt (length w.free) (length earlier.free) || (length w.free == length earlier.free && (w.unit.group && not earlier.unit.group))

-- the one that is taken next, of one and those behind it
abbrev pub first_of : Waiting → List Waiting → Waiting
first_of w [] = w
first_of w (v ∷ vs) = if is_sooner_waiting (first_of v vs) w then first_of v vs else w

-- its place among them
abbrev pub place_of : Waiting → List Waiting → ℕ
place_of w [] = 0
place_of w (v ∷ vs) = if is_sooner_waiting (first_of v vs) w then suc (place_of v vs) else 0

abbrev pub first_place : List Waiting → ℕ
first_place [] = 0
first_place (w ∷ ws) = place_of w ws
