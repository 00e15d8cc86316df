-- The rows behind units, unit by unit, and then those behind the units that are left.
use Rattle.std.proofs.Common.{◌≡◌, ◌∙◌, ap, sym, subst, ℕ, ◌≤◌, Bool, List, [], ◌∷◌, map, Result, Ok, Err, All, length, arith}
use Rattle.std.proofs.lemmas.List.Elements.{All-from_recursion, All-weaker, recursion_from_All}
use Rattle.fx_outside.specs.Endpoints.{EndpointParts}
use Rattle.fx_algebra.specs.declared.units.Row.{Row}
use Rattle.fx_algebra.specs.declared.units.Unit as unit
use Rattle.fx_traffic.specs.Batches.{AreCut, IsSized, joined}
use Rattle.fx_wire.specs.Exchanges.{Seen}
use Rattle.fx_flows.specs.RunFlows.{RunFlowed}
use Rattle.fx_flows.specs.RunLaws.{AllTell}
use Rattle.fx_flows.specs.declared.flows.FlowError.{FlowError}
use Rattle.fx_pool.proofs.WiresLemmas.{all_tell}
use Rattle.fx_flows.proofs.FlowLemmas.{no_rows}
use Rattle.fx_flows.proofs.TurnLemmas.{run_in_turn, run_of_none, run_refused}

pub of_first : {X : Type 0} (P : X → Type 0) (xs : List X) (x : X) (rest : List X) → xs ≡ x ∷ rest → All P xs → P x × All P rest
of_first P xs x rest is h = let k = recursion_from_All P (x ∷ rest) (subst (All P) is h) in (k.0, All-from_recursion P rest k.1)

pub sized_enough : (block : ℕ) (batches : List (List Row)) → block ≤ 64 → All (IsSized block) batches → All (λ (rows : List Row). length rows ≤ 64) batches
sized_enough block batches le h = All-weaker (IsSized block) (λ (rows : List Row). length rows ≤ 64) (λ rows sized. let low : length rows ≤ block = sized.1 in omega (arith, low, le)) batches h

module _ (tells alone : Bool) (es : List EndpointParts) (u : unit.Unit) (all others : List unit.Unit) (is : all ≡ u ∷ others) (block : ℕ) (rows : List Row) where
  -- the first unit has rows, and so it goes on
  pub onwards : {W : Type 0} (see : W → Seen) (s t : List W) (after : List Seen) (next : List Row) (r : Result (List Row) FlowError) → ((w : W) → (see w).tells_log ≡ tells)
      → RunFlowed tells alone (map see s) (map see t) es (u ∷ []) block rows (Ok next) → RunFlowed tells alone (map see t) after es others block next r → RunFlowed tells alone (map see s) after es all block rows r
  onwards {W} see s t after next r told h k =
      subst (λ (us : List unit.Unit). RunFlowed tells alone (map see s) after es us block rows r) (sym is)
      (run_in_turn tells alone (map see s) (map see t) after es (u ∷ []) others block rows next r (they_tell s) (they_tell t) h k)
    where
      they_tell : (wires : List W) → AllTell tells (map see wires)
      they_tell wires = All-from_recursion (λ (w : Seen). w.tells_log ≡ tells) (map see wires) (all_tell see tells told wires)

  -- it has none
  pub stopped_there : (s t : List Seen) (why : FlowError) → RunFlowed tells alone s t es (u ∷ []) block rows (Err why) → RunFlowed tells alone s t es all block rows (Err why)
  stopped_there s t why h = subst (λ (us : List unit.Unit). RunFlowed tells alone s t es us block rows (Err why)) (sym is) (run_refused tells alone s t es (u ∷ []) others block rows why h)

-- no row enters
pub nothing_enters : (tells alone : Bool) (wires : List Seen) (es : List EndpointParts) (us : List unit.Unit) (block : ℕ) (rows : List Row) (batches : List (List Row)) → AreCut rows block batches → batches ≡ [] → RunFlowed tells alone wires wires es us block rows (Ok [])
nothing_enters tells alone wires es us block rows batches cut none = no_rows tells alone wires es us block rows (sym cut.of_rows ∙ ap joined none)

-- no unit is left
pub none_left : (tells alone : Bool) (wires : List Seen) (es : List EndpointParts) (us : List unit.Unit) (block : ℕ) (rows : List Row) → us ≡ [] → RunFlowed tells alone wires wires es us block rows (Ok rows)
none_left tells alone wires es us block rows none = subst (λ (vs : List unit.Unit). RunFlowed tells alone wires wires es vs block rows (Ok rows)) (sym none) (run_of_none tells alone wires es block rows)
