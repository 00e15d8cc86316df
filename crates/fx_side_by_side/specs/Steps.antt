-- A step of each of several runs, asked for over wires side by side.
use Rattle.std.specs.Prelude.{◌≡◌, ◌≤◌, ◌+◌, ℕ, Bool, List, [], ◌∷◌, All, IsPermutation, IsTrue, Result, Ok, Err, drop, map, sum_by, take}
use Rattle.std.specs.List.{flat_map}
use Rattle.fx_outside.specs.Endpoints.{EndpointParts}
use Rattle.fx_algebra.specs.Groups.{one_empty}
use Rattle.fx_algebra.specs.declared.units.Row.{Row}
use Rattle.fx_algebra.specs.declared.units.Unit as unit
use Rattle.fx_steps.specs.Steps.{numbered}
use Rattle.fx_traffic.specs.Gains.{AreAfter, HaveGained, WiresSeen, faults_at}
use Rattle.fx_wire.specs.Exchanges.{Exchange, Seen}
use Rattle.fx_pool.specs.Runs.{IsHonestOver}
use Rattle.fx_flows.specs.declared.flows.FlowError.{FlowError}
use Rattle.fx_side_by_side.specs.SideBySide.{RunShared, Share}

-- what wires exchanged falls into shares
pub record FallsIntoShares (tells alone : Bool) (before after : List Seen) (shares : List Share) : Type 0 where
  pub exchanges : List Exchange
  pub gained : IsTrue tells → HaveGained before after exchanges
  pub honest : All (IsHonestOver before) exchanges
  pub after_all : AreAfter before after
  pub parted : IsPermutation (flat_map (λ s. s.exchanges) shares) exchanges
  pub counted : IsTrue alone → (address : List ℕ) → faults_at after address ≤ faults_at before address + sum_by (λ s. s.failed) shares

-- the share of a run for which nothing was asked
abbrev pub nothing_shared : Share
nothing_shared = record { exchanges = []; failed = 0; wanted = []; left = [] }

-- what a run that has these rows has behind more of its units; one that was refused stays so
abbrev pub IsBehind : List Seen → List Seen → List EndpointParts → ℕ → List unit.Unit → Result (List Row) FlowError → Share → Result (List Row) FlowError → Type 0
IsBehind before after endpoints block us (Ok rows) share next = RunShared before after endpoints us block rows share next
IsBehind before after endpoints block us (Err why) share next = (share ≡ nothing_shared) × (next ≡ Err why)

-- what runs begin with: the row of the one empty solution
abbrev pub begins : List (List unit.Unit) → List (Result (List Row) FlowError)
begins runs = map (λ us. Ok (numbered 0 one_empty)) runs

-- the unit behind so many, where there is one
abbrev pub unit_at : ℕ → List unit.Unit → List unit.Unit
unit_at step us = take 1 (drop step us)

-- so it is of each run
abbrev pub AreBehind : List Seen → List Seen → List EndpointParts → ℕ → ℕ → List (List unit.Unit) → List (Result (List Row) FlowError) → List Share → List (Result (List Row) FlowError) → Type 0
AreBehind before after endpoints step block [] [] [] [] = Unit {0}
AreBehind before after endpoints step block (us ∷ runs) (rows ∷ found) (share ∷ shares) (next ∷ later) =
    IsBehind before after endpoints block (unit_at step us) rows share next × AreBehind before after endpoints step block runs found shares later
AreBehind before after endpoints step block runs found shares later = ⊥

-- the step of this number was asked for, of each run that has come to it and has it
pub record StepsFlowed (tells alone : Bool) (before after : List Seen) (endpoints : List EndpointParts) (step block : ℕ) (runs : List (List unit.Unit)) (found later : List (Result (List Row) FlowError)) : Type 0 where
  pub shares : List Share
  pub exchanged : FallsIntoShares tells alone before after shares
  pub each : AreBehind before after endpoints step block runs found shares later

abbrev pub StepsFlowedOver : WiresSeen → List EndpointParts → ℕ → ℕ → List (List unit.Unit) → List (Result (List Row) FlowError) → List (Result (List Row) FlowError) → Type 0
StepsFlowedOver w endpoints step block runs found later = StepsFlowed w.tells w.alone w.before w.after endpoints step block runs found later
