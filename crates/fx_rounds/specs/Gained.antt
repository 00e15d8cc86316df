-- What a query exchanged in all that was asked in rounds.
use Rattle.std.specs.Prelude.{◌⊎◌, ◌++◌, ◌∷◌, ℕ, Bool, List, [], IsPermutation, IsTrue, Result, ◌≡◌, All, Contains, Some, slice_get}
use Rattle.std.proofs.Common.{inl, inr}
use Rattle.fx_outside.specs.Endpoints.{EndpointParts}
use Rattle.fx_algebra.specs.declared.queries.Query.{Query}
use Rattle.fx_plan.specs.declared.parts.Part.{Part}
use Rattle.fx_sources.specs.Probes.{Entry}
use Rattle.fx_traffic.specs.Gains.{AreAfter, HaveGained}
use Rattle.fx_wire.specs.Exchanges.{Exchange, Seen}
use Rattle.fx_outcomes.specs.InRounds.{FederatedInRounds, IsRefusedAtAsks, IsUnasked, WentInRounds, plan_over}
use Rattle.fx_outcomes.specs.Outcomes.{AllTell}
use Rattle.fx_outcomes.specs.RoundEnds.{AreAbandoned}
use Rattle.fx_outcomes.specs.Rounds.{without_all}
use Rattle.fx_outcomes.specs.declared.federated.FedError.{FedError}
use Rattle.fx_outcomes.specs.declared.rounds.OutcomeInRounds.{OutcomeInRounds}
use Rattle.fx_outcomes.specs.declared.rounds.Round.{Round}
use Rattle.std.specs.List.{flat_map}

-- what each of these rounds exchanged, in their order
abbrev pub rounds_exchanged : (tells alone : Bool) (before after : List Seen) (endpoints : List EndpointParts) (q : Query) (plan : List Bool → List Part) (block : ℕ) (kept last : List Bool) (rounds : List Round)
    → AreAbandoned tells alone before after endpoints q plan block kept last rounds → List Exchange
rounds_exchanged tells alone before after endpoints q plan block kept last [] c = []
rounds_exchanged tells alone before after endpoints q plan block kept last (r ∷ rounds) c =
    c.1.went.exchanges ++ rounds_exchanged tells alone c.0 after endpoints q plan block (without_all r.left kept) last rounds c.3

-- the ASKs, then each round that was abandoned, then the last one
abbrev pub went_exchanged : (tells alone : Bool) (before after : List Seen) (endpoints : List EndpointParts) (q : Query) (old new : List Entry) (block : ℕ) (result : Result OutcomeInRounds FedError)
    → WentInRounds tells alone before after endpoints q old new block result → List Exchange
went_exchanged tells alone before after endpoints q old new block result w =
    w.asking.exchanges ++ (rounds_exchanged tells alone w.asked w.went.between endpoints q (plan_over endpoints q old w.answers) block w.answers.kept.items w.went.last_kept w.went.abandoned w.went.rounds ++ w.went.last.exchanges)

-- nothing, the ASKs alone where one was refused, or all of these
abbrev pub all_exchanged : (tells alone : Bool) (before after : List Seen) (endpoints : List EndpointParts) (q : Query) (old new : List Entry) (block : ℕ) (result : Result OutcomeInRounds FedError)
    → IsUnasked before after old new result ⊎ (IsRefusedAtAsks tells alone before after endpoints q old new result ⊎ WentInRounds tells alone before after endpoints q old new block result) → List Exchange
all_exchanged tells alone before after endpoints q old new block result (inl u) = []
all_exchanged tells alone before after endpoints q old new block result (inr (inl r)) = r.asking.exchanges
all_exchanged tells alone before after endpoints q old new block result (inr (inr w)) = went_exchanged tells alone before after endpoints q old new block result w

-- in some order these exchanges are what the logs gained, where they are told, and nothing else changed than what exchanges change
pub record GainedInAll (tells : Bool) (before after : List Seen) (xs : List Exchange) : Type 0 where
  pub exchanges : List Exchange
  pub same : IsPermutation xs exchanges
  pub gained : IsTrue tells → HaveGained before after exchanges
  pub after_all : AreAfter before after

-- so it is of a query that was asked in rounds, where all wires tell their logs or none does
abbrev pub RoundsHaveGained : Type 0
RoundsHaveGained = (tells alone : Bool) (before after : List Seen) (endpoints : List EndpointParts) (q : Query) (old new : List Entry) (block : ℕ) (result : Result OutcomeInRounds FedError)
    → AllTell tells before → (f : FederatedInRounds tells alone before after endpoints q old new block result)
    → GainedInAll tells before after (all_exchanged tells alone before after endpoints q old new block result f.went)

-- ---- one after the other

-- what each of these rounds exchanged, by itself
abbrev pub each_exchanged : (tells alone : Bool) (before after : List Seen) (endpoints : List EndpointParts) (q : Query) (plan : List Bool → List Part) (block : ℕ) (kept last : List Bool) (rounds : List Round)
    → AreAbandoned tells alone before after endpoints q plan block kept last rounds → List (List Exchange)
each_exchanged tells alone before after endpoints q plan block kept last [] c = []
each_exchanged tells alone before after endpoints q plan block kept last (r ∷ rounds) c =
    c.1.went.exchanges ∷ each_exchanged tells alone c.0 after endpoints q plan block (without_all r.left kept) last rounds c.3

-- the ASKs, each round that was abandoned, and the last one
abbrev pub stages_of : (tells alone : Bool) (before after : List Seen) (endpoints : List EndpointParts) (q : Query) (old new : List Entry) (block : ℕ) (result : Result OutcomeInRounds FedError)
    → WentInRounds tells alone before after endpoints q old new block result → List (List Exchange)
stages_of tells alone before after endpoints q old new block result w =
    w.asking.exchanges ∷ (each_exchanged tells alone w.asked w.went.between endpoints q (plan_over endpoints q old w.answers) block w.answers.kept.items w.went.last_kept w.went.abandoned w.went.rounds ++ w.went.last.exchanges ∷ [])

-- the logs gained these stages, each behind the one before it
abbrev pub HaveGainedInTurn : List Seen → List Seen → List (List Exchange) → Type 0
HaveGainedInTurn before after [] = after ≡ before
HaveGainedInTurn before after (xs ∷ stages) = (between : List Seen) × HaveGained before between xs × HaveGainedInTurn between after stages

abbrev pub RoundsGainInTurn : Type 0
RoundsGainInTurn = (tells alone : Bool) (before after : List Seen) (endpoints : List EndpointParts) (q : Query) (old new : List Entry) (block : ℕ) (result : Result OutcomeInRounds FedError)
    → IsTrue tells → (w : WentInRounds tells alone before after endpoints q old new block result)
    → HaveGainedInTurn before after (stages_of tells alone before after endpoints q old new block result w)

-- each of these parts is some exchanges of its stage
abbrev pub ArePartsOf : List (List Exchange) → List (List Exchange) → Type 0
ArePartsOf [] [] = Unit {0}
ArePartsOf [] (xs ∷ stages) = ⊥
ArePartsOf (own ∷ parts) [] = ⊥
ArePartsOf (own ∷ parts) (xs ∷ stages) = All (Contains xs) own × ArePartsOf parts stages

-- so what one wire's log gained is a part of each stage, in their order
abbrev pub EachLogIsInTurn : Type 0
EachLogIsInTurn = (before after : List Seen) (stages : List (List Exchange)) → HaveGainedInTurn before after stages
    → (k : ℕ) (earlier later : Seen) → slice_get before k ≡ Some earlier → slice_get after k ≡ Some later
    → (parts : List (List Exchange)) × ArePartsOf parts stages × (later.log ≡ earlier.log ++ flat_map (λ (xs : List Exchange). xs) parts)
