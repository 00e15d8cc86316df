-- What is known of several wires before and after a call, each by its place among them.
use Rattle.std.specs.Prelude.{◌≡◌, ℕ, Bool, ◌+◌, ◌≤◌, List, [], ◌∷◌, ◌++◌, Some, All, Contains, IsPermutation, slice_get, map}
use Rattle.std.specs.List.{sum_by}
use Rattle.fx_terms.specs.declared.triples.Triple.{Triple}
use Rattle.fx_outside.specs.Endpoints.{EndpointParts}
use Rattle.fx_algebra.specs.Units.{graph_of}
use Rattle.fx_algebra.specs.declared.units.Unit as unit
use Rattle.fx_wire.specs.Exchanges.{Exchange, IsAfter, Seen}
use Rattle.fx_wire.specs.declared.wires.Wire.{Ghosts}

-- how many faults they counted at an address, together
abbrev pub faults_at : List Seen → List ℕ → ℕ
faults_at wires address = sum_by (λ w. w.faults address) wires

-- each tells this graph of an address
abbrev pub Tell : List Seen → List ℕ → List Triple → Type 0
Tell wires address graph = All (λ w. w.graph address ≡ Some graph) wires

-- so it is of the address of each endpoint
abbrev pub TellAll : List Seen → List EndpointParts → List (List Triple) → Type 0
TellAll wires [] [] = Unit {0}
TellAll wires [] (graph ∷ graphs) = ⊥
TellAll wires (e ∷ endpoints) [] = ⊥
TellAll wires (e ∷ endpoints) (graph ∷ graphs) = Tell wires e.iri graph × TellAll wires endpoints graphs

-- so it is of the address of each endpoint whose number is one of these, with the graph of that number
abbrev pub TellOf : List Seen → List EndpointParts → List (List Triple) → (ℕ → Type 0) → Type 0
TellOf wires endpoints graphs Of = (at : ℕ) (e : EndpointParts) → Of at → slice_get endpoints at ≡ Some e → Tell wires e.iri (graph_of graphs at)

-- the members of these units
abbrev pub IsMemberIn : List unit.Unit → ℕ → Type 0
IsMemberIn us at = (u : unit.Unit) × Contains us u × Contains u.members at

-- what the logs gained, one wire's part behind the other's
abbrev pub HaveGained : List Seen → List Seen → List Exchange → Type 0
HaveGained [] [] xs = xs ≡ []
HaveGained [] (later ∷ laters) xs = ⊥
HaveGained (wire ∷ wires) [] xs = ⊥
HaveGained (wire ∷ wires) (later ∷ laters) xs = (own : List Exchange) × (rest : List Exchange) × (xs ≡ own ++ rest) × (later.log ≡ wire.log ++ own) × HaveGained wires laters rest

-- what exchanges leave of wires
abbrev pub AreAfter : List Seen → List Seen → Type 0
AreAfter [] [] = Unit {0}
AreAfter [] (later ∷ laters) = ⊥
AreAfter (wire ∷ wires) [] = ⊥
AreAfter (wire ∷ wires) (later ∷ laters) = IsAfter wire later × AreAfter wires laters

-- ---- wires before and after a call

-- whether they tell their logs, whether they count each address alone, and what is known of them
pub record WiresSeen : Type 0 where
  pub tells : Bool
  pub alone : Bool
  pub before : List Seen
  pub after : List Seen

-- of wires of one type, by what is told of each
abbrev pub wires_seen : {W : Type 0} → Bool → Bool → (W → Seen) → List W → List W → WiresSeen
wires_seen tells alone seen old new = record { tells = tells; alone = alone; before = map seen old; after = map seen new }

-- as their type tells it
abbrev pub seen : {W : Type 0} → Ghosts W → List W → List W → WiresSeen
seen w old new = wires_seen w.tells_log w.counts_alone w.seen old new

-- ---- laws

-- a call that does nothing
abbrev pub NothingGained : Type 0
NothingGained = (wires : List Seen) → HaveGained wires wires []

-- one call after the other: what both gained, in some order
pub record GainsOfBoth (before after : List Seen) (xs ys : List Exchange) : Type 0 where
  pub all : List Exchange
  pub gained : HaveGained before after all
  pub same : IsPermutation (xs ++ ys) all

abbrev pub GainedInTurn : Type 0
GainedInTurn = (before between after : List Seen) (xs ys : List Exchange) → HaveGained before between xs → HaveGained between after ys → GainsOfBoth before after xs ys

-- two halves of the wires
abbrev pub GainedBeside : Type 0
GainedBeside = (wires laters others others_later : List Seen) (xs ys : List Exchange) → HaveGained wires laters xs → HaveGained others others_later ys → HaveGained (wires ++ others) (laters ++ others_later) (xs ++ ys)

abbrev pub FaultsAddUp : Type 0
FaultsAddUp = (wires others : List Seen) (address : List ℕ) → faults_at (wires ++ others) address ≡ faults_at wires address + faults_at others address

abbrev pub FaultsNeverFall : Type 0
FaultsNeverFall = (wires laters : List Seen) (address : List ℕ) → AreAfter wires laters → faults_at wires address ≤ faults_at laters address

-- where the graph of each endpoint is told, so is that of each number
abbrev pub TellEach : Type 0
TellEach = (wires : List Seen) (endpoints : List EndpointParts) (graphs : List (List Triple)) → TellAll wires endpoints graphs
    → (at : ℕ) (e : EndpointParts) → slice_get endpoints at ≡ Some e → Tell wires e.iri (graph_of graphs at)

pub record GainLaws : Type 0 where
  pub nothing : NothingGained
  pub in_turn : GainedInTurn
  pub beside : GainedBeside
  pub add_up : FaultsAddUp
  pub never_fall : FaultsNeverFall
  pub each_tells : TellEach
