-- Who is left out of a query that was asked in rounds, and of whom each round asked.
use Rattle.std.specs.Prelude.{◌≡◌, ◌≢◌, ◌<◌, ◌==◌, ℕ, Bool, true, false, not, List, [], ◌∷◌, All, AllPairs, Result, Ok, Some, length, slice_get}
use Rattle.std.specs.List.{flat_map, list_any}
use Rattle.fx_outside.specs.Endpoints.{EndpointParts}
use Rattle.fx_algebra.specs.Units.{is_kept}
use Rattle.fx_algebra.specs.declared.queries.Query.{Query}
use Rattle.fx_plan.specs.declared.parts.Part.{Part}
use Rattle.fx_sources.specs.Probes.{Entry}
use Rattle.fx_traffic.specs.Sent.{Sent, sent_of}
use Rattle.fx_wire.specs.Exchanges.{Exchange, Seen}
use Rattle.fx_outcomes.specs.InRounds.{FederatedInRounds, WentInRounds, plan_over}
use Rattle.fx_outcomes.specs.RoundEnds.{AreAbandoned}
use Rattle.fx_outcomes.specs.Rounds.{IsMarked, RiseByNumber, everybody, without_all}
use Rattle.fx_outcomes.specs.declared.federated.FedError.{FedError}
use Rattle.fx_outcomes.specs.declared.rounds.Left.{Left}
use Rattle.fx_outcomes.specs.declared.rounds.OutcomeInRounds.{OutcomeInRounds}
use Rattle.fx_outcomes.specs.declared.rounds.Round.{Round}

-- where there is an answer the rounds went
abbrev pub AnswersWent : Type 0
AnswersWent = (tells alone : Bool) (before after : List Seen) (endpoints : List EndpointParts) (q : Query) (old new : List Entry) (block : ℕ) (all : OutcomeInRounds)
    → FederatedInRounds tells alone before after endpoints q old new block (Ok all) → WentInRounds tells alone before after endpoints q old new block (Ok all)

-- ---- who is left out

-- the members that rounds leave out, in their order
abbrev pub left_in : List Round → List Left
left_in rounds = flat_map (λ r. r.left) rounds

-- a round is abandoned for somebody
abbrev pub LeavesSomebody : Round → Type 0
LeavesSomebody r = r.left ≢ []

-- the members that it leaves out are listed by number
abbrev pub IsByNumber : Round → Type 0
IsByNumber r = RiseByNumber 0 r.left

-- one of these has the number
abbrev pub is_listed : List Left → ℕ → Bool
is_listed left at = list_any (λ l. l.at == at) left

-- No number stands twice among these, each is that of an endpoint that may be left out, and of the endpoints those are kept which aren't listed.
pub record AreLeftOut (endpoints : List EndpointParts) (left : List Left) (kept : List Bool) : Type 0 where
  pub once : AllPairs (λ (k l : Left). k.at ≢ l.at) left
  pub optional : All (λ l. IsMarked true endpoints l.at) left
  pub those_kept : kept ≡ without_all left (everybody endpoints)
  pub others : (at : ℕ) → at < length endpoints → is_kept kept at ≡ not (is_listed left at)

-- so it is of those that are left out where there is an answer, and of those that are kept at last
abbrev pub MembersAreLeftOnce : Type 0
MembersAreLeftOnce = (tells alone : Bool) (before after : List Seen) (endpoints : List EndpointParts) (q : Query) (old new : List Entry) (block : ℕ) (all : OutcomeInRounds)
    → (w : WentInRounds tells alone before after endpoints q old new block (Ok all)) → AreLeftOut endpoints (left_in all.abandoned) w.went.last_kept

-- queries can't do without it
abbrev pub IsUnmarked : EndpointParts → Type 0
IsUnmarked e = e.optional ≡ false

-- where that is so of each, nobody is left out
abbrev pub NobodyIsLeft : Type 0
NobodyIsLeft = (tells alone : Bool) (before after : List Seen) (endpoints : List EndpointParts) (q : Query) (old new : List Entry) (block : ℕ) (result : Result OutcomeInRounds FedError)
    → (w : WentInRounds tells alone before after endpoints q old new block result) → All IsUnmarked endpoints
    → (w.answers.left.items ≡ []) × (w.went.abandoned ≡ []) × (w.went.last_kept ≡ everybody endpoints)

-- ---- of whom is asked

-- it is for a member that is kept
abbrev pub IsForKept : List EndpointParts → List Bool → Sent → Type 0
IsForKept endpoints kept x = (at : ℕ) × (slice_get endpoints at ≡ Some x.at) × (is_kept kept at ≡ true)

-- so is each text that was wanted, and each exchange
pub record AreForKept (endpoints : List EndpointParts) (kept : List Bool) (texts : List Sent) (xs : List Exchange) : Type 0 where
  pub wanted : All (IsForKept endpoints kept) texts
  pub sent : All (λ x. IsForKept endpoints kept (sent_of x)) xs

-- so it is in each of these rounds of the batches, and the members that are kept then
abbrev pub RoundsAskKept : (tells alone : Bool) (before after : List Seen) (endpoints : List EndpointParts) (q : Query) (plan : List Bool → List Part) (block : ℕ) (kept last : List Bool) (rounds : List Round)
    → AreAbandoned tells alone before after endpoints q plan block kept last rounds → Type 0
RoundsAskKept tells alone before after endpoints q plan block kept last [] c = Unit {0}
RoundsAskKept tells alone before after endpoints q plan block kept last (r ∷ rounds) c =
    AreForKept endpoints kept c.1.went.texts c.1.went.of_runs × RoundsAskKept tells alone c.0 after endpoints q plan block (without_all r.left kept) last rounds c.3

-- and of the last one
abbrev pub KeptAreAsked : Type 0
KeptAreAsked = (tells alone : Bool) (before after : List Seen) (endpoints : List EndpointParts) (q : Query) (old new : List Entry) (block : ℕ) (result : Result OutcomeInRounds FedError)
    → (w : WentInRounds tells alone before after endpoints q old new block result)
    → RoundsAskKept tells alone w.asked w.went.between endpoints q (plan_over endpoints q old w.answers) block w.answers.kept.items w.went.last_kept w.went.abandoned w.went.rounds
    × AreForKept endpoints w.went.last_kept w.went.last.texts w.went.last.of_runs
