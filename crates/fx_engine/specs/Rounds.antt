-- The rounds in which a question is put.
use Rattle.std.specs.Prelude.{◌≡◌, ◌⊎◌, ◌++◌, Bool, true, List, Result, Ok, Err, All, Contains, IfErr, IfOk, length}
use Rattle.std.specs.List.{zip}
use Rattle.fx_terms.specs.declared.allocation.Memory.{Memory}
use Rattle.fx_outside.specs.Endpoints.{EndpointParts}
use Rattle.fx_algebra.specs.declared.queries.Query.{Query}
use Rattle.fx_plan.specs.Explained.{HasMembers}
use Rattle.fx_sources.specs.Probes.{Entry, learned}
use Rattle.fx_traffic.specs.Gains.{WiresSeen}
use Rattle.fx_outcomes.specs.InRounds.{HoldsAnswers, IsLast, WentRound, by_asks, plan_over}
use Rattle.fx_outcomes.specs.RoundEnds.{RoundEnded}
use Rattle.fx_outcomes.specs.Rounds.{MayLeave}
use Rattle.fx_outcomes.specs.declared.federated.FedError.{FedError}
use Rattle.fx_outcomes.specs.declared.federated.FedError.TheVariants as fed
use Rattle.fx_outcomes.specs.declared.rounds.Answers.{Answers}
use Rattle.fx_outcomes.specs.declared.rounds.Ended.{Ended}
use Rattle.fx_outcomes.specs.declared.rounds.Ended.TheVariants as ended
use Rattle.fx_outcomes.specs.declared.rounds.OutcomeInRounds.{OutcomeInRounds}
use Rattle.fx_outcomes.specs.declared.rounds.PlanInRounds.{PlanInRounds}
use Rattle.fx_outcomes.specs.declared.rounds.Round.{Round}
use Rattle.fx_engine.specs.declared.questions.Question.{Question}

-- a round that was abandoned leaves out members that were kept
abbrev pub LeavesKept : Question → List Bool → Result Ended FedError → Type 0
LeavesKept q kept (Ok (ended.Answered outcome)) = Unit {0}
LeavesKept q kept (Ok (ended.Abandoned r)) = All (MayLeave q.registry.now kept) r.left
LeavesKept q kept (Err e) = Unit {0}

-- a round over the members that are kept, by the plan that these have; or memory ran out before it began
abbrev pub RoundOver : WiresSeen → Question → List Entry → Answers → List Bool → Result Ended FedError → Type 0
RoundOver w q old a kept result =
    ((w.after ≡ w.before) × (result ≡ Err fed.Memory))
    ⊎ (RoundEnded w.tells w.alone w.before w.after q.registry.now q.query.now (plan_over q.registry.now q.query.now old a kept) q.block result × LeavesKept q kept result)

abbrev pub WentOver : WiresSeen → Question → List Entry → Answers → Result OutcomeInRounds FedError → Type 0
WentOver w q old a result = WentRound w.tells w.alone w.before w.after q.registry.now q.query.now (plan_over q.registry.now q.query.now old a) q.block a.kept.items result

-- the cache learned the answers, and the round of the ASKs stands in front; or memory ran out
abbrev pub IsLearned : List Entry → List Entry → Answers → OutcomeInRounds → Result OutcomeInRounds FedError → Type 0
IsLearned old new a given (Ok all) = (all.outcome ≡ given.outcome) × (all.abandoned ≡ by_asks a.left.items ++ given.abandoned) × (new ≡ learned old a.probes.items a.truths.items)
IsLearned old new a given (Err e) = (e ≡ fed.Memory) × All (λ (x : Entry). Contains old x ⊎ Contains (zip a.probes.items a.truths.items) x) new

-- the same of the rounds alone
abbrev pub AreLearned : List Entry → List Entry → Answers → List Round → Result (List Round) Memory → Type 0
AreLearned old new a rounds (Ok all) = (all ≡ by_asks a.left.items ++ rounds) × (new ≡ learned old a.probes.items a.truths.items)
AreLearned old new a rounds (Err e) = All (λ (x : Entry). Contains old x ⊎ Contains (zip a.probes.items a.truths.items) x) new

-- the plan over the members that the ASKs kept, where the cache learned their answers; or memory ran out
pub record IsPlan (endpoints : List EndpointParts) (q : Query) (old new : List Entry) (a : Answers) (result : Result PlanInRounds FedError) : Type 0 where
  pub listed : IfOk result (λ p. p.abandoned ≡ by_asks a.left.items)
  pub lost : IfErr result (λ e. e ≡ fed.Memory)
  pub held : HoldsAnswers old new a result
  pub plan_is : IfOk result (λ p. p.parts.items ≡ plan_over endpoints q old a a.kept.items)
  pub within : IfOk result (λ p. All (HasMembers (length endpoints)) p.parts.items)

abbrev pub IsPlanBehind : List EndpointParts → Query → List Entry → List Entry → Answers → Result PlanInRounds FedError → Type 0
IsPlanBehind endpoints q old new a result = IsPlan endpoints q old new a result

-- what comes of a question behind its ASKs
pub record WentBehind (w : WiresSeen) (q : Question) (old new : List Entry) (a : Answers) (result : Result OutcomeInRounds FedError) : Type 0 where
  pub rest : Result OutcomeInRounds FedError
  pub went : WentOver w q old a rest
  pub listed : IfOk result (λ all. all.abandoned ≡ by_asks a.left.items ++ went.abandoned)
  pub told : IsLast went.ended result
  pub held : HoldsAnswers old new a result

abbrev pub WentBehindAsks : WiresSeen → Question → List Entry → List Entry → Answers → Result OutcomeInRounds FedError → Type 0
WentBehindAsks w q old new a result = WentBehind w q old new a result
