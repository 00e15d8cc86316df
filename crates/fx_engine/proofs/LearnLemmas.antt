-- What a cache holds behind the rounds of a question, and what these come to with it.
use Rattle.std.proofs.Common.{◌≡◌, ◌∙◌, sym, subst, refl, inl, ◌⊎◌, ℕ, Bool, List, [], ◌++◌, Result, Ok, Err, length, append-nil}
use Rattle.std.specs.Prelude.{All, Contains}
use Rattle.std.specs.List.{zip}
use Rattle.std.proofs.lemmas.List.Elements.{All-contains_itself, All-weaker}
use Rattle.fx_grammar.specs.Accepted.{Accepted}
use Rattle.fx_outside.specs.Endpoints.{EndpointParts}
use Rattle.fx_algebra.specs.declared.queries.Query.{Query}
use Rattle.fx_plan.specs.Explained.{HasMembers}
use Rattle.fx_sources.specs.Probes.{Entry}
use Rattle.fx_traffic.specs.Gains.{WiresSeen}
use Rattle.fx_wire.specs.Exchanges.{Seen}
use Rattle.fx_outcomes.specs.InRounds.{HoldsAnswers, IsLast, by_asks, plan_over}
use Rattle.fx_outcomes.specs.declared.federated.FedError.{FedError}
use Rattle.fx_outcomes.specs.declared.federated.FedError.TheVariants as fed
use Rattle.fx_outcomes.specs.declared.federated.Outcome.{Outcome}
use Rattle.fx_outcomes.specs.declared.rounds.Answers.{Answers}
use Rattle.fx_outcomes.specs.declared.rounds.OutcomeInRounds.{OutcomeInRounds}
use Rattle.fx_outcomes.specs.declared.rounds.PlanInRounds.{PlanInRounds}
use Rattle.fx_engine.specs.Rounds.{AreLearned, IsLearned, IsPlan, WentBehind, WentOver}
use Rattle.fx_engine.specs.declared.questions.Question.{Question}
use Rattle.fx_engine.proofs.LoopLemmas.{none_abandoned, went_lost}
use Rattle.fx_pool.proofs.WiresLemmas.{AllTell}

-- each entry was held before
pub still_held : (old : List Entry) (answers : List Entry) → All (λ (x : Entry). Contains old x ⊎ Contains answers x) old
still_held old answers = All-weaker (Contains old) (λ (x : Entry). Contains old x ⊎ Contains answers x) (λ x m. inl m) old (All-contains_itself old)

module _ (w : WiresSeen) (q : Question) (old : List Entry) (a : Answers) where
  holds_so : (e : FedError) → HoldsAnswers {X = OutcomeInRounds} old old a (Err e)
  holds_so (fed.Member name) = refl
  holds_so (fed.Service iri) = refl
  holds_so (fed.BadReply name bad) = refl
  holds_so (fed.RequestTooLong name size) = refl
  holds_so (fed.UnknownService iri) = refl
  holds_so fed.Memory = still_held old (zip a.probes.items a.truths.items)

  -- a round was refused
  pub behind_refused : (e : FedError) → WentOver w q old a (Err e) → WentBehind w q old old a (Err e)
  behind_refused e went = record { rest = Err e; went = went; listed = tt; told = went.told; held = holds_so e }

  same_last : (given all : OutcomeInRounds) → all.outcome ≡ given.outcome → (o : Result Outcome FedError) → IsLast o (Ok given) → IsLast o (Ok all)
  same_last given all same (Ok outcome) is = same ∙ is
  same_last given all same (Err e) is = is

  lost_last : (given : OutcomeInRounds) (o : Result Outcome FedError) → IsLast o (Ok given) → IsLast o (Err fed.Memory)
  lost_last given (Ok outcome) is = tt
  lost_last given (Err e) is = tt

  -- the cache learned, or memory ran out
  pub behind_learned : (given : OutcomeInRounds) → WentOver w q old a (Ok given) → (new : List Entry) (r : Result OutcomeInRounds FedError) → IsLearned old new a given r → WentBehind w q old new a r
  behind_learned given went new (Ok all) h = record { rest = Ok given; went = went; listed = h.1 ∙ listed_so; told = same_last given all h.0 went.ended went.told; held = h.2 }
    where
      listed_so : by_asks a.left.items ++ given.abandoned ≡ by_asks a.left.items ++ went.abandoned
      listed_so = subst (λ v. by_asks a.left.items ++ given.abandoned ≡ by_asks a.left.items ++ v) went.listed refl
  behind_learned given went new (Err e) h =
      subst (λ (x : FedError). WentBehind w q old new a (Err x)) (sym h.0) (record { rest = Ok given; went = went; listed = tt; told = lost_last given went.ended went.told; held = h.1 })

-- memory ran out before a round
pub behind_lost : (tells alone : Bool) (s : List Seen) (q : Question) (old : List Entry) (a : Answers) → AllTell tells s → (text : List ℕ) → Accepted text q.query.now → WentBehind (record { tells = tells; alone = alone; before = s; after = s }) q old old a (Err fed.Memory)
behind_lost tells alone s q old a tell text accepted =
    let plan = plan_over q.registry.now q.query.now old a in
    behind_refused (record { tells = tells; alone = alone; before = s; after = s }) q old a fed.Memory
    (went_lost tells alone q.registry.now q.query.now plan q.block s s a.kept.items a.kept.items [] (none_abandoned tells alone q.registry.now q.query.now plan q.block s a.kept.items a.kept.items [] refl refl) tell text accepted)

-- ---- a plan

-- the cache learned, or memory ran out behind the plan
pub planned_learned : (es : List EndpointParts) (q : Query) (old new : List Entry) (a : Answers) (p : PlanInRounds) → p.parts.items ≡ plan_over es q old a a.kept.items → All (HasMembers (length es)) p.parts.items → AreLearned old new a [] (Ok p.abandoned) → IsPlan es q old new a (Ok p)
planned_learned es q old new a p are within h = record { listed = h.0 ∙ append-nil (by_asks a.left.items); lost = tt; held = h.1; plan_is = are; within = within }

pub planned_lost : (es : List EndpointParts) (q : Query) (old new : List Entry) (a : Answers) → All (λ (x : Entry). Contains old x ⊎ Contains (zip a.probes.items a.truths.items) x) new → IsPlan es q old new a (Err fed.Memory)
planned_lost es q old new a kept = record { listed = tt; lost = refl; held = kept; plan_is = tt; within = tt }
