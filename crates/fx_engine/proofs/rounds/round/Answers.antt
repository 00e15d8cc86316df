use Rattle.std.proofs.Common.{sym, subst, List, length, map}
use Rattle.std.specs.Prelude.{All}
use Rattle.std.specs.List.{zip}
use Rattle.fx_plan.specs.declared.parts.Part.{Part}
use Rattle.fx_walks.specs.Tasks.{tasks_with}
use Rattle.fx_outcomes.specs.Rounds.{kept_entries}
use Rattle.fx_engine.specs.RowsAsked.{CanBeAsked}
use Rattle.fx_engine.proofs.AskableLemmas.{kept_can_be_asked}
use Rattle.fx_engine.proofs.LoopLemmas.{over_round}
use Rattle.fx_engine.proofs.rounds.round.Goals as goal

pub outcome_by_plan-requires-clause-asked : goal.outcome_by_plan-requires-clause-asked
outcome_by_plan-requires-clause-asked g c found =
    let n = length c.args.question.now.registry.now in
    let entries = kept_entries c.args.kept.now (zip c.args.answers.now.probes.items c.args.answers.now.truths.items) c.args.cache.now in
    subst (λ (v : List Part). All (CanBeAsked n) (tasks_with v found)) (sym c.in-Ok.ensures.parts) (kept_can_be_asked c.requires.spellable.0 c.args.question.now.query.now c.requires.spellable.1 n c.args.kept.now entries found)

pub returns-in-Ok : goal.returns-in-Ok
returns-in-Ok g c =
    over_round g.W.Wire.tells_log g.W.Wire.counts_alone c.args.question.now c.args.cache.now c.args.answers.now (map g.W.Wire.seen c.args.wires.now) (map g.W.Wire.seen c.outcome_by_plan.new.wires) c.args.kept.now c.in-Ok.parts.items c.in-Ok.ensures.parts
    c.outcome_by_plan.result c.outcome_by_plan.ensures
