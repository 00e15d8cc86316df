use Rattle.std.proofs.Common.{map}
use Rattle.fx_outcomes.specs.InRounds.{plan_over}
use Rattle.fx_outcomes.specs.RoundEnds.{AreAbandoned}
use Rattle.fx_outcomes.specs.Rounds.{AreStillKept}
use Rattle.fx_engine.proofs.LoopLemmas.{count}
use Rattle.fx_engine.proofs.rounds.in_rounds.Given as goal

abbrev pub invariant-loop-error : goal.invariant-loop-error
invariant-loop-error g l = record {
  still : AreStillKept l.kept.items l.answers.kept.items;
  rounds : AreAbandoned g.W.Wire.tells_log g.W.Wire.counts_alone (map g.W.Wire.seen l.initial.wires) (map g.W.Wire.seen l.wires) l.question.registry.now l.question.query.now (plan_over l.question.registry.now l.question.query.now l.cache l.answers) l.question.block l.answers.kept.items l.kept.items l.rounds.items;
}

abbrev pub decreases-loop-error : goal.decreases-loop-error
decreases-loop-error g l = count l.kept.items
