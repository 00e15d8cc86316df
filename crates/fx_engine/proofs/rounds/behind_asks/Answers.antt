use Rattle.std.proofs.Common.{length, map}
use Rattle.fx_engine.proofs.AnswersLemmas.{answers_distinct, answers_new}
use Rattle.fx_engine.proofs.AskedLemmas.{all_tell}
use Rattle.fx_engine.proofs.LearnLemmas.{behind_learned, behind_lost, behind_refused}
use Rattle.fx_traffic.specs.Gains.{seen}
use Rattle.fx_engine.proofs.rounds.behind_asks.Goals as goal

pub learned-requires-clause-distinct : goal.learned-requires-clause-distinct
learned-requires-clause-distinct g c = answers_distinct c.args.question.now.query.now (length c.args.question.now.registry.now) c.args.cache.now c.args.answers.probes.items c.requires.fit.unanswered c.requires.fit.split

pub learned-requires-clause-news : goal.learned-requires-clause-news
learned-requires-clause-news g c = answers_new c.args.question.now.query.now (length c.args.question.now.registry.now) c.args.cache.now c.args.answers.probes.items c.requires.fit.unanswered c.requires.fit.split

pub returns-in-Err : goal.returns-in-Err
returns-in-Err g c =
    let see = g.W.Wire.seen in
    behind_lost g.W.Wire.tells_log g.W.Wire.counts_alone (map see c.args.wires.now) c.args.question.now c.args.cache.now c.args.answers (all_tell see g.W.Wire.tells_log g.met.W.Wire.told c.args.wires.now) c.requires.spellable.0 c.requires.spellable.1

pub returns-in-Err-in_rounds : goal.returns-in-Err-in_rounds
returns-in-Err-in_rounds g c = behind_refused (seen g.W.Wire c.args.wires.now c.in_rounds.new.wires) c.args.question.now c.args.cache.now c.args.answers c.in-Err-in_rounds.error c.in-Err-in_rounds.ensures

pub returns-in-Ok-in_rounds : goal.returns-in-Ok-in_rounds
returns-in-Ok-in_rounds g c =
    behind_learned (seen g.W.Wire c.args.wires.now c.in_rounds.new.wires) c.args.question.now c.args.cache.now c.args.answers c.in-Ok-in_rounds.rounds c.in-Ok-in_rounds.ensures c.learned.new.cache c.learned.result c.learned.ensures
