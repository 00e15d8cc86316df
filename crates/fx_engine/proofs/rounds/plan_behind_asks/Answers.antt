use Rattle.std.proofs.Common.{◌∙◌, ap, subst, List, length, Ok}
use Rattle.std.specs.List.{zip}
use Rattle.fx_outcomes.specs.InRounds.{plan_over}
use Rattle.fx_outcomes.specs.declared.rounds.Round.{Round}
use Rattle.fx_engine.specs.Rounds.{AreLearned}
use Rattle.fx_engine.proofs.AnswersLemmas.{answers_distinct, answers_new}
use Rattle.fx_engine.proofs.LearnLemmas.{planned_learned, planned_lost, still_held}
use Rattle.fx_engine.proofs.rounds.plan_behind_asks.Goals as goal

pub learn-requires-clause-distinct : goal.learn-requires-clause-distinct
learn-requires-clause-distinct c = answers_distinct c.args.query.now (length c.args.registry.now) c.args.cache.now c.args.answers.probes.items c.requires.fit.unanswered c.requires.fit.split

pub learn-requires-clause-news : goal.learn-requires-clause-news
learn-requires-clause-news c = answers_new c.args.query.now (length c.args.registry.now) c.args.cache.now c.args.answers.probes.items c.requires.fit.unanswered c.requires.fit.split

pub returns-in-Err : goal.returns-in-Err
returns-in-Err c = planned_lost c.args.registry.now c.args.query.now c.args.cache.now c.args.cache.now c.args.answers (still_held c.args.cache.now (zip c.args.answers.probes.items c.args.answers.truths.items))

pub returns-in-Ok-learn : goal.returns-in-Ok-learn
returns-in-Ok-learn c =
    let es = c.args.registry.now in
    let q = c.args.query.now in
    let old = c.args.cache.now in
    planned_learned es q old c.learn.new.cache c.args.answers _ (c.in-Ok.ensures.parts ∙ ap (plan_over es q old c.args.answers) c.as_slice.ensures.value) c.in-Ok.ensures.within
    (subst (λ (v : List Round). AreLearned old c.learn.new.cache c.args.answers v (Ok c.in-Ok-learn.abandoned)) c.new.ensures c.in-Ok-learn.ensures)
