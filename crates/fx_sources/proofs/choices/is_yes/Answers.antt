use Rattle.fx_sources.proofs.EntryLemmas.{yes_before, yes_behind, no_behind}
use Rattle.fx_sources.proofs.choices.is_yes.Goals as goal

pub returns-in-Some : goal.returns-in-Some
returns-in-Some c = yes_before c.args.answers.now.entries c.args.cache.now c.args.probe.now c.in-Some.truth.now c.in-Some.ensures.value

pub returns-in-Some-known : goal.returns-in-Some-known
returns-in-Some-known c = yes_behind c.args.answers.now.entries c.args.cache.now c.args.probe.now c.in-Some-known.truth c.in-None.ensures.value c.in-Some-known.ensures

pub returns-in-None-known : goal.returns-in-None-known
returns-in-None-known c = no_behind c.args.answers.now.entries c.args.cache.now c.args.probe.now c.in-None.ensures.value c.in-None-known.ensures
