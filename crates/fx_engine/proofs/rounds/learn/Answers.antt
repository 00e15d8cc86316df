use Rattle.std.proofs.Common.{subst, List, Bool, ◌⊎◌}
use Rattle.std.specs.Prelude.{All, Contains}
use Rattle.std.specs.List.{zip}
use Rattle.fx_sources.specs.Probes.{Entry}
use Rattle.fx_engine.proofs.LearnLemmas.{still_held}
use Rattle.fx_engine.proofs.rounds.learn.Goals as goal

pub returns-in-Err : goal.returns-in-Err
returns-in-Err c = still_held c.args.cache.now (zip c.args.answers.probes.items c.args.answers.truths.items)

pub returns-in-Err-learn : goal.returns-in-Err-learn
returns-in-Err-learn c = subst (λ (v : List Bool). All (λ (x : Entry). Contains c.args.cache.now x ⊎ Contains (zip c.args.answers.probes.items v) x) c.learn.new.self) c.as_slice.ensures.value c.in-Err-learn.ensures.kept
