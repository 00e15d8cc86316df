use Rattle.std.proofs.Common.{subst, sym, All, Contains}
use Rattle.fx_values.specs.Answers.{numbers}
use Rattle.fx_values.specs.declared.located.Located.{Located}
use Rattle.fx_pool.proofs.LocatedLemmas.{numbered}
use Rattle.fx_pool.proofs.reading.read_located.Goals as goal

pub returns-in-Ok-read_values-clause-rows : goal.returns-in-Ok-read_values-clause-rows
returns-in-Ok-read_values-clause-rows c =
    let ns = numbers c.args.batch.now in
    numbered ns c.as_slice.result.now (subst (All (λ (l : Located). Contains ns l.row)) (sym c.as_slice.ensures) c.in-Ok-read_values.ensures.rows) c.founds_of.result c.founds_of.ensures.founds
