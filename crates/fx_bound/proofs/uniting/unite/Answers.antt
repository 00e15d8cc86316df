use Rattle.std.proofs.Common.{◌≡◌, All, Contains, IfOk, List, subst, sym}
use Rattle.fx_algebra.specs.declared.units.Row.{Row}
use Rattle.fx_bound.specs.Parts.{places}
use Rattle.fx_founds.specs.Uniting.{branches, numbers_of, united}
use Rattle.fx_founds.specs.declared.founds.Found.{Found}
use Rattle.fx_bound.proofs.AnswerLemmas.{stepped, united_step}
use Rattle.fx_bound.proofs.uniting.unite.Goals as goal

pub returns-clause-exact : goal.returns-clause-exact
returns-clause-exact c =
    let u = c.args.batch.now.unit in
    let lists = c.args.lists.now in
    subst (λ (rows : List Row). IfOk c.unite_rows.result (λ all. all.items ≡ united (branches u rows) lists)) c.rows.ensures
    (c.unite_rows.ensures u (subst (λ (rows : List Row). All (λ (list : List Found). All (λ (f : Found). Contains (numbers_of u rows) f.branch) list) lists) (sym c.rows.ensures) c.requires))

pub returns-clause-step : goal.returns-clause-step
returns-clause-step c = λ graphs sound read.
    stepped (λ rows. rows.items) c.unite_rows.result (united (places c.args.batch.now) c.args.lists.now) _ (returns-clause-exact c) (united_step c.args.batch.now c.args.lists.now c.branches-branches.ensures.known graphs sound read)
