use Rattle.std.proofs.Common.{◌≡◌, ◌∙◌, refl, sym, subst, All, Contains, List, IsPermutation}
use Rattle.fx_algebra.specs.Graphs.{union}
use Rattle.fx_algebra.specs.Units.{step}
use Rattle.fx_algebra.specs.declared.units.Row.{Row}
use Rattle.fx_founds.specs.Uniting.{branches, numbers_of, united}
use Rattle.fx_founds.specs.declared.founds.Found.{Found}
use Rattle.fx_flows.proofs.BatchLemmas.{united_told}
use Rattle.fx_flows.proofs.flows.united.Goals as goal

pub returns-in-Ok-clause-step : goal.returns-in-Ok-clause-step
returns-in-Ok-clause-step c = λ graphs sound told.
    let p = c.args.forms.now.parts in
    let lists = c.args.lists.now in
    let known : All (λ (list : List Found). All (λ (f : Found). Contains (numbers_of p.unit c.rows.result.now) f.branch) list) lists =
    subst (λ (rows : List Row). All (λ (list : List Found). All (λ (f : Found). Contains (numbers_of p.unit rows) f.branch) list) lists) (sym c.rows.ensures.rows) c.requires in
    let exact : c.in-Ok.rows.items ≡ united (branches p.unit p.rows) lists =
    c.in-Ok.ensures p.unit known ∙ subst (λ (rows : List Row). united (branches p.unit c.rows.result.now) lists ≡ united (branches p.unit rows) lists) c.rows.ensures.rows refl in
    subst (λ (rows : List Row). IsPermutation rows (step (union graphs) p.unit p.rows)) (sym exact) (united_told p lists c.rows.ensures.rising graphs sound told)
