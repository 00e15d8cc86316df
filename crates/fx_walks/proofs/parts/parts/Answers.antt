use Rattle.std.proofs.Common.{◌≡◌, sym, subst}
use Rattle.std.specs.Prelude.{All}
use Rattle.std.specs.declared.vec.Vec.{Vec}
use Rattle.std.specs.declared.alloc.Global.{Global}
use Rattle.std.proofs.lemmas.Result.{IfOk-weaker}
use Rattle.fx_plan.specs.Explained.{HasMembers}
use Rattle.fx_plan.specs.declared.parts.Part.{Part}
use Rattle.fx_walks.specs.Sections.{parts_by}
use Rattle.fx_walks.proofs.PartLemmas.{parts_within}
use Rattle.fx_walks.proofs.parts.parts.Goals as goal

pub returns-clause-within : goal.returns-clause-within
returns-clause-within c =
    λ count all.
    let ss = c.in_ok-sections.sections.items in
    let sources = c.args.sources.now in
    IfOk-weaker c.parts_of.result (λ (v : Vec Part Global). v.items ≡ parts_by ss sources) (λ (v : Vec Part Global). All (HasMembers count) v.items)
    (λ v is. subst (All (HasMembers count)) (sym is) (parts_within count ss sources all))
    c.parts_of.ensures
