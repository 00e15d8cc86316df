use Rattle.std.proofs.Common.{◌∙◌, sym, subst}
use Rattle.std.proofs.lemmas.List.Elements.{All-same}
use Rattle.fx_spelling.specs.Units.{IsFit}
use Rattle.fx_traffic.specs.Planned.{AreMembers}
use Rattle.fx_bound_cases.proofs.LoneRunLemmas.{are_members}
use Rattle.fx_bound_cases.proofs.runs.unit_of_run.Goals as goal

pub only-requires : goal.only-requires
only-requires c =
    let ps = c.args.patterns.now in
    let lists = c.as_slice.result.now in
    let members : AreMembers lists = subst AreMembers (sym (c.as_slice.ensures.value ∙ c.in_ok-sources.ensures)) (are_members ps) in
    All-same IsFit _ _ c.in-Ok.ensures (c.planned_units_are_fit.ensures.fit ps lists c.args.filters.now _ c.requires members)
