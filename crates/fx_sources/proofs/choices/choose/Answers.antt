use Rattle.std.proofs.Common.{◌∙◌, ◌++◌, ap, length, sym}
use Rattle.fx_sources.specs.Probes as spec
use Rattle.fx_sources.proofs.KeptLemmas.{all_chosen_kept, all_kept_by, all_probes_kept}
use Rattle.fx_sources.proofs.choices.choose.Goals as goal

pub choose_of_kept-requires-clause-asked : goal.choose_of_kept-requires-clause-asked
choose_of_kept-requires-clause-asked c =
    let members = length c.args.registry.now in
    let kept = c.as_slice.result.now in
    c.requires.asked
    ∙ sym (all_probes_kept c.args.query.now kept members c.args.cache.now (all_kept_by kept c.in_ok-kept.kept.items _ members c.as_slice.ensures.value (ap length c.endpoints.ensures.value) c.in_ok-kept.ensures))

pub returns-clause-chosen : goal.returns-clause-chosen
returns-clause-chosen c =
    let members = length c.args.registry.now in
    let kept = c.as_slice.result.now in
    c.in_ok-sources.ensures.chosen
    ∙ all_chosen_kept c.args.query.now kept members (spec.told c.args.probes.now c.args.truths.now ++ c.args.cache.now)
    (all_kept_by kept c.in_ok-kept.kept.items _ members c.as_slice.ensures.value (ap length c.endpoints.ensures.value) c.in_ok-kept.ensures)
