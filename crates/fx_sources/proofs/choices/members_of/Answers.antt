use Rattle.std.proofs.Common.{◌≡◌, ◌∙◌, ◌∷◌, [], ◌++◌, ◌&&◌, cond, ap, filter, rules}
use Rattle.std.specs.List.{range_with_len}
use Rattle.fx_algebra.specs.Units.{is_kept}
use Rattle.fx_keys.specs.Probes.{probe}
use Rattle.fx_sources.specs.Probes as spec
use Rattle.fx_sources.proofs.EntryLemmas.{more_members}
use Rattle.fx_sources.proofs.KeptLemmas.{both_tests}
use Rattle.fx_sources.proofs.choices.members_of.Goals as goal

pub loop-at-preserved : goal.loop-at-preserved
loop-at-preserved c =
    let here = c.loop-at.invariant in
    let entries = c.args.answers.now.entries ++ c.args.cache.now in
    let key = c.args.probe.now.key in
    let kept = c.args.kept.now in
    record {
      key = here.key;
      chosen = more_members (λ at. spec.is_yes (spec.known entries (probe at key)) && is_kept kept at) c.loop-at.chosen _ _ c.loop-at.at _ c.loop-at-test.true
          (c.in_ok-add_member.ensures ∙ ap (λ yes. c.loop-at.chosen ++ cond yes (c.loop-at.at ∷ []) [])
          (c.is_chosen-yes.ensures ∙ ap (λ k. spec.is_yes (spec.known entries (probe c.loop-at.at k)) && is_kept kept c.loop-at.at) here.key))
          here.chosen;
    }

pub returns : goal.returns
returns c =
    let entries = c.args.answers.now.entries ++ c.args.cache.now in
    let key = c.args.probe.now.key in
    let kept = c.args.kept.now in
    let done : c.loop-at.chosen ≡ filter (λ at. spec.is_yes (spec.known entries (probe at key)) && is_kept kept at) (range_with_len 0 c.args.members) = search rules in
    done ∙ both_tests kept entries c.args.members key
