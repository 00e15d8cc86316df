use Rattle.std.proofs.Common.{◌≡◌, ◌∙◌, ap, length}
use Rattle.fx_algebra.specs.Units.{AreAllKept}
use Rattle.fx_sources.specs.Probes as spec
use Rattle.fx_sources.proofs.KeptLemmas.{all_kept_by, all_probes_kept}
use Rattle.fx_sources.proofs.choices.missing.Goals as goal

pub returns : goal.returns
returns c =
    let query = c.args.query.now in
    let members = length c.args.registry.now in
    let held = c.args.cache.now in
    let kept = c.as_slice.result.now in
    let all : AreAllKept kept members = all_kept_by kept c.in_ok-kept.kept.items _ members c.as_slice.ensures.value (ap length c.endpoints.ensures.value) c.in_ok-kept.ensures in
    let found : c.in_ok-probes.probes.items ≡ spec.missing query members held = c.in_ok-probes.ensures.probes ∙ all_probes_kept query kept members held all in
    record { probes = found; distinct = c.in_ok-probes.ensures.distinct; news = c.in_ok-probes.ensures.news; within = c.in_ok-probes.ensures.within }
