use Rattle.std.proofs.Common.{◌≡◌, ◌∙◌, ap, length}
use Rattle.fx_sources.specs.Probes as spec
use Rattle.fx_sources.proofs.KeptLemmas.{kept_distinct, kept_new, kept_within}
use Rattle.fx_sources.proofs.choices.missing_of_kept.Goals as goal

pub returns : goal.returns
returns c =
    let query = c.args.query.now in
    let members = length c.args.registry.now in
    let held = c.args.cache.now in
    let kept = c.args.kept.now in
    let found : c.in_ok-probes.probes.items ≡ spec.kept_probes kept (spec.missing query members held) =
    c.in_ok-probes.ensures ∙ ap (λ n. spec.kept_probes kept (spec.missing query n held)) (ap length c.endpoints.ensures.value) in
    record { probes = found; distinct = kept_distinct query members held kept _ found; news = kept_new query members held kept _ found; within = kept_within query members held kept _ found }
