use Rattle.std.proofs.Common.{◌∙◌, ◌++◌, ap}
use Rattle.fx_sources.specs.Probes as spec
use Rattle.fx_sources.proofs.KeptLemmas.{more_kept}
use Rattle.fx_sources.proofs.choices.missing_probes.Goals as goal

pub loop-at-preserved : goal.loop-at-preserved
loop-at-preserved c =
    let here = c.loop-at.invariant in
    record {
      keys = here.keys;
      probes = more_kept c.args.kept.now (spec.missing_at c.args.cache.now (spec.keys_of c.args.query.now)) c.loop-at.probes.items _ _ c.loop-at.at _ c.loop-at-test.true
          (c.in_ok-add_kept.ensures ∙ ap (λ keys. c.loop-at.probes.items ++ spec.kept_probes c.args.kept.now (spec.missing_at c.args.cache.now keys c.loop-at.at)) (c.as_slice-in-loop-at.ensures.value ∙ here.keys))
          here.probes;
    }
