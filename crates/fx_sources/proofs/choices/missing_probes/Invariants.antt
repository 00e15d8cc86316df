use Rattle.std.proofs.Common.{◌≡◌, ◌-◌, ◌++◌}
use Rattle.std.specs.List.{flat_map, range_with_len}
use Rattle.fx_sources.specs.Probes as spec
use Rattle.fx_sources.proofs.choices.missing_probes.Given as goal

-- what is left completes the probes
abbrev pub invariant-loop-at : goal.invariant-loop-at
invariant-loop-at l = record {
  keys : l.keys.items ≡ spec.keys_of l.query;
  probes : l.probes.items ++ spec.kept_probes l.kept (flat_map (spec.missing_at l.cache (spec.keys_of l.query)) (range_with_len l.at (l.members - l.at)))
      ≡ spec.kept_probes l.kept (spec.missing l.query l.members l.cache);
}
