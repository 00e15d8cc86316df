use Rattle.std.proofs.Common.{◌≡◌, ◌-◌, ◌++◌, ◌&&◌}
use Rattle.std.specs.Prelude.{filter}
use Rattle.std.specs.List.{range_with_len}
use Rattle.fx_algebra.specs.Units.{is_kept}
use Rattle.fx_keys.specs.Probes.{probe}
use Rattle.fx_sources.specs.Probes as spec
use Rattle.fx_sources.proofs.choices.members_of.Given as goal

-- what is left completes the members
abbrev pub invariant-loop-at : goal.invariant-loop-at
invariant-loop-at l = record {
  key : l.probe.key ≡ l.fn.probe.key;
  chosen : l.chosen ++ filter (λ at. spec.is_yes (spec.known (l.answers.entries ++ l.cache) (probe at l.fn.probe.key)) && is_kept l.kept at) (range_with_len l.at (l.members - l.at))
      ≡ filter (λ at. spec.is_yes (spec.known (l.answers.entries ++ l.cache) (probe at l.fn.probe.key)) && is_kept l.kept at) (range_with_len 0 l.members);
}
