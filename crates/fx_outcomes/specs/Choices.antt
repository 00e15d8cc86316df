-- What is known of kept members.
use Rattle.std.specs.Prelude.{Bool, List, filter, map}
use Rattle.fx_algebra.specs.Units.{is_kept}
use Rattle.fx_keys.specs.declared.probes.Probe.{Probe}
use Rattle.fx_sources.specs.Probes.{Entry}

-- the entries of members that are kept
abbrev pub of_members : List Bool → List Entry → List Entry
of_members kept entries = filter (λ e. is_kept kept e.0.at) entries

-- their probes, and their answers
abbrev pub probes_in : List Entry → List Probe
probes_in entries = map (λ e. e.0) entries

abbrev pub truths_of : List Entry → List Bool
truths_of entries = map (λ e. e.1) entries
