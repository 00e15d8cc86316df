-- The parts of a query have the sources of its patterns.
use Rattle.std.proofs.Common.{◌≡◌, ◌∙◌, ap, sym, ℕ, List, length}
use Rattle.std.proofs.lemmas.List.{length-map}
use Rattle.std.specs.List.{flat_map}
use Rattle.fx_algebra.specs.declared.queries.Query.{Query}
use Rattle.fx_keys.specs.Probes.{key_of}
use Rattle.fx_sources.specs.Patterns.{patterns}
use Rattle.fx_sources.specs.Probes.{Entry, chosen, members_of}
use Rattle.fx_walks.specs.Sections.{run_patterns, sections}
use Rattle.fx_walks.proofs.SectionLemmas.{runs_have}

-- as many patterns stand in the runs as are asked for
pub as_many_patterns : (q : Query) (n : ℕ) (entries : List Entry) → length (chosen q n entries) ≡ length (flat_map run_patterns (sections q))
as_many_patterns q n entries = length-map (patterns q) (λ p. members_of entries n (key_of p)) ∙ ap length (sym (runs_have q))
