use Rattle.std.proofs.Common.{◌≡◌, ◌++◌}
use Rattle.fx_walks.specs.Sections.{parts_by}
use Rattle.fx_walks.proofs.PartLemmas.{Left}
use Rattle.fx_walks.proofs.parts.parts_of.Given as goal

abbrev pub invariant-loop-section : goal.invariant-loop-section
invariant-loop-section l = record {
  whole : l.yielded ++ l.section-iterator.rest.items ≡ l.fn.sections.items;
  left : Left l.parts.items l.section-iterator.rest.items l.left (parts_by l.fn.sections.items l.sources);
}
