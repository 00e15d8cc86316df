use Rattle.fx_sources.proofs.LineLemmas.{name_utf8, entry_not_utf8, entry_is_at}
use Rattle.fx_sources.proofs.lines.read_entry.Goals as goal

pub unreachable-requires : goal.unreachable-requires
unreachable-requires c = c.in_default.ensures.cases.0 (name_utf8 c.args.name.now c.if-not-is_name.ensures)

pub returns-in_default-from_utf8 : goal.returns-in_default-from_utf8
returns-in_default-from_utf8 c = entry_not_utf8 c.args.name.now c.args.address.now c.args.flags c.in_default-from_utf8.ensures.cases.0

pub returns-in-Ok-read : goal.returns-in-Ok-read
returns-in-Ok-read c =
    rw (entry_is_at c.args.name.now c.args.address.now c.in-Ok-read.iri c.in-Ok.name.now c.in-Ok-from_utf8.address.now c.args.flags c.if-not-is_name.ensures
    c.in-Ok-from_utf8.ensures.cases.1 c.in-Ok.ensures.cases.0 c.in-Ok-from_utf8.ensures.cases.0 c.in-Ok-read.ensures) c.entry_at.ensures
