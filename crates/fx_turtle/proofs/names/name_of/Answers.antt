use Rattle.std.proofs.Common.{Some, ap}
use Rattle.fx_turtle.proofs.Leaves.{named_iri}
use Rattle.fx_turtle.proofs.names.name_of.Goals as goal

pub returns-in-Iri : goal.returns-in-Iri
returns-in-Iri c = rw (c.in-Iri.is, ← (named_iri c.args.prefixes.now c.args.text.now)) c.iri_in.ensures

pub returns-in_ok-prefixed-in-PrefixName : goal.returns-in_ok-prefixed-in-PrefixName
returns-in_ok-prefixed-in-PrefixName c = rw c.in-PrefixName.is (ap Some c.in_ok-prefixed-in-PrefixName.ensures)
