use Rattle.std.proofs.Common.{sym, subst}
use Rattle.fx_terms.specs.Utf8.{StopsUtf8}
use Rattle.fx_terms.proofs.Utf8Stops.{stops_there}
use Rattle.fx_terms.proofs.utf8.read_utf8.Goals as goal

pub returns-in-Err-clause-refused : goal.returns-in-Err-clause-refused
returns-in-Err-clause-refused c = subst (StopsUtf8 c.args.bytes.now) (sym c.place.ensures) (stops_there c.args.bytes.now c.in-Err.ensures.cases.0)
