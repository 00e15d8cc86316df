use Rattle.fx_terms.proofs.Utf8Stops.{stop_once}
use Rattle.fx_grammar.proofs.laws.utf8_stops_once.Goals as goal

pub returns : goal.returns
returns c = stop_once
