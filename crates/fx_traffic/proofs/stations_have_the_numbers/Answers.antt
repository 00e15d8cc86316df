-- The law is the lemma of `NumberLemmas`.
use Rattle.fx_traffic.proofs.NumberLemmas.{stations_have_the_numbers}
use Rattle.fx_traffic.proofs.stations_have_the_numbers.Goals as goal

pub returns : goal.returns
returns c = stations_have_the_numbers
