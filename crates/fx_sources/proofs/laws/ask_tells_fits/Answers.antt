-- The law is the lemma of `AskLemmas`.
use Rattle.fx_sources.proofs.AskLemmas.{ask_tells}
use Rattle.fx_sources.proofs.laws.ask_tells_fits.Goals as goal

pub returns : goal.returns
returns c = ask_tells
