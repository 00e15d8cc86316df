-- What an honest reply to an ASK tells.
use Rattle.std.proofs.Common.{◌≡◌, ◌∙◌, ap, subst, ◌≤◌, Bool, List, ℕ, length, Ok}
use Rattle.fx_terms.specs.declared.patterns.Pattern.{Pattern}
use Rattle.fx_terms.specs.declared.triples.Triple.{Triple}
use Rattle.fx_algebra.specs.Units.{fits}
use Rattle.fx_algebra.specs.declared.answers.Answer.{Answer}
use Rattle.fx_algebra.specs.declared.answers.Answer.TheVariants.{Table, Truth}
use Rattle.fx_http.specs.Requests.{IsRequest}
use Rattle.fx_results.specs.Meanings.{SameAnswer}
use Rattle.fx_spelling.specs.Printable.{IsTriple}
use Rattle.fx_sources.specs.Sources.{ask_query, ask_text}
use Rattle.fx_sources.proofs.AskLemmas.{ask_tells}
use Rattle.fx_wire.specs.Honest.{IsHonest}
use Rattle.fx_pool.specs.Reading.{HasResults}
use Rattle.fx_pool.proofs.FaultLemmas.{same_results}
use Rattle.fx_outcomes.proofs.AskTextLemmas.{ask_accepted, no_services}

truth_told : (told : Answer) (truth : Bool) → SameAnswer told (Truth truth) → told ≡ Truth truth
truth_told (Truth t) truth s = ap Truth s
truth_told (Table columns rows) truth s = absurd s

-- an honest reply is read as whether the pattern fits
pub honest_truth : (p : Pattern) (graph : List Triple) (request bytes : List ℕ) → IsTriple p → IsHonest graph request bytes → IsRequest request (ask_text p) → length (ask_text p) ≤ 67108864 → length bytes ≤ 67108864
    → HasResults bytes (Truth (fits p graph))
honest_truth p graph request bytes triple honest posts few short =
    let x = honest (ask_text p) (ask_query p) posts few (ask_accepted p triple) (no_services p) in
    record {
      body = x.body;
      replied = (short, x.replied);
      read = x.denotes.read ∙ ap Ok (truth_told x.denotes.told (fits p graph) (subst (SameAnswer x.denotes.told) (ask_tells p graph) x.denotes.same));
    }

-- one reply has one truth value
pub same_truth : (bytes : List ℕ) (truth other : Bool) → HasResults bytes (Truth truth) → HasResults bytes (Truth other) → truth ≡ other
same_truth bytes truth other h k = let same : Truth truth ≡ Truth other = same_results bytes (Truth truth) (Truth other) h k in cc
