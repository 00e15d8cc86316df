-- What replies tell where the graph of their endpoint is told.
use Rattle.std.specs.Prelude.{◌≡◌, ◌≤◌, ℕ, List, [], length}
use Rattle.fx_terms.specs.declared.triples.Triple.{Triple}
use Rattle.fx_algebra.specs.Answers.{answer_alone}
use Rattle.fx_algebra.specs.Occurrences.{services}
use Rattle.fx_algebra.specs.declared.answers.Answer.{Answer}
use Rattle.fx_algebra.specs.declared.queries.Query.{Query}
use Rattle.fx_grammar.specs.Accepted.{Accepted}
use Rattle.fx_http.specs.Requests.{IsRequest}
use Rattle.fx_results.specs.Meanings.{SameAnswer}
use Rattle.fx_wire.specs.Honest.{IsHonest}
use Rattle.fx_pool.specs.Reading.{HasResults}

-- The results of an honest reply to the text of a query without SERVICE are the query's answer over the graph, up to order.
abbrev pub HonestResults : Type 0
HonestResults = (graph : List Triple) (request reply text : List ℕ) (q : Query) (told : Answer)
    → IsHonest graph request reply
    → IsRequest request text
    → length text ≤ 67108864
    → Accepted text q
    → services q ≡ []
    → HasResults reply told
    → SameAnswer told (answer_alone q graph)
