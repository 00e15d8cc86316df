-- What an endpoint owes that answers by the SPARQL algebra over a graph (SPARQL 1.1 Protocol, 2.1).
use Rattle.std.specs.Prelude.{◌≡◌, ◌≤◌, ℕ, List, [], length}
use Rattle.fx_terms.specs.declared.triples.Triple.{Triple}
use Rattle.fx_algebra.specs.Answers.{answer_alone}
use Rattle.fx_algebra.specs.Occurrences.{services}
use Rattle.fx_algebra.specs.declared.answers.Answer.{Answer}
use Rattle.fx_algebra.specs.declared.queries.Query.{Query}
use Rattle.fx_grammar.specs.Accepted.{Accepted}
use Rattle.fx_results.specs.Meanings.{Denotes}
use Rattle.fx_http.specs.Requests.{IsRequest}
use Rattle.fx_http.specs.Replies.{IsReply}

-- the reply has status 200, and its body means the answer
pub record Replies (reply : List ℕ) (answer : Answer) : Type 0 where
  pub body : List ℕ
  pub replied : IsReply reply body
  pub denotes : Denotes body answer

-- where the request posts the text of an accepted query without SERVICE, the reply means the query's answer over the graph
abbrev pub IsHonest : List Triple → List ℕ → List ℕ → Type 0
IsHonest graph request reply = (text : List ℕ) (q : Query) → IsRequest request text → length text ≤ 67108864 → Accepted text q → services q ≡ [] → Replies reply (answer_alone q graph)
