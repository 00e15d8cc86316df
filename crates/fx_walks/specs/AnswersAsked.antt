-- The answer of a query, asked for over wires by the tasks of the query.
use Rattle.std.specs.Prelude.{◌≡◌, ℕ, List, All, IsPermutation}
use Rattle.fx_terms.specs.declared.triples.Triple.{Triple}
use Rattle.fx_outside.specs.Endpoints.{EndpointParts}
use Rattle.fx_algebra.specs.Answers.{answer as answer_of, form_answer, with_inline}
use Rattle.fx_algebra.specs.Cuts.{seeds, stations}
use Rattle.fx_algebra.specs.Graphs.{union}
use Rattle.fx_algebra.specs.Solutions.{Bindings}
use Rattle.fx_algebra.specs.declared.answers.Answer.{Answer}
use Rattle.fx_algebra.specs.declared.queries.Query.{Query}
use Rattle.fx_traffic.specs.Sent.{Sent}
use Rattle.fx_walks.specs.GroupsAsked.{HasRows, all_planned}
use Rattle.fx_walks.specs.Served.{Served}
use Rattle.fx_walks.specs.RunsSent.{AreRunsSent}
use Rattle.fx_walks.specs.declared.tasks.Task.{Task}

-- the answer from the rows of a query's group, in whatever order these stand
abbrev pub IsFromRows : Query → List Bindings → Answer → Type 0
IsFromRows q rows answer = (defined : List Bindings) → IsPermutation rows defined → answer ≡ form_answer q q.form (with_inline q.inline defined)

-- what is sent for the runs of a query over graphs, however SERVICE is served, if its tasks are by the sources that its patterns have there, and the rows at
-- hand of its occurrences of SERVICE are theirs
abbrev pub AnswerDue : List EndpointParts → ℕ → List Task → Query → List (List Triple) → List Sent → Type 0
AnswerDue endpoints block tasks q graphs wanted =
    (served : Served) → (tasks ≡ all_planned served graphs (stations q)) → All (HasRows served) (stations q) → AreRunsSent endpoints graphs block (stations q) (seeds q (union graphs) served.graphs served.down) wanted

-- and then its answer is that over their union
abbrev pub AnswerGiven : List EndpointParts → ℕ → List Task → Query → List (List Triple) → List Sent → Answer → Type 0
AnswerGiven endpoints block tasks q graphs wanted answer =
    (served : Served) → (tasks ≡ all_planned served graphs (stations q)) → All (HasRows served) (stations q)
    → AreRunsSent endpoints graphs block (stations q) (seeds q (union graphs) served.graphs served.down) wanted × (answer ≡ answer_of q (union graphs) served.graphs served.down)
