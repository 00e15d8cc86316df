-- The query that counts, the members that it is asked of, and what `count_rows` gives.
use Rattle.std.specs.Prelude.{◌≡◌, ◌⊎◌, ℕ, false, List, [], ◌∷◌, codes, length, None, Result, Ok, Err}
use Rattle.fx_terms.specs.Datatypes.{xsd_integer}
use Rattle.fx_terms.specs.declared.patterns.Pattern.{Pattern}
use Rattle.fx_terms.specs.declared.patterns.PatternTerm.TheVariants as part
use Rattle.fx_terms.specs.declared.terms.Term.{Term}
use Rattle.fx_terms.specs.declared.terms.Term.TheVariants.{Iri, Literal}
use Rattle.fx_terms.specs.declared.triples.Triple.{Triple}
use Rattle.fx_outside.specs.Endpoints.{EndpointParts, endpoint_of}
use Rattle.fx_algebra.specs.Answers.{answer_alone}
use Rattle.fx_algebra.specs.Graphs.{union}
use Rattle.fx_algebra.specs.Solutions.{Bindings}
use Rattle.fx_algebra.specs.declared.answers.Answer.{Answer}
use Rattle.fx_algebra.specs.declared.answers.Answer.TheVariants as answer
use Rattle.fx_algebra.specs.declared.expressions.Compare.TheVariants.{Less}
use Rattle.fx_algebra.specs.declared.expressions.Expr.{Expr, Expr-F, roll-Expr}
use Rattle.fx_algebra.specs.declared.queries.Element.{Element}
use Rattle.fx_algebra.specs.declared.queries.Element.TheVariants as element
use Rattle.fx_algebra.specs.declared.queries.Form.TheVariants as form
use Rattle.fx_algebra.specs.declared.queries.Group.{roll-Group}
use Rattle.fx_algebra.specs.declared.queries.Query.{Query}
use Rattle.fx_traffic.specs.Gains.{TellAll, WiresSeen}
use Rattle.fx_wire.specs.Exchanges.{Seen}
use Rattle.fx_outcomes.specs.declared.federated.FedError.{FedError}
use Rattle.fx_outcomes.specs.declared.federated.FedError.TheVariants as fed
use Rattle.fx_outcomes.specs.declared.rounds.OutcomeInRounds.{OutcomeInRounds}
use Rattle.fx_commands.specs.Asking.{IsUnasked, WasAsked}

-- ---- the query

abbrev pub knows : List ℕ
knows = codes "http://g/knows"

abbrev pub age : List ℕ
age = codes "http://g/age"

-- ?subject <predicate> ?object
abbrev pub linked : List ℕ → List ℕ → List ℕ → Pattern
linked subject predicate object = record { subject = part.Variable subject; predicate = part.Constant (Iri predicate); object = part.Variable object }

abbrev pub thirty : Term
thirty = Literal (record { form = codes "30"; datatype = xsd_integer; tag = [] })

-- ?n < 30
abbrev pub is_young : Expr
is_young = roll-Expr (Expr-F.Compare Less (roll-Expr (Expr-F.Variable (codes "n"))) (roll-Expr (Expr-F.Constant thirty)))

abbrev pub generated_elements : List Element
generated_elements =
    element.Triple (linked (codes "a") knows (codes "b"))
    ∷ element.Triple (linked (codes "b") knows (codes "c"))
    ∷ element.Triple (linked (codes "c") age (codes "n"))
    ∷ element.Filter is_young
    ∷ []

-- SELECT ?a ?c WHERE { ?a <http://g/knows> ?b . ?b <http://g/knows> ?c . ?c <http://g/age> ?n FILTER ( ?n < 30 ) }
abbrev pub generated_query : Query
generated_query = record { form = form.Select false (codes "a" ∷ codes "c" ∷ []); group = roll-Group (record { elements = generated_elements }); order = []; offset = 0; limit = None; inline = None }

-- the same as it is printed
abbrev pub generated_text : List ℕ
generated_text = codes "SELECT ?a ?c WHERE { ?a <http://g/knows> ?b . ?b <http://g/knows> ?c . ?c <http://g/age> ?n . FILTER ( ?n < \"30\"^^<http://www.w3.org/2001/XMLSchema#integer> ) }"

-- the rows of an answer, of which a truth value has none
abbrev pub rows_in : Answer → List Bindings
rows_in (answer.Table columns rows) = rows
rows_in (answer.Truth truth) = []

-- the rows of the query over a graph, in their order
abbrev pub generated_rows : List Triple → List Bindings
generated_rows graph = rows_in (answer_alone generated_query graph)

-- ---- the members

abbrev pub first_address : List ℕ
first_address = codes "http://127.0.0.1:9000/sparql"

abbrev pub second_address : List ℕ
second_address = codes "http://127.0.0.1:9001/sparql"

abbrev pub third_address : List ℕ
third_address = codes "http://127.0.0.1:9002/sparql"

-- an endpoint of this machine
abbrev pub here : List ℕ → List ℕ → ℕ → EndpointParts
here name address port = endpoint_of name address (codes "127.0.0.1") port (codes "/sparql")

abbrev pub generated_members : List EndpointParts
generated_members = here (codes "M0") first_address 9000 ∷ here (codes "M1") second_address 9001 ∷ here (codes "M2") third_address 9002 ∷ []

abbrev pub generated_registry : List ℕ
generated_registry = codes "M0 http://127.0.0.1:9000/sparql\nM1 http://127.0.0.1:9001/sparql\nM2 http://127.0.0.1:9002/sparql\n"

-- ---- what is counted

-- where the wires tell the graphs of the three addresses, whatever these are, it is how many rows the query has over their union
abbrev pub IsRowCount : List Seen → ℕ → Type 0
IsRowCount wires count = (graphs : List (List Triple)) → TellAll wires generated_members graphs → count ≡ length (generated_rows (union graphs))

-- a refusal is of a member, or want of memory: the query has no SERVICE
abbrev pub IsOfMember : FedError → Type 0
IsOfMember (fed.Member name) = Unit {0}
IsOfMember (fed.Service iri) = ⊥
IsOfMember (fed.BadReply name bad) = Unit {0}
IsOfMember (fed.RequestTooLong name size) = Unit {0}
IsOfMember (fed.UnknownService iri) = ⊥
IsOfMember fed.Memory = Unit {0}

-- the number of the rows that the members gave, or their refusal
abbrev pub IsCounted : Result OutcomeInRounds FedError → Result ℕ FedError → Type 0
IsCounted (Ok all) result = result ≡ Ok (length (rows_in all.outcome.answer))
IsCounted (Err e) result = result ≡ Err e

-- The members were asked for the query with a new cache, in batches of 15 rows: what was exchanged, and each refusal by its cause; unless there was no memory for that.
abbrev pub WasCounted : WiresSeen → Result ℕ FedError → Type 0
WasCounted w result =
    (IsUnasked w × (result ≡ Err fed.Memory))
    ⊎ ((given : Result OutcomeInRounds FedError) × WasAsked w generated_members generated_query 15 given × IsCounted given result)
