-- A refusal that names an endpoint comes where each SERVICE is known.
use Rattle.std.proofs.Common.{◌≡◌, List, None, Err}
use Rattle.fx_outside.specs.Endpoints.{EndpointParts}
use Rattle.fx_algebra.specs.declared.queries.Query.{Query}
use Rattle.fx_flows.specs.declared.flows.FlowError.{FlowError}
use Rattle.fx_flows.specs.declared.flows.FlowError.TheVariants as flow
use Rattle.fx_outcomes.specs.Mediation.{IsNamed, KnowsServices}
use Rattle.fx_walks.specs.Unknown.{unknown_of}
use Rattle.fx_outcomes.specs.declared.federated.FedError.{FedError}
use Rattle.fx_outcomes.specs.declared.federated.FedError.TheVariants as fed

-- a refusal that names an endpoint comes where each SERVICE is known
pub known_named : (X : Type 0) (es : List EndpointParts) (q : Query) (why : FlowError) (e : FedError) → IsNamed es why e → unknown_of es q ≡ None → KnowsServices {X = X} es q (Err e)
known_named X es q why (fed.Member name) n known = known
known_named X es q why (fed.Service iri) n known = known
known_named X es q why (fed.BadReply name bad) n known = known
known_named X es q why (fed.RequestTooLong name size) n known = known
known_named X es q why fed.Memory n known = tt
known_named X es q (flow.Member at) (fed.UnknownService iri) n known = absurd n
known_named X es q (flow.BadReply at bad) (fed.UnknownService iri) n known = absurd n
known_named X es q (flow.RequestTooLong at size) (fed.UnknownService iri) n known = absurd n
known_named X es q flow.Memory (fed.UnknownService iri) n known = absurd n
