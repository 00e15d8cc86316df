-- The number that the refusal of a batch names is that of an endpoint.
use Rattle.std.proofs.Common.{ℕ, List, length}
use Rattle.fx_outside.specs.Endpoints.{EndpointParts}
use Rattle.fx_algebra.specs.declared.units.Unit as unit
use Rattle.fx_traffic.specs.Sent.{Sent}
use Rattle.fx_wire.specs.Exchanges.{Exchange, Seen}
use Rattle.fx_flows.specs.RunFlows.{HasFlowCause}
use Rattle.fx_flows.specs.declared.flows.FlowError.{FlowError}
use Rattle.fx_flows.specs.declared.flows.FlowError.TheVariants as flow
use Rattle.fx_pool.specs.declared.jobs.BadReply.{BadReply}
use Rattle.fx_outcomes.specs.Mediation.{IsPlaced}
use Rattle.fx_outcomes.proofs.ChoiceLemmas.{below}

pub flow_placed : (es : List EndpointParts) (us : List unit.Unit) (block : ℕ) (s t : List Seen) (xs : List Exchange) (wanted : List Sent) (why : FlowError) → HasFlowCause s t es us block wanted xs why → IsPlaced (length es) why
flow_placed es us block s t xs wanted (flow.Member at) k = below es k.at at k.endpoint k.named k.found
flow_placed es us block s t xs wanted (flow.BadReply at bad) k = below es k.at at k.endpoint k.named k.found
flow_placed es us block s t xs wanted (flow.RequestTooLong at size) k = below es k.at at k.endpoint k.named k.found
flow_placed es us block s t xs wanted flow.Memory k = tt
