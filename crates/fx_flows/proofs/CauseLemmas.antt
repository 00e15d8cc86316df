-- A cause that came behind other exchanges is one of all of them.
use Rattle.std.proofs.Common.{ℕ, Bool, List, ◌++◌}
use Rattle.fx_outside.specs.Endpoints.{EndpointParts}
use Rattle.fx_bound.specs.Parts.{Parts}
use Rattle.fx_wire.specs.Exchanges.{Exchange, Seen}
use Rattle.fx_flows.specs.Flows.{HasMemberCause, IsMemberCause, Passed}
use Rattle.fx_flows.specs.declared.flows.FlowError.{FlowError}
use Rattle.fx_flows.specs.declared.flows.FlowError.TheVariants as flow
use Rattle.fx_flows.proofs.MembersLemmas.{cause_behind}

member_cause_behind : (s t v : Seen) (es : List EndpointParts) (p : Parts) (members : List ℕ) (xs ys : List Exchange) (why : FlowError) (alone : Bool) (m : ℕ) → Passed alone m s t xs → IsMemberCause t v es p members ys why → IsMemberCause s v es p members (xs ++ ys) why
member_cause_behind s t v es p members xs ys why alone m h k = record { at = k.at; member = k.member; endpoint = k.endpoint; found = k.found; named = k.named; cause = cause_behind s t v k.endpoint p xs ys why alone m h k.cause }

pub has_cause_behind : (s t v : Seen) (es : List EndpointParts) (p : Parts) (members : List ℕ) (xs ys : List Exchange) (why : FlowError) (alone : Bool) (m : ℕ) → Passed alone m s t xs → HasMemberCause t v es p members ys why → HasMemberCause s v es p members (xs ++ ys) why
has_cause_behind s t v es p members xs ys (flow.Member at) alone m h k = member_cause_behind s t v es p members xs ys (flow.Member at) alone m h k
has_cause_behind s t v es p members xs ys (flow.BadReply at bad) alone m h k = member_cause_behind s t v es p members xs ys (flow.BadReply at bad) alone m h k
has_cause_behind s t v es p members xs ys (flow.RequestTooLong at size) alone m h k = member_cause_behind s t v es p members xs ys (flow.RequestTooLong at size) alone m h k
has_cause_behind s t v es p members xs ys flow.Memory alone m h k = tt
