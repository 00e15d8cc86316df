-- How a run ends that asks members, and its line.
use Rattle.std.specs.Prelude.{◌≡◌, ◌⊎◌, ℕ, List, [], Result, Ok, Err}
use Rattle.fx_outcomes.specs.declared.federated.FedError.{FedError}
use Rattle.fx_outcomes.specs.declared.federated.FedError.TheVariants as fed
use Rattle.fx_local.specs.declared.statuses.Status.{Status}
use Rattle.fx_local.specs.declared.statuses.Status.TheVariants as status
use Rattle.fx_local.specs.Lines.{no_memory, unknown_service}
use Rattle.fx_lines.specs.MemberLines.{member_failed, service_failed, bad_reply, request_too_long}

abbrev pub fed_status_of : FedError → Status
fed_status_of (fed.Member name) = status.EndpointFault
fed_status_of (fed.Service iri) = status.EndpointFault
fed_status_of (fed.BadReply name bad) = status.BadReply
fed_status_of (fed.RequestTooLong name size) = status.RequestTooLong
fed_status_of (fed.UnknownService iri) = status.UnknownService
fed_status_of fed.Memory = status.NoMemory

abbrev pub fed_line : FedError → List ℕ
fed_line (fed.Member name) = member_failed name
fed_line (fed.Service iri) = service_failed iri
fed_line (fed.BadReply name bad) = bad_reply name bad.why
fed_line (fed.RequestTooLong name size) = request_too_long name size
fed_line (fed.UnknownService iri) = unknown_service iri
fed_line fed.Memory = no_memory

-- Where the members give something it is written, and these lines behind it, unless memory runs out. Where a write failed, that is the front of them that is
-- written, or nothing is.
abbrev pub IsGivenEnd : List ℕ → Status → List ℕ → Type 0
IsGivenEnd lines status.Done text = text ≡ lines
IsGivenEnd lines status.WriteFault text = (text ≡ []) ⊎ (text ≡ lines)
IsGivenEnd lines status.NoMemory text = text ≡ no_memory
IsGivenEnd lines s text = ⊥

-- the status and the line by what the members give, with the lines that it has, and else by the refusal
abbrev pub IsEnd : {X : Type 0} → (X → List ℕ) → Result X FedError → Status → List ℕ → Type 0
IsEnd lines_of (Ok given) s text = IsGivenEnd (lines_of given) s text
IsEnd lines_of (Err e) s text = (s ≡ fed_status_of e) × (text ≡ fed_line e)
