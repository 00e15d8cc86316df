-- What is told of what the members of a federation gave for a query (SPARQL 1.1 Protocol, 2.1.7; RFC 9110, 15.6.3).
use Rattle.std.specs.Prelude.{◌≡◌, ℕ, true, List, [], codes, IfOk, Option, Some, None, Result, Ok, Err}
use Rattle.fx_http.specs.WrittenReplies.{reply_of}
use Rattle.fx_results.specs.Documents.{document}
use Rattle.fx_results.specs.Meanings.{binds_columns}
use Rattle.fx_wire.specs.Honest.{Replies}
use Rattle.fx_member.specs.Served.{Told, own_line, told}
use Rattle.fx_outcomes.specs.declared.federated.FedError.{FedError}
use Rattle.fx_outcomes.specs.declared.federated.FedError.TheVariants as fed
use Rattle.fx_outcomes.specs.declared.rounds.OutcomeInRounds.{OutcomeInRounds}
use Rattle.fx_gateway.specs.declared.connections.Gated.{Gated}

-- Its name on a line: with 502 where an endpoint failed, or can't be asked; with 400 where the query names one that nobody knows. Want of memory isn't told.
abbrev pub fault_told : FedError → Option Told
fault_told (fed.Member name) = Some (told 502 (own_line (codes "Member")))
fault_told (fed.Service iri) = Some (told 502 (own_line (codes "Service")))
fault_told (fed.BadReply name bad) = Some (told 502 (own_line (codes "BadReply")))
fault_told (fed.RequestTooLong name size) = Some (told 502 (own_line (codes "RequestTooLong")))
fault_told (fed.UnknownService iri) = Some (told 400 (own_line (codes "UnknownService")))
fault_told fed.Memory = None

-- the document of the answer, or the fault
abbrev pub fed_told : Result OutcomeInRounds FedError → Option Told
fed_told (Ok all) = Some (told 200 (document all.outcome.answer))
fed_told (Err e) = fault_told e

-- ---- what is known beside the reply

-- where nothing was asked
abbrev pub unasked_with : ℕ → Gated
unasked_with status = record { status = status; fault = None; down = []; abandoned = [] }

-- where the members gave this
abbrev pub gated_of : ℕ → Result OutcomeInRounds FedError → Gated
gated_of status (Ok all) = record { status = status; fault = None; down = all.outcome.down; abandoned = all.abandoned }
gated_of status (Err e) = record { status = status; fault = Some e; down = []; abandoned = [] }

-- ---- the reply

-- What the members gave is replied: the document of the answer, which means the answer where that binds its columns alone, or their fault.
pub record IsReplyTo (result : Result OutcomeInRounds FedError) (gated : Gated) (reply : List ℕ) : Type 0 where
  pub t : Told
  pub told : fed_told result ≡ Some t
  pub gated_is : gated ≡ gated_of t.status result
  pub laid_out : reply ≡ reply_of t.status t.body
  pub means : IfOk result (λ all. binds_columns all.outcome.answer ≡ true → Replies reply all.outcome.answer)
