-- What a request is before anything is asked for it.
use Rattle.std.proofs.Common.{◌≡◌, refl, List, ℕ, Some, Ok, Err, IsTrue}
use Rattle.fx_http.specs.Requests.{Asks, request_error_name, status_of}
use Rattle.fx_http.specs.Answers.{GivesAsked}
use Rattle.fx_http.specs.declared.read_requests.RequestError.{RequestError}
use Rattle.fx_member.specs.Served.{IsLaidOut, Told, own_line, told}
use Rattle.fx_member.proofs.HonestLemmas.{asks_refusal}
use Rattle.fx_gateway.specs.Connected.{IsRefusal, LinkSeen, of_request, of_text}
use Rattle.fx_gateway.specs.Steps.{IsReceived, IsTextReceived}
use Rattle.fx_gateway.specs.declared.requests.Received.{Received}
use Rattle.fx_gateway.specs.declared.requests.Received.TheVariants as received

module _ (link : LinkSeen) where
  pub of_its_text : (text : List ℕ) (r : Received) → (IsTrue link.tells_left → Asks link.left (Ok text)) → IsTextReceived text r → IsReceived link r
  of_its_text text (received.Asks query) asks h = (text, asks, h)
  of_its_text text (received.Refused reply) asks h = (h.0, of_text text asks h.1, h.2)

  pub of_its_refusal : (e : RequestError) (status code : ℕ) (reply : List ℕ) → (IsTrue link.tells_left → GivesAsked (Err e) (Asks link.left)) → status_of e ≡ Some code → IsLaidOut (told code (own_line (request_error_name e))) status reply
      → (t : Told) × IsRefusal link t × IsLaidOut t status reply
  of_its_refusal e status code reply asks is laid =
      (told code (own_line (request_error_name e)), of_request e code (λ tells. asks_refusal link.left e code is (asks tells)) is refl, laid)
