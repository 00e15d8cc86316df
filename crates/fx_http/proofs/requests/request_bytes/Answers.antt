use Rattle.std.proofs.Common.{sym, subst, arith, List, ℕ}
use Rattle.fx_http.specs.Requests.{IsRequest}
use Rattle.fx_http.proofs.RequestLaws.{request_of_is, request_is}
use Rattle.fx_http.proofs.requests.request_bytes.Goals as goal

pub returns-clause-exact : goal.returns-clause-exact
returns-clause-exact c =
    rw (c.into_bytes.ensures.value, c.in_ok-request.ensures.ok, c.target-target.ensures, c.in_ok-authority.ensures, c.host.ensures, c.port.ensures)
    (sym (request_of_is c.args.at.now c.args.text.now))

pub returns-clause-whole : goal.returns-clause-whole
returns-clause-whole c few =
    let exact = returns-clause-exact c in
    subst (λ (t : List ℕ). IsRequest t c.args.text.now) (sym exact)
    (request_is c.args.at.now c.args.text.now c.requires.sendable (omega arith) few)
