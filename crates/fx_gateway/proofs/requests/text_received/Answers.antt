use Rattle.std.proofs.Common.{refl}
use Rattle.fx_member.specs.Served.{syntax_told, refused}
use Rattle.fx_gateway.proofs.requests.text_received.Goals as goal

pub returns-in_ok-syntax_reply-in-Err-Refused : goal.returns-in_ok-syntax_reply-in-Err-Refused
returns-in_ok-syntax_reply-in-Err-Refused c =
    let kind = c.in-Err-Refused.kind in
    let place = c.in-Err-Refused.place in
    let cause = rw c.in-Err-Refused.field-0-is at c.in-Err-Refused.ensures.refused in
    (syntax_told kind place, refused kind place cause refl, c.in_ok-syntax_reply-in-Err-Refused.ensures)
