use Rattle.std.proofs.Common.{refl}
use Rattle.fx_member.specs.Served.{query_told, syntax_told, accepted, refused}
use Rattle.fx_member.proofs.HonestLemmas.{one_query, no_query, ok_as}
use Rattle.fx_member.proofs.serving.text_reply.Goals as goal

pub returns-in-Ok-clause-told : goal.returns-in-Ok-clause-told
returns-in-Ok-clause-told c = ok_as c.query_reply.result (λ reply laid. (query_told c.in-Ok.query c.args.store.now, accepted c.in-Ok.query c.in-Ok.ensures.found refl, laid)) c.query_reply.ensures.told

pub returns-in-Ok-clause-means : goal.returns-in-Ok-clause-means
returns-in-Ok-clause-means c = one_query (λ reply. reply.bytes.items) c.query_reply.result c.args.store.now c.args.text.now c.in-Ok.query c.in-Ok.ensures.only c.query_reply.ensures.means

pub returns-in-Err-Refused-clause-told : goal.returns-in-Err-Refused-clause-told
returns-in-Err-Refused-clause-told c =
    let cause = rw c.in-Err-Refused.field-0-is at c.in-Err-Refused.ensures.refused in
    ok_as c.syntax_reply.result (λ reply laid. (syntax_told c.in-Err-Refused.kind c.in-Err-Refused.place, refused c.in-Err-Refused.kind c.in-Err-Refused.place cause refl, laid)) c.syntax_reply.ensures

pub returns-in-Err-Refused-clause-means : goal.returns-in-Err-Refused-clause-means
returns-in-Err-Refused-clause-means c =
    no_query (λ reply. reply.bytes.items) c.syntax_reply.result c.args.store.now c.args.text.now
    (λ q a. let e = c.in-Err-Refused.ensures.only q a in let is = c.in-Err-Refused.field-0-is in absurd (cc))
