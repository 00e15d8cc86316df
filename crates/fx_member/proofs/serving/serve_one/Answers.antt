use Rattle.fx_member.proofs.serving.serve_one.Goals as goal

pub returns-in-Ok-clause-honest : goal.returns-in-Ok-clause-honest
returns-in-Ok-clause-honest g c = λ left held. (c.in_ok-reply.reply.bytes.items, c.in_ok-reply.ensures.honest left, rw (c.as_slice.ensures.value, c.in_ok-reply.ensures.held held) at c.in-Ok.ensures.whole held)
