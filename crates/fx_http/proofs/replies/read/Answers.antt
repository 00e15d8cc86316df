use Rattle.std.proofs.Common.{arith, refl, ap, length}
use Rattle.std.proofs.lemmas.List.{length-take}
use Rattle.fx_http.proofs.ReplyLaws.{no_head, replies_by_head}
use Rattle.fx_http.proofs.replies.read.Goals as goal

pub returns-in_default : goal.returns-in_default
returns-in_default c = (omega arith, no_head c.args.bytes.now 100 refl (rw c.front-front.ensures at c.in_default.ensures.none))

pub after-requires : goal.after-requires
after-requires c =
    let within = c.in-Some.ensures.some.within in
    let front = ap length c.front-front.ensures in
    omega (arith, length-take 65536 c.args.bytes.now)

pub returns : goal.returns
returns c =
    let same = c.in-Some.ensures.same in
    replies_by_head c.args.bytes.now c.read_head.new.headers c.in-Some.head c.read_behind.result (omega arith)
    (rw c.front-front.ensures at c.in-Some.ensures.some) (omega arith)
    (rw (c.front-front.ensures, c.after.ensures) at c.read_behind.ensures)
