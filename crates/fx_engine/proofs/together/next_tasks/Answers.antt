use Rattle.std.proofs.Common.{◌≡◌, ◌∙◌, ap, drop, length, take, arith}
use Rattle.fx_walks.specs.Tasks.{front_of}
use Rattle.fx_walks.proofs.FrontLemmas.{next_are}
use Rattle.fx_engine.proofs.together.next_tasks.Goals as goal

pub returns : goal.returns
returns c =
    let long : length c.front-front.result.now ≡ length (front_of c.args.tasks.now) = ap length c.front-front.ensures in
    next_are c.args.tasks.now c.split_at-2.result.0.now c.args.next c.args.count (omega (arith, long, c.if-next-front.false, c.if-count-front.false))
    (c.split_at-2.ensures.front ∙ ap (take c.args.count) (c.split_at.ensures.back ∙ ap (drop c.args.next) c.front-front.ensures))
