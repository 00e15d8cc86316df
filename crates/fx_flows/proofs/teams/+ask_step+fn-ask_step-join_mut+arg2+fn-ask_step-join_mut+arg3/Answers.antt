use Rattle.std.proofs.Common.{map, rules, arith}
use Rattle.std.proofs.lemmas.List.{length-map}
use Rattle.fx_flows.proofs.TeamStepLemmas.{both_steps, step_of_only}
use Rattle.fx_flows.proofs.teams.+ask_step+fn-ask_step-join_mut+arg2+fn-ask_step-join_mut+arg3.Goals as goal

pub returns : goal.returns
returns g t c =
    both_steps g.W.Wire.seen g.W.Wire.tells_log g.W.Wire.counts_alone c.args.endpoints.now c.args.unit.now
    c.args.wires.now c.split_at_mut-left.result.0.now c.left-1.given.0 c.split_at_mut-left.result.1.now c.right-1.given.0
    c.args.batches.now c.batches_apart.result.0.now c.batches_apart.result.1.now
    c.join_mut-ours.result.0 c.join_mut-ours.result.1 c.both.result
    (search rules) c.batches_apart.ensures.whole (search rules) (search rules) (search rules)

pub returns-then-batches-lt2 : goal.returns-then-batches-lt2
returns-then-batches-lt2 g t c =
    let long = length-map c.args.wires.now g.W.Wire.seen in
    step_of_only g.W.Wire.tells_log g.W.Wire.counts_alone (map g.W.Wire.seen c.args.wires.now) (map g.W.Wire.seen c.ask_batch_over.new.wires) c.args.endpoints.now c.args.unit.now c.args.batches.now
    c.index-batches-0.result c.as_slice.result.now _ (omega (arith, long, c.requires.wired.0, c.requires.wired.1)) c.requires.wired.0 c.if-batches-lt2.true c.index-batches-0.is c.as_slice.ensures c.ask_batch_over.ensures

pub batches_apart-requires-clause-few : goal.batches_apart-requires-clause-few
batches_apart-requires-clause-few g t c = c.requires.few
