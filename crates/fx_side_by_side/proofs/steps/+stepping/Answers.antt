use Rattle.std.proofs.Common.{rules}
use Rattle.fx_side_by_side.proofs.StepLemmas.{halves_beside, halves_in_turn}
use Rattle.fx_side_by_side.proofs.steps.+stepping.Goals as goal

pub ask_beside-returns : goal.ask_beside-returns
ask_beside-returns g t c =
    halves_beside g.W.Wire.seen g.W.Wire.tells_log g.W.Wire.counts_alone c.args.endpoints.now c.args.turn.now.step c.args.turn.now.block
    c.args.runs.now c.halves_of.result.0.now c.halves_of.result.1.now
    c.args.found.now c.split_at_mut-ours.result.0.now c.split_at_mut-ours.result.1.now c.ours-1.given.0 c.theirs-1.given.0
    c.halves_of.ensures.whole (search rules) c.args.wires.now c.split_at_mut-left.result.0.now c.left-1.given.0 c.split_at_mut-left.result.1.now c.right-1.given.0 (search rules) (search rules) (search rules)

pub ask_steps-returns : goal.ask_steps-returns
ask_steps-returns g t c =
    let laws = g.met.W.Wire g.world.𝓛 g.world.𝓜 g.world.𝓡 ((λ s x. x), (λ x. x), (λ x. x), λ x. x) in
    halves_in_turn g.W.Wire.seen g.W.Wire.tells_log g.W.Wire.counts_alone c.args.endpoints.now c.args.turn.now.step c.args.turn.now.block
    c.args.runs.now c.halves_of.result.0.now c.halves_of.result.1.now
    c.args.found.now c.split_at_mut-ours.result.0.now c.split_at_mut-ours.result.1.now c.ask_steps.new.found c.ask_steps-2.new.found
    c.halves_of.ensures.whole (search rules) laws.told c.args.wires.now c.ask_steps.new.wires c.ask_steps-2.new.wires (search rules) (search rules)
