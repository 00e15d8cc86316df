use Rattle.std.proofs.Common.{rules}
use Rattle.fx_flows.proofs.TeamLemmas.{both_asked, first_asked}
use Rattle.fx_flows.proofs.teams.+ask_over+fn-ask_over-join_mut+arg2+fn-ask_over-join_mut+arg3.Goals as goal

pub returns : goal.returns
returns g t c =
    both_asked g.W.Wire.seen g.W.Wire.tells_log g.W.Wire.counts_alone c.args.endpoints.now (g.F.AsksMembers.formed c.args.forms.now).parts
    c.args.wires.now c.split_at_mut-left.result.0.now c.left-1.given.0 c.split_at_mut-left.result.1.now c.right-1.given.0
    c.args.members.now c.parted.result.0.now c.parted.result.1.now
    c.join_mut-ours.result.0 c.join_mut-ours.result.1 c.all_lists.result
    (search rules) c.parted.ensures.whole (search rules) (search rules) (search rules)

pub returns-then-wires-lt2 : goal.returns-then-wires-lt2
returns-then-wires-lt2 g t c =
    -- the laws of a type that may be sent hold wherever a thread runs, and so here
    let laws = g.met.W.Wire g.world.𝓛 g.world.𝓜 g.world.𝓡 ((λ s x. x), (λ x. x), (λ x. x), λ x. x) in
    first_asked g.W.Wire.seen g.W.Wire.tells_log g.W.Wire.counts_alone c.args.wires.now c.index-wires-0.result c.ask_members.new.wire c.args.endpoints.now (g.F.AsksMembers.formed c.args.forms.now).parts c.args.members.now
    _ laws.told c.requires.wired c.ask_members.ensures

pub parted-requires-clause-within : goal.parted-requires-clause-within
parted-requires-clause-within g t c = c.requires.within

pub ask_members-requires-clause-sendable : goal.ask_members-requires-clause-sendable
ask_members-requires-clause-sendable g t c = c.requires.sendable

pub ask_members-requires-clause-within : goal.ask_members-requires-clause-within
ask_members-requires-clause-within g t c = c.requires.within
