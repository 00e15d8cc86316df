use Rattle.std.proofs.Common.{◌<◌, All, List, None, Some, length, map, sym, subst}
use Rattle.std.proofs.lemmas.List.Elements.{All-from_recursion}
use Rattle.fx_keys.specs.declared.probes.Probe.{Probe}
use Rattle.fx_pool.specs.Runs.{WiresDid}
use Rattle.fx_outcomes.specs.AskSteps.{IsForAsk, job_of}
use Rattle.fx_outcomes.proofs.MembersLemmas.{members_asked, members_in_vain}
use Rattle.fx_outcomes.proofs.ProbeLemmas.{all_for_ask}
use Rattle.fx_outcomes.proofs.members.ask_members.Goals as goal

pub replies_to-requires-clause-within : goal.replies_to-requires-clause-within
replies_to-requires-clause-within g c = subst (All (λ (p : Probe). p.at < length c.args.endpoints.now)) (sym c.as_slice.ensures.value) c.requires.within

pub returns-in-Err : goal.returns-in-Err
returns-in-Err g c =
    let see = g.W.Wire.seen in
    members_in_vain g.W.Wire.tells_log g.W.Wire.counts_alone c.args.endpoints.now (map see c.args.wires.now) (map see c.replies_to.new.wires) c.args.probes.items
    (subst (λ (v : List Probe). WiresDid g.W.Wire.tells_log g.W.Wire.counts_alone (map see c.args.wires.now) (map see c.replies_to.new.wires) c.args.endpoints.now (map job_of v) None) c.as_slice.ensures.value c.in-Err.ensures)

pub sorted_out-requires-clause-asked : goal.sorted_out-requires-clause-asked
sorted_out-requires-clause-asked g c =
    let rs = c.in-Ok.replies.items in
    All-from_recursion IsForAsk rs (all_for_ask c.args.endpoints.now c.as_slice.result.now rs c.in-Ok.ensures.done.0 c.in-Ok.ensures.done.1)

pub returns-in-Ok : goal.returns-in-Ok
returns-in-Ok g c =
    let see = g.W.Wire.seen in
    let rs = c.in-Ok.replies.items in
    members_asked g.W.Wire.tells_log g.W.Wire.counts_alone c.args.endpoints.now (map see c.args.wires.now) (map see c.replies_to.new.wires) c.args.probes.items c.requires.triples c.requires.within rs
    (subst (λ (v : List Probe). WiresDid g.W.Wire.tells_log g.W.Wire.counts_alone (map see c.args.wires.now) (map see c.replies_to.new.wires) c.args.endpoints.now (map job_of v) (Some rs)) c.as_slice.ensures.value c.in-Ok.ensures)
    c.sorted_out.result c.sorted_out.ensures
