use Rattle.std.proofs.Common.{rules, ◌≡◌, ◌+◌, ◌++◌, sym, subst, List, Some, map, slice_range, take, arith}
use Rattle.std.proofs.lemmas.List.{take_all}
use Rattle.fx_keys.specs.declared.probes.Probe.{Probe}
use Rattle.fx_pool.specs.Runs.{WiresDid}
use Rattle.fx_pool.specs.declared.jobs.JobReply.{JobReply}
use Rattle.fx_pool.proofs.WiresLemmas.{all_tell}
use Rattle.fx_services.proofs.InTurnLemmas.{did_nothing}
use Rattle.fx_services.proofs.PieceLemmas.{are_some}
use Rattle.fx_outcomes.specs.AskSteps.{job_of}
use Rattle.fx_outcomes.proofs.AsksLemmas.{Begun, lost_behind, lost_in, some_more}
use Rattle.fx_outcomes.proofs.asks.replies_to.Goals as goal

pub loop-start-init : goal.loop-start-init
loop-start-init g c =
    let see = map g.W.Wire.seen c.args.wires.now in
    record {
      within = omega arith;
      begun =
          subst (λ (v : List JobReply). Begun g.W.Wire.tells_log g.W.Wire.counts_alone c.args.endpoints.now see see c.args.probes.now 0 (Some v)) (sym c.new-replies.ensures.items)
          (did_nothing g.W.Wire.tells_log g.W.Wire.counts_alone c.args.endpoints.now see);
    }

pub ask_some-requires-clause-few : goal.ask_some-requires-clause-few
ask_some-requires-clause-few g c = (are_some c.args.probes.now c.loop-start.start c.min.result c.loop-start-test.true c.min.ensures).few

pub returns-in-Err : goal.returns-in-Err
returns-in-Err g c =
    let see = g.W.Wire.seen in
    let told_so = g.met.W.Wire.told in
    let ps = c.args.probes.now in
    let k = c.loop-start.start in
    let n = c.min.result in
    let it = are_some ps k n c.loop-start-test.true c.min.ensures in
    lost_in g.W.Wire.tells_log g.W.Wire.counts_alone c.args.endpoints.now (map see c.args.wires.now) (map see c.loop-start.wires) (map see c.ask_some.new.wires)
    (all_tell see g.W.Wire.tells_log told_so c.args.wires.now) (all_tell see g.W.Wire.tells_log told_so c.loop-start.wires) ps k (k + n) (slice_range ps k (k + n)) it.front c.loop-start.replies.items c.loop-start.invariant.begun
    c.requires.within c.in-Err.ensures

pub returns-then-is_err : goal.returns-then-is_err
returns-then-is_err g c =
    let see = g.W.Wire.seen in
    let told_so = g.met.W.Wire.told in
    let ps = c.args.probes.now in
    let k = c.loop-start.start in
    let n = c.min.result in
    let it = are_some ps k n c.loop-start-test.true c.min.ensures in
    lost_behind g.W.Wire.tells_log g.W.Wire.counts_alone c.args.endpoints.now (map see c.args.wires.now) (map see c.loop-start.wires) (map see c.ask_some.new.wires)
    (all_tell see g.W.Wire.tells_log told_so c.args.wires.now) (all_tell see g.W.Wire.tells_log told_so c.loop-start.wires) ps k (k + n) (slice_range ps k (k + n)) it.front c.loop-start.replies.items c.loop-start.invariant.begun
    c.requires.within c.in-Ok.more.items c.in-Ok.ensures

pub loop-start-preserved : goal.loop-start-preserved
loop-start-preserved g c =
    let see = g.W.Wire.seen in
    let told_so = g.met.W.Wire.told in
    let ps = c.args.probes.now in
    let k = c.loop-start.start in
    let n = c.min.result in
    let it = are_some ps k n c.loop-start-test.true c.min.ensures in
    let joined : c.append.new.self.items ≡ c.loop-start.replies.items ++ c.in-Ok.more.items = search rules in
    record {
      within = it.within;
      begun =
          subst (λ (v : List JobReply). Begun g.W.Wire.tells_log g.W.Wire.counts_alone c.args.endpoints.now (map see c.args.wires.now) (map see c.ask_some.new.wires) ps (k + n) (Some v)) (sym joined)
          (some_more g.W.Wire.tells_log g.W.Wire.counts_alone c.args.endpoints.now (map see c.args.wires.now) (map see c.loop-start.wires) (map see c.ask_some.new.wires)
          (all_tell see g.W.Wire.tells_log told_so c.args.wires.now) (all_tell see g.W.Wire.tells_log told_so c.loop-start.wires) ps k (k + n) (slice_range ps k (k + n)) it.front c.loop-start.replies.items c.loop-start.invariant.begun c.in-Ok.more.items c.in-Ok.ensures);
    }

pub returns : goal.returns
returns g c =
    let ps = c.args.probes.now in
    let see = g.W.Wire.seen in
    let whole : take c.loop-start.start ps ≡ ps = take_all c.loop-start.start ps (omega arith) in
    subst (λ (v : List Probe). WiresDid g.W.Wire.tells_log g.W.Wire.counts_alone (map see c.args.wires.now) (map see c.loop-start.wires) c.args.endpoints.now (map job_of v) (Some c.loop-start.replies.items)) whole c.loop-start.invariant.begun
