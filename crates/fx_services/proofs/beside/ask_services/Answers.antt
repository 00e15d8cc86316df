use Rattle.std.proofs.Common.{rules, ◌≡◌, ◌+◌, ◌++◌, sym, subst, List, Some, IfOk, IfSome, Ok, Err, Result, map, slice_range, take, arith}
use Rattle.std.specs.declared.alloc.Global.{Global}
use Rattle.std.specs.declared.vec.Vec.{Vec}
use Rattle.std.proofs.lemmas.List.{take_all}
use Rattle.fx_terms.specs.declared.allocation.Memory.{Memory}
use Rattle.fx_pool.specs.Runs.{WiresDid}
use Rattle.fx_pool.specs.declared.jobs.JobReply.{JobReply}
use Rattle.fx_pool.proofs.WiresLemmas.{all_tell}
use Rattle.fx_services.specs.Beside.{AreToldOf, Came, Occurrence, came_in, jobs_of}
use Rattle.fx_services.proofs.InTurnLemmas.{did_nothing}
use Rattle.fx_services.proofs.PieceLemmas.{Begun, are_some, lost_behind, lost_in, some_more}
use Rattle.fx_services.proofs.SideLemmas.{all_invoked, replies_for}
use Rattle.fx_services.proofs.beside.ask_services.Goals as goal

pub loop-start-init : goal.loop-start-init
loop-start-init g c =
    let see = map g.W.Wire.seen c.args.wires.now in
    record {
      within = omega arith;
      begun =
          subst (λ (v : List JobReply). Begun g.W.Wire.tells_log g.W.Wire.counts_alone c.args.registry.now see see c.args.asked.now 0 (Some v)) (sym c.new-replies.ensures.items)
          (did_nothing g.W.Wire.tells_log g.W.Wire.counts_alone c.args.registry.now see);
    }

pub ask_some-requires-clause-few : goal.ask_some-requires-clause-few
ask_some-requires-clause-few g c = (are_some c.args.asked.now c.loop-start.start c.min.result c.loop-start-test.true c.min.ensures).few

pub returns-in-Err : goal.returns-in-Err
returns-in-Err g c =
    let see = g.W.Wire.seen in
    let told_so = g.met.W.Wire.told in
    let os = c.args.asked.now in
    let k = c.loop-start.start in
    let n = c.min.result in
    let it = are_some os k n c.loop-start-test.true c.min.ensures in
    lost_in g.W.Wire.tells_log g.W.Wire.counts_alone c.args.registry.now (map see c.args.wires.now) (map see c.loop-start.wires) (map see c.ask_some.new.wires)
    (all_tell see g.W.Wire.tells_log told_so c.args.wires.now) (all_tell see g.W.Wire.tells_log told_so c.loop-start.wires) os k (k + n) (slice_range os k (k + n)) it.front c.loop-start.replies.items c.loop-start.invariant.begun c.in-Err.ensures

pub returns-then-is_err : goal.returns-then-is_err
returns-then-is_err g c =
    let see = g.W.Wire.seen in
    let told_so = g.met.W.Wire.told in
    let os = c.args.asked.now in
    let k = c.loop-start.start in
    let n = c.min.result in
    let it = are_some os k n c.loop-start-test.true c.min.ensures in
    lost_behind g.W.Wire.tells_log g.W.Wire.counts_alone c.args.registry.now (map see c.args.wires.now) (map see c.loop-start.wires) (map see c.ask_some.new.wires)
    (all_tell see g.W.Wire.tells_log told_so c.args.wires.now) (all_tell see g.W.Wire.tells_log told_so c.loop-start.wires) os k (k + n) (slice_range os k (k + n)) it.front c.loop-start.replies.items c.loop-start.invariant.begun c.in-Ok.more.items c.in-Ok.ensures

pub loop-start-preserved : goal.loop-start-preserved
loop-start-preserved g c =
    let see = g.W.Wire.seen in
    let told_so = g.met.W.Wire.told in
    let os = c.args.asked.now in
    let k = c.loop-start.start in
    let n = c.min.result in
    let it = are_some os k n c.loop-start-test.true c.min.ensures in
    let joined : c.append.new.self.items ≡ c.loop-start.replies.items ++ c.in-Ok.more.items = search rules in
    record {
      within = it.within;
      begun =
          subst (λ (v : List JobReply). Begun g.W.Wire.tells_log g.W.Wire.counts_alone c.args.registry.now (map see c.args.wires.now) (map see c.ask_some.new.wires) os (k + n) (Some v)) (sym joined)
          (some_more g.W.Wire.tells_log g.W.Wire.counts_alone c.args.registry.now (map see c.args.wires.now) (map see c.loop-start.wires) (map see c.ask_some.new.wires)
          (all_tell see g.W.Wire.tells_log told_so c.args.wires.now) (all_tell see g.W.Wire.tells_log told_so c.loop-start.wires) os k (k + n) (slice_range os k (k + n)) it.front c.loop-start.replies.items c.loop-start.invariant.begun c.in-Ok.more.items c.in-Ok.ensures);
    }

pub told_of-requires : goal.told_of-requires
told_of-requires g c =
    let os = c.args.asked.now in
    let see = g.W.Wire.seen in
    let tells = g.W.Wire.tells_log in
    let alone = g.W.Wire.counts_alone in
    let s = map see c.args.wires.now in
    let t = map see c.loop-start.wires in
    let es = c.args.registry.now in
    let whole : take c.loop-start.start os ≡ os = take_all c.loop-start.start os (omega arith) in
    let did = subst (λ (v : List Occurrence). WiresDid tells alone s t es (jobs_of es v) (Some c.loop-start.replies.items)) whole c.loop-start.invariant.begun in
    replies_for tells alone s t es os c.loop-start.replies.items did.done.0 did.done.1

pub returns : goal.returns
returns g c =
    let os = c.args.asked.now in
    let see = g.W.Wire.seen in
    let tells = g.W.Wire.tells_log in
    let alone = g.W.Wire.counts_alone in
    let s = map see c.args.wires.now in
    let t = map see c.loop-start.wires in
    let es = c.args.registry.now in
    let whole : take c.loop-start.start os ≡ os = take_all c.loop-start.start os (omega arith) in
    let did = subst (λ (v : List Occurrence). WiresDid tells alone s t es (jobs_of es v) (Some c.loop-start.replies.items)) whole c.loop-start.invariant.begun in
    all_invoked tells alone s t es os c.requires.servable c.loop-start.replies.items did (came_in c.told_of.result) (told c.told_of.result c.told_of.ensures)
  where
    told : (r : Result (Vec Came Global) Memory) → IfOk r (λ came. AreToldOf c.args.registry.now c.args.asked.now c.loop-start.replies.items came.items) → IfSome (came_in r) (AreToldOf c.args.registry.now c.args.asked.now c.loop-start.replies.items)
    told (Ok came) h = h
    told (Err e) h = tt
