use Rattle.std.proofs.Common.{◌≡◌, ◌∙◌, ◌+◌, ◌<◌, ◌≤◌, ◌++◌, [], ◌∷◌, IsSome, List, ℕ, Some, ap, cond, ltb, length, map, refl, sym, subst, arith, rules, true≢false}
use Rattle.std.proofs.lemmas.Bool.Decides.{nat_tests}
use Rattle.std.proofs.lemmas.List.{length-map}
use Rattle.std.proofs.lemmas.List.Elements.{recursion_from_All}
use Rattle.fx_pool.specs.Runs.{WireDid}
use Rattle.fx_pool.specs.Sharing.{below, jobs_of, number_of, reply_of}
use Rattle.fx_pool.specs.declared.claims.Drawn.{Drawn}
use Rattle.fx_pool.specs.declared.jobs.Done.{Done}
use Rattle.fx_pool.specs.declared.jobs.Job.{Job}
use Rattle.fx_pool.proofs.RunLemmas.{did_nothing}
use Rattle.fx_pool.proofs.WorkLemmas.{did_more, drew, ended_at, finished, held_at, lost_at, numbers_more, read_made}
use Rattle.fx_pool.proofs.working.work.Goals as goal
use Rattle.fx_pool.proofs.working.work.Goals.{in-None, in-Some+then-number-tasks}

pub loop-init : goal.loop-init
loop-init g c =
    let see = g.W.Wire.seen c.args.wire.now in
    let fresh = c.requires.fresh in
    let none = sym c.new-done.ensures.items in
    record {
      table = c.requires.table;
      same_table = refl;
      seat = (fresh.0, refl, fresh.1, fresh.2, fresh.3);
      did =
          subst (λ (v : List ℕ). WireDid g.W.Wire.counts_alone see see c.args.endpoints.now (jobs_of (map g.T.Task.job c.args.tasks.now) v) (Some (map reply_of c.new-done.result.items))) (sym fresh.4)
          (subst (λ (v : List Done). WireDid g.W.Wire.counts_alone see see c.args.endpoints.now [] (Some (map reply_of v))) none (did_nothing g.W.Wire.counts_alone see c.args.endpoints.now));
      all =
          subst (λ (v : List ℕ). map number_of c.new-done.result.items ≡ below (length (map g.T.Task.job c.args.tasks.now)) v) (sym fresh.4)
          (subst (λ (v : List Done). map number_of v ≡ []) none refl);
    }

pub loop-preserved : goal.loop-preserved
loop-preserved g c =
    let i = c.loop.invariant in
    let jobs = (map g.T.Task.job c.args.tasks.now) in
    let n : ℕ = c.draw-number.result in
    let v : Drawn = c.loop.me.me.0 in
    let drawn = c.draw-number.ensures.drawn in
    let numbers : c.draw-number.new.me.me.0.numbers ≡ v.numbers ++ n ∷ [] = ap (λ (m : Drawn × List (ℕ × ℕ)). m.0.numbers) drawn in
    let parts : c.draw-number.new.me.me.0.parts ≡ v.parts = ap (λ (m : Drawn × List (ℕ × ℕ)). m.0.parts) drawn in
    let same_jobs : c.draw-number.new.me.me.0.jobs ≡ v.jobs = ap (λ (m : Drawn × List (ℕ × ℕ)). m.0.jobs) drawn in
    let past : c.draw-number.new.me.me.0.past ≡ cond {A = ℕ} (ltb n v.jobs) v.past (v.past + 1) = ap (λ (m : Drawn × List (ℕ × ℕ)). m.0.past) drawn in
    let lt : n < length c.args.tasks.now = search rules in
    let low : n < length jobs = subst (λ (m : ℕ). n < m) (sym (length-map c.args.tasks.now g.T.Task.job)) lt in
    let task = c.index-tasks-number.result in
    let at = read_made g.T.Task.job c.args.tasks.now n task lt c.index-tasks-number.is in
    let reply = c.in-Ok.reply in
    let items : c.push.new.self.items ≡ c.loop.done.items ++ record { number = n; reply = reply } ∷ [] = search rules in
    record {
      table = (c.draw-number.ensures.table ∙ i.table.0, i.table.1);
      same_table = c.draw-number.ensures.table ∙ i.same_table;
      seat = (
        ap (λ (m : Drawn × List (ℕ × ℕ)). m.1) drawn,
        parts ∙ i.seat.1,
        omega (arith, parts, i.seat.2),
        same_jobs ∙ i.seat.3,
        (let jobs_is = i.seat.3 in let none = i.seat.4 in grind (arith, nat_tests)),
      );
      did =
          did_more g.W.Wire.counts_alone (g.W.Wire.seen c.args.wire.now) (g.W.Wire.seen c.loop.wire) (g.W.Wire.seen c.perform.new.wire) c.args.endpoints.now jobs v.numbers c.draw-number.new.me.me.0.numbers n numbers (g.T.Task.job task) at
          c.loop.done.items c.push.new.self.items reply items i.did c.in-Ok.ensures;
      all =
          numbers_more g.W.Wire.counts_alone (g.W.Wire.seen c.args.wire.now) (g.W.Wire.seen c.loop.wire) (g.W.Wire.seen c.perform.new.wire) c.args.endpoints.now jobs v.numbers c.draw-number.new.me.me.0.numbers n numbers (g.T.Task.job task) at
          c.loop.done.items c.push.new.self.items reply items low i.all;
    }

pub returns-then-is_err-clause-worked : goal.returns-then-is_err-clause-worked
returns-then-is_err-clause-worked g c =
    let i = c.loop.invariant in
    let v : Drawn = c.loop.me.me.0 in
    let drawn = c.draw-number.ensures.drawn in
    let seat = drew c.loop.me.me c.draw-number.new.me.me c.args.me.now.me c.draw-number.result (length (map g.T.Task.job c.args.tasks.now)) drawn i.seat c.requires.fresh in
    let task = c.index-tasks-number.result in
    let at = read_made g.T.Task.job c.args.tasks.now c.draw-number.result task (search rules) c.index-tasks-number.is in
    record {
      seat = seat;
      did =
          lost_at g.W.Wire.counts_alone (g.W.Wire.seen c.args.wire.now) (g.W.Wire.seen c.loop.wire) (g.W.Wire.seen c.perform.new.wire) c.args.endpoints.now (map g.T.Task.job c.args.tasks.now) v.numbers c.draw-number.new.me.me.0.numbers c.draw-number.result
          (ap (λ (m : Drawn × List (ℕ × ℕ)). m.0.numbers) drawn) (g.T.Task.job task) at (map reply_of c.loop.done.items) i.did c.in-Ok.reply c.in-Ok.ensures;
      all = tt;
    }

pub returns-in-Err-clause-worked : goal.returns-in-Err-clause-worked
returns-in-Err-clause-worked g c =
    let i = c.loop.invariant in
    let v : Drawn = c.loop.me.me.0 in
    let drawn = c.draw-number.ensures.drawn in
    let seat = drew c.loop.me.me c.draw-number.new.me.me c.args.me.now.me c.draw-number.result (length (map g.T.Task.job c.args.tasks.now)) drawn i.seat c.requires.fresh in
    let task = c.index-tasks-number.result in
    let at = read_made g.T.Task.job c.args.tasks.now c.draw-number.result task (search rules) c.index-tasks-number.is in
    record {
      seat = seat;
      did =
          ended_at g.W.Wire.counts_alone (g.W.Wire.seen c.args.wire.now) (g.W.Wire.seen c.loop.wire) (g.W.Wire.seen c.perform.new.wire) c.args.endpoints.now (map g.T.Task.job c.args.tasks.now) v.numbers c.draw-number.new.me.me.0.numbers c.draw-number.result
          (ap (λ (m : Drawn × List (ℕ × ℕ)). m.0.numbers) drawn) (g.T.Task.job task) at (map reply_of c.loop.done.items) i.did c.in-Err.ensures;
      all = tt;
    }

pub perform-requires-clause-within : goal.perform-requires-clause-within
perform-requires-clause-within g c =
    let task = c.index-tasks-number.result in
    let at = read_made g.T.Task.job c.args.tasks.now c.draw-number.result task (search rules) c.index-tasks-number.is in
    held_at (λ (j : Job). j.at < length c.args.endpoints.now) (map g.T.Task.job c.args.tasks.now) c.draw-number.result (g.T.Task.job task) (recursion_from_All (λ (j : Job). j.at < length c.args.endpoints.now) (map g.T.Task.job c.args.tasks.now) c.requires.within) at

pub returns-clause-worked : goal.returns-clause-worked
returns-clause-worked g c =
    let i = c.loop.invariant in
    let jobs = map g.T.Task.job c.args.tasks.now in
    elim c.match-next.branch [
      | in-None w ↦ absurd (true≢false (sym (subst IsSome w.in-None.is c.next.ensures.steps)))
      | in-Some+then-number-tasks w ↦
          (let high : length c.args.tasks.now ≤ w.draw-number.result = search rules in
          let drawn = ap (λ m. m.me) w.me-is ∙ w.draw-number.ensures.drawn in
          finished g.W.Wire.counts_alone (g.W.Wire.seen c.args.wire.now) (g.W.Wire.seen c.loop.wire) c.args.endpoints.now jobs c.args.me.now.me c.loop.me.me c.match-next.me.me w.draw-number.result
          drawn c.requires.fresh i.seat (subst (λ (m : ℕ). m ≤ w.draw-number.result) (sym (length-map c.args.tasks.now g.T.Task.job)) high) c.loop.done i.did i.all)
    ]
