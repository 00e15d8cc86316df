use Rattle.std.proofs.Common.{arith, rules}
use Rattle.std.proofs.lemmas.Grind.{common_steps}
use Rattle.fx_flows.proofs.PutLemmas.{put_in_part}
use Rattle.fx_flows.proofs.following.put_all.Goals as goal

pub returns-then-is_err-clause-put : goal.returns-then-is_err-clause-put
returns-then-is_err-clause-put g c =
    let i = c.loop-rows.invariant in
    put_in_part c.args.me.now.me.view.client c.loop-rows.me.me.view.client c.put.new.me.me.view.client c.args.shape c.args.step c.args.batches.items
    c.loop-rows.yielded c.in-Some.rows c.next.new.self.rest.items (grind (arith, common_steps)) i.put i.took i.parts (search rules)
