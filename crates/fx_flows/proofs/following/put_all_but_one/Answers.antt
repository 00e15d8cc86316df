use Rattle.std.proofs.Common.{rules}
use Rattle.fx_flows.proofs.PutLemmas.{put_but_one}
use Rattle.fx_flows.proofs.following.put_all_but_one.Goals as goal

pub returns-in_err-put_all-clause-put : goal.returns-in_err-put_all-clause-put
returns-in_err-put_all-clause-put g c =
    put_but_one c.args.me.now.me.view.client c.put_all.new.me.me.view.client c.args.shape c.args.step c.args.batches.items c.pop.new.self.items c.in-Some.rows c.from_residual.result
    (search rules) c.in_err-put_all.ensures.put.lost c.in_err-put_all.ensures.put.put c.in_err-put_all.ensures.put.took (search rules)
