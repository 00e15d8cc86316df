use Rattle.fx_pool.specs.Runs.{all_replies}
use Rattle.fx_pool.proofs.WireLemmas.{first_did}
use Rattle.fx_alone.proofs.jobs.do_jobs.Goals as goal

pub returns : goal.returns
returns g c =
    first_did g.W.Wire.seen g.W.Wire.tells_log g.W.Wire.counts_alone c.args.wires.now c.index-wires-0.result c.do_all.new.wire c.args.endpoints.now c.args.jobs.now (all_replies c.do_all.result) g.met.W.Wire.told c.requires.wired c.do_all.ensures
