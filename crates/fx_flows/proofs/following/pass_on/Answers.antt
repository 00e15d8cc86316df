use Rattle.std.proofs.Common.{rules}
use Rattle.fx_flows.proofs.PutLemmas.{behind_the_last}
use Rattle.fx_flows.proofs.following.pass_on.Goals as goal

pub returns-then-step-shape-clause-passed : goal.returns-then-step-shape-clause-passed
returns-then-step-shape-clause-passed g c =
    behind_the_last c.args.shape c.args.at c.args.me.now.me.view.client c.args.found.items c.args.made.now.items c.append.new.self.items c.requires.shape.2 (search rules) (search rules)
