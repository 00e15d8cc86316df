use Rattle.std.proofs.Common.{◌∙◌, ap}
use Rattle.fx_bound.specs.Parts.{branches_of}
use Rattle.fx_bound.proofs.SentLemmas.{columns_sent_are}
use Rattle.fx_bound.proofs.batches.Batch.branches.Goals as goal

pub returns-clause-columns : goal.returns-clause-columns
returns-clause-columns c = columns_sent_are c.args.self.now c.as_slice.result.now (c.as_slice.ensures ∙ c.self.invariant.branches_are ∙ ap branches_of c.self.view_is)
