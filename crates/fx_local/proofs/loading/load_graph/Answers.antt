use Rattle.fx_local.specs.Files.{file_read}
use Rattle.fx_local.proofs.CountLemmas.{text_counts}
use Rattle.fx_local.proofs.LoadLemmas.{graph_given}
use Rattle.fx_local.proofs.loading.load_graph.Goals as goal

pub returns-in-Ok-clause-outcome : goal.returns-in-Ok-clause-outcome
returns-in-Ok-clause-outcome g c =
    graph_given (file_read (g.F.Files.seen c.args.files.now) (g.F.Files.seen c.load.new.files) c.args.name.now) _ _ _ c.in-Ok.ensures.outcome c.as_slice.ensures.value c.graph_of.ensures

pub returns-in-Ok-clause-counted : goal.returns-in-Ok-clause-counted
returns-in-Ok-clause-counted g c = text_counts _ _ _ _ _ c.graph_of.ensures c.in-Ok.ensures.counted
