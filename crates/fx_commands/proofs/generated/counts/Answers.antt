use Rattle.std.proofs.Common.{◌≡◌, ◌∙◌, List, ap, length, rules, vec_len}
use Rattle.fx_terms.specs.Graphs.{graph_of}
use Rattle.fx_terms.specs.declared.triples.Triple.{Triple}
use Rattle.fx_commands.specs.GeneratorSteps.{graphs_of}
use Rattle.fx_commands.proofs.GeneratorLemmas.{all_counted}
use Rattle.fx_commands.proofs.generated.counts.Goals as goal

pub returns : goal.returns
returns c =
    let many : vec_len c.in_ok-all.all ≡ length c.in_ok-all.all.items = search rules in (
      c.len-held.ensures ∙ many ∙ ap length c.in_ok-all.ensures ∙ all_counted (graphs_of c.args.members.now),
      ap length c.triples.ensures.all ∙ ap length c.in_ok-united.ensures.exact ∙ ap (λ (all : List Triple). length (graph_of all)) c.in_ok-all.ensures,
    )
