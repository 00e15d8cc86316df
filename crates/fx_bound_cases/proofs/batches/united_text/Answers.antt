use Rattle.std.proofs.Common.{All, List}
use Rattle.std.specs.Prelude.{Contains}
use Rattle.std.proofs.lemmas.List.Elements.{All-same}
use Rattle.fx_bound.specs.Answers.{numbers}
use Rattle.fx_founds.specs.declared.founds.Found.{Found}
use Rattle.fx_bound_cases.proofs.batches.united_text.Goals as goal

pub unite-requires : goal.unite-requires
unite-requires c =
    let P : List Found → Type 0 = λ (list : List Found). All (λ (f : Found). Contains (numbers c.args.batch.now) f.branch) list in
    All-same P c.as_slice.result.now c.in_ok-lists.lists.items c.as_slice.ensures.value c.in_ok-lists.ensures
