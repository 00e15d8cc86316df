use Rattle.std.proofs.Common.{◌≡◌, [], ◌∷◌, ◌++◌, All, List, rules}
use Rattle.std.specs.Prelude.{Contains}
use Rattle.std.proofs.lemmas.List.Elements.{All-push, All-same}
use Rattle.fx_bound.specs.Answers.{numbers}
use Rattle.fx_founds.specs.declared.founds.Found.{Found}
use Rattle.fx_bound_cases.proofs.batches.lists_of.Goals as goal

pub loop-answer-preserved : goal.loop-answer-preserved
loop-answer-preserved c =
    let P : List Found → Type 0 = λ (list : List Found). All (λ (f : Found). Contains (numbers c.args.batch.now) f.branch) list in
    let lists = c.loop-answer.lists.items in
    let list = c.in_ok-list_of.field-0 in
    let more : c.push.new.self.items ≡ lists ++ list ∷ [] = search rules in
    All-same P c.push.new.self.items (lists ++ list ∷ []) more (All-push P lists list c.loop-answer.invariant c.in_ok-list_of.ensures)
