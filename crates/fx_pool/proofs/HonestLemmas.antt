-- The results of an honest reply are the answer over the graph.
use Rattle.std.proofs.Common.{◌≡◌, ◌∙◌, ap, sym, subst, Ok}
use Rattle.fx_algebra.specs.Answers.{answer_alone}
use Rattle.fx_algebra.specs.declared.answers.Answer.{Answer}
use Rattle.fx_http.proofs.ReplyLaws.{reply_unique}
use Rattle.fx_results.specs.Meanings.{SameAnswer}
use Rattle.fx_results.specs.Reading.{read_results}
use Rattle.fx_pool.specs.Laws.{HonestResults}

pub honest_results : HonestResults
honest_results graph request reply text q told honest posts short accepted alone read =
    let x = honest text q posts short accepted alone in
    let body : x.body ≡ read.body = reply_unique reply x.body read.body x.replied read.replied.1 in
    let same : Ok x.denotes.told ≡ Ok told = sym x.denotes.read ∙ ap read_results body ∙ read.read in
    let equal : x.denotes.told ≡ told = cc in
    subst (λ (v : Answer). SameAnswer v (answer_alone q graph)) equal x.denotes.same
