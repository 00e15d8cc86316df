use Rattle.std.proofs.Common.{◌≡◌, ◌∙◌, ap, sym, subst, true, []}
use Rattle.std.specs.Prelude.{IfOk}
use Rattle.fx_algebra.specs.Answers.{no_graphs}
use Rattle.fx_algebra.specs.declared.answers.Answer.{Answer}
use Rattle.fx_results.specs.Documents.{document}
use Rattle.fx_results.specs.Meanings.{binds_columns}
use Rattle.fx_member.specs.Served.{Told, told, query_told, IsLaidOut}
use Rattle.fx_member.proofs.AnswerLemmas.{spelled_answer}
use Rattle.fx_member.proofs.HonestLemmas.{answered, without_service}
use Rattle.fx_member.proofs.serving.query_reply.Goals as goal

pub returns-in-Ok-clause-told : goal.returns-in-Ok-clause-told
returns-in-Ok-clause-told c =
    let q = c.args.query.now in
    let graph = c.args.store.now in
    let same : told 200 (document c.in-Ok.answer) ≡ query_told q graph = ap (λ a. told 200 (document a)) (c.in-Ok.ensures.answer no_graphs) ∙ sym (without_service q graph c.in-Ok.ensures.whole) in
    subst (λ (t : Told). IfOk c.with_answer.result (λ reply. IsLaidOut t reply.status reply.bytes.items)) same c.with_answer.ensures.told

pub returns-in-Ok-clause-means : goal.returns-in-Ok-clause-means
returns-in-Ok-clause-means c =
    let binds : binds_columns c.in-Ok.answer ≡ true = subst (λ (a : Answer). binds_columns a ≡ true) (sym (c.in-Ok.ensures.answer no_graphs)) (spelled_answer c.args.query.now c.args.store.now no_graphs [] c.requires) in
    answered (λ reply. reply.bytes.items) c.with_answer.result c.args.store.now c.args.query.now c.in-Ok.answer (c.in-Ok.ensures.answer no_graphs) (c.with_answer.ensures.means binds)
