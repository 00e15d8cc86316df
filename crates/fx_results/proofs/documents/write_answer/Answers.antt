use Rattle.std.proofs.Common.{sym, subst, Result, Ok, Err, List, ℕ, All, OnOk}
use Rattle.fx_terms.specs.Names.{IsName}
use Rattle.fx_algebra.specs.Solutions.{Bindings}
use Rattle.fx_algebra.specs.declared.answers.Answer.TheVariants.{Table}
use Rattle.fx_results.specs.KnownAnswers.{IsKnown, IsKnownRow}
use Rattle.fx_results.proofs.documents.write_answer.Goals as goal

both_known : {X E : Type 0} (r : Result X E) (names : List (List ℕ)) (rows : List Bindings) → OnOk r (All IsName names) → OnOk r (All IsKnownRow rows) → OnOk r (IsKnown (Table names rows))
both_known (Ok x) names rows h k = (h, k)
both_known (Err e) names rows h k = tt

pub returns-in-Table-clause-known : goal.returns-in-Table-clause-known
returns-in-Table-clause-known c =
    let r = c.write_table.result in
    subst (λ a. OnOk r (IsKnown a)) (sym c.in-Table.is)
    (both_known r c.in-Table.columns c.in-Table.rows
    (subst (λ names. OnOk r (All IsName names)) c.as_slice.ensures c.write_table.ensures.names)
    (subst (λ rows. OnOk r (All IsKnownRow rows)) c.as_slice-in-Table.ensures c.write_table.ensures.rows))
