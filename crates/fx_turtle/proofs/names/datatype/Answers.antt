use Rattle.std.proofs.Common.{◌∙◌, sym}
use Rattle.std.proofs.lemmas.Result.{err_from_is_err_and}
use Rattle.fx_turtle.proofs.Leaves.{refused_as, hands_on, datatype_fails, datatype_bad, datatype_good}
use Rattle.fx_turtle.proofs.names.datatype.Goals as goal

pub returns-in_err-iri-clause-reads : goal.returns-in_err-iri-clause-reads
returns-in_err-iri-clause-reads c =
    let p = err_from_is_err_and c.from_residual.result c.from_residual.ensures.1 in
    rw (p.1, p.2) (hands_on _ _ _ c.in_err-iri.ensures (λ r e. datatype_fails c.args.prefixes.now _ r e))

pub returns-then-is_lang_string-clause-reads : goal.returns-then-is_lang_string-clause-reads
returns-then-is_lang_string-clause-reads c = refused_as _ _ _ _ c.refuse.ensures (datatype_bad c.args.prefixes.now _ _ _ c.in_ok-iri.ensures (sym c.is_lang_string.ensures ∙ c.if-is_lang_string.true))

pub returns-else-is_lang_string-clause-reads : goal.returns-else-is_lang_string-clause-reads
returns-else-is_lang_string-clause-reads c = datatype_good c.args.prefixes.now _ _ _ c.in_ok-iri.ensures (sym c.is_lang_string.ensures ∙ c.if-is_lang_string.false)
