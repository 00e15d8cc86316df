use Rattle.std.proofs.Common.{List, subst}
use Rattle.std.proofs.lemmas.Result.{err_from_is_err_and}
use Rattle.fx_terms.specs.declared.triples.Triple.{Triple}
use Rattle.fx_turtle.specs.Gives.{Gives}
use Rattle.fx_turtle.specs.Rule.{Outcome}
use Rattle.fx_turtle.specs.Sources.{left}
use Rattle.fx_turtle.proofs.Leaves.{hands_on}
use Rattle.fx_turtle.proofs.TripleParts.{triples_same, triples_fail}
use Rattle.fx_turtle.proofs.triples.subject_triples.Goals as goal

pub returns-in_err-subject : goal.returns-in_err-subject
returns-in_err-subject c =
    let p = err_from_is_err_and c.from_residual.result c.from_residual.ensures.1 in
    rw (p.1, p.2) (hands_on _ _ _ c.in_err-subject.ensures (λ r e. triples_fail c.args.prefixes.now _ _ r e))

pub returns : goal.returns
returns c =
    subst (λ (o : Outcome (List Triple)). Gives (λ next. (c.properties.new.triples.items, left c.args.source.now next)) c.properties.result o)
    (triples_same c.args.prefixes.now (left c.args.source.now c.args.at) c.args.triples.now.items c.in_ok-subject.subject (left c.args.source.now c.in_ok-subject.next) c.in_ok-subject.ensures) c.properties.ensures
