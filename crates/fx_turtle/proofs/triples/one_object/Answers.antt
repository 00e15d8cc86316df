use Rattle.std.proofs.Common.{List, ℕ, Ok, ◌∷◌, ◌++◌, [], sym, ap, ◌∙◌}
use Rattle.std.proofs.lemmas.Result.{err_from_is_err_and}
use Rattle.fx_terms.specs.declared.triples.Triple.{Triple}
use Rattle.fx_turtle.specs.Gives.{triple_of}
use Rattle.fx_turtle.specs.Sources.{left}
use Rattle.fx_turtle.proofs.Leaves.{hands_on}
use Rattle.fx_turtle.proofs.Loops.{added_ok, added_err}
use Rattle.fx_turtle.proofs.triples.one_object.Goals as goal

pub returns-in_err-object : goal.returns-in_err-object
returns-in_err-object c =
    let p = err_from_is_err_and c.from_residual.result c.from_residual.ensures.1 in
    rw (p.1, p.2) (hands_on _ _ _ c.in_err-object.ensures (λ r e. added_err _ (triple_of c.args.about.now.subject c.args.about.now.predicate) _ r e))

pub returns : goal.returns
returns c =
    added_ok c.args.triples.now.items (triple_of c.args.about.now.subject c.args.about.now.predicate) _ c.in_ok-object.object (left c.args.source.now c.in_ok-object.next) c.in_ok-object.ensures
    ∙ ap (λ (s : List ℕ). Ok (c.args.triples.now.items ++ record { subject = s; predicate = c.args.about.now.predicate; object = c.in_ok-object.object } ∷ [], left c.args.source.now c.in_ok-object.next)) (sym c.in_ok-copy.ensures)
    ∙ ap (λ (v : List ℕ). Ok (c.args.triples.now.items ++ record { subject = c.in_ok-copy.field-0; predicate = v; object = c.in_ok-object.object } ∷ [], left c.args.source.now c.in_ok-object.next)) (sym c.in_ok-copy-2.ensures)
    ∙ ap (λ (ts : List Triple). Ok (ts, left c.args.source.now c.in_ok-object.next)) (sym c.in_ok-push.ensures.items)
