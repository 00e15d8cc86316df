use Rattle.std.proofs.Common.{◌∙◌, ap, Some, sym}
use Rattle.fx_turtle.specs.Grammar.{iri_name, is_iri_name, as_turtle, named_by}
use Rattle.fx_turtle.proofs.Leaves.{refused_as, one_ends, one_some, one_none}
use Rattle.fx_turtle.proofs.names.iri_name.Goals as goal

pub returns-in_default : goal.returns-in_default
unfolding iri_name
returns-in_default c = refused_as _ _ _ _ c.refuse.ensures (one_ends is_iri_name (λ s. as_turtle (named_by c.args.prefixes.now s)) _ c.in_default.ensures)

pub returns-in-Some-Ok : goal.returns-in-Some-Ok
unfolding iri_name
returns-in-Some-Ok c = one_some is_iri_name (λ s. as_turtle (named_by c.args.prefixes.now s)) _ _ _ c.in-Some.ensures _ (ap Some (sym c.in-Some-Ok.field-0-is) ∙ sym c.in-Some-Ok.is ∙ c.in_ok-iri.ensures)

pub returns-in-Some-Err : goal.returns-in-Some-Err
unfolding iri_name
returns-in-Some-Err c =
    refused_as _ _ _ _ c.refuse-in-Some-Err.ensures (one_some is_iri_name (λ s. as_turtle (named_by c.args.prefixes.now s)) _ _ _ c.in-Some.ensures _ (ap Some (sym c.in-Some-Err.field-0-is) ∙ sym c.in-Some-Err.is ∙ c.in_ok-iri.ensures))

pub returns-in-None : goal.returns-in-None
unfolding iri_name
returns-in-None c = refused_as _ _ _ _ c.refuse-in-None.ensures (one_none is_iri_name (λ s. as_turtle (named_by c.args.prefixes.now s)) _ _ _ c.in-Some.ensures (sym c.in-None.is ∙ c.in_ok-iri.ensures))
