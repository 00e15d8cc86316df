use Rattle.std.proofs.Common.{◌∙◌, ap, Some, sym}
use Rattle.fx_turtle.specs.Grammar.{iri_name, is_iri_name, as_turtle, named_by}
use Rattle.fx_turtle.proofs.Leaves.{refused_as, opt_some, opt_none}
use Rattle.fx_turtle.proofs.names.opt_name.Goals as goal

pub returns-in-Some-Ok : goal.returns-in-Some-Ok
unfolding iri_name
returns-in-Some-Ok c = opt_some is_iri_name (λ s. as_turtle (named_by c.args.prefixes.now s)) _ _ _ c.in-Some.ensures _ (ap Some (sym c.in-Some-Ok.field-0-is) ∙ sym c.in-Some-Ok.is ∙ c.in_ok-iri.ensures)

pub returns-in-Some-Err : goal.returns-in-Some-Err
unfolding iri_name
returns-in-Some-Err c =
    refused_as _ _ _ _ c.refuse.ensures (opt_some is_iri_name (λ s. as_turtle (named_by c.args.prefixes.now s)) _ _ _ c.in-Some.ensures _ (ap Some (sym c.in-Some-Err.field-0-is) ∙ sym c.in-Some-Err.is ∙ c.in_ok-iri.ensures))

pub returns-in-None : goal.returns-in-None
unfolding iri_name
returns-in-None c = opt_none is_iri_name (λ s. as_turtle (named_by c.args.prefixes.now s)) _ _ _ c.in-Some.ensures (sym c.in-None.is ∙ c.in_ok-iri.ensures)
