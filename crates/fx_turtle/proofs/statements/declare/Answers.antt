use Rattle.std.proofs.Common.{◌∙◌, List, ℕ, refl, sym, ap, Some, if◌then◌else◌}
use Rattle.std.specs.Str.{bytes_eq}
use Rattle.fx_grammar.specs.Grammar.{declared}
use Rattle.fx_turtle.specs.Grammar.{declares}
use Rattle.fx_turtle.proofs.Keeping.{declared_last}
use Rattle.fx_turtle.proofs.statements.declare.Goals as goal

pub returns : goal.returns
returns c = (
  declares c.in_ok-prefix.prefix c.in_ok-prefix.iri,
  c.in_ok-prefix.ensures,
  (λ q.
      c.in_ok-declare.ensures q ∙ ap (λ (p : List ℕ). if bytes_eq p q then Some c.in_ok-prefix.iri else declared c.args.prefixes.now q) c.as_str.ensures
      ∙ sym (declared_last c.args.prefixes.now c.in_ok-prefix.prefix c.in_ok-prefix.iri q)),
  refl,
)
