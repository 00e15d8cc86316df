use Rattle.std.proofs.Common.{◌≡◌, Option, Some, None, Ok, option_map, ap, sym}
use Rattle.std.specs.Option.{ok_or}
use Rattle.serde_json.specs.View.{view}
use Rattle.fx_terms.specs.Literals.{LiteralParts}
use Rattle.fx_terms.specs.declared.terms.Term.TheVariants as term
use Rattle.fx_results.specs.Reading as spec
use Rattle.fx_results.specs.declared.faults.ResultsError.TheVariants as error
use Rattle.fx_results.proofs.values.typed_term.Goals as goal

-- what stands in a term stands there where it was to be read
in_term : (wanted : Option LiteralParts) (literal : LiteralParts) → ok_or wanted error.BadTerm ≡ Ok literal → ok_or (option_map term.Literal wanted) error.BadTerm ≡ Ok (term.Literal literal)
in_term (Some other) literal h = let same : other ≡ literal = cc in ap (λ l. Ok (term.Literal l)) same
in_term None literal h = absurd (cc)

pub returns : goal.returns
returns c = in_term (spec.typed_in (view c.args.value.now)) c.in_ok-typed_in.field-0 c.in_ok-typed_in.ensures
