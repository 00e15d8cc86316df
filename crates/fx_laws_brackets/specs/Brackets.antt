-- The brackets of a printed filter.
use Rattle.std.specs.Prelude.{◌≡◌}
use Rattle.fx_algebra.specs.Measures.{condition_nest, measured}
use Rattle.fx_algebra.specs.Printed.{element_words}
use Rattle.fx_algebra.specs.declared.expressions.Expr.{Expr}
use Rattle.fx_algebra.specs.declared.queries.Element.TheVariants as element
use Rattle.fx_spelling.specs.Printable.{deepest}

-- from the first to the last word of the printed element at most so many brackets are open at once, and somewhere so many
abbrev pub FiltersOpenTheirBrackets : Type 0
FiltersOpenTheirBrackets = (e : Expr) → deepest 0 (element_words (element.Filter e)) ≡ condition_nest (measured e)
