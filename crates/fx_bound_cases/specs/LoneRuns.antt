-- Groups that hold triple patterns and filters alone, and one member that has all that they ask for.
use Rattle.std.specs.Prelude.{ℕ, List, [], ◌∷◌}
use Rattle.fx_terms.specs.declared.patterns.Pattern.{Pattern}
use Rattle.fx_algebra.specs.Answers.{no_graphs}
use Rattle.fx_algebra.specs.Groups.{Meaning, Part, pattern, condition, operator, element_meaning, group_meaning}
use Rattle.fx_algebra.specs.declared.expressions.Expr.{Expr}
use Rattle.fx_algebra.specs.declared.queries.Element.{Element, fold-Element}

-- what an element is to the group around it
abbrev pub part_of : Element → Part
part_of = fold-Element Part Meaning (element_meaning no_graphs []) group_meaning

abbrev pub part_patterns : Part → List Pattern
part_patterns (pattern p) = p ∷ []
part_patterns (condition e) = []
part_patterns (operator o) = []

abbrev pub part_filters : Part → List Expr
part_filters (pattern p) = []
part_filters (condition e) = e ∷ []
part_filters (operator o) = []

abbrev pub one_member : List ℕ
one_member = 0 ∷ []

abbrev pub member_of : Pattern → List ℕ
member_of p = one_member
