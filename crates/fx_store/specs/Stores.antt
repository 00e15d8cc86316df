-- A pattern as a run of its own.
use Rattle.std.specs.Prelude.{List, [], ◌∷◌}
use Rattle.fx_terms.specs.declared.patterns.Pattern.{Pattern}

abbrev pub alone : Pattern → List Pattern
alone p = p ∷ []
