-- A condition that says which IRI a variable is.
use Rattle.std.specs.Prelude.{◌≡◌, ◌⊎◌, ℕ, true, List, [], ◌∷◌, ◌++◌, Some}
use Rattle.fx_terms.specs.declared.patterns.Pattern.{Pattern}
use Rattle.fx_terms.specs.declared.terms.Term.TheVariants.{Iri}
use Rattle.fx_terms.specs.declared.triples.Triple.{Triple}
use Rattle.fx_algebra.specs.Conditions.{is_so}
use Rattle.fx_algebra.specs.Evaluation.{rows_from}
use Rattle.fx_algebra.specs.Solutions.{Bindings, term_of}
use Rattle.fx_algebra.specs.Units.{expr_names}
use Rattle.fx_algebra.specs.declared.expressions.Compare.TheVariants as compare
use Rattle.fx_algebra.specs.declared.expressions.Expr.{Expr}
use Rattle.fx_algebra.specs.declared.expressions.Expr.TheVariants.{Variable, Constant, Compare as Compares}
use Rattle.fx_steps.specs.Fewer.{AreFewer}

-- it holds only where its one variable is the IRI
pub record IsKnown (condition : Expr) (name iri : List ℕ) : Type 0 where
  pub names : expr_names condition ≡ name ∷ []
  pub says : (s : Bindings) → is_so s condition ≡ true → term_of s name ≡ Some (Iri iri)

-- over each graph the patterns give of the one rows what they give of the others, without some that conditions refuse
pub record ComeToFewer (conditions : List Expr) (patterns : List Pattern) (known rows : List Bindings) : Type 0 where
  pub same : (graph : List Triple) → AreFewer conditions (rows_from graph known patterns) (rows_from graph rows patterns)

-- it says that the variable is the IRI
abbrev pub IsSaying : Expr → List ℕ → List ℕ → Type 0
IsSaying e name iri = e ≡ Compares compare.Equal (Variable name) (Constant (Iri iri))

-- it says of a variable that it is the IRI to which a row binds it
pub record IsSaidBy (row : Bindings) (condition : Expr) : Type 0 where
  pub name : List ℕ
  pub iri : List ℕ
  pub says : IsSaying condition name iri
  pub bound : term_of row name ≡ Some (Iri iri)

-- the conditions are those before, and perhaps one more that the row says
abbrev pub AreMoreKnown : Bindings → List Expr → List Expr → Type 0
AreMoreKnown row before known = (known ≡ before) ⊎ ((e : Expr) × IsSaidBy row e × (known ≡ before ++ e ∷ []))
