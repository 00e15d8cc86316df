-- One branch of a batch: the patterns and the filters of a unit, with a row's terms in the places of the variables that the row binds, and
-- another name for each other variable. (FedX: bound joins.)
use Rattle.std.specs.Prelude.{◌≡◌, ℕ, Bool, true, false, ◌||◌, List, [], ◌∷◌, map, Option, Some, None, All, IsTrue}
use Rattle.std.specs.List.{list_any}
use Rattle.fx_terms.specs.declared.terms.Term.{Term}
use Rattle.fx_terms.specs.declared.terms.Term.TheVariants.{Iri, Literal}
use Rattle.fx_terms.specs.declared.triples.Triple.{Triple}
use Rattle.fx_terms.specs.declared.patterns.Pattern.{Pattern}
use Rattle.fx_terms.specs.declared.patterns.PatternTerm.{PatternTerm}
use Rattle.fx_terms.specs.declared.patterns.PatternTerm.TheVariants.{Variable, Constant}
use Rattle.fx_algebra.specs.BasicGraphPatterns.{bgp, variables}
use Rattle.fx_algebra.specs.Measures.{Measured, condition_nest, measured}
use Rattle.fx_algebra.specs.Operators.{filtered, merges, with_value}
use Rattle.fx_algebra.specs.Printed.{Word, fixed, variable, term, number, condition, printed}
use Rattle.fx_algebra.specs.Scopes.{is_among}
use Rattle.fx_algebra.specs.Solutions.{Bindings, rises, term_of}
use Rattle.fx_algebra.specs.Units.{calls_bound, is_covered}
use Rattle.fx_algebra.specs.declared.expressions.Expr.{Expr, Expr-F, fold-Expr, roll-Expr}

-- ---- a row's terms in their places

-- a variable by the row's term, or under its other name
abbrev pub part_by : (List ℕ → List ℕ) → List ℕ → Option Term → PatternTerm
part_by rename name (Some t) = Constant t
part_by rename name None = Variable (rename name)

abbrev pub bound_part : (List ℕ → List ℕ) → Bindings → PatternTerm → PatternTerm
bound_part rename row (Constant t) = Constant t
bound_part rename row (Variable name) = part_by rename name (term_of row name)

abbrev pub bound_pattern : (List ℕ → List ℕ) → Bindings → Pattern → Pattern
bound_pattern rename row p = record { subject = bound_part rename row p.subject; predicate = bound_part rename row p.predicate; object = bound_part rename row p.object }

abbrev pub expr_by : (List ℕ → List ℕ) → List ℕ → Option Term → Expr
expr_by rename name (Some t) = roll-Expr (Expr-F.Constant t)
expr_by rename name None = roll-Expr (Expr-F.Variable (rename name))

-- one level of an expression, with what each part becomes in its place
abbrev pub bound_step : (List ℕ → List ℕ) → Bindings → Expr-F Expr → Expr
bound_step rename row (Expr-F.Variable name) = expr_by rename name (term_of row name)
bound_step rename row (Expr-F.Constant t) = roll-Expr (Expr-F.Constant t)
bound_step rename row (Expr-F.Or parts) = roll-Expr (Expr-F.Or parts)
bound_step rename row (Expr-F.And parts) = roll-Expr (Expr-F.And parts)
bound_step rename row (Expr-F.Not part) = roll-Expr (Expr-F.Not part)
bound_step rename row (Expr-F.Positive part) = roll-Expr (Expr-F.Positive part)
bound_step rename row (Expr-F.Negative part) = roll-Expr (Expr-F.Negative part)
bound_step rename row (Expr-F.Compare op left right) = roll-Expr (Expr-F.Compare op left right)
bound_step rename row (Expr-F.Among negated item list) = roll-Expr (Expr-F.Among negated item list)
bound_step rename row (Expr-F.Sum first rest) = roll-Expr (Expr-F.Sum first rest)
bound_step rename row (Expr-F.Product parts) = roll-Expr (Expr-F.Product parts)
bound_step rename row (Expr-F.Call f args) = roll-Expr (Expr-F.Call f args)

abbrev pub bound_expr : (List ℕ → List ℕ) → Bindings → Expr → Expr
bound_expr rename row = fold-Expr Expr (bound_step rename row)

-- ---- words

abbrev pub word_by : (List ℕ → List ℕ) → List ℕ → Option Term → Word
word_by rename name (Some t) = term t
word_by rename name None = variable (rename name)

-- a word with a row's terms in it
abbrev pub bound_word : (List ℕ → List ℕ) → Bindings → Word → Word
bound_word rename row (variable name) = word_by rename name (term_of row name)
bound_word rename row (fixed text) = fixed text
bound_word rename row (term t) = term t
bound_word rename row (number n) = number n

-- ---- what is told

-- a row with the terms that a solution has under the other names of variables, where the row has none
abbrev pub told : (List ℕ → List ℕ) → List (List ℕ) → Bindings → Bindings → Bindings
told rename [] row t = row
told rename (name ∷ names) row t = told rename names (with_value row name (term_of t (rename name))) t

-- ---- branches that are left out

abbrev pub is_literal : PatternTerm → Bool
is_literal (Constant (Literal l)) = true
is_literal (Constant (Iri a)) = false
is_literal (Variable name) = false

-- a literal stands as the subject or as the predicate of one of the patterns
abbrev pub is_hopeless : List Pattern → Bool
is_hopeless ps = list_any (λ p. is_literal p.subject || is_literal p.predicate) ps

-- ---- laws

-- no two of the names have one other name
abbrev pub TellsApart : (List ℕ → List ℕ) → List (List ℕ) → Type 0
TellsApart rename names = (m n : List ℕ) → is_among names m ≡ true → is_among names n ≡ true → rename m ≡ rename n → m ≡ n

-- The solutions of a branch over a graph tell what the row merges to with each solution of the unit's patterns that it agrees with and on
-- which the unit's filters hold, in their order.
abbrev pub BranchTellsItsRow : Type 0
BranchTellsItsRow = (graph : List Triple) (ps : List Pattern) (es : List Expr) (row : Bindings) (rename : List ℕ → List ℕ)
    → IsTrue (rises row)
    → TellsApart rename (variables ps)
    → All (λ e. is_covered ps e ≡ true) es
    → map (told rename (variables ps) row) (filtered (map (bound_expr rename row) es) (bgp graph (map (bound_pattern rename row) ps))) ≡ filtered es (merges (bgp graph ps) row)

-- a row's terms open no bracket in an expression without BOUND, and the grammar has it as before
pub record IsOfOneMeasure (m n : Measured) : Type 0 where
  pub good : m.good ≡ n.good
  pub nest : condition_nest m ≡ condition_nest n

abbrev pub BoundKeepsTheMeasure : Type 0
BoundKeepsTheMeasure = (rename : List ℕ → List ℕ) (row : Bindings) (e : Expr) → calls_bound e ≡ false → IsOfOneMeasure (measured (bound_expr rename row e)) (measured e)

-- as a condition it is printed in the words that it had, with a term or another name in the place of each variable
abbrev pub BoundHasTheWords : Type 0
BoundHasTheWords = (rename : List ℕ → List ℕ) (row : Bindings) (e : Expr) → condition (printed (bound_expr rename row e)) ≡ map (bound_word rename row) (condition (printed e))

-- where a literal comes to stand as a subject or a predicate, there is nothing to tell: so such a branch may be left out
abbrev pub HopelessBranchHasNone : Type 0
HopelessBranchHasNone = (graph : List Triple) (ps : List Pattern) (es : List Expr) (row : Bindings) (rename : List ℕ → List ℕ)
    → IsTrue (rises row)
    → TellsApart rename (variables ps)
    → All (λ e. is_covered ps e ≡ true) es
    → is_hopeless (map (bound_pattern rename row) ps) ≡ true
    → filtered es (merges (bgp graph ps) row) ≡ []
