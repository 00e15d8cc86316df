-- The rows of a group while it is gone through, where some that the group's filters refuse are gone already: a filter whose variables a row
-- binds says the same of the row whatever is added to it, so what it refuses once it would refuse at the end.
use Rattle.std.specs.Prelude.{◌≡◌, ℕ, false, List, ◌++◌, is_some, All, IsTrue, IsPermutation, Contains}
use Rattle.fx_terms.specs.declared.triples.Triple.{Triple}
use Rattle.fx_terms.specs.declared.patterns.Pattern.{Pattern}
use Rattle.fx_algebra.specs.BasicGraphPatterns.{bgp}
use Rattle.fx_algebra.specs.Conditions.{is_so}
use Rattle.fx_algebra.specs.Groups.{Part, operator, Operator, Meaning, element_meaning, group_meaning, after}
use Rattle.fx_algebra.specs.Operators.{filtered, join, left_join}
use Rattle.fx_algebra.specs.Solutions.{Bindings, term_of}
use Rattle.fx_algebra.specs.Units.{expr_names}
use Rattle.fx_algebra.specs.declared.expressions.Expr.{Expr}
use Rattle.fx_algebra.specs.declared.queries.Element.{Element, Element-F, fold-Element}
use Rattle.fx_algebra.specs.declared.queries.Group.{Group}
use Rattle.fx_steps.specs.Groups.{ComesOut, IsRunOut, steps_in}

-- one of these filters has all its variables bound by a row, and doesn't hold of it
pub record IsGone (conditions : List Expr) (s : Bindings) : Type 0 where
  pub refusing : Expr
  pub own : Contains conditions refusing
  pub bound : All (λ name. IsTrue (is_some (term_of s name))) (expr_names refusing)
  pub fails : is_so s refusing ≡ false

-- what was found is the rows without some that are gone
pub record AreFewer (conditions : List Expr) (found rows : List Bindings) : Type 0 where
  pub gone : List Bindings
  pub rows_are : IsPermutation (found ++ gone) rows
  pub are_gone : All (IsGone conditions) gone

-- ---- laws

-- none need be gone
abbrev pub NoneIsGone : Type 0
NoneIsGone = (conditions : List Expr) (found rows : List Bindings) → IsPermutation found rows → AreFewer conditions found rows

-- the order is free on both sides
abbrev pub FewerInAnyOrder : Type 0
FewerInAnyOrder = (conditions : List Expr) (found others rows more : List Bindings) → IsPermutation found others → IsPermutation rows more → AreFewer conditions found rows → AreFewer conditions others more

-- some may go in turn
abbrev pub FewerInTurn : Type 0
FewerInTurn = (conditions : List Expr) (found between rows : List Bindings) → AreFewer conditions found between → AreFewer conditions between rows → AreFewer conditions found rows

-- behind a run that some of the filters were applied to
abbrev pub FewerBehindARun : Type 0
FewerBehindARun = (conditions : List Expr) (graph : List Triple) (ps : List Pattern) (found rows next : List Bindings)
    → AreFewer conditions found rows
    → IsRunOut conditions graph found ps next
    → AreFewer conditions next (join rows (bgp graph ps))

-- behind an operator: of an element whose groups have been gone through, and of any element
abbrev pub FewerBehindALayer : Type 0
FewerBehindALayer = (conditions : List Expr) (graphs : List ℕ → List Triple) (down : List ℕ) (layer : Element-F Part Meaning) (o : Operator)
    → element_meaning graphs down layer ≡ operator o
    → (graph : List Triple) (number : ℕ) (found rows next : List Bindings)
    → AreFewer conditions found rows
    → IsPermutation next (o.rows graph number found)
    → AreFewer conditions next (o.rows graph number rows)

abbrev pub FewerBehindAnOperator : Type 0
FewerBehindAnOperator = (conditions : List Expr) (graphs : List ℕ → List Triple) (down : List ℕ) (e : Element) (o : Operator)
    → fold-Element Part Meaning (element_meaning graphs down) group_meaning e ≡ operator o
    → (graph : List Triple) (number : ℕ) (found rows next : List Bindings)
    → AreFewer conditions found rows
    → IsPermutation next (o.rows graph number found)
    → AreFewer conditions next (o.rows graph number rows)

-- behind all steps of a group
abbrev pub FewerBehindTheSteps : Type 0
FewerBehindTheSteps = (g : Group) (graphs : List ℕ → List Triple) (down : List ℕ) (conditions : List Expr) (graph : List Triple) (number : ℕ) (found rows last : List Bindings)
    → AreFewer conditions found rows
    → ComesOut conditions graph number found (steps_in graphs down g) last
    → AreFewer conditions last (after graph number rows (steps_in graphs down g))

-- where the filters are applied, the same rows are left
abbrev pub FewerAtTheEnd : Type 0
FewerAtTheEnd = (conditions : List Expr) (found rows : List Bindings) → AreFewer conditions found rows → IsPermutation (filtered conditions found) (filtered conditions rows)

-- on the right of a left join the filters of its group are its conditions, so the same rows come of it
abbrev pub FewerOnTheRight : Type 0
FewerOnTheRight = (conditions : List Expr) (left found rows : List Bindings) → AreFewer conditions found rows → IsPermutation (left_join left found conditions) (left_join left rows conditions)

pub record FewerLaws : Type 0 where
  pub none : NoneIsGone
  pub any_order : FewerInAnyOrder
  pub in_turn : FewerInTurn
  pub run : FewerBehindARun
  pub layer : FewerBehindALayer
  pub operator : FewerBehindAnOperator
  pub steps : FewerBehindTheSteps
  pub at_the_end : FewerAtTheEnd
  pub on_the_right : FewerOnTheRight
