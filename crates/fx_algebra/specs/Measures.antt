-- How many brackets a printed expression has open at once, and whether the grammar has it.
use Rattle.std.specs.Prelude.{ℕ, Bool, true, false, not, ◌&&◌, List, [], ◌∷◌, max, nat_le, if◌then◌else◌}
use Rattle.std.proofs.Common.{suc}
use Rattle.fx_algebra.specs.Printed.{Level, disjunction, conjunction, relation, sum, product, unary, named, constant, called, rank, is_call, is_variable}
use Rattle.fx_algebra.specs.declared.expressions.Expr.{Expr, Expr-F, fold-Expr}
use Rattle.fx_algebra.specs.declared.expressions.Sign.{Sign}
use Rattle.fx_algebra.specs.declared.expressions.Function.{Function}
use Rattle.fx_algebra.specs.declared.expressions.Function.TheVariants as function

-- The production of a printed expression, how many brackets are open in it at once, and whether the grammar has it at all.
pub record Measured : Type 0 where
  pub level : Level
  pub nest : ℕ
  pub good : Bool

-- how many are open in a place that reaches productions of a rank and above
unfoldable pub placed : ℕ → Measured → ℕ
placed place m = if nat_le place (rank m.level) then m.nest else suc m.nest

-- the most in parts that stand in such a place
abbrev pub most : ℕ → List Measured → ℕ
most place [] = 0
most place (m ∷ ms) = max (placed place m) (most place ms)

abbrev pub most_signed : List (Sign × Measured) → ℕ
most_signed [] = 0
most_signed (m ∷ ms) = max (placed 4 m.1) (most_signed ms)

abbrev pub all_good : List Measured → Bool
all_good [] = true
all_good (m ∷ ms) = m.good && all_good ms

abbrev pub all_signed_good : List (Sign × Measured) → Bool
all_signed_good [] = true
all_signed_good (m ∷ ms) = m.1.good && all_signed_good ms

abbrev pub is_some : {X : Type 0} → List X → Bool
is_some [] = false
is_some (x ∷ xs) = true

-- two or more
abbrev pub is_chain : {X : Type 0} → List X → Bool
is_chain [] = false
is_chain (x ∷ xs) = is_some xs

abbrev pub is_one : {X : Type 0} → List X → Bool
is_one [] = false
is_one (x ∷ xs) = not (is_some xs)

abbrev pub is_two : {X : Type 0} → List X → Bool
is_two [] = false
is_two (x ∷ xs) = is_one xs

abbrev pub is_three : {X : Type 0} → List X → Bool
is_three [] = false
is_three (x ∷ xs) = is_two xs

abbrev pub are_variables : List Measured → Bool
are_variables [] = true
are_variables (m ∷ ms) = is_variable m.level && are_variables ms

-- a function has as many arguments as it takes; BOUND takes a variable
abbrev pub takes : Function → List Measured → Bool
takes function.Bound args = is_one args && are_variables args
takes function.Coalesce args = true
takes function.If args = is_three args
takes function.LangMatches args = is_two args
takes function.SameTerm args = is_two args
takes function.Contains args = is_two args
takes function.StrStarts args = is_two args
takes function.StrEnds args = is_two args
takes _ args = is_one args

-- one level of an expression, with each part measured
abbrev pub measure_step : Expr-F Measured → Measured
measure_step (Expr-F.Variable name) = record { level = named; nest = 0; good = true }
measure_step (Expr-F.Constant t) = record { level = constant; nest = 0; good = true }
measure_step (Expr-F.Or parts) = record { level = disjunction; nest = most 1 parts; good = is_chain parts && all_good parts }
measure_step (Expr-F.And parts) = record { level = conjunction; nest = most 2 parts; good = is_chain parts && all_good parts }
measure_step (Expr-F.Not part) = record { level = unary; nest = placed 6 part; good = part.good }
measure_step (Expr-F.Positive part) = record { level = unary; nest = placed 6 part; good = part.good }
measure_step (Expr-F.Negative part) = record { level = unary; nest = placed 6 part; good = part.good }
measure_step (Expr-F.Compare op left right) = record { level = relation; nest = max (placed 3 left) (placed 3 right); good = left.good && right.good }
measure_step (Expr-F.Among negated item list) = record { level = relation; nest = max (placed 3 item) (suc (most 0 list)); good = item.good && all_good list }
measure_step (Expr-F.Sum first rest) = record { level = sum; nest = max (placed 4 first) (most_signed rest); good = first.good && (is_some rest && all_signed_good rest) }
measure_step (Expr-F.Product parts) = record { level = product; nest = most 5 parts; good = is_chain parts && all_good parts }
measure_step (Expr-F.Call f args) = record { level = called; nest = suc (most 0 args); good = takes f args && all_good args }

abbrev pub measured : Expr → Measured
measured = fold-Expr Measured measure_step

-- a condition stands in brackets, unless it is a call
abbrev pub condition_nest : Measured → ℕ
condition_nest m = if is_call m.level then m.nest else suc m.nest
