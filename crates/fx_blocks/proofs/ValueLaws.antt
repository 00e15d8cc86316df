-- Columns, each once, and where a row begins.
use Rattle.std.proofs.Common.{◌≡◌, ℕ, ◌<◌, Bool, true, false, ◌||◌, List, [], ◌∷◌, ◌++◌, length, Ok, Err, refl}
use Rattle.fx_algebra.specs.Scopes.{is_among, with_name}
use Rattle.fx_grammar.specs.Kinds.{is}
use Rattle.fx_grammar.specs.declared.kinds.Kind.TheVariants as k
use Rattle.fx_grammar.specs.declared.kinds.Token.{Token}
use Rattle.fx_grammar.specs.Rule.{Outcome, Refusal, sees, shape_of, with_front, any_number_from}
use Rattle.fx_grammar.specs.Grammar.{Prefixes, row, new_column, columns}
use Rattle.fx_grammar.proofs.GrammarLaws.{new_column_law, new_column_fits, new_column_takes}
use Rattle.fx_readers.proofs.Loops.{from_turn, from_fails, from_ends, from_smaller, no_front, sees-alone}

module _ (ps : Prefixes) where
  pub row_sees : (width : ℕ) (ts : List Token) (b : Bool) → sees (is k.LeftParen) ts ≡ b → sees (row ps width).begins ts ≡ b
  unfolding row
  row_sees width ts b e = sees-alone (λ kind. is k.LeftParen kind || false) ts b (sees-alone (is k.LeftParen) ts b e)

-- ---- columns, each once

unfoldable pub columns_from : List (List ℕ) → List Token → Outcome (List (List ℕ))
columns_from names ts = with_front names (any_number_from (shape_of (new_column [])) new_column (λ names name. names ++ name ∷ []) names ts)

column_sees : (ts : List Token) (b : Bool) → sees (is k.Variable) ts ≡ b → sees (shape_of (new_column [])).begins ts ≡ b
unfolding new_column
column_sees ts b e = e

pub columns_turn : (names : List (List ℕ)) (ts next : List Token) (x : List ℕ) → sees (is k.Variable) ts ≡ true → (new_column names).read ts ≡ Ok (x, next) → columns_from (names ++ x ∷ []) next ≡ columns_from names ts
unfolding columns_from
columns_turn names ts next x b e = from_turn (shape_of (new_column [])) new_column (λ names name. names ++ name ∷ []) new_column_law new_column_fits new_column_takes names names ts next x (column_sees ts true b) e

pub columns_fail : (names : List (List ℕ)) (ts : List Token) (r : Refusal) → sees (is k.Variable) ts ≡ true → (new_column names).read ts ≡ Err r → columns_from names ts ≡ Err r
unfolding columns_from
columns_fail names ts r b e = from_fails (shape_of (new_column [])) new_column (λ names name. names ++ name ∷ []) new_column_law new_column_fits new_column_takes names names ts r (column_sees ts true b) e

pub columns_end : (names : List (List ℕ)) (ts : List Token) → sees (is k.Variable) ts ≡ false → columns_from names ts ≡ Ok (names, ts)
unfolding columns_from
columns_end names ts b = from_ends (shape_of (new_column [])) new_column (λ names name. names ++ name ∷ []) new_column_law new_column_fits new_column_takes names names ts (column_sees ts false b)

pub columns_smaller : (names : List (List ℕ)) (ts next : List Token) (x : List ℕ) → (new_column names).read ts ≡ Ok (x, next) → length next < length ts
columns_smaller names ts next x e = from_smaller (shape_of (new_column [])) new_column (λ names name. names ++ name ∷ []) new_column_law new_column_fits new_column_takes names ts next x e

pub columns_are : (ts : List Token) → columns_from [] ts ≡ (columns []).read ts
unfolding columns_from columns any_number_from
columns_are ts = no_front ((columns []).read ts)

-- a name that the names lack
pub is_new : (names : List (List ℕ)) (name : List ℕ) → is_among names name ≡ false → with_name names name ≡ names ++ name ∷ []
unfolding with_name
is_new names name e = rw e refl
