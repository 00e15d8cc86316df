-- The equations of `printed`, for two variants that have lists.
use Rattle.std.proofs.Common.{◌≡◌, ℕ, List, [], map, ◌++◌, ◌∷◌, ap, sym, ◌∙◌}
use Rattle.fx_algebra.specs.declared.expressions.Function.{Function}
use Rattle.fx_algebra.specs.declared.expressions.Sign.{Sign}
use Rattle.fx_algebra.specs.declared.expressions.Expr.{Expr, Expr-F, fold-roll-Expr}
use Rattle.fx_algebra.specs.declared.expressions.Expr.TheVariants.{Call, Sum, rolls-Call, rolls-Sum}
use Rattle.fx_algebra.specs.Printed.{Printed, printed, print_step, fixed, keyword, listed, called, in_place, signed, sum, Word, spelling, spaced, joined}

pub printed_call : (f : Function) (args : List Expr) → printed (Call f args) ≡ record { words = fixed (keyword f) ∷ listed (map printed args); level = called }
printed_call f args = ap printed (sym (rolls-Call f args)) ∙ fold-roll-Expr Printed print_step (Expr-F.Call f args)

pub printed_sum : (first : Expr) (rest : List (Sign × Expr)) → printed (Sum first rest) ≡ record { words = in_place 4 (printed first) ++ signed (map (λ part. (part.0, printed part.1)) rest); level = sum }
printed_sum first rest = ap printed (sym (rolls-Sum first rest)) ∙ fold-roll-Expr Printed print_step (Expr-F.Sum first rest)

-- a text that doesn't begin with a space has no words behind spaces
pub nothing_in_front : (text : List ℕ) → ((rest : List ℕ) → text ≡ 32 ∷ rest → ⊥) → (words : List Word) → text ≡ spaced words → text ≡ joined words
nothing_in_front text none [] e = e
nothing_in_front text none (word ∷ words) e = absurd (none (spelling word ++ spaced words) e)
