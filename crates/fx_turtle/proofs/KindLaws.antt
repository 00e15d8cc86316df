-- Tests on kinds are decided by trying all of them.
use Rattle.std.proofs.Common.{◌≡◌, ℕ, Bool, true, false, not, ◌&&◌, List, [], ◌∷◌, refl, zero, suc, ◌<◌, length, get_or, subst, arith}
use Rattle.fx_rules.specs.Rule.{Apart}
use Rattle.fx_turtle.specs.Symbols.{rank}
use Rattle.fx_turtle.specs.declared.kinds.Kind.{Kind}
use Rattle.fx_turtle.specs.declared.kinds.Kind.TheVariants as k

abbrev kinds : List Kind
kinds = k.Iri ∷ k.Relative ∷ k.PrefixName ∷ k.Text ∷ k.Tag ∷ k.AtPrefix ∷ k.AtBase ∷ k.Prefix ∷ k.Base ∷ k.A ∷ k.Number ∷ k.Truth ∷ k.Blank ∷ k.LeftBracket ∷ k.LeftParen ∷ k.Dot ∷ k.Semicolon ∷ k.Comma ∷ k.CaretCaret ∷ k.Other ∷ []

abbrev all_of : (Kind → Bool) → List Kind → Bool
all_of p [] = true
all_of p (kind ∷ rest) = p kind && all_of p rest

and_true : (a b : Bool) → (a && b) ≡ true → (a ≡ true) × (b ≡ true)
and_true true b e = (refl, e)
and_true false b e = absurd (cc)

all_at : (p : Kind → Bool) (xs : List Kind) (i : ℕ) (d : Kind) → all_of p xs ≡ true → i < length xs → p (get_or xs i d) ≡ true
all_at p [] i d h b = absurd (omega arith)
all_at p (x ∷ xs) zero d h b = (and_true (p x) (all_of p xs) h).0
all_at p (x ∷ xs) (suc i) d h b = all_at p xs i d (and_true (p x) (all_of p xs) h).1 (omega arith)

at_rank : (kind : Kind) → get_or kinds (rank kind) k.Other ≡ kind
at_rank k.Iri = refl
at_rank _ = refl

in_kinds : (kind : Kind) → rank kind < length kinds
in_kinds k.Iri = omega arith
in_kinds _ = omega arith

not_true : (a : Bool) → not a ≡ true → a ≡ false
not_true true e = absurd (cc)
not_true false e = refl

-- by a test over all kinds, which computes
pub apart_by : (p q : Kind → Bool) → all_of (λ kind. not (p kind && q kind)) kinds ≡ true → Apart p q
apart_by p q h kind e =
    let both = not_true _ (subst (λ (x : Kind). not (p x && q x) ≡ true) (at_rank kind) (all_at (λ x. not (p x && q x)) kinds (rank kind) k.Other h (in_kinds kind))) in
    go (p kind) (q kind) both e
  where
    go : (a b : Bool) → (a && b) ≡ false → a ≡ true → b ≡ false
    go true b h e = h
    go false b h e = absurd (cc)
