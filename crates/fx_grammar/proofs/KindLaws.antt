-- Tests on kinds are decided by trying all of them.
use Rattle.std.proofs.Common.{◌≡◌, ℕ, Bool, true, false, not, ◌&&◌, List, [], ◌∷◌, refl, zero, suc, ◌<◌, length, get_or, subst, arith, sym, ap, ◌∙◌, eq-eqb}
use Rattle.std.proofs.lemmas.Bool.{eqb-true}
use denote.Enum.Bare.{Bare, sameb, same_true, same_false}
use Rattle.fx_grammar.specs.contracts.kinds.Kind.{the_type}
use Rattle.fx_grammar.specs.declared.kinds.Kind.{Kind}
use Rattle.fx_grammar.specs.declared.kinds.Kind.TheVariants as k
use Rattle.fx_grammar.specs.Kinds.{rank, is}
use Rattle.fx_grammar.specs.Rule.{Apart}

abbrev kinds : List Kind
kinds = k.LeftBrace ∷ k.RightBrace ∷ k.LeftParen ∷ k.RightParen ∷ k.LeftBracket ∷ k.Dot ∷ k.Semicolon ∷ k.Comma ∷ k.Star ∷ k.Slash ∷ k.Bar ∷ k.Caret ∷ k.Plus ∷ k.Dash ∷ k.Question ∷ k.Bang ∷ k.Comparison ∷ k.AndAnd ∷ k.OrOr ∷ k.CaretCaret ∷ k.Prefix ∷ k.Select ∷ k.Ask ∷ k.Distinct ∷ k.Reduced ∷ k.Where ∷ k.Order ∷ k.By ∷ k.Asc ∷ k.Desc ∷ k.Limit ∷ k.Offset ∷ k.Union ∷ k.Optional ∷ k.Minus ∷ k.Service ∷ k.Silent ∷ k.Filter ∷ k.Bind ∷ k.As ∷ k.Values ∷ k.Undef ∷ k.True ∷ k.False ∷ k.Not ∷ k.In ∷ k.A ∷ k.Bound ∷ k.Coalesce ∷ k.If ∷ k.One ∷ k.Two ∷ k.OtherForm ∷ k.From ∷ k.Grouping ∷ k.Graph ∷ k.OtherCall ∷ k.Iri ∷ k.Relative ∷ k.PrefixName ∷ k.Variable ∷ k.Blank ∷ k.Tag ∷ k.Integer ∷ k.Signed ∷ k.Decimal ∷ k.Text ∷ k.TooDeep ∷ k.InnerService ∷ k.Other ∷ []

abbrev all_of : (Kind → Bool) → List Kind → Bool
all_of p [] = true
all_of p (kind ∷ rest) = p kind && all_of p rest

and_true : (a b : Bool) → (a && b) ≡ true → (a ≡ true) × (b ≡ true)
and_true true b e = (refl, e)
and_true false b e = absurd (cc)

all_at : (p : Kind → Bool) (xs : List Kind) (i : ℕ) (d : Kind) → all_of p xs ≡ true → i < length xs → p (get_or xs i d) ≡ true
all_at p [] i d h b = absurd (omega arith)
all_at p (x ∷ xs) zero d h b = (and_true (p x) (all_of p xs) h).0
all_at p (x ∷ xs) (suc i) d h b = all_at p xs i d (and_true (p x) (all_of p xs) h).1 (omega arith)

at_rank : (kind : Kind) → get_or kinds (rank kind) k.Other ≡ kind
at_rank k.LeftBrace = refl
at_rank _ = refl

in_kinds : (kind : Kind) → rank kind < length kinds
in_kinds k.LeftBrace = omega arith
in_kinds _ = omega arith

not_true : (a : Bool) → not a ≡ true → a ≡ false
not_true true e = absurd (cc)
not_true false e = refl

-- by a test over all kinds, which computes
pub apart_by : (p q : Kind → Bool) → all_of (λ kind. not (p kind && q kind)) kinds ≡ true → Apart p q
apart_by p q h kind e =
    let both = not_true _ (subst (λ (x : Kind). not (p x && q x) ≡ true) (at_rank kind) (all_at (λ x. not (p x && q x)) kinds (rank kind) k.Other h (in_kinds kind))) in
    go (p kind) (q kind) both e
  where
    go : (a b : Bool) → (a && b) ≡ false → a ≡ true → b ≡ false
    go true b h e = h
    go false b h e = absurd (cc)

is_itself : (a : Kind) → is a a ≡ true
is_itself a = eq-eqb (rank a) (rank a) refl

pub same_rank : (a b : Kind) → is a b ≡ true → a ≡ b
same_rank a b h = sym (at_rank a) ∙ ap (λ n. get_or kinds n k.Other) (eqb-true (rank a) (rank b) h) ∙ at_rank b

-- the derived `==`
pub sameb_is : Bare the_type.parts → (a b : Kind) → sameb the_type a b ≡ is a b
sameb_is bare a b = go (sameb the_type a b) (is a b) refl refl
  where
    go : (x y : Bool) → sameb the_type a b ≡ x → is a b ≡ y → x ≡ y
    go true true e f = refl
    go false false e f = refl
    go true false e f = absurd (let same = same_true the_type bare a b e in let g : is a b ≡ true = subst (λ (c : Kind). is a c ≡ true) same (is_itself a) in cc (f, g))
    go false true e f = absurd (same_false the_type a b e (same_rank a b f))
