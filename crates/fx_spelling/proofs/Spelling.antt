-- What the ways to make a rule spell, from what their parts spell.
use Rattle.std.proofs.Common.{ℕ, suc, List, [], ◌∷◌, ◌++◌, None, refl, sym, append-nil, eq-eqb}
use Rattle.std.specs.List.{flat_map}
use Rattle.fx_grammar.specs.Kinds.{rank}
use Rattle.fx_grammar.specs.Rule.{Rule, token, seq, after, before, opt, many, nested, depth}
use Rattle.fx_grammar.specs.Grammar.{parens, braces}
use Rattle.fx_grammar.specs.declared.kinds.Kind.{Kind}
use Rattle.fx_grammar.specs.declared.kinds.Kind.TheVariants as k
use Rattle.fx_grammar.specs.declared.kinds.Token.{Token}
use Rattle.fx_grammar.specs.declared.kinds.Token.TheVariants.{Plain}

pub mark_said : (kind : Kind) → (token kind).spells (Plain kind ∷ []) tt
mark_said kind = (Plain kind, refl, eq-eqb (rank kind) (rank kind) refl, refl)

pub seq_said : {A B : Type 0} (a : Rule A) (b : Rule B) (front back : List Token) (x : A) (y : B) → a.spells front x → b.spells back y → (seq a b).spells (front ++ back) (x, y)
seq_said a b front back x y s t = (front, back, refl, s, t)

pub after_said : {B : Type 0} (kind : Kind) (b : Rule B) (ts : List Token) (y : B) → b.spells ts y → (after (token kind) b).spells (Plain kind ∷ ts) y
after_said kind b ts y s = ((tt, y), (Plain kind ∷ [], ts, refl, mark_said kind, s), refl)

pub before_said : {A : Type 0} (a : Rule A) (kind : Kind) (ts : List Token) (x : A) → a.spells ts x → (before a (token kind)).spells (ts ++ Plain kind ∷ []) x
before_said a kind ts x s = ((x, tt), (ts, Plain kind ∷ [], refl, s, mark_said kind), refl)

pub parens_said : {A : Type 0} (a : Rule A) (ts : List Token) (x : A) → a.spells ts x → (parens a).spells (Plain k.LeftParen ∷ (ts ++ Plain k.RightParen ∷ [])) x
parens_said a ts x s = before_said (after (token k.LeftParen) a) k.RightParen (Plain k.LeftParen ∷ ts) x (after_said k.LeftParen a ts x s)

pub braces_said : {A : Type 0} (a : Rule A) (ts : List Token) (x : A) → a.spells ts x → (braces a).spells (Plain k.LeftBrace ∷ (ts ++ Plain k.RightBrace ∷ [])) x
braces_said a ts x s = before_said (after (token k.LeftBrace) a) k.RightBrace (Plain k.LeftBrace ∷ ts) x (after_said k.LeftBrace a ts x s)

-- a rule before one that may be nothing
pub alone_said : {A B : Type 0} (a : Rule A) (b : Rule B) (ts : List Token) (x : A) → a.spells ts x → (before a (opt b)).spells ts x
alone_said a b ts x s = ((x, None), (ts, [], sym (append-nil ts), s, refl), refl)

pub many_said : {A : Type 0} (a : Rule A) (tokens : A → List Token) (xs : List A) → ((x : A) → a.spells (tokens x) x) → (many a).spells (flat_map tokens xs) xs
many_said a tokens [] s = refl
many_said a tokens (x ∷ xs) s = (tokens x, flat_map tokens xs, refl, s x, many_said a tokens xs s)

-- a rule that may stand within itself so many times
pub nested_said : {A : Type 0} (rule : Rule A → Rule A) (n : ℕ) (ts : List Token) (x : A) → (rule (nested rule n)).spells ts x → (nested rule (suc n)).spells ts x
unfolding depth
nested_said rule n ts x s = s
