-- What holds of the values that tokens spell, by how many brackets are open where they stand, of which no more than 64 are.
use Rattle.std.proofs.Common.{◌≡◌, ℕ, zero, suc, ◌+◌, ◌-◌, ◌≤◌, Bool, true, false, cond, List, [], ◌∷◌, ◌++◌, Option, Some, None, Ok, Result, refl, sym, ap, ◌∙◌, subst, arith, append_assoc, inl, inr, ◌||◌, nat_lt}
use Rattle.std.proofs.lemmas.Bool.{or_parts, ltb-true}
use Rattle.fx_grammar.specs.Kinds.{is, kind_of}
use Rattle.fx_grammar.specs.Rule.{Rule, Shape, Apart, one, token, refusing, made, then_by, seq, after, before, either, opt, many_from, many, chain, some, nested, depth, shape_of}
use Rattle.fx_grammar.specs.Grammar.{parens, braces}
use Rattle.fx_grammar.specs.Classified.{behind, one_more, is_bracket, opened, closed, named}
use Rattle.fx_grammar.specs.declared.places.Context.{Context}
use Rattle.fx_grammar.specs.declared.places.Service.{Service}
use Rattle.fx_grammar.specs.declared.refusals.SyntaxKind.{SyntaxKind}
use Rattle.fx_grammar.specs.declared.kinds.Kind.{Kind}
use Rattle.fx_grammar.specs.declared.kinds.Kind.TheVariants as k
use Rattle.fx_grammar.specs.declared.kinds.Token.{Token}
use Rattle.fx_grammar.proofs.KindLaws.{same_rank}
use Rattle.fx_spelling.proofs.Tracking.{is_bad, Track, Bracketed, bracketed}

-- ---- the brackets that are open

-- how many are open behind a token
abbrev open_behind : ℕ → Kind → ℕ
open_behind d kind = cond (is k.LeftBrace kind) (one_more d) (cond (is k.LeftParen kind) (one_more d) (cond (is k.RightBrace kind || is k.RightParen kind) (d - 1) d))

-- up to a token that isn't in its place, no bracket is opened where 64 are open
abbrev pub Room : ℕ → List Token → Type 0
Room d [] = Unit {0}
Room d (t ∷ ts) = is_bad (kind_of t) ≡ false → (is_bracket (kind_of t) ≡ true → nat_lt d 64 ≡ true) × Room (open_behind d (kind_of t)) ts

abbrev at : ℕ → Service → Context
at d service = record { depth = d; service = service }

depth_behind : (context : Context) (a : Kind) → (behind context a).depth ≡ open_behind context.depth a
depth_behind context a = go (is k.LeftBrace a) (is k.LeftParen a) (is k.RightBrace a || is k.RightParen a) (is k.Service a)
  where
    go : (p q r s : Bool)
        → (cond p (at (one_more context.depth) (opened context.depth context.service)) (cond q (at (one_more context.depth) context.service) (cond r (at (context.depth - 1) (closed (context.depth - 1) context.service)) (cond s (at context.depth (named context.service)) context)))).depth
        ≡ cond p (one_more context.depth) (cond q (one_more context.depth) (cond r (context.depth - 1) context.depth))
    go true q r s = refl
    go false true r s = refl
    go false false true s = refl
    go false false false true = refl
    go false false false false = refl

-- tokens in their places have room
pub room_of : (context : Context) (ts : List Token) → Track context ts → Room context.depth ts
room_of context [] h = tt
room_of context (t ∷ ts) h = λ good. let x = h good in (x.1, subst (λ (d : ℕ). Room d ts) (depth_behind context (kind_of t)) (room_of (behind context (kind_of t)) ts x.3))

-- a kind that opens or closes a bracket, or isn't in its place
abbrev pub is_turning : Kind → Bool
is_turning kind = is_bad kind || (is k.LeftBrace kind || (is k.LeftParen kind || (is k.RightBrace kind || is k.RightParen kind)))

past_calm : (d : ℕ) (t : Token) (rest : List Token) → is_turning (kind_of t) ≡ false → Room d (t ∷ rest) → Room d rest
past_calm d t rest h room =
    let a = or_parts (is_bad (kind_of t)) (is k.LeftBrace (kind_of t) || (is k.LeftParen (kind_of t) || (is k.RightBrace (kind_of t) || is k.RightParen (kind_of t)))) h in
    let b = or_parts (is k.LeftBrace (kind_of t)) (is k.LeftParen (kind_of t) || (is k.RightBrace (kind_of t) || is k.RightParen (kind_of t))) a.1 in
    let c = or_parts (is k.LeftParen (kind_of t)) (is k.RightBrace (kind_of t) || is k.RightParen (kind_of t)) b.1 in
    let same : open_behind d (kind_of t) ≡ d = rw (b.0, c.0, c.1) refl in
    subst (λ (n : ℕ). Room n rest) same (room a.0).1

-- ---- what holds of what a rule spells where so many brackets are open

pub record Given {A : Type 0} (P : ℕ → A → Type 0) (r : Rule A) : Type 0 where
  pub holds : (ts : List Token) (x : A) → r.spells ts x → (d : ℕ) (rest : List Token) → d ≤ 64 → Room d (ts ++ rest) → P d x × Room d rest

abbrev pub Any : {A : Type 0} → ℕ → A → Type 0
Any d x = Unit {0}

-- one token that opens and closes nothing
pub of_one : {A : Type 0} (kinds : Kind → Bool) (value : Token → Result A SyntaxKind) → Apart kinds is_turning → Given Any (one kinds value)
of_one kinds value a = record { holds = λ ts x s d rest l room. (tt, past_calm d s.0 rest (a (kind_of s.0) s.2) (subst (λ (v : List Token). Room d (v ++ rest)) s.1 room)) }

pub of_token : (a : Kind) → is_turning a ≡ false → Given Any (token a)
of_token a h = of_one (is a) (λ t. Ok tt) (λ c e. ap is_turning (sym (same_rank a c e)) ∙ h)

pub of_refusing : {A : Type 0} {P : ℕ → A → Type 0} (why : SyntaxKind) (kinds : Kind → Bool) → Given P (refusing why kinds)
of_refusing why kinds = record { holds = λ ts x s. absurd s }

pub of_made : {A B : Type 0} {P : ℕ → A → Type 0} {Q : ℕ → B → Type 0} {a : Rule A} (f : A → B) → Given P a → ((d : ℕ) (x : A) → d ≤ 64 → P d x → Q d (f x)) → Given Q (made f a)
of_made {A} {B} {P} {Q} {a} f g h = record { holds = λ ts y s d rest l room. let r = g.holds ts s.0 s.1 d rest l room in (subst (Q d) (sym s.2) (h d s.0 l r.0), r.1) }

-- less of the same
pub of_less : {A : Type 0} {P Q : ℕ → A → Type 0} {a : Rule A} → Given P a → ((d : ℕ) (x : A) → d ≤ 64 → P d x → Q d x) → Given Q a
of_less {A} {P} {Q} {a} g h = record { holds = λ ts x s d rest l room. let r = g.holds ts x s d rest l room in (h d x l r.0, r.1) }

split : (d : ℕ) (ts front back rest : List Token) → ts ≡ front ++ back → Room d (ts ++ rest) → Room d (front ++ (back ++ rest))
split d ts front back rest e room = subst (Room d) (append_assoc front back rest) (subst (λ (v : List Token). Room d (v ++ rest)) e room)

pub of_then : {A B : Type 0} {P : ℕ → A → Type 0} {Q : ℕ → B → Type 0} {a : Rule A} (shape : Shape) (b : A → Rule B) → Given P a → ((x : A) → Given Q (b x)) → Given (λ d (p : A × B). P d p.0 × Q d p.1) (then_by a shape b)
of_then {A} {B} {P} {Q} {a} shape b g h = record {
  holds = λ ts x s d rest l room.
      let first = g.holds s.0 x.0 s.3 d (s.1 ++ rest) l (split d ts s.0 s.1 rest s.2 room) in
      let second = (h x.0).holds s.1 x.1 s.4 d rest l first.1 in
      ((first.0, second.0), second.1);
}

pub of_seq : {A B : Type 0} {P : ℕ → A → Type 0} {Q : ℕ → B → Type 0} {a : Rule A} {b : Rule B} → Given P a → Given Q b → Given (λ d (p : A × B). P d p.0 × Q d p.1) (seq a b)
of_seq {A} {B} {P} {Q} {a} {b} g h = of_then (shape_of b) (λ x. b) g (λ x. h)

pub of_after : {B : Type 0} {Q : ℕ → B → Type 0} {b : Rule B} (a : Kind) → is_turning a ≡ false → Given Q b → Given Q (after (token a) b)
of_after {B} {Q} {b} a t h = of_made (λ p. p.1) (of_seq (of_token a t) h) (λ d p l x. x.1)

pub of_before : {A B : Type 0} {P : ℕ → A → Type 0} {Q : ℕ → B → Type 0} {a : Rule A} {b : Rule B} → Given P a → Given Q b → Given P (before a b)
of_before {A} {B} {P} {Q} {a} {b} g h = of_made (λ p. p.0) (of_seq g h) (λ d p l x. x.0)

pub of_either : {A : Type 0} {P : ℕ → A → Type 0} {a b : Rule A} → Given P a → Given P b → Given P (either a b)
of_either {A} {P} {a} {b} g h = record { holds = λ ts x s. elim s [ inl l ↦ g.holds ts x l | inr r ↦ h.holds ts x r ] }

abbrev pub Maybe : {A : Type 0} → (ℕ → A → Type 0) → ℕ → Option A → Type 0
Maybe P d None = Unit {0}
Maybe P d (Some x) = P d x

pub of_opt : {A : Type 0} {P : ℕ → A → Type 0} {a : Rule A} → Given P a → Given (Maybe P) (opt a)
of_opt {A} {P} {a} g = record { holds = go }
  where
    go : (ts : List Token) (x : Option A) → (opt a).spells ts x → (d : ℕ) (rest : List Token) → d ≤ 64 → Room d (ts ++ rest) → Maybe P d x × Room d rest
    go ts None s d rest l room = (tt, subst (λ (v : List Token). Room d (v ++ rest)) s room)
    go ts (Some x) s d rest l room = g.holds ts x s d rest l room

abbrev pub Each : {A : Type 0} → (ℕ → A → Type 0) → ℕ → List A → Type 0
Each P d [] = Unit {0}
Each P d (x ∷ xs) = P d x × Each P d xs

pub of_from : {S A : Type 0} {P : ℕ → A → Type 0} (shape : Shape) (rule : S → Rule A) (step : S → A → S) → ((s : S) → Given P (rule s)) → (s : S) → Given (Each P) (many_from shape rule step s)
of_from {S} {A} {P} shape rule step g s = record { holds = go s }
  where
    go : (s : S) (ts : List Token) (xs : List A) → (many_from shape rule step s).spells ts xs → (d : ℕ) (rest : List Token) → d ≤ 64 → Room d (ts ++ rest) → Each P d xs × Room d rest
    go s ts [] h d rest l room = (tt, subst (λ (v : List Token). Room d (v ++ rest)) h room)
    go s ts (x ∷ xs) h d rest l room =
        let first = (g s).holds h.0 x h.3 d (h.1 ++ rest) l (split d ts h.0 h.1 rest h.2 room) in
        let further = go (step s x) h.1 xs h.4 d rest l first.1 in
        ((first.0, further.0), further.1)

pub of_many : {A : Type 0} {P : ℕ → A → Type 0} {a : Rule A} → Given P a → Given (Each P) (many a)
of_many {A} {P} {a} g = of_from {S = Unit {0}} (shape_of a) (λ s. a) (λ s x. s) (λ s. g) tt

pub of_chain : {A : Type 0} {P : ℕ → A → Type 0} {a : Rule A} (mark : Kind) → is_turning mark ≡ false → Given P a → Given (Each P) (chain mark a)
of_chain {A} {P} {a} mark t g = of_made (λ p. p.0 ∷ p.1) (of_seq g (of_many (of_after mark t g))) (λ d p l x. x)

pub of_some : {A : Type 0} {P : ℕ → A → Type 0} {a : Rule A} → Given P a → Given (Each P) (some a)
of_some {A} {P} {a} g = of_made (λ p. p.0 ∷ p.1) (of_seq g (of_many g)) (λ d p l x. x)

pub of_nested : {A : Type 0} {P : ℕ → A → Type 0} (rule : Rule A → Rule A) → ((a : Rule A) → Given P a → Given P (rule a)) → (n : ℕ) → Given P (nested rule n)
unfolding depth
of_nested rule h zero = record { holds = λ ts x s. absurd s }
of_nested rule h (suc n) = record { holds = λ ts x s. (h (nested rule n) (of_nested rule h n)).holds ts x s }

-- ---- brackets: one more is open between them

past_first : (d : ℕ) (first : Token) (rest : List Token) (o : Kind) → kind_of first ≡ o → is_bad o ≡ false → is_bracket o ≡ true → Room d (first ∷ rest) → (nat_lt d 64 ≡ true) × Room (open_behind d o) rest
past_first d first rest o e b r room =
    let x = room (ap is_bad e ∙ b) in
    (x.0 (ap is_bracket e ∙ r), subst (λ (v : Kind). Room (open_behind d v) rest) e x.1)

past_last : (d : ℕ) (last : Token) (rest : List Token) (c : Kind) → kind_of last ≡ c → is_bad c ≡ false → Room d (last ∷ rest) → Room (open_behind d c) rest
past_last d last rest c e b room = subst (λ (v : Kind). Room (open_behind d v) rest) e (room (ap is_bad e ∙ b)).1

-- what stands between two tokens, of which the first opens one and the last closes one
between : {A : Type 0} {P : ℕ → A → Type 0} {a : Rule A} (o c : Kind) → is_bad o ≡ false → is_bracket o ≡ true → is_bad c ≡ false → ((d : ℕ) → open_behind d o ≡ one_more d) → ((d : ℕ) → open_behind d c ≡ d - 1)
    → Given P a → (ts : List Token) (x : A) → Bracketed o c a ts x → (d : ℕ) (rest : List Token) → Room d (ts ++ rest) → (d + 1 ≤ 64) × P (d + 1) x × Room d rest
between {A} {P} {a} o c fine opens good up down g ts x b d rest room =
    let whole : Room d (b.first ∷ (b.mid ++ b.last ∷ rest)) = subst (Room d) (ap (λ (v : List Token). b.first ∷ v) (append_assoc b.mid (b.last ∷ []) rest)) (subst (λ (v : List Token). Room d (v ++ rest)) b.whole room) in
    let f = past_first d b.first (b.mid ++ b.last ∷ rest) o b.opens fine opens whole in
    let few : d + 1 ≤ 64 = omega (arith, ltb-true d 64 f.0) in
    let more : open_behind d o ≡ d + 1 = up d ∙ ap (λ (t : Bool). cond t (d + 1) d) f.0 in
    let r = g.holds b.mid x b.inside (d + 1) (b.last ∷ rest) few (subst (λ (n : ℕ). Room n (b.mid ++ b.last ∷ rest)) more f.1) in
    let back : open_behind (d + 1) c ≡ d = down (d + 1) ∙ omega arith in
    (few, r.0, subst (λ (n : ℕ). Room n rest) back (past_last (d + 1) b.last rest c b.closes good r.1))

pub of_parens : {A : Type 0} {P Q : ℕ → A → Type 0} {a : Rule A} → Given P a → ((d : ℕ) (x : A) → d + 1 ≤ 64 → P (d + 1) x → Q d x) → Given Q (parens a)
of_parens {A} {P} {Q} {a} g h = record {
  holds = λ ts x s d rest l room.
      let r = between k.LeftParen k.RightParen refl refl refl (λ n. refl) (λ n. refl) g ts x (bracketed k.LeftParen k.RightParen a ts x s) d rest room in
      (h d x r.0 r.1, r.2);
}

pub of_braces : {A : Type 0} {P Q : ℕ → A → Type 0} {a : Rule A} → Given P a → ((d : ℕ) (x : A) → d + 1 ≤ 64 → P (d + 1) x → Q d x) → Given Q (braces a)
of_braces {A} {P} {Q} {a} g h = record {
  holds = λ ts x s d rest l room.
      let r = between k.LeftBrace k.RightBrace refl refl refl (λ n. refl) (λ n. refl) g ts x (bracketed k.LeftBrace k.RightBrace a ts x s) d rest room in
      (h d x r.0 r.1, r.2);
}

-- ---- rules of which nothing is to be said

pub of_pair : {A B : Type 0} {a : Rule A} {b : Rule B} → Given Any a → Given Any b → Given Any (seq a b)
of_pair g h = of_less (of_seq g h) (λ d x l p. tt)

pub of_maybe : {A : Type 0} {a : Rule A} → Given Any a → Given Any (opt a)
of_maybe g = of_less (of_opt g) (λ d x l p. tt)

pub of_several : {A : Type 0} {a : Rule A} → Given Any a → Given Any (many a)
of_several g = of_less (of_many g) (λ d x l p. tt)

pub of_links : {A : Type 0} {a : Rule A} (mark : Kind) → is_turning mark ≡ false → Given Any a → Given Any (chain mark a)
of_links mark t g = of_less (of_chain mark t g) (λ d x l p. tt)

pub of_any : {A B : Type 0} {a : Rule A} (f : A → B) → Given Any a → Given Any (made f a)
of_any f g = of_made f g (λ d x l p. tt)
