-- What holds of the values that tokens spell, where each token says something and stands in its place.
use Rattle.std.proofs.Common.{◌≡◌, ℕ, zero, suc, ◌+◌, ◌-◌, Bool, true, false, cond, List, [], ◌∷◌, ◌++◌, Option, Some, None, Ok, Result, refl, sym, ap, ◌∙◌, subst, arith, append_assoc, inl, inr, ◌&&◌, ◌||◌, nat_lt}
use Rattle.std.specs.Str.{IsUtf8}
use Rattle.std.proofs.lemmas.Bool.{eq-eqb, or_parts}
use Rattle.fx_terms.specs.Names.{IsName}
use Rattle.fx_terms.specs.Iris.{IsIri}
use Rattle.fx_algebra.specs.declared.expressions.Function.{Function}
use Rattle.fx_algebra.specs.declared.expressions.Function.TheVariants as function
use Rattle.fx_grammar.specs.Kinds.{is, kind_of}
use Rattle.fx_grammar.specs.Rule.{Rule, Shape, Apart, one, token, refusing, made, then_by, seq, after, before, either, opt, many_from, many, chain, some, nested, depth, shape_of}
use Rattle.fx_grammar.specs.Grammar.{parens, braces}
use Rattle.fx_grammar.specs.Classified.{kind_in, behind, all_placed, one_more, opened, closed, is_inside, is_bracket}
use Rattle.fx_grammar.specs.declared.places.Context.{Context}
use Rattle.fx_grammar.specs.declared.places.Service.{Service}
use Rattle.fx_grammar.specs.declared.places.Service.TheVariants.{Outside, Named, Inside}
use Rattle.fx_grammar.specs.declared.refusals.SyntaxKind.{SyntaxKind}
use Rattle.fx_grammar.specs.declared.kinds.Kind.{Kind}
use Rattle.fx_grammar.specs.declared.kinds.Kind.TheVariants as k
use Rattle.fx_grammar.specs.declared.kinds.Token.{Token}
use Rattle.fx_grammar.specs.declared.kinds.Token.TheVariants as symbol
use Rattle.fx_grammar.proofs.KindLaws.{apart_by, same_rank}
use Rattle.fx_spelling.proofs.Placing.{SteadyAt, back, deeper, same_opened}

-- ---- tokens that say something

abbrev pub is_one_function : Function → Bool
is_one_function function.Str = true
is_one_function function.Lang = true
is_one_function function.Datatype = true
is_one_function function.StrLen = true
is_one_function function.IsIri = true
is_one_function function.IsLiteral = true
is_one_function function.IsBlank = true
is_one_function function.IsNumeric = true
is_one_function _ = false

abbrev pub is_two_function : Function → Bool
is_two_function function.LangMatches = true
is_two_function function.SameTerm = true
is_two_function function.Contains = true
is_two_function function.StrStarts = true
is_two_function function.StrEnds = true
is_two_function _ = false

abbrev pub GoodToken : Token → Type 0
GoodToken (symbol.Plain a) = Unit {0}
GoodToken (symbol.Comparison op) = Unit {0}
GoodToken (symbol.One f) = is_one_function f ≡ true
GoodToken (symbol.Two f) = is_two_function f ≡ true
GoodToken (symbol.Variable name) = IsName name
GoodToken (symbol.Iri iri) = IsIri iri
GoodToken (symbol.PrefixName prefix local) = IsUtf8 local
GoodToken (symbol.Tag tag) = Unit {0}
GoodToken (symbol.Integer digits) = IsUtf8 digits
GoodToken (symbol.Signed digits) = IsUtf8 digits
GoodToken (symbol.Text text) = IsUtf8 text

abbrev pub AllGood : List Token → Type 0
AllGood [] = Unit {0}
AllGood (t ∷ ts) = GoodToken t × AllGood ts

-- ---- tokens in their places

abbrev pub is_bad : Kind → Bool
is_bad kind = is k.TooDeep kind || is k.InnerService kind

-- up to a token that isn't in its place
abbrev pub Track : Context → List Token → Type 0
Track context [] = Unit {0}
Track context (t ∷ ts) =
    is_bad (kind_of t) ≡ false → GoodToken t × (is_bracket (kind_of t) ≡ true → nat_lt context.depth 64 ≡ true) × (is k.Service (kind_of t) ≡ true → is_inside context.service ≡ false) × Track (behind context (kind_of t)) ts

bracket_apart : Apart is_bracket (is k.Service)
bracket_apart = apart_by is_bracket (is k.Service) refl

record InPlace (context : Context) (a : Kind) : Type 0 where
  same : kind_in context a ≡ a
  room : is_bracket a ≡ true → nat_lt context.depth 64 ≡ true
  service : is k.Service a ≡ true → is_inside context.service ≡ false

in_place : (context : Context) (a : Kind) → is_bad (kind_in context a) ≡ false → InPlace context a
in_place context a h = go (is_bracket a) refl (nat_lt context.depth 64) refl (is k.Service a) refl (is_inside context.service) refl h
  where
    go : (b : Bool) → is_bracket a ≡ b → (d : Bool) → nat_lt context.depth 64 ≡ d → (s : Bool) → is k.Service a ≡ s → (i : Bool) → is_inside context.service ≡ i → is_bad (cond b (cond d a k.TooDeep) (cond (s && i) k.InnerService a)) ≡ false → InPlace context a
    go true e true f s g i j h = record { same = rw (e, f) refl; room = λ x. f; service = λ x. absurd (let n = bracket_apart a e in cc (n, x)) }
    go true e false f s g i j h = absurd (cc (h))
    go false e d f true g true j h = absurd (cc (h))
    go false e d f true g false j h = record { same = rw (e, g, j) refl; room = λ x. absurd (cc (e, x)); service = λ x. j }
    go false e d f false g i j h = record { same = rw (e, g) refl; room = λ x. absurd (cc (e, x)); service = λ x. absurd (cc (g, x)) }

pub placed_track : (context : Context) (ts : List Token) → AllGood ts → Track context (all_placed context ts)
unfolding all_placed
placed_track context [] g = tt
placed_track context (symbol.Plain a ∷ ts) g = λ h.
    let p = in_place context a h in (
      tt,
      subst (λ (x : Kind). is_bracket x ≡ true → nat_lt context.depth 64 ≡ true) (sym p.same) p.room,
      subst (λ (x : Kind). is k.Service x ≡ true → is_inside context.service ≡ false) (sym p.same) p.service,
      subst (λ (x : Kind). Track (behind context x) (all_placed (behind context a) ts)) (sym p.same) (placed_track (behind context a) ts g.1),
    )
placed_track context (symbol.Comparison op ∷ ts) g = λ h. (g.0, (λ x. absurd (cc (x))), (λ x. absurd (cc (x))), placed_track context ts g.1)
placed_track context (symbol.One f ∷ ts) g = λ h. (g.0, (λ x. absurd (cc (x))), (λ x. absurd (cc (x))), placed_track context ts g.1)
placed_track context (symbol.Two f ∷ ts) g = λ h. (g.0, (λ x. absurd (cc (x))), (λ x. absurd (cc (x))), placed_track context ts g.1)
placed_track context (symbol.Variable name ∷ ts) g = λ h. (g.0, (λ x. absurd (cc (x))), (λ x. absurd (cc (x))), placed_track context ts g.1)
placed_track context (symbol.Iri iri ∷ ts) g = λ h. (g.0, (λ x. absurd (cc (x))), (λ x. absurd (cc (x))), placed_track context ts g.1)
placed_track context (symbol.PrefixName prefix local ∷ ts) g = λ h. (g.0, (λ x. absurd (cc (x))), (λ x. absurd (cc (x))), placed_track context ts g.1)
placed_track context (symbol.Tag tag ∷ ts) g = λ h. (g.0, (λ x. absurd (cc (x))), (λ x. absurd (cc (x))), placed_track context ts g.1)
placed_track context (symbol.Integer digits ∷ ts) g = λ h. (g.0, (λ x. absurd (cc (x))), (λ x. absurd (cc (x))), placed_track context ts g.1)
placed_track context (symbol.Signed digits ∷ ts) g = λ h. (g.0, (λ x. absurd (cc (x))), (λ x. absurd (cc (x))), placed_track context ts g.1)
placed_track context (symbol.Text text ∷ ts) g = λ h. (g.0, (λ x. absurd (cc (x))), (λ x. absurd (cc (x))), placed_track context ts g.1)

-- a kind that opens and closes nothing, and stands where it may
abbrev pub is_turning : Kind → Bool
is_turning kind = is_bad kind || (is k.LeftBrace kind || (is k.LeftParen kind || (is k.RightBrace kind || (is k.RightParen kind || is k.Service kind))))

pub past_plain : (context : Context) (t : Token) (rest : List Token) → is_turning (kind_of t) ≡ false → Track context (t ∷ rest) → GoodToken t × Track context rest
past_plain context t rest h tr =
    let a = or_parts (is_bad (kind_of t)) (is k.LeftBrace (kind_of t) || (is k.LeftParen (kind_of t) || (is k.RightBrace (kind_of t) || (is k.RightParen (kind_of t) || is k.Service (kind_of t))))) h in
    let b = or_parts (is k.LeftBrace (kind_of t)) (is k.LeftParen (kind_of t) || (is k.RightBrace (kind_of t) || (is k.RightParen (kind_of t) || is k.Service (kind_of t)))) a.1 in
    let c = or_parts (is k.LeftParen (kind_of t)) (is k.RightBrace (kind_of t) || (is k.RightParen (kind_of t) || is k.Service (kind_of t))) b.1 in
    let d = or_parts (is k.RightBrace (kind_of t)) (is k.RightParen (kind_of t) || is k.Service (kind_of t)) c.1 in
    let e = or_parts (is k.RightParen (kind_of t)) (is k.Service (kind_of t)) d.1 in
    let x = tr a.0 in
    let same : behind context (kind_of t) ≡ context = rw (b.0, c.0, d.0, e.0, e.1) refl in
    (x.0, subst (λ (v : Context). Track v rest) same x.3)

-- ---- what holds of what a rule spells; the test says whether it stands within a SERVICE

abbrev pub Gives : {A : Type 0} → (Bool → A → Type 0) → Rule A → Type 0
Gives {A} P r = (ts : List Token) (x : A) → r.spells ts x → (context : Context) (rest : List Token) → SteadyAt context.depth context.service → Track context (ts ++ rest) → P (is_inside context.service) x × Track context rest

pub gives_one : {A : Type 0} (P : Bool → A → Type 0) (kinds : Kind → Bool) (value : Token → Result A SyntaxKind) → Apart kinds is_turning → ((b : Bool) (t : Token) (x : A) → value t ≡ Ok x → GoodToken t → P b x) → Gives P (one kinds value)
gives_one P kinds value a h ts x s context rest st tr =
    let p = past_plain context s.0 rest (a (kind_of s.0) s.2) (subst (λ (v : List Token). Track context (v ++ rest)) s.1 tr) in
    (h (is_inside context.service) s.0 x s.3 p.0, p.1)

abbrev pub Any : {A : Type 0} → Bool → A → Type 0
Any b x = Unit {0}

only_kind : (a : Kind) → is_turning a ≡ false → Apart (is a) is_turning
only_kind a h c e = ap is_turning (sym (same_rank a c e)) ∙ h

pub gives_token : (a : Kind) → is_turning a ≡ false → Gives Any (token a)
gives_token a h = gives_one Any (is a) (λ t. Ok tt) (only_kind a h) (λ b t x e g. tt)

pub gives_refusing : {A : Type 0} (P : Bool → A → Type 0) (why : SyntaxKind) (kinds : Kind → Bool) → Gives P (refusing why kinds)
gives_refusing P why kinds ts x s = absurd s

pub gives_made : {A B : Type 0} (P : Bool → A → Type 0) (Q : Bool → B → Type 0) (f : A → B) (a : Rule A) → Gives P a → ((b : Bool) (x : A) → P b x → Q b (f x)) → Gives Q (made f a)
gives_made P Q f a g h ts y s context rest st tr =
    let r = g ts s.0 s.1 context rest st tr in
    (subst (Q (is_inside context.service)) (sym s.2) (h (is_inside context.service) s.0 r.0), r.1)

pub gives_then : {A B : Type 0} (P : Bool → A → Type 0) (Q : A → Bool → B → Type 0) (a : Rule A) (shape : Shape) (b : A → Rule B) → Gives P a → ((c : Bool) (x : A) → P c x → Gives (Q x) (b x)) → Gives (λ c p. P c p.0 × Q p.0 c p.1) (then_by a shape b)
gives_then P Q a shape b g h ts x s context rest st tr =
    let whole : Track context (s.0 ++ (s.1 ++ rest)) = subst (Track context) (append_assoc s.0 s.1 rest) (subst (λ (v : List Token). Track context (v ++ rest)) s.2 tr) in
    let first = g s.0 x.0 s.3 context (s.1 ++ rest) st whole in
    let second = h (is_inside context.service) x.0 first.0 s.1 x.1 s.4 context rest st first.1 in
    ((first.0, second.0), second.1)

pub gives_seq : {A B : Type 0} (P : Bool → A → Type 0) (Q : Bool → B → Type 0) (a : Rule A) (b : Rule B) → Gives P a → Gives Q b → Gives (λ c p. P c p.0 × Q c p.1) (seq a b)
gives_seq P Q a b g h = gives_then P (λ x. Q) a (shape_of b) (λ x. b) g (λ c x p. h)

pub gives_after : {B : Type 0} (Q : Bool → B → Type 0) (a : Kind) (b : Rule B) → is_turning a ≡ false → Gives Q b → Gives Q (after (token a) b)
gives_after Q a b t h = gives_made (λ c p. Any c p.0 × Q c p.1) Q (λ p. p.1) (seq (token a) b) (gives_seq Any Q (token a) b (gives_token a t) h) (λ c x p. p.1)

pub gives_before : {A B : Type 0} (P : Bool → A → Type 0) (Q : Bool → B → Type 0) (a : Rule A) (b : Rule B) → Gives P a → Gives Q b → Gives P (before a b)
gives_before P Q a b g h = gives_made (λ c p. P c p.0 × Q c p.1) P (λ p. p.0) (seq a b) (gives_seq P Q a b g h) (λ c x p. p.0)

pub gives_either : {A : Type 0} (P : Bool → A → Type 0) (a b : Rule A) → Gives P a → Gives P b → Gives P (either a b)
gives_either P a b g h ts x s = elim s [ inl l ↦ g ts x l | inr r ↦ h ts x r ]

abbrev pub Maybe : {A : Type 0} → (Bool → A → Type 0) → Bool → Option A → Type 0
Maybe P b None = Unit {0}
Maybe P b (Some x) = P b x

pub gives_opt : {A : Type 0} (P : Bool → A → Type 0) (a : Rule A) → Gives P a → Gives (Maybe P) (opt a)
gives_opt P a g ts None s context rest st tr = (tt, subst (λ (v : List Token). Track context (v ++ rest)) s tr)
gives_opt P a g ts (Some x) s context rest st tr = g ts x s context rest st tr

abbrev pub Each : {A : Type 0} → (Bool → A → Type 0) → Bool → List A → Type 0
Each P b [] = Unit {0}
Each P b (x ∷ xs) = P b x × Each P b xs

-- each under what those before it left
abbrev pub EachFrom : {S A : Type 0} → (S → Bool → A → Type 0) → (S → A → S) → S → Bool → List A → Type 0
EachFrom P step s b [] = Unit {0}
EachFrom P step s b (x ∷ xs) = P s b x × EachFrom P step (step s x) b xs

module _ {S A : Type 0} (P : S → Bool → A → Type 0) (shape : Shape) (rule : S → Rule A) (step : S → A → S) (g : (s : S) → Gives (P s) (rule s)) where
  pub gives_from : (s : S) → Gives (EachFrom P step s) (many_from shape rule step s)
  gives_from s ts [] h context rest st tr = (tt, subst (λ (v : List Token). Track context (v ++ rest)) h tr)
  gives_from s ts (x ∷ xs) h context rest st tr =
      let whole : Track context (h.0 ++ (h.1 ++ rest)) = subst (Track context) (append_assoc h.0 h.1 rest) (subst (λ (v : List Token). Track context (v ++ rest)) h.2 tr) in
      let first = g s h.0 x h.3 context (h.1 ++ rest) st whole in
      let further = gives_from (step s x) h.1 xs h.4 context rest st first.1 in
      ((first.0, further.0), further.1)

pub gives_many : {A : Type 0} (P : Bool → A → Type 0) (a : Rule A) → Gives P a → Gives (Each P) (many a)
gives_many P a g ts [] h context rest st tr = (tt, subst (λ (v : List Token). Track context (v ++ rest)) h tr)
gives_many P a g ts (x ∷ xs) h context rest st tr =
    let whole : Track context (h.0 ++ (h.1 ++ rest)) = subst (Track context) (append_assoc h.0 h.1 rest) (subst (λ (v : List Token). Track context (v ++ rest)) h.2 tr) in
    let first = g h.0 x h.3 context (h.1 ++ rest) st whole in
    let further = gives_many P a g h.1 xs h.4 context rest st first.1 in
    ((first.0, further.0), further.1)

pub gives_chain : {A : Type 0} (P : Bool → A → Type 0) (mark : Kind) (a : Rule A) → is_turning mark ≡ false → Gives P a → Gives (Each P) (chain mark a)
gives_chain P mark a t g = gives_made (λ c p. P c p.0 × Each P c p.1) (Each P) (λ p. p.0 ∷ p.1) (seq a (many (after (token mark) a))) (gives_seq P (Each P) a (many (after (token mark) a)) g (gives_many P (after (token mark) a) (gives_after P mark a t g))) (λ c x p. p)

-- one part at least
abbrev pub Some_of : {A : Type 0} → (Bool → A → Type 0) → Bool → List A → Type 0
Some_of P b [] = ⊥
Some_of P b (x ∷ xs) = P b x × Each P b xs

pub gives_chained : {A : Type 0} (P : Bool → A → Type 0) (mark : Kind) (a : Rule A) → is_turning mark ≡ false → Gives P a → Gives (Some_of P) (chain mark a)
gives_chained P mark a t g = gives_made (λ c p. P c p.0 × Each P c p.1) (Some_of P) (λ p. p.0 ∷ p.1) (seq a (many (after (token mark) a))) (gives_seq P (Each P) a (many (after (token mark) a)) g (gives_many P (after (token mark) a) (gives_after P mark a t g))) (λ c x p. p)

pub gives_some : {A : Type 0} (P : Bool → A → Type 0) (a : Rule A) → Gives P a → Gives (Some_of P) (some a)
gives_some P a g = gives_made (λ c p. P c p.0 × Each P c p.1) (Some_of P) (λ p. p.0 ∷ p.1) (seq a (many a)) (gives_seq P (Each P) a (many a) g (gives_many P a g)) (λ c x p. p)

pub gives_nested : {A : Type 0} (P : Bool → A → Type 0) (rule : Rule A → Rule A) → ((a : Rule A) → Gives P a → Gives P (rule a)) → (n : ℕ) → Gives P (nested rule n)
unfolding depth
gives_nested P rule h zero ts x s = absurd s
gives_nested P rule h (suc n) ts x s = h (nested rule n) (gives_nested P rule h n) ts x s

-- ---- brackets

-- a rule between two tokens
pub record Bracketed {A : Type 0} (o c : Kind) (a : Rule A) (ts : List Token) (x : A) : Type 0 where
  pub first : Token
  pub last : Token
  pub mid : List Token
  pub whole : ts ≡ first ∷ (mid ++ last ∷ [])
  pub opens : kind_of first ≡ o
  pub closes : kind_of last ≡ c
  pub inside : a.spells mid x

pub bracketed : {A : Type 0} (o c : Kind) (a : Rule A) (ts : List Token) (x : A) → (before (after (token o) a) (token c)).spells ts x → Bracketed o c a ts x
bracketed o c a ts x s =
    let outer = s.1 in
    let inner = outer.3 in
    let parts = inner.1 in
    let open_ = parts.3 in
    let close_ = outer.4 in
    let front : outer.0 ≡ open_.0 ∷ parts.1 = parts.2 ∙ ap (λ (v : List Token). v ++ parts.1) open_.1 in
    record {
      first = open_.0;
      last = close_.0;
      mid = parts.1;
      whole = outer.2 ∙ (λ i. front i ++ close_.1 i);
      opens = sym (same_rank o (kind_of open_.0) open_.2);
      closes = sym (same_rank c (kind_of close_.0) close_.2);
      inside = subst (a.spells parts.1) (sym (s.2 ∙ inner.2)) parts.4;
    }

room_one : (d : ℕ) → nat_lt d 64 ≡ true → one_more d ≡ d + 1
room_one d h = ap (λ (b : Bool). cond b (d + 1) d) h

past_first : (context : Context) (first : Token) (rest : List Token) (o : Kind) → kind_of first ≡ o → is_bad o ≡ false → is_bracket o ≡ true → Track context (first ∷ rest) → (nat_lt context.depth 64 ≡ true) × Track (behind context o) rest
past_first context first rest o e b r tr =
    let x = tr (ap is_bad e ∙ b) in
    (x.1 (ap is_bracket e ∙ r), subst (λ (v : Kind). Track (behind context v) rest) e x.3)

past_last : (context : Context) (last : Token) (rest : List Token) (c : Kind) → kind_of last ≡ c → is_bad c ≡ false → Track context (last ∷ rest) → Track (behind context c) rest
past_last context last rest c e b tr = subst (λ (v : Kind). Track (behind context v) rest) e (tr (ap is_bad e ∙ b)).3

regroup : (first last : Token) (mid rest : List Token) → (first ∷ (mid ++ last ∷ [])) ++ rest ≡ first ∷ (mid ++ last ∷ rest)
regroup first last mid rest = ap (λ (v : List Token). first ∷ v) (append_assoc mid (last ∷ []) rest)

pub gives_parens : {A : Type 0} (P : Bool → A → Type 0) (a : Rule A) → Gives P a → Gives P (parens a)
gives_parens P a g ts x s context rest st tr =
    let b = bracketed k.LeftParen k.RightParen a ts x s in
    let whole : Track context (b.first ∷ (b.mid ++ b.last ∷ rest)) = subst (Track context) (regroup b.first b.last b.mid rest) (subst (λ (v : List Token). Track context (v ++ rest)) b.whole tr) in
    let f = past_first context b.first (b.mid ++ b.last ∷ rest) k.LeftParen b.opens refl refl whole in
    let within : Context = record { depth = context.depth + 1; service = context.service } in
    let at : Track within (b.mid ++ b.last ∷ rest) = subst (λ (d : ℕ). Track (record { depth = d; service = context.service }) (b.mid ++ b.last ∷ rest)) (room_one context.depth f.0) f.1 in
    let r = g b.mid x b.inside within (b.last ∷ rest) (deeper context.depth context.service st) at in
    (r.0, subst (λ (v : Context). Track v rest) (back context st) (past_last within b.last rest k.RightParen b.closes refl r.1))

pub braced_within : {A : Type 0} (P : Bool → A → Type 0) (a : Rule A) (ts : List Token) (x : A) → ((context : Context) (rest : List Token) (mid : List Token) → a.spells mid x → SteadyAt context.depth context.service → Track context (mid ++ rest) → P (is_inside context.service) x × Track context rest)
    → Bracketed k.LeftBrace k.RightBrace a ts x → (context : Context) (rest : List Token) → SteadyAt context.depth context.service → Track context (ts ++ rest) → P (is_inside context.service) x × Track context rest
braced_within P a ts x g b context rest st tr =
    let whole : Track context (b.first ∷ (b.mid ++ b.last ∷ rest)) = subst (Track context) (regroup b.first b.last b.mid rest) (subst (λ (v : List Token). Track context (v ++ rest)) b.whole tr) in
    let f = past_first context b.first (b.mid ++ b.last ∷ rest) k.LeftBrace b.opens refl refl whole in
    let within : Context = record { depth = context.depth + 1; service = context.service } in
    let near : Track (record { depth = context.depth + 1; service = opened context.depth context.service }) (b.mid ++ b.last ∷ rest) = subst (λ (d : ℕ). Track (record { depth = d; service = opened context.depth context.service }) (b.mid ++ b.last ∷ rest)) (room_one context.depth f.0) f.1 in
    let at : Track within (b.mid ++ b.last ∷ rest) = subst (λ (v : Service). Track (record { depth = context.depth + 1; service = v }) (b.mid ++ b.last ∷ rest)) (same_opened context.depth context.service st) near in
    let r = g within (b.last ∷ rest) b.mid b.inside (deeper context.depth context.service st) at in
    (r.0, subst (λ (v : Context). Track v rest) (back context st) (past_last within b.last rest k.RightBrace b.closes refl r.1))

pub gives_braces : {A : Type 0} (P : Bool → A → Type 0) (a : Rule A) → Gives P a → Gives P (braces a)
gives_braces P a g ts x s = braced_within P a ts x (λ context rest mid m. g mid x m context rest) (bracketed k.LeftBrace k.RightBrace a ts x s)

-- the braces of a SERVICE: what stands in them is within it
pub served_within : {A : Type 0} (P : Bool → A → Type 0) (a : Rule A) (ts : List Token) (x : A) → Gives P a → (braces a).spells ts x → (d : ℕ) (rest : List Token) → Track (record { depth = d; service = Named }) (ts ++ rest) → P true x × Track (record { depth = d; service = Outside }) rest
served_within P a ts x g s d rest tr =
    let b = bracketed k.LeftBrace k.RightBrace a ts x s in
    let start : Context = record { depth = d; service = Named } in
    let whole : Track start (b.first ∷ (b.mid ++ b.last ∷ rest)) = subst (Track start) (regroup b.first b.last b.mid rest) (subst (λ (v : List Token). Track start (v ++ rest)) b.whole tr) in
    let f = past_first start b.first (b.mid ++ b.last ∷ rest) k.LeftBrace b.opens refl refl whole in
    let within : Context = record { depth = d + 1; service = Inside d } in
    let at : Track within (b.mid ++ b.last ∷ rest) = subst (λ (n : ℕ). Track (record { depth = n; service = Inside d }) (b.mid ++ b.last ∷ rest)) (room_one d f.0) f.1 in
    let r = g b.mid x b.inside within (b.last ∷ rest) (omega arith) at in
    let far = past_last within b.last rest k.RightBrace b.closes refl r.1 in
    let less : d + 1 - 1 ≡ d = omega arith in
    (r.0, subst (λ (v : Bool). Track (record { depth = d; service = cond v Outside (Inside d) }) rest) (eq-eqb d d refl) (subst (λ (n : ℕ). Track (record { depth = n; service = closed n (Inside d) }) rest) less far))

-- ---- the same, where the rule is found from the fact

pub record Given {A : Type 0} (P : Bool → A → Type 0) (r : Rule A) : Type 0 where
  pub holds : Gives P r

pub of_one : {A : Type 0} {P : Bool → A → Type 0} (kinds : Kind → Bool) (value : Token → Result A SyntaxKind) → Apart kinds is_turning → ((b : Bool) (t : Token) (x : A) → value t ≡ Ok x → GoodToken t → P b x) → Given P (one kinds value)
of_one {A} {P} kinds value a h = record { holds = gives_one P kinds value a h }

pub of_token : (a : Kind) → is_turning a ≡ false → Given Any (token a)
of_token a h = record { holds = gives_token a h }

pub of_refusing : {A : Type 0} {P : Bool → A → Type 0} (why : SyntaxKind) (kinds : Kind → Bool) → Given P (refusing why kinds)
of_refusing {A} {P} why kinds = record { holds = gives_refusing P why kinds }

pub of_made : {A B : Type 0} {P : Bool → A → Type 0} {Q : Bool → B → Type 0} {a : Rule A} (f : A → B) → Given P a → ((b : Bool) (x : A) → P b x → Q b (f x)) → Given Q (made f a)
of_made {A} {B} {P} {Q} {a} f g h = record { holds = gives_made P Q f a g.holds h }

pub of_seq : {A B : Type 0} {P : Bool → A → Type 0} {Q : Bool → B → Type 0} {a : Rule A} {b : Rule B} → Given P a → Given Q b → Given (λ c (p : A × B). P c p.0 × Q c p.1) (seq a b)
of_seq {A} {B} {P} {Q} {a} {b} g h = record { holds = gives_seq P Q a b g.holds h.holds }

pub of_after : {B : Type 0} {Q : Bool → B → Type 0} {b : Rule B} (a : Kind) → is_turning a ≡ false → Given Q b → Given Q (after (token a) b)
of_after {B} {Q} {b} a t h = record { holds = gives_after Q a b t h.holds }

pub of_before : {A B : Type 0} {P : Bool → A → Type 0} {Q : Bool → B → Type 0} {a : Rule A} {b : Rule B} → Given P a → Given Q b → Given P (before a b)
of_before {A} {B} {P} {Q} {a} {b} g h = record { holds = gives_before P Q a b g.holds h.holds }

pub of_either : {A : Type 0} {P : Bool → A → Type 0} {a b : Rule A} → Given P a → Given P b → Given P (either a b)
of_either {A} {P} {a} {b} g h = record { holds = gives_either P a b g.holds h.holds }

pub of_opt : {A : Type 0} {P : Bool → A → Type 0} {a : Rule A} → Given P a → Given (Maybe P) (opt a)
of_opt {A} {P} {a} g = record { holds = gives_opt P a g.holds }

pub of_many : {A : Type 0} {P : Bool → A → Type 0} {a : Rule A} → Given P a → Given (Each P) (many a)
of_many {A} {P} {a} g = record { holds = gives_many P a g.holds }

pub of_chain : {A : Type 0} {P : Bool → A → Type 0} {a : Rule A} (mark : Kind) → is_turning mark ≡ false → Given P a → Given (Some_of P) (chain mark a)
of_chain {A} {P} {a} mark t g = record { holds = gives_chained P mark a t g.holds }

pub of_some : {A : Type 0} {P : Bool → A → Type 0} {a : Rule A} → Given P a → Given (Some_of P) (some a)
of_some {A} {P} {a} g = record { holds = gives_some P a g.holds }

pub of_parens : {A : Type 0} {P : Bool → A → Type 0} {a : Rule A} → Given P a → Given P (parens a)
of_parens {A} {P} {a} g = record { holds = gives_parens P a g.holds }

pub of_braces : {A : Type 0} {P : Bool → A → Type 0} {a : Rule A} → Given P a → Given P (braces a)
of_braces {A} {P} {a} g = record { holds = gives_braces P a g.holds }

pub each_of : {A : Type 0} (P : Bool → A → Type 0) (b : Bool) (xs : List A) → Some_of P b xs → Each P b xs
each_of P b [] h = tt
each_of P b (x ∷ xs) h = h

pub of_nested : {A : Type 0} {P : Bool → A → Type 0} (rule : Rule A → Rule A) → ((a : Rule A) → Given P a → Given P (rule a)) → (n : ℕ) → Given P (nested rule n)
of_nested {A} {P} rule h n = record { holds = gives_nested P rule (λ a g. (h a (record { holds = g })).holds) n }

pub of_then : {A B : Type 0} {P : Bool → A → Type 0} (Q : A → Bool → B → Type 0) {a : Rule A} (shape : Shape) (b : A → Rule B) → Given P a → ((c : Bool) (x : A) → P c x → Given (Q x) (b x)) → Given (λ c (p : A × B). P c p.0 × Q p.0 c p.1) (then_by a shape b)
of_then {A} {B} {P} Q {a} shape b g h = record { holds = gives_then P Q a shape b g.holds (λ c x p. (h c x p).holds) }

pub of_from : {S A : Type 0} (P : S → Bool → A → Type 0) (shape : Shape) (rule : S → Rule A) (step : S → A → S) → ((s : S) → Given (P s) (rule s)) → (s : S) → Given (EachFrom P step s) (many_from shape rule step s)
of_from P shape rule step g s = record { holds = gives_from P shape rule step (λ s. (g s).holds) s }
