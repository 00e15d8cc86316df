-- Tokens that stay as they are where they stand: brackets that are closed again, of which few enough are open at once.
use Rattle.std.proofs.Common.{◌≡◌, ℕ, suc, ◌+◌, ◌-◌, ◌<◌, ◌≤◌, Bool, true, false, cond, not, List, [], ◌∷◌, ◌++◌, refl, sym, ap, ◌∙◌, subst, arith, append_assoc, ◌&&◌, nat_lt}
use Rattle.std.specs.List.{list_all}
use Rattle.std.proofs.lemmas.Bool.{eq-eqb, and_from, lt-ltb, ne_eqb, and_parts, not-true}
use Rattle.fx_grammar.specs.Kinds.{is, kind_of}
use Rattle.fx_grammar.specs.Classified.{kind_in, placed, behind, all_placed, one_more, opened, closed}
use Rattle.fx_grammar.specs.declared.places.Context.{Context}
use Rattle.fx_grammar.specs.declared.places.Service.{Service}
use Rattle.fx_grammar.specs.declared.places.Service.TheVariants.{Outside, Named, Inside}
use Rattle.fx_grammar.specs.declared.kinds.Kind.{Kind}
use Rattle.fx_grammar.specs.declared.kinds.Kind.TheVariants as k
use Rattle.fx_grammar.specs.declared.kinds.Token.{Token}
use Rattle.fx_grammar.specs.declared.kinds.Token.TheVariants as token

-- not directly behind SERVICE, and between the braces of a SERVICE only where they are open
abbrev pub SteadyAt : ℕ → Service → Type 0
SteadyAt depth Outside = Unit {0}
SteadyAt depth Named = ⊥
SteadyAt depth (Inside before) = before < depth

-- where SERVICE may stand
abbrev pub Allows : Bool → Service → Type 0
Allows true service = service ≡ Outside
Allows false service = Unit {0}

-- The tokens stay as they are where so many more brackets may be opened, and leave the place as it was. Where the test is true,
-- SERVICE may be among them.
abbrev pub Passes : Bool → ℕ → List Token → Type 0
Passes serves n tokens =
    (context : Context) (rest : List Token) → SteadyAt context.depth context.service → Allows serves context.service → context.depth + n ≤ 64 → all_placed context (tokens ++ rest) ≡ tokens ++ all_placed context rest

pub passes_none : (serves : Bool) (n : ℕ) → Passes serves n []
passes_none serves n context rest s a h = refl

pub passes_both : (serves : Bool) (n : ℕ) (xs ys : List Token) → Passes serves n xs → Passes serves n ys → Passes serves n (xs ++ ys)
passes_both serves n xs ys p q context rest s a h =
    ap (all_placed context) (append_assoc xs ys rest) ∙ p context (ys ++ rest) s a h ∙ ap (λ v. xs ++ v) (q context rest s a h) ∙ sym (append_assoc xs ys (all_placed context rest))

pub passes_less : (serves : Bool) (m n : ℕ) (tokens : List Token) → m ≤ n → Passes serves m tokens → Passes serves n tokens
passes_less serves m n tokens l p context rest s a h = p context rest s a (omega (arith, l, h))

pub passes_served : (serves : Bool) (n : ℕ) (tokens : List Token) → Passes false n tokens → Passes serves n tokens
passes_served serves n tokens p context rest s a h = p context rest s tt h

-- ---- tokens that open and close nothing

abbrev pub is_calm : Token → Bool
is_calm t = not (is k.LeftBrace (kind_of t)) && (not (is k.LeftParen (kind_of t)) && (not (is k.RightBrace (kind_of t)) && (not (is k.RightParen (kind_of t)) && not (is k.Service (kind_of t)))))

record Calm (kind : Kind) : Type 0 where
  brace : is k.LeftBrace kind ≡ false
  paren : is k.LeftParen kind ≡ false
  closing : is k.RightBrace kind ≡ false
  closed : is k.RightParen kind ≡ false
  service : is k.Service kind ≡ false

calm_of : (t : Token) → is_calm t ≡ true → Calm (kind_of t)
calm_of t h =
    let a = and_parts (not (is k.LeftBrace (kind_of t))) _ h in
    let b = and_parts (not (is k.LeftParen (kind_of t))) _ a.1 in
    let c = and_parts (not (is k.RightBrace (kind_of t))) _ b.1 in
    let d = and_parts (not (is k.RightParen (kind_of t))) _ c.1 in
    record { brace = not-true _ a.0; paren = not-true _ b.0; closing = not-true _ c.0; closed = not-true _ d.0; service = not-true _ d.1 }

calm_kind : (context : Context) (a : Kind) → Calm a → kind_in context a ≡ a
calm_kind context a c = rw (c.brace, c.paren, c.service) refl

calm_placed : (context : Context) (t : Token) → Calm (kind_of t) → placed context t ≡ t
calm_placed context (token.Plain kind) c = ap token.Plain (calm_kind context kind c)
calm_placed context (token.Comparison op) c = refl
calm_placed context (token.One f) c = refl
calm_placed context (token.Two f) c = refl
calm_placed context (token.Variable name) c = refl
calm_placed context (token.Iri iri) c = refl
calm_placed context (token.PrefixName prefix local) c = refl
calm_placed context (token.Tag tag) c = refl
calm_placed context (token.Integer digits) c = refl
calm_placed context (token.Signed digits) c = refl
calm_placed context (token.Text text) c = refl

calm_behind : (context : Context) (a : Kind) → Calm a → behind context a ≡ context
calm_behind context a c = rw (c.brace, c.paren, c.closing, c.closed, c.service) refl

passes_one : (serves : Bool) (n : ℕ) (t : Token) → is_calm t ≡ true → Passes serves n (t ∷ [])
unfolding all_placed
passes_one serves n t h context rest s a l =
    let c = calm_of t h in
    ap (λ v. v ∷ all_placed (behind context (kind_of t)) rest) (calm_placed context t c) ∙ ap (λ v. t ∷ all_placed v rest) (calm_behind context (kind_of t) c)

pub passes_calm : (serves : Bool) (n : ℕ) (tokens : List Token) → list_all is_calm tokens ≡ true → Passes serves n tokens
passes_calm serves n [] h = passes_none serves n
passes_calm serves n (t ∷ tokens) h =
    let c = and_parts (is_calm t) (list_all is_calm tokens) h in
    passes_both serves n (t ∷ []) tokens (passes_one serves n t c.0) (passes_calm serves n tokens c.1)

pub calm_both : (xs ys : List Token) → list_all is_calm xs ≡ true → list_all is_calm ys ≡ true → list_all is_calm (xs ++ ys) ≡ true
calm_both [] ys h g = g
calm_both (x ∷ xs) ys h g = let c = and_parts (is_calm x) (list_all is_calm xs) h in and_from (is_calm x) (list_all is_calm (xs ++ ys)) c.0 (calm_both xs ys c.1 g)

-- a calm token in front
pub passes_behind : (serves : Bool) (n : ℕ) (t : Token) (tokens : List Token) → is_calm t ≡ true → Passes serves n tokens → Passes serves n (t ∷ tokens)
passes_behind serves n t tokens h p = passes_both serves n (t ∷ []) tokens (passes_one serves n t h) p

-- ---- brackets

-- one bracket more is open
inner : Context → Context
inner context = record { depth = context.depth + 1; service = context.service }

pub deeper : (depth : ℕ) (service : Service) → SteadyAt depth service → SteadyAt (depth + 1) service
deeper depth Outside s = tt
deeper depth Named s = s
deeper depth (Inside before) s = omega (arith, s)

still_open : (depth : ℕ) (service : Service) → SteadyAt depth service → closed depth service ≡ service
still_open depth Outside s = refl
still_open depth Named s = refl
still_open depth (Inside before) s = ap (λ (b : Bool). cond b Outside (Inside before)) (ne_eqb depth before (λ e. absurd (omega (arith, s, e))))

pub same_opened : (depth : ℕ) (service : Service) → SteadyAt depth service → opened depth service ≡ service
same_opened depth Outside s = refl
same_opened depth Named s = absurd s
same_opened depth (Inside before) s = refl

below : (depth n : ℕ) → depth + suc n ≤ 64 → nat_lt depth 64 ≡ true
below depth n h = lt-ltb depth 64 (omega (arith, h))

one_more_is : (depth n : ℕ) → depth + suc n ≤ 64 → one_more depth ≡ depth + 1
one_more_is depth n h = ap (λ (b : Bool). cond b (depth + 1) depth) (below depth n h)

opens_paren : (context : Context) (n : ℕ) (rest : List Token) → context.depth + suc n ≤ 64 → all_placed context (token.Plain k.LeftParen ∷ rest) ≡ token.Plain k.LeftParen ∷ all_placed (inner context) rest
unfolding all_placed inner
opens_paren context n rest h =
    ap (λ (b : Bool). token.Plain (cond b k.LeftParen k.TooDeep) ∷ all_placed (record { depth = one_more context.depth; service = context.service }) rest) (below context.depth n h)
    ∙ ap (λ (d : ℕ). token.Plain k.LeftParen ∷ all_placed (record { depth = d; service = context.service }) rest) (one_more_is context.depth n h)

opens_brace : (context : Context) (n : ℕ) (rest : List Token) → SteadyAt context.depth context.service → context.depth + suc n ≤ 64 → all_placed context (token.Plain k.LeftBrace ∷ rest) ≡ token.Plain k.LeftBrace ∷ all_placed (inner context) rest
unfolding all_placed inner
opens_brace context n rest s h =
    ap (λ (b : Bool). token.Plain (cond b k.LeftBrace k.TooDeep) ∷ all_placed (record { depth = one_more context.depth; service = opened context.depth context.service }) rest) (below context.depth n h)
    ∙ ap (λ (d : ℕ). token.Plain k.LeftBrace ∷ all_placed (record { depth = d; service = opened context.depth context.service }) rest) (one_more_is context.depth n h)
    ∙ ap (λ (v : Service). token.Plain k.LeftBrace ∷ all_placed (record { depth = context.depth + 1; service = v }) rest) (same_opened context.depth context.service s)

pub back : (context : Context) → SteadyAt context.depth context.service → record { depth = context.depth + 1 - 1; service = closed (context.depth + 1 - 1) context.service } ≡ context
back context s =
    let d : context.depth + 1 - 1 ≡ context.depth = omega arith in
    ap (λ (n : ℕ). record { depth = n; service = closed n context.service }) d ∙ ap (λ (v : Service). record { depth = context.depth; service = v }) (still_open context.depth context.service s)

closes_paren : (context : Context) (rest : List Token) → SteadyAt context.depth context.service → all_placed (inner context) (token.Plain k.RightParen ∷ rest) ≡ token.Plain k.RightParen ∷ all_placed context rest
unfolding all_placed inner
closes_paren context rest s = ap (λ (c : Context). token.Plain k.RightParen ∷ all_placed c rest) (back context s)

closes_brace : (context : Context) (rest : List Token) → SteadyAt context.depth context.service → all_placed (inner context) (token.Plain k.RightBrace ∷ rest) ≡ token.Plain k.RightBrace ∷ all_placed context rest
unfolding all_placed inner
closes_brace context rest s = ap (λ (c : Context). token.Plain k.RightBrace ∷ all_placed c rest) (back context s)

inside_steady : (context : Context) → SteadyAt context.depth context.service → SteadyAt (inner context).depth (inner context).service
unfolding inner
inside_steady context s = deeper context.depth context.service s

inside_allows : (serves : Bool) (context : Context) → Allows serves context.service → Allows serves (inner context).service
unfolding inner
inside_allows serves context a = a

inside_room : (context : Context) (n : ℕ) → context.depth + suc n ≤ 64 → (inner context).depth + n ≤ 64
unfolding inner
inside_room context n h = omega (arith, h)

pub passes_parens : (serves : Bool) (n : ℕ) (tokens : List Token) → Passes serves n tokens → Passes serves (suc n) (token.Plain k.LeftParen ∷ (tokens ++ token.Plain k.RightParen ∷ []))
passes_parens serves n tokens p context rest s a h =
    ap (λ (v : List Token). all_placed context (token.Plain k.LeftParen ∷ v)) (append_assoc tokens (token.Plain k.RightParen ∷ []) rest)
    ∙ opens_paren context n (tokens ++ token.Plain k.RightParen ∷ rest) h
    ∙ ap (λ (v : List Token). token.Plain k.LeftParen ∷ v) (p (inner context) (token.Plain k.RightParen ∷ rest) (inside_steady context s) (inside_allows serves context a) (inside_room context n h))
    ∙ ap (λ (v : List Token). token.Plain k.LeftParen ∷ (tokens ++ v)) (closes_paren context rest s)
    ∙ ap (λ (v : List Token). token.Plain k.LeftParen ∷ v) (sym (append_assoc tokens (token.Plain k.RightParen ∷ []) (all_placed context rest)))

pub passes_braces : (serves : Bool) (n : ℕ) (tokens : List Token) → Passes serves n tokens → Passes serves (suc n) (token.Plain k.LeftBrace ∷ (tokens ++ token.Plain k.RightBrace ∷ []))
passes_braces serves n tokens p context rest s a h =
    ap (λ (v : List Token). all_placed context (token.Plain k.LeftBrace ∷ v)) (append_assoc tokens (token.Plain k.RightBrace ∷ []) rest)
    ∙ opens_brace context n (tokens ++ token.Plain k.RightBrace ∷ rest) s h
    ∙ ap (λ (v : List Token). token.Plain k.LeftBrace ∷ v) (p (inner context) (token.Plain k.RightBrace ∷ rest) (inside_steady context s) (inside_allows serves context a) (inside_room context n h))
    ∙ ap (λ (v : List Token). token.Plain k.LeftBrace ∷ (tokens ++ v)) (closes_brace context rest s)
    ∙ ap (λ (v : List Token). token.Plain k.LeftBrace ∷ v) (sym (append_assoc tokens (token.Plain k.RightBrace ∷ []) (all_placed context rest)))

-- ---- SERVICE

calm_any : (tokens : List Token) → list_all is_calm tokens ≡ true → (context : Context) (rest : List Token) → all_placed context (tokens ++ rest) ≡ tokens ++ all_placed context rest
unfolding all_placed
calm_any [] h context rest = refl
calm_any (t ∷ tokens) h context rest =
    let both = and_parts (is_calm t) (list_all is_calm tokens) h in
    let c = calm_of t both.0 in
    ap (λ v. v ∷ all_placed (behind context (kind_of t)) (tokens ++ rest)) (calm_placed context t c) ∙ ap (λ (v : Context). t ∷ all_placed v (tokens ++ rest)) (calm_behind context (kind_of t) c)
    ∙ ap (λ (v : List Token). t ∷ v) (calm_any tokens both.1 context rest)

module _ (depth : ℕ) where
  outside : Context
  outside = record { depth = depth; service = Outside }

  serving : Context
  serving = record { depth = depth; service = Named }

  served : Context
  served = record { depth = depth + 1; service = Inside depth }

  begins_service : (rest : List Token) → all_placed outside (token.Plain k.Service ∷ rest) ≡ token.Plain k.Service ∷ all_placed serving rest
  unfolding all_placed outside serving
  begins_service rest = refl

  opens_service : (n : ℕ) (rest : List Token) → depth + suc n ≤ 64 → all_placed serving (token.Plain k.LeftBrace ∷ rest) ≡ token.Plain k.LeftBrace ∷ all_placed served rest
  unfolding all_placed serving served
  opens_service n rest h =
      ap (λ (b : Bool). token.Plain (cond b k.LeftBrace k.TooDeep) ∷ all_placed (record { depth = one_more depth; service = Inside depth }) rest) (below depth n h)
      ∙ ap (λ (d : ℕ). token.Plain k.LeftBrace ∷ all_placed (record { depth = d; service = Inside depth }) rest) (one_more_is depth n h)

  closes_service : (rest : List Token) → all_placed served (token.Plain k.RightBrace ∷ rest) ≡ token.Plain k.RightBrace ∷ all_placed outside rest
  unfolding all_placed served outside
  closes_service rest =
      let d : depth + 1 - 1 ≡ depth = omega arith in
      ap (λ (n : ℕ). token.Plain k.RightBrace ∷ all_placed (record { depth = n; service = closed n (Inside depth) }) rest) d
      ∙ ap (λ (b : Bool). token.Plain k.RightBrace ∷ all_placed (record { depth = depth; service = cond b Outside (Inside depth) }) rest) (eq-eqb depth depth refl)

  inside_service : (n : ℕ) (tokens rest : List Token) → Passes false n tokens → depth + suc n ≤ 64 → all_placed served (tokens ++ token.Plain k.RightBrace ∷ rest) ≡ tokens ++ all_placed served (token.Plain k.RightBrace ∷ rest)
  unfolding served
  inside_service n tokens rest p h = p (record { depth = depth + 1; service = Inside depth }) (token.Plain k.RightBrace ∷ rest) (omega arith) tt (omega (arith, h))

  service_within : (name : List Token) (n : ℕ) (tokens rest : List Token) → list_all is_calm name ≡ true → Passes false n tokens → depth + suc n ≤ 64
      → all_placed outside (token.Plain k.Service ∷ (name ++ (token.Plain k.LeftBrace ∷ (tokens ++ token.Plain k.RightBrace ∷ rest)))) ≡ token.Plain k.Service ∷ (name ++ (token.Plain k.LeftBrace ∷ (tokens ++ token.Plain k.RightBrace ∷ all_placed outside rest)))
  service_within name n tokens rest c p h =
      begins_service (name ++ (token.Plain k.LeftBrace ∷ (tokens ++ token.Plain k.RightBrace ∷ rest)))
      ∙ ap (λ (v : List Token). token.Plain k.Service ∷ v) (calm_any name c serving (token.Plain k.LeftBrace ∷ (tokens ++ token.Plain k.RightBrace ∷ rest)))
      ∙ ap (λ (v : List Token). token.Plain k.Service ∷ (name ++ v)) (opens_service n (tokens ++ token.Plain k.RightBrace ∷ rest) h)
      ∙ ap (λ (v : List Token). token.Plain k.Service ∷ (name ++ (token.Plain k.LeftBrace ∷ v))) (inside_service n tokens rest p h ∙ ap (λ (v : List Token). tokens ++ v) (closes_service rest))

  -- with the tokens behind it apart
  service_is : (name tokens rest : List Token) → (token.Plain k.Service ∷ (name ++ (token.Plain k.LeftBrace ∷ (tokens ++ token.Plain k.RightBrace ∷ [])))) ++ rest ≡ token.Plain k.Service ∷ (name ++ (token.Plain k.LeftBrace ∷ (tokens ++ token.Plain k.RightBrace ∷ rest)))
  service_is name tokens rest =
      ap (λ (v : List Token). token.Plain k.Service ∷ v)
      (append_assoc name (token.Plain k.LeftBrace ∷ (tokens ++ token.Plain k.RightBrace ∷ [])) rest ∙ ap (λ (v : List Token). name ++ (token.Plain k.LeftBrace ∷ v)) (append_assoc tokens (token.Plain k.RightBrace ∷ []) rest))

  service_outside : (name : List Token) (n : ℕ) (tokens rest : List Token) → list_all is_calm name ≡ true → Passes false n tokens → depth + suc n ≤ 64
      → all_placed (record { depth = depth; service = Outside }) ((token.Plain k.Service ∷ (name ++ (token.Plain k.LeftBrace ∷ (tokens ++ token.Plain k.RightBrace ∷ [])))) ++ rest)
      ≡ (token.Plain k.Service ∷ (name ++ (token.Plain k.LeftBrace ∷ (tokens ++ token.Plain k.RightBrace ∷ [])))) ++ all_placed (record { depth = depth; service = Outside }) rest
  unfolding outside
  service_outside name n tokens rest c p h =
      ap (all_placed (record { depth = depth; service = Outside })) (service_is name tokens rest) ∙ service_within name n tokens rest c p h ∙ sym (service_is name tokens (all_placed (record { depth = depth; service = Outside }) rest))

pub passes_service : (name : List Token) (n : ℕ) (tokens : List Token) → list_all is_calm name ≡ true → Passes false n tokens → Passes true (suc n) (token.Plain k.Service ∷ (name ++ (token.Plain k.LeftBrace ∷ (tokens ++ token.Plain k.RightBrace ∷ []))))
passes_service name n tokens c p context rest s a h =
    let whole = token.Plain k.Service ∷ (name ++ (token.Plain k.LeftBrace ∷ (tokens ++ token.Plain k.RightBrace ∷ []))) in
    subst (λ (v : Service). all_placed (record { depth = context.depth; service = v }) (whole ++ rest) ≡ whole ++ all_placed (record { depth = context.depth; service = v }) rest) (sym a) (service_outside context.depth name n tokens rest c p h)
