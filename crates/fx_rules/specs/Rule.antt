-- What a rule of a grammar is, over any symbols, and the ways to make one. What it spells is a relation between symbols and values,
-- and what stops it is one between symbols and refusals. How it is read from left to right is a function beside them, which is
-- proved to be the same. All are made together, one way at a time.
--
-- T, K and W are the types of symbols, of their kinds, and of the reasons for which some are refused.
use Rattle.std.specs.Prelude.{◌≡◌, ℕ, zero, suc, Bool, true, false, ◌||◌, ◌&&◌, ◌⊎◌, if◌then◌else◌, List, [], ◌∷◌, ◌++◌, length, Option, Some, None, Result, Ok, Err}

-- What the rules of a grammar know of its symbols.
pub record Alphabet (T K W : Type 0) : Type 0 where
  pub kind_of : T → K
  -- two kinds are the same
  pub is : K → K → Bool
  -- a symbol is missing, or is of a kind that may not stand there
  pub unexpected : W
  -- the reason at a symbol of a kind: symbols may be refused wherever reading comes to them, for a reason of their own
  pub why_of : W → K → W

-- a reason stays what it is where it is looked at once more
abbrev pub Settled : {T K W : Type 0} → Alphabet T K W → Type 0
Settled {T} {K} {W} G = (why : W) (kind : K) → G.why_of why kind ≡ G.why_of (G.why_of why kind) kind

-- Why, and how many symbols are left from the place on.
pub record Refusal (W : Type 0) : Type 0 where
  pub why : W
  pub left : ℕ

-- a value and the symbols after it, or the first refusal from the left
abbrev pub Outcome : Type 0 → Type 0 → Type 0 → Type 0
Outcome T W A = Result (A × List T) (Refusal W)

-- one reading after another: what is read goes on with what is left, and what is refused stays so
abbrev pub and_then : {A B L F : Type 0} → Result (A × L) F → (A → L → Result (B × L) F) → Result (B × L) F
and_then (Ok p) f = f p.0 p.1
and_then (Err r) f = Err r

-- A rule for values of A.
pub record Rule (T K W A : Type 0) : Type 1 where
  -- with which symbols it may begin, and whether it may have none
  pub begins : K → Bool
  pub empty : Bool
  -- which symbols after what it spells it may still take
  pub goes_on : K → Bool
  -- these symbols spell this value
  pub spells : List T → A → Type 0
  -- they spell it, and the next of the symbols behind them doesn't go on with it
  pub ends : List T → A → List T → Type 0
  -- these symbols stop it, for this reason at this place
  pub stops : List T → Refusal W → Type 0
  -- from left to right
  pub read : List T → Outcome T W A

-- no kind is both
abbrev pub Apart : {K : Type 0} → (K → Bool) → (K → Bool) → Type 0
Apart {K} p q = (kind : K) → p kind ≡ true → q kind ≡ false

abbrev pub no_kind : {K : Type 0} → K → Bool
no_kind a = false

-- ---- another value, and one after the other

-- what a rule spells, as another value
abbrev pub made : {T K W A B : Type 0} → (A → B) → Rule T K W A → Rule T K W B
made {T} {K} {W} {A} f a = record {
  begins = a.begins;
  empty = a.empty;
  goes_on = a.goes_on;
  spells = λ ts y. (x : A) × a.spells ts x × (y ≡ f x);
  ends = λ ts y rest. (x : A) × a.ends ts x rest × (y ≡ f x);
  stops = a.stops;
  read = λ ts. and_then (a.read ts) (λ x rest. Ok (f x, rest));
}

-- What rules that depend on what was read have in common.
pub record Shape (K : Type 0) : Type 0 where
  pub begins : K → Bool
  pub empty : Bool
  pub goes_on : K → Bool

abbrev pub shape_of : {T K W A : Type 0} → Rule T K W A → Shape K
shape_of a = record { begins = a.begins; empty = a.empty; goes_on = a.goes_on }

pub record Shaped {T K W A : Type 0} (shape : Shape K) (r : Rule T K W A) : Type 0 where
  pub begins : r.begins ≡ shape.begins
  pub empty : r.empty ≡ shape.empty
  pub goes_on : r.goes_on ≡ shape.goes_on

-- one, and then another that depends on it; the first stops, or it is spelled, the next symbol doesn't go on with it, and the
-- second stops at the rest
abbrev pub then_by : {T K W A B : Type 0} → Rule T K W A → Shape K → (A → Rule T K W B) → Rule T K W (A × B)
then_by {T} {K} {W} {A} a shape b = record {
  begins = λ k. a.begins k || (a.empty && shape.begins k);
  empty = a.empty && shape.empty;
  goes_on = λ k. shape.goes_on k || (shape.empty && a.goes_on k);
  spells = λ ts x. (front back : List T) × (ts ≡ front ++ back) × a.spells front x.0 × (b x.0).spells back x.1;
  ends = λ ts x rest. (front back : List T) × (ts ≡ front ++ back) × a.ends front x.0 (back ++ rest) × (b x.0).ends back x.1 rest;
  stops = λ ts f. a.stops ts f ⊎ ((x : A) × (front rest : List T) × (ts ≡ front ++ rest) × a.ends front x rest × (b x).stops rest f);
  read = λ ts. and_then (a.read ts) (λ x mid. and_then ((b x).read mid) (λ y rest. Ok ((x, y), rest)));
}

-- one after the other
abbrev pub seq : {T K W A B : Type 0} → Rule T K W A → Rule T K W B → Rule T K W (A × B)
seq a b = then_by a (shape_of b) (λ x. b)

-- the second of two, and the first
abbrev pub after : {T K W A B : Type 0} → Rule T K W A → Rule T K W B → Rule T K W B
after a b = made (λ p. p.1) (seq a b)

abbrev pub before : {T K W A B : Type 0} → Rule T K W A → Rule T K W B → Rule T K W A
before a b = made (λ p. p.0) (seq a b)

-- ---- parts of rules that may have nothing, or several

abbrev pub spells_opt : {T A : Type 0} → (List T → A → Type 0) → List T → Option A → Type 0
spells_opt spells ts None = ts ≡ []
spells_opt spells ts (Some x) = spells ts x

-- symbols of several, one after the other, each under what those before it left
abbrev pub spells_from : {T K W S A : Type 0} → (S → Rule T K W A) → (S → A → S) → S → List T → List A → Type 0
spells_from rule step s ts [] = ts ≡ []
spells_from {T} rule step s ts (x ∷ xs) = (front back : List T) × (ts ≡ front ++ back) × (rule s).spells front x × spells_from rule step (step s x) back xs

-- What a rule spells, what stops it and how it is read, where it may stand within itself so many times.
pub record Depth (T W A : Type 0) : Type 1 where
  pub spells : List T → A → Type 0
  pub ends : List T → A → List T → Type 0
  pub stops : List T → Refusal W → Type 0
  pub read : List T → Outcome T W A

abbrev pub with_depth : {T K W A : Type 0} → Shape K → Depth T W A → Rule T K W A
with_depth shape d = record {
  begins = shape.begins;
  empty = shape.empty;
  goes_on = shape.goes_on;
  spells = d.spells;
  ends = d.ends;
  stops = d.stops;
  read = d.read;
}

-- ---- laws that speak of no kind

-- no symbols that begin with those up to and with the refused one are accepted, however they go on
abbrev pub StaysRefused : {T W A : Type 0} → (List T → A → Type 0) → List T → Refusal W → Type 0
StaysRefused {T} {W} {A} accepted symbols refusal =
    (front after : List T) (t : T) → symbols ≡ front ++ t ∷ after → refusal.left ≡ length (t ∷ after) → (other : List T) (x : A) → accepted (front ++ t ∷ other) x → ⊥

-- what is spelled before a symbol that doesn't go on with it is spelled, and no symbols that begin with it and that symbol are
abbrev pub EndsAsSpelled : {T K W A : Type 0} → Rule T K W A → Type 0
EndsAsSpelled {T} {K} {W} {A} r =
    ((front rest : List T) (x : A) → r.ends front x rest → r.spells front x)
    × ((front rest other : List T) (t : T) (x y : A) → r.ends front x (t ∷ rest) → r.spells (front ++ t ∷ other) y → ⊥)

module _ {T K W : Type 0} (G : Alphabet T K W) where
  -- the reason at the first of these symbols, or behind the last of all
  abbrev pub why_at : W → List T → W
  why_at why [] = why
  why_at why (t ∷ ts) = G.why_of why (G.kind_of t)

  abbrev pub refused_at : W → List T → Refusal W
  refused_at why ts = record { why = why_at why ts; left = length ts }

  abbrev pub refuse : {A : Type 0} → W → List T → Outcome T W A
  refuse why ts = Err (refused_at why ts)

  -- the next symbol is of these kinds
  abbrev pub sees : (K → Bool) → List T → Bool
  sees p [] = false
  sees p (t ∷ ts) = p (G.kind_of t)

  -- ---- one symbol

  abbrev pub valued : {A : Type 0} → Result A W → List T → List T → Outcome T W A
  valued (Ok x) ts rest = Ok (x, rest)
  valued (Err why) ts rest = refuse why ts

  abbrev pub read_one : {A : Type 0} → (K → Bool) → (T → Result A W) → List T → Outcome T W A
  read_one kinds value [] = refuse G.unexpected []
  read_one kinds value (t ∷ ts) = if kinds (G.kind_of t) then valued (value t) (t ∷ ts) ts else refuse G.unexpected (t ∷ ts)

  -- one symbol of these kinds, as its value; it stops where the symbol is missing or of another kind, or has no value for a reason
  abbrev pub one : {A : Type 0} → (K → Bool) → (T → Result A W) → Rule T K W A
  one kinds value = record {
    begins = kinds;
    empty = false;
    goes_on = no_kind;
    spells = λ ts x. (t : T) × (ts ≡ t ∷ []) × (kinds (G.kind_of t) ≡ true) × (value t ≡ Ok x);
    ends = λ ts x rest. (t : T) × (ts ≡ t ∷ []) × (kinds (G.kind_of t) ≡ true) × (value t ≡ Ok x);
    stops = λ ts f.
        ((sees kinds ts ≡ false) × (f ≡ refused_at G.unexpected ts))
        ⊎ ((t : T) × (rest : List T) × (why : W) × (ts ≡ t ∷ rest) × (kinds (G.kind_of t) ≡ true) × (value t ≡ Err why) × (f ≡ refused_at why ts));
    read = read_one kinds value;
  }

  -- one symbol of a kind
  abbrev pub token : K → Rule T K W (Unit {0})
  token kind = one (G.is kind) (λ t. Ok tt)

  -- symbols of these kinds are refused here, for this reason
  abbrev pub refusing : {A : Type 0} → W → (K → Bool) → Rule T K W A
  refusing why kinds = record {
    begins = kinds;
    empty = false;
    goes_on = no_kind;
    spells = λ ts x. ⊥;
    ends = λ ts x rest. ⊥;
    stops = λ ts f. f ≡ refused_at (if sees kinds ts then why else G.unexpected) ts;
    read = λ ts. refuse (if sees kinds ts then why else G.unexpected) ts;
  }

  -- ---- a choice

  -- one or the other, as the next symbol says; it stops at once where that begins neither
  abbrev pub either : {A : Type 0} → Rule T K W A → Rule T K W A → Rule T K W A
  either a b = record {
    begins = λ k. a.begins k || b.begins k;
    empty = b.empty;
    goes_on = λ k. a.goes_on k || b.goes_on k;
    spells = λ ts x. a.spells ts x ⊎ b.spells ts x;
    ends = λ ts x rest. a.ends ts x rest ⊎ b.ends ts x rest;
    stops = λ ts f.
        ((sees a.begins ts ≡ true) × a.stops ts f)
        ⊎ (((sees b.begins ts ≡ true) × b.stops ts f)
        ⊎ ((sees a.begins ts ≡ false) × (sees b.begins ts ≡ false) × (f ≡ refused_at G.unexpected ts)));
    read = λ ts. if sees a.begins ts then a.read ts else b.read ts;
  }

  abbrev pub ends_opt : {A : Type 0} → (K → Bool) → (List T → A → List T → Type 0) → List T → Option A → List T → Type 0
  ends_opt begins ends ts None rest = (ts ≡ []) × (sees begins rest ≡ false)
  ends_opt begins ends ts (Some x) rest = ends ts x rest

  -- it, where the next symbol begins it, or else nothing
  abbrev pub opt : {A : Type 0} → Rule T K W A → Rule T K W (Option A)
  opt a = record {
    begins = a.begins;
    empty = true;
    goes_on = λ k. a.begins k || a.goes_on k;
    spells = spells_opt a.spells;
    ends = ends_opt a.begins a.ends;
    stops = λ ts f. (sees a.begins ts ≡ true) × a.stops ts f;
    read = λ ts. if sees a.begins ts then and_then (a.read ts) (λ x rest. Ok (Some x, rest)) else Ok (None, ts);
  }

  -- ---- any number

  -- several are spelled, the symbol behind them begins no further one and doesn't go on with the last
  abbrev pub ends_from : {S A : Type 0} → (K → Bool) → (S → Rule T K W A) → (S → A → S) → S → List T → List A → List T → Type 0
  ends_from begins rule step s ts [] rest = (ts ≡ []) × (sees begins rest ≡ false)
  ends_from begins rule step s ts (x ∷ xs) rest = (front back : List T) × (ts ≡ front ++ back) × (rule s).ends front x (back ++ rest) × ends_from begins rule step (step s x) back xs rest

  -- several, and then one stops, which the next symbol begins
  abbrev pub stops_from : {S A : Type 0} → (K → Bool) → (S → Rule T K W A) → (S → A → S) → S → List A → List T → Refusal W → Type 0
  stops_from begins rule step s [] ts f = (sees begins ts ≡ true) × (rule s).stops ts f
  stops_from begins rule step s (x ∷ xs) ts f = (front rest : List T) × (ts ≡ front ++ rest) × (rule s).ends front x rest × stops_from begins rule step (step s x) xs rest f

  -- The number bounds the turns; each takes a symbol, so the number of symbols is enough.
  unfoldable pub read_from : {S A : Type 0} → (K → Bool) → (S → Rule T K W A) → (S → A → S) → ℕ → S → List T → Outcome T W (List A)
  read_from begins rule step zero s ts = Ok ([], ts)
  read_from begins rule step (suc n) s ts =
      if sees begins ts then and_then ((rule s).read ts) (λ x mid. and_then (read_from begins rule step n (step s x) mid) (λ xs rest. Ok (x ∷ xs, rest)))
      else Ok ([], ts)

  -- any number, each under what those before it left
  abbrev pub many_from : {S A : Type 0} → Shape K → (S → Rule T K W A) → (S → A → S) → S → Rule T K W (List A)
  many_from {S} {A} shape rule step s = record {
    begins = shape.begins;
    empty = true;
    goes_on = λ k. shape.begins k || shape.goes_on k;
    spells = spells_from rule step s;
    ends = ends_from shape.begins rule step s;
    stops = λ ts f. (xs : List A) × stops_from shape.begins rule step s xs ts f;
    read = λ ts. read_from shape.begins rule step (length ts) s ts;
  }

  -- any number of them
  abbrev pub many : {A : Type 0} → Rule T K W A → Rule T K W (List A)
  many a = many_from {S = Unit {0}} (shape_of a) (λ s. a) (λ s x. s) tt

  -- one or more, with a symbol between
  abbrev pub chain : {A : Type 0} → K → Rule T K W A → Rule T K W (List A)
  chain mark a = made (λ p. p.0 ∷ p.1) (seq a (many (after (token mark) a)))

  -- one or more
  abbrev pub some : {A : Type 0} → Rule T K W A → Rule T K W (List A)
  some a = made (λ p. p.0 ∷ p.1) (seq a (many a))

  -- ---- a rule that may hold itself

  -- it spells nothing
  abbrev pub nothing : {A : Type 0} → Rule T K W A
  nothing = refusing G.unexpected no_kind

  -- with no depth left it spells nothing, and stops at once
  unfoldable pub depth : {A : Type 0} → (Rule T K W A → Rule T K W A) → ℕ → Depth T W A
  depth rule zero = record { spells = λ ts x. ⊥; ends = λ ts x rest. ⊥; stops = λ ts f. f ≡ refused_at G.unexpected ts; read = λ ts. refuse G.unexpected ts }
  depth rule (suc n) =
      let r = rule (with_depth (shape_of (rule nothing)) (depth rule n)) in
      record { spells = r.spells; ends = r.ends; stops = r.stops; read = r.read }

  -- a rule that may stand within itself fewer than n times
  abbrev pub nested : {A : Type 0} → (Rule T K W A → Rule T K W A) → ℕ → Rule T K W A
  nested rule n = with_depth (shape_of (rule nothing)) (depth rule n)

  -- ---- all the symbols

  -- these symbols stop the rule, or one is left over behind what they spell, which doesn't go on with it
  abbrev pub stops_whole : {A : Type 0} → Rule T K W A → List T → Refusal W → Type 0
  stops_whole {A} r ts f = r.stops ts f ⊎ ((x : A) × (front : List T) × (t : T) × (rest : List T) × (ts ≡ front ++ t ∷ rest) × r.ends front x (t ∷ rest) × (f ≡ refused_at G.unexpected (t ∷ rest)))

  -- all the symbols, and none after
  unfoldable pub to_end : {A : Type 0} → A → List T → Outcome T W A
  to_end x [] = Ok (x, [])
  to_end x (t ∷ ts) = refuse G.unexpected (t ∷ ts)

  unfoldable pub read_whole : {A : Type 0} → Rule T K W A → List T → Outcome T W A
  read_whole r ts = and_then (r.read ts) to_end

  -- ---- the laws of a rule of which each choice is decided by the next symbol

  -- all the symbols are read as a value exactly where they are spelled as it
  abbrev pub ReadAsSpelled : {A : Type 0} → Rule T K W A → Type 0
  ReadAsSpelled {A} r =
      ((symbols : List T) (x : A) → read_whole r symbols ≡ Ok (x, []) → r.spells symbols x)
      × ((symbols : List T) (x : A) → r.spells symbols x → read_whole r symbols ≡ Ok (x, []))

  -- they are refused exactly where they stop the rule
  abbrev pub RefusedAsStopped : {A : Type 0} → Rule T K W A → Type 0
  RefusedAsStopped r =
      ((symbols : List T) (refusal : Refusal W) → read_whole r symbols ≡ Err refusal → stops_whole r symbols refusal)
      × ((symbols : List T) (refusal : Refusal W) → stops_whole r symbols refusal → read_whole r symbols ≡ Err refusal)

  -- symbols spell one value, or they stop the rule at one place for one reason
  pub record SpelledOrStopped {A : Type 0} (r : Rule T K W A) : Type 0 where
    pub one_at_least : (symbols : List T) → ((x : A) × r.spells symbols x) ⊎ ((refusal : Refusal W) × stops_whole r symbols refusal)
    pub not_both : (symbols : List T) (x : A) (refusal : Refusal W) → r.spells symbols x → stops_whole r symbols refusal → ⊥
    pub one_value : (symbols : List T) (x y : A) → r.spells symbols x → r.spells symbols y → x ≡ y
    pub one_refusal : (symbols : List T) (a b : Refusal W) → stops_whole r symbols a → stops_whole r symbols b → a ≡ b

  -- where a symbol stops it, no symbols that begin with those up to and with that one spell a value
  abbrev pub RefusedForGood : {A : Type 0} → Rule T K W A → Type 0
  RefusedForGood r = (symbols : List T) (refusal : Refusal W) → stops_whole r symbols refusal → StaysRefused r.spells symbols refusal

  -- a symbol that stops it does so for the same reason, whatever stands behind it
  abbrev pub RefusedTheSame : {A : Type 0} → Rule T K W A → Type 0
  RefusedTheSame r =
      (symbols : List T) (refusal : Refusal W) → stops_whole r symbols refusal
      → (front after : List T) (t : T) → symbols ≡ front ++ t ∷ after → refusal.left ≡ length (t ∷ after) → (other : List T) → stops_whole r (front ++ t ∷ other) (record { why = refusal.why; left = length (t ∷ other) })

  -- a reason that fits the symbols from its place on: at the end of all symbols it is the general one, and a symbol that is refused
  -- wherever reading comes to it has its own
  abbrev pub IsFitting : W → List T → Type 0
  IsFitting why [] = why ≡ G.unexpected
  IsFitting why (t ∷ ts) = why ≡ G.why_of why (G.kind_of t)

  -- a refusal stands at a symbol, or behind the last, and its reason fits there
  abbrev pub RefusedFitly : {A : Type 0} → Rule T K W A → Type 0
  RefusedFitly r = (symbols : List T) (refusal : Refusal W) → stops_whole r symbols refusal → (front rest : List T) × (symbols ≡ front ++ rest) × (refusal.left ≡ length rest) × IsFitting refusal.why rest
