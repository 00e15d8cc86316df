-- How a document is read window by window: a window is some tokens of the text, of which the last is a dot, or nothing stands behind
-- them. The prefixes and the triples go on from one to the next.
use Rattle.std.specs.Prelude.{◌≡◌, ◌⊎◌, ◌<◌, ◌≤◌, ◌+◌, ℕ, All, List, [], ◌∷◌, ◌++◌, drop, length, Result, Ok, Err}
use Rattle.std.specs.List.{flat_map}
use Rattle.std.specs.Str.{chars, IsCharBoundary}
use Rattle.fx_terms.specs.declared.triples.Triple.{Triple}
use Rattle.fx_tokens.specs.Reads.{Reads, IsSlice}
use Rattle.fx_tokens.specs.Scan.{Barren}
use Rattle.fx_tokens.specs.declared.Token as read
use Rattle.fx_tokens.specs.declared.TokenError.{TokenError}
use Rattle.fx_grammar.specs.Grammar.{Prefixes}
use Rattle.fx_rules.specs.Rule.{and_then, to_end}
use Rattle.fx_turtle.specs.Gives.{added}
use Rattle.fx_turtle.specs.Grammar.{statements, triples_in}
use Rattle.fx_turtle.specs.Rule.{alphabet, Outcome}
use Rattle.fx_turtle.specs.Symbols.{Symbol, plain, says, symbols}
use Rattle.fx_turtle.specs.declared.faults.Fault.{Fault}
use Rattle.fx_turtle.specs.declared.faults.Fault.TheVariants as fault
use Rattle.fx_turtle.specs.declared.kinds.Kind.TheVariants as k
use Rattle.fx_turtle.specs.declared.refusals.TurtleKind.{TurtleKind}
use Rattle.fx_turtle.specs.declared.windows.Position.{Position}

-- ---- tokens

-- these tokens in front of an answer
abbrev pub with_tokens : List read.Token → Result (List read.Token) TokenError → Result (List read.Token) TokenError
with_tokens tokens (Ok more) = Ok (tokens ++ more)
with_tokens tokens (Err error) = Err error

-- From one place to another the text reads as these tokens, whatever it reads as behind that; each takes a byte or more.
pub record ReadsTo (bytes : List ℕ) (from to : ℕ) (tokens : List read.Token) : Type 0 where
  pub cut : IsCharBoundary bytes to
  pub slices : All (IsSlice bytes) tokens
  pub long : from + length tokens ≤ to
  pub reads : (answer : Result (List read.Token) TokenError) → Reads to (chars (drop to bytes)) answer → Reads from (chars (drop from bytes)) (with_tokens tokens answer)

-- the last of these symbols is a dot
abbrev pub EndsInDot : List Symbol → Type 0
EndsInDot ts = (front : List Symbol) × (ts ≡ front ++ plain k.Dot ∷ [])

-- a dot stands at their end, or none among them
abbrev pub DotsEnd : List ℕ → List read.Token → Type 0
DotsEnd bytes [] = Unit {0}
DotsEnd bytes (t ∷ tokens) = (says bytes t ≡ plain k.Dot → tokens ≡ []) × DotsEnd bytes tokens

-- the window from a place on: up to and with the next dot, or to the end of the text
pub record Filled (bytes : List ℕ) (from : ℕ) (window : List read.Token) (to : Position) : Type 0 where
  pub reads : ReadsTo bytes from to.place window
  pub barren : Barren to.barren (chars (drop to.place bytes))
  pub short : DotsEnd bytes window
  pub closed : EndsInDot (symbols bytes window) ⊎ Reads to.place (chars (drop to.place bytes)) (Ok [])

-- ---- statements

-- the rest of a document, in which these prefixes were declared before and these triples said
unfoldable pub rest_of_document : Prefixes → List Triple → List Symbol → Outcome (List Triple)
rest_of_document ps front ts = and_then (added front (flat_map triples_in) ((statements ps).read ts)) (to_end alphabet)

-- The rest of the document is refused in this window, at the symbol from which so many are left in it, or behind the last. Behind a
-- dot nothing is refused, so that it is the same whatever stands there.
pub record StopsAt (ps : Prefixes) (said : List Triple) (window : List Symbol) (why : TurtleKind) (left : ℕ) : Type 0 where
  pub within : left ≤ length window
  pub inside : EndsInDot window → 0 < left
  pub stops : (rest : List Symbol) → EndsInDot window ⊎ (rest ≡ []) → rest_of_document ps said (window ++ rest) ≡ Err (record { why = why; left = left + length rest })

abbrev pub StopsFor : Prefixes → List Triple → List Symbol → Fault → Type 0
StopsFor ps said window fault.Memory = Unit {0}
StopsFor ps said window (fault.Refused why left) = StopsAt ps said window why left

-- behind the window the document goes on with the prefixes and triples that it left, whatever stands there
abbrev pub ReadsWindow : {X : Type 0} → Prefixes → Prefixes → List Triple → List Triple → List Symbol → Result X Fault → Type 0
ReadsWindow ps qs old new window (Ok x) = (rest : List Symbol) → rest_of_document qs new rest ≡ rest_of_document ps old (window ++ rest)
ReadsWindow ps qs old new window (Err fault) = StopsFor ps old window fault
