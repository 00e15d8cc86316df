-- How a text is read as tokens, and where it can't be (SPARQL 1.1 section 19.8, and section 19.4 for comments). A text is the
-- list of its characters; places are numbers of bytes.
use Rattle.std.specs.Prelude.{◌≡◌, ℕ, ◌+◌, ◌<◌, ◌≤◌, slice_range, drop, Option, Some, None, Bool, true, false, ◌||◌, ◌==◌, List, [], ◌∷◌, ◌++◌, length, Result, Ok, Err, if◌then◌else◌}
use Rattle.std.specs.Str.{chars, IsCharBoundary}
use Rattle.fx_tokens.specs.Answers.{width}
use Rattle.fx_tokens.specs.Classes.{is_white_space, is_in_line, is_line_end}
use Rattle.fx_tokens.specs.Forms.{One, Repeat}
use Rattle.fx_tokens.specs.Kinds.{IsToken, TextPart}
use Rattle.fx_tokens.specs.declared.Token.{Token}
use Rattle.fx_tokens.specs.declared.Next.{Next}
use Rattle.fx_tokens.specs.declared.TokenKind.{TokenKind}
use Rattle.fx_tokens.specs.declared.TokenError.{TokenError}
use Rattle.fx_tokens.specs.declared.TokenError.TheVariants.{Bad}
use Rattle.fx_tokens.specs.declared.TokenFault.TheVariants.{Character, Escape, Unclosed}

-- the text begins with a token of the kind, and with no longer token of any kind
pub record Longest (kind : TokenKind) (token rest text : List ℕ) : Type 0 where
  pub parts : text ≡ token ++ rest
  pub is : IsToken kind token
  pub no_longer : (other : TokenKind) (front back : List ℕ) → text ≡ front ++ back → IsToken other front → length front ≤ length token

-- no token stands at the front
abbrev pub NoToken : List ℕ → Type 0
NoToken text = (kind : TokenKind) (front back : List ℕ) → text ≡ front ++ back → IsToken kind front → ⊥

-- a comment ends before the end of its line
abbrev pub EndsLine : List ℕ → Type 0
EndsLine [] = Unit {0}
EndsLine (c ∷ text) = is_line_end c ≡ true

-- a token is looked for past white space and comments
abbrev pub BeginsToken : List ℕ → Type 0
BeginsToken [] = ⊥
BeginsToken (c ∷ text) = (is_white_space c || c == 35) ≡ false

abbrev pub begins_backslash : List ℕ → Bool
begins_backslash [] = false
begins_backslash (c ∷ text) = c == 92

-- What stands behind the quote that begins a text without an end, up to the first place where no part of a text stands. There
-- is a backslash that begins no escape, or else the line or everything ends.
pub record BadText (at quote : ℕ) (text : List ℕ) (error : TokenError) : Type 0 where
  pub body : List ℕ
  pub rest : List ℕ
  pub parts : text ≡ body ++ rest
  pub is_body : Repeat (TextPart quote) body
  pub stops : (front back : List ℕ) → rest ≡ front ++ back → TextPart quote front → ⊥
  pub why : error ≡ (if begins_backslash rest then Bad (at + width (quote ∷ body)) Escape else Bad at Unclosed)

-- why no token stands at the front, behind a quote or at another character
abbrev pub FaultyAt : Bool → ℕ → ℕ → List ℕ → TokenError → Type 0
FaultyAt true at quote text error = BadText at quote text error
FaultyAt false at c text error = error ≡ Bad at Character

-- why no token stands at the front of a text at a place
abbrev pub Faulty : ℕ → List ℕ → TokenError → Type 0
Faulty at [] error = ⊥
Faulty at (c ∷ text) error = FaultyAt (c == 39 || c == 34) at c text error

abbrev pub with_front : Token → Result (List Token) TokenError → Result (List Token) TokenError
with_front token (Ok tokens) = Ok (token ∷ tokens)
with_front token (Err error) = Err error

-- a text at a place is read from left to right as tokens, or up to a fault
pub data Reads : ℕ → List ℕ → Result (List Token) TokenError → Type 0 where
  ends : {at : ℕ} {text : List ℕ} {answer : Result (List Token) TokenError} → text ≡ [] → answer ≡ Ok [] → Reads at text answer
  blank : {at : ℕ} {text : List ℕ} {answer : Result (List Token) TokenError} (c : ℕ) (rest : List ℕ) → text ≡ c ∷ rest → is_white_space c ≡ true → Reads (at + width (c ∷ [])) rest answer → Reads at text answer
  comment : {at : ℕ} {text : List ℕ} {answer : Result (List Token) TokenError} (body rest : List ℕ) → text ≡ 35 ∷ (body ++ rest) → Repeat (One is_in_line) body → EndsLine rest
      → Reads (at + width (35 ∷ body)) rest answer → Reads at text answer
  token : {at : ℕ} {text : List ℕ} {answer : Result (List Token) TokenError} (kind : TokenKind) (front rest : List ℕ) (more : Result (List Token) TokenError) → BeginsToken text → Longest kind front rest text
      → Reads (at + width front) rest more → answer ≡ with_front (record { kind = kind; start = at; end = at + width front }) more → Reads at text answer
  fault : {at : ℕ} {text : List ℕ} {answer : Result (List Token) TokenError} (error : TokenError) → BeginsToken text → NoToken text → Faulty at text error → answer ≡ Err error → Reads at text answer

-- a token of a text's bytes: between two places where the text may be cut, and of its kind
pub record IsSlice (text : List ℕ) (token : Token) : Type 0 where
  pub some : token.start < token.end
  pub within : token.end ≤ length text
  pub from : IsCharBoundary text token.start
  pub to : IsCharBoundary text token.end
  pub is : IsToken token.kind (chars (slice_range text token.start token.end))

-- each token begins at this place or behind it, and where the one before it ends or behind that
abbrev pub RiseFrom : ℕ → List Token → Type 0
RiseFrom at [] = Unit {0}
RiseFrom at (next ∷ tokens) = (at ≤ next.start) × RiseFrom next.end tokens

-- The token that comes next in a text from a place on: it begins there or behind, and whatever the text reads as behind it, from the
-- place on the text reads as that with the token in front.
pub record IsNext (text : List ℕ) (at : ℕ) (token : Token) : Type 0 where
  pub slice : IsSlice text token
  pub rises : at ≤ token.start
  pub reads : (answer : Result (List Token) TokenError) → Reads token.end (chars (drop token.end text)) answer → Reads at (chars (drop at text)) (with_front token answer)

-- what comes next in a text from a place on, or that nothing does
abbrev pub AnswersNext : List ℕ → ℕ → Option Next → Type 0
AnswersNext text at None = Reads at (chars (drop at text)) (Ok [])
AnswersNext text at (Some next) = IsNext text at next.token
