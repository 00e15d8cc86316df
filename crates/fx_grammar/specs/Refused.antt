-- Why a text is refused, and where.
use Rattle.std.specs.Prelude.{◌≡◌, ℕ, ◌-◌, List, [], ◌∷◌, length, drop, codes, Ok, Err}
use Rattle.std.specs.Str.{chars, IsUtf8}
use Rattle.fx_terms.specs.Utf8.{StopsUtf8}
use Rattle.fx_tokens.specs.Reads.{Reads}
use Rattle.fx_tokens.specs.declared.Token as read
use Rattle.fx_tokens.specs.declared.TokenFault.{TokenFault}
use Rattle.fx_tokens.specs.declared.TokenError.TheVariants.{Bad}
use Rattle.fx_algebra.specs.declared.queries.Query.{Query}
use Rattle.fx_grammar.specs.Accepted.{Accepted}
use Rattle.fx_grammar.specs.Classified.{classified}
use Rattle.fx_grammar.specs.Grammar.{query}
use Rattle.fx_grammar.specs.Rule.{Refusal, stops_whole}
use Rattle.fx_grammar.specs.declared.refusals.SyntaxKind.{SyntaxKind}
use Rattle.fx_grammar.specs.declared.refusals.SyntaxKind.TheVariants as kind
use Rattle.fx_grammar.specs.declared.refusals.SyntaxError.{SyntaxError}
use Rattle.fx_grammar.specs.declared.refusals.SyntaxError.TheVariants.{Refused, Memory}

-- ---- places

-- where the first of some tokens begins, or the end of the text
abbrev pub place_at : List ℕ → List read.Token → ℕ
place_at bytes [] = length bytes
place_at bytes (t ∷ tokens) = t.start

-- where the tokens begin of which so many are left
abbrev pub place_of : List ℕ → List read.Token → ℕ → ℕ
place_of bytes tokens left = place_at bytes (drop (length tokens - left) tokens)

-- ---- refusals

-- bytes that stop being UTF-8; or else a text with a place where no token stands; or else tokens that stop the grammar
pub data IsRefused (bytes : List ℕ) (why : SyntaxKind) (place : ℕ) : Type 0 where
  not_utf8 : StopsUtf8 bytes place → why ≡ kind.BadUtf8 → IsRefused bytes why place
  no_token : IsUtf8 bytes → (fault : TokenFault) → Reads 0 (chars bytes) (Err (Bad place fault)) → why ≡ kind.BadToken → IsRefused bytes why place
  no_query : IsUtf8 bytes → (tokens : List read.Token) → Reads 0 (chars bytes) (Ok tokens) → (refusal : Refusal) → stops_whole query (classified bytes tokens) refusal → why ≡ refusal.why → place ≡ place_of bytes tokens refusal.left
      → IsRefused bytes why place

-- a refusal has its reason at its place; want of memory has none
abbrev pub IsCause : List ℕ → SyntaxError → Type 0
IsCause bytes Memory = Unit {0}
IsCause bytes (Refused why place) = IsRefused bytes why place

-- the laws: bytes are refused for one reason at one place, and not where they are accepted
abbrev pub OneRefusal : Type 0
OneRefusal = (bytes : List ℕ) (why other : SyntaxKind) (place at : ℕ) → IsRefused bytes why place → IsRefused bytes other at → (why ≡ other) × (place ≡ at)

abbrev pub NeverBoth : Type 0
NeverBoth = (bytes : List ℕ) (why : SyntaxKind) (place : ℕ) (q : Query) → IsRefused bytes why place → Accepted bytes q → ⊥

-- ---- names

-- the name of a reason
abbrev pub kind_name : SyntaxKind → List ℕ
kind_name kind.BadUtf8 = codes "BadUtf8"
kind_name kind.BadToken = codes "BadToken"
kind_name kind.TooDeep = codes "TooDeep"
kind_name kind.UnknownPrefix = codes "UnknownPrefix"
kind_name kind.RelativeIri = codes "RelativeIri"
kind_name kind.BlankNode = codes "BlankNode"
kind_name kind.Decimal = codes "Decimal"
kind_name kind.BadLiteral = codes "BadLiteral"
kind_name kind.BindInScope = codes "BindInScope"
kind_name kind.ValuesWidth = codes "ValuesWidth"
kind_name kind.RepeatedName = codes "RepeatedName"
kind_name kind.NumberTooWide = codes "NumberTooWide"
kind_name kind.Unsupported = codes "Unsupported"
kind_name kind.Unexpected = codes "Unexpected"
