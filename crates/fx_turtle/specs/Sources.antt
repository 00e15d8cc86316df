-- What stands at a place among the tokens of a text, and how symbols are looked at before it is known whether an IRI is absolute.
use Rattle.std.specs.Prelude.{◌≡◌, ℕ, Bool, ◌||◌, if◌then◌else◌, List, [], ◌∷◌, drop, Option, Some, None, Result, Ok, Err}
use Rattle.std.specs.Borrow.{Bor}
use Rattle.fx_terms.specs.Literals.{LiteralParts, is_tag}
use Rattle.fx_terms.specs.declared.iris.TermError.{TermError}
use Rattle.fx_terms.specs.declared.terms.Term.{Term}
use Rattle.fx_terms.specs.declared.terms.Term.TheVariants as term
use Rattle.fx_tokens.specs.Decoding.{between_quotes}
use Rattle.fx_tokens.specs.declared.Token as read
use Rattle.fx_tokens.specs.declared.TokenKind.{TokenKind}
use Rattle.fx_turtle.specs.Grammar.{is_iri_name}
use Rattle.fx_turtle.specs.Symbols.{Symbol, is, kind_of, symbol_of, symbols}
use Rattle.fx_turtle.specs.declared.kinds.Kind.{Kind}
use Rattle.fx_turtle.specs.declared.kinds.Kind.TheVariants as k
use Rattle.fx_turtle.specs.declared.refusals.TurtleKind.{TurtleKind}
use Rattle.fx_turtle.specs.declared.refusals.TurtleKind.TheVariants.{Unexpected}

-- a text and its tokens
abbrev pub Tokened : Type 0
Tokened = List ℕ × List read.Token

-- what the tokens from a place on say
unfoldable pub left : Tokened → ℕ → List Symbol
left source at = symbols source.0 (drop at source.1)

-- the token at a place, its text, and the place behind it
abbrev pub Stands : Tokened → ℕ → Option (TokenKind × Bor (List ℕ) × ℕ) → Type 0
Stands source at None = left source at ≡ []
Stands source at (Some p) = left source at ≡ symbol_of p.0 p.1.now ∷ left source p.2

-- an IRI of either sort
abbrev pub loose : Kind → Kind
loose kind = if is k.Relative kind then k.Iri else kind

abbrev pub is_any_name : Kind → Bool
is_any_name kind = is_iri_name kind || is k.Relative kind

-- what one symbol gives where it is of these kinds
abbrev pub picked : {A : Type 0} → (Kind → Bool) → (Symbol → Result A TurtleKind) → Symbol → Option (Result A TurtleKind)
picked kinds value s = if kinds (kind_of s) then Some (value s) else None

-- an IRI between its signs, where it is absolute
abbrev pub named : Result (List ℕ) TermError → Option (Result (List ℕ) TurtleKind)
named (Ok iri) = Some (Ok iri)
named (Err e) = None

-- what one symbol gives, where it is a text, a tag, or a number or a truth value
abbrev pub as_text : List ℕ → Result (List ℕ) TurtleKind
as_text form = Ok (between_quotes form)

abbrev pub as_tag : List ℕ → Result (List ℕ) TurtleKind
as_tag tag = if is_tag tag then Ok tag else Err Unexpected

abbrev pub as_value : LiteralParts → Result Term TurtleKind
as_value parts = Ok (term.Literal parts)
