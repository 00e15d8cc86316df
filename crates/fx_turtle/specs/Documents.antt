-- Which text is which document of Turtle, and why a text is none, and where.
use Rattle.std.specs.Prelude.{◌≡◌, ◌⊎◌, ℕ, List, codes, Result, Ok, Err, MatchResult}
use Rattle.std.specs.Str.{chars, IsUtf8}
use Rattle.fx_terms.specs.Graphs.{graph_of}
use Rattle.fx_terms.specs.Utf8.{StopsUtf8}
use Rattle.fx_terms.specs.declared.triples.Triple.{Triple}
use Rattle.fx_tokens.specs.Reads.{Reads}
use Rattle.fx_tokens.specs.declared.Token as read
use Rattle.fx_tokens.specs.declared.TokenFault.{TokenFault}
use Rattle.fx_tokens.specs.declared.TokenError.TheVariants.{Bad}
use Rattle.fx_grammar.specs.Refused.{place_of}
use Rattle.fx_turtle.specs.Grammar.{document}
use Rattle.fx_turtle.specs.Rule.{Refusal, stops_whole}
use Rattle.fx_turtle.specs.Symbols.{symbols}
use Rattle.fx_turtle.specs.declared.refusals.TurtleError.{TurtleError}
use Rattle.fx_turtle.specs.declared.refusals.TurtleError.TheVariants as error
use Rattle.fx_turtle.specs.declared.refusals.TurtleKind.{TurtleKind}
use Rattle.fx_turtle.specs.declared.refusals.TurtleKind.TheVariants as kind

-- the bytes are UTF-8 that reads as tokens, and what these say spells the triples, in text order; the document's graph is the graph
-- of them
pub record IsTurtle (bytes : List ℕ) (triples : List Triple) : Type 0 where
  pub utf8 : IsUtf8 bytes
  pub tokens : List read.Token
  pub lexed : Reads 0 (chars bytes) (Ok tokens)
  pub spelled : document.spells (symbols bytes tokens) triples

-- they are a document, and this is its graph
pub record IsTurtleOf (bytes : List ℕ) (graph : List Triple) : Type 0 where
  pub triples : List Triple
  pub document : IsTurtle bytes triples
  pub holds : graph ≡ graph_of triples

-- bytes that stop being UTF-8; or else a text with a place where no token stands, anywhere; or else tokens that stop the grammar
pub data IsRefused (bytes : List ℕ) (why : TurtleKind) (place : ℕ) : Type 0 where
  not_utf8 : StopsUtf8 bytes place → why ≡ kind.BadUtf8 → IsRefused bytes why place
  no_token : IsUtf8 bytes → (fault : TokenFault) → Reads 0 (chars bytes) (Err (Bad place fault)) → why ≡ kind.BadToken → IsRefused bytes why place
  no_document : IsUtf8 bytes → (tokens : List read.Token) → Reads 0 (chars bytes) (Ok tokens) → (refusal : Refusal) → stops_whole document (symbols bytes tokens) refusal → why ≡ refusal.why → place ≡ place_of bytes tokens refusal.left
      → IsRefused bytes why place

-- unless memory runs out, this reason is answered, at this place
abbrev pub RefusesSo : {X : Type 0} → Result X TurtleError → TurtleKind → ℕ → Type 0
RefusesSo result why place = MatchResult result (λ x. ⊥) (λ e. (e ≡ error.Memory) ⊎ (e ≡ error.Refused why place))

-- ---- laws

-- no bytes are two documents
abbrev pub OneDocument : Type 0
OneDocument = (bytes : List ℕ) (a b : List Triple) → IsTurtle bytes a → IsTurtle bytes b → a ≡ b

-- bytes are refused for one reason at one place
abbrev pub OneRefusal : Type 0
OneRefusal = (bytes : List ℕ) (why other : TurtleKind) (place at : ℕ) → IsRefused bytes why place → IsRefused bytes other at → (why ≡ other) × (place ≡ at)

-- and not where they are a document
abbrev pub NeverBoth : Type 0
NeverBoth = (bytes : List ℕ) (why : TurtleKind) (place : ℕ) (triples : List Triple) → IsRefused bytes why place → IsTurtle bytes triples → ⊥

-- all bytes are a document, or they are refused
abbrev pub EachIsDecided : Type 0
EachIsDecided = (bytes : List ℕ) → ((triples : List Triple) × IsTurtle bytes triples) ⊎ ((why : TurtleKind) × (place : ℕ) × IsRefused bytes why place)

-- ---- names

-- the name of a reason
abbrev pub kind_name : TurtleKind → List ℕ
kind_name kind.BadUtf8 = codes "BadUtf8"
kind_name kind.BadToken = codes "BadToken"
kind_name kind.Blank = codes "Blank"
kind_name kind.Unsupported = codes "Unsupported"
kind_name kind.UnknownPrefix = codes "UnknownPrefix"
kind_name kind.Relative = codes "Relative"
kind_name kind.BadLiteral = codes "BadLiteral"
kind_name kind.Unexpected = codes "Unexpected"
