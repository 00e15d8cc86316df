-- What private functions answer on the way from a text to its graph.
use Rattle.std.specs.Prelude.{◌≡◌, ◌⊎◌, ℕ, ◌≤◌, List, drop, Result, Ok, Err, IfOk, IfErr, MatchResult}
use Rattle.std.specs.Str.{chars}
use Rattle.fx_terms.specs.Graphs as graphs
use Rattle.fx_terms.specs.declared.triples.Triple.{Triple}
use Rattle.fx_tokens.specs.Reads.{Reads}
use Rattle.fx_tokens.specs.declared.Token as read
use Rattle.fx_tokens.specs.declared.TokenError.{TokenError}
use Rattle.fx_tokens.specs.declared.TokenFault.{TokenFault}
use Rattle.fx_tokens.specs.declared.TokenError.TheVariants.{Bad, Memory as NoMemory}
use Rattle.fx_grammar.specs.Refused.{place_of}
use Rattle.fx_turtle.specs.Documents.{IsTurtleOf, IsRefused}
use Rattle.fx_turtle.specs.declared.faults.Fault.{Fault}
use Rattle.fx_turtle.specs.declared.faults.Fault.TheVariants as fault
use Rattle.fx_turtle.specs.declared.refusals.TurtleKind.{TurtleKind}
use Rattle.fx_turtle.specs.declared.refusals.TurtleKind.TheVariants.{BadToken}
use Rattle.fx_turtle.specs.declared.refusals.TurtleError.{TurtleError}
use Rattle.fx_turtle.specs.declared.refusals.TurtleError.TheVariants.{Refused, Memory}

-- the graph of some triples
abbrev pub graph_of : List Triple → List Triple
graph_of triples = graphs.graph_of triples

-- a refusal has its reason at its place; want of memory has none
abbrev pub IsCause : List ℕ → TurtleError → Type 0
IsCause bytes Memory = Unit {0}
IsCause bytes (Refused kind place) = IsRefused bytes kind place

-- unless memory ran out, the answer is a graph, or a refusal, exactly where the text has it or is refused so
pub record IsAnswer (bytes : List ℕ) (result : Result (List Triple) TurtleError) : Type 0 where
  pub found : IfOk result (IsTurtleOf bytes)
  pub only : (graph : List Triple) → IsTurtleOf bytes graph → MatchResult result (λ g. g ≡ graph) (λ e. e ≡ Memory)
  pub refused : IfErr result (IsCause bytes)
  pub first : (kind : TurtleKind) (place : ℕ) → IsRefused bytes kind place → MatchResult result (λ g. ⊥) (λ e. (e ≡ Memory) ⊎ (e ≡ Refused kind place))

-- where no token stands
abbrev pub bad_token : TokenError → TurtleError
bad_token (Bad place fault) = Refused BadToken place
bad_token NoMemory = Memory

-- no token stands somewhere from a place on, unless memory ran out
abbrev pub NoToken : List ℕ → ℕ → TurtleError → Type 0
NoToken bytes at Memory = Unit {0}
NoToken bytes at (Refused kind place) = (fault : TokenFault) × Reads at (chars (drop at bytes)) (Err (Bad place fault)) × (kind ≡ BadToken)

-- it stands at one of so many tokens, or behind them
abbrev pub StandsWithin : ℕ → Fault → Type 0
StandsWithin n (fault.Refused why left) = left ≤ n
StandsWithin n fault.Memory = Unit {0}

-- where the grammar refuses a token of a window, and what stands behind it is tokens; or else where no token stands behind it
abbrev pub RefusesAt : List ℕ → List read.Token → ℕ → Fault → TurtleError → Type 0
RefusesAt bytes window at fault.Memory e = e ≡ Memory
RefusesAt bytes window at (fault.Refused why left) e =
    ((more : List read.Token) × Reads at (chars (drop at bytes)) (Ok more) × (e ≡ Refused why (place_of bytes window left)))
    ⊎ ((error : TokenError) × Reads at (chars (drop at bytes)) (Err error) × (e ≡ bad_token error))
