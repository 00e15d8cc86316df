-- What private functions answer on the way from a text to its query.
use Rattle.std.specs.Prelude.{◌≡◌, ◌⊎◌, ℕ, ◌≤◌, List, [], Result, Ok, Err, IfOk, IfErr, MatchResult}
use Rattle.fx_tokens.specs.declared.Token as read
use Rattle.fx_tokens.specs.declared.TokenError.{TokenError}
use Rattle.fx_tokens.specs.declared.TokenError.TheVariants.{Bad, Memory as NoMemory}
use Rattle.fx_algebra.specs.declared.queries.Query.{Query}
use Rattle.fx_grammar.specs.Accepted.{Accepted}
use Rattle.fx_grammar.specs.Classified.{classified}
use Rattle.fx_grammar.specs.Grammar.{query}
use Rattle.fx_grammar.specs.Refused.{IsRefused, IsCause, place_of}
use Rattle.fx_grammar.specs.Rule.{Refusal, read_whole}
use Rattle.fx_grammar.specs.declared.refusals.SyntaxKind.{SyntaxKind}
use Rattle.fx_grammar.specs.declared.refusals.SyntaxKind.TheVariants.{BadToken}
use Rattle.fx_readers.specs.declared.faults.Fault.{Fault}
use Rattle.fx_readers.specs.declared.faults.Fault.TheVariants as fault
use Rattle.fx_grammar.specs.declared.refusals.SyntaxError.{SyntaxError}
use Rattle.fx_grammar.specs.declared.refusals.SyntaxError.TheVariants.{Refused, Memory}

-- unless memory ran out, the answer is a query, or a refusal, exactly where the text is or is refused so
pub record IsAnswer (bytes : List ℕ) (result : Result Query SyntaxError) : Type 0 where
  pub found : IfOk result (Accepted bytes)
  pub only : (q : Query) → Accepted bytes q → MatchResult result (λ r. r ≡ q) (λ e. e ≡ Memory)
  pub refused : IfErr result (IsCause bytes)
  pub first : (kind : SyntaxKind) (place : ℕ) → IsRefused bytes kind place → MatchResult result (λ q. ⊥) (λ e. (e ≡ Memory) ⊎ (e ≡ Refused kind place))

-- where no token stands
abbrev pub bad_token : TokenError → SyntaxError
bad_token (Bad place fault) = Refused BadToken place
bad_token NoMemory = Memory

-- where the grammar refuses the tokens of a text
abbrev pub fault_at : List ℕ → List read.Token → Fault → SyntaxError
fault_at bytes tokens (fault.Refused why left) = Refused why (place_of bytes tokens left)
fault_at bytes tokens fault.Memory = Memory

-- it stands at one of so many tokens, or behind them
abbrev pub StandsWithin : ℕ → Fault → Type 0
StandsWithin n (fault.Refused why left) = left ≤ n
StandsWithin n fault.Memory = Unit {0}

-- the answer is what the grammar reads
abbrev pub AnswersTokens : List ℕ → List read.Token → Result Query SyntaxError → Type 0
AnswersTokens bytes tokens (Ok q) = read_whole query (classified bytes tokens) ≡ Ok (q, [])
AnswersTokens bytes tokens (Err (Refused kind place)) = (refusal : Refusal) × (read_whole query (classified bytes tokens) ≡ Err refusal) × (kind ≡ refusal.why) × (place ≡ place_of bytes tokens refusal.left)
AnswersTokens bytes tokens (Err Memory) = Unit {0}
