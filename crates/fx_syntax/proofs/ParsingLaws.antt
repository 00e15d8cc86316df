-- A text has one answer.
use Rattle.std.proofs.Common.{◌≡◌, ℕ, suc, map, ◌-◌, ◌≤◌, List, [], ◌∷◌, length, get_or, drop-cons, arith, Result, Ok, Err, inl, inr, refl, sym, ap, ◌∙◌, subst}
use Rattle.std.specs.Str.{chars, IsUtf8}
use Rattle.fx_terms.specs.Utf8.{StopsUtf8}
use Rattle.fx_tokens.specs.Reads.{Reads}
use Rattle.fx_tokens.specs.declared.Token as read
use Rattle.fx_tokens.specs.declared.TokenError.{TokenError}
use Rattle.fx_tokens.specs.declared.TokenError.TheVariants.{Bad, Memory as NoMemory}
use Rattle.fx_tokens.specs.Answers.{UnlessMemory}
use Rattle.fx_algebra.specs.declared.queries.Query.{Query}
use Rattle.fx_grammar.specs.Kinds.{kind_of}
use Rattle.fx_grammar.specs.declared.places.Context.{Context}
use Rattle.fx_grammar.specs.Classified.{classified, all_placed, behind, outermost, says}
use Rattle.fx_grammar.specs.Grammar.{query}
use Rattle.fx_grammar.specs.Rule.{Refusal, read_whole}
use Rattle.fx_readers.specs.Gives.{IsRefusal}
use Rattle.fx_grammar.specs.declared.refusals.SyntaxKind.{SyntaxKind}
use Rattle.fx_grammar.specs.declared.refusals.SyntaxKind.TheVariants.{BadUtf8, BadToken}
use Rattle.fx_readers.specs.declared.faults.Fault.{Fault}
use Rattle.fx_readers.specs.declared.faults.Fault.TheVariants as fault
use Rattle.fx_grammar.specs.declared.refusals.SyntaxError.{SyntaxError}
use Rattle.fx_grammar.specs.declared.refusals.SyntaxError.TheVariants.{Refused, Memory}
use Rattle.fx_grammar.specs.declared.kinds.Token.{Token}
use Rattle.std.proofs.lemmas.List.{drop_all}
use Rattle.fx_grammar.specs.Accepted.{Accepted}
use Rattle.fx_syntax.specs.Answers.{fault_at, StandsWithin, bad_token, IsAnswer, AnswersTokens}
use Rattle.fx_grammar.specs.Refused.{place_at, IsRefused, not_utf8, no_token, no_query, place_of}
use Rattle.fx_grammar.proofs.GrammarLaws.{kept_query, query_read_as_spelled, query_refused_as_stopped}
use Rattle.fx_grammar.proofs.OneQuery.{one_query_holds, one_refusal_holds, never_both_holds}
use Rattle.fx_grammar.proofs.RuleLaws.{left_within}

pub memory_answered : (bytes : List ℕ) → IsAnswer bytes (Err Memory)
memory_answered bytes = record { found = tt; only = λ q h. refl; refused = tt; first = λ kind place h. inl refl }

-- a reason to refuse is the only one, and there is no query then
refused_answered : (bytes : List ℕ) (kind : SyntaxKind) (place : ℕ) → IsRefused bytes kind place → IsAnswer bytes (Err (Refused kind place))
refused_answered bytes kind place h = record {
  found = tt;
  only = λ q a. absurd (never_both_holds bytes kind place q h a);
  refused = h;
  first = λ k at g. let one = one_refusal_holds bytes kind k place at h g in inr (rw (one.0, one.1) refl);
}

accepted_answered : (bytes : List ℕ) (q : Query) → Accepted bytes q → IsAnswer bytes (Ok q)
accepted_answered bytes q a = record { found = a; only = λ p b. one_query_holds bytes q p a b; refused = tt; first = λ kind place h. never_both_holds bytes kind place q h a }

-- ---- bytes that aren't UTF-8, a text that isn't tokens, and tokens

pub utf8_answered : (bytes : List ℕ) (place : ℕ) → StopsUtf8 bytes place → IsAnswer bytes (Err (Refused BadUtf8 place))
utf8_answered bytes place h = refused_answered bytes BadUtf8 place (not_utf8 h refl)

pub error_answered : (bytes : List ℕ) (e : TokenError) → IsUtf8 bytes → UnlessMemory e (Reads 0 (chars bytes) (Err e)) → (s : SyntaxError) → s ≡ bad_token e → IsAnswer bytes (Err s)
error_answered bytes (Bad place fault) u r s is = rw is (refused_answered bytes BadToken place (no_token u fault r refl))
error_answered bytes NoMemory u r s is = rw is (memory_answered bytes)

module _ (bytes : List ℕ) (tokens : List read.Token) (u : IsUtf8 bytes) (r : Reads 0 (chars bytes) (Ok tokens)) where
  pub tokens_answered : (result : Result Query SyntaxError) → AnswersTokens bytes tokens result → IsAnswer bytes result
  tokens_answered (Ok q) e = accepted_answered bytes q (record { utf8 = u; tokens = tokens; lexed = r; spelled = query_read_as_spelled.0 (classified bytes tokens) q e })
  tokens_answered (Err Memory) e = memory_answered bytes
  tokens_answered (Err (Refused kind place)) e = refused_answered bytes kind place (no_query u tokens r e.0 (query_refused_as_stopped.0 (classified bytes tokens) e.0 e.1) e.2 e.3)

-- the answer of another text, which is the same
pub same_text : (a b : List ℕ) (result : Result Query SyntaxError) → a ≡ b → IsAnswer a result → IsAnswer b result
same_text a b result e h = subst (λ (s : List ℕ). IsAnswer s result) e h

-- ---- places

pub last_place : (bytes : List ℕ) (tokens : List read.Token) → length bytes ≡ place_of bytes tokens 0
last_place bytes tokens = ap (place_at bytes) (sym (drop_all (length tokens - 0) tokens (omega arith)))

pub token_place : (bytes : List ℕ) (tokens : List read.Token) (left : ℕ) (d : read.Token) → (left ≡ 0 → ⊥) → left ≤ length tokens → (get_or tokens (length tokens - left) d).start ≡ place_of bytes tokens left
token_place bytes tokens left d n h = ap (place_at bytes) (sym (drop-cons tokens (length tokens - left) d (omega (arith, n, h))))

placed_length : (context : Context) (tokens : List Token) → length (all_placed context tokens) ≡ length tokens
unfolding all_placed
placed_length context [] = refl
placed_length context (t ∷ tokens) = ap suc (placed_length (behind context (kind_of t)) tokens)

-- a refusal stands within the tokens of the text, or behind the last
left_in_tokens : (bytes : List ℕ) (tokens : List read.Token) (refusal : Refusal) → read_whole query (classified bytes tokens) ≡ Err refusal → refusal.left ≤ length tokens
left_in_tokens bytes tokens refusal e =
    subst (λ (n : ℕ). refusal.left ≤ n) (placed_length outermost (map (says bytes) tokens) ∙ said_length tokens) (left_within query kept_query (classified bytes tokens) refusal e)
  where
    said_length : (ts : List read.Token) → length (map (says bytes) ts) ≡ length ts
    said_length [] = refl
    said_length (t ∷ ts) = ap suc (said_length ts)

pub stands_within : (bytes : List ℕ) (tokens : List read.Token) (fault : Fault) → IsRefusal fault (read_whole query (classified bytes tokens)) → StandsWithin (length tokens) fault
stands_within bytes tokens (fault.Refused why left) e = left_in_tokens bytes tokens (record { why = why; left = left }) e
stands_within bytes tokens fault.Memory e = tt

pub fault_answers : (bytes : List ℕ) (tokens : List read.Token) (fault : Fault) (s : SyntaxError) → IsRefusal fault (read_whole query (classified bytes tokens)) → s ≡ fault_at bytes tokens fault → AnswersTokens bytes tokens (Err s)
fault_answers bytes tokens (fault.Refused why left) s e is = rw is (record { why = why; left = left }, e, refl, refl)
fault_answers bytes tokens fault.Memory s e is = rw is tt
