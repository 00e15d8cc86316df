-- Each text is read as tokens, or up to a fault: a reader of characters, which answers for every text.
use Rattle.std.proofs.Common.{◌≡◌, ℕ, zero, suc, ◌+◌, ◌-◌, ◌≤◌, Bool, true, false, cond, ◌||◌, List, [], ◌∷◌, length, Option, Some, None, Result, Ok, Err, inl, inr, ◌⊎◌, refl, sym, ap, ◌∙◌, subst, arith}
use Rattle.std.specs.Prelude.{◌==◌}
use Rattle.std.specs.Str.{chars, IsUtf8, is_utf8}
use Rattle.std.proofs.lemmas.Bool.{eqb-true}
use Rattle.std.proofs.lemmas.Str.{IsUtf8-from_is_utf8, is_utf8-from_IsUtf8}
use Rattle.fx_terms.proofs.Utf8Stops.{stop_once}
use Rattle.fx_terms.specs.declared.triples.Triple.{Triple}
use Rattle.fx_tokens.specs.Answers.{width}
use Rattle.fx_tokens.specs.Classes as class
use Rattle.fx_tokens.specs.Reads.{BeginsToken, begins_backslash, FaultyAt, BadText, with_front, Reads}
use Rattle.fx_tokens.specs.Scan as scan
use Rattle.fx_tokens.specs.declared.Token.{Token}
use Rattle.fx_tokens.specs.declared.TokenKind.{TokenKind}
use Rattle.fx_tokens.specs.declared.TokenError.{TokenError}
use Rattle.fx_tokens.specs.declared.TokenError.TheVariants.{Bad, Memory}
use Rattle.fx_tokens.specs.declared.TokenFault.TheVariants.{Character, Escape, Unclosed}
use Rattle.fx_tokens.specs.declared.classes.QuoteMark.{QuoteMark}
use Rattle.fx_tokens.specs.declared.classes.QuoteMark.TheVariants.{Single, Double}
use Rattle.fx_tokens.proofs.Readers.{width_behind}
use Rattle.fx_tokens.proofs.Turns.{bad_text, blank_turn, comment_turn, token_turn, fault_turn, ends_turn, rest_within, rest_smaller, token_within, token_smaller}
use Rattle.fx_grammar.specs.Refused.{place_of}
use Rattle.fx_turtle.specs.Documents.{IsTurtle, IsRefused, no_token, no_document, not_utf8, EachIsDecided}
use Rattle.fx_turtle.specs.Grammar.{document}
use Rattle.fx_rules.specs.Rule as rules
use Rattle.fx_rules.specs.Rule.{and_then, to_end}
use Rattle.fx_turtle.specs.Rule.{alphabet, Outcome, Rule, read_whole}
use Rattle.fx_turtle.specs.Symbols.{Symbol, symbols}
use Rattle.fx_turtle.specs.declared.refusals.TurtleKind.{TurtleKind}
use Rattle.fx_turtle.specs.declared.refusals.TurtleKind.TheVariants.{BadUtf8, BadToken}
use Rattle.fx_turtle.proofs.GrammarLaws.{document_read_as_spelled, document_refused_as_stopped, document_spelled_or_stopped}

abbrev pub Lexed : Type 0
Lexed = Result (List Token) TokenError

-- ---- why no token stands at the front

unfoldable pub quote_fault : QuoteMark → ℕ → ℕ → List ℕ → TokenError
quote_fault q at size text = cond (begins_backslash (scan.skip (scan.text_part (class.quote q)) text)) (Bad (size - width (scan.skip (scan.text_part (class.quote q)) text)) Escape) (Bad at Unclosed)

unfoldable pub fault_by : Bool → Bool → ℕ → ℕ → List ℕ → TokenError
fault_by true double at size text = quote_fault Single at size text
fault_by false true at size text = quote_fault Double at size text
fault_by false false at size text = Bad at Character

quote_faulty : (q : QuoteMark) (at size c : ℕ) (text : List ℕ) → at + width (c ∷ text) ≡ size → c ≡ class.quote q → BadText at c text (quote_fault q at size text)
unfolding quote_fault
quote_faulty q at size c text e same =
    subst (λ (v : ℕ). BadText at v text (quote_fault q at size text)) (sym same)
    (bad_text q at size text (scan.skip (scan.text_part (class.quote q)) text) (quote_fault q at size text) (subst (λ (v : ℕ). at + width (v ∷ text) ≡ size) same e) refl refl)

faulty_by : (at size c : ℕ) (text : List ℕ) → at + width (c ∷ text) ≡ size → (a b : Bool) → (c == 39) ≡ a → (c == 34) ≡ b → FaultyAt (a || b) at c text (fault_by a b at size text)
unfolding fault_by
faulty_by at size c text e true b f g = quote_faulty Single at size c text e (eqb-true c 39 f)
faulty_by at size c text e false true f g = quote_faulty Double at size c text e (eqb-true c 34 g)
faulty_by at size c text e false false f g = refl

-- ---- the reader: where a text ends at a place, what it reads as; the number bounds the turns

unfoldable pub behind_comment : List ℕ → List ℕ
behind_comment text = scan.skip (scan.one class.is_in_line) text

unfoldable pub turned : ℕ → ℕ → List ℕ → (List ℕ → Lexed) → Option (TokenKind × List ℕ) → Lexed
turned size c text further (Some p) = with_front (record { kind = p.0; start = size - width (c ∷ text); end = size - width p.1 }) (further p.1)
turned size c text further None = Err (fault_by (c == 39) (c == 34) (size - width (c ∷ text)) size text)

unfoldable pub turn : ℕ → ℕ → List ℕ → (List ℕ → Lexed) → Bool → Bool → Lexed
turn size c text further true comment = further text
turn size c text further false true = further (behind_comment text)
turn size c text further false false = turned size c text further (scan.longest (c ∷ text))

unfoldable pub lex : ℕ → ℕ → List ℕ → Lexed
lex size zero text = Ok []
lex size (suc n) [] = Ok []
lex size (suc n) (c ∷ text) = turn size c text (lex size n) (class.is_white_space c) (c == 35)

-- ---- what it answers is what the text reads as

module _ (size c : ℕ) (text : List ℕ) (further : List ℕ → Lexed) (w : width (c ∷ text) ≤ size)
    (goes : (rest : List ℕ) → length rest ≤ length text → width rest ≤ size → Reads (size - width rest) rest (further rest)) where
  turned_reads : BeginsToken (c ∷ text) → (o : Option (TokenKind × List ℕ)) → scan.longest (c ∷ text) ≡ o → Reads (size - width (c ∷ text)) (c ∷ text) (turned size c text further o)
  unfolding turned
  turned_reads b (Some p) g =
      token_turn size (c ∷ text) p.0 p.1 (further p.1) b g w
      (goes p.1 (let less = token_smaller (c ∷ text) p.0 p.1 g in omega (arith, less)) (omega (arith, w, token_within (c ∷ text) p.0 p.1 g)))
  turned_reads b None g =
      fault_turn size (c ∷ text) (fault_by (c == 39) (c == 34) (size - width (c ∷ text)) size text) b g
      (faulty_by (size - width (c ∷ text)) size c text (omega (arith, w)) (c == 39) (c == 34) refl refl)

  turn_reads : (a b : Bool) → class.is_white_space c ≡ a → (c == 35) ≡ b → Reads (size - width (c ∷ text)) (c ∷ text) (turn size c text further a b)
  unfolding turn behind_comment
  turn_reads true b e f = blank_turn size (c ∷ text) c text (further text) refl e w (goes text (omega arith) (omega (arith, w, width_behind (c ∷ text) (c ∷ []) text refl)))
  turn_reads false true e f =
      comment_turn size (c ∷ text) text (behind_comment text) (further (behind_comment text)) (ap (λ (v : ℕ). v ∷ text) (eqb-true c 35 f)) refl w
      (goes (behind_comment text) (let less = rest_smaller (c ∷ text) text (behind_comment text) c refl refl in omega (arith, less)) (omega (arith, w, rest_within (c ∷ text) text (behind_comment text) c refl refl)))
  turn_reads false false e f = turned_reads (ap (λ (v : Bool). v || (c == 35)) e ∙ f) (scan.longest (c ∷ text)) refl

lex_reads : (size n : ℕ) (text : List ℕ) → length text ≤ n → width text ≤ size → Reads (size - width text) text (lex size n text)
unfolding lex
lex_reads size zero [] h w = ends_turn size [] refl
lex_reads size zero (c ∷ text) h w = absurd (omega (arith, h))
lex_reads size (suc n) [] h w = ends_turn size [] refl
lex_reads size (suc n) (c ∷ text) h w =
    turn_reads size c text (lex size n) w (λ rest less within. lex_reads size n rest (omega (arith, h, less)) within) (class.is_white_space c) (c == 35) refl refl

-- ---- and it lacks no memory

abbrev HasMemory : Lexed → Type 0
HasMemory (Ok tokens) = Unit {0}
HasMemory (Err (Bad place fault)) = Unit {0}
HasMemory (Err Memory) = ⊥

front_has : (t : Token) (o : Lexed) → HasMemory o → HasMemory (with_front t o)
front_has t (Ok tokens) h = tt
front_has t (Err (Bad place fault)) h = tt
front_has t (Err Memory) h = absurd h

quote_has : (q : QuoteMark) (at size : ℕ) (text : List ℕ) → HasMemory (Err (quote_fault q at size text))
unfolding quote_fault
quote_has q at size text = go (begins_backslash (scan.skip (scan.text_part (class.quote q)) text))
  where
    go : (b : Bool) → HasMemory (Err (cond b (Bad (size - width (scan.skip (scan.text_part (class.quote q)) text)) Escape) (Bad at Unclosed)))
    go true = tt
    go false = tt

fault_has : (a b : Bool) (at size : ℕ) (text : List ℕ) → HasMemory (Err (fault_by a b at size text))
unfolding fault_by
fault_has true b at size text = quote_has Single at size text
fault_has false true at size text = quote_has Double at size text
fault_has false false at size text = tt

module _ (size c : ℕ) (text : List ℕ) (further : List ℕ → Lexed) (has : (rest : List ℕ) → HasMemory (further rest)) where
  turned_has : (o : Option (TokenKind × List ℕ)) → HasMemory (turned size c text further o)
  unfolding turned
  turned_has (Some p) = front_has (record { kind = p.0; start = size - width (c ∷ text); end = size - width p.1 }) (further p.1) (has p.1)
  turned_has None = fault_has (c == 39) (c == 34) (size - width (c ∷ text)) size text

  turn_has : (a b : Bool) → HasMemory (turn size c text further a b)
  unfolding turn
  turn_has true b = has text
  turn_has false true = has (behind_comment text)
  turn_has false false = turned_has (scan.longest (c ∷ text))

lex_has : (size n : ℕ) (text : List ℕ) → HasMemory (lex size n text)
unfolding lex
lex_has size zero text = tt
lex_has size (suc n) [] = tt
lex_has size (suc n) (c ∷ text) = turn_has size c text (lex size n) (lex_has size n) (class.is_white_space c) (c == 35)

-- ---- all of a text

unfoldable pub lexed : List ℕ → Lexed
lexed bytes = lex (width (chars bytes)) (length (chars bytes)) (chars bytes)

lexed_reads : (bytes : List ℕ) → Reads 0 (chars bytes) (lexed bytes)
unfolding lexed
lexed_reads bytes =
    let text = chars bytes in
    let nothing : width text - width text ≡ 0 = omega arith in
    subst (λ (n : ℕ). Reads n text (lexed bytes)) nothing (lex_reads (width text) (length text) text (omega arith) (omega arith))

-- a reader's answer that is a fault is one at a place
decided_by : (bytes : List ℕ) → IsUtf8 bytes → (o : Lexed) → Reads 0 (chars bytes) o → HasMemory o → ((triples : List Triple) × IsTurtle bytes triples) ⊎ ((why : TurtleKind) × (place : ℕ) × IsRefused bytes why place)
decided_by bytes u (Ok tokens) r h = elim (document_spelled_or_stopped.one_at_least (symbols bytes tokens)) [
  | inl s ↦ inl (s.0, record { utf8 = u; tokens = tokens; lexed = r; spelled = s.1 })
  | inr s ↦ inr (s.0.why, place_of bytes tokens s.0.left, no_document u tokens r s.0 s.1 refl refl)
]
decided_by bytes u (Err (Bad place fault)) r h = inr (BadToken, place, no_token u fault r refl)
decided_by bytes u (Err Memory) r h = absurd h

pub each_is_decided_holds : EachIsDecided
unfolding lexed
each_is_decided_holds bytes = go (is_utf8 bytes) refl
  where
    go : (b : Bool) → is_utf8 bytes ≡ b → ((triples : List Triple) × IsTurtle bytes triples) ⊎ ((why : TurtleKind) × (place : ℕ) × IsRefused bytes why place)
    go true e = decided_by bytes (IsUtf8-from_is_utf8 bytes e) (lexed bytes) (lexed_reads bytes) (lex_has (width (chars bytes)) (length (chars bytes)) (chars bytes))
    go false e =
        let stop = stop_once.somewhere bytes (λ u. let f = is_utf8-from_IsUtf8 bytes u in cc (e, f)) in
        inr (BadUtf8, stop.0, not_utf8 stop.1 refl)

-- ---- what a text that is written out is, by reading it

abbrev pub Decision : Type 0
Decision = Result (List Triple) (TurtleKind × ℕ)

abbrev pub of_symbols : List ℕ → List Token → Outcome (List Triple) → Decision
of_symbols bytes tokens (Ok p) = Ok p.0
of_symbols bytes tokens (Err f) = Err (f.why, place_of bytes tokens f.left)

abbrev pub of_tokens : List ℕ → Lexed → Decision
of_tokens bytes (Ok tokens) = of_symbols bytes tokens (read_whole document (symbols bytes tokens))
of_tokens bytes (Err (Bad place fault)) = Err (BadToken, place)
of_tokens bytes (Err Memory) = Err (BadToken, 0)

abbrev pub IsDecision : List ℕ → Decision → Type 0
IsDecision bytes (Ok triples) = IsTurtle bytes triples
IsDecision bytes (Err p) = IsRefused bytes p.0 p.1

module _ {A : Type 0} where
  abbrev rest_of : Outcome A → List Symbol
  rest_of (Ok p) = p.1
  rest_of (Err f) = []

  ends_empty : (x y : A) (ts rest : List Symbol) → to_end alphabet x ts ≡ Ok (y, rest) → rest ≡ []
  unfolding to_end
  ends_empty x y [] rest e = sym (ap rest_of e)
  ends_empty x y (t ∷ ts) rest e = absurd (cc e)

  empty_behind : (o : Outcome A) (y : A) (rest : List Symbol) → and_then o (to_end alphabet) ≡ Ok (y, rest) → rest ≡ []
  empty_behind (Ok p) y rest e = ends_empty p.0 y p.1 rest e
  empty_behind (Err f) y rest e = absurd (cc e)

  empty_rest : (r : Rule A) (ts : List Symbol) (y : A) (rest : List Symbol) → read_whole r ts ≡ Ok (y, rest) → rest ≡ []
  unfolding rules.read_whole
  empty_rest r ts y rest e = empty_behind (r.read ts) y rest e

symbols_decide : (bytes : List ℕ) → IsUtf8 bytes → (tokens : List Token) → Reads 0 (chars bytes) (Ok tokens) → (o : Outcome (List Triple)) → read_whole document (symbols bytes tokens) ≡ o → IsDecision bytes (of_symbols bytes tokens o)
symbols_decide bytes u tokens r (Ok p) e = record {
  utf8 = u;
  tokens = tokens;
  lexed = r;
  spelled = document_read_as_spelled.0 (symbols bytes tokens) p.0 (e ∙ ap (λ (v : List Symbol). Ok (p.0, v)) (empty_rest document (symbols bytes tokens) p.0 p.1 e));
}
symbols_decide bytes u tokens r (Err f) e = no_document u tokens r f (document_refused_as_stopped.0 (symbols bytes tokens) f e) refl refl

tokens_decide : (bytes : List ℕ) → IsUtf8 bytes → (o : Lexed) → Reads 0 (chars bytes) o → HasMemory o → IsDecision bytes (of_tokens bytes o)
tokens_decide bytes u (Ok tokens) r h = symbols_decide bytes u tokens r (read_whole document (symbols bytes tokens)) refl
tokens_decide bytes u (Err (Bad place fault)) r h = no_token u fault r refl
tokens_decide bytes u (Err Memory) r h = absurd h

pub decides : (bytes : List ℕ) (d : Decision) → is_utf8 bytes ≡ true → of_tokens bytes (lexed bytes) ≡ d → IsDecision bytes d
unfolding lexed
decides bytes d u e =
    subst (IsDecision bytes) e (tokens_decide bytes (IsUtf8-from_is_utf8 bytes u) (lexed bytes) (lexed_reads bytes) (lex_has (width (chars bytes)) (length (chars bytes)) (chars bytes)))
