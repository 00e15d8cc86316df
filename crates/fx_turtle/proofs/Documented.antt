-- A text is one document at most, or it is refused for one reason at one place at most, and never both.
use Rattle.std.proofs.Common.{◌≡◌, ℕ, List, Result, Ok, Err, refl, sym, ap, ◌∙◌, subst}
use Rattle.std.specs.Str.{chars}
use Rattle.fx_terms.proofs.Utf8Stops.{stop_once}
use Rattle.fx_tokens.specs.Reads.{Reads}
use Rattle.fx_tokens.specs.declared.Token as read
use Rattle.fx_tokens.specs.declared.TokenFault.{TokenFault}
use Rattle.fx_tokens.specs.declared.TokenError.{TokenError}
use Rattle.fx_tokens.specs.declared.TokenError.TheVariants.{Bad}
use Rattle.fx_tokens.proofs.One.{one_answer}
use Rattle.fx_grammar.specs.Refused.{place_of}
use Rattle.fx_turtle.specs.Documents.{OneDocument, OneRefusal, NeverBoth, not_utf8, no_token, no_document}
use Rattle.fx_turtle.specs.Grammar.{document}
use Rattle.fx_turtle.specs.Rule.{Refusal, stops_whole}
use Rattle.fx_turtle.specs.Symbols.{symbols}
use Rattle.fx_turtle.proofs.GrammarLaws.{document_spelled_or_stopped}

abbrev Lexed : Type 0
Lexed = Result (List read.Token) TokenError

tokens_in : (a b : List read.Token) (o : Lexed) → o ≡ Ok a → o ≡ Ok b → a ≡ b
tokens_in a b o e h = cc (e, h)

place_in : (a b : ℕ) (f g : TokenFault) (o : Lexed) → o ≡ Err (Bad a f) → o ≡ Err (Bad b g) → a ≡ b
place_in a b f g o e h = cc (e, h)

module _ (bytes : List ℕ) where
  one_tokens : (a b : List read.Token) → Reads 0 (chars bytes) (Ok a) → Reads 0 (chars bytes) (Ok b) → a ≡ b
  one_tokens a b r s = tokens_in a b (Ok a) refl (one_answer 0 (chars bytes) (Ok a) (Ok b) r s)

  one_place : (a b : ℕ) (f g : TokenFault) → Reads 0 (chars bytes) (Err (Bad a f)) → Reads 0 (chars bytes) (Err (Bad b g)) → a ≡ b
  one_place a b f g r s = place_in a b f g (Err (Bad a f)) refl (one_answer 0 (chars bytes) (Err (Bad a f)) (Err (Bad b g)) r s)

  no_fault : (a : List read.Token) (b : ℕ) (g : TokenFault) → Reads 0 (chars bytes) (Ok a) → Reads 0 (chars bytes) (Err (Bad b g)) → ⊥
  no_fault a b g r s = let e = one_answer 0 (chars bytes) (Ok a) (Err (Bad b g)) r s in cc e

pub one_document_holds : OneDocument
one_document_holds bytes p q a b =
    document_spelled_or_stopped.one_value (symbols bytes b.tokens) p q (subst (λ (ts : List read.Token). document.spells (symbols bytes ts) p) (one_tokens bytes a.tokens b.tokens a.lexed b.lexed) a.spelled) b.spelled

pub one_refusal_holds : OneRefusal
one_refusal_holds bytes why other place at (not_utf8 n e) (not_utf8 m g) = (e ∙ sym g, stop_once.once bytes place at n m)
one_refusal_holds bytes why other place at (not_utf8 n e) (no_token v b s g) = absurd (n.faulty v)
one_refusal_holds bytes why other place at (not_utf8 n e) (no_document v us s b t g h) = absurd (n.faulty v)
one_refusal_holds bytes why other place at (no_token u a r e) (not_utf8 m g) = absurd (m.faulty u)
one_refusal_holds bytes why other place at (no_token u a r e) (no_token v b s g) = (e ∙ sym g, one_place bytes place at a b r s)
one_refusal_holds bytes why other place at (no_token u a r e) (no_document v us s b t g h) = absurd (no_fault bytes us place a s r)
one_refusal_holds bytes why other place at (no_document u ts r a stops e f) (not_utf8 m g) = absurd (m.faulty u)
one_refusal_holds bytes why other place at (no_document u ts r a stops e f) (no_token v b s g) = absurd (no_fault bytes ts at b r s)
one_refusal_holds bytes why other place at (no_document u ts r a stops e f) (no_document v us s b halts g h) =
    let same = one_tokens bytes ts us r s in
    let one : a ≡ b = document_spelled_or_stopped.one_refusal (symbols bytes us) a b (subst (λ (vs : List read.Token). stops_whole document (symbols bytes vs) a) same stops) halts in
    (e ∙ ap (λ (x : Refusal). x.why) one ∙ sym g, f ∙ subst (λ (vs : List read.Token). place_of bytes ts a.left ≡ place_of bytes vs a.left) same refl ∙ ap (λ (x : Refusal). place_of bytes us x.left) one ∙ sym h)

pub never_both_holds : NeverBoth
never_both_holds bytes why place q (not_utf8 n e) a = absurd (n.faulty a.utf8)
never_both_holds bytes why place q (no_token u fault r e) a = absurd (no_fault bytes a.tokens place fault a.lexed r)
never_both_holds bytes why place q (no_document u ts r refusal stops e f) a =
    document_spelled_or_stopped.not_both (symbols bytes ts) q refusal (subst (λ (vs : List read.Token). document.spells (symbols bytes vs) q) (one_tokens bytes a.tokens ts a.lexed r) a.spelled) stops
