-- A text has one answer.
use Rattle.std.proofs.Common.{◌≡◌, ◌∙◌, ℕ, ◌-◌, ◌≤◌, List, length, get_or, drop-cons, arith, Result, Ok, Err, inl, inr, refl, sym, ap, subst}
use Rattle.std.proofs.lemmas.List.{drop_all}
use Rattle.fx_terms.specs.Utf8.{StopsUtf8}
use Rattle.fx_terms.specs.declared.triples.Triple.{Triple}
use Rattle.fx_tokens.specs.declared.Token as read
use Rattle.fx_grammar.specs.Refused.{place_at, place_of}
use Rattle.fx_turtle.specs.Answers.{IsAnswer, IsCause, graph_of}
use Rattle.fx_turtle.specs.Documents.{IsTurtle, IsTurtleOf, IsRefused, not_utf8}
use Rattle.fx_turtle.specs.Sources.{left}
use Rattle.fx_turtle.specs.declared.refusals.TurtleKind.{TurtleKind}
use Rattle.fx_turtle.specs.declared.refusals.TurtleKind.TheVariants.{BadUtf8}
use Rattle.fx_turtle.specs.declared.refusals.TurtleError.{TurtleError}
use Rattle.fx_turtle.specs.declared.refusals.TurtleError.TheVariants.{Refused, Memory}
use Rattle.fx_turtle.proofs.Documented.{one_document_holds, one_refusal_holds, never_both_holds}

pub memory_answered : (bytes : List ℕ) → IsAnswer bytes (Err Memory)
memory_answered bytes = record { found = tt; only = λ g h. refl; refused = tt; first = λ kind place h. inl refl }

-- a reason to refuse is the only one, and there is no graph then
refused_answered : (bytes : List ℕ) (kind : TurtleKind) (place : ℕ) → IsRefused bytes kind place → IsAnswer bytes (Err (Refused kind place))
refused_answered bytes kind place h = record {
  found = tt;
  only = λ g a. absurd (never_both_holds bytes kind place a.triples h a.document);
  refused = h;
  first = λ k at g. let one = one_refusal_holds bytes kind k place at h g in inr (rw (one.0, one.1) refl);
}

document_answered : (bytes : List ℕ) (graph : List Triple) → IsTurtleOf bytes graph → IsAnswer bytes (Ok graph)
document_answered bytes graph a = record {
  found = a;
  only = λ g b. a.holds ∙ ap graph_of (one_document_holds bytes a.triples b.triples a.document b.document) ∙ sym b.holds;
  refused = tt;
  first = λ kind place h. never_both_holds bytes kind place a.triples h a.document;
}

-- ---- bytes that aren't UTF-8, and a text

pub utf8_answered : (bytes : List ℕ) (place : ℕ) → StopsUtf8 bytes place → IsAnswer bytes (Err (Refused BadUtf8 place))
utf8_answered bytes place h = refused_answered bytes BadUtf8 place (not_utf8 h refl)

pub turtle_answered : (bytes : List ℕ) (triples graph : List Triple) → IsTurtle bytes triples → graph ≡ graph_of triples → IsAnswer bytes (Ok graph)
turtle_answered bytes triples graph h e = document_answered bytes graph (record { triples = triples; document = h; holds = e })

pub cause_answered : (bytes : List ℕ) (e : TurtleError) → IsCause bytes e → IsAnswer bytes (Err e)
cause_answered bytes Memory h = memory_answered bytes
cause_answered bytes (Refused kind place) h = refused_answered bytes kind place h

-- the answer of another text, which is the same
pub same_text : (a b : List ℕ) (result : Result (List Triple) TurtleError) → a ≡ b → IsAnswer a result → IsAnswer b result
same_text a b result e h = subst (λ (s : List ℕ). IsAnswer s result) e h

-- ---- places

pub last_place : (bytes : List ℕ) (tokens : List read.Token) → length bytes ≡ place_of bytes tokens 0
last_place bytes tokens = ap (place_at bytes) (sym (drop_all (length tokens - 0) tokens (omega arith)))

pub token_at : (bytes : List ℕ) (tokens : List read.Token) (left : ℕ) (d : read.Token) → (left ≡ 0 → ⊥) → left ≤ length tokens → (get_or tokens (length tokens - left) d).start ≡ place_of bytes tokens left
token_at bytes tokens left d n h = ap (place_at bytes) (sym (drop-cons tokens (length tokens - left) d (omega (arith, n, h))))
