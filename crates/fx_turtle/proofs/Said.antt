-- What a token says is of one of a few kinds, by its own kind.
use Rattle.std.proofs.Common.{◌≡◌, ◌∙◌, sym, ℕ, ◌<◌, Bool, true, false, cond, ◌||◌, List, Result, Ok, Err, refl, arith}
use Rattle.std.specs.Prelude.{codes, map, nat_eq}
use Rattle.std.proofs.lemmas.Bool.{ne_eqb}
use Rattle.std.specs.Str.{bytes_eq}
use Rattle.std.specs.Char.{to_ascii_uppercase}
use Rattle.fx_terms.specs.Datatypes.{xsd_boolean}
use Rattle.fx_terms.specs.Iris.{read_iri}
use Rattle.fx_terms.specs.Literals.{LiteralParts}
use Rattle.fx_tokens.specs.Decoding.{iri_text}
use Rattle.fx_grammar.specs.Grammar.{typed_parts}
use Rattle.fx_turtle.specs.Grammar.{is_iri_name}
use Rattle.fx_turtle.specs.Rule.{why_of}
use Rattle.fx_turtle.specs.Sources.{loose, is_any_name}
use Rattle.fx_turtle.specs.Symbols as symbol
use Rattle.fx_turtle.specs.Symbols.{Symbol, rank, is, tag_kind, word_of, other_word, mark_of, iri_or, symbol_of, kind_of}
use Rattle.fx_turtle.specs.declared.kinds.Kind.{Kind}
use Rattle.fx_turtle.specs.declared.kinds.Kind.TheVariants as k
use Rattle.fx_turtle.specs.declared.refusals.TurtleKind.{TurtleKind}

module _ (P : Kind → Type 0) where
  pub tag_kinds : P k.AtPrefix → P k.AtBase → P k.Tag → (name : List ℕ) → P (tag_kind name)
  tag_kinds a b t name = go (bytes_eq name (codes "prefix")) (bytes_eq name (codes "base"))
    where
      go : (x y : Bool) → P (cond x k.AtPrefix (cond y k.AtBase k.Tag))
      go true y = a
      go false true = b
      go false false = t

  pub other_words : P k.Prefix → P k.Base → P k.Other → (upper : List ℕ) → P (other_word upper)
  other_words a b t upper = go (bytes_eq upper (codes "PREFIX")) (bytes_eq upper (codes "BASE"))
    where
      go : (x y : Bool) → P (cond x k.Prefix (cond y k.Base k.Other))
      go true y = a
      go false true = b
      go false false = t

  pub mark_kinds : P k.Dot → P k.Semicolon → P k.Comma → P k.CaretCaret → P k.LeftBracket → P k.LeftParen → P k.Other → (form : List ℕ) → P (mark_of form)
  mark_kinds dot semicolon comma caret bracket paren other form =
      go (bytes_eq form (codes ".")) (bytes_eq form (codes ";")) (bytes_eq form (codes ",")) (bytes_eq form (codes "^^")) (bytes_eq form (codes "[")) (bytes_eq form (codes "("))
    where
      go : (a b c d e f : Bool) → P (cond a k.Dot (cond b k.Semicolon (cond c k.Comma (cond d k.CaretCaret (cond e k.LeftBracket (cond f k.LeftParen k.Other))))))
      go true b c d e f = dot
      go false true c d e f = semicolon
      go false false true d e f = comma
      go false false false true e f = caret
      go false false false false true f = bracket
      go false false false false false true = paren
      go false false false false false false = other

module _ (P : Symbol → Type 0) where
  pub words : P (symbol.plain k.A) → ((parts : LiteralParts) → P (symbol.truth parts)) → P (symbol.plain k.Prefix) → P (symbol.plain k.Base) → P (symbol.plain k.Other) → (form : List ℕ) → P (word_of form)
  words a t p b o form = go (bytes_eq form (codes "a")) (bytes_eq form (codes "true") || bytes_eq form (codes "false"))
    where
      go : (x y : Bool) → P (cond x (symbol.plain k.A) (cond y (symbol.truth (typed_parts form xsd_boolean)) (symbol.plain (other_word (map to_ascii_uppercase form)))))
      go true y = a
      go false true = t (typed_parts form xsd_boolean)
      go false false = other_words (λ kind. P (symbol.plain kind)) p b o (map to_ascii_uppercase form)

  pub iris : ((iri : List ℕ) → P (symbol.iri iri)) → P (symbol.plain k.Relative) → (form : List ℕ) → P (symbol.iri_of form)
  iris a r form = go (read_iri (iri_text form))
    where
      go : (o : Result (List ℕ) _) → P (iri_or o)
      go (Ok iri) = a iri
      go (Err e) = r

-- ---- looked at as an IRI, whether it is absolute or not

above_one : (n : ℕ) → 1 < n → nat_eq n 0 ≡ nat_eq n 1
above_one n h = ne_eqb n 0 (λ e. omega (arith, h, e)) ∙ sym (ne_eqb n 1 (λ e. omega (arith, h, e)))

pub is_loose : (kind at : Kind) → 1 < rank kind → is kind (loose at) ≡ is kind at
is_loose kind k.Relative h = above_one (rank kind) h
is_loose kind k.Iri h = refl
is_loose kind _ h = refl

pub name_loose : (at : Kind) → is_iri_name (loose at) ≡ is_any_name at
name_loose k.Relative = refl
name_loose k.Iri = refl
name_loose _ = refl

pub loose_iri : (form : List ℕ) → k.Iri ≡ loose (kind_of (symbol.iri_of form))
loose_iri = iris (λ s. k.Iri ≡ loose (kind_of s)) (λ iri. refl) refl

pub loose_tag : (name : List ℕ) → tag_kind name ≡ loose (tag_kind name)
loose_tag = tag_kinds (λ kind. kind ≡ loose kind) refl refl refl

pub loose_word : (form : List ℕ) → kind_of (word_of form) ≡ loose (kind_of (word_of form))
loose_word = words (λ s. kind_of s ≡ loose (kind_of s)) refl (λ parts. refl) refl refl refl

pub loose_mark : (form : List ℕ) → mark_of form ≡ loose (mark_of form)
loose_mark = mark_kinds (λ kind. kind ≡ loose kind) refl refl refl refl refl refl refl

-- ---- a reason of its own has an IRI that isn't absolute, and no other token

pub why_tag : (why : TurtleKind) (name : List ℕ) → why ≡ why_of why (tag_kind name)
why_tag why = tag_kinds (λ kind. why ≡ why_of why kind) refl refl refl

pub why_word : (why : TurtleKind) (form : List ℕ) → why ≡ why_of why (kind_of (word_of form))
why_word why = words (λ s. why ≡ why_of why (kind_of s)) refl (λ parts. refl) refl refl refl

pub why_mark : (why : TurtleKind) (form : List ℕ) → why ≡ why_of why (mark_of form)
why_mark why = mark_kinds (λ kind. why ≡ why_of why kind) refl refl refl refl refl refl refl
