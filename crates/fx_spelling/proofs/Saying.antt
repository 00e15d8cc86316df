-- Printed words read as what they say.
use Rattle.std.proofs.Common.{◌≡◌, ℕ, Bool, true, false, cond, List, [], ◌∷◌, ◌++◌, length, None, refl, sym, ap, subst, arith, append_assoc, inl, inr}
use Rattle.std.specs.Prelude.{◌==◌}
use Rattle.std.specs.Str.{chars, bytes_eq}
use Rattle.std.proofs.lemmas.Bool.{eqb-false}
use Rattle.std.proofs.lemmas.List.Concat.{flat_map-append}
use Rattle.fx_terms.specs.Datatypes.{xsd_string}
use Rattle.fx_terms.specs.Literals.{LiteralParts, IsLiteral}
use Rattle.fx_terms.specs.Terms.{IsTerm}
use Rattle.fx_terms.specs.Writing.{written_form, written_iri, written_kind, written_term}
use Rattle.fx_terms.specs.declared.terms.Term.{Term}
use Rattle.fx_terms.specs.declared.terms.Term.TheVariants.{Iri, Literal}
use Rattle.fx_tokens.specs.Scan as scan
use Rattle.fx_algebra.specs.Printed.{Word, fixed, variable, term, number, spelling, spaced, joined}
use Rattle.fx_spelling.specs.Printable.{IsFine, AreFine, word_tokens, term_tokens, suffix_tokens, said, fixed_token}
use Rattle.fx_grammar.specs.declared.kinds.Kind.TheVariants as k
use Rattle.fx_grammar.specs.declared.kinds.Token.{Token}
use Rattle.fx_grammar.specs.declared.kinds.Token.TheVariants as token
use Rattle.fx_spelling.proofs.Pieces.{SaysAll, nothing, space, piece, Reading, Lexed, lexes}
use Rattle.fx_spelling.proofs.Fixed.{fixed_reads}
use Rattle.fx_spelling.proofs.Words.{Ends, ends_by, chars_end, fixed_reading, name_reading, iri_reading, low_chars}
use Rattle.fx_spelling.proofs.Texts.{form_reading, carets_reading, tag_reading}
use Rattle.fx_spelling.proofs.Numbers.{number_reading}

one_piece : (front rest : List ℕ) (t : Token) (behind : List Token) → Reading front rest t → SaysAll rest behind → SaysAll (front ++ rest) (t ∷ behind)
one_piece front rest t behind r s = piece front rest t behind refl refl r s

-- ---- literals

-- what stands behind the form of a literal
kind_says : (l : LiteralParts) (rest : List ℕ) (behind : List Token) → IsLiteral l → Ends rest → SaysAll rest behind → SaysAll (written_kind l ++ rest) (suffix_tokens l ++ behind)
kind_says l rest behind h e s = go (length l.tag == 0) refl (bytes_eq l.datatype xsd_string)
  where
    go : (a : Bool) → (length l.tag == 0) ≡ a → (b : Bool) → SaysAll (cond a (cond b [] (94 ∷ 94 ∷ written_iri l.datatype)) (64 ∷ l.tag) ++ rest) (cond a (cond b [] (token.Plain k.CaretCaret ∷ token.Iri l.datatype ∷ [])) (token.Tag l.tag ∷ []) ++ behind)
    go true f true = s
    go true f false = one_piece (94 ∷ 94 ∷ []) (written_iri l.datatype ++ rest) (token.Plain k.CaretCaret) (token.Iri l.datatype ∷ behind) (carets_reading (written_iri l.datatype ++ rest)) (one_piece (written_iri l.datatype) rest (token.Iri l.datatype) behind (iri_reading l.datatype rest h.datatype) s)
    go false f b = one_piece (64 ∷ l.tag) rest (token.Tag l.tag) behind (tag_reading l.tag rest (h.tag (omega (arith, eqb-false (length l.tag) 0 f))).tag e) s

-- no quote begins it
no_quote : (l : LiteralParts) (rest : List ℕ) → Ends rest → scan.is 34 (chars (written_kind l ++ rest)) ≡ None
unfolding scan.one
no_quote l rest e = go (length l.tag == 0) (bytes_eq l.datatype xsd_string)
  where
    go : (a b : Bool) → scan.is 34 (chars (cond a (cond b [] (94 ∷ 94 ∷ written_iri l.datatype)) (64 ∷ l.tag) ++ rest)) ≡ None
    go true true = ends_by (λ r. scan.is 34 r ≡ None) refl (λ r. refl) (chars rest) (chars_end rest e)
    go true false = ap (scan.is 34) (low_chars 94 (94 ∷ (written_iri l.datatype ++ rest)) (omega arith))
    go false b = ap (scan.is 34) (low_chars 64 (l.tag ++ rest) (omega arith))

pub term_says : (t : Term) (rest : List ℕ) (behind : List Token) → IsTerm t → Ends rest → SaysAll rest behind → SaysAll (written_term t ++ rest) (term_tokens t ++ behind)
term_says (Iri a) rest behind h e s = one_piece (written_iri a) rest (token.Iri a) behind (iri_reading a rest h) s
term_says (Literal l) rest behind h e s =
    subst (λ (v : List ℕ). SaysAll v (token.Text l.form ∷ (suffix_tokens l ++ behind))) (sym (append_assoc (written_form l.form) (written_kind l) rest))
    (one_piece (written_form l.form) (written_kind l ++ rest) (token.Text l.form) (suffix_tokens l ++ behind) (form_reading l.form (written_kind l ++ rest) h.form (no_quote l rest e)) (kind_says l rest behind h e s))

-- ---- words

pub word_says : (w : Word) (rest : List ℕ) (behind : List Token) → IsFine w → Ends rest → SaysAll rest behind → SaysAll (spelling w ++ rest) (word_tokens w ++ behind)
word_says (fixed text) rest behind h e s = one_piece text rest (fixed_token text) behind (fixed_reading text rest (fixed_reads text h) e) s
word_says (variable name) rest behind h e s = one_piece (63 ∷ name) rest (token.Variable name) behind (name_reading name rest h e) s
word_says (term t) rest behind h e s = term_says t rest behind h e s
word_says (number n) rest behind h e s = one_piece _ rest _ behind (number_reading n rest h e) s

spaced_end : (words : List Word) → Ends (spaced words)
spaced_end [] = inl refl
spaced_end (w ∷ words) = inr (spelling w ++ spaced words, refl)

spaced_says : (words : List Word) → AreFine words → SaysAll (spaced words) (said words)
spaced_says [] h = nothing refl refl
spaced_says (w ∷ words) h = space (spelling w ++ spaced words) refl (word_says w (spaced words) (said words) h.0 (spaced_end words) (spaced_says words h.1))

pub joined_says : (words : List Word) → AreFine words → SaysAll (joined words) (said words)
joined_says [] h = nothing refl refl
joined_says (w ∷ words) h = word_says w (spaced words) (said words) h.0 (spaced_end words) (spaced_says words h.1)

pub fine_both : (xs ys : List Word) → AreFine xs → AreFine ys → AreFine (xs ++ ys)
fine_both [] ys h g = g
fine_both (x ∷ xs) ys h g = (h.0, fine_both xs ys h.1 g)

pub said_both : (xs ys : List Word) → said (xs ++ ys) ≡ said xs ++ said ys
said_both xs ys = flat_map-append word_tokens xs ys

-- printed words, in UTF-8, read as tokens that say what the words say
pub words_lexed : (words : List Word) → AreFine words → Lexed [] (joined words) (said words)
words_lexed words h = lexes (joined words) (said words) (joined_says words h) []
