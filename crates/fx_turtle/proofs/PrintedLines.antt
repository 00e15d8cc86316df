-- A line that is written of a triple reads as the tokens of one statement.
use Rattle.std.proofs.Common.{◌≡◌, ℕ, Bool, true, false, cond, List, [], ◌∷◌, ◌++◌, length, None, refl, sym, ap, ◌∙◌, subst, arith, append_assoc}
use Rattle.std.specs.Prelude.{◌==◌, All}
use Rattle.std.specs.List.{flat_map}
use Rattle.std.specs.Str.{chars, bytes_eq}
use Rattle.std.proofs.lemmas.Bool.{eqb-false}
use Rattle.std.proofs.lemmas.List.Elements.{All-head, All-tail}
use Rattle.fx_terms.specs.Datatypes.{xsd_string}
use Rattle.fx_terms.specs.Literals.{LiteralParts, IsLiteral}
use Rattle.fx_terms.specs.Terms.{IsTerm}
use Rattle.fx_terms.specs.Triples.{IsTriple}
use Rattle.fx_terms.specs.Writing.{written_form, written_iri, written_kind, written_term}
use Rattle.fx_terms.specs.declared.terms.Term.{Term}
use Rattle.fx_terms.specs.declared.terms.Term.TheVariants.{Iri, Literal}
use Rattle.fx_terms.specs.declared.triples.Triple.{Triple}
use Rattle.fx_ntriples.specs.Printing.{printed_triple, printed_line, printed_graph}
use Rattle.fx_tokens.specs.Scan as scan
use Rattle.fx_spelling.proofs.Words.{low_chars}
use Rattle.fx_turtle.specs.Symbols as symbol
use Rattle.fx_turtle.specs.Symbols.{Symbol, symbol_of}
use Rattle.fx_turtle.specs.declared.kinds.Kind.TheVariants as k
use Rattle.fx_turtle.proofs.PrintedPieces.{Reading, SaysAll, nothing, space, piece}
use Rattle.fx_turtle.proofs.PrintedTokens.{iri_reads, form_reads, tag_reads, carets_read, dot_reads}

-- ---- the symbols of what is written

abbrev pub suffix_symbols : LiteralParts → List Symbol
suffix_symbols l = cond (length l.tag == 0) (cond (bytes_eq l.datatype xsd_string) [] (symbol.plain k.CaretCaret ∷ symbol.iri l.datatype ∷ [])) (symbol.tag l.tag ∷ [])

abbrev pub term_symbols : Term → List Symbol
term_symbols (Iri a) = symbol.iri a ∷ []
term_symbols (Literal l) = symbol.text l.form ∷ suffix_symbols l

abbrev pub triple_symbols : Triple → List Symbol
triple_symbols t = symbol.iri t.subject ∷ symbol.iri t.predicate ∷ (term_symbols t.object ++ symbol.plain k.Dot ∷ [])

abbrev Says : List ℕ → List Symbol → Type 0
Says = SaysAll symbol_of

one_piece : (front rest : List ℕ) (s : Symbol) (behind : List Symbol) → Reading symbol_of front rest s → Says rest behind → Says (front ++ rest) (s ∷ behind)
one_piece front rest s behind r h = piece front rest s behind refl refl r h

blank : (rest : List ℕ) (behind : List Symbol) → Says rest behind → Says (32 ∷ rest) behind
blank rest behind h = space 32 rest refl refl h

-- ---- terms, before a blank

-- what stands behind the form of a literal
kind_says : (l : LiteralParts) (rest : List ℕ) (behind : List Symbol) → IsLiteral l → Says (32 ∷ rest) behind → Says (written_kind l ++ 32 ∷ rest) (suffix_symbols l ++ behind)
kind_says l rest behind h s = go (length l.tag == 0) refl (bytes_eq l.datatype xsd_string)
  where
    go : (a : Bool) → (length l.tag == 0) ≡ a → (b : Bool)
        → Says (cond a (cond b [] (94 ∷ 94 ∷ written_iri l.datatype)) (64 ∷ l.tag) ++ 32 ∷ rest) (cond a (cond b [] (symbol.plain k.CaretCaret ∷ symbol.iri l.datatype ∷ [])) (symbol.tag l.tag ∷ []) ++ behind)
    go true e true = s
    go true e false =
        let datatype = one_piece (written_iri l.datatype) (32 ∷ rest) (symbol.iri l.datatype) behind (iri_reads l.datatype (32 ∷ rest) h.datatype) s in
        one_piece (94 ∷ 94 ∷ []) (written_iri l.datatype ++ 32 ∷ rest) (symbol.plain k.CaretCaret) (symbol.iri l.datatype ∷ behind) (carets_read (written_iri l.datatype ++ 32 ∷ rest)) datatype
    go false e b = one_piece (64 ∷ l.tag) (32 ∷ rest) (symbol.tag l.tag) behind (tag_reads l.tag rest (h.tag (omega (arith, eqb-false (length l.tag) 0 e))).tag) s

-- no quote begins it
no_quote : (l : LiteralParts) (rest : List ℕ) → scan.is 34 (chars (written_kind l ++ 32 ∷ rest)) ≡ None
unfolding scan.one
no_quote l rest = go (length l.tag == 0) (bytes_eq l.datatype xsd_string)
  where
    go : (a b : Bool) → scan.is 34 (chars (cond a (cond b [] (94 ∷ 94 ∷ written_iri l.datatype)) (64 ∷ l.tag) ++ 32 ∷ rest)) ≡ None
    go true true = ap (scan.is 34) (low_chars 32 rest (omega arith))
    go true false = ap (scan.is 34) (low_chars 94 (94 ∷ (written_iri l.datatype ++ 32 ∷ rest)) (omega arith))
    go false b = ap (scan.is 34) (low_chars 64 (l.tag ++ 32 ∷ rest) (omega arith))

term_says : (t : Term) (rest : List ℕ) (behind : List Symbol) → IsTerm t → Says (32 ∷ rest) behind → Says (written_term t ++ 32 ∷ rest) (term_symbols t ++ behind)
term_says (Iri a) rest behind h s = one_piece (written_iri a) (32 ∷ rest) (symbol.iri a) behind (iri_reads a (32 ∷ rest) h) s
term_says (Literal l) rest behind h s =
    subst (λ (v : List ℕ). Says v (symbol.text l.form ∷ (suffix_symbols l ++ behind))) (sym (append_assoc (written_form l.form) (written_kind l) (32 ∷ rest)))
    (one_piece (written_form l.form) (written_kind l ++ 32 ∷ rest) (symbol.text l.form) (suffix_symbols l ++ behind) (form_reads l.form (written_kind l ++ 32 ∷ rest) h.form (no_quote l rest)) (kind_says l rest behind h s))

-- ---- lines

-- a blank, the dot and the line end
end_says : (rest : List ℕ) (behind : List Symbol) → Says rest behind → Says (32 ∷ 46 ∷ 10 ∷ rest) (symbol.plain k.Dot ∷ behind)
end_says rest behind h = blank (46 ∷ 10 ∷ rest) (symbol.plain k.Dot ∷ behind) (one_piece (46 ∷ []) (10 ∷ rest) (symbol.plain k.Dot) behind (dot_reads rest) (space 10 rest refl refl h))

-- where what stands before it is put together from the right
line_joined : (t : Triple) (rest : List ℕ) → printed_line t ++ rest ≡ written_iri t.subject ++ 32 ∷ (written_iri t.predicate ++ 32 ∷ (written_term t.object ++ 32 ∷ 46 ∷ 10 ∷ rest))
line_joined t rest =
    append_assoc (printed_triple t) (10 ∷ []) rest ∙ append_assoc (written_iri t.subject) (32 ∷ (written_iri t.predicate ++ 32 ∷ (written_term t.object ++ 32 ∷ 46 ∷ []))) (10 ∷ rest)
    ∙ ap (λ (v : List ℕ). written_iri t.subject ++ 32 ∷ v)
    (append_assoc (written_iri t.predicate) (32 ∷ (written_term t.object ++ 32 ∷ 46 ∷ [])) (10 ∷ rest) ∙ ap (λ (v : List ℕ). written_iri t.predicate ++ 32 ∷ v) (append_assoc (written_term t.object) (32 ∷ 46 ∷ []) (10 ∷ rest)))

line_says : (t : Triple) (rest : List ℕ) (behind : List Symbol) → IsTriple t → Says rest behind → Says (printed_line t ++ rest) (triple_symbols t ++ behind)
line_says t rest behind h s =
    let ending = term_says t.object (46 ∷ 10 ∷ rest) (symbol.plain k.Dot ∷ behind) h.object (end_says rest behind s) in
    let object = written_term t.object ++ 32 ∷ 46 ∷ 10 ∷ rest in
    let said = term_symbols t.object ++ symbol.plain k.Dot ∷ behind in
    let predicate = one_piece (written_iri t.predicate) (32 ∷ object) (symbol.iri t.predicate) said (iri_reads t.predicate (32 ∷ object) h.predicate) (blank object said ending) in
    let further = written_iri t.predicate ++ 32 ∷ object in
    let subject = one_piece (written_iri t.subject) (32 ∷ further) (symbol.iri t.subject) (symbol.iri t.predicate ∷ said) (iri_reads t.subject (32 ∷ further) h.subject) (blank further (symbol.iri t.predicate ∷ said) predicate) in
    let symbols : symbol.iri t.subject ∷ symbol.iri t.predicate ∷ said ≡ triple_symbols t ++ behind =
    ap (λ (v : List Symbol). symbol.iri t.subject ∷ symbol.iri t.predicate ∷ v) (sym (append_assoc (term_symbols t.object) (symbol.plain k.Dot ∷ []) behind)) in
    subst (Says (printed_line t ++ rest)) symbols (subst (λ (v : List ℕ). Says v (symbol.iri t.subject ∷ symbol.iri t.predicate ∷ said)) (sym (line_joined t rest)) subject)

pub graph_says : (triples : List Triple) → All IsTriple triples → SaysAll symbol_of (printed_graph triples) (flat_map triple_symbols triples)
unfolding printed_graph
graph_says [] h = nothing refl refl
graph_says (t ∷ triples) h =
    line_says t (flat_map printed_line triples) (flat_map triple_symbols triples) (All-head IsTriple t triples h) (graph_says triples (All-tail IsTriple t triples h))
