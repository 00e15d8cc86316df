-- What is written of a graph is read as that graph.
use Rattle.std.proofs.Common.{◌≡◌, ℕ, suc, ◌<◌, ◌≤◌, ◌==◌, Bool, true, false, cond, not, Some, None, Result, Ok, Err, List, [], ◌∷◌, ◌++◌, length, refl, sym, ap, ◌∙◌, subst, arith, append_assoc, append-nil, All}
use Rattle.std.specs.Prelude.{nat_lt, IfOk}
use Rattle.std.specs.String.{string_bytes}
use Rattle.std.specs.declared.string.String.{String}
use Rattle.std.specs.declared.alloc.Global.{Global}
use Rattle.std.proofs.lemmas.Str.{IsUtf8-string_bytes}
use Rattle.fx_terms.specs.declared.allocation.Memory.{Memory}
use Rattle.std.specs.List.{list_all, prefix_len, position_or_len, slice_split, onto_first, flat_map}
use Rattle.std.specs.List.Sorted.{IsStrictlySortedBy}
use Rattle.std.specs.Str.{IsUtf8, bytes_eq}
use Rattle.std.specs.declared.cmp.Ordering.{Ordering}
use Rattle.std.specs.declared.cmp.Ordering.TheVariants.{Less}
use Rattle.std.specs.Cmp.Lexicographic.{same_text}
use Rattle.std.proofs.lemmas.Bool.{eqb-true}
use Rattle.std.proofs.lemmas.Bool.Decides.{nat_tests}
use Rattle.std.proofs.lemmas.List.Folds.{list_all-append}
use Rattle.std.proofs.lemmas.List.Sums.{prefix_len-le-length}
use Rattle.std.proofs.lemmas.List.Elements.{All-head, All-tail}
use Rattle.std.proofs.lemmas.List.Splits.{length-slice_split}
use Rattle.std.proofs.lemmas.Map.Keys.{sorted_head, sorted_tail}
use Rattle.fx_terms.specs.declared.terms.Term.{Term}
use Rattle.fx_terms.specs.declared.terms.Term.TheVariants as term
use Rattle.fx_terms.specs.declared.triples.Triple.{Triple}
use Rattle.fx_terms.specs.Iris.{IsIri, iri_after, is_forbidden}
use Rattle.fx_terms.specs.Datatypes.{xsd_string, lang_string}
use Rattle.fx_terms.specs.Literals.{LiteralParts, IsLiteral, plain, typed, tagged, is_dash}
use Rattle.fx_terms.specs.Terms.{IsTerm}
use Rattle.fx_terms.specs.Triples.{IsTriple, triple_cmp}
use Rattle.fx_terms.specs.Graphs.{set_of, put_once}
use Rattle.fx_ntriples.specs.declared.quotes.Quote.TheVariants.{Iri, Text}
use Rattle.fx_ntriples.specs.Quotes.{is_plain, letter, IsBody, nothing, itself, escape}
use Rattle.fx_ntriples.specs.Reading.{is_line_end, in_part, read_document}
use Rattle.fx_ntriples.specs.Forms as form
use Rattle.fx_ntriples.specs.Printing.{printed_triple, printed_line, printed_graph}
use Rattle.fx_terms.specs.Writing.{written_byte, written_form, written_iri, written_kind, written_term}
use Rattle.fx_ntriples.proofs.Complete.{both, Parts, parts_of_tag, later_parts, document_reads}
use Rattle.fx_ntriples.proofs.Sound.{passes_all}

-- ---- lists of bytes that pass a test

weaker : (p q : ℕ → Bool) → ((b : ℕ) → p b ≡ true → q b ≡ true) → (xs : List ℕ) → list_all p xs ≡ true → list_all q xs ≡ true
weaker p q f [] h = refl
weaker p q f (x ∷ xs) h = let t = both (p x) (list_all p xs) h in rw (f x t.0, weaker p q f xs t.1) refl

join : (p : ℕ → Bool) (xs ys : List ℕ) → list_all p xs ≡ true → list_all p ys ≡ true → list_all p (xs ++ ys) ≡ true
join p xs ys h k = list_all-append p xs ys ∙ rw (h, k) refl

-- no CR or LF
inside : ℕ → Bool
inside b = not (is_line_end b)

first_line : (xs ys : List ℕ) (y : ℕ) → list_all inside xs ≡ true → is_line_end y ≡ true → slice_split is_line_end (xs ++ y ∷ ys) ≡ xs ∷ slice_split is_line_end ys
unfolding inside
first_line [] ys y h e = rw e refl
first_line (x ∷ xs) ys y h e =
    let t = both (not (is_line_end x)) (list_all inside xs) h in
    let no : is_line_end x ≡ false = turned (is_line_end x) t.0 in
    rw (no, first_line xs ys y t.1 e) refl
  where
    turned : (v : Bool) → not v ≡ true → v ≡ false
    turned true h = absurd (cc)
    turned false h = refl

-- ---- IRIs

iri_test : (t : List ℕ) (v : Bool) → nat_lt (position_or_len is_forbidden t) (length t) ≡ v → iri_after t (cond v (Some (position_or_len is_forbidden t)) None) ≡ Ok t → list_all (is_plain Iri) t ≡ true
iri_test t true e h = absurd (cc)
iri_test t false e h =
    let few = prefix_len-le-length (is_plain Iri) t in
    let long : length t ≤ position_or_len is_forbidden t = grind (arith, nat_tests) in
    let all : prefix_len (is_plain Iri) t ≡ length t = omega arith in
    passes_all (is_plain Iri) t all

iri_plain : (t : List ℕ) → IsIri t → list_all (is_plain Iri) t ≡ true
iri_plain t h = iri_test t (nat_lt (position_or_len is_forbidden t) (length t)) refl h.iri

iri_body : (t : List ℕ) → list_all (is_plain Iri) t ≡ true → IsBody Iri t t
iri_body [] h = nothing
iri_body (b ∷ t) h = let x = both (is_plain Iri b) (list_all (is_plain Iri) t) h in itself x.0 (iri_body t x.1)

iri_form : (t : List ℕ) → IsIri t → form.IsIriRef (written_iri t) t
iri_form t h = form.iriref (iri_body t (iri_plain t h)) h.iri

plain_inside : (b : ℕ) → is_plain Iri b ≡ true → inside b ≡ true
unfolding inside
plain_inside b h = grind (arith, nat_tests)

iri_inside : (t : List ℕ) → IsIri t → list_all inside (written_iri t) ≡ true
unfolding inside
iri_inside t h = join inside t (62 ∷ []) (weaker (is_plain Iri) inside plain_inside t (iri_plain t h)) refl

-- ---- strings

byte_test : (b : ℕ) (s t : List ℕ) (v w x y : Bool) → (b == 34) ≡ v → (b == 92) ≡ w → (b == 10) ≡ x → (b == 13) ≡ y → IsBody Text s t →
    IsBody Text (cond v (92 ∷ 34 ∷ []) (cond w (92 ∷ 92 ∷ []) (cond x (92 ∷ 110 ∷ []) (cond y (92 ∷ 114 ∷ []) (b ∷ [])))) ++ s) (b ∷ t)
byte_test b s t true w x y e f g k h = subst (λ (c : ℕ). IsBody Text (92 ∷ 34 ∷ s) (c ∷ t)) (sym (eqb-true b 34 e)) (escape (letter refl) h)
byte_test b s t false true x y e f g k h = subst (λ (c : ℕ). IsBody Text (92 ∷ 92 ∷ s) (c ∷ t)) (sym (eqb-true b 92 f)) (escape (letter refl) h)
byte_test b s t false false true y e f g k h = subst (λ (c : ℕ). IsBody Text (92 ∷ 110 ∷ s) (c ∷ t)) (sym (eqb-true b 10 g)) (escape (letter refl) h)
byte_test b s t false false false true e f g k h = subst (λ (c : ℕ). IsBody Text (92 ∷ 114 ∷ s) (c ∷ t)) (sym (eqb-true b 13 k)) (escape (letter refl) h)
byte_test b s t false false false false e f g k h = itself (rw (e, f, g, k) refl) h

form_body : (t : List ℕ) → IsBody Text (flat_map written_byte t) t
form_body [] = nothing
form_body (b ∷ t) = byte_test b (flat_map written_byte t) t (b == 34) (b == 92) (b == 10) (b == 13) refl refl refl refl (form_body t)

string_form : (t : List ℕ) → form.IsString (written_form t) t
string_form t = form.quoted (form_body t)

byte_inside : (b : ℕ) (v w x y : Bool) → (b == 10) ≡ x → (b == 13) ≡ y → list_all inside (cond v (92 ∷ 34 ∷ []) (cond w (92 ∷ 92 ∷ []) (cond x (92 ∷ 110 ∷ []) (cond y (92 ∷ 114 ∷ []) (b ∷ []))))) ≡ true
unfolding inside
byte_inside b true w x y e f = refl
byte_inside b false true x y e f = refl
byte_inside b false false true y e f = refl
byte_inside b false false false true e f = refl
byte_inside b false false false false e f = rw (e, f) refl

form_inside : (t : List ℕ) → list_all inside (flat_map written_byte t) ≡ true
form_inside [] = refl
form_inside (b ∷ t) = join inside (written_byte b) (flat_map written_byte t) (byte_inside b (b == 34) (b == 92) (b == 10) (b == 13) refl refl) (form_inside t)

string_inside : (t : List ℕ) → list_all inside (written_form t) ≡ true
unfolding inside
string_inside t = join inside (flat_map written_byte t) (34 ∷ []) (form_inside t) refl

-- ---- tags

part_inside : (first : Bool) (b : ℕ) → in_part first b ≡ true → inside b ≡ true
unfolding inside
part_inside true b h = grind (arith, nat_tests)
part_inside false b h = grind (arith, nat_tests)

tag_step : (first empty : Bool) (b : ℕ) (t : List ℕ) (parts : List (List ℕ)) (v : Bool) → (b == 45) ≡ v → 0 < length parts → Parts first empty (cond v ([] ∷ parts) (onto_first b parts)) →
    ((f e : Bool) → Parts f e parts → list_all inside t ≡ true) → list_all inside (b ∷ t) ≡ true
unfolding Parts inside
tag_step first empty b t parts true d l h ih = rw (eqb-true b 45 d) (ih false true (later_parts parts l h.2))
tag_step first empty b t [] false d l h ih = absurd (omega arith)
tag_step first empty b t (p ∷ ps) false d l h ih =
    let a = both (in_part first b) (list_all (in_part first) p) h.1 in
    rw (part_inside first b a.0) (ih first false (λ e. absurd (cc), a.1, h.2))

tag_inside : (first empty : Bool) (t : List ℕ) → Parts first empty (slice_split is_dash t) → list_all inside t ≡ true
tag_inside first empty [] h = refl
tag_inside first empty (b ∷ t) h = tag_step first empty b t (slice_split is_dash t) (b == 45) refl (omega (arith, length-slice_split is_dash t)) h (λ f e k. tag_inside f e t k)

-- ---- literals

no_bytes : (xs : List ℕ) → (length xs == 0) ≡ true → xs ≡ []
no_bytes [] h = refl
no_bytes (x ∷ xs) h = absurd (let none : suc (length xs) ≡ 0 = eqb-true (suc (length xs)) 0 h in cc)

some_bytes : (xs : List ℕ) → (length xs == 0) ≡ false → 0 < length xs
some_bytes xs h = grind (arith, nat_tests)

turned : (v w : Bool) → v ≡ not w → w ≡ not v
turned true true h = absurd (cc)
turned true false h = refl
turned false true h = refl
turned false false h = absurd (cc)

record Writes (l : LiteralParts) (kind : List ℕ) : Type 0 where
  form : form.IsObject (written_form l.form ++ kind) (term.Literal l)
  stays : list_all inside kind ≡ true

kind_of_tag : (l : LiteralParts) → IsLiteral l → (length l.tag == 0) ≡ false → Writes l (64 ∷ l.tag)
unfolding inside
kind_of_tag l h e =
    let tag = h.tag (some_bytes l.tag e) in
    let lang : bytes_eq l.datatype lang_string ≡ true = turned (length l.tag == 0) (bytes_eq l.datatype lang_string) h.fits ∙ rw e refl in
    let datatype : l.datatype ≡ lang_string = same_text l.datatype lang_string (sym lang) in
    let made : tagged l.form l.tag ≡ Ok l = rw (tag.tag, tag.lower, ← datatype) refl in
    record { form = form.with_tag l.tag (string_form l.form) made; stays = tag_inside true true l.tag (parts_of_tag (slice_split is_dash l.tag) tag.tag) }

abbrev parts : List ℕ → List ℕ → List ℕ → LiteralParts
parts form datatype tag = record { form = form; datatype = datatype; tag = tag }

kind_of_datatype : (l : LiteralParts) (v : Bool) → IsLiteral l → (length l.tag == 0) ≡ true → bytes_eq l.datatype xsd_string ≡ v → Writes l (cond v [] (94 ∷ 94 ∷ written_iri l.datatype))
unfolding inside
kind_of_datatype l true h e f =
    let datatype : l.datatype ≡ xsd_string = same_text l.datatype xsd_string (sym f) in
    let tag : l.tag ≡ [] = no_bytes l.tag e in
    let same : plain l.form ≡ l = ap (λ d. parts l.form d []) (sym datatype) ∙ ap (λ t. parts l.form l.datatype t) (sym tag) in
    record { form = rw (append-nil (written_form l.form)) (subst (λ (x : LiteralParts). form.IsObject (written_form l.form) (term.Literal x)) same (form.alone (string_form l.form))); stays = refl }
kind_of_datatype l false h e f =
    let tag : l.tag ≡ [] = no_bytes l.tag e in
    let other : bytes_eq l.datatype lang_string ≡ false = turned (length l.tag == 0) (bytes_eq l.datatype lang_string) h.fits ∙ rw e refl in
    let made : typed l.form l.datatype ≡ Ok l = rw (other, ← tag) refl in
    record { form = form.with_datatype [] [] (written_iri l.datatype) (string_form l.form) refl refl (iri_form l.datatype h.datatype) made; stays = iri_inside l.datatype h.datatype }

kind_test : (l : LiteralParts) (v : Bool) → IsLiteral l → (length l.tag == 0) ≡ v → Writes l (cond v (cond (bytes_eq l.datatype xsd_string) [] (94 ∷ 94 ∷ written_iri l.datatype)) (64 ∷ l.tag))
kind_test l true h e = kind_of_datatype l (bytes_eq l.datatype xsd_string) h e refl
kind_test l false h e = kind_of_tag l h e

literal_written : (l : LiteralParts) → IsLiteral l → Writes l (written_kind l)
literal_written l h = kind_test l (length l.tag == 0) h refl

term_form : (t : Term) → IsTerm t → form.IsObject (written_term t) t
term_form (term.Iri a) h = form.reference (iri_form a h)
term_form (term.Literal l) h = (literal_written l h).form

term_inside : (t : Term) → IsTerm t → list_all inside (written_term t) ≡ true
term_inside (term.Iri a) h = iri_inside a h
term_inside (term.Literal l) h = join inside (written_form l.form) (written_kind l) (string_inside l.form) (literal_written l h).stays

-- ---- triples and graphs

triple_form : (t : Triple) → IsTriple t → form.IsLine (printed_triple t) (Some t)
triple_form t h = form.says [] (32 ∷ []) (32 ∷ []) (32 ∷ []) [] [] (written_iri t.subject) (written_iri t.predicate) (written_term t.object) refl refl refl refl refl tt (iri_form t.subject h.subject) (iri_form t.predicate h.predicate) (term_form t.object h.object)

triple_inside : (t : Triple) → IsTriple t → list_all inside (printed_triple t) ≡ true
unfolding inside
triple_inside t h =
    join inside (written_iri t.subject) _ (iri_inside t.subject h.subject)
    (join inside (written_iri t.predicate) _ (iri_inside t.predicate h.predicate)
    (join inside (written_term t.object) _ (term_inside t.object h.object) refl))

line_first : (t : Triple) (rest : List ℕ) → IsTriple t → slice_split is_line_end (printed_line t ++ rest) ≡ printed_triple t ∷ slice_split is_line_end rest
line_first t rest h = ap (slice_split is_line_end) (append_assoc (printed_triple t) (10 ∷ []) rest) ∙ first_line (printed_triple t) rest 10 (triple_inside t h) refl

pub lines_form : (g : List Triple) → All IsTriple g → form.AreLines (slice_split is_line_end (printed_graph g)) g
unfolding printed_graph
lines_form [] h = form.silent (form.empty [] [] refl tt) form.none
lines_form (t ∷ g) h =
    let here : IsTriple t = All-head IsTriple t g h in
    subst (λ (ls : List (List ℕ)). form.AreLines ls (t ∷ g)) (sym (line_first t (flat_map printed_line g) here)) (form.more (triple_form t here) (lines_form g (All-tail IsTriple t g h)))

-- a list that rises is the set of its elements
put_first : {X : Type 0} (R : X → X → Ordering) (x : X) (xs : List X) → IsStrictlySortedBy R (x ∷ xs) → put_once R x xs ≡ x ∷ xs
unfolding put_once
put_first R x [] h = refl
put_first R x (y ∷ ys) h = let less : R x y ≡ Less = (sorted_head R x (y ∷ ys) h).0 in rw less refl

pub rising_set : {X : Type 0} (R : X → X → Ordering) (xs : List X) → IsStrictlySortedBy R xs → set_of R xs ≡ xs
unfolding set_of
rising_set R [] h = refl
rising_set R (x ∷ xs) h = ap (put_once R x) (rising_set R xs (sorted_tail R x xs h)) ∙ put_first R x xs h

pub reads_back : (g : List Triple) → IsStrictlySortedBy triple_cmp g → All IsTriple g → IsUtf8 (printed_graph g) → read_document (printed_graph g) ≡ Ok g
reads_back g rises terms utf8 = document_reads (printed_graph g) g (record { utf8 = utf8; triples = g; lines = lines_form g terms; holds = sym (rising_set triple_cmp g rises) })

pub back_law : (r : Result (String Global) Memory) (g : List Triple) → IfOk r (λ text. string_bytes text ≡ printed_graph g) → IsStrictlySortedBy triple_cmp g → All IsTriple g → IfOk r (λ text. read_document (string_bytes text) ≡ Ok g)
back_law (Ok text) g e rises terms = ap read_document e ∙ reads_back g rises terms (subst IsUtf8 e (IsUtf8-string_bytes text))
back_law (Err m) g e rises terms = tt
