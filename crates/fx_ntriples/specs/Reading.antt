-- How a document is read: line by line, each from its front (RDF 1.1 N-Triples, section 7).
use Rattle.std.specs.Prelude.{ℕ, ◌+◌, ◌-◌, Bool, true, false, not, ◌&&◌, ◌==◌, if◌then◌else◌, List, [], ◌∷◌, length, take, drop, Option, Some, None, Result, Ok, Err}
use Rattle.std.specs.List.{slice_split}
use Rattle.std.specs.Str.{is_utf8}
use Rattle.fx_terms.specs.declared.iris.TermError.{TermError}
use Rattle.fx_terms.specs.declared.literals.LiteralError.{LiteralError}
use Rattle.fx_terms.specs.declared.terms.Term.{Term}
use Rattle.fx_terms.specs.declared.terms.Term.TheVariants as term
use Rattle.fx_terms.specs.declared.triples.Triple.{Triple}
use Rattle.fx_terms.specs.Iris.{read_iri, is_letter}
use Rattle.fx_terms.specs.Literals.{LiteralParts, plain, typed, tagged, is_letter_or_digit}
use Rattle.fx_terms.specs.Graphs.{graph_of}
use Rattle.fx_ntriples.specs.declared.faults.Fault.{Fault}
use Rattle.fx_ntriples.specs.declared.faults.Fault.TheVariants.{Bad, Blank, Relative}
use Rattle.fx_ntriples.specs.declared.faults.NtError.{NtError}
use Rattle.fx_ntriples.specs.declared.faults.NtError.TheVariants.{BadUtf8}
use Rattle.fx_ntriples.specs.declared.quotes.Quote.TheVariants.{Iri, Text}
use Rattle.fx_rules.specs.Rule.{and_then}
use Rattle.fx_ntriples.specs.Quotes.{Got, got, stop, body}
use Rattle.fx_terms.specs.Utf8.{utf8_fault}
pub use Rattle.fx_terms.specs.Blanks.{is_blank, is_line_end}
use Rattle.fx_ntriples.specs.Places.{at_place}

-- the text behind the blanks at its front
abbrev pub unblanked : List ℕ → List ℕ
unblanked [] = []
unblanked (b ∷ s) = if is_blank b then unblanked s else b ∷ s

-- ---- terms

abbrev pub if_absolute : List ℕ → List ℕ → Result (List ℕ) TermError → Got (List ℕ)
if_absolute here s (Ok t) = got t s
if_absolute here s (Err e) = stop Relative here

-- an IRIREF, which is absolute
abbrev pub iri : List ℕ → Got (List ℕ)
iri [] = stop Bad []
iri (b ∷ s) = if b == 60 then and_then (body Iri 0 s) (λ t r. if_absolute (b ∷ s) r (read_iri t)) else stop Bad (b ∷ s)

-- how many bytes at the front begin a tag: in its first part or a later one, which has no byte yet or some
abbrev pub in_part : Bool → ℕ → Bool
in_part true b = is_letter b
in_part false b = is_letter_or_digit b

unfoldable pub tag_len : Bool → Bool → List ℕ → ℕ
tag_len first empty [] = 0
tag_len first empty (b ∷ s) =
    if in_part first b then 1 + tag_len first false s
    else (if b == 45 && not empty then 1 + tag_len false true s else 0)

abbrev pub if_literal : List ℕ → List ℕ → Result LiteralParts LiteralError → Got Term
if_literal here s (Ok l) = got (term.Literal l) s
if_literal here s (Err e) = stop Bad here

-- the literal of a form, with its tag behind the @
abbrev pub with_tag : List ℕ → List ℕ → Got Term
with_tag form s = if_literal (drop (tag_len true true s) s) (drop (tag_len true true s) s) (tagged form (take (tag_len true true s) s))

-- the literal of a form, with its datatype behind the first ^
abbrev pub with_datatype : List ℕ → List ℕ → Got Term
with_datatype form [] = stop Bad []
with_datatype form (b ∷ s) = if b == 94 then and_then (iri (unblanked s)) (λ datatype r. if_literal (unblanked s) r (typed form datatype)) else stop Bad (b ∷ s)

-- the literal of a form, with or without a datatype
abbrev pub untagged : List ℕ → List ℕ → Got Term
untagged form [] = got (term.Literal (plain form)) []
untagged form (b ∷ s) = if b == 94 then with_datatype form s else got (term.Literal (plain form)) (b ∷ s)

-- the literal of a form, by what follows its closing quote
abbrev pub literal : List ℕ → List ℕ → Got Term
literal form [] = untagged form []
literal form (b ∷ s) = if b == 64 then with_tag form s else untagged form (unblanked (b ∷ s))

-- a subject
abbrev pub subject : List ℕ → Got (List ℕ)
subject [] = stop Bad []
subject (b ∷ s) = if b == 95 then stop Blank (b ∷ s) else iri (b ∷ s)

-- an object
abbrev pub object : List ℕ → Got Term
object [] = stop Bad []
object (b ∷ s) =
    if b == 95 then stop Blank (b ∷ s)
    else (if b == 34 then and_then (body Text 0 s) literal
    else and_then (iri (b ∷ s)) (λ t r. got (term.Iri t) r))

-- ---- lines

-- the dot behind a triple
abbrev pub dotted : Triple → List ℕ → Got Triple
dotted t [] = stop Bad []
dotted t (b ∷ s) = if b == 46 then got t s else stop Bad (b ∷ s)

abbrev pub triple : List ℕ → Got Triple
triple text =
    and_then (subject text) (λ s r.
    and_then (iri (unblanked r)) (λ p q.
    and_then (object (unblanked q)) (λ o e. dotted (record { subject = s; predicate = p; object = o }) (unblanked e))))

-- the end of a line, perhaps a comment
abbrev pub ended : Option Triple → List ℕ → Got (Option Triple)
ended t [] = got t []
ended t (b ∷ s) = if b == 35 then got t [] else stop Bad (b ∷ s)

-- what a line says behind the blanks at its front
abbrev pub said : List ℕ → Got (Option Triple)
said [] = got None []
said (b ∷ s) = if b == 35 then got None [] else and_then (triple (b ∷ s)) (λ t r. ended (Some t) (unblanked r))

-- the triple of a line, or nothing
unfoldable pub line : List ℕ → Got (Option Triple)
line s = said (unblanked s)

-- ---- documents

-- the triples of lines; or a fault, where the line begins in which it stands, and how far behind
pub data Lines : Type 0 where
  all : List Triple → Lines
  fault : Fault → ℕ → ℕ → Lines

abbrev pub also : Option Triple → Lines → Lines
also None ls = ls
also (Some t) (all ts) = all (t ∷ ts)
also (Some t) (fault k start place) = fault k start place

abbrev pub followed : ℕ → ℕ → Got (Option Triple) → Lines → Lines
followed start size (Ok p) more = also p.0 more
followed start size (Err f) more = fault f.0 start (size - length f.1)

-- the lines one after another, of which the first begins at a place
abbrev pub read_lines : ℕ → List (List ℕ) → Lines
read_lines start [] = all []
read_lines start (l ∷ ls) = followed start (length l) (line l) (read_lines (start + length l + 1) ls)

-- the graph, or the refusal with its place
abbrev pub answered : List ℕ → Lines → Result (List Triple) NtError
answered bytes (all ts) = Ok (graph_of ts)
answered bytes (fault k start place) = Err (at_place bytes k start place)

-- the graph that a document is, or why it is none
abbrev pub read_document : List ℕ → Result (List Triple) NtError
read_document bytes =
    if is_utf8 bytes then answered bytes (read_lines 0 (slice_split is_line_end bytes))
    else Err (BadUtf8 (utf8_fault bytes))
