-- Worked examples of documents and of refusals. Each text is written out.
use Rattle.std.specs.Prelude.{ℕ, List, [], ◌∷◌, codes}
use Rattle.std.specs.List.{AllByRecursion}
use Rattle.fx_terms.specs.Datatypes.{xsd_integer, xsd_boolean}
use Rattle.fx_terms.specs.Literals.{plain}
use Rattle.fx_terms.specs.declared.terms.Term.{Term}
use Rattle.fx_terms.specs.declared.terms.Term.TheVariants as term
use Rattle.fx_terms.specs.declared.triples.Triple.{Triple}
use Rattle.fx_grammar.specs.Grammar.{rdf_type, typed_parts, tagged_parts}
use Rattle.fx_turtle.specs.Documents.{IsTurtle, IsRefused}
use Rattle.fx_turtle.specs.Symbols.{xsd_decimal, xsd_double}
use Rattle.fx_turtle.specs.declared.refusals.TurtleKind.{TurtleKind}
use Rattle.fx_turtle.specs.declared.refusals.TurtleKind.TheVariants as kind

abbrev pub triple : List ℕ → List ℕ → Term → Triple
triple subject predicate object = record { subject = subject; predicate = predicate; object = object }

-- http://e/a, http://e/b, http://e/p and http://e/q
abbrev pub a : List ℕ
a = codes "http://e/a"

abbrev pub b : List ℕ
b = codes "http://e/b"

abbrev pub p : List ℕ
p = codes "http://e/p"

abbrev pub q : List ℕ
q = codes "http://e/q"

-- ---- documents

-- texts, each with its triples
abbrev pub documents : List (List ℕ × List Triple)
documents =
    -- objects behind a comma, a verb behind a semicolon, a decimal
    (
      codes "@prefix e: <http://e/> . e:a e:p e:b , \"1\" ; e:q 1.5 .",
      triple a p (term.Iri b) ∷ triple a p (term.Literal (plain (codes "1"))) ∷ triple a q (term.Literal (typed_parts (codes "1.5") xsd_decimal)) ∷ [],
    )
    ∷ (codes "", [])
    -- behind a text @prefix is a tag, with white space before it too; and so is @base
    ∷ (codes "<e:a> <e:p> \"x\" @prefix .", triple (codes "e:a") (codes "e:p") (term.Literal (tagged_parts (codes "x") (codes "prefix"))) ∷ [])
    ∷ (codes "<e:a> <e:p> \"x\"@base .", triple (codes "e:a") (codes "e:p") (term.Literal (tagged_parts (codes "x") (codes "base"))) ∷ [])
    -- PREFIX of either case has no dot; of two declarations of a prefix the later counts, from there on; `a` is rdf:type
    ∷ (
      codes "prefix e: <f:> e:a e:p e:b . @prefix e: <g:> . e:a a e:b .",
      triple (codes "f:a") (codes "f:p") (term.Iri (codes "f:b")) ∷ triple (codes "g:a") rdf_type (term.Iri (codes "g:b")) ∷ [],
    )
    -- a semicolon may stand before the dot, and several
    ∷ (codes "<e:a> <e:p> <e:b> ;; .", triple (codes "e:a") (codes "e:p") (term.Iri (codes "e:b")) ∷ [])
    -- numbers and truth values keep their text
    ∷ (
      codes "<e:a> <e:p> -07 , 1e3 , true .",
      triple (codes "e:a") (codes "e:p") (term.Literal (typed_parts (codes "-07") xsd_integer)) ∷ triple (codes "e:a") (codes "e:p") (term.Literal (typed_parts (codes "1e3") xsd_double))
          ∷ triple (codes "e:a") (codes "e:p") (term.Literal (typed_parts (codes "true") xsd_boolean)) ∷ [],
    )
    ∷ []

abbrev pub DocumentsAreRead : Type 0
DocumentsAreRead = AllByRecursion (λ d. IsTurtle d.0 d.1) documents

-- ---- refusals

-- texts, each with the kind of its refusal and the place
abbrev pub refusals : List (List ℕ × (TurtleKind × ℕ))
refusals =
    (codes "_:b e:p e:c .", (kind.Blank, 0))
    ∷ (codes "e:a e:p e:b .", (kind.UnknownPrefix, 0))
    ∷ (codes "@base <http://e/> .", (kind.Unsupported, 0))
    ∷ (codes "Base <http://e/>", (kind.Unsupported, 0))
    -- the text ends too early
    ∷ (codes "<http://e/a> <http://e/p>", (kind.Unexpected, 25))
    -- `a` stands for rdf:type where a verb stands, and nowhere else
    ∷ (codes "<e:a> a a .", (kind.Unexpected, 8))
    ∷ (codes "<e:a> <e:p> ( 1 ) .", (kind.Unsupported, 12))
    ∷ (codes "<e:a> <e:p> [ ] .", (kind.Blank, 12))
    ∷ (codes "<e:a> <p> 1 .", (kind.Relative, 6))
    ∷ (codes "<e:a> <e:p> \"x\"^^<http://www.w3.org/1999/02/22-rdf-syntax-ns#langString> .", (kind.BadLiteral, 17))
    -- of another case it is no truth value
    ∷ (codes "<e:a> <e:p> TRUE .", (kind.Unexpected, 12))
    -- a fault of the tokens comes first, wherever it stands
    ∷ (codes "_:b & .", (kind.BadToken, 4))
    ∷ []

abbrev pub RefusalsStand : Type 0
RefusalsStand = AllByRecursion (λ r. IsRefused r.0 r.1.0 r.1.1) refusals
