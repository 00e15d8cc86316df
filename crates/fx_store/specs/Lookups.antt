-- Which triples a pattern is tried on beside a row, how many these are, and how it is tried on one.
use Rattle.std.specs.Prelude.{ℕ, suc, ◌+◌, ◌*◌, Bool, true, false, List, [], ◌∷◌, Option, Some, None, ◌&&◌, length, filter, is_some, if◌then◌else◌}
use Rattle.std.specs.Int.Digits.{digits_of}
use Rattle.std.specs.declared.cmp.Ordering.{Ordering}
use Rattle.std.specs.declared.cmp.Ordering.TheVariants.{Equal}
use Rattle.std.specs.Ordering.{is_eq, is_lt, is_le, ordering_then}
use Rattle.fx_terms.specs.Texts.{text_cmp}
use Rattle.fx_terms.specs.Terms.{term_cmp}
use Rattle.fx_terms.specs.declared.terms.Term.{Term}
use Rattle.fx_terms.specs.declared.terms.Term.TheVariants.{Iri}
use Rattle.fx_terms.specs.declared.triples.Triple.{Triple}
use Rattle.fx_terms.specs.declared.patterns.Pattern.{Pattern}
use Rattle.fx_terms.specs.declared.patterns.PatternTerm.{PatternTerm}
use Rattle.fx_terms.specs.declared.patterns.PatternTerm.TheVariants.{Variable, Constant}
use Rattle.fx_algebra.specs.Solutions.{Bindings, term_of, same_term}
use Rattle.fx_algebra.specs.BasicGraphPatterns.{parts_of, forced, value_of}
use Rattle.fx_store.specs.Orders.{next, term_at, first_of, in_order}
use Rattle.fx_store.specs.declared.orders.Part.{Part}
use Rattle.fx_store.specs.declared.orders.Part.TheVariants.{Subject, Predicate, Object}
use Rattle.fx_store.specs.declared.lookups.End.{End}
use Rattle.fx_store.specs.declared.lookups.End.TheVariants.{First, Last}

-- whether a value, where there is one, is the term
abbrev pub is_or_free : Option Term → Term → Bool
is_or_free None term = true
is_or_free (Some value) term = same_term value term

-- ---- which triples are tried

-- the parts of a triple that are sought, as far as they are known
pub record Known : Type 0 where
  pub subject : Option Term
  pub predicate : Option Term
  pub object : Option Term

abbrev pub known_at : Part → Known → Option Term
known_at Subject k = k.subject
known_at Predicate k = k.predicate
known_at Object k = k.object

-- the parts that a pattern has under a solution
abbrev pub known_of : Pattern → Bindings → Known
known_of p s = record { subject = value_of s p.subject; predicate = value_of s p.predicate; object = value_of s p.object }

-- all parts of a triple
abbrev pub known_all : Triple → Known
known_all t = record { subject = Some (Iri t.subject); predicate = Some (Iri t.predicate); object = Some t.object }

-- how a term stands to one that is sought, and behind that by what comes behind; level where none is sought
abbrev pub against : Option Term → Term → Ordering → Ordering
against None term behind = Equal
against (Some sought) term behind = ordering_then (term_cmp term sought) behind

-- how a triple stands to those that are sought, in an order that begins with a part, by the parts up to the first that isn't known
abbrev pub place_third : Part → Known → Triple → Ordering
place_third part k t = against (known_at part k) (term_at part t) Equal

abbrev pub place_second : Part → Known → Triple → Ordering
place_second part k t = against (known_at part k) (term_at part t) (place_third (next part) k t)

abbrev pub place : Part → Known → Triple → Ordering
place part k t = against (known_at part k) (term_at part t) (place_second (next part) k t)

-- whether a triple with a place stands in front of an end of those that are sought
abbrev pub is_in_front : End → Ordering → Bool
is_in_front First o = is_lt o
is_in_front Last o = is_le o

abbrev pub stands_in_front : ℕ → Known → End → Triple → Bool
stands_in_front order k end t = is_in_front end (place (first_of order) k t)

-- the order in which the known parts come first
abbrev pub order_by : Option Term → Option Term → Option Term → ℕ
order_by (Some subject) (Some predicate) object = 0
order_by (Some subject) None None = 0
order_by (Some subject) None (Some object) = 2
order_by None (Some predicate) object = 1
order_by None None (Some object) = 2
order_by None None None = 0

abbrev pub order_for : Known → ℕ
order_for k = order_by k.subject k.predicate k.object

-- those with known parts stand in that order as they do in the graph, unless the predicate alone is known
abbrev pub is_alone : Option Term → Option Term → Option Term → Bool
is_alone None (Some predicate) None = true
is_alone None (Some predicate) (Some object) = false
is_alone None None object = false
is_alone (Some subject) predicate object = false

abbrev pub is_predicate_alone : Known → Bool
is_predicate_alone k = is_alone k.subject k.predicate k.object

-- ---- how many

-- whether a triple has the parts that are known
abbrev pub has_parts : Known → Triple → Bool
has_parts k t = is_or_free k.subject (Iri t.subject) && (is_or_free k.predicate (Iri t.predicate) && is_or_free k.object t.object)

-- 0 for none
abbrev pub binary_digits : ℕ → ℕ
binary_digits n = length (digits_of 2 n)

-- the most steps of a look-up: twice the binary digits of the number of triples, and one for each triple that is equal to the
-- pattern at each place where that has a constant, or a variable that the solution binds
abbrev pub most_steps : List Triple → Pattern → Bindings → ℕ
most_steps graph p s = 2 * binary_digits (length graph) + length (filter (has_parts (known_of p s)) graph)

-- how many of a list are looked at until one passes a test: all of them where none does
abbrev pub tried : {X : Type 0} → (X → Bool) → List X → ℕ
tried test [] = 0
tried test (x ∷ xs) = if test x then 1 else suc (tried test xs)

-- whether a triple fits a pattern under a solution
abbrev pub fits_under : Pattern → Bindings → Triple → Bool
fits_under p s t = is_some (forced s (parts_of p t))

-- the most steps of a look for one triple that fits: twice the binary digits of the number of triples, and one for each triple that
-- has the known parts of the pattern until one fits, in the order in which these parts come first
abbrev pub most_tries : List Triple → Pattern → Bindings → ℕ
most_tries graph p s = 2 * binary_digits (length graph) + tried (fits_under p s) (filter (has_parts (known_of p s)) (in_order (order_for (known_of p s)) graph))

-- ---- how a pattern is tried on a triple

-- whether a part is the variable
abbrev pub is_variable : PatternTerm → List ℕ → Bool
is_variable (Constant term) name = false
is_variable (Variable other) name = is_eq (text_cmp other name)

-- whether two parts are one variable
abbrev pub is_one_variable : PatternTerm → PatternTerm → Bool
is_one_variable (Constant term) part = false
is_one_variable (Variable name) part = is_variable part name

-- whether a triple's parts are those of the pattern, where these are known, or else those of an earlier part that is the
-- same variable
abbrev pub fits_subject : Pattern → Bindings → Triple → Bool
fits_subject p row t = is_or_free (value_of row p.subject) (Iri t.subject)

abbrev pub fits_predicate : Pattern → Bindings → Triple → Bool
fits_predicate p row t =
    if is_one_variable p.subject p.predicate then is_eq (text_cmp t.subject t.predicate) else is_or_free (value_of row p.predicate) (Iri t.predicate)

abbrev pub fits_object : Pattern → Bindings → Triple → Bool
fits_object p row t =
    if is_one_variable p.predicate p.object
    then same_term t.object (Iri t.predicate)
    else (if is_one_variable p.subject p.object then same_term t.object (Iri t.subject) else is_or_free (value_of row p.object) t.object)

-- ---- what a row is with a triple

-- the name of a part, where it is a variable that the row leaves unbound
abbrev pub free_name : Bindings → PatternTerm → Option (List ℕ)
free_name row (Constant constant) = None
free_name row (Variable name) = if is_some (term_of row name) then None else Some name

-- the parts behind the predicate and behind the subject, each beside that of a triple
abbrev pub behind_predicate : Pattern → Triple → List (PatternTerm × Term)
behind_predicate p t = (p.object, t.object) ∷ []

abbrev pub behind_subject : Pattern → Triple → List (PatternTerm × Term)
behind_subject p t = (p.predicate, Iri t.predicate) ∷ behind_predicate p t
