-- What the words of a printed query say, as tokens, and which queries are printed as texts that are accepted as them.
use Rattle.std.specs.Prelude.{◌≡◌, ◌<◌, ◌^◌, ◌==◌, ◌⊎◌, ℕ, true, if◌then◌else◌, List, [], ◌∷◌, codes, length, None, false, Bool, not, ◌&&◌, ◌||◌, ◌++◌, ◌≤◌, max, suc, map, fold, Option, Some, ◌-◌}
use Rattle.std.specs.List.{flat_map, list_any}
use Rattle.std.specs.Str.{bytes_eq}
use Rattle.std.specs.Fmt.{decimal}
use Rattle.fx_terms.specs.Names.{IsName}
use Rattle.fx_terms.specs.Terms.{IsTerm}
use Rattle.fx_terms.specs.Datatypes.{xsd_string}
use Rattle.fx_terms.specs.Literals.{LiteralParts}
use Rattle.fx_terms.specs.declared.terms.Term.{Term}
use Rattle.fx_terms.specs.declared.terms.Term.TheVariants.{Iri, Literal}
use Rattle.fx_terms.specs.Iris.{IsIri}
use Rattle.fx_terms.specs.declared.patterns.Pattern.{Pattern}
use Rattle.fx_terms.specs.declared.patterns.PatternTerm.{PatternTerm}
use Rattle.fx_terms.specs.declared.patterns.PatternTerm.TheVariants as part
use Rattle.fx_tokens.specs.Classes.{is_letter}
use Rattle.fx_algebra.specs.Printed.{Word, fixed, variable, term, number, printed_query, query_words as query_words_of, is_call, is_variable}
use Rattle.fx_algebra.specs.Measures.{is_some, measured, condition_nest}
use Rattle.fx_algebra.specs.Scopes.{once, pattern_names, is_among, with_name, all_of, scope}
use Rattle.fx_algebra.specs.declared.queries.Element.{Element, Element-F, fold-Element}
use Rattle.fx_algebra.specs.declared.queries.Element.TheVariants as element
use Rattle.fx_algebra.specs.declared.queries.Inline.{Inline}
use Rattle.fx_algebra.specs.declared.queries.Order.{Order}
use Rattle.fx_algebra.specs.declared.queries.Form.{Form}
use Rattle.fx_grammar.specs.Grammar.{inline_columns}
use Rattle.fx_algebra.specs.declared.queries.Group.{Group, Group-F, fold-Group, roll-Group}
use Rattle.fx_algebra.specs.declared.queries.Form.TheVariants as form
use Rattle.fx_algebra.specs.declared.queries.Query.{Query}
use Rattle.fx_grammar.specs.Keywords as keywords
use Rattle.fx_grammar.specs.Accepted.{Accepted}
use Rattle.fx_grammar.specs.declared.kinds.Kind.TheVariants as k
use Rattle.fx_grammar.specs.declared.kinds.Token.{Token}
use Rattle.fx_grammar.specs.declared.kinds.Token.TheVariants as token

-- the keywords and marks that are printed
abbrev pub marks : List (List ℕ)
marks =
    codes "{" ∷ codes "}" ∷ codes "(" ∷ codes ")" ∷ codes "." ∷ codes "," ∷ codes "*" ∷ codes "||" ∷ codes "&&" ∷ codes "!" ∷ codes "+" ∷ codes "-" ∷ codes "=" ∷ codes "!=" ∷ codes "<" ∷ codes ">" ∷ codes "<="
    ∷ codes ">=" ∷ []

abbrev pub query_words : List (List ℕ)
query_words =
    codes "SELECT" ∷ codes "DISTINCT" ∷ codes "ASK" ∷ codes "WHERE" ∷ codes "ORDER" ∷ codes "BY" ∷ codes "ASC" ∷ codes "DESC" ∷ codes "LIMIT" ∷ codes "OFFSET" ∷ codes "UNION" ∷ codes "OPTIONAL" ∷ codes "MINUS"
    ∷ codes "SERVICE" ∷ codes "SILENT" ∷ codes "FILTER" ∷ codes "BIND" ∷ codes "AS" ∷ codes "VALUES" ∷ codes "UNDEF" ∷ []

abbrev pub expression_words : List (List ℕ)
expression_words =
    codes "NOT" ∷ codes "IN" ∷ codes "BOUND" ∷ codes "COALESCE" ∷ codes "IF" ∷ codes "STR" ∷ codes "LANG" ∷ codes "DATATYPE" ∷ codes "STRLEN" ∷ codes "isIRI" ∷ codes "isLITERAL" ∷ codes "isBLANK" ∷ codes "isNUMERIC"
    ∷ codes "LANGMATCHES" ∷ codes "sameTerm" ∷ codes "CONTAINS" ∷ codes "STRSTARTS" ∷ codes "STRENDS" ∷ []

-- the token of a keyword or a mark
abbrev pub fixed_token : List ℕ → Token
fixed_token [] = token.Plain k.Other
fixed_token (c ∷ text) = if is_letter c then keywords.word (c ∷ text) else keywords.mark (c ∷ text)

-- the tokens behind the form of a literal
abbrev pub suffix_tokens : LiteralParts → List Token
suffix_tokens l =
    if length l.tag == 0 then (if bytes_eq l.datatype xsd_string then [] else token.Plain k.CaretCaret ∷ token.Iri l.datatype ∷ [])
    else token.Tag l.tag ∷ []

abbrev pub term_tokens : Term → List Token
term_tokens (Iri a) = token.Iri a ∷ []
term_tokens (Literal l) = token.Text l.form ∷ suffix_tokens l

abbrev pub word_tokens : Word → List Token
word_tokens (fixed text) = fixed_token text ∷ []
word_tokens (variable name) = token.Variable name ∷ []
word_tokens (term t) = term_tokens t
word_tokens (number n) = token.Integer (decimal n) ∷ []

abbrev pub said : List Word → List Token
said words = flat_map word_tokens words

-- a word that is printed of a query: its name, its term or its number is one
abbrev pub IsFine : Word → Type 0
IsFine (fixed text) = (list_any (bytes_eq text) marks ≡ true) ⊎ ((list_any (bytes_eq text) query_words ≡ true) ⊎ (list_any (bytes_eq text) expression_words ≡ true))
IsFine (variable name) = IsName name
IsFine (term t) = IsTerm t
IsFine (number n) = n < 2 ^ 64

abbrev pub AreFine : List Word → Type 0
AreFine [] = Unit {0}
AreFine (word ∷ words) = IsFine word × AreFine words

abbrev pub AreNames : List (List ℕ) → Type 0
AreNames [] = Unit {0}
AreNames (name ∷ names) = IsName name × AreNames names

-- ---- triples

abbrev pub IsPart : PatternTerm → Type 0
IsPart (part.Variable name) = IsName name
IsPart (part.Constant t) = IsTerm t

-- a literal is no verb
abbrev pub IsVerb : PatternTerm → Type 0
IsVerb (part.Variable name) = IsName name
IsVerb (part.Constant (Iri a)) = IsIri a
IsVerb (part.Constant (Literal l)) = ⊥

pub record IsTriple (p : Pattern) : Type 0 where
  pub subject : IsPart p.subject
  pub predicate : IsVerb p.predicate
  pub object : IsPart p.object

abbrev pub AreTriples : List Pattern → Type 0
AreTriples [] = Unit {0}
AreTriples (p ∷ ps) = IsTriple p × AreTriples ps

-- the query of one pattern: its variables are the columns, each once, and the pattern is the group
abbrev pub pattern_query : Pattern → Query
pattern_query p = record {
  form = form.Select false (once (pattern_names p));
  group = roll-Group (record { elements = element.Triple p ∷ [] });
  order = [];
  offset = 0;
  limit = None;
  inline = None;
}

-- the law: the printed query of a pattern is accepted as that query
abbrev pub PatternQueryIsAccepted : Type 0
PatternQueryIsAccepted = (p : Pattern) → IsTriple p → Accepted (printed_query (pattern_query p)) (pattern_query p)

-- ---- VALUES

-- names of which none stands before, nor among the names
abbrev pub are_new : List (List ℕ) → List (List ℕ) → Bool
are_new names [] = true
are_new names (column ∷ columns) = not (is_among names column) && are_new (names ++ column ∷ []) columns

abbrev pub are_wide : ℕ → List (List (Option Term)) → Bool
are_wide width [] = true
are_wide width (row ∷ rows) = length row == width && are_wide width rows

-- each column stands once, and each row has a value or UNDEF for each
abbrev pub is_block : Inline → Bool
is_block inline = are_new [] inline.columns && are_wide (length inline.columns) inline.rows

abbrev pub block_nest : Inline → ℕ
block_nest inline = if is_some inline.rows then 2 else 1

-- ---- groups

-- How many brackets are open in a printed element or group at once, whether the grammar has it, whether a SERVICE is in it, the
-- names that it binds, and that of a BIND.
pub record Held : Type 0 where
  pub nest : ℕ
  pub good : Bool
  pub serves : Bool
  pub names : List (List ℕ)
  pub binds : Option (List ℕ)

abbrev pub most_held : List Held → ℕ
most_held [] = 0
most_held (h ∷ hs) = max h.nest (most_held hs)

abbrev pub all_held : List Held → Bool
all_held [] = true
all_held (h ∷ hs) = h.good && all_held hs

abbrev pub any_serves : List Held → Bool
any_serves [] = false
any_serves (h ∷ hs) = h.serves || any_serves hs

abbrev pub held_names : List Held → List (List ℕ)
held_names hs = all_of (map (λ h. h.names) hs)

abbrev pub is_verb : PatternTerm → Bool
is_verb (part.Variable name) = true
is_verb (part.Constant (Iri a)) = true
is_verb (part.Constant (Literal l)) = false

-- the name of a BIND isn't in scope before it
abbrev pub not_bound : List (List ℕ) → Option (List ℕ) → Bool
not_bound names None = true
not_bound names (Some name) = not (is_among names name)

abbrev pub are_fresh : List (List ℕ) → List Held → Bool
are_fresh names [] = true
are_fresh names (h ∷ hs) = not_bound names h.binds && are_fresh (fold with_name names h.names) hs

-- one element, with each group inside
abbrev pub hold_element : Element-F Held Held → Held
hold_element (Element-F.Triple p) = record { nest = 0; good = is_verb p.predicate; serves = false; names = pattern_names p; binds = None }
hold_element (Element-F.Filter e) = record { nest = condition_nest (measured e); good = (measured e).good; serves = false; names = []; binds = None }
hold_element (Element-F.Optional g) = record { nest = g.nest; good = g.good; serves = g.serves; names = g.names; binds = None }
hold_element (Element-F.Union gs) = record { nest = most_held gs; good = is_some gs && all_held gs; serves = any_serves gs; names = held_names gs; binds = None }
hold_element (Element-F.Minus g) = record { nest = g.nest; good = g.good; serves = g.serves; names = []; binds = None }
hold_element (Element-F.Bind e name) = record { nest = suc (measured e).nest; good = (measured e).good; serves = false; names = name ∷ []; binds = Some name }
hold_element (Element-F.Values inline) = record { nest = block_nest inline; good = is_block inline; serves = false; names = inline.columns; binds = None }
hold_element (Element-F.Service silent iri g) = record { nest = g.nest; good = g.good && not g.serves; serves = true; names = g.names; binds = None }

abbrev pub hold_group : Group-F Held Held → Held
hold_group g = record { nest = suc (most_held g.elements); good = all_held g.elements && are_fresh [] g.elements; serves = any_serves g.elements; names = held_names g.elements; binds = None }

abbrev pub held : Group → Held
held = fold-Group Held Held hold_element hold_group

abbrev pub held_element : Element → Held
held_element = fold-Element Held Held hold_element hold_group

-- ---- queries

-- a condition of ORDER BY stands in brackets, unless it is ascending and a call or a variable
abbrev pub key_nest : Order → ℕ
key_nest key =
    let m = measured key.expr in
    if key.descending then suc m.nest else (if is_call m.level then m.nest else (if is_variable m.level then m.nest else suc m.nest))

abbrev pub most_keys : List Order → ℕ
most_keys [] = 0
most_keys (key ∷ keys) = max (key_nest key) (most_keys keys)

abbrev pub all_keys : List Order → Bool
all_keys [] = true
all_keys (key ∷ keys) = (measured key.expr).good && all_keys keys

abbrev pub inline_nest : Option Inline → ℕ
inline_nest None = 0
inline_nest (Some inline) = block_nest inline

abbrev pub is_inline : Option Inline → Bool
is_inline None = true
is_inline (Some inline) = is_block inline

-- how many brackets a printed query has open at once
abbrev pub brackets : Query → ℕ
brackets q = max (held q.group).nest (max (most_keys q.order) (inline_nest q.inline))

-- each column stands once; where there is none, the query has no names
abbrev pub AreColumns : List (List ℕ) → Group → Option Inline → Type 0
AreColumns columns g inline = (once columns ≡ columns) × (columns ≡ [] → once (scope g ++ inline_columns inline) ≡ [])

abbrev pub IsForm : Form → Group → Option Inline → Type 0
IsForm (form.Select distinct columns) g inline = AreColumns columns g inline
IsForm form.Ask g inline = Unit {0}

-- a query that the grammar has
pub record IsPrintable (q : Query) : Type 0 where
  pub words : AreFine (query_words_of q)
  pub form : IsForm q.form q.group q.inline
  pub group : (held q.group).good ≡ true
  pub order : all_keys q.order ≡ true
  pub inline : is_inline q.inline ≡ true

-- the law: what is printed of it is accepted as it, where at most 64 brackets are open at once
abbrev pub PrintedIsAccepted : Type 0
PrintedIsAccepted = (q : Query) → IsPrintable q → brackets q ≤ 64 → Accepted (printed_query q) q

-- the law: what is accepted as a query is one that the grammar has
abbrev pub AcceptedIsPrintable : Type 0
AcceptedIsPrintable = (text : List ℕ) (q : Query) → Accepted text q → IsPrintable q

-- the law: where some text is accepted as a query, what is printed of it is too, if at most 64 brackets are open at once
abbrev pub SpellableIsAccepted : Type 0
SpellableIsAccepted = (text : List ℕ) (q : Query) → Accepted text q → brackets q ≤ 64 → Accepted (printed_query q) q

-- ---- the brackets of a text

abbrev pub is_opening : Word → Bool
is_opening (fixed text) = bytes_eq text (codes "{") || bytes_eq text (codes "(")
is_opening (variable name) = false
is_opening (term t) = false
is_opening (number n) = false

abbrev pub is_closing : Word → Bool
is_closing (fixed text) = bytes_eq text (codes "}") || bytes_eq text (codes ")")
is_closing (variable name) = false
is_closing (term t) = false
is_closing (number n) = false

-- how many brackets are open behind a word
abbrev pub behind_word : ℕ → Word → ℕ
behind_word d word = if is_opening word then suc d else (if is_closing word then d - 1 else d)

-- the most brackets that are open at once in words, where so many are open before them
abbrev pub deepest : ℕ → List Word → ℕ
deepest d [] = d
deepest d (word ∷ words) = max d (deepest (behind_word d word) words)

-- the law, by the brackets of the printed words
abbrev pub PrintedTextIsAccepted : Type 0
PrintedTextIsAccepted = (text : List ℕ) (q : Query) → Accepted text q → deepest 0 (query_words_of q) ≤ 64 → Accepted (printed_query q) q
