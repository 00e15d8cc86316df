-- Keywords and marks (SPARQL 1.1 section 19.8), by their bytes. Keywords are compared in upper case.
use Rattle.std.specs.Prelude.{ℕ, Bool, ◌||◌, if◌then◌else◌, List, map, codes, Option, Some, None}
use Rattle.std.specs.Str.{bytes_eq}
use Rattle.std.specs.Char.{to_ascii_uppercase}
use Rattle.fx_algebra.specs.declared.expressions.Compare.{Compare}
use Rattle.fx_algebra.specs.declared.expressions.Compare.TheVariants as compare
use Rattle.fx_algebra.specs.declared.expressions.Function.{Function}
use Rattle.fx_algebra.specs.declared.expressions.Function.TheVariants as function
use Rattle.fx_grammar.specs.declared.kinds.Kind.TheVariants as k
use Rattle.fx_grammar.specs.declared.kinds.Token.{Token}
use Rattle.fx_grammar.specs.declared.kinds.Token.TheVariants as token

-- the words with which a query and its modifiers begin
abbrev pub form_word : List ℕ → Option Token
form_word text =
    if bytes_eq text (codes "PREFIX") then Some (token.Plain k.Prefix)
    else (if bytes_eq text (codes "SELECT") then Some (token.Plain k.Select)
    else (if bytes_eq text (codes "ASK") then Some (token.Plain k.Ask)
    else (if bytes_eq text (codes "DISTINCT") then Some (token.Plain k.Distinct)
    else (if bytes_eq text (codes "REDUCED") then Some (token.Plain k.Reduced)
    else (if bytes_eq text (codes "WHERE") then Some (token.Plain k.Where)
    else (if bytes_eq text (codes "ORDER") then Some (token.Plain k.Order)
    else (if bytes_eq text (codes "BY") then Some (token.Plain k.By)
    else (if bytes_eq text (codes "ASC") then Some (token.Plain k.Asc)
    else (if bytes_eq text (codes "DESC") then Some (token.Plain k.Desc)
    else (if bytes_eq text (codes "LIMIT") then Some (token.Plain k.Limit)
    else (if bytes_eq text (codes "OFFSET") then Some (token.Plain k.Offset)
    else None)))))))))))

-- the words of a group
abbrev pub group_word : List ℕ → Option Token
group_word text =
    if bytes_eq text (codes "UNION") then Some (token.Plain k.Union)
    else (if bytes_eq text (codes "OPTIONAL") then Some (token.Plain k.Optional)
    else (if bytes_eq text (codes "MINUS") then Some (token.Plain k.Minus)
    else (if bytes_eq text (codes "SERVICE") then Some (token.Plain k.Service)
    else (if bytes_eq text (codes "SILENT") then Some (token.Plain k.Silent)
    else (if bytes_eq text (codes "FILTER") then Some (token.Plain k.Filter)
    else (if bytes_eq text (codes "BIND") then Some (token.Plain k.Bind)
    else (if bytes_eq text (codes "AS") then Some (token.Plain k.As)
    else (if bytes_eq text (codes "VALUES") then Some (token.Plain k.Values)
    else (if bytes_eq text (codes "UNDEF") then Some (token.Plain k.Undef)
    else None)))))))))

-- the words of an expression
abbrev pub expression_word : List ℕ → Option Token
expression_word text =
    if bytes_eq text (codes "TRUE") then Some (token.Plain k.True)
    else (if bytes_eq text (codes "FALSE") then Some (token.Plain k.False)
    else (if bytes_eq text (codes "NOT") then Some (token.Plain k.Not)
    else (if bytes_eq text (codes "IN") then Some (token.Plain k.In)
    else (if bytes_eq text (codes "BOUND") then Some (token.Plain k.Bound)
    else (if bytes_eq text (codes "COALESCE") then Some (token.Plain k.Coalesce)
    else (if bytes_eq text (codes "IF") then Some (token.Plain k.If)
    else (if bytes_eq text (codes "FROM") then Some (token.Plain k.From)
    else (if bytes_eq text (codes "GROUP") then Some (token.Plain k.Grouping)
    else (if bytes_eq text (codes "HAVING") then Some (token.Plain k.Grouping)
    else (if bytes_eq text (codes "GRAPH") then Some (token.Plain k.Graph)
    else None))))))))))

-- the functions of one expression
abbrev pub one_word : List ℕ → Option Function
one_word text =
    if bytes_eq text (codes "STR") then Some function.Str
    else (if bytes_eq text (codes "LANG") then Some function.Lang
    else (if bytes_eq text (codes "DATATYPE") then Some function.Datatype
    else (if bytes_eq text (codes "STRLEN") then Some function.StrLen
    else (if bytes_eq text (codes "ISIRI") then Some function.IsIri
    else (if bytes_eq text (codes "ISURI") then Some function.IsIri
    else (if bytes_eq text (codes "ISLITERAL") then Some function.IsLiteral
    else (if bytes_eq text (codes "ISBLANK") then Some function.IsBlank
    else (if bytes_eq text (codes "ISNUMERIC") then Some function.IsNumeric
    else None))))))))

-- the functions of two expressions
abbrev pub two_word : List ℕ → Option Function
two_word text =
    if bytes_eq text (codes "LANGMATCHES") then Some function.LangMatches
    else (if bytes_eq text (codes "SAMETERM") then Some function.SameTerm
    else (if bytes_eq text (codes "CONTAINS") then Some function.Contains
    else (if bytes_eq text (codes "STRSTARTS") then Some function.StrStarts
    else (if bytes_eq text (codes "STRENDS") then Some function.StrEnds
    else None))))

-- the marks of one character
abbrev pub first_marks : List ℕ → Option Token
first_marks text =
    if bytes_eq text (codes "{") then Some (token.Plain k.LeftBrace)
    else (if bytes_eq text (codes "}") then Some (token.Plain k.RightBrace)
    else (if bytes_eq text (codes "(") then Some (token.Plain k.LeftParen)
    else (if bytes_eq text (codes ")") then Some (token.Plain k.RightParen)
    else (if bytes_eq text (codes "[") then Some (token.Plain k.LeftBracket)
    else (if bytes_eq text (codes ".") then Some (token.Plain k.Dot)
    else (if bytes_eq text (codes ";") then Some (token.Plain k.Semicolon)
    else (if bytes_eq text (codes ",") then Some (token.Plain k.Comma)
    else (if bytes_eq text (codes "*") then Some (token.Plain k.Star)
    else (if bytes_eq text (codes "/") then Some (token.Plain k.Slash)
    else None)))))))))

-- the other marks
abbrev pub second_marks : List ℕ → Option Token
second_marks text =
    if bytes_eq text (codes "|") then Some (token.Plain k.Bar)
    else (if bytes_eq text (codes "^") then Some (token.Plain k.Caret)
    else (if bytes_eq text (codes "+") then Some (token.Plain k.Plus)
    else (if bytes_eq text (codes "-") then Some (token.Plain k.Dash)
    else (if bytes_eq text (codes "?") then Some (token.Plain k.Question)
    else (if bytes_eq text (codes "!") then Some (token.Plain k.Bang)
    else (if bytes_eq text (codes "&&") then Some (token.Plain k.AndAnd)
    else (if bytes_eq text (codes "||") then Some (token.Plain k.OrOr)
    else (if bytes_eq text (codes "^^") then Some (token.Plain k.CaretCaret)
    else None))))))))

-- the comparisons
abbrev pub comparison : List ℕ → Option Compare
comparison text =
    if bytes_eq text (codes "=") then Some compare.Equal
    else (if bytes_eq text (codes "!=") then Some compare.NotEqual
    else (if bytes_eq text (codes "<") then Some compare.Less
    else (if bytes_eq text (codes ">") then Some compare.Greater
    else (if bytes_eq text (codes "<=") then Some compare.LessOrEqual
    else (if bytes_eq text (codes ">=") then Some compare.GreaterOrEqual
    else None)))))

-- the words with which updates, and their parts, begin
abbrev pub is_update_word : List ℕ → Bool
is_update_word text =
    bytes_eq text (codes "INSERT") || bytes_eq text (codes "DELETE") || bytes_eq text (codes "LOAD") || bytes_eq text (codes "CLEAR")
    || bytes_eq text (codes "DROP") || bytes_eq text (codes "CREATE") || bytes_eq text (codes "ADD") || bytes_eq text (codes "MOVE")
    || bytes_eq text (codes "COPY") || bytes_eq text (codes "WITH")

-- the words with which other forms of query, updates and BASE begin
abbrev pub is_other_form : List ℕ → Bool
is_other_form text = bytes_eq text (codes "CONSTRUCT") || bytes_eq text (codes "DESCRIBE") || bytes_eq text (codes "BASE") || is_update_word text

-- functions that make terms (SPARQL 1.1 section 17.4.2)
abbrev pub is_term_call : List ℕ → Bool
is_term_call text =
    bytes_eq text (codes "IRI") || bytes_eq text (codes "URI") || bytes_eq text (codes "BNODE") || bytes_eq text (codes "STRDT")
    || bytes_eq text (codes "STRLANG") || bytes_eq text (codes "UUID") || bytes_eq text (codes "STRUUID")

-- functions of texts (section 17.4.3)
abbrev pub is_text_call : List ℕ → Bool
is_text_call text =
    bytes_eq text (codes "SUBSTR") || bytes_eq text (codes "UCASE") || bytes_eq text (codes "LCASE") || bytes_eq text (codes "ENCODE_FOR_URI")
    || bytes_eq text (codes "CONCAT") || bytes_eq text (codes "STRBEFORE") || bytes_eq text (codes "STRAFTER") || bytes_eq text (codes "REPLACE")
    || bytes_eq text (codes "REGEX")

-- functions of numbers (section 17.4.4)
abbrev pub is_number_call : List ℕ → Bool
is_number_call text =
    bytes_eq text (codes "ABS") || bytes_eq text (codes "CEIL") || bytes_eq text (codes "FLOOR") || bytes_eq text (codes "ROUND")
    || bytes_eq text (codes "RAND")

-- functions of times (section 17.4.5)
abbrev pub is_time_call : List ℕ → Bool
is_time_call text =
    bytes_eq text (codes "NOW") || bytes_eq text (codes "YEAR") || bytes_eq text (codes "MONTH") || bytes_eq text (codes "DAY")
    || bytes_eq text (codes "HOURS") || bytes_eq text (codes "MINUTES") || bytes_eq text (codes "SECONDS") || bytes_eq text (codes "TIMEZONE")
    || bytes_eq text (codes "TZ")

-- hashes (section 17.4.6)
abbrev pub is_hash_call : List ℕ → Bool
is_hash_call text =
    bytes_eq text (codes "MD5") || bytes_eq text (codes "SHA1") || bytes_eq text (codes "SHA256") || bytes_eq text (codes "SHA384")
    || bytes_eq text (codes "SHA512")

-- aggregates (section 11)
abbrev pub is_aggregate : List ℕ → Bool
is_aggregate text =
    bytes_eq text (codes "COUNT") || bytes_eq text (codes "SUM") || bytes_eq text (codes "MIN") || bytes_eq text (codes "MAX")
    || bytes_eq text (codes "AVG") || bytes_eq text (codes "SAMPLE") || bytes_eq text (codes "GROUP_CONCAT")

-- functions that this profile leaves out
abbrev pub is_other_call : List ℕ → Bool
is_other_call text =
    bytes_eq text (codes "EXISTS") || is_term_call text || is_text_call text || is_number_call text
    || is_time_call text || is_hash_call text || is_aggregate text

abbrev pub other_word : List ℕ → Token
other_word text = if is_other_form text then token.Plain k.OtherForm else (if is_other_call text then token.Plain k.OtherCall else token.Plain k.Other)

abbrev pub two_call : Option Function → List ℕ → Token
two_call (Some f) text = token.Two f
two_call None text = other_word text

abbrev pub one_call : Option Function → List ℕ → Token
one_call (Some f) text = token.One f
one_call None text = two_call (two_word text) text

-- the name of a function, or any other word
abbrev pub call_word : List ℕ → Token
call_word text = one_call (one_word text) text

abbrev pub found_or : Option Token → Token → Token
found_or (Some t) other = t
found_or None other = other

-- the token of a word in upper case
abbrev pub keyword : List ℕ → Token
keyword text = found_or (form_word text) (found_or (group_word text) (found_or (expression_word text) (call_word text)))

-- the token of a word: a alone is a keyword in lower case
abbrev pub word : List ℕ → Token
word text = if bytes_eq text (codes "a") then token.Plain k.A else keyword (map to_ascii_uppercase text)

abbrev pub compared : Option Compare → Token → Token
compared (Some op) other = token.Comparison op
compared None other = other

-- the token of a mark
abbrev pub mark : List ℕ → Token
mark text = compared (comparison text) (found_or (first_marks text) (found_or (second_marks text) (token.Plain k.Other)))
