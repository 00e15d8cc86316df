-- What tokens say (SPARQL 1.1 sections 4.1, 19.2, 19.7 and 19.8): by their kinds and characters, and by where they stand.
use Rattle.std.specs.Prelude.{ℕ, ◌+◌, ◌-◌, Bool, true, false, ◌&&◌, ◌||◌, ◌==◌, nat_lt, if◌then◌else◌, List, [], ◌∷◌, map, slice_range, Result, Ok, Err}
use Rattle.std.specs.Str.{chars, encode_utf8_all}
use Rattle.fx_terms.specs.Iris.{read_iri}
use Rattle.fx_terms.specs.Names as names
use Rattle.fx_terms.specs.declared.iris.TermError.{TermError}
use Rattle.fx_terms.specs.declared.names.NameError.{NameError}
use Rattle.fx_tokens.specs.Decoding.{behind_first, iri_text, between_quotes, prefix, behind_colon, local}
use Rattle.fx_tokens.specs.declared.Token as read
use Rattle.fx_tokens.specs.declared.TokenKind.{TokenKind}
use Rattle.fx_tokens.specs.declared.TokenKind.TheVariants as kind
use Rattle.fx_grammar.specs.Kinds.{is, kind_of}
use Rattle.fx_grammar.specs.Keywords as keywords
use Rattle.fx_grammar.specs.declared.kinds.Kind.{Kind}
use Rattle.fx_grammar.specs.declared.kinds.Kind.TheVariants as k
use Rattle.fx_grammar.specs.declared.kinds.Token.{Token}
use Rattle.fx_grammar.specs.declared.kinds.Token.TheVariants as token
use Rattle.fx_grammar.specs.declared.places.Context.{Context}
use Rattle.fx_grammar.specs.declared.places.Service.{Service}
use Rattle.fx_grammar.specs.declared.places.Service.TheVariants.{Outside, Named, Inside}

-- ---- what each kind says

abbrev pub iri_or : Result (List ℕ) TermError → Token
iri_or (Ok iri) = token.Iri iri
iri_or (Err e) = token.Plain k.Relative

abbrev pub iri_of : List ℕ → Token
iri_of text = iri_or (read_iri (iri_text text))

abbrev pub quoted_of : List ℕ → Token
quoted_of text = token.Text (between_quotes text)

abbrev pub read_name : List ℕ → Result (List ℕ) NameError
read_name text = names.read_name text

abbrev pub variable_of : Result (List ℕ) NameError → Token
variable_of (Ok name) = token.Variable name
variable_of (Err e) = token.Plain k.Other

abbrev pub prefix_name_of : List ℕ → Token
prefix_name_of text = token.PrefixName (encode_utf8_all (prefix text)) (encode_utf8_all (local (behind_colon text)))

abbrev pub token_of : TokenKind → List ℕ → Token
token_of kind.Iri text = iri_of text
token_of kind.PrefixName text = prefix_name_of (chars text)
token_of kind.Variable text = variable_of (read_name (behind_first text))
token_of kind.Blank text = token.Plain k.Blank
token_of kind.Tag text = token.Tag (behind_first text)
token_of kind.Integer text = token.Integer text
token_of kind.Signed text = token.Signed text
token_of kind.Decimal text = token.Plain k.Decimal
token_of kind.Text text = quoted_of text
token_of kind.Word text = keywords.word text
token_of kind.Mark text = keywords.mark text

-- ---- where a token stands

abbrev pub is_bracket : Kind → Bool
is_bracket kind = is k.LeftBrace kind || is k.LeftParen kind

abbrev pub is_inside : Service → Bool
is_inside (Inside before) = true
is_inside Outside = false
is_inside Named = false

-- a bracket after which more than 64 are open, and a SERVICE within another, are kinds of their own
abbrev pub kind_in : Context → Kind → Kind
kind_in context kind =
    if is_bracket kind then (if nat_lt context.depth 64 then kind else k.TooDeep)
    else (if is k.Service kind && is_inside context.service then k.InnerService else kind)

abbrev pub placed : Context → Token → Token
placed context (token.Plain kind) = token.Plain (kind_in context kind)
placed context t = t

abbrev pub one_more : ℕ → ℕ
one_more n = if nat_lt n 64 then n + 1 else n

-- the first braces behind SERVICE are its own
abbrev pub opened : ℕ → Service → Service
opened n Outside = Outside
opened n Named = Inside n
opened n (Inside before) = Inside before

abbrev pub closed : ℕ → Service → Service
closed n Outside = Outside
closed n Named = Named
closed n (Inside before) = if n == before then Outside else Inside before

abbrev pub named : Service → Service
named Outside = Named
named Named = Named
named (Inside before) = Inside before

-- where the next token stands
abbrev pub behind : Context → Kind → Context
behind context kind =
    if is k.LeftBrace kind then record { depth = one_more context.depth; service = opened context.depth context.service }
    else (if is k.LeftParen kind then record { depth = one_more context.depth; service = context.service }
    else (if is k.RightBrace kind || is k.RightParen kind then record { depth = context.depth - 1; service = closed (context.depth - 1) context.service }
    else (if is k.Service kind then record { depth = context.depth; service = named context.service }
    else context)))

unfoldable pub all_placed : Context → List Token → List Token
all_placed context [] = []
all_placed context (t ∷ tokens) = placed context t ∷ all_placed (behind context (kind_of t)) tokens

-- ---- the tokens of a text

abbrev pub says : List ℕ → read.Token → Token
says text t = token_of t.kind (slice_range text t.start t.end)

abbrev pub outermost : Context
outermost = record { depth = 0; service = Outside }

abbrev pub classified : List ℕ → List read.Token → List Token
classified text tokens = all_placed outermost (map (says text) tokens)
