-- What the grammar makes of a token.
use Rattle.std.specs.Prelude.{ℕ, Bool, nat_eq}
use Rattle.fx_grammar.specs.declared.kinds.Kind.{Kind}
use Rattle.fx_grammar.specs.declared.kinds.Kind.TheVariants as k
use Rattle.fx_grammar.specs.declared.kinds.Token.{Token}
use Rattle.fx_grammar.specs.declared.kinds.Token.TheVariants as token

-- each kind has a number of its own
abbrev pub rank : Kind → ℕ
rank k.LeftBrace = 0
rank k.RightBrace = 1
rank k.LeftParen = 2
rank k.RightParen = 3
rank k.LeftBracket = 4
rank k.Dot = 5
rank k.Semicolon = 6
rank k.Comma = 7
rank k.Star = 8
rank k.Slash = 9
rank k.Bar = 10
rank k.Caret = 11
rank k.Plus = 12
rank k.Dash = 13
rank k.Question = 14
rank k.Bang = 15
rank k.Comparison = 16
rank k.AndAnd = 17
rank k.OrOr = 18
rank k.CaretCaret = 19
rank k.Prefix = 20
rank k.Select = 21
rank k.Ask = 22
rank k.Distinct = 23
rank k.Reduced = 24
rank k.Where = 25
rank k.Order = 26
rank k.By = 27
rank k.Asc = 28
rank k.Desc = 29
rank k.Limit = 30
rank k.Offset = 31
rank k.Union = 32
rank k.Optional = 33
rank k.Minus = 34
rank k.Service = 35
rank k.Silent = 36
rank k.Filter = 37
rank k.Bind = 38
rank k.As = 39
rank k.Values = 40
rank k.Undef = 41
rank k.True = 42
rank k.False = 43
rank k.Not = 44
rank k.In = 45
rank k.A = 46
rank k.Bound = 47
rank k.Coalesce = 48
rank k.If = 49
rank k.One = 50
rank k.Two = 51
rank k.OtherForm = 52
rank k.From = 53
rank k.Grouping = 54
rank k.Graph = 55
rank k.OtherCall = 56
rank k.Iri = 57
rank k.Relative = 58
rank k.PrefixName = 59
rank k.Variable = 60
rank k.Blank = 61
rank k.Tag = 62
rank k.Integer = 63
rank k.Signed = 64
rank k.Decimal = 65
rank k.Text = 66
rank k.TooDeep = 67
rank k.InnerService = 68
rank k.Other = 69

abbrev pub is : Kind → Kind → Bool
is a b = nat_eq (rank a) (rank b)

abbrev pub kind_of : Token → Kind
kind_of (token.Plain kind) = kind
kind_of (token.Comparison op) = k.Comparison
kind_of (token.One function) = k.One
kind_of (token.Two function) = k.Two
kind_of (token.Variable name) = k.Variable
kind_of (token.Iri iri) = k.Iri
kind_of (token.PrefixName prefix local) = k.PrefixName
kind_of (token.Tag tag) = k.Tag
kind_of (token.Integer digits) = k.Integer
kind_of (token.Signed digits) = k.Signed
kind_of (token.Text text) = k.Text
