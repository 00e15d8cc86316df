-- Which texts are which query.
use Rattle.std.specs.Prelude.{◌≡◌, ℕ, List, Ok}
use Rattle.std.specs.Str.{chars, IsUtf8}
use Rattle.fx_tokens.specs.Reads.{Reads}
use Rattle.fx_tokens.specs.declared.Token as read
use Rattle.fx_algebra.specs.declared.queries.Query.{Query}
use Rattle.fx_grammar.specs.Classified.{classified}
use Rattle.fx_grammar.specs.Grammar.{query}

-- the bytes are UTF-8 that reads as tokens, and what these say spells the query
pub record Accepted (bytes : List ℕ) (q : Query) : Type 0 where
  pub utf8 : IsUtf8 bytes
  pub tokens : List read.Token
  pub lexed : Reads 0 (chars bytes) (Ok tokens)
  pub spelled : query.spells (classified bytes tokens) q

-- the law: no bytes are accepted as two queries
abbrev pub OneQuery : Type 0
OneQuery = (bytes : List ℕ) (p q : Query) → Accepted bytes p → Accepted bytes q → p ≡ q

-- some text is accepted as the query
abbrev pub IsSpellable : Query → Type 0
IsSpellable q = (text : List ℕ) × Accepted text q
