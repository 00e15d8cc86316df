-- What a line of a registry says, by its words.
use Rattle.std.specs.Prelude.{◌≡◌, ◌<◌, ◌⊎◌, ◌↔◌, ℕ, Bool, true, false, List, [], ◌∷◌, ◌++◌, length, Some, None, Ok, codes, unwrap_or}
use Rattle.std.specs.List.{list_all, list_any}
use Rattle.std.specs.Str.{is_utf8}
use Rattle.url.specs.declared.host.Host.{Host}
use Rattle.url.specs.Host.{host_text}
use Rattle.url.specs.Parser.{parse_url}
use Rattle.url.specs.Parts.{Parts, nonempty_host}
use Rattle.fx_terms.specs.Blanks.{is_blank}
use Rattle.fx_outside.specs.Endpoints.{EndpointParts, is_sendable}
use Rattle.fx_outside.specs.declared.endpoints.Flags.{Flags}
use Rattle.fx_sources.specs.Addresses.{is_iri, is_name}
use Rattle.fx_sources.specs.Lines.{line_of, words}
use Rattle.fx_sources.specs.declared.lines.Line.TheVariants.{Entry, Passed}

-- ---- words

abbrev pub AreBlanks : List ℕ → Type 0
AreBlanks gap = list_all is_blank gap ≡ true

-- one byte or more, and no blank
abbrev pub IsWord : List ℕ → Type 0
IsWord word = (0 < length word) × (list_any is_blank word ≡ false)

-- nothing, or a blank and more
abbrev pub EndsWord : List ℕ → Type 0
EndsWord [] = Unit {0}
EndsWord (b ∷ rest) = is_blank b ≡ true

-- a line is of words, with blanks between them, and perhaps at its ends
abbrev pub IsOfWords : List (List ℕ) → List ℕ → Type 0
IsOfWords [] line = AreBlanks line
IsOfWords (word ∷ others) line = (gap : List ℕ) × (rest : List ℕ) × (line ≡ gap ++ (word ++ rest)) × AreBlanks gap × IsWord word × EndsWord rest × IsOfWords others rest

-- ---- entries

-- words are those of flags: `optional` of endpoints that queries may do without, `values` of those that take a batch of rows as VALUES; each
-- stands once, in any order
abbrev pub AreFlags : List (List ℕ) → (optional values : Bool) → Type 0
AreFlags words false false = words ≡ []
AreFlags words true false = words ≡ codes "optional" ∷ []
AreFlags words false true = words ≡ codes "values" ∷ []
AreFlags words true true = (words ≡ codes "optional" ∷ codes "values" ∷ []) ⊎ (words ≡ codes "values" ∷ codes "optional" ∷ [])

-- an endpoint of a name and an address, with its flags
pub record IsEntry (name address : List ℕ) (flags : Flags) (e : EndpointParts) : Type 0 where
  pub named : is_name name ≡ true
  pub iri : is_iri address ≡ true
  -- the address reads as a URL with the scheme http and a host, without a user, a password, a query and a fragment
  pub url : Parts
  pub reads : parse_url None address ≡ Ok url
  pub scheme : url.scheme ≡ codes "http"
  pub username : url.username ≡ []
  pub password : url.password ≡ []
  pub query : url.query ≡ None
  pub fragment : url.fragment ≡ None
  pub host : Host (List ℕ)
  pub has_host : nonempty_host url ≡ Some host
  -- the address is kept as it is written; host, port and target are what it reads, and the port is 80 where it has none
  pub is : e ≡ record { name = name; iri = address; host = host_text host; port = unwrap_or url.port 80; target = url.path; optional = flags.optional; values = flags.values }
  -- a request can be written for it
  pub sendable : is_sendable e ≡ true

pub record IsEntryLine (line : List ℕ) (e : EndpointParts) : Type 0 where
  pub name : List ℕ
  pub address : List ℕ
  pub behind : List (List ℕ)
  pub flags : Flags
  pub utf8 : is_utf8 line ≡ true
  pub of_words : IsOfWords (name ∷ address ∷ behind) line
  pub are_flags : AreFlags behind flags.optional flags.values
  pub entry : IsEntry name address flags e

-- ---- lines that are passed over

-- it has no word, or its first word begins with #
pub record IsPassedLine (line : List ℕ) : Type 0 where
  pub utf8 : is_utf8 line ≡ true
  pub none_or_comment : AreBlanks line ⊎ ((rest : List ℕ) × (others : List (List ℕ)) × IsOfWords ((35 ∷ rest) ∷ others) line)

-- ---- the laws

-- the words of a line are those that it is of
abbrev pub WordsStandBetweenBlanks : Type 0
WordsStandBetweenBlanks = (line : List ℕ) (those : List (List ℕ)) → (words line ≡ those) ↔ IsOfWords those line

-- a line is an entry, or passed over, exactly where it is of such words; so any other is malformed
abbrev pub LinesAreReadByTheirWords : Type 0
LinesAreReadByTheirWords = (line : List ℕ) → ((e : EndpointParts) → (line_of line ≡ Entry e) ↔ IsEntryLine line e) × ((line_of line ≡ Passed) ↔ IsPassedLine line)
