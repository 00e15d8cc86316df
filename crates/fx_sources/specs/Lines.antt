-- What a line of a registry says.
use Rattle.std.specs.Prelude.{ℕ, Bool, true, false, codes, List, [], ◌∷◌, length, Option, Some, None, Ok, Err, option_map, option_and_then, ◌&&◌, ◌==◌, not, filter, if◌then◌else◌}
use Rattle.std.specs.List.{slice_split}
use Rattle.std.specs.Str.{bytes_eq, is_utf8}
use Rattle.url.specs.Parser.{Parsed, parse_url}
use Rattle.url.specs.Parts.{Parts, nonempty_host}
use Rattle.url.specs.Host.{host_text}
pub use Rattle.fx_terms.specs.Blanks.{is_blank}
use Rattle.fx_outside.specs.Endpoints.{EndpointParts, flagged, is_sendable}
use Rattle.fx_outside.specs.declared.endpoints.Flags.{Flags}
use Rattle.fx_sources.specs.Addresses.{is_name, is_iri, is_plain, endpoint_at}
use Rattle.fx_sources.specs.declared.lines.Line.{Line}
use Rattle.fx_sources.specs.declared.lines.Line.TheVariants.{Passed, Entry, Malformed}

abbrev pub is_word : List ℕ → Bool
is_word part = not (length part == 0)

-- what stands between blanks
abbrev pub words : List ℕ → List (List ℕ)
words line = filter is_word (slice_split is_blank line)

-- begins with #
abbrev pub is_comment : List ℕ → Bool
is_comment [] = false
is_comment (b ∷ bs) = b == 35

-- ---- flags

abbrev pub no_flags : Flags
no_flags = record { optional = false; values = false }

-- the word of the flag of endpoints that queries may do without
abbrev pub is_optional : List ℕ → Bool
is_optional word = bytes_eq word (codes "optional")

-- the word of the flag of endpoints that take a batch as one VALUES block
abbrev pub is_values : List ℕ → Bool
is_values word = bytes_eq word (codes "values")

-- one more flag by its word, or nothing where the word is no flag's, or its flag stands
abbrev pub with_flag : Flags → List ℕ → Option Flags
with_flag flags word =
    if is_optional word && not flags.optional then Some (record { optional = true; values = flags.values })
    else if is_values word && not flags.values then Some (record { optional = flags.optional; values = true })
    else None

-- the flags with those that the words name, or nothing where a word adds none
abbrev pub flags_of : Flags → List (List ℕ) → Option Flags
flags_of flags [] = Some flags
flags_of flags (word ∷ rest) = option_and_then (λ more. flags_of more rest) (with_flag flags word)

-- ---- entries

-- an endpoint that a request can be written for, with its flags
abbrev pub entry_of : Option EndpointParts → Flags → Line
entry_of None flags = Malformed
entry_of (Some endpoint) flags = if is_sendable endpoint then Entry (flagged flags endpoint) else Malformed

-- by what the address reads to
abbrev pub entry_at : List ℕ → List ℕ → Parsed Parts → Flags → Line
entry_at name address (Ok url) flags = if is_plain url then entry_of (endpoint_at name address url (option_map host_text (nonempty_host url))) flags else Malformed
entry_at name address (Err e) flags = Malformed

-- a name, the address of an endpoint, and its flags
unfoldable pub entry : List ℕ → List ℕ → Flags → Line
entry name address flags = if is_name name && is_iri address then entry_at name address (parse_url None address) flags else Malformed

-- the entry with the flags that are named, where each word names one
abbrev pub flagged_entry : List ℕ → List ℕ → Option Flags → Line
flagged_entry name address None = Malformed
flagged_entry name address (Some flags) = entry name address flags

-- a first word that begins no comment is a name, an address stands behind it, and each word behind that names a flag
abbrev pub named_line : List ℕ → List (List ℕ) → Line
named_line name [] = Malformed
named_line name (address ∷ rest) = flagged_entry name address (flags_of no_flags rest)

abbrev pub line_of_words : List (List ℕ) → Line
line_of_words [] = Passed
line_of_words (word ∷ rest) = if is_comment word then Passed else named_line word rest

-- nothing, where the line is empty or a comment, or the entry that it is
unfoldable pub line_of : List ℕ → Line
line_of line = if is_utf8 line then line_of_words (words line) else Malformed
