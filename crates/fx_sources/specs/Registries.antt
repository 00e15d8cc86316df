-- What a registry's text says: its endpoints, or the first line that it is refused at.
use Rattle.std.specs.Prelude.{◌≡◌, ◌≢◌, ℕ, ◌+◌, ◌≤◌, Bool, List, [], ◌∷◌, ◌++◌, length, All, AllPairs, Option, Result, Ok, Err, true, nat_le, bytes_eq, position, if◌then◌else◌}
use Rattle.std.specs.List.{list_any}
use Rattle.std.specs.Str.Lines.{lines}
use Rattle.fx_terms.specs.Iris.{IsIri}
use Rattle.fx_outside.specs.Endpoints.{EndpointParts, is_sendable}
use Rattle.fx_sources.specs.Addresses.{url_text}
use Rattle.fx_sources.specs.Lines.{line_of}
use Rattle.fx_sources.specs.declared.lines.Line.{Line}
use Rattle.fx_sources.specs.declared.lines.Line.TheVariants.{Passed, Entry, Malformed}
use Rattle.fx_sources.specs.declared.errors.RegistryError.{RegistryError}
use Rattle.fx_sources.specs.declared.errors.RegistryError.TheVariants.{Bad, TooMany, RepeatedName, RepeatedUrl, Memory}

-- an earlier endpoint has the name
abbrev pub has_name : List ℕ → List EndpointParts → Bool
has_name name earlier = list_any (λ e. bytes_eq e.name name) earlier

-- an earlier address reads to the same text
abbrev pub has_url : List ℕ → List EndpointParts → Bool
has_url url earlier = list_any (λ e. bytes_eq (url_text e.iri) url) earlier

-- the endpoints with one more behind them, or why it may not stand at this line
unfoldable pub with_endpoint : ℕ → List EndpointParts → EndpointParts → Result (List EndpointParts) RegistryError
with_endpoint line earlier e =
    if nat_le 64 (length earlier) then Err (TooMany line)
    else if has_name e.name earlier then Err (RepeatedName line)
    else if has_url (url_text e.iri) earlier then Err (RepeatedUrl line)
    else Ok (earlier ++ e ∷ [])

-- the endpoints after a line
abbrev pub with_line : ℕ → List EndpointParts → Line → Result (List EndpointParts) RegistryError
with_line line earlier Passed = Ok earlier
with_line line earlier (Entry e) = with_endpoint line earlier e
with_line line earlier Malformed = Err (Bad line)

-- go on, unless there was a refusal
abbrev pub and_then : Result (List EndpointParts) RegistryError → (List EndpointParts → Result (List EndpointParts) RegistryError) → Result (List EndpointParts) RegistryError
and_then (Ok endpoints) next = next endpoints
and_then (Err e) next = Err e

-- the endpoints after lines, of which the first has this number
abbrev pub with_lines : ℕ → List EndpointParts → List (List ℕ) → Result (List EndpointParts) RegistryError
with_lines line earlier [] = Ok earlier
with_lines line earlier (text ∷ texts) = and_then (with_line line earlier (line_of text)) (λ endpoints. with_lines (line + 1) endpoints texts)

-- the endpoints in the order of their lines, or the first refusal; lines end with LF or CR LF, and count from 1
abbrev pub read_registry : List ℕ → Result (List EndpointParts) RegistryError
read_registry bytes = with_lines 1 [] (lines bytes)

-- what holds of the endpoints of every registry
pub record IsRegistry (endpoints : List EndpointParts) : Type 0 where
  pub few : length endpoints ≤ 64
  pub sendable : All (λ e. is_sendable e ≡ true) endpoints
  pub iris : All (λ e. IsIri e.iri) endpoints
  pub names : AllPairs (λ d e. d.name ≢ e.name) endpoints
  pub addresses : AllPairs (λ d e. d.iri ≢ e.iri) endpoints

-- the number of the endpoint of an address
abbrev pub number_of : List ℕ → List EndpointParts → Option ℕ
number_of iri endpoints = position (λ e. bytes_eq e.iri iri) endpoints

-- unless memory ran out, the answer is the wanted one
abbrev pub AnswersRegistry : Result (List EndpointParts) RegistryError → Result (List EndpointParts) RegistryError → Type 0
AnswersRegistry (Ok endpoints) wanted = wanted ≡ Ok endpoints
AnswersRegistry (Err Memory) wanted = Unit {0}
AnswersRegistry (Err e) wanted = wanted ≡ Err e
