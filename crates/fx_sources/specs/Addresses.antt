-- The names and addresses of a registry's endpoints.
use Rattle.std.specs.Prelude.{◌≡◌, ℕ, Bool, true, false, List, [], ◌∷◌, length, Option, Some, None, Ok, Err, codes, unwrap_or, is_none, is_ok, ◌&&◌, ◌||◌, ◌==◌, nat_le, bytes_eq}
use Rattle.std.specs.List.{list_all}
use Rattle.std.specs.Str.{is_utf8}
use Rattle.url.specs.Parser.{Parsed, parse_url}
use Rattle.url.specs.Parts.{Parts, serialize}
use Rattle.fx_terms.specs.Iris.{IsIri, is_letter, is_digit, read_iri}
use Rattle.fx_outside.specs.Endpoints.{EndpointParts, endpoint_of, is_sendable}

-- a letter, a digit, - or _
abbrev pub is_name_byte : ℕ → Bool
is_name_byte b = is_letter b || is_digit b || b == 45 || b == 95

abbrev pub starts_with_letter : List ℕ → Bool
starts_with_letter [] = false
starts_with_letter (b ∷ bs) = is_letter b

-- 1 to 32 bytes: a letter, and then letters, digits, - and _
abbrev pub is_name : List ℕ → Bool
is_name name = starts_with_letter name && nat_le (length name) 32 && list_all is_name_byte name

-- an IRI, in UTF-8
abbrev pub is_iri : List ℕ → Bool
is_iri text = is_utf8 text && is_ok (read_iri text)

-- the scheme `http`, no user name, no password, no query and no fragment (URL Standard, 4.1)
abbrev pub is_plain : Parts → Bool
is_plain url =
    bytes_eq url.scheme (codes "http") && length url.username == 0 && length url.password == 0
    && is_none url.query && is_none url.fragment

-- the endpoint of a name and an address, where the address has a host: the port is 80 where none is written, and the
-- target is the path
abbrev pub endpoint_at : List ℕ → List ℕ → Parts → Option (List ℕ) → Option EndpointParts
endpoint_at name address url None = None
endpoint_at name address url (Some host) = Some (endpoint_of name address host (unwrap_or url.port 80) url.path)

-- what a text reads to as a URL, written again (URL Standard, 4.5)
abbrev pub text_of : Parsed Parts → List ℕ
text_of (Ok url) = serialize url
text_of (Err e) = []

unfoldable pub url_text : List ℕ → List ℕ
url_text address = text_of (parse_url None address)

-- an endpoint that a request can be written for, and the text that its address reads to
pub record IsEntry (endpoint : EndpointParts) (url : List ℕ) : Type 0 where
  pub sendable : is_sendable endpoint ≡ true
  pub iri : IsIri endpoint.iri
  pub reads : url ≡ url_text endpoint.iri
