-- What contracts see of an endpoint, and which endpoints a request can be written for.
use Rattle.std.specs.Prelude.{ℕ, ◌+◌, Bool, false, List, [], ◌∷◌, length, codes, ◌&&◌, ◌||◌, ◌==◌, nat_le, not}
use Rattle.std.specs.List.{list_all, list_any}
use Rattle.fx_terms.specs.Iris.{is_letter, is_digit}
use Rattle.fx_outside.specs.declared.endpoints.Flags.{Flags}

-- a name, an address, the host, port and target that the address gives, whether queries may do without the endpoint, and whether it takes
-- batches of rows as VALUES
pub record EndpointParts : Type 0 where
  pub name : List ℕ
  pub iri : List ℕ
  pub host : List ℕ
  pub port : ℕ
  pub target : List ℕ
  pub optional : Bool
  pub values : Bool

-- an endpoint without flags
abbrev pub endpoint_of : List ℕ → List ℕ → List ℕ → ℕ → List ℕ → EndpointParts
endpoint_of name iri host port target = record { name = name; iri = iri; host = host; port = port; target = target; optional = false; values = false }

-- the endpoint with these flags in place of its own
abbrev pub flagged : Flags → EndpointParts → EndpointParts
flagged flags e = record { name = e.name; iri = e.iri; host = e.host; port = e.port; target = e.target; optional = flags.optional; values = flags.values }

-- U+0021 to U+007E
abbrev pub is_host_byte : ℕ → Bool
is_host_byte b = nat_le 33 b && nat_le b 126

-- one or more of these
abbrev pub is_host : List ℕ → Bool
is_host host = not (length host == 0) && list_all is_host_byte host

-- a letter, a digit or one of these marks
abbrev pub is_target_byte : ℕ → Bool
is_target_byte b = is_letter b || is_digit b || list_any (λ c. c == b) (codes "-._~!$&'()*+,;=:@%/")

-- a slash, and then any of these
abbrev pub is_target : List ℕ → Bool
is_target [] = false
is_target (b ∷ bs) = b == 47 && list_all is_target_byte bs

-- a request can be written for the endpoint
abbrev pub is_sendable : EndpointParts → Bool
is_sendable e = is_host e.host && is_target e.target && nat_le (length e.host + length e.target) 32768
