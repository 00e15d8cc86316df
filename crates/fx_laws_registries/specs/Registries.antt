-- Which lines are a registry, and which line refuses one.
use Rattle.std.specs.Prelude.{◌≡◌, ◌≢◌, ◌<◌, ◌≤◌, ◌+◌, ◌↔◌, ℕ, List, ◌∷◌, ◌++◌, length, All, AllPairs, Contains, Option, Some, None, Ok, Err}
use Rattle.std.specs.List.{filter_map}
use Rattle.std.specs.Str.Lines.{lines}
use Rattle.fx_outside.specs.Endpoints.{EndpointParts}
use Rattle.fx_sources.specs.Addresses.{url_text}
use Rattle.fx_sources.specs.Lines.{line_of}
use Rattle.fx_sources.specs.Registries.{read_registry}
use Rattle.fx_sources.specs.declared.errors.RegistryError.{RegistryError}
use Rattle.fx_sources.specs.declared.errors.RegistryError.TheVariants.{Bad, RepeatedName, RepeatedUrl, TooMany}
use Rattle.fx_sources.specs.declared.lines.Line.{Line}
use Rattle.fx_sources.specs.declared.lines.Line.TheVariants.{Entry, Malformed, Passed}

abbrev pub entry_in : Line → Option EndpointParts
entry_in Passed = None
entry_in (Entry e) = Some e
entry_in Malformed = None

-- the entries of lines, in their order
abbrev pub entries : List (List ℕ) → List EndpointParts
entries texts = filter_map (λ text. entry_in (line_of text)) texts

-- endpoints may stand in one registry
pub record MayStand (endpoints : List EndpointParts) : Type 0 where
  pub few : length endpoints ≤ 64
  pub names : AllPairs (λ d e. d.name ≢ e.name) endpoints
  pub addresses : AllPairs (λ d e. url_text d.iri ≢ url_text e.iri) endpoints

-- lines are a registry of endpoints
pub record AreRegistry (texts : List (List ℕ)) (endpoints : List EndpointParts) : Type 0 where
  pub well_formed : All (λ text. line_of text ≢ Malformed) texts
  pub are : endpoints ≡ entries texts
  pub stand : MayStand endpoints

-- why a line may not stand behind endpoints
pub data Refuses (endpoints : List EndpointParts) (number : ℕ) (line : Line) (error : RegistryError) : Type 0 where
  malformed : line ≡ Malformed → error ≡ Bad number → Refuses endpoints number line error
  too_many : (e : EndpointParts) → line ≡ Entry e → length endpoints ≡ 64 → error ≡ TooMany number → Refuses endpoints number line error
  same_name : (e d : EndpointParts) → line ≡ Entry e → length endpoints < 64 → Contains endpoints d → d.name ≡ e.name → error ≡ RepeatedName number → Refuses endpoints number line error
  same_address : (e d : EndpointParts) → line ≡ Entry e → length endpoints < 64 → All (λ c. c.name ≢ e.name) endpoints → Contains endpoints d → url_text d.iri ≡ url_text e.iri → error ≡ RepeatedUrl number → Refuses endpoints number line error

-- the lines in front of one are a registry, and it may not stand there
pub record AreRefused (texts : List (List ℕ)) (error : RegistryError) : Type 0 where
  pub front : List (List ℕ)
  pub text : List ℕ
  pub behind : List (List ℕ)
  pub endpoints : List EndpointParts
  pub are : texts ≡ front ++ (text ∷ behind)
  pub read : AreRegistry front endpoints
  pub why : Refuses endpoints (length front + 1) (line_of text) error

abbrev pub RegistriesAreReadByTheirLines : Type 0
RegistriesAreReadByTheirLines = (bytes : List ℕ) →
    ((endpoints : List EndpointParts) → (read_registry bytes ≡ Ok endpoints) ↔ AreRegistry (lines bytes) endpoints)
    × ((error : RegistryError) → (read_registry bytes ≡ Err error) ↔ AreRefused (lines bytes) error)
