use Rattle.std.proofs.Common.{◌≡◌, ◌<◌, true, false, length, string_bytes, rules, List, ◌++◌, ◌∷◌, []}
use Rattle.fx_outside.specs.Endpoints.{EndpointParts}
use Rattle.fx_sources.specs.Registries.{has_name, has_url}
use Rattle.fx_sources.specs.Addresses.{url_text}
use Rattle.fx_sources.proofs.RegistryLemmas.{with_repeated_url, with_new, IsRegistry-push, texts-push}
use Rattle.fx_sources.proofs.registries.Registry.with_entry.Goals as goal

pub returns-then-has_url : goal.returns-then-has_url
returns-then-has_url c =
    let earlier : List EndpointParts = c.args.self in
    let e : EndpointParts = c.args.entry in
    let few : length earlier < 64 = search rules in
    let name : has_name e.name earlier ≡ false = search rules in
    let url : has_url (url_text e.iri) earlier ≡ true = search rules in
    with_repeated_url c.args.line earlier e few name url

pub invariant_of-self : goal.invariant_of-self
invariant_of-self c =
    let earlier : List EndpointParts = c.args.self in
    let e : EndpointParts = c.args.entry in
    let few : length earlier < 64 = search rules in
    let name : has_name e.name earlier ≡ false = search rules in
    let url : has_url (url_text e.iri) earlier ≡ false = search rules in
    let grown : c.push-2.new.self.items ≡ earlier ++ e ∷ [] = search rules in (
      rw grown (IsRegistry-push earlier e (string_bytes c.entry.inside.url) c.endpoints.ensures.valid (rw c.entry.view_is at c.entry.invariant) few name url),
      rw (c.in_ok-push.ensures.items, c.in_ok-push-2.ensures.items)
          (texts-push c.self.inside.urls.items c.self.inside.endpoints.items c.entry.inside.url c.entry.inside.endpoint c.self.invariant.1 c.entry.invariant.reads),
    )

pub returns : goal.returns
returns c =
    let earlier : List EndpointParts = c.args.self in
    let e : EndpointParts = c.args.entry in
    let few : length earlier < 64 = search rules in
    let name : has_name e.name earlier ≡ false = search rules in
    let url : has_url (url_text e.iri) earlier ≡ false = search rules in
    let grown : c.push-2.new.self.items ≡ earlier ++ e ∷ [] = search rules in
    rw grown (with_new c.args.line earlier e few name url)
