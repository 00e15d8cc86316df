use Rattle.std.proofs.Common.{◌∙◌, ap}
use Rattle.fx_sources.specs.Registries.{has_url}
use Rattle.fx_sources.proofs.RegistryLemmas.{same_urls}
use Rattle.fx_sources.proofs.registries.Registry.has_url.Goals as goal

pub returns : goal.returns
returns c =
    let same = same_urls c.self.inside.urls.items c.self.inside.endpoints.items c.args.url.now c.self.invariant.1 in
    rw c.as_slice.ensures.value at c.has_text.ensures ∙ same ∙ ap (has_url c.args.url.now) c.self.view_is
