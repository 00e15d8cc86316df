use Rattle.std.proofs.Common.{◌∙◌, sym}
use Rattle.fx_sources.proofs.RegistryLemmas.{no_address, address_at}
use Rattle.fx_sources.proofs.registries.Registry.find.Goals as goal

pub returns-in-Some-clause-some : goal.returns-in-Some-clause-some
returns-in-Some-clause-some c =
    address_at c.args.self.now c.args.iri.now c.in-Some.place (sym (rw c.endpoints.ensures.value at c.place_of.ensures.first) ∙ c.in-Some.is)

pub returns-in-None-clause-none : goal.returns-in-None-clause-none
returns-in-None-clause-none c =
    no_address c.args.self.now c.args.iri.now (sym (rw c.endpoints.ensures.value at c.place_of.ensures.first) ∙ c.in-None.is)
