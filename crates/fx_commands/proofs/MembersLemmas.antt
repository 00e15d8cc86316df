-- The registry of the members of `count_rows`.
use Rattle.std.proofs.Common.{◌≡◌, ◌∙◌, sym, Ok, Err, refl}
use Rattle.std.specs.Str.{is_utf8}
use Rattle.url.proofs.OnLiterals.{url_on_literals}
use Rattle.fx_sources.specs.Addresses.{url_text}
use Rattle.fx_sources.specs.Lines.{entry, line_of}
use Rattle.fx_sources.specs.Registries.{AnswersRegistry, read_registry, with_endpoint}
use Rattle.fx_sources.specs.declared.errors.RegistryError.{RegistryError}
use Rattle.fx_sources.specs.declared.errors.RegistryError.TheVariants as error
use Rattle.fx_commands.specs.Counting.{generated_members, generated_registry}

pub registry_is : read_registry generated_registry ≡ Ok generated_members
unfolding url_on_literals is_utf8 url_text entry line_of with_endpoint
registry_is = refl

not_refused : (e : RegistryError) → read_registry generated_registry ≡ Err e → ⊥
not_refused e h = clash (sym registry_is ∙ h)
  where
    clash : Ok generated_members ≡ Err e → ⊥
    clash h = cc

-- it is refused for want of memory alone
pub only_memory : (e : RegistryError) → AnswersRegistry (Err e) (read_registry generated_registry) → e ≡ error.Memory
only_memory (error.Bad n) h = absurd (not_refused (error.Bad n) h)
only_memory (error.TooMany n) h = absurd (not_refused (error.TooMany n) h)
only_memory (error.RepeatedName n) h = absurd (not_refused (error.RepeatedName n) h)
only_memory (error.RepeatedUrl n) h = absurd (not_refused (error.RepeatedUrl n) h)
only_memory error.Memory h = refl
