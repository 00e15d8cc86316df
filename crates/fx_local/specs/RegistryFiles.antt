-- What reading the registry of a file gives.
use Rattle.std.specs.Prelude.{◌≡◌, ℕ, ◌≤◌, List, Result, Ok, Err, IfSome, length}
use Rattle.fx_outside.specs.Endpoints.{EndpointParts}
use Rattle.fx_sources.specs.Registries.{read_registry}
use Rattle.fx_sources.specs.declared.errors.RegistryError.TheVariants as error
use Rattle.fx_local.specs.Limits.{registry_limit}
use Rattle.fx_local.specs.declared.refusals.RegistryRefusal.{RegistryRefusal}
use Rattle.fx_local.specs.declared.refusals.RegistryRefusal.TheVariants as refusal
use Rattle.fx_local.specs.Files.{FileRead, HasFailed, IsTooLong, IsNoRegistry}
use Rattle.fx_local.specs.Lines.{cannot_read, registry_too_long, registry_refused, no_memory}

-- the registry of a file, or why there is none
abbrev pub GivesRegistry : FileRead → Result (List EndpointParts) RegistryRefusal → Type 0
GivesRegistry f (Ok es) = IfSome f.content (λ all. (length all ≤ registry_limit) × (read_registry all ≡ Ok es))
GivesRegistry f (Err refusal.Fault) = HasFailed f
GivesRegistry f (Err refusal.TooLong) = IsTooLong registry_limit f
GivesRegistry f (Err (refusal.Refused error.Memory)) = Unit {0}
GivesRegistry f (Err (refusal.Refused e)) = IsNoRegistry f e
GivesRegistry f (Err refusal.Memory) = Unit {0}

-- the line of a refusal, by the name of the registry's file
abbrev pub registry_line : RegistryRefusal → List ℕ → List ℕ
registry_line refusal.Fault name = cannot_read name
registry_line refusal.TooLong name = registry_too_long name
registry_line (refusal.Refused e) name = registry_refused e
registry_line refusal.Memory name = no_memory
