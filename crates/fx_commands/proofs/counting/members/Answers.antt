use Rattle.std.proofs.Common.{◌≡◌, Ok}
use Rattle.fx_sources.specs.Registries.{read_registry}
use Rattle.fx_sources.specs.declared.errors.RegistryError.TheVariants as error
use Rattle.fx_commands.specs.Counting.{generated_members, generated_registry}
use Rattle.fx_commands.proofs.MembersLemmas.{only_memory, registry_is}
use Rattle.fx_commands.proofs.counting.members.Goals as goal

pub returns-in-Ok : goal.returns-in-Ok
returns-in-Ok c = let read : read_registry generated_registry ≡ Ok c.in-Ok.members = c.in-Ok.ensures in let known : read_registry generated_registry ≡ Ok generated_members = registry_is in cc

pub unreachable-requires : goal.unreachable-requires
unreachable-requires c = let is : c.in-Err-Bad.field-0 ≡ error.Memory = only_memory c.in-Err-Bad.field-0 c.in-Err-Bad.ensures in let other = c.in-Err-Bad.field-0-is in cc

pub unreachable-requires-in-Err-TooMany : goal.unreachable-requires-in-Err-TooMany
unreachable-requires-in-Err-TooMany c = let is : c.in-Err-TooMany.field-0 ≡ error.Memory = only_memory c.in-Err-TooMany.field-0 c.in-Err-TooMany.ensures in let other = c.in-Err-TooMany.field-0-is in cc

pub unreachable-requires-in-Err-RepeatedName : goal.unreachable-requires-in-Err-RepeatedName
unreachable-requires-in-Err-RepeatedName c = let is : c.in-Err-RepeatedName.field-0 ≡ error.Memory = only_memory c.in-Err-RepeatedName.field-0 c.in-Err-RepeatedName.ensures in let other = c.in-Err-RepeatedName.field-0-is in cc

pub unreachable-requires-in-Err-RepeatedUrl : goal.unreachable-requires-in-Err-RepeatedUrl
unreachable-requires-in-Err-RepeatedUrl c = let is : c.in-Err-RepeatedUrl.field-0 ≡ error.Memory = only_memory c.in-Err-RepeatedUrl.field-0 c.in-Err-RepeatedUrl.ensures in let other = c.in-Err-RepeatedUrl.field-0-is in cc
