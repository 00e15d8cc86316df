-- How a run with a refusal ends.
use Rattle.fx_local.specs.declared.refusals.FileRefusal.{FileRefusal}
use Rattle.fx_local.specs.declared.refusals.FileRefusal.TheVariants as file
use Rattle.fx_local.specs.declared.refusals.QueryRefusal.{QueryRefusal}
use Rattle.fx_local.specs.declared.refusals.QueryRefusal.TheVariants as query
use Rattle.fx_local.specs.declared.refusals.Refusal.{Refusal}
use Rattle.fx_local.specs.declared.refusals.Refusal.TheVariants as refusal
use Rattle.fx_local.specs.declared.refusals.GraphRefusal.{GraphRefusal}
use Rattle.fx_local.specs.declared.refusals.GraphRefusal.TheVariants as graph
use Rattle.fx_local.specs.declared.refusals.GraphFault.TheVariants as fault
use Rattle.fx_ntriples.specs.declared.faults.NtError.TheVariants as nt
use Rattle.fx_local.specs.declared.refusals.RegistryRefusal.{RegistryRefusal}
use Rattle.fx_local.specs.declared.refusals.RegistryRefusal.TheVariants as registry
use Rattle.fx_sources.specs.declared.errors.RegistryError.TheVariants as error
use Rattle.fx_local.specs.declared.statuses.Status.{Status}
use Rattle.fx_local.specs.declared.statuses.Status.TheVariants as status

abbrev pub file_status : FileRefusal → Status
file_status file.Fault = status.ReadFault
file_status file.TooLong = status.FileTooLong
file_status file.Memory = status.NoMemory

abbrev pub query_status : QueryRefusal → Status
query_status query.Fault = status.ReadFault
query_status query.TooLong = status.FileTooLong
query_status (query.Refused kind place) = status.QueryRefused
query_status query.Memory = status.NoMemory

abbrev pub graph_status : GraphRefusal → Status
graph_status graph.Fault = status.ReadFault
graph_status graph.TooLong = status.FileTooLong
graph_status (graph.Refused (fault.Triples nt.Memory)) = status.NoMemory
graph_status (graph.Refused e) = status.GraphRefused
graph_status graph.Memory = status.NoMemory

abbrev pub status_of : Refusal → Status
status_of (refusal.Graph r) = graph_status r
status_of (refusal.Query r) = query_status r
status_of (refusal.UnknownService iri) = status.UnknownService
status_of refusal.Memory = status.NoMemory

abbrev pub registry_status : RegistryRefusal → Status
registry_status registry.Fault = status.ReadFault
registry_status registry.TooLong = status.FileTooLong
registry_status (registry.Refused error.Memory) = status.NoMemory
registry_status (registry.Refused e) = status.RegistryRefused
registry_status registry.Memory = status.NoMemory
