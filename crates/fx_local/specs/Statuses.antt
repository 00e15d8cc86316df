-- The exit status of each end.
use Rattle.std.specs.Prelude.{ℕ}
use Rattle.fx_local.specs.declared.statuses.Status.{Status}
use Rattle.fx_local.specs.declared.statuses.Status.TheVariants.{Done, Usage, QueryRefused, RegistryRefused, EndpointFault, BadReply, UnknownService, ReadFault, WriteFault, RequestTooLong, GraphRefused, DoorFault, NoMemory, FileTooLong}

abbrev pub code_of : Status → ℕ
code_of Done = 0
code_of Usage = 2
code_of QueryRefused = 3
code_of RegistryRefused = 4
code_of EndpointFault = 5
code_of BadReply = 6
code_of UnknownService = 7
code_of ReadFault = 8
code_of WriteFault = 9
code_of RequestTooLong = 10
code_of GraphRefused = 11
code_of DoorFault = 12
code_of NoMemory = 13
code_of FileTooLong = 14
