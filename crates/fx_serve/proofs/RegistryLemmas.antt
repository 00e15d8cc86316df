-- A registry that is refused, or served.
use Rattle.std.proofs.Common.{◌≡◌, refl, ℕ, List, [], Err, inl, inr}
use Rattle.fx_outside.specs.Doors.{DoorSeen}
use Rattle.fx_sources.specs.declared.errors.RegistryError.TheVariants as error
use Rattle.fx_traffic.specs.Gains.{WiresSeen}
use Rattle.fx_local.specs.Files.{FileRead}
use Rattle.fx_local.specs.RefusalStatuses.{registry_status}
use Rattle.fx_local.specs.RegistryFiles.{GivesRegistry, registry_line}
use Rattle.fx_local.specs.declared.refusals.RegistryRefusal.{RegistryRefusal}
use Rattle.fx_local.specs.declared.refusals.RegistryRefusal.TheVariants as refusal
use Rattle.fx_local.specs.declared.statuses.Status.{Status}
use Rattle.fx_local.specs.declared.statuses.Status.TheVariants as status
use Rattle.fx_serve.specs.Serving.{IsServeReported, IsUnserved, ServesRegistry}

pub unserved : (w : WiresSeen) (door : DoorSeen) (line : List ℕ) → w.after ≡ w.before → IsUnserved w door door line [] line
unserved w door line u = record { unasked = u; untouched = refl; no_lines = refl; last_line = refl }

-- the file gives no registry, and the door is left alone
pub refused_reported : (r : FileRead) (w : WiresSeen) (door : DoorSeen) (address : List ℕ) (count block : ℕ) (e : RegistryRefusal) → w.after ≡ w.before → GivesRegistry r (Err e) → IsServeReported r w door door address count block (registry_status e) [] (registry_line e r.name)
refused_reported r w door address count block refusal.Fault u h = (h, unserved w door _ u)
refused_reported r w door address count block refusal.TooLong u h = (h, unserved w door _ u)
refused_reported r w door address count block (refusal.Refused (error.Bad number)) u h = (error.Bad number, h, unserved w door _ u)
refused_reported r w door address count block (refusal.Refused (error.TooMany number)) u h = (error.TooMany number, h, unserved w door _ u)
refused_reported r w door address count block (refusal.Refused (error.RepeatedName number)) u h = (error.RepeatedName number, h, unserved w door _ u)
refused_reported r w door address count block (refusal.Refused (error.RepeatedUrl number)) u h = (error.RepeatedUrl number, h, unserved w door _ u)
refused_reported r w door address count block (refusal.Refused error.Memory) u h = inl (unserved w door _ u)
refused_reported r w door address count block refusal.Memory u h = inl (unserved w door _ u)

-- which is no fault of a write
pub refused_otherwise : (e : RegistryRefusal) → registry_status e ≡ status.WriteFault → ⊥
refused_otherwise refusal.Fault is = cc
refused_otherwise refusal.TooLong is = cc
refused_otherwise (refusal.Refused (error.Bad number)) is = cc
refused_otherwise (refusal.Refused (error.TooMany number)) is = cc
refused_otherwise (refusal.Refused (error.RepeatedName number)) is = cc
refused_otherwise (refusal.Refused (error.RepeatedUrl number)) is = cc
refused_otherwise (refusal.Refused error.Memory) is = cc
refused_otherwise refusal.Memory is = cc

pub want_otherwise : status.NoMemory ≡ status.WriteFault → ⊥
want_otherwise is = cc

-- the registry was served
pub served_reported : (r : FileRead) (w : WiresSeen) (before after : DoorSeen) (address : List ℕ) (count block : ℕ) (s : Status) (lines behind : List ℕ) → ServesRegistry r w before after address count block s lines behind → IsServeReported r w before after address count block s lines behind
served_reported r w before after address count block status.Done lines behind h = h
served_reported r w before after address count block status.WriteFault lines behind h = h
served_reported r w before after address count block status.DoorFault lines behind h = h
served_reported r w before after address count block status.NoMemory lines behind h = inr h
served_reported r w before after address count block status.Usage lines behind h = h
served_reported r w before after address count block status.QueryRefused lines behind h = h
served_reported r w before after address count block status.RegistryRefused lines behind h = absurd h.reported
served_reported r w before after address count block status.EndpointFault lines behind h = h
served_reported r w before after address count block status.BadReply lines behind h = h
served_reported r w before after address count block status.UnknownService lines behind h = h
served_reported r w before after address count block status.ReadFault lines behind h = absurd h.reported
served_reported r w before after address count block status.RequestTooLong lines behind h = h
served_reported r w before after address count block status.GraphRefused lines behind h = h
served_reported r w before after address count block status.FileTooLong lines behind h = absurd h.reported
