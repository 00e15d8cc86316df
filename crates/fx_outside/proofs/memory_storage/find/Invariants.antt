use Rattle.std.proofs.Common.{◌≡◌, drop}
use Rattle.fx_outside.specs.MemoryStorage.{content_of}
use Rattle.fx_outside.proofs.memory_storage.find.Given as goal

-- what is left decides
abbrev pub invariant-loop-file : goal.invariant-loop-file
invariant-loop-file l = content_of (drop l.file-index l.files) l.name ≡ content_of l.files l.name
