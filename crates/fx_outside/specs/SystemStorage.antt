-- What is known of the files of the system.
use Rattle.std.specs.Prelude.{ℕ, List}
use Rattle.fx_outside.specs.declared.system_storage.Folder.{Folder}
use Rattle.fx_outside.specs.NameCounts.{count_of}

-- how many times the file of a name has failed
abbrev pub faults_of_folder : {R : Type 0} → Folder R → List ℕ → ℕ
faults_of_folder folder name = count_of folder.faults name
