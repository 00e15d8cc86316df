-- What reading a reply gives of what was asked for.
use Rattle.std.specs.Prelude.{ℕ, List, Result, Ok, Err}
use Rattle.fx_algebra.specs.declared.answers.Answer.TheVariants as answer
use Rattle.fx_bound.specs.Parts.{Parts}
use Rattle.fx_values.specs.Parts.{Parts as ValuesParts}
use Rattle.fx_pool.specs.Reading.{an_ask, a_batch, a_values, a_service, HasFault, HasFound, HasResults, HasTable}
use Rattle.fx_pool.specs.declared.faults.ReadError.{ReadError}
use Rattle.fx_pool.specs.declared.faults.ReadError.TheVariants.{Bad, Memory}
use Rattle.fx_pool.specs.declared.jobs.JobReply.{JobReply}
use Rattle.fx_pool.specs.declared.jobs.JobReply.TheVariants as reply
use Rattle.fx_pool.specs.declared.jobs.Work.{Work}
use Rattle.fx_pool.specs.declared.jobs.Work.TheVariants as work

abbrev pub GivesTruthReply : List ℕ → Result JobReply ReadError → Type 0
GivesTruthReply bytes (Ok (reply.Truth truth)) = HasResults bytes (answer.Truth truth)
GivesTruthReply bytes (Ok r) = ⊥
GivesTruthReply bytes (Err (Bad why)) = HasFault an_ask bytes why
GivesTruthReply bytes (Err Memory) = Unit {0}

abbrev pub GivesFoundReply : List ℕ → Parts → Result JobReply ReadError → Type 0
GivesFoundReply bytes parts (Ok (reply.Found founds)) = HasFound (a_batch parts) bytes founds
GivesFoundReply bytes parts (Ok r) = ⊥
GivesFoundReply bytes parts (Err (Bad why)) = HasFault (a_batch parts) bytes why
GivesFoundReply bytes parts (Err Memory) = Unit {0}

abbrev pub GivesLocatedReply : List ℕ → ValuesParts → Result JobReply ReadError → Type 0
GivesLocatedReply bytes parts (Ok (reply.Found founds)) = HasFound (a_values parts) bytes founds
GivesLocatedReply bytes parts (Ok r) = ⊥
GivesLocatedReply bytes parts (Err (Bad why)) = HasFault (a_values parts) bytes why
GivesLocatedReply bytes parts (Err Memory) = Unit {0}

abbrev pub GivesTableReply : List ℕ → List (List ℕ) → Result JobReply ReadError → Type 0
GivesTableReply bytes columns (Ok (reply.Table rows)) = HasTable bytes columns rows
GivesTableReply bytes columns (Ok r) = ⊥
GivesTableReply bytes columns (Err (Bad why)) = HasFault (a_service columns) bytes why
GivesTableReply bytes columns (Err Memory) = Unit {0}

abbrev pub GivesTold : Work → List ℕ → Result JobReply ReadError → Type 0
GivesTold (work.Ask text) bytes result = GivesTruthReply bytes result
GivesTold (work.Batch batch) bytes result = GivesFoundReply bytes batch result
GivesTold (work.Values batch) bytes result = GivesLocatedReply bytes batch result
GivesTold (work.Service text columns) bytes result = GivesTableReply bytes columns result
