-- What a reply tells of what its request carries, or its first fault.
use Rattle.std.specs.Prelude.{◌≡◌, ℕ, Bool, true, false, not, List, map, Some, None, Result, Ok, Err, position}
use Rattle.std.specs.List.{list_any}
use Rattle.fx_outside.specs.Endpoints.{EndpointParts}
use Rattle.fx_algebra.specs.Scopes.{is_among}
use Rattle.fx_algebra.specs.Solutions.{Bindings}
use Rattle.fx_algebra.specs.declared.answers.Answer.{Answer}
use Rattle.fx_algebra.specs.declared.answers.Answer.TheVariants.{Table, Truth}
use Rattle.fx_bound.specs.Answers.{read_answer}
use Rattle.fx_bound.specs.Parts.{Parts}
use Rattle.fx_bound.specs.declared.faults.BatchError.{BatchError}
use Rattle.fx_bound.specs.declared.faults.BatchError.TheVariants as batch
use Rattle.fx_founds.specs.declared.founds.Found.{Found}
use Rattle.fx_http.specs.Replies.{Replies}
use Rattle.fx_results.specs.Reading.{read_results}
use Rattle.fx_traffic.specs.Batches.{block_of}
use Rattle.fx_results.specs.declared.faults.ResultsError.{ResultsError}
use Rattle.fx_results.specs.declared.faults.ResultsError.TheVariants as results
use Rattle.fx_values.specs.Answers.{read_answer as read_values}
use Rattle.fx_values.specs.Parts.{Parts as ValuesParts}
use Rattle.fx_values.specs.Reading.{found_of}
use Rattle.fx_values.specs.declared.faults.ValuesError.{ValuesError}
use Rattle.fx_values.specs.declared.faults.ValuesError.TheVariants as values
use Rattle.fx_values.specs.declared.located.Located.{Located}
use Rattle.fx_pool.specs.declared.faults.ReplyFault.{ReplyFault}
use Rattle.fx_pool.specs.declared.faults.ReplyFault.TheVariants as fault
use Rattle.fx_pool.specs.declared.faults.ReadError.{ReadError}
use Rattle.fx_pool.specs.declared.faults.ReadError.TheVariants.{Bad, Memory}

-- What a request carries: an ASK, a batch of a unit's rows, each in a branch or all in one VALUES block, or the text of a SERVICE with these
-- columns.
pub data Carried : Type 0 where
  an_ask : Carried
  a_batch : Parts → Carried
  a_values : ValuesParts → Carried
  a_service : List (List ℕ) → Carried

-- a batch as one VALUES block, or with a branch for each row
abbrev pub carried_in : Bool → Parts → Carried
carried_in true p = a_values (block_of p)
carried_in false p = a_batch p

-- Of a batch it is what the endpoint is asked for, in the form that it takes.
abbrev pub carried_for : EndpointParts → Parts → Carried
carried_for e p = carried_in e.values p

-- ---- results

-- the reply is read, and its body as these results
pub record HasResults (reply : List ℕ) (told : Answer) : Type 0 where
  pub body : List ℕ
  pub replied : Replies reply (Ok body)
  pub read : read_results body ≡ Ok told

-- want of memory is no fault of a document
abbrev pub IsFault : ResultsError → Type 0
IsFault results.Memory = ⊥
IsFault e = Unit {0}

-- the reply is read, but its body isn't, for this reason
pub record HasNoResults (reply : List ℕ) (why : ResultsError) : Type 0 where
  pub body : List ℕ
  pub replied : Replies reply (Ok body)
  pub unread : read_results body ≡ Err why
  pub fault : IsFault why

-- ---- rows of a SERVICE

-- a row binds a name that is no column
abbrev pub is_foreign : List (List ℕ) → Bindings → Bool
is_foreign columns row = list_any (λ e. not (is_among columns e.0)) row

-- ---- faults

-- want of memory is no fault of an answer
abbrev pub IsBatchFault : BatchError → Type 0
IsBatchFault batch.Memory = ⊥
IsBatchFault e = Unit {0}

-- so it is of an answer to a VALUES block
abbrev pub IsValuesFault : ValuesError → Type 0
IsValuesFault values.Memory = ⊥
IsValuesFault e = Unit {0}

-- the results are not what was asked for: a table for an ASK; of a batch what `read_answer` of its form says; of a SERVICE a truth value, or the first row that binds
-- a name that wasn't asked for
abbrev pub IsUnfit : Carried → Answer → ReplyFault → Type 0
IsUnfit an_ask (Table columns rows) fault.NotTruth = Unit {0}
IsUnfit (a_batch parts) told (fault.Batch why) = (read_answer parts told ≡ Err why) × IsBatchFault why
IsUnfit (a_values parts) told (fault.Values why) = (read_values parts told ≡ Err why) × IsValuesFault why
IsUnfit (a_service columns) (Truth truth) fault.NotTable = Unit {0}
IsUnfit (a_service columns) (Table told rows) (fault.Foreign row) = position (is_foreign columns) rows ≡ Some row
IsUnfit carried told why = ⊥

pub record HasUnfit (carried : Carried) (reply : List ℕ) (why : ReplyFault) : Type 0 where
  pub told : Answer
  pub results : HasResults reply told
  pub unfit : IsUnfit carried told why

-- The first fault of a reply: why it isn't read as one, why its body isn't read as results, or what is wrong with these.
abbrev pub HasFault : Carried → List ℕ → ReplyFault → Type 0
HasFault carried reply (fault.Http why) = Replies reply (Err why)
HasFault carried reply (fault.Results why) = HasNoResults reply why
HasFault carried reply why = HasUnfit carried reply why

-- ---- what reading gives

-- what the results tell of the rows of a VALUES block, as what was found for branches
pub record AreLocated (parts : ValuesParts) (told : Answer) (founds : List Found) : Type 0 where
  pub all : List Located
  pub read : read_values parts told ≡ Ok all
  pub found : founds ≡ map found_of all

-- what the results tell of the branches of a batch
abbrev pub IsFoundIn : Carried → Answer → List Found → Type 0
IsFoundIn an_ask told founds = ⊥
IsFoundIn (a_batch parts) told founds = read_answer parts told ≡ Ok founds
IsFoundIn (a_values parts) told founds = AreLocated parts told founds
IsFoundIn (a_service columns) told founds = ⊥

-- what is found for the branches of a batch
pub record HasFound (carried : Carried) (reply : List ℕ) (founds : List Found) : Type 0 where
  pub told : Answer
  pub results : HasResults reply told
  pub read : IsFoundIn carried told founds

-- the rows of a table that binds the columns alone
pub record HasTable (reply : List ℕ) (columns : List (List ℕ)) (rows : List Bindings) : Type 0 where
  pub named : List (List ℕ)
  pub results : HasResults reply (Table named rows)
  pub fits : position (is_foreign columns) rows ≡ None

-- results, or why there are none
abbrev pub GivesResults : List ℕ → Result Answer ReadError → Type 0
GivesResults reply (Ok told) = HasResults reply told
GivesResults reply (Err (Bad (fault.Http why))) = Replies reply (Err why)
GivesResults reply (Err (Bad (fault.Results why))) = HasNoResults reply why
GivesResults reply (Err (Bad why)) = ⊥
GivesResults reply (Err Memory) = Unit {0}

abbrev pub GivesTruth : List ℕ → Result Bool ReadError → Type 0
GivesTruth reply (Ok truth) = HasResults reply (Truth truth)
GivesTruth reply (Err (Bad why)) = HasFault an_ask reply why
GivesTruth reply (Err Memory) = Unit {0}

abbrev pub GivesFound : List ℕ → Parts → Result (List Found) ReadError → Type 0
GivesFound reply parts (Ok founds) = HasFound (a_batch parts) reply founds
GivesFound reply parts (Err (Bad why)) = HasFault (a_batch parts) reply why
GivesFound reply parts (Err Memory) = Unit {0}

abbrev pub GivesLocated : List ℕ → ValuesParts → Result (List Found) ReadError → Type 0
GivesLocated reply parts (Ok founds) = HasFound (a_values parts) reply founds
GivesLocated reply parts (Err (Bad why)) = HasFault (a_values parts) reply why
GivesLocated reply parts (Err Memory) = Unit {0}

abbrev pub GivesTable : List ℕ → List (List ℕ) → Result (List Bindings) ReadError → Type 0
GivesTable reply columns (Ok rows) = HasTable reply columns rows
GivesTable reply columns (Err (Bad why)) = HasFault (a_service columns) reply why
GivesTable reply columns (Err Memory) = Unit {0}
