-- A batch of rows in the forms in which the members of a unit take it.
use Rattle.std.specs.Prelude.{◌≡◌, ◌<◌, ℕ, Bool, true, false, not, cond, List, Option, Some, None, IfSome, IsTrue, All, Result, Ok, Err, Contains, length, slice_get}
use Rattle.fx_outside.specs.Endpoints.{EndpointParts}
use Rattle.fx_algebra.specs.Solutions.{rises}
use Rattle.fx_algebra.specs.declared.queries.Query.{Query}
use Rattle.fx_grammar.specs.Accepted.{Accepted}
use Rattle.fx_bound.specs.Answers.{numbers}
use Rattle.fx_bound.specs.Parts.{IsBatch, Parts, query_of}
use Rattle.fx_founds.specs.declared.founds.Found.{Found}
use Rattle.fx_values.specs.Parts as values
use Rattle.fx_traffic.specs.Batches.{block_of, text_in}
use Rattle.fx_pool.specs.Reading.{Carried, HasFault, HasFound}
use Rattle.fx_pool.specs.declared.faults.ReadError.{ReadError}
use Rattle.fx_pool.specs.declared.faults.ReadError.TheVariants.{Bad, Memory}

-- ---- the forms that stand

-- a unit and rows, and whether there is a batch with a branch for each row, and one with a VALUES block
pub record Formed : Type 0 where
  pub parts : Parts
  pub plain : Bool
  pub values : Bool

-- there is one in the form that an endpoint takes
abbrev pub has_form : Formed → EndpointParts → Bool
has_form f e = cond e.values f.values f.plain

-- a member has an endpoint, for which there is a form
pub record CanAsk (endpoints : List EndpointParts) (f : Formed) (at : ℕ) : Type 0 where
  pub below : at < length endpoints
  pub formed : (e : EndpointParts) → slice_get endpoints at ≡ Some e → has_form f e ≡ true

-- what is kept of the forms: both are of these parts, and the names of each row rise
pub record AreForms (p : Parts) (plain : Option Parts) (block : Option values.Parts) : Type 0 where
  pub rising : All (λ r. IsTrue (rises r.solution)) p.rows
  pub plain_is : IfSome plain (λ b. b ≡ p)
  pub block_is : IfSome block (λ b. b ≡ block_of p)

-- an endpoint, where there is one, takes batches as VALUES, or it doesn't
abbrev pub takes_form : Bool → Option EndpointParts → Bool
takes_form values None = false
takes_form values (Some e) = cond values e.values (not e.values)

-- ---- a text in a form, and what is read of the reply to it

-- what the text of a batch is accepted as
abbrev pub query_in : Bool → Parts → Query
query_in true p = values.query_of (block_of p)
query_in false p = query_of p

-- what is known of a batch in a form
abbrev pub IsMadeIn : Bool → Parts → Type 0
IsMadeIn true p = values.IsValues (block_of p)
IsMadeIn false p = IsBatch p

-- the text of a batch in a form, or none
pub record IsTextIn (form : Bool) (p : Parts) (text : Option (List ℕ)) : Type 0 where
  pub exact : text_in form p ≡ text
  pub accepted : IfSome text (λ t. Accepted t (query_in form p))
  pub known : IsMadeIn form p

-- so it is of a batch with a VALUES block
pub record IsBlockText (block : values.Parts) (text : Option (List ℕ)) : Type 0 where
  pub exact : values.text_of block ≡ text
  pub accepted : IfSome text (λ t. Accepted t (values.query_of block))
  pub known : values.IsValues block

-- what a reply tells of the batch that its request carries, or its first fault
abbrev pub IsReadIn : Carried → Parts → List ℕ → Result (List Found) ReadError → Type 0
IsReadIn carried p reply (Ok founds) = HasFound carried reply founds × All (λ f. Contains (numbers p) f.branch) founds
IsReadIn carried p reply (Err (Bad why)) = HasFault carried reply why
IsReadIn carried p reply (Err Memory) = Unit {0}
