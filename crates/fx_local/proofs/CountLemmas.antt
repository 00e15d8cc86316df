-- What is counted in one step after another.
use Rattle.std.proofs.Common.{◌≡◌, ◌∙◌, ap, refl, ℕ, ◌+◌, List, Ok, Err, inl, inr}
use Rattle.std.specs.Prelude.{Result}
use Rattle.fx_outside.specs.Faults.{HaveStayed}
use Rattle.fx_outside.specs.declared.doors.DoorError.{DoorError}
use Rattle.fx_outside.specs.declared.doors.DoorError.TheVariants as door
use Rattle.fx_outside.proofs.CountLemmas.{one_more_later, stayed_both}
use Rattle.fx_ntriples.specs.declared.faults.NtError.TheVariants as nt
use Rattle.fx_sources.specs.declared.errors.RegistryError.{RegistryError}
use Rattle.fx_sources.specs.declared.errors.RegistryError.TheVariants as error
use Rattle.fx_terms.specs.declared.triples.Triple.{Triple}
use Rattle.fx_local.specs.GraphTexts.{GivesGraphText}
use Rattle.fx_local.specs.Counts.{CountsDoor, CountsLoad, CountsLoads, CountsOnly, CountsRead}
use Rattle.fx_local.specs.RefusalStatuses.{graph_status, registry_status}
use Rattle.fx_local.specs.ServingSteps.{end_status}
use Rattle.fx_local.specs.declared.refusals.GraphFault.{GraphFault}
use Rattle.fx_local.specs.declared.refusals.GraphFault.TheVariants as fault
use Rattle.fx_local.specs.declared.refusals.GraphRefusal.{GraphRefusal}
use Rattle.fx_local.specs.declared.refusals.GraphRefusal.TheVariants as graph
use Rattle.fx_local.specs.declared.refusals.RegistryRefusal.TheVariants as registry
use Rattle.fx_local.specs.declared.statuses.Status.{Status}
use Rattle.fx_local.specs.declared.statuses.Status.TheVariants as status

-- ---- files

-- a text that is refused was read
pub no_graph_counts : (name : List ℕ) (a b : List ℕ → ℕ) (e : GraphFault) → HaveStayed a b → CountsRead name (graph_status (graph.Refused e)) a b
no_graph_counts name a b (fault.Triples (nt.BadUtf8 at)) h = h
no_graph_counts name a b (fault.Triples (nt.Bad l c)) h = h
no_graph_counts name a b (fault.Triples (nt.Blank l c)) h = h
no_graph_counts name a b (fault.Triples (nt.Relative l c)) h = h
no_graph_counts name a b (fault.Triples nt.Memory) h = h
no_graph_counts name a b (fault.Turtle kind at) h = h

pub text_counts : (name text : List ℕ) (a b : List ℕ → ℕ) (result : Result (List Triple) GraphRefusal) → GivesGraphText name text result → HaveStayed a b → CountsLoad graph_status name a b result
text_counts name text a b (Ok given) k h = h
text_counts name text a b (Err (graph.Refused e)) k h = no_graph_counts name a b e h
text_counts name text a b (Err graph.Memory) k h = h
text_counts name text a b (Err graph.Fault) k h = absurd k
text_counts name text a b (Err graph.TooLong) k h = absurd k

pub no_registry_counts : (name : List ℕ) (a b : List ℕ → ℕ) (e : RegistryError) → HaveStayed a b → CountsRead name (registry_status (registry.Refused e)) a b
no_registry_counts name a b (error.Bad line) h = h
no_registry_counts name a b (error.TooMany line) h = h
no_registry_counts name a b (error.RepeatedName line) h = h
no_registry_counts name a b (error.RepeatedUrl line) h = h
no_registry_counts name a b error.Memory h = h

-- one file that is read is all that is read
pub only_read : (name : List ℕ) (s : Status) (a b : List ℕ → ℕ) → CountsRead name s a b → CountsOnly status.ReadFault s a b
only_read name status.ReadFault a b h = inr (refl, (name, h))
only_read name status.Done a b h = inl h
only_read name status.Usage a b h = inl h
only_read name status.QueryRefused a b h = inl h
only_read name status.RegistryRefused a b h = inl h
only_read name status.EndpointFault a b h = inl h
only_read name status.BadReply a b h = inl h
only_read name status.UnknownService a b h = inl h
only_read name status.WriteFault a b h = inl h
only_read name status.RequestTooLong a b h = inl h
only_read name status.GraphRefused a b h = inl h
only_read name status.DoorFault a b h = inl h
only_read name status.NoMemory a b h = inl h
only_read name status.FileTooLong a b h = inl h

-- after what counted nothing
pub only_later : (fault s : Status) (a b c : List ℕ → ℕ) → HaveStayed a b → CountsOnly fault s b c → CountsOnly fault s a c
only_later fault s a b c h (inl k) = inl (stayed_both a b c h k)
only_later fault s a b c h (inr (is, (name, k))) = inr (is, (name, one_more_later name a b c h k))

pub loads_later : {X R : Type 0} (status_of : R → Status) (a b c : List ℕ → ℕ) (r : Result X R) → HaveStayed a b → CountsLoads status_of b c r → CountsLoads status_of a c r
loads_later status_of a b c (Ok given) h k = stayed_both a b c h k
loads_later status_of a b c (Err r) h k = only_later status.ReadFault (status_of r) a b c h k

-- nothing more is read
pub loads_none : {X R : Type 0} (status_of : R → Status) (a b : List ℕ → ℕ) (r : Result X R) → HaveStayed a b → CountsLoads status_of a b r
loads_none status_of a b (Ok given) h = h
loads_none status_of a b (Err r) h = inl h

-- ---- doors

-- a door that does nothing more, after calls that it counted as no fault
pub end_counts : (a b c : ℕ) (e : DoorError) → b ≡ a → (e ≡ door.Failed → c ≡ b + 1) → ((e ≡ door.Failed → ⊥) → c ≡ b) → CountsDoor (end_status e) a c
end_counts a b c door.Failed h counted faultless = inr (refl, counted refl ∙ ap (λ (n : ℕ). n + 1) h)
end_counts a b c door.Memory h counted faultless = inl (faultless (λ is. cc) ∙ h)

pub door_later : (s : Status) (a b c : ℕ) → b ≡ a → CountsDoor s b c → CountsDoor s a c
door_later s a b c h (inl k) = inl (k ∙ h)
door_later s a b c h (inr (is, k)) = inr (is, k ∙ ap (λ (n : ℕ). n + 1) h)
