-- What `local` reports and writes, by what it gives.
use Rattle.std.proofs.Common.{◌≡◌, sym, subst, refl, ℕ, List, Ok, Err, inl, inr}
use Rattle.fx_local.specs.declared.refusals.QueryRefusal.TheVariants as query
use Rattle.fx_ntriples.specs.declared.faults.NtError.TheVariants as error
use Rattle.fx_local.specs.declared.refusals.GraphFault.TheVariants as fault
use Rattle.fx_local.specs.declared.refusals.GraphRefusal.TheVariants as graph
use Rattle.fx_local.specs.declared.refusals.Refusal.{Refusal}
use Rattle.fx_local.specs.declared.refusals.Refusal.TheVariants as refusal
use Rattle.fx_local.specs.declared.statuses.Status.TheVariants as status
use Rattle.fx_local.specs.Files.{FileRead, IsQueryThat}
use Rattle.fx_local.specs.Local.{IsAnswer, IsReported, IsWritten, HasLines}
use Rattle.fx_local.specs.declared.documents.Report.{Report}
use Rattle.fx_local.specs.Sinks.{SinkWritten, IsCutShort}
use Rattle.fx_local.specs.declared.statuses.Status.{Status}
use Rattle.fx_local.specs.LocalSteps.{GivesAnswer, IsLineReported, IsDocumentWritten, refusal_line}
use Rattle.fx_local.specs.RefusalStatuses.{status_of}

pub reported : (g q : FileRead) (r : Refusal) → GivesAnswer g q (Err r) → IsReported g q (status_of r) (refusal_line r g.name q.name)
reported g q (refusal.Graph graph.Fault) h = inl (h, refl)
reported g q (refusal.Graph graph.TooLong) h = inl (h, refl)
reported g q (refusal.Graph (graph.Refused (fault.Triples (error.BadUtf8 at)))) h = (fault.Triples (error.BadUtf8 at), h, refl)
reported g q (refusal.Graph (graph.Refused (fault.Triples (error.Bad l c)))) h = (fault.Triples (error.Bad l c), h, refl)
reported g q (refusal.Graph (graph.Refused (fault.Triples (error.Blank l c)))) h = (fault.Triples (error.Blank l c), h, refl)
reported g q (refusal.Graph (graph.Refused (fault.Triples (error.Relative l c)))) h = (fault.Triples (error.Relative l c), h, refl)
reported g q (refusal.Graph (graph.Refused (fault.Triples error.Memory))) h = refl
reported g q (refusal.Graph (graph.Refused (fault.Turtle kind at))) h = (fault.Turtle kind at, h, refl)
reported g q (refusal.Graph graph.Memory) h = refl
reported g q (refusal.Query query.Fault) h = inr (h.0, h.1, refl)
reported g q (refusal.Query query.TooLong) h = inr (h.0, h.1, refl)
reported g q (refusal.Query (query.Refused kind at)) h = (h.0, (kind, at, h.1, refl))
reported g q (refusal.Query query.Memory) h = refl
reported g q (refusal.UnknownService iri) h = (h.0, (iri, h.1, refl))
reported g q refusal.Memory h = refl

-- ---- reports of `local`

pub lines_reported : (g q : FileRead) (r : Report) (s : Status) (text : List ℕ) → GivesAnswer g q (Ok r) → IsLineReported r.lines.items s text → IsReported g q s text
lines_reported g q r status.Done text h k = (h.0, subst (λ (v : List ℕ). IsQueryThat q (HasLines v)) (sym k) h.1)
lines_reported g q r status.WriteFault text h k = (h.0, (r.lines.items, h.1, k))
lines_reported g q r status.NoMemory text h k = absurd k
lines_reported g q r status.Usage text h k = absurd k
lines_reported g q r status.RegistryRefused text h k = absurd k
lines_reported g q r status.EndpointFault text h k = absurd k
lines_reported g q r status.BadReply text h k = absurd k
lines_reported g q r status.UnknownService text h k = absurd k
lines_reported g q r status.RequestTooLong text h k = absurd k
lines_reported g q r status.DoorFault text h k = absurd k
lines_reported g q r status.GraphRefused text h k = absurd k
lines_reported g q r status.QueryRefused text h k = absurd k
lines_reported g q r status.ReadFault text h k = absurd k
lines_reported g q r status.FileTooLong text h k = absurd k

pub document_written : (g q : FileRead) (r : Report) (s : Status) (old new : List ℕ) → GivesAnswer g q (Ok r) → IsDocumentWritten r.document.items s old new → IsWritten g q s old new
document_written g q r status.Done old new h k = (r.document.items, h.2, k)
document_written g q r status.WriteFault old new h k = (r.document.items, h.2, k)
document_written g q r status.NoMemory old new h k = absurd k
document_written g q r status.Usage old new h k = absurd k
document_written g q r status.RegistryRefused old new h k = absurd k
document_written g q r status.EndpointFault old new h k = absurd k
document_written g q r status.BadReply old new h k = absurd k
document_written g q r status.UnknownService old new h k = absurd k
document_written g q r status.RequestTooLong old new h k = absurd k
document_written g q r status.DoorFault old new h k = absurd k
document_written g q r status.GraphRefused old new h k = absurd k
document_written g q r status.QueryRefused old new h k = absurd k
document_written g q r status.ReadFault old new h k = absurd k
document_written g q r status.FileTooLong old new h k = absurd k

pub cut_short : (g q : FileRead) (r : Report) (out err : SinkWritten) → GivesAnswer g q (Ok r) → IsCutShort (λ text. text ≡ r.document.items) out err → IsCutShort (IsAnswer g q) out err
cut_short g q r out err h (inl k) = inl k
cut_short g q r out err h (inr k) = inr ((λ told. let w = k.0.0 told in (w.0, subst (IsAnswer g q) (sym w.1) h.2, w.2), k.0.1), k.1)
