-- The share of one of several runs in what was asked for.
use Rattle.std.proofs.Common.{refl, ℕ, ◌<◌, List, [], Bool, IfErr, IfOk, Result, Ok, Err, All, Contains, IsPermutation, ◌≤◌, length, arith, zero-le}
use Rattle.std.proofs.lemmas.List.Elements.{All-nil}
use Rattle.std.proofs.lemmas.List.Sorted.{IsPermutation-refl}
use Rattle.fx_terms.specs.declared.triples.Triple.{Triple}
use Rattle.fx_outside.specs.Endpoints.{EndpointParts}
use Rattle.fx_algebra.specs.Graphs.{union}
use Rattle.fx_algebra.specs.declared.units.Row.{Row}
use Rattle.fx_algebra.specs.declared.units.Unit as unit
use Rattle.fx_algebra.specs.Units.{graph_of}
use Rattle.fx_spelling.specs.Units.{IsSound}
use Rattle.fx_steps.specs.Steps.{stepped}
use Rattle.fx_traffic.specs.Batches.{IsBatchText}
use Rattle.fx_traffic.specs.Gains.{IsMemberIn, Tell, TellOf, faults_at}
use Rattle.fx_traffic.proofs.CutLemmas.{batch_laws}
use Rattle.fx_wire.specs.Exchanges.{Seen}
use Rattle.fx_flows.specs.Flows.{IsBatchRead, IsShort}
use Rattle.fx_flows.specs.RunFlows.{HasFlowCause, RunFlowed}
use Rattle.fx_flows.specs.declared.flows.FlowError.{FlowError}
use Rattle.fx_flows.specs.declared.flows.FlowError.TheVariants as flow
use Rattle.fx_flows.proofs.FlowLemmas.{has_wider}
use Rattle.fx_side_by_side.specs.SideBySide.{RunShared, Share}
use Rattle.fx_side_by_side.specs.Steps.{nothing_shared}

-- ---- of one run that was asked for alone

abbrev pub share_of : (tells alone : Bool) (s t : List Seen) (es : List EndpointParts) (us : List unit.Unit) (block : ℕ) (rows : List Row) (r : Result (List Row) FlowError) → RunFlowed tells alone s t es us block rows r → Share
share_of tells alone s t es us block rows r h = record { exchanges = h.exchanges; failed = h.failed; wanted = h.wanted; left = h.left }

pub shared_alone : (tells alone : Bool) (s t : List Seen) (es : List EndpointParts) (us : List unit.Unit) (block : ℕ) (rows : List Row) (r : Result (List Row) FlowError) (h : RunFlowed tells alone s t es us block rows r)
    → RunShared s t es us block rows (share_of tells alone s t es us block rows r h) r
shared_alone tells alone s t es us block rows r h = record {
  few = h.few;
  unfailed = h.unfailed;
  sent = h.sent;
  of_batches = h.of_batches;
  whole = h.whole;
  short = h.short;
  faultless = h.faultless;
  of_run = h.of_run;
  done = h.done;
  cause = h.cause;
}

-- ---- of a run for which nothing was asked

pub unasked : (s t : List Seen) (es : List EndpointParts) (us : List unit.Unit) (block : ℕ) (rows : List Row) → RunShared s t es us block rows nothing_shared (Err flow.Memory)
unasked s t es us block rows = record {
  few = zero-le;
  unfailed = tt;
  sent = IsPermutation-refl [];
  of_batches = All-nil (IsBatchText es block (Contains us));
  whole = tt;
  short = All-nil IsShort;
  faultless = tt;
  of_run = λ graphs told sound. batch_laws.nothing es (union graphs) block 1 us rows;
  done = tt;
  cause = tt;
}

-- no units make of rows these rows
pub shared_of_none : (s t : List Seen) (es : List EndpointParts) (block : ℕ) (rows : List Row) → RunShared s t es [] block rows nothing_shared (Ok rows)
shared_of_none s t es block rows = record {
  few = zero-le;
  unfailed = refl;
  sent = IsPermutation-refl [];
  of_batches = All-nil (IsBatchText es block (Contains []));
  whole = refl;
  short = All-nil IsShort;
  faultless = All-nil (IsBatchRead (Contains []));
  of_run = λ graphs told sound. refl;
  done = λ graphs told sound. IsPermutation-refl rows;
  cause = tt;
}

-- ---- over more wires, or a longer time

module _ (s t u v : List Seen)
    (rises : (address : List ℕ) → faults_at s address < faults_at t address → faults_at u address < faults_at v address)
    (tells : (address : List ℕ) (g : List Triple) → Tell u address g → Tell s address g)
    (fits : length s ≤ length u) where
  all_told : (es : List EndpointParts) (graphs : List (List Triple)) (Of : ℕ → Type 0) → TellOf u es graphs Of → TellOf s es graphs Of
  all_told es graphs Of told = λ at e of found. tells e.iri (graph_of graphs at) (told at e of found)

  pub shared_wider : (es : List EndpointParts) (us : List unit.Unit) (block : ℕ) (rows : List Row) (share : Share) (r : Result (List Row) FlowError) → RunShared s t es us block rows share r → RunShared u v es us block rows share r
  shared_wider es us block rows share r h = record {
    few = (let few : share.failed ≤ length s = h.few in omega (arith, few, fits));
    unfailed = h.unfailed;
    sent = h.sent;
    of_batches = h.of_batches;
    whole = h.whole;
    short = h.short;
    faultless = h.faultless;
    of_run = λ graphs told sound. h.of_run graphs (all_told es graphs (IsMemberIn us) told) sound;
    done = done r h.done;
    cause = cause r h.cause;
  }
    where
      done : (o : Result (List Row) FlowError) → IfOk o (λ next. (graphs : List (List Triple)) → TellOf s es graphs (IsMemberIn us) → All (IsSound graphs) us → IsPermutation next (stepped (union graphs) us rows))
          → IfOk o (λ next. (graphs : List (List Triple)) → TellOf u es graphs (IsMemberIn us) → All (IsSound graphs) us → IsPermutation next (stepped (union graphs) us rows))
      done (Ok next) d = λ graphs told sound. d graphs (all_told es graphs (IsMemberIn us) told) sound
      done (Err why) d = tt

      cause : (o : Result (List Row) FlowError) → IfErr o (HasFlowCause s t es us block share.wanted share.exchanges) → IfErr o (HasFlowCause u v es us block share.wanted share.exchanges)
      cause (Ok next) c = tt
      cause (Err why) c = has_wider s t u v es us block share.wanted share.wanted share.exchanges share.exchanges rises tells (λ x m. m) (λ x m. m) why c
