-- What asking the members of a unit for a batch gives.
use Rattle.std.proofs.Common.{◌≡◌, sym, subst, arith, Bool, List, [], IfOk, IfErr, Result, Ok, Err, IsPermutation}
use Rattle.std.specs.declared.alloc.Global.{Global}
use Rattle.std.specs.declared.vec.Vec.{Vec}
use Rattle.fx_terms.specs.declared.triples.Triple.{Triple}
use Rattle.fx_outside.specs.Endpoints.{EndpointParts}
use Rattle.fx_algebra.specs.Graphs.{union}
use Rattle.fx_algebra.specs.Units.{step}
use Rattle.fx_algebra.specs.declared.units.Row.{Row}
use Rattle.fx_spelling.specs.Units.{IsSound}
use Rattle.fx_bound.specs.Parts.{Parts}
use Rattle.fx_founds.specs.declared.founds.Found.{Found}
use Rattle.fx_wire.specs.Exchanges.{Seen}
use Rattle.fx_flows.specs.Flows.{AreToldOf, AskedBatch, AskedMembers, HasMemberCause, IsShort, rows_in}
use Rattle.fx_flows.specs.declared.flows.FlowError.{FlowError}
use Rattle.fx_flows.specs.declared.flows.FlowError.TheVariants as flow
use Rattle.fx_flows.proofs.MembersLemmas.{passed_none}
use Rattle.fx_traffic.specs.Batches.{unit_sent}
use Rattle.std.proofs.lemmas.List.Elements.{All-nil}
use Rattle.std.proofs.lemmas.List.Sorted.{IsPermutation-refl}

module _ (alone : Bool) (s t : Seen) (es : List EndpointParts) (p : Parts) where
  pub refused : (why : FlowError) → AskedMembers alone s t es p p.unit.members (Err why) → AskedBatch alone s t es p (Err why)
  refused why h = record { exchanges = h.exchanges; failed = h.failed; once = h.once; unfailed = tt; passed = h.passed; left = h.left; sent = h.sent; whole = tt; short = h.short; faultless = tt; done = tt; cause = h.cause }

  pub given : (lists : List (List Found)) (result : Result (Vec Row Global) FlowError) → AskedMembers alone s t es p p.unit.members (Ok lists)
      → ((graphs : List (List Triple)) → IsSound graphs p.unit → AreToldOf graphs p p.unit.members lists → IfOk result (λ rows. IsPermutation rows.items (step (union graphs) p.unit p.rows)))
      → IfErr result (λ e. e ≡ flow.Memory) → AskedBatch alone s t es p (rows_in result)
  given lists (Ok rows) h f m = record {
    exchanges = h.exchanges;
    failed = h.failed;
    once = h.once;
    unfailed = h.unfailed;
    passed = h.passed;
    left = h.left;
    sent = h.sent;
    whole = h.whole;
    short = h.short;
    faultless = h.faultless;
    done = λ graphs told sound. f graphs sound (h.read graphs told);
    cause = tt;
  }
  given lists (Err why) h f m = record {
    exchanges = h.exchanges;
    failed = h.failed;
    once = h.once;
    unfailed = tt;
    passed = h.passed;
    left = h.left;
    sent = h.sent;
    whole = tt;
    short = h.short;
    faultless = tt;
    done = tt;
    cause = subst (HasMemberCause s t es p p.unit.members h.exchanges) (sym m) tt;
  }

  pub unasked : s ≡ t → AskedBatch alone s t es p (Err flow.Memory)
  unasked same = subst (λ (v : Seen). AskedBatch alone s v es p (Err flow.Memory)) same (record {
    exchanges = [];
    failed = 0;
    once = omega arith;
    unfailed = tt;
    passed = passed_none alone s;
    left = unit_sent es p.unit p.rows;
    sent = IsPermutation-refl (unit_sent es p.unit p.rows);
    whole = tt;
    short = All-nil IsShort;
    faultless = tt;
    done = tt;
    cause = tt;
  })
