-- What jobs over the first of several wires leave of all of them.
use Rattle.std.proofs.Common.{◌≡◌, ◌∙◌, sym, subst, refl, ℕ, ◌+◌, ◌<◌, ◌≤◌, Bool, List, [], ◌∷◌, map, Option, Some, None, IfSome, IsTrue, length, get_or, slice_set, arith, append-nil}
use Rattle.std.specs.List.{AllByRecursion}
use Rattle.std.proofs.lemmas.List.Elements.{All-from_recursion, recursion_from_All}
use Rattle.std.proofs.lemmas.List.Sorted.{IsPermutation-refl}
use Rattle.std.proofs.lemmas.List.Sums.{sum_by-cons}
use Rattle.fx_terms.specs.Graphs.{IsGraph}
use Rattle.fx_terms.specs.declared.triples.Triple.{Triple}
use Rattle.fx_outside.specs.Endpoints.{EndpointParts}
use Rattle.fx_traffic.specs.Gains.{AreAfter, faults_at}
use Rattle.fx_traffic.proofs.GainLemmas.{gain_laws}
use Rattle.fx_wire.specs.Exchanges.{Exchange, Seen}
use Rattle.fx_wire.specs.Honest.{IsHonest}
use Rattle.fx_pool.specs.Jobs.{AreDone, failures_at}
use Rattle.fx_pool.specs.Posting.{IsHonestAt}
use Rattle.fx_pool.specs.Runs.{AreDoneInSome, IsHonestOver, WireDid, WiresDid, jobs_at}
use Rattle.fx_pool.specs.declared.jobs.Job.{Job}
use Rattle.fx_pool.specs.declared.jobs.JobReply.{JobReply}

pub after_itself : (wires : List Seen) → AreAfter wires wires
after_itself [] = tt
after_itself (w ∷ wires) = (record { logged = λ told. ([], sym (append-nil w.log)); same = λ address. refl; kept = λ address. omega arith }, after_itself wires)

honest_at : (w : Seen) (x : Exchange) (graph : List Triple) (o : Option (List Triple)) → w.graph x.at.iri ≡ o → o ≡ Some graph
    → IsHonestAt w.graph x → IsGraph graph × (length x.reply ≤ 67108864 → IsHonest graph x.request x.reply)
honest_at w x graph o e told h =
    subst (λ (v : Option (List Triple)). IfSome v (λ g. IsGraph g × (length x.reply ≤ 67108864 → IsHonest g x.request x.reply))) (e ∙ told) h

pub honest_over : (w : Seen) (others : List Seen) (xs : List Exchange) → AllByRecursion (IsHonestAt w.graph) xs → AllByRecursion (IsHonestOver (w ∷ others)) xs
honest_over w others [] h = tt
honest_over w others (x ∷ xs) h =
    (λ graph told. honest_at w x graph (w.graph x.at.iri) refl (recursion_from_All (λ (s : Seen). s.graph x.at.iri ≡ Some graph) (w ∷ others) told).0 h.0, honest_over w others xs h.1)

pub wires_did : (tells alone : Bool) (w t : Seen) (others : List Seen) (es : List EndpointParts) (js : List Job) (o : Option (List JobReply)) → w.tells_log ≡ tells → WireDid alone w t es js o
    → WiresDid tells alone (w ∷ others) (t ∷ others) es js o
wires_did tells alone w t others es js o same h = record {
  exchanges = h.exchanges;
  gained = λ told. (h.exchanges, [], sym (append-nil h.exchanges), h.logged (subst IsTrue (sym same) told), gain_laws.nothing others);
  honest = All-from_recursion (IsHonestOver (w ∷ others)) h.exchanges (honest_over w others h.exchanges (recursion_from_All (IsHonestAt w.graph) h.exchanges h.honest));
  left = (record { logged = λ told. (h.exchanges, h.logged told); same = h.same; kept = h.kept }, after_itself others);
  of_jobs = h.of_jobs;
  done = done o h.done;
  counted = counted o h.counted;
  few = λ is address. let few : t.faults address ≤ w.faults address + jobs_at es address js = h.few is address in omega (arith, few, all w address, all t address);
  exact = λ is. exact o (h.exact is);
}
  where
    done : (o : Option (List JobReply)) → IfSome o (λ rs. AreDone es js rs h.exchanges) → IfSome o (λ rs. AreDoneInSome es js rs h.exchanges)
    done (Some rs) k = (h.exchanges, k, IsPermutation-refl h.exchanges)
    done None k = tt

    all : (first : Seen) (address : List ℕ) → faults_at (first ∷ others) address ≡ first.faults address + faults_at others address
    all first address = sum_by-cons (λ (s : Seen). s.faults address) first others

    counted : (o : Option (List JobReply)) → IfSome o (λ rs. (address : List ℕ) → w.faults address + failures_at es address js rs ≤ t.faults address)
        → IfSome o (λ rs. (address : List ℕ) → faults_at (w ∷ others) address + failures_at es address js rs ≤ faults_at (t ∷ others) address)
    counted (Some rs) k = λ address. let more : w.faults address + failures_at es address js rs ≤ t.faults address = k address in omega (arith, more, all w address, all t address)
    counted None k = tt

    exact : (o : Option (List JobReply)) → IfSome o (λ rs. (address : List ℕ) → t.faults address ≡ w.faults address + failures_at es address js rs)
        → IfSome o (λ rs. (address : List ℕ) → faults_at (t ∷ others) address ≡ faults_at (w ∷ others) address + failures_at es address js rs)
    exact (Some rs) k = λ address. let more : t.faults address ≡ w.faults address + failures_at es address js rs = k address in omega (arith, more, all w address, all t address)
    exact None k = tt

-- the first of the wires did the jobs
pub first_did : {W : Type 0} (see : W → Seen) (tells alone : Bool) (wires : List W) (x new : W) (es : List EndpointParts) (js : List Job) (o : Option (List JobReply)) → ((w : W) → (see w).tells_log ≡ tells)
    → 0 < length wires → WireDid alone (see (get_or wires 0 x)) (see new) es js o → WiresDid tells alone (map see wires) (map see (slice_set wires 0 new)) es js o
first_did see tells alone [] x new es js o same some h = absurd (omega (arith, some))
first_did see tells alone (w ∷ others) x new es js o same some h = wires_did tells alone (see w) (see new) (map see others) es js o (same w) h
