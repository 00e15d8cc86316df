-- Jobs that were done by two calls, one after the other.
use Rattle.std.proofs.Common.{◌≡◌, ◌∙◌, ap, refl, ℕ, ◌+◌, ◌≤◌, Bool, List, [], ◌++◌, IfSome, Option, Some, None, IsPermutation, arith}
use Rattle.std.proofs.lemmas.List.Elements.{All-append, All-from_recursion, All-weaker}
use Rattle.std.proofs.lemmas.List.Sorted.{All-permutation, IsPermutation-append, IsPermutation-refl, IsPermutation-trans}
use Rattle.fx_outside.specs.Endpoints.{EndpointParts}
use Rattle.fx_traffic.specs.Gains.{faults_at}
use Rattle.fx_traffic.proofs.GainLemmas.{gain_laws}
use Rattle.fx_traffic.proofs.SentLemmas.{sent_laws}
use Rattle.fx_wire.specs.Exchanges.{Exchange, Seen}
use Rattle.fx_pool.specs.Jobs.{failures_at}
use Rattle.fx_pool.specs.Runs.{AreDoneInSome, AreOfJobs, IsHonestOver, WiresDid}
use Rattle.fx_pool.specs.declared.jobs.Job.{Job}
use Rattle.fx_pool.specs.declared.jobs.JobReply.{JobReply}
use Rattle.fx_pool.proofs.RunLemmas.{behind, done_both, failures_both, jobs_both, of_both}
use Rattle.fx_pool.proofs.WireLemmas.{after_itself}
use Rattle.fx_pool.proofs.WiresLemmas.{AllTell, all_after, gained_both, still_tell}

module _ (tells alone : Bool) (es : List EndpointParts) where
  -- no job was to be done
  pub did_nothing : (s : List Seen) → WiresDid tells alone s s es [] (Some [])
  did_nothing s = record {
    exchanges = [];
    gained = λ told. gain_laws.nothing s;
    honest = All-from_recursion (IsHonestOver s) [] tt;
    left = after_itself s;
    of_jobs = record { wanted = []; of_jobs = refl; left = []; sent = IsPermutation-refl [] };
    done = ([], refl, IsPermutation-refl []);
    counted = λ address. omega arith;
    few = λ is address. omega arith;
    exact = λ is address. omega arith;
  }

  -- the replies are lost
  pub did_in_vain : (s t : List Seen) (js : List Job) (rs : List JobReply) → WiresDid tells alone s t es js (Some rs) → WiresDid tells alone s t es js None
  did_in_vain s t js rs h = record {
    exchanges = h.exchanges;
    gained = h.gained;
    honest = h.honest;
    left = h.left;
    of_jobs = h.of_jobs;
    done = tt;
    counted = tt;
    few = h.few;
    exact = λ is. tt;
  }

  module _ (s t u : List Seen) (a : AllTell tells s) (b : AllTell tells t) (js ks : List Job) (rs : List JobReply) (h : WiresDid tells alone s t es js (Some rs)) where
    pub did_in_turn : (o : Option (List JobReply)) → WiresDid tells alone t u es ks o → WiresDid tells alone s u es (js ++ ks) (behind rs o)
    did_in_turn o k =
        let both = gained_both tells s t u h.exchanges k.exchanges h.gained k.gained in
        record {
          exchanges = both.all;
          gained = both.gained;
          honest =
              All-permutation (IsHonestOver s) (h.exchanges ++ k.exchanges) both.all both.same
              (All-append (IsHonestOver s) h.exchanges k.exchanges h.honest
              (All-weaker (IsHonestOver t) (IsHonestOver s) (λ x honest graph tell. honest graph (still_tell s t x.at.iri graph h.left tell)) k.exchanges k.honest));
          left = all_after tells s t u a b h.left k.left;
          of_jobs = moved (of_both es js ks h.exchanges k.exchanges h.of_jobs k.of_jobs) both.all both.same;
          done = done both.all both.same o k.done;
          counted = counted o k.counted;
          few = λ is address. omega (arith, h.few is address, k.few is address, jobs_both es address js ks);
          exact = λ is. exact o (h.exact is) (k.exact is);
        }
      where
        moved : AreOfJobs es (js ++ ks) (h.exchanges ++ k.exchanges) → (all : List Exchange) → IsPermutation (h.exchanges ++ k.exchanges) all → AreOfJobs es (js ++ ks) all
        moved of all same = record { wanted = of.wanted; of_jobs = of.of_jobs; left = of.left; sent = sent_laws.any_order of.wanted of.left (h.exchanges ++ k.exchanges) all same of.sent }

        done : (all : List Exchange) → IsPermutation (h.exchanges ++ k.exchanges) all → (p : Option (List JobReply)) → IfSome p (λ qs. AreDoneInSome es ks qs k.exchanges) → IfSome (behind rs p) (λ both. AreDoneInSome es (js ++ ks) both all)
        done all same None d = tt
        done all same (Some qs) d = (
          h.done.0 ++ d.0,
          done_both es js ks rs qs h.done.0 d.0 h.done.1 d.1,
          IsPermutation-trans (h.done.0 ++ d.0) (h.exchanges ++ k.exchanges) all (IsPermutation-append h.done.0 h.exchanges d.0 k.exchanges h.done.2 d.2) same,
        )

        failures : (qs : List JobReply) (address : List ℕ) → failures_at es address (js ++ ks) (rs ++ qs) ≡ failures_at es address js rs + failures_at es address ks qs
        failures qs address = failures_both es address js ks rs qs h.done.0 h.done.1

        counted : (p : Option (List JobReply)) → IfSome p (λ qs. (address : List ℕ) → faults_at t address + failures_at es address ks qs ≤ faults_at u address)
            → IfSome (behind rs p) (λ both. (address : List ℕ) → faults_at s address + failures_at es address (js ++ ks) both ≤ faults_at u address)
        counted None g = tt
        counted (Some qs) g = λ address.
            let one : faults_at s address + failures_at es address js rs ≤ faults_at t address = h.counted address in
            let two : faults_at t address + failures_at es address ks qs ≤ faults_at u address = g address in
            omega (arith, one, two, failures qs address)

        exact : (p : Option (List JobReply)) → ((address : List ℕ) → faults_at t address ≡ faults_at s address + failures_at es address js rs)
            → IfSome p (λ qs. (address : List ℕ) → faults_at u address ≡ faults_at t address + failures_at es address ks qs)
            → IfSome (behind rs p) (λ both. (address : List ℕ) → faults_at u address ≡ faults_at s address + failures_at es address (js ++ ks) both)
        exact None f g = tt
        exact (Some qs) f g = λ address.
            let one : faults_at t address ≡ faults_at s address + failures_at es address js rs = f address in
            let two : faults_at u address ≡ faults_at t address + failures_at es address ks qs = g address in
            omega (arith, one, two, failures qs address)
