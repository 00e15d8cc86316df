-- What one job leaves of a wire, by what came of its text.
use Rattle.std.proofs.Common.{◌≡◌, ◌≢◌, ◌∙◌, ap, sym, subst, refl, ℕ, ◌+◌, ◌≤◌, Bool, true, false, List, [], ◌∷◌, ◌++◌, Option, Some, None, IfSome, IfOk, Result, Ok, Err, IsTrue, bytes_eq, cond, slice_get, arith, append-nil}
use Rattle.std.proofs.lemmas.List.Elements.{All-from_recursion}
use Rattle.std.proofs.lemmas.List.Sorted.{IsPermutation-refl}
use Rattle.std.proofs.lemmas.Slice.Eq.{bytes_eq-Decides}
use Rattle.fx_terms.specs.declared.allocation.Memory.{Memory}
use Rattle.fx_terms.specs.declared.triples.Triple.{Triple}
use Rattle.fx_outside.specs.Endpoints.{EndpointParts}
use Rattle.fx_http.specs.Requests.{request_of}
use Rattle.fx_traffic.specs.Sent.{Sent, Sends}
use Rattle.fx_wire.specs.Exchanges.{Seen}
use Rattle.fx_pool.specs.Jobs.{AreDone, AreWanted, IsReplyTo, failures_at, is_at, is_failure, text_of}
use Rattle.fx_pool.specs.Posting.{AreHonest, IsHonestAt, IsPosted, exchanges_in, exchanges_of, failures_in, failures_of}
use Rattle.fx_pool.specs.Runs.{AreOfJobs, WireDid, jobs_at, one_reply}
use Rattle.fx_pool.specs.declared.jobs.Job.{Job}
use Rattle.fx_pool.specs.declared.jobs.JobReply.{JobReply}
use Rattle.fx_pool.specs.declared.jobs.JobReply.TheVariants as reply
use Rattle.fx_pool.specs.declared.jobs.Work.{Work}
use Rattle.fx_pool.specs.declared.jobs.Work.TheVariants as work
use Rattle.fx_pool.specs.declared.posting.Posted.{Posted}
use Rattle.fx_pool.specs.declared.posting.Posted.TheVariants as posted

-- a failure is counted exactly where the text was in vain
failure_is : (w : Work) (p : Posted) (r : JobReply) → IsReplyTo w p r → is_failure r ≡ failures_of p
failure_is w (posted.Replied request bytes) (reply.Truth truth) h = refl
failure_is w (posted.Replied request bytes) (reply.Table rows) h = refl
failure_is (work.Ask text) (posted.Replied request bytes) reply.Failed h = absurd h
failure_is w (posted.Replied request bytes) (reply.Found founds) h = refl
failure_is (work.Batch batch) (posted.Replied request bytes) reply.Failed h = absurd h
failure_is (work.Values batch) (posted.Replied request bytes) reply.Failed h = absurd h
failure_is (work.Service text columns) (posted.Replied request bytes) reply.Failed h = absurd h
failure_is w (posted.Replied request bytes) (reply.Bad bad) h = refl
failure_is w (posted.Replied request bytes) (reply.TooLong size) h = refl
failure_is w posted.Failed r h = ap is_failure h
failure_is w (posted.TooLong size) r h = ap is_failure h

-- what came of a job, by what came of its text
abbrev pub Follows : Work → Result Posted Memory → Result JobReply Memory → Type 0
Follows w (Ok p) (Ok r) = IsReplyTo w p r
Follows w (Ok p) (Err why) = Unit {0}
Follows w (Err why) (Ok r) = ⊥
Follows w (Err why) (Err also) = Unit {0}

pub follows_from : (w : Work) (p : Posted) (out : Result JobReply Memory) → IfOk out (IsReplyTo w p) → Follows w (Ok p) out
follows_from w p (Ok r) h = h
follows_from w p (Err why) h = tt

module _ (endpoints : List EndpointParts) (j : Job) (e : EndpointParts) (found : slice_get endpoints j.at ≡ Some e) where
  abbrev wanted : Sent
  wanted = record { at = e; request = request_of e (text_of j.work) }

  are_wanted : AreWanted endpoints (j ∷ []) (wanted ∷ [])
  are_wanted = (record { found = found; posts = refl }, refl)

  nothing_of : AreOfJobs endpoints (j ∷ []) []
  nothing_of = record { wanted = wanted ∷ []; of_jobs = are_wanted; left = wanted ∷ []; sent = IsPermutation-refl (wanted ∷ []) }

  of_posted : (p : Posted) → IsPosted e (text_of j.work) p → AreOfJobs endpoints (j ∷ []) (exchanges_of e p)
  of_posted (posted.Replied request bytes) h = record {
    wanted = wanted ∷ [];
    of_jobs = are_wanted;
    left = [];
    sent = subst (λ (v : List ℕ). Sends (wanted ∷ []) [] (record { at = e; request = v; reply = bytes } ∷ [])) (sym h.exact) (IsPermutation-refl (wanted ∷ []));
  }
  of_posted posted.Failed h = nothing_of
  of_posted (posted.TooLong size) h = nothing_of

  of_result : (r : Result Posted Memory) → IfOk r (IsPosted e (text_of j.work)) → AreOfJobs endpoints (j ∷ []) (exchanges_in e r)
  of_result (Ok p) h = of_posted p h
  of_result (Err why) h = nothing_of

  honest_in : (graph : List ℕ → Option (List Triple)) (r : Result Posted Memory) → IfOk r (λ p. AreHonest graph (exchanges_of e p)) → AreHonest graph (exchanges_in e r)
  honest_in graph (Ok p) h = h
  honest_in graph (Err why) h = All-from_recursion (IsHonestAt graph) [] tt

  done_by : (r : Result Posted Memory) (out : Result JobReply Memory) → IfOk r (IsPosted e (text_of j.work)) → Follows j.work r out → IfSome (one_reply out) (λ rs. AreDone endpoints (j ∷ []) rs (exchanges_in e r))
  done_by (Ok p) (Ok r) h f = (exchanges_of e p, [], sym (append-nil (exchanges_of e p)), record { endpoint = e; found = found; posted = p; sent = h; told = f; exchanged = refl }, refl)
  done_by (Ok p) (Err why) h f = tt
  done_by (Err why) (Ok r) h f = absurd f
  done_by (Err why) (Err also) h f = tt

  -- ---- counts

  its_address : (address : List ℕ) → is_at address (slice_get endpoints j.at) ≡ bytes_eq e.iri address
  its_address address = ap (is_at address) found

  failures_are : (r : Result Posted Memory) (out : Result JobReply Memory) → Follows j.work r out → (address : List ℕ)
      → IfSome (one_reply out) (λ rs. failures_at endpoints address (j ∷ []) rs ≡ cond (bytes_eq e.iri address) (failures_in r) 0)
  failures_are (Ok p) (Ok reply) f address =
      let same : failures_at endpoints address (j ∷ []) (reply ∷ []) ≡ cond (bytes_eq e.iri address) (failures_of p) 0 + 0 =
      ap (λ (b : Bool). cond {A = ℕ} b (is_failure reply) 0 + 0) (its_address address) ∙ ap (λ (n : ℕ). cond {A = ℕ} (bytes_eq e.iri address) n 0 + 0) (failure_is j.work p reply f) in
      omega (arith, same)
  failures_are (Ok p) (Err why) f address = tt
  failures_are (Err why) (Ok reply) f address = absurd f
  failures_are (Err why) (Err also) f address = tt

  at_most_one : (r : Result Posted Memory) → failures_in r ≤ 1
  at_most_one (Ok posted.Failed) = omega arith
  at_most_one (Ok (posted.Replied request bytes)) = omega arith
  at_most_one (Ok (posted.TooLong size)) = omega arith
  at_most_one (Err why) = omega arith

  module _ (s t : Seen) (n : ℕ) (counted : t.faults e.iri ≡ s.faults e.iri + n) where
    counted_by : (b : Bool) (address : List ℕ) → bytes_eq e.iri address ≡ b → (address ≢ e.iri → t.faults address ≡ s.faults address) → t.faults address ≡ s.faults address + cond b n 0
    counted_by true address is others = let same : e.iri ≡ address = (bytes_eq-Decides e.iri address).0 is in subst (λ (a : List ℕ). t.faults a ≡ s.faults a + n) same counted
    counted_by false address is others = let none : t.faults address ≡ s.faults address = others (λ same. let yes : bytes_eq e.iri address ≡ true = (bytes_eq-Decides e.iri address).1 (sym same) in cc) in omega (arith, none)

    rose_by : (b : Bool) (address : List ℕ) → bytes_eq e.iri address ≡ b → s.faults address ≤ t.faults address → s.faults address + cond b n 0 ≤ t.faults address
    rose_by true address is kept =
        let same : e.iri ≡ address = (bytes_eq-Decides e.iri address).0 is in
        let here : t.faults address ≡ s.faults address + n = subst (λ (a : List ℕ). t.faults a ≡ s.faults a + n) same counted in
        omega (arith, here)
    rose_by false address is kept = omega (arith, kept)

  one_at : (b : Bool) (n : ℕ) → n ≤ 1 → cond b n 0 ≤ cond b 1 0 + 0
  one_at true n h = omega (arith, h)
  one_at false n h = omega arith

  pub did_job : (alone : Bool) (s t : Seen) (r : Result Posted Memory) (out : Result JobReply Memory) → t.tells_log ≡ s.tells_log → Follows j.work r out → IfOk r (IsPosted e (text_of j.work))
      → (IsTrue s.tells_log → t.log ≡ s.log ++ exchanges_in e r) → IfOk r (λ p. AreHonest s.graph (exchanges_of e p)) → ((address : List ℕ) → t.graph address ≡ s.graph address)
      → ((address : List ℕ) → s.faults address ≤ t.faults address) → t.faults e.iri ≡ s.faults e.iri + failures_in r → (IsTrue alone → (address : List ℕ) → address ≢ e.iri → t.faults address ≡ s.faults address)
      → WireDid alone s t endpoints (j ∷ []) (one_reply out)
  did_job alone s t r out tells f h logged honest same kept counted others = record {
    exchanges = exchanges_in e r;
    logged = logged;
    honest = honest_in s.graph r honest;
    same = same;
    tells = tells;
    of_jobs = of_result r h;
    done = done_by r out h f;
    kept = kept;
    counted = rises (one_reply out) (λ address. failures_are r out f address);
    few = λ is address.
        let exact : t.faults address ≡ s.faults address + cond (bytes_eq e.iri address) (failures_in r) 0 = counted_by s t (failures_in r) counted (bytes_eq e.iri address) address refl (others is address) in
        let few : cond (bytes_eq e.iri address) (failures_in r) 0 ≤ cond (bytes_eq e.iri address) 1 0 + 0 = one_at (bytes_eq e.iri address) (failures_in r) (at_most_one r) in
        let at : jobs_at endpoints address (j ∷ []) ≡ cond (bytes_eq e.iri address) 1 0 + 0 = ap (λ (b : Bool). cond {A = ℕ} b 1 0 + 0) (its_address address) in
        omega (arith, exact, few, at);
    exact = λ is. exactly (one_reply out) is (λ address. failures_are r out f address);
  }
    where
      rises : (o : Option (List JobReply)) → ((address : List ℕ) → IfSome o (λ rs. failures_at endpoints address (j ∷ []) rs ≡ cond (bytes_eq e.iri address) (failures_in r) 0))
          → IfSome o (λ rs. (address : List ℕ) → s.faults address + failures_at endpoints address (j ∷ []) rs ≤ t.faults address)
      rises (Some rs) g = λ address.
          let more : s.faults address + cond (bytes_eq e.iri address) (failures_in r) 0 ≤ t.faults address = rose_by s t (failures_in r) counted (bytes_eq e.iri address) address refl (kept address) in
          let same : failures_at endpoints address (j ∷ []) rs ≡ cond (bytes_eq e.iri address) (failures_in r) 0 = g address in
          omega (arith, more, same)
      rises None g = tt

      exactly : (o : Option (List JobReply)) → IsTrue alone → ((address : List ℕ) → IfSome o (λ rs. failures_at endpoints address (j ∷ []) rs ≡ cond (bytes_eq e.iri address) (failures_in r) 0))
          → IfSome o (λ rs. (address : List ℕ) → t.faults address ≡ s.faults address + failures_at endpoints address (j ∷ []) rs)
      exactly (Some rs) is g = λ address.
          let exact : t.faults address ≡ s.faults address + cond (bytes_eq e.iri address) (failures_in r) 0 = counted_by s t (failures_in r) counted (bytes_eq e.iri address) address refl (others is address) in
          let same : failures_at endpoints address (j ∷ []) rs ≡ cond (bytes_eq e.iri address) (failures_in r) 0 = g address in
          omega (arith, exact, same)
      exactly None is g = tt
