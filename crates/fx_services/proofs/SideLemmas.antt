-- What invoking occurrences of SERVICE side by side leaves of wires, by what their jobs came to.
use Rattle.std.proofs.Common.{◌≡◌, ◌∙◌, ap, sym, subst, refl, inl, inr, ℕ, suc, ◌+◌, ◌<◌, ◌≤◌, Bool, true, false, cond, List, [], ◌∷◌, ◌++◌, length, map, Option, None, Some, All, Contains, IfErr, IfOk, IfSome, IsTrue, Err, arith, ◌≢◌, not, nat_lt, slice_get, bytes_eq, IsPermutation}
use Rattle.std.specs.List.{AllByRecursion, HoldsAt, position_or_len}
use Rattle.std.proofs.lemmas.Bool.Decides.{nat_tests}
use Rattle.std.proofs.lemmas.List.Sums.{prefix_len-le-length}
use Rattle.std.proofs.lemmas.List.Elements.{All-cons, All-nil, All-weaker, recursion_from_All}
use Rattle.std.proofs.lemmas.List.Quantifiers.{position-Some}
use Rattle.std.proofs.lemmas.List.Sorted.{All-permutation, IsPermutation-refl, IsPermutation-sym}
use Rattle.std.proofs.lemmas.Slice.Eq.{bytes_eq-Decides}
use Rattle.fx_outside.specs.Endpoints.{EndpointParts}
use Rattle.fx_terms.specs.declared.triples.Triple.{Triple}
use Rattle.fx_http.specs.Requests.{request_of}
use Rattle.fx_traffic.specs.Gains.{Tell, faults_at}
use Rattle.fx_traffic.specs.Sent.{Sent, Sends, sent_of}
use Rattle.fx_traffic.specs.Traffic.{IsServiceSent}
use Rattle.fx_traffic.proofs.GainLemmas.{gain_laws}
use Rattle.fx_wire.specs.Exchanges.{Exchange, Seen, exchanged}
use Rattle.fx_sources.specs.Registries.{number_of}
use Rattle.fx_pool.specs.Jobs.{AreDone, AreWanted, IsDone, IsWanted, failures_at, is_at, is_failure, text_of}
use Rattle.fx_pool.specs.Posting.{IsPosted, exchanges_of}
use Rattle.fx_pool.specs.declared.posting.Posted.{Posted}
use Rattle.fx_pool.specs.declared.posting.Posted.TheVariants as posted
use Rattle.fx_pool.proofs.BesideLemmas.{back_all, front_all}
use Rattle.fx_pool.specs.Runs.{AreOfJobs, IsHonestOver, WiresDid}
use Rattle.fx_pool.specs.declared.jobs.Job.{Job}
use Rattle.fx_pool.specs.declared.jobs.JobReply.{JobReply}
use Rattle.fx_pool.specs.declared.jobs.JobReply.TheVariants as reply
use Rattle.fx_pool.proofs.WireLemmas.{after_itself}
use Rattle.fx_services.specs.Beside.{AllInvoked, AreInvoked, AreRepliesFor, AreSentFor, AreServable, AreToldOf, Came, IsInvoked, IsReplyFor, IsSentFor, IsToldOf, Occurrence, failure_in, failures_in, job_if, jobs_of}
use Rattle.fx_services.specs.ServicesAsked.{AreRowsOver, HasServiceCause, IsRowsOf, IsServable, IsToldBy, job_of}
use Rattle.fx_services.specs.declared.services.ServiceError.TheVariants as error
use Rattle.fx_services.proofs.SharingLemmas.{Fits, Shared, all_made, all_shared, left_by, made_of, none_sent, text_in, unsent}
use Rattle.fx_services.proofs.ServiceLemmas.{at_number, cause_by, endpoint_at, for_service, rows_by, the_text, told_by}

-- ---- an address that is found, or isn't (as in `RegistryLemmas` of `fx_sources`, which no other crate can name)

step_by : (b : Bool) (n m : ℕ) → cond {A = ℕ} (not b) (1 + n) 0 ≡ m + 1 → (b ≡ false) × (n ≡ m)
step_by true n m e = absurd (omega arith)
step_by false n m e = (refl, omega arith)

none_passes : {X : Type 0} (p : X → Bool) (xs : List X) → position_or_len p xs ≡ length xs → All (λ x. p x ≡ false) xs
none_passes p [] e = All-nil (λ x. p x ≡ false)
none_passes p (x ∷ xs) e =
    let step = step_by (p x) (position_or_len p xs) (length xs) (e ∙ (let more : length (x ∷ xs) ≡ length xs + 1 = omega arith in more)) in
    All-cons (λ x. p x ≡ false) x xs step.0 (none_passes p xs step.1)

at_end_by : (b : Bool) (n m : ℕ) → nat_lt n m ≡ b → n ≤ m → cond {A = Option ℕ} b (Some n) None ≡ None → n ≡ m
at_end_by true n m is within e = cc
at_end_by false n m is within e = grind (arith, nat_tests)

-- no endpoint has an address that isn't found
no_address : (endpoints : List EndpointParts) (iri : List ℕ) → number_of iri endpoints ≡ None → All (λ e. e.iri ≢ iri) endpoints
no_address endpoints iri none =
    let p : EndpointParts → Bool = λ e. bytes_eq e.iri iri in
    let end : position_or_len p endpoints ≡ length endpoints =
    at_end_by (nat_lt (position_or_len p endpoints) (length endpoints)) (position_or_len p endpoints) (length endpoints) refl
    (prefix_len-le-length (λ (e : EndpointParts). not (p e)) endpoints) none in
    All-weaker (λ (e : EndpointParts). p e ≡ false) (λ (e : EndpointParts). e.iri ≢ iri)
    (λ e differs same. let equal : true ≡ false = sym ((bytes_eq-Decides e.iri iri).1 same) ∙ differs in cc) endpoints (none_passes p endpoints end)

-- the endpoint that is found has the address
address_at : (endpoints : List EndpointParts) (iri : List ℕ) (number : ℕ) → number_of iri endpoints ≡ Some number → HoldsAt (λ e. e.iri ≡ iri) endpoints number
address_at endpoints iri number is = λ d. (bytes_eq-Decides _ _).0 (position-Some (λ (e : EndpointParts). bytes_eq e.iri iri) endpoints number d is).1

-- ---- endpoints and numbers

-- the endpoint of a number has the address
pub record IsFound (es : List EndpointParts) (iri : List ℕ) (at : ℕ) : Type 0 where
  pub endpoint : EndpointParts
  pub found : slice_get es at ≡ Some endpoint
  pub here : endpoint.iri ≡ iri

pub within : (es : List EndpointParts) (iri : List ℕ) (at : ℕ) → number_of iri es ≡ Some at → at < length es
within [] iri at h = absurd (cc)
within (e ∷ es) iri at h = (position-Some (λ (x : EndpointParts). bytes_eq x.iri iri) (e ∷ es) at e h).0

pub found_for : (es : List EndpointParts) (iri : List ℕ) (at : ℕ) → number_of iri es ≡ Some at → IsFound es iri at
found_for es iri at h =
    let there = endpoint_at es at (within es iri at h) in
    record { endpoint = there.0; found = there.1; here = sym (ap (λ (e : EndpointParts). e.iri) (at_number es at there.0 there.0 there.1)) ∙ address_at es iri at h there.0 }

-- ---- one job's text

pub record OneSent (es : List EndpointParts) (j : Job) (own : List Exchange) : Type 0 where
  pub wanted : List Sent
  pub of_job : AreWanted es (j ∷ []) wanted
  pub left : List Sent
  pub sent : Sends wanted left own

pub one_sent : (es : List EndpointParts) (j : Job) (r : JobReply) (own : List Exchange) → IsDone es j r own → OneSent es j own
one_sent es j r own d = by d.posted d.sent d.exchanged
  where
    text : Sent
    text = record { at = d.endpoint; request = request_of d.endpoint (text_of j.work) }

    its : AreWanted es (j ∷ []) (text ∷ [])
    its = (record { found = d.found; posts = refl }, refl)

    by : (o : Posted) → IsPosted d.endpoint (text_of j.work) o → own ≡ exchanges_of d.endpoint o → OneSent es j own
    by (posted.Replied request bytes) s is = record {
      wanted = text ∷ [];
      of_job = its;
      left = [];
      sent =
          subst (Sends (text ∷ []) []) (sym is)
          (subst (λ (v : List ℕ). Sends (text ∷ []) [] (exchanged d.endpoint v bytes ∷ [])) (sym s.exact) (IsPermutation-refl (text ∷ [])));
    }
    by posted.Failed s is = record { wanted = text ∷ []; of_job = its; left = text ∷ []; sent = subst (Sends (text ∷ []) (text ∷ [])) (sym is) (IsPermutation-refl (text ∷ [])) }
    by (posted.TooLong size) s is = record { wanted = text ∷ []; of_job = its; left = text ∷ []; sent = subst (Sends (text ∷ []) (text ∷ [])) (sym is) (IsPermutation-refl (text ∷ [])) }

-- ---- the jobs are within

pub jobs_within : (es : List EndpointParts) (os : List Occurrence) → AllByRecursion (λ (j : Job). j.at < length es) (jobs_of es os)
jobs_within es [] = tt
jobs_within es (o ∷ os) = by (number_of o.iri es) refl (jobs_within es os)
  where
    by : (n : Option ℕ) → number_of o.iri es ≡ n → AllByRecursion (λ (j : Job). j.at < length es) (jobs_of es os) → AllByRecursion (λ (j : Job). j.at < length es) (job_if n o.group ++ jobs_of es os)
    by None e rest = rest
    by (Some at) e rest = (within es o.iri at e, rest)

pub few_jobs : (es : List EndpointParts) (os : List Occurrence) → length (jobs_of es os) ≤ length os
few_jobs es [] = omega arith
few_jobs es (o ∷ os) = by (number_of o.iri es) (few_jobs es os)
  where
    by : (n : Option ℕ) → length (jobs_of es os) ≤ length os → length (job_if n o.group ++ jobs_of es os) ≤ suc (length os)
    by None rest = omega (arith, rest)
    by (Some at) rest = omega (arith, rest)

-- ---- what was sent

module _ (tells alone : Bool) (before after : List Seen) (es : List EndpointParts) where
  -- the text of one that is known, and the exchange that sent it, if one did
  one_for : (o : Occurrence) (at : ℕ) → number_of o.iri es ≡ Some at → (s : Sent) → IsWanted es (job_of at o.group) s → (own : Option Exchange) → IfSome own (λ x. sent_of x ≡ s) → IsSentFor es o (made_of own)
  one_for o at e s w own h =
      let f = found_for es o.iri at e in
      let left = left_by s own h in
      record {
        wanted = s ∷ [];
        left = left.0;
        sent = left.1;
        text = inr (subst (λ (iri : List ℕ). IsServiceSent es iri o.group (s ∷ [])) f.here (the_text tells alone before after es at o.group f.endpoint f.found (s ∷ []) (w, refl)));
      }

  share : (os : List Occurrence) (ps : List Shared) → AllByRecursion Fits ps → AreWanted es (jobs_of es os) (map text_in ps) → AreSentFor es os (all_made ps)
  share [] [] fit w = refl
  share [] (p ∷ ps) fit w = absurd (cc)
  share (o ∷ os) ps fit w = by (number_of o.iri es) refl (λ qs f k. share os qs f k) ps fit w
    where
      by : (n : Option ℕ) → number_of o.iri es ≡ n → ((qs : List Shared) → AllByRecursion Fits qs → AreWanted es (jobs_of es os) (map text_in qs) → AreSentFor es os (all_made qs))
          → (qs : List Shared) → AllByRecursion Fits qs → AreWanted es (job_if n o.group ++ jobs_of es os) (map text_in qs) → AreSentFor es (o ∷ os) (all_made qs)
      by None e others qs f k = ([], all_made qs, refl, unsent es o, others qs f k)
      by (Some at) e others [] f k = absurd k
      by (Some at) e others (q ∷ qs) f k = (made_of q.1, all_made qs, refl, one_for o at e q.0 k.0 q.1 f.0, others qs f.1 k.1)

  -- what was sent is each one's own
  shared_out : (os : List Occurrence) (xs : List Exchange) → AreOfJobs es (jobs_of es os) xs → (in_turn : List Exchange) × IsPermutation in_turn xs × AreSentFor es os in_turn
  shared_out os xs h =
      let all = all_shared h.wanted h.left xs h.sent in
      (all_made all.list, all.same, share os all.list all.fit (subst (AreWanted es (jobs_of es os)) (sym all.texts) h.of_jobs))

  -- ---- the replies

  pub replies_for : (os : List Occurrence) (rs : List JobReply) (xs : List Exchange) → AreDone es (jobs_of es os) rs xs → AreRepliesFor es os rs
  replies_for [] [] xs h = refl
  replies_for [] (r ∷ rs) xs h = absurd h
  replies_for (o ∷ os) rs xs h = by (number_of o.iri es) refl (λ qs ys k. replies_for os qs ys k) rs h
    where
      by : (n : Option ℕ) → number_of o.iri es ≡ n → ((qs : List JobReply) (ys : List Exchange) → AreDone es (jobs_of es os) qs ys → AreRepliesFor es os qs) → (qs : List JobReply) → AreDone es (job_if n o.group ++ jobs_of es os) qs xs → AreRepliesFor es (o ∷ os) qs
      by None e others qs k = ([], qs, refl, subst (λ (m : Option ℕ). IsReplyFor m []) (sym e) refl, others qs xs k)
      by (Some at) e others [] k = absurd k
      by (Some at) e others (q ∷ qs) k = (q ∷ [], qs, refl, subst (λ (m : Option ℕ). IsReplyFor m (q ∷ [])) (sym e) (for_service es at o.group k.0 q k.3), others qs k.1 k.4)

  -- ---- one that is known

  abbrev Counts : List Job → List JobReply → Type 0
  Counts js rs = (address : List ℕ) → faults_at before address + failures_at es address js rs ≤ faults_at after address

  module _ (o : Occurrence) (ok : IsServable o.group) (at : ℕ) (e : number_of o.iri es ≡ Some at) (r : JobReply) (own : List Exchange) (honest : All (IsHonestOver before) own) (d : IsDone es (job_of at o.group) r own) where
    there : d.endpoint.iri ≡ o.iri
    there = let f = found_for es o.iri at e in (let same : d.endpoint ≡ f.endpoint = (let a = d.found in let b = f.found in cc) in ap (λ (x : EndpointParts). x.iri) same ∙ f.here)

    rose : (js : List Job) (rs : List JobReply) → Counts (job_of at o.group ∷ js) (r ∷ rs) → r ≡ reply.Failed → faults_at before d.endpoint.iri < faults_at after d.endpoint.iri
    rose js rs counts failed =
        let all : faults_at before d.endpoint.iri + (cond {A = ℕ} (is_at d.endpoint.iri (slice_get es at)) (is_failure r) 0 + failures_at es d.endpoint.iri js rs) ≤ faults_at after d.endpoint.iri = counts d.endpoint.iri in
        let one : cond {A = ℕ} (is_at d.endpoint.iri (slice_get es at)) (is_failure r) 0 ≡ 1 =
        ap (λ (x : Option EndpointParts). cond {A = ℕ} (is_at d.endpoint.iri x) (is_failure r) 0) d.found
        ∙ ap (λ (b : Bool). cond {A = ℕ} b (is_failure r) 0) ((bytes_eq-Decides d.endpoint.iri d.endpoint.iri).1 refl)
        ∙ ap is_failure failed in
        omega (arith, all, one)

    -- its one text
    known : (js : List Job) (rs : List JobReply) → Counts (job_of at o.group ∷ js) (r ∷ rs) → (c : Came) → IsRowsOf at r c → IsInvoked before after es o own c
    known js rs counts c told =
        let text = one_sent es (job_of at o.group) r own d in
        record {
          sent_so = record {
            wanted = text.wanted;
            left = text.left;
            sent = text.sent;
            text = inr (subst (λ (iri : List ℕ). IsServiceSent es iri o.group text.wanted) there (the_text tells alone before after es at o.group d.endpoint d.found text.wanted text.of_job));
          };
          told = subst (λ (iri : List ℕ). IfOk c (λ rows. (x : EndpointParts) × Contains es x × (x.iri ≡ iri) × IsToldBy x o.group own rows)) there (told_by tells alone before after es at o.group own honest r d c told);
          rows = subst (λ (iri : List ℕ). IfOk c (λ rows. (graph : List Triple) → Tell before iri graph → AreRowsOver graph o.group rows)) there (rows_by tells alone before after es at o.group own honest ok r d c told);
          cause = subst (λ (iri : List ℕ). IfErr c (HasServiceCause before after es iri o.group own)) there (cause_by tells alone before after es at o.group own honest ok r d (rose js rs counts) c told);
        }

  -- one that isn't
  unknown : (o : Occurrence) → number_of o.iri es ≡ None → (c : Came) → c ≡ Err error.Unknown → IsInvoked before after es o [] c
  unknown o e c is = subst (IsInvoked before after es o []) (sym is) (record { sent_so = unsent es o; told = tt; rows = tt; cause = (no_address es o.iri e, refl) })

  -- ---- all of them

  less : (js : List Job) (rs : List JobReply) (j : Job) (r : JobReply) → Counts (j ∷ js) (r ∷ rs) → Counts js rs
  less js rs j r counts = λ address.
      let all : faults_at before address + (cond {A = ℕ} (is_at address (slice_get es j.at)) (is_failure r) 0 + failures_at es address js rs) ≤ faults_at after address = counts address in
      omega (arith, all)

  pub invoked_all : (os : List Occurrence) → AllByRecursion (λ (o : Occurrence). IsServable o.group) os → (rs : List JobReply) (cs : List Came) (xs : List Exchange) → AreDone es (jobs_of es os) rs xs → AreToldOf es os rs cs → All (IsHonestOver before) xs → Counts (jobs_of es os) rs
      → AreInvoked before after es os cs xs
  invoked_all [] ok [] [] xs d t honest counts = d
  invoked_all [] ok (r ∷ rs) [] xs d t honest counts = absurd d
  invoked_all [] ok rs (c ∷ cs) xs d t honest counts = absurd t
  invoked_all (o ∷ os) ok rs [] xs d t honest counts = absurd t
  invoked_all (o ∷ os) ok rs (c ∷ cs) xs d t honest counts = by (number_of o.iri es) refl (λ ys e h n. invoked_all os ok.1 t.1 cs ys e t.4 h n) t.0 t.2 t.3 d counts
    where
      unasked : (own : List JobReply) → rs ≡ own ++ t.1 → own ≡ [] → rs ≡ t.1
      unasked own is none = is ∙ ap (λ (v : List JobReply). v ++ t.1) none

      by : (n : Option ℕ) → number_of o.iri es ≡ n → ((ys : List Exchange) → AreDone es (jobs_of es os) t.1 ys → All (IsHonestOver before) ys → Counts (jobs_of es os) t.1 → AreInvoked before after es os cs ys) → (own : List JobReply) → rs ≡ own ++ t.1 → IsToldOf n own c → AreDone es (job_if n o.group ++ jobs_of es os) rs xs → Counts (job_if n o.group ++ jobs_of es os) rs → AreInvoked before after es (o ∷ os) (c ∷ cs) xs
      by None e others own is told done counted =
          let same = unasked own is told.0 in (
            [],
            xs,
            refl,
            unknown o e c told.1,
            others xs (subst (λ (v : List JobReply). AreDone es (jobs_of es os) v xs) same done) honest (subst (λ (v : List JobReply). Counts (jobs_of es os) v) same counted),
          )
      by (Some at) e others [] is told done counted = absurd told
      by (Some at) e others (q ∷ p ∷ qs) is told done counted = absurd told
      by (Some at) e others (q ∷ []) is told done counted =
          let d = subst (λ (v : List JobReply). AreDone es (job_of at o.group ∷ jobs_of es os) v xs) is done in
          let more = subst (λ (v : List JobReply). Counts (job_of at o.group ∷ jobs_of es os) v) is counted in
          let both = subst (All (IsHonestOver before)) d.2 honest in (
            d.0,
            d.1,
            d.2,
            known o ok.0 at e q d.0 (front_all (IsHonestOver before) d.0 d.1 both) d.3 (jobs_of es os) t.1 more c told,
            others d.1 d.4 (back_all (IsHonestOver before) d.0 d.1 both) (less (jobs_of es os) t.1 (job_of at o.group) q more),
          )

  failure_of : (at : ℕ) (r : JobReply) (c : Came) → IsRowsOf at r c → failure_in c ≡ is_failure r
  failure_of at (reply.Table rows) c h = ap failure_in h
  failure_of at reply.Failed c h = ap failure_in h
  failure_of at (reply.Bad bad) c h = ap failure_in h
  failure_of at (reply.TooLong size) c h = ap failure_in h
  failure_of at (reply.Truth truth) c h = absurd h
  failure_of at (reply.Found founds) c h = absurd h

  none_of : (b : Bool) (n : ℕ) → n ≡ 0 → cond {A = ℕ} b n 0 ≡ 0
  none_of true n h = h
  none_of false n h = refl

  pub failures_are : (address : List ℕ) (os : List Occurrence) (rs : List JobReply) (cs : List Came) → AreToldOf es os rs cs → failures_in address os cs ≡ failures_at es address (jobs_of es os) rs
  failures_are address [] rs [] t = refl
  failures_are address [] rs (c ∷ cs) t = absurd t
  failures_are address (o ∷ os) rs [] t = absurd t
  failures_are address (o ∷ os) rs (c ∷ cs) t = ap (λ (n : ℕ). cond {A = ℕ} (bytes_eq o.iri address) (failure_in c) 0 + n) (failures_are address os t.1 cs t.4) ∙ by (number_of o.iri es) refl t.0 t.3 ∙ ap (failures_at es address (jobs_of es (o ∷ os))) (sym t.2)
    where
      by : (n : Option ℕ) → number_of o.iri es ≡ n → (own : List JobReply) → IsToldOf n own c
          → cond {A = ℕ} (bytes_eq o.iri address) (failure_in c) 0 + failures_at es address (jobs_of es os) t.1 ≡ failures_at es address (job_if n o.group ++ jobs_of es os) (own ++ t.1)
      by None e own told =
          let none = none_of (bytes_eq o.iri address) (failure_in c) (ap failure_in told.1) in
          let empty : failures_at es address (jobs_of es os) (own ++ t.1) ≡ failures_at es address (jobs_of es os) t.1 = ap (λ (v : List JobReply). failures_at es address (jobs_of es os) (v ++ t.1)) told.0 in
          omega (arith, none, empty)
      by (Some at) e [] told = absurd told
      by (Some at) e (q ∷ p ∷ qs) told = absurd told
      by (Some at) e (q ∷ []) told =
          let f = found_for es o.iri at e in
          ap (λ (n : ℕ). n + failures_at es address (jobs_of es os) t.1)
          (ap (λ (n : ℕ). cond {A = ℕ} (bytes_eq o.iri address) n 0) (failure_of at q c told)
          ∙ ap (λ (iri : List ℕ). cond {A = ℕ} (bytes_eq iri address) (is_failure q) 0) (sym f.here)
          ∙ ap (λ (x : Option EndpointParts). cond {A = ℕ} (is_at address x) (is_failure q) 0) (sym f.found))

  -- ---- the call

  pub all_lost : (os : List Occurrence) → WiresDid tells alone before after es (jobs_of es os) None → AllInvoked tells alone before after es os None
  all_lost os did =
      let its = shared_out os did.exchanges did.of_jobs in
      record { exchanges = did.exchanges; gained = did.gained; after_all = did.left; in_turn = its.0; same = its.1; come_to = its.2; counted = tt; exact = λ is. tt }

  pub all_invoked : (os : List Occurrence) → AreServable os → (rs : List JobReply) → WiresDid tells alone before after es (jobs_of es os) (Some rs) → (cs : Option (List Came)) → IfSome cs (AreToldOf es os rs) → AllInvoked tells alone before after es os cs
  all_invoked os ok rs did None told =
      let its = shared_out os did.exchanges did.of_jobs in
      record { exchanges = did.exchanges; gained = did.gained; after_all = did.left; in_turn = its.0; same = its.1; come_to = its.2; counted = tt; exact = λ is. tt }
  all_invoked os ok rs did (Some cs) told =
      let honest : All (IsHonestOver before) did.done.0 = All-permutation (IsHonestOver before) did.exchanges did.done.0 (IsPermutation-sym did.done.0 did.exchanges did.done.2) did.honest in
      record {
        exchanges = did.exchanges;
        gained = did.gained;
        after_all = did.left;
        in_turn = did.done.0;
        same = did.done.2;
        come_to = invoked_all os (recursion_from_All (λ (o : Occurrence). IsServable o.group) os ok) rs cs did.done.0 did.done.1 told honest did.counted;
        counted = λ address. omega (arith, did.counted address, failures_are address os rs cs told);
        exact = λ is address. omega (arith, did.exact is address, failures_are address os rs cs told);
      }

-- ---- nothing was asked

pub none_asked : (tells alone : Bool) (wires : List Seen) (es : List EndpointParts) (os : List Occurrence) → AllInvoked tells alone wires wires es os None
none_asked tells alone wires es os = record {
  exchanges = [];
  gained = λ told. gain_laws.nothing wires;
  after_all = after_itself wires;
  in_turn = [];
  same = IsPermutation-refl [];
  come_to = none_sent es os;
  counted = tt;
  exact = λ is. tt;
}
