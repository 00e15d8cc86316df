-- What is known of an occurrence of SERVICE by what its one job came to.
use Rattle.std.proofs.Common.{◌≡◌, ◌∙◌, ap, sym, subst, refl, inl, inr, ◌⊎◌, ℕ, zero, suc, ◌+◌, ◌<◌, ◌≤◌, Bool, true, false, cond, List, [], ◌∷◌, ◌++◌, length, None, Some, All, Contains, IfErr, IfOk, IsTrue, Result, Err, append-nil, arith, slice_get, bytes_eq, ltb, slice_index_or}
use Rattle.std.proofs.lemmas.List.Elements.{All-contains}
use Rattle.fx_terms.specs.declared.triples.Triple.{Triple}
use Rattle.fx_terms.proofs.SetLemmas.{contains_from}
use Rattle.fx_http.specs.declared.replies.ReplyError.TheVariants.{TooLong}
use Rattle.fx_outside.specs.Endpoints.{EndpointParts}
use Rattle.fx_algebra.specs.Scopes.{scope}
use Rattle.fx_algebra.specs.Solutions.{Bindings}
use Rattle.fx_algebra.specs.declared.queries.Group.{Group}
use Rattle.fx_founds.specs.declared.founds.Found.{Found}
use Rattle.fx_traffic.specs.Gains.{Tell, faults_at}
use Rattle.fx_traffic.specs.Sent.{Sent}
use Rattle.fx_traffic.specs.Traffic.{IsServiceSent}
use Rattle.fx_wire.specs.Exchanges.{Exchange, Seen, exchanged}
use Rattle.fx_wire.specs.Honest.{IsHonest}
use Rattle.fx_pool.specs.Jobs.{AreDone, AreWanted, IsBadReply, IsDone, is_at, is_failure}
use Rattle.fx_pool.specs.Posting.{IsSent, exchanges_of}
use Rattle.fx_pool.specs.Reading.{a_service, HasFault, HasTable}
use Rattle.fx_pool.specs.declared.faults.ReplyFault.TheVariants.{Http}
use Rattle.fx_pool.specs.Runs.{IsHonestOver}
use Rattle.fx_pool.specs.declared.jobs.BadReply.{BadReply}
use Rattle.fx_pool.specs.declared.jobs.JobReply.{JobReply}
use Rattle.fx_pool.specs.declared.jobs.JobReply.TheVariants as reply
use Rattle.fx_pool.specs.declared.jobs.Work.{Work}
use Rattle.fx_services.specs.ServicesAsked.{AreRowsOver, IsBadService, HasServiceCause, IsForService, IsRowsOf, IsServable, IsToldBy, job_of, service_text}
use Rattle.fx_services.specs.declared.services.ServiceError.{ServiceError}
use Rattle.fx_services.specs.declared.services.ServiceError.TheVariants as error
use Rattle.fx_services.proofs.ServiceRowLemmas.{honest_faultless, honest_table, long_service}
use Rattle.fx_services.proofs.WentLemmas.{found_here, long_or_short}

-- ---- the job

-- the one exchange posts the text to the endpoint, and P holds of its request and of its reply
record IsReplied (e : EndpointParts) (text : List ℕ) (own : List Exchange) (P : List ℕ → List ℕ → Type 0) : Type 0 where
  request : List ℕ
  bytes : List ℕ
  posts : IsSent e text request
  exchanged_so : own ≡ exchanged e request bytes ∷ []
  told : P request bytes

abbrev IsOne : EndpointParts → List ℕ → (List ℕ → List ℕ → Type 0) → List Exchange → Type 0
IsOne e text P [] = ⊥
IsOne e text P (x ∷ []) = (x.at ≡ e) × IsSent e text x.request × P x.request x.reply
IsOne e text P (x ∷ y ∷ xs) = ⊥

replied_by : (e : EndpointParts) (text : List ℕ) (P : List ℕ → List ℕ → Type 0) (own : List Exchange) → IsOne e text P own → IsReplied e text own P
replied_by e text P [] h = absurd h
replied_by e text P (x ∷ []) h = record { request = x.request; bytes = x.reply; posts = h.1; exchanged_so = λ i. record { at = h.0 i; request = x.request; reply = x.reply } ∷ []; told = h.2 }
replied_by e text P (x ∷ y ∷ xs) h = absurd h

module _ (es : List EndpointParts) (at : ℕ) (g : Group) (own : List Exchange) where
  abbrev asking : Work
  asking = (job_of at g).work

  abbrev Came : JobReply → Type 0
  Came r = IsDone es (job_of at g) r own

  abbrev TableTold : List Bindings → List ℕ → List ℕ → Type 0
  TableTold rows request bytes = HasTable bytes (scope g) rows

  abbrev BadTold : BadReply → List ℕ → List ℕ → Type 0
  BadTold bad request bytes = IsBadReply asking request bytes bad

  one_table : (rows : List Bindings) → (d : Came (reply.Table rows)) → IsOne d.endpoint (service_text g) (TableTold rows) (exchanges_of d.endpoint d.posted)
  one_table rows d = grind (arith, d.sent, d.told)

  table_replied : (rows : List Bindings) → (d : Came (reply.Table rows)) → IsReplied d.endpoint (service_text g) own (TableTold rows)
  table_replied rows d = replied_by d.endpoint (service_text g) (TableTold rows) own (subst (IsOne d.endpoint (service_text g) (TableTold rows)) (sym d.exchanged) (one_table rows d))

  one_bad : (bad : BadReply) → (d : Came (reply.Bad bad)) → IsOne d.endpoint (service_text g) (BadTold bad) (exchanges_of d.endpoint d.posted)
  one_bad bad d = grind (arith, d.sent, d.told)

  bad_replied : (bad : BadReply) → (d : Came (reply.Bad bad)) → IsReplied d.endpoint (service_text g) own (BadTold bad)
  bad_replied bad d = replied_by d.endpoint (service_text g) (BadTold bad) own (subst (IsOne d.endpoint (service_text g) (BadTold bad)) (sym d.exchanged) (one_bad bad d))

  failed_so : Came reply.Failed → (own ≡ []) × (length (service_text g) ≤ 67108864)
  failed_so d = grind (arith, d.sent, d.told, d.exchanged)

  too_long : (size : ℕ) → Came (reply.TooLong size) → (own ≡ []) × (size ≡ length (service_text g)) × (67108864 < size)
  too_long size d = grind (arith, d.sent, d.told, d.exchanged)

  no_truth : (truth : Bool) → Came (reply.Truth truth) → ⊥
  no_truth truth d = grind (arith, d.told)

  none_found : (founds : List Found) → Came (reply.Found founds) → ⊥
  none_found founds d = grind (arith, d.told)

  pub for_service : (r : JobReply) → Came r → IsForService r
  for_service (reply.Truth truth) d = no_truth truth d
  for_service (reply.Found founds) d = none_found founds d
  for_service (reply.Table rows) d = tt
  for_service reply.Failed d = tt
  for_service (reply.Bad bad) d = tt
  for_service (reply.TooLong size) d = tt

-- an endpoint stands under each number that is small enough
pub endpoint_at : (es : List EndpointParts) (at : ℕ) → at < length es → (e : EndpointParts) × (slice_get es at ≡ Some e)
endpoint_at [] at h = absurd (omega (arith, h))
endpoint_at (e ∷ es) zero h = (e, refl)
endpoint_at (e ∷ es) (suc at) h = endpoint_at es at (omega (arith, h))

-- ---- what came of it

module _ (tells alone : Bool) (before after : List Seen) (es : List EndpointParts) (at : ℕ) (g : Group) where
  -- what was wanted is the one text
  pub the_text : (e : EndpointParts) → slice_get es at ≡ Some e → (wanted : List Sent) → AreWanted es (job_of at g ∷ []) wanted → IsServiceSent es e.iri g wanted
  the_text e found [] h = absurd h
  the_text e found (s ∷ t ∷ rest) h = absurd (cc)
  the_text e found (s ∷ []) h =
      let same : s.at ≡ e = cc in
      record {
        member = s.at;
        known = found_here es at s.at h.0.found;
        at = ap (λ (x : EndpointParts). x.iri) same;
        text = by h.0.posts;
      }
    where
      by : {r : List ℕ} → s.request ≡ r → s ∷ [] ≡ record { at = s.at; request = r } ∷ []
      by same = λ i. record { at = s.at; request = same i } ∷ []

  module _ (xs : List Exchange) (honest : All (IsHonestOver before) xs) where
    abbrev Came_of : JobReply → Type 0
    Came_of r = IsDone es (job_of at g) r xs

    -- the reply of the one exchange is honest where the graph is told, if it isn't too long
    honest_reply : (e : EndpointParts) (request bytes : List ℕ) → xs ≡ exchanged e request bytes ∷ [] → (graph : List Triple) → Tell before e.iri graph → length bytes ≤ 67108864 → IsHonest graph request bytes
    honest_reply e request bytes is graph tell short =
        let x = exchanged e request bytes in
        (All-contains (IsHonestOver before) xs x honest (subst (λ (v : List Exchange). Contains v x) (sym is) (contains_from (x ∷ []) x (inl refl))) graph tell).1 short

    abbrev IsTold : List ℕ → Result (List Bindings) ServiceError → Type 0
    IsTold iri result = IfOk result (λ rows. (e : EndpointParts) × Contains es e × (e.iri ≡ iri) × IsToldBy e g xs rows)

    pub told_by : (r : JobReply) (d : Came_of r) (result : Result (List Bindings) ServiceError) → IsRowsOf at r result → IsTold d.endpoint.iri result
    told_by (reply.Table rows) d result h =
        let k = table_replied es at g xs rows d in
        subst (IsTold d.endpoint.iri) (sym h) (d.endpoint, found_here es at d.endpoint d.found, refl, record { request = k.request; bytes = k.bytes; posts = k.posts.exact; short = k.posts.short; alone = k.exchanged_so; told = k.told })
    told_by reply.Failed d result h = subst (IsTold d.endpoint.iri) (sym h) tt
    told_by (reply.Bad bad) d result h = subst (IsTold d.endpoint.iri) (sym h) tt
    told_by (reply.TooLong size) d result h = subst (IsTold d.endpoint.iri) (sym h) tt
    told_by (reply.Truth truth) d result h = absurd h
    told_by (reply.Found founds) d result h = absurd h

    abbrev HasRows : List ℕ → Result (List Bindings) ServiceError → Type 0
    HasRows iri result = IfOk result (λ rows. (graph : List Triple) → Tell before iri graph → AreRowsOver graph g rows)

    module _ (ok : IsServable g) where
      pub rows_by : (r : JobReply) (d : Came_of r) (result : Result (List Bindings) ServiceError) → IsRowsOf at r result → HasRows d.endpoint.iri result
      rows_by (reply.Table rows) d result h =
          let k = table_replied es at g xs rows d in
          subst (HasRows d.endpoint.iri) (sym h)
          (λ graph tell. honest_table g ok graph k.request k.bytes rows (honest_reply d.endpoint k.request k.bytes k.exchanged_so graph tell k.told.results.replied.0) k.posts.whole k.posts.short k.told)
      rows_by reply.Failed d result h = subst (HasRows d.endpoint.iri) (sym h) tt
      rows_by (reply.Bad bad) d result h = subst (HasRows d.endpoint.iri) (sym h) tt
      rows_by (reply.TooLong size) d result h = subst (HasRows d.endpoint.iri) (sym h) tt
      rows_by (reply.Truth truth) d result h = absurd h
      rows_by (reply.Found founds) d result h = absurd h

      bad_by : (bad : BadReply) (d : Came_of (reply.Bad bad)) → IsBadService (Tell before d.endpoint.iri) d.endpoint g xs bad
      bad_by bad d =
          let k = bad_replied es at g xs bad d in
          record {
            of_kind = k.told.of_kind;
            posts = k.told.requested ∙ k.posts.exact;
            short = k.posts.short;
            alone =
                k.exchanged_so
                ∙ ap (λ (v : List ℕ). exchanged d.endpoint v k.bytes ∷ []) (sym k.told.requested)
                ∙ ap (λ (v : List ℕ). exchanged d.endpoint bad.request v ∷ []) (sym k.told.replied);
            fault = subst (λ (v : List ℕ). HasFault (a_service (scope g)) v bad.why) (sym k.told.replied) k.told.fault;
            long = λ graph tell. only_long k graph tell (long_or_short (length k.bytes) (ltb 67108864 (length k.bytes)) refl);
          }
        where
          only_long : (k : IsReplied d.endpoint (service_text g) xs (λ request bytes. IsBadReply (job_of at g).work request bytes bad)) (graph : List Triple) → Tell before d.endpoint.iri graph
              → (67108864 < length k.bytes) ⊎ (length k.bytes ≤ 67108864) → (bad.why ≡ Http TooLong) × (67108864 < length bad.reply)
          only_long k graph tell (inl long) = (long_service (scope g) k.bytes bad.why long k.told.fault, subst (λ (v : List ℕ). 67108864 < length v) (sym k.told.replied) long)
          only_long k graph tell (inr short) =
              absurd (honest_faultless g ok graph k.request k.bytes bad.why (honest_reply d.endpoint k.request k.bytes k.exchanged_so graph tell short) k.posts.whole k.posts.short short k.told.fault)

      abbrev Caused : List ℕ → Result (List Bindings) ServiceError → Type 0
      Caused iri result = IfErr result (HasServiceCause before after es iri g xs)

      pub cause_by : (r : JobReply) (d : Came_of r) → (r ≡ reply.Failed → faults_at before d.endpoint.iri < faults_at after d.endpoint.iri) → (result : Result (List Bindings) ServiceError) → IsRowsOf at r result → Caused d.endpoint.iri result
      cause_by (reply.Table rows) d rose result h = subst (Caused d.endpoint.iri) (sym h) tt
      cause_by reply.Failed d rose result h = subst (Caused d.endpoint.iri) (sym h) (let k = failed_so es at g xs d in (d.endpoint, d.found, refl, (k.0, k.1, rose refl)))
      cause_by (reply.Bad bad) d rose result h = subst (Caused d.endpoint.iri) (sym h) (d.endpoint, d.found, refl, bad_by bad d)
      cause_by (reply.TooLong size) d rose result h = subst (Caused d.endpoint.iri) (sym h) (d.endpoint, d.found, refl, too_long es at g xs size d)
      cause_by (reply.Truth truth) d rose result h = absurd h
      cause_by (reply.Found founds) d rose result h = absurd h

-- ---- the endpoint of a number

pub at_number : (es : List EndpointParts) (at : ℕ) (e d : EndpointParts) → slice_get es at ≡ Some e → slice_index_or es at d ≡ e
at_number [] at e d h = cc
at_number (x ∷ es) zero e d h = cc
at_number (x ∷ es) (suc at) e d h = at_number es at e d h
