-- What asking for probes leaves of wires: all of them at once, or in pieces.
use Rattle.std.proofs.Common.{◌≡◌, ◌∙◌, ap, sym, subst, ℕ, ◌+◌, ◌<◌, ◌≤◌, Bool, List, [], ◌++◌, map, Some, None, IsTrue, All, Contains, Option, length, slice_get, take, drop, take-append-drop, arith, append-nil}
use Rattle.std.specs.List.{AllByRecursion, zip}
use Rattle.std.proofs.lemmas.List.{map-append}
use Rattle.std.proofs.lemmas.List.Elements.{All-contains, All-drop, All-map, recursion_from_All}
use Rattle.std.proofs.lemmas.List.Sorted.{All-permutation, Contains-permutation, IsPermutation-refl}
use Rattle.fx_terms.proofs.SetLemmas.{Among, among_from, contains_from}
use Rattle.fx_outside.specs.Endpoints.{EndpointParts}
use Rattle.fx_spelling.specs.Printable.{IsTriple}
use Rattle.fx_keys.specs.declared.probes.Probe.{Probe}
use Rattle.fx_traffic.specs.Gains.{faults_at}
use Rattle.fx_wire.specs.Exchanges.{Exchange, Seen}
use Rattle.fx_pool.specs.Jobs.{AreDone, failures_at}
use Rattle.fx_pool.specs.Runs.{AreOfJobs, WiresDid, jobs_at}
use Rattle.fx_flows.specs.declared.flows.FlowError.{FlowError}
use Rattle.fx_flows.specs.declared.flows.FlowError.TheVariants as flow
use Rattle.fx_pool.specs.declared.jobs.JobReply.{JobReply}
use Rattle.fx_pool.specs.declared.jobs.JobReply.TheVariants as reply
use Rattle.fx_services.proofs.InTurnLemmas.{did_in_turn, did_in_vain}
use Rattle.fx_pool.proofs.RunLemmas.{all_wanted, behind, jobs_both, of_both}
use Rattle.fx_pool.specs.declared.jobs.Job.{Job}
use Rattle.fx_outcomes.specs.AskSteps.{IsRefusal, IsRefused, job_of}
use Rattle.fx_outcomes.specs.Asks.{HasFailedAsk, HasProbeCause, IsAskRead}
use Rattle.fx_pool.proofs.WiresLemmas.{AllTell}
use Rattle.fx_outcomes.proofs.ProbeLemmas.{AllAmong, SplitAsks, all_read, among_probes, cause, done_at, failed_counts, no_failures, split_asks}

module _ (tells alone : Bool) (es : List EndpointParts) where
  -- ---- at once

  module _ (s t : List Seen) (ps : List Probe) where
    -- what the replies tell of a refusal
    module _ (triples : All (λ p. IsTriple p.key.pattern) ps) (rs : List JobReply) (h : WiresDid tells alone s t es (map job_of ps) (Some rs)) where
      -- the exchanges in the order of the probes
      abbrev pub ordered : List Exchange
      ordered = h.done.0

      abbrev pub parts : SplitAsks es ps rs ordered
      parts = split_asks es ps rs ordered h.done.1

      pub among_all : AllAmong ordered h.exchanges
      among_all x m = Contains-permutation ordered h.exchanges x h.done.2 m

      refused : (e : FlowError) → IsRefused ps rs e → HasProbeCause s t es ps h.exchanges e
      refused e it =
          let m = among_from (zip ps rs) (it.probe, it.reply) it.among in
          let d = done_at es ps rs ordered it.probe it.reply h.done.1 m in
          let among : Contains ps it.probe = contains_from ps it.probe (among_probes es ps rs it.probe it.reply m) in
          cause es it.probe d.own h.exchanges (λ x own. among_all x (d.more x own)) s t ps h.honest (All-contains (λ (p : Probe). IsTriple p.key.pattern) ps it.probe triples among) among it.reply e d.done
          (λ failed.
          let one : 1 ≤ failures_at es d.done.endpoint.iri (map job_of ps) rs = failed_counts es d.done.endpoint it.probe d.done.found ps rs (subst (λ (r : JobReply). Among (it.probe, r) (zip ps rs)) failed m) in
          let more : faults_at s d.done.endpoint.iri + failures_at es d.done.endpoint.iri (map job_of ps) rs ≤ faults_at t d.done.endpoint.iri = h.counted d.done.endpoint.iri in
          omega (arith, one, more))
          it.refused

      -- its cause
      pub cause_of : (e : FlowError) → IsRefused ps rs e → HasProbeCause s t es ps h.exchanges e
      cause_of (flow.Member at) it = refused (flow.Member at) it
      cause_of (flow.BadReply at bad) it = refused (flow.BadReply at bad) it
      cause_of (flow.RequestTooLong at size) it = refused (flow.RequestTooLong at size) it
      cause_of flow.Memory it = tt

      failed_one : (at : ℕ) (p : Probe) (r : JobReply) → Among (p, r) (zip ps rs) → IsRefusal p.at r (flow.Member at) → HasFailedAsk s t es ps parts.left (flow.Member at)
      failed_one at p (reply.Truth truth) m is = absurd is
      failed_one at p (reply.Found founds) m is = absurd is
      failed_one at p (reply.Table rows) m is = absurd is
      failed_one at p (reply.Bad bad) m is = absurd (no_bad is)
        where
          no_bad : flow.Member at ≡ flow.BadReply p.at bad → ⊥
          no_bad e = cc
      failed_one at p (reply.TooLong size) m is = absurd (not_long is)
        where
          not_long : flow.Member at ≡ flow.RequestTooLong p.at size → ⊥
          not_long e = cc
      failed_one at p reply.Failed m is =
          let d = (done_at es ps rs ordered p reply.Failed h.done.1 m).done in
          let one : 1 ≤ failures_at es d.endpoint.iri (map job_of ps) rs = failed_counts es d.endpoint p d.found ps rs m in
          let more : faults_at s d.endpoint.iri + failures_at es d.endpoint.iri (map job_of ps) rs ≤ faults_at t d.endpoint.iri = h.counted d.endpoint.iri in
          let same : at ≡ p.at = cc in (
            d.endpoint,
            ap (slice_get es) same ∙ d.found,
            omega (arith, one, more),
            record { probe = p; among = contains_from ps p (among_probes es ps rs p reply.Failed m); found = d.found; unsent = parts.unsent p d.endpoint m d.found },
          )

      -- where an exchange failed its ASK is left
      pub failed_of : (e : FlowError) → IsRefused ps rs e → HasFailedAsk s t es ps parts.left e
      failed_of (flow.Member at) it = failed_one at it.probe it.reply (among_from (zip ps rs) (it.probe, it.reply) it.among) it.refused
      failed_of (flow.BadReply at bad) it = tt
      failed_of (flow.RequestTooLong at size) it = tt
      failed_of flow.Memory it = tt

      -- where all replies are truth values there is none, each exchange was read, and none is left
      pub all_quiet : (truths : List Bool) → rs ≡ map (λ truth. reply.Truth truth) truths → IsTrue alone → (address : List ℕ) → faults_at t address ≡ faults_at s address
      all_quiet truths are is address =
          let zero : failures_at es address (map job_of ps) rs ≡ 0 = ap (failures_at es address (map job_of ps)) are ∙ no_failures es address ps truths in
          let all : faults_at t address ≡ faults_at s address + failures_at es address (map job_of ps) rs = h.exact is address in
          omega (arith, zero, all)

      pub all_faultless : (truths : List Bool) → rs ≡ map (λ truth. reply.Truth truth) truths → All (IsAskRead ps) h.exchanges
      all_faultless truths are =
          All-permutation (IsAskRead ps) ordered h.exchanges h.done.2
          (all_read es ps ps (λ p m. m) truths ordered (subst (λ (v : List JobReply). AreDone es (map job_of ps) v ordered) are h.done.1))

  -- ---- in pieces

  -- memory lacked for some jobs, and others weren't begun
  not_on : (s t : List Seen) (js ks : List Job) → AllByRecursion (λ j. j.at < length es) ks → WiresDid tells alone s t es js None → WiresDid tells alone s t es (js ++ ks) None
  not_on s t js ks within h =
      let rest = all_wanted es ks within in
      let none : AreOfJobs es ks [] = record { wanted = rest.0; of_jobs = rest.1; left = rest.0; sent = IsPermutation-refl rest.0 } in
      record {
        exchanges = h.exchanges;
        gained = h.gained;
        honest = h.honest;
        left = h.left;
        of_jobs = subst (AreOfJobs es (js ++ ks)) (append-nil h.exchanges) (of_both es js ks h.exchanges [] h.of_jobs none);
        done = tt;
        counted = tt;
        few = λ is address. let few : faults_at t address ≤ faults_at s address + jobs_at es address js = h.few is address in omega (arith, few, jobs_both es address js ks);
        exact = λ is. tt;
      }

  -- the jobs of the first so many probes, of which the last are a piece
  abbrev pub Begun : List Seen → List Seen → List Probe → ℕ → Option (List JobReply) → Type 0
  Begun s t probes k replies = WiresDid tells alone s t es (map job_of (take k probes)) replies

  module _ (s t u : List Seen) (a : AllTell tells s) (b : AllTell tells t) (probes : List Probe) (k m : ℕ) (piece : List Probe) (front : take m probes ≡ take k probes ++ piece) (rs : List JobReply) (h : Begun s t probes k (Some rs)) where
    in_turn : (o : Option (List JobReply)) → WiresDid tells alone t u es (map job_of piece) o → Begun s u probes m (behind rs o)
    in_turn o d =
        subst (λ (v : List Job). WiresDid tells alone s u es v (behind rs o)) (sym (map-append job_of (take k probes) piece) ∙ ap (map job_of) (sym front))
        (did_in_turn tells alone es s t u a b (map job_of (take k probes)) (map job_of piece) rs h o d)

    pub some_more : (more : List JobReply) → WiresDid tells alone t u es (map job_of piece) (Some more) → Begun s u probes m (Some (rs ++ more))
    some_more more d = in_turn (Some more) d

    -- memory lacked for a piece, or behind it
    module _ (within : All (λ p. p.at < length es) probes) where
      pub lost_in : WiresDid tells alone t u es (map job_of piece) None → WiresDid tells alone s u es (map job_of probes) None
      lost_in d =
          let rest = drop m probes in
          subst (λ (v : List Probe). WiresDid tells alone s u es (map job_of v) None) (take-append-drop m probes)
          (subst (λ (v : List Job). WiresDid tells alone s u es v None) (sym (map-append job_of (take m probes) rest))
          (not_on s u (map job_of (take m probes)) (map job_of rest)
          (recursion_from_All (λ (j : Job). j.at < length es) (map job_of rest) (All-map (λ (j : Job). j.at < length es) job_of rest (All-drop (λ (p : Probe). p.at < length es) m probes within)))
          (in_turn None d)))

      pub lost_behind : (more : List JobReply) → WiresDid tells alone t u es (map job_of piece) (Some more) → WiresDid tells alone s u es (map job_of probes) None
      lost_behind more d = lost_in (did_in_vain tells alone es t u (map job_of piece) more d)
