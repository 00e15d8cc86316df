-- What jobs leave of a wire, one after another.
use Rattle.std.proofs.Common.{◌≡◌, ◌∙◌, ap, sym, subst, refl, ℕ, ◌+◌, ◌<◌, ◌≤◌, Bool, List, [], ◌∷◌, ◌++◌, Option, Some, None, IfSome, IsTrue, slice_get, get_or, length, arith, append-nil, append_assoc, inl, inr, ◌⊎◌}
use Rattle.std.specs.List.{AllByRecursion}
use Rattle.std.proofs.lemmas.List.Elements.{All-append, All-from_recursion}
use Rattle.std.proofs.lemmas.List.Sorted.{IsPermutation-refl}
use Rattle.std.proofs.lemmas.Option.{slice_get_cases}
use Rattle.fx_terms.specs.declared.triples.Triple.{Triple}
use Rattle.fx_outside.specs.Endpoints.{EndpointParts}
use Rattle.fx_http.specs.Requests.{request_of}
use Rattle.fx_traffic.specs.Sent.{Sent}
use Rattle.fx_traffic.proofs.SentLemmas.{sent_laws}
use Rattle.fx_wire.specs.Exchanges.{Exchange, Seen}
use Rattle.fx_pool.specs.Jobs.{AreDone, AreWanted, failures_at, text_of}
use Rattle.fx_pool.specs.Posting.{AreHonest, IsHonestAt}
use Rattle.fx_pool.specs.Runs.{AreOfJobs, WireDid, jobs_at}
use Rattle.fx_pool.specs.declared.jobs.Job.{Job}
use Rattle.fx_pool.specs.declared.jobs.JobReply.{JobReply}

pub wanted_both : (es : List EndpointParts) (js ks : List Job) (ss ts : List Sent) → AreWanted es js ss → AreWanted es ks ts → AreWanted es (js ++ ks) (ss ++ ts)
wanted_both es [] ks ss ts h k = subst (λ (v : List Sent). AreWanted es ks (v ++ ts)) (sym h) k
wanted_both es (j ∷ js) ks [] ts h k = absurd h
wanted_both es (j ∷ js) ks (s ∷ ss) ts h k = (h.0, wanted_both es js ks ss ts h.1 k)

pub of_both : (es : List EndpointParts) (js ks : List Job) (xs ys : List Exchange) → AreOfJobs es js xs → AreOfJobs es ks ys → AreOfJobs es (js ++ ks) (xs ++ ys)
of_both es js ks xs ys h k = record {
  wanted = h.wanted ++ k.wanted;
  of_jobs = wanted_both es js ks h.wanted k.wanted h.of_jobs k.of_jobs;
  left = h.left ++ k.left;
  sent = sent_laws.together h.wanted h.left k.wanted k.left xs ys h.sent k.sent;
}

pub done_both : (es : List EndpointParts) (js ks : List Job) (rs qs : List JobReply) (xs ys : List Exchange) → AreDone es js rs xs → AreDone es ks qs ys → AreDone es (js ++ ks) (rs ++ qs) (xs ++ ys)
done_both es [] ks [] qs xs ys h k = subst (λ (v : List Exchange). AreDone es ks qs (v ++ ys)) (sym h) k
done_both es [] ks (r ∷ rs) qs xs ys h k = absurd h
done_both es (j ∷ js) ks [] qs xs ys h k = absurd h
done_both es (j ∷ js) ks (r ∷ rs) qs xs ys h k =
    (h.0, h.1 ++ ys, ap (λ (v : List Exchange). v ++ ys) h.2 ∙ append_assoc h.0 h.1 ys, h.3, done_both es js ks rs qs h.1 ys h.4 k)

pub failures_both : (es : List EndpointParts) (address : List ℕ) (js ks : List Job) (rs qs : List JobReply) (xs : List Exchange) → AreDone es js rs xs → failures_at es address (js ++ ks) (rs ++ qs) ≡ failures_at es address js rs + failures_at es address ks qs
failures_both es address [] ks [] qs xs h = omega arith
failures_both es address [] ks (r ∷ rs) qs xs h = absurd h
failures_both es address (j ∷ js) ks [] qs xs h = absurd h
failures_both es address (j ∷ js) ks (r ∷ rs) qs xs h =
    let rest : failures_at es address (js ++ ks) (rs ++ qs) ≡ failures_at es address js rs + failures_at es address ks qs = failures_both es address js ks rs qs h.1 h.4 in
    omega (arith, rest)

pub jobs_both : (es : List EndpointParts) (address : List ℕ) (js ks : List Job) → jobs_at es address (js ++ ks) ≡ jobs_at es address js + jobs_at es address ks
jobs_both es address [] ks = omega arith
jobs_both es address (j ∷ js) ks = let rest : jobs_at es address (js ++ ks) ≡ jobs_at es address js + jobs_at es address ks = jobs_both es address js ks in omega (arith, rest)

-- replies of both, where the second have any
abbrev pub behind : List JobReply → Option (List JobReply) → Option (List JobReply)
behind rs None = None
behind rs (Some qs) = Some (rs ++ qs)

same_graphs : (before after : List ℕ → Option (List Triple)) → ((address : List ℕ) → after address ≡ before address) → (xs : List Exchange) → AreHonest after xs → AreHonest before xs
same_graphs before after same xs h = subst (λ (g : List ℕ → Option (List Triple)). AreHonest g xs) (λ i address. same address i) h

module _ (alone : Bool) (s t u : Seen) (es : List EndpointParts) (js ks : List Job) (rs : List JobReply) (h : WireDid alone s t es js (Some rs)) where
  pub did_both : (o : Option (List JobReply)) → WireDid alone t u es ks o → WireDid alone s u es (js ++ ks) (behind rs o)
  did_both o k = record {
    exchanges = h.exchanges ++ k.exchanges;
    logged = λ told. k.logged (subst IsTrue (sym h.tells) told) ∙ ap (λ (v : List Exchange). v ++ k.exchanges) (h.logged told) ∙ append_assoc s.log h.exchanges k.exchanges;
    honest = All-append (IsHonestAt s.graph) h.exchanges k.exchanges h.honest (same_graphs s.graph t.graph h.same k.exchanges k.honest);
    same = λ address. k.same address ∙ h.same address;
    tells = k.tells ∙ h.tells;
    of_jobs = of_both es js ks h.exchanges k.exchanges h.of_jobs k.of_jobs;
    done = done o k.done;
    kept = λ address. let one : s.faults address ≤ t.faults address = h.kept address in let two : t.faults address ≤ u.faults address = k.kept address in omega (arith, one, two);
    counted = counted o k.counted;
    few = λ is address.
        let one : t.faults address ≤ s.faults address + jobs_at es address js = h.few is address in
        let two : u.faults address ≤ t.faults address + jobs_at es address ks = k.few is address in
        omega (arith, one, two, jobs_both es address js ks);
    exact = λ is. exact o (h.exact is) (k.exact is);
  }
    where
      done : (o : Option (List JobReply)) → IfSome o (λ qs. AreDone es ks qs k.exchanges) → IfSome (behind rs o) (λ all. AreDone es (js ++ ks) all (h.exchanges ++ k.exchanges))
      done (Some qs) d = done_both es js ks rs qs h.exchanges k.exchanges h.done d
      done None d = tt

      counted : (o : Option (List JobReply)) → IfSome o (λ qs. (address : List ℕ) → t.faults address + failures_at es address ks qs ≤ u.faults address)
          → IfSome (behind rs o) (λ all. (address : List ℕ) → s.faults address + failures_at es address (js ++ ks) all ≤ u.faults address)
      counted (Some qs) d = λ address.
          let one : s.faults address + failures_at es address js rs ≤ t.faults address = h.counted address in
          let two : t.faults address + failures_at es address ks qs ≤ u.faults address = d address in
          omega (arith, one, two, failures_both es address js ks rs qs h.exchanges h.done)
      counted None d = tt

      exact : (o : Option (List JobReply)) → ((address : List ℕ) → t.faults address ≡ s.faults address + failures_at es address js rs) → IfSome o (λ qs. (address : List ℕ) → u.faults address ≡ t.faults address + failures_at es address ks qs)
          → IfSome (behind rs o) (λ all. (address : List ℕ) → u.faults address ≡ s.faults address + failures_at es address (js ++ ks) all)
      exact (Some qs) e d = λ address.
          let one : t.faults address ≡ s.faults address + failures_at es address js rs = e address in
          let two : u.faults address ≡ t.faults address + failures_at es address ks qs = d address in
          omega (arith, one, two, failures_both es address js ks rs qs h.exchanges h.done)
      exact None e d = tt

-- ---- nothing, and more that isn't done

pub did_nothing : (alone : Bool) (s : Seen) (es : List EndpointParts) → WireDid alone s s es [] (Some [])
did_nothing alone s es = record {
  exchanges = [];
  logged = λ told. sym (append-nil s.log);
  honest = All-from_recursion (IsHonestAt s.graph) [] tt;
  same = λ address. refl;
  tells = refl;
  of_jobs = record { wanted = []; of_jobs = refl; left = []; sent = IsPermutation-refl [] };
  done = refl;
  kept = λ address. omega arith;
  counted = λ address. omega arith;
  few = λ is address. omega arith;
  exact = λ is address. omega arith;
}

pub all_wanted : (es : List EndpointParts) (js : List Job) → AllByRecursion (λ j. j.at < length es) js → (ss : List Sent) × AreWanted es js ss
all_wanted es [] h = ([], refl)
all_wanted es (j ∷ js) h = by (slice_get_cases es j.at).1 (all_wanted es js h.1)
  where
    by : ((e : EndpointParts) × (j.at < length es) × (slice_get es j.at ≡ Some e) × (get_or es j.at e ≡ e)) ⊎ ((length es ≤ j.at) × (slice_get es j.at ≡ None)) → (ss : List Sent) × AreWanted es js ss → (ss : List Sent) × AreWanted es (j ∷ js) ss
    by (inl e) rest = (record { at = e.0; request = request_of e.0 (text_of j.work) } ∷ rest.0, (record { found = e.2; posts = refl }, rest.1))
    by (inr past) rest = let low : length es ≤ j.at = past.0 in let below : j.at < length es = h.0 in absurd (omega (arith, low, below))

-- where there are no replies more jobs may be left
pub more_left : (alone : Bool) (s t : Seen) (es : List EndpointParts) (js ks : List Job) → AllByRecursion (λ j. j.at < length es) ks → WireDid alone s t es js None → WireDid alone s t es (js ++ ks) None
more_left alone s t es js ks within h =
    let rest = all_wanted es ks within in
    let none : AreOfJobs es ks [] = record { wanted = rest.0; of_jobs = rest.1; left = rest.0; sent = IsPermutation-refl rest.0 } in
    record {
      exchanges = h.exchanges;
      logged = h.logged;
      honest = h.honest;
      same = h.same;
      tells = h.tells;
      of_jobs = subst (AreOfJobs es (js ++ ks)) (append-nil h.exchanges) (of_both es js ks h.exchanges [] h.of_jobs none);
      done = tt;
      kept = h.kept;
      counted = tt;
      few = λ is address. let few : t.faults address ≤ s.faults address + jobs_at es address js = h.few is address in omega (arith, few, jobs_both es address js ks);
      exact = λ is. tt;
    }

-- replies that are lost
pub replies_lost : (alone : Bool) (s t : Seen) (es : List EndpointParts) (js : List Job) (rs : List JobReply) → WireDid alone s t es js (Some rs) → WireDid alone s t es js None
replies_lost alone s t es js rs h = record {
  exchanges = h.exchanges;
  logged = h.logged;
  honest = h.honest;
  same = h.same;
  tells = h.tells;
  of_jobs = h.of_jobs;
  done = tt;
  kept = h.kept;
  counted = tt;
  few = h.few;
  exact = λ is. tt;
}
