-- What asking members for probes comes to, where those that are marked may be left out.
use Rattle.std.proofs.Common.{◌≡◌, ◌∙◌, ap, sym, subst, refl, ℕ, ◌<◌, Bool, true, false, cond, List, [], ◌∷◌, ◌++◌, map, Option, Some, None, IfErr, IfOk, IsTrue, Result, Ok, Err, All, Contains, IsPermutation, length, inl, inr, arith, append-nil, slice_get, ◌+◌, ◌≤◌}
use Rattle.std.specs.List.{AllByRecursion, cons_option, zip, flat_map}
use Rattle.std.proofs.lemmas.List.{length-map}
use Rattle.std.proofs.lemmas.List.Elements.{All-contains, All-from_recursion, All-weaker, Contains-append_right, recursion_from_All}
use Rattle.std.proofs.lemmas.List.Sorted.{IsPermutation-cons, IsPermutation-middle, IsPermutation-refl, IsPermutation-trans}
use Rattle.fx_terms.specs.declared.triples.Triple.{Triple}
use Rattle.fx_terms.proofs.SetLemmas.{Among, contains_from}
use Rattle.fx_outside.specs.Endpoints.{EndpointParts}
use Rattle.fx_algebra.specs.Units.{AreAllKept, is_kept}
use Rattle.fx_spelling.specs.Printable.{IsTriple}
use Rattle.fx_keys.specs.declared.probes.Probe.{Probe}
use Rattle.fx_sources.specs.Probes.{Entry, kept_probes}
use Rattle.fx_sources.specs.Sources as source
use Rattle.fx_sources.proofs.KeptLemmas.{replicate_kept}
use Rattle.fx_traffic.specs.Gains.{TellAll, faults_at}
use Rattle.fx_traffic.proofs.SentLemmas.{sent_laws}
use Rattle.fx_wire.specs.Exchanges.{Exchange, Seen}
use Rattle.fx_pool.specs.Runs.{WiresDid}
use Rattle.fx_flows.specs.Flows.{Names}
use Rattle.fx_flows.specs.declared.flows.FlowError.{FlowError}
use Rattle.fx_flows.specs.declared.flows.FlowError.TheVariants as flow
use Rattle.fx_pool.specs.declared.jobs.JobReply.{JobReply}
use Rattle.fx_pool.specs.declared.jobs.JobReply.TheVariants as reply
use Rattle.fx_outcomes.specs.AskSteps.{IsRefused, job_of, IsForAsk, IsRefusal}
use Rattle.fx_outcomes.specs.Asks.{HasFailedAsk, HasProbeCause, IsAnsweredBy, IsAskRead, IsProbeCause}
use Rattle.fx_outcomes.specs.Rounds.{AreAnswers, AskedMembers, IsLeftAtAsk, IsLeftBy, IsMarked, IsRequired, everybody, without_all, AreMissed, ComeByMember, failed_at, unsent_to}
use Rattle.fx_outcomes.specs.Sorting.{AreSorted, AreSortedOut, IsFirstRefused, IsLeftFor, IsPassed, Replied, answer_of, answered}
use Rattle.fx_outcomes.specs.declared.rounds.Answers.{Answers}
use Rattle.fx_outcomes.specs.declared.rounds.Left.{Left}
use Rattle.fx_outcomes.proofs.AsksLemmas.{all_faultless, all_quiet, among_all, cause_of, failed_of}
use Rattle.fx_outcomes.proofs.ProbeLemmas.{AllAmong, SplitAsks, among_probes, answered as answered_here, as_many, asks_sent, done_at, split_asks, told as told_here, cause as cause_here, failed_counts, for_ask, unsent_for, unsent_of}
use Rattle.fx_outcomes.proofs.SortingLemmas.{refusal_names}
use Rattle.fx_pool.specs.Jobs.{failures_at, is_at, is_failure}
use Rattle.fx_traffic.specs.Sent.{Sent}

-- ---- pairs

-- lists of firsts and seconds are put together again
pub zip_back : {X Y : Type 0} (xs : List (X × Y)) → zip (map (λ x. x.0) xs) (map (λ x. x.1) xs) ≡ xs
zip_back [] = refl
zip_back (x ∷ xs) = ap (λ v. x ∷ v) (zip_back xs)

firsts_of : {X Y : Type 0} (xs : List X) (ys : List Y) → length ys ≡ length xs → map (λ x. x.0) (zip xs ys) ≡ xs
firsts_of [] ys h = refl
firsts_of (x ∷ xs) [] h = absurd (omega (arith, h))
firsts_of (x ∷ xs) (y ∷ ys) h = ap (λ v. x ∷ v) (firsts_of xs ys (omega (arith, h)))

-- ---- answers

module _ (P : Probe × Bool → Type 0) where
  one_answer : (x : Replied) (r : JobReply) → x.1 ≡ r → ((truth : Bool) → x.1 ≡ reply.Truth truth → P (x.0, truth)) → (rest : List (Probe × Bool)) → AllByRecursion P rest → AllByRecursion P (cons_option (answer_of x.0 r) rest)
  one_answer x (reply.Truth truth) is f rest h = (f truth is, h)
  one_answer x (reply.Found founds) is f rest h = h
  one_answer x (reply.Table rows) is f rest h = h
  one_answer x reply.Failed is f rest h = h
  one_answer x (reply.Bad bad) is f rest h = h
  one_answer x (reply.TooLong size) is f rest h = h

  -- what holds where the reply is a truth value holds of each answer
  each_answer : (xs : List Replied) → ((p : Probe) (truth : Bool) → Among (p, reply.Truth truth) xs → P (p, truth)) → AllByRecursion P (answered xs)
  each_answer [] f = tt
  each_answer (x ∷ xs) f =
      one_answer x x.1 refl (λ truth is. f x.0 truth (inl (ap (λ (r : JobReply). (x.0, r)) is))) (answered xs) (each_answer xs (λ p truth m. f p truth (inr m)))

-- ---- probes without one

abbrev lack_of : Probe → JobReply → Option Probe
lack_of p (reply.Truth truth) = None
lack_of p r = Some p

abbrev lacking : List Replied → List Probe
lacking [] = []
lacking (x ∷ xs) = cons_option (lack_of x.0 x.1) (lacking xs)

abbrev probes_of : List (Probe × Bool) → List Probe
probes_of xs = map (λ x. x.0) xs

lacks : (p : Probe) (A : List (Probe × Bool)) (L ps : List Probe) → IsPermutation (probes_of A ++ L) ps → IsPermutation (probes_of A ++ p ∷ L) (p ∷ ps)
lacks p A L ps h =
    IsPermutation-trans (probes_of A ++ p ∷ L) (p ∷ (probes_of A ++ L)) (p ∷ ps) (IsPermutation-middle (probes_of A) p L) (IsPermutation-cons p (probes_of A ++ L) ps h)

one_split : (p : Probe) (r : JobReply) (A : List (Probe × Bool)) (L ps : List Probe) → IsPermutation (probes_of A ++ L) ps → IsPermutation (probes_of (cons_option (answer_of p r) A) ++ cons_option (lack_of p r) L) (p ∷ ps)
one_split p (reply.Truth truth) A L ps h = IsPermutation-cons p (probes_of A ++ L) ps h
one_split p (reply.Found founds) A L ps h = lacks p A L ps h
one_split p (reply.Table rows) A L ps h = lacks p A L ps h
one_split p reply.Failed A L ps h = lacks p A L ps h
one_split p (reply.Bad bad) A L ps h = lacks p A L ps h
one_split p (reply.TooLong size) A L ps h = lacks p A L ps h

-- the probes with an answer, and those without, are all of them
all_split : (xs : List Replied) → IsPermutation (probes_of (answered xs) ++ lacking xs) (map (λ x. x.0) xs)
all_split [] = IsPermutation-refl []
all_split (x ∷ xs) = one_split x.0 x.1 (answered xs) (lacking xs) (map (λ y. y.0) xs) (all_split xs)

-- ---- and why they have none

-- (a reply that is no reply to an ASK never comes)
abbrev missed_by : Probe → JobReply → Option (Probe × FlowError)
missed_by p (reply.Truth truth) = None
missed_by p reply.Failed = Some (p, flow.Member p.at)
missed_by p (reply.Bad bad) = Some (p, flow.BadReply p.at bad)
missed_by p (reply.TooLong size) = Some (p, flow.RequestTooLong p.at size)
missed_by p (reply.Found founds) = Some (p, flow.Memory)
missed_by p (reply.Table rows) = Some (p, flow.Memory)

abbrev missed_in : List Replied → List (Probe × FlowError)
missed_in [] = []
missed_in (x ∷ xs) = cons_option (missed_by x.0 x.1) (missed_in xs)

one_lacking : (p : Probe) (r : JobReply) (L : List Probe) (M : List (Probe × FlowError)) → L ≡ map (λ m. m.0) M → cons_option (lack_of p r) L ≡ map (λ m. m.0) (cons_option (missed_by p r) M)
one_lacking p (reply.Truth truth) L M e = e
one_lacking p reply.Failed L M e = ap (λ (v : List Probe). p ∷ v) e
one_lacking p (reply.Bad bad) L M e = ap (λ (v : List Probe). p ∷ v) e
one_lacking p (reply.TooLong size) L M e = ap (λ (v : List Probe). p ∷ v) e
one_lacking p (reply.Found founds) L M e = ap (λ (v : List Probe). p ∷ v) e
one_lacking p (reply.Table rows) L M e = ap (λ (v : List Probe). p ∷ v) e

those_lacking : (xs : List Replied) → lacking xs ≡ map (λ m. m.0) (missed_in xs)
those_lacking [] = refl
those_lacking (x ∷ xs) = one_lacking x.0 x.1 (lacking xs) (missed_in xs) (those_lacking xs)

module _ (P : Probe × FlowError → Type 0) where
  one_missed : (p : Probe) (r : JobReply) → IsForAsk r → ((why : FlowError) → IsRefusal p.at r why → P (p, why)) → (M : List (Probe × FlowError)) → AllByRecursion P M → AllByRecursion P (cons_option (missed_by p r) M)
  one_missed p (reply.Truth truth) of_ask f M h = h
  one_missed p reply.Failed of_ask f M h = (f (flow.Member p.at) refl, h)
  one_missed p (reply.Bad bad) of_ask f M h = (f (flow.BadReply p.at bad) refl, h)
  one_missed p (reply.TooLong size) of_ask f M h = (f (flow.RequestTooLong p.at size) refl, h)
  one_missed p (reply.Found founds) of_ask f M h = absurd of_ask
  one_missed p (reply.Table rows) of_ask f M h = absurd of_ask

  -- what holds of each refusal holds of each that is missed
  each_missed : (xs : List Replied) → ((p : Probe) (r : JobReply) → Among (p, r) xs → IsForAsk r × ((why : FlowError) → IsRefusal p.at r why → P (p, why))) → AllByRecursion P (missed_in xs)
  each_missed [] f = tt
  each_missed (x ∷ xs) f = let k = f x.0 x.1 (inl refl) in one_missed x.0 x.1 k.0 k.1 (missed_in xs) (each_missed xs (λ p r m. f p r (inr m)))

module _ (es : List EndpointParts) where
  -- failures are counted alike
  module _ (address : List ℕ) where
    no_one : (b : Bool) (n : ℕ) → n ≡ cond {A = ℕ} b 0 0 + n
    no_one true n = omega arith
    no_one false n = omega arith

    one_failed : (p : Probe) (r : JobReply) (M : List (Probe × FlowError)) → failed_at es address (cons_option (missed_by p r) M) ≡ cond {A = ℕ} (is_at address (slice_get es p.at)) (is_failure r) 0 + failed_at es address M
    one_failed p (reply.Truth truth) M = no_one (is_at address (slice_get es p.at)) (failed_at es address M)
    one_failed p reply.Failed M = refl
    one_failed p (reply.Bad bad) M = refl
    one_failed p (reply.TooLong size) M = refl
    one_failed p (reply.Found founds) M = refl
    one_failed p (reply.Table rows) M = refl

    failed_alike : (ps : List Probe) (rs : List JobReply) → failed_at es address (missed_in (zip ps rs)) ≡ failures_at es address (map job_of ps) rs
    failed_alike [] rs = refl
    failed_alike (p ∷ ps) [] = refl
    failed_alike (p ∷ ps) (r ∷ rs) = one_failed p r (missed_in (zip ps rs)) ∙ ap (λ (n : ℕ). cond {A = ℕ} (is_at address (slice_get es p.at)) (is_failure r) 0 + n) (failed_alike ps rs)

  abbrev Unsent : Probe × FlowError → List Sent
  Unsent m = unsent_to (slice_get es m.0.at) m.0 m.1

  -- and what wasn't sent is the same
  abbrev unsent_out : Option EndpointParts → Option (Probe × FlowError) → List Sent
  unsent_out o None = []
  unsent_out o (Some m) = unsent_to o m.0 m.1

  same_unsent : (o : Option EndpointParts) (p : Probe) (r : JobReply) → unsent_out o (missed_by p r) ≡ unsent_for es o p r
  same_unsent None p (reply.Truth truth) = refl
  same_unsent None p reply.Failed = refl
  same_unsent None p (reply.Bad bad) = refl
  same_unsent None p (reply.TooLong size) = refl
  same_unsent None p (reply.Found founds) = refl
  same_unsent None p (reply.Table rows) = refl
  same_unsent (Some e) p (reply.Truth truth) = refl
  same_unsent (Some e) p reply.Failed = refl
  same_unsent (Some e) p (reply.Bad bad) = refl
  same_unsent (Some e) p (reply.TooLong size) = refl
  same_unsent (Some e) p (reply.Found founds) = refl
  same_unsent (Some e) p (reply.Table rows) = refl

  first_unsent : (p : Probe) (r : JobReply) (M : List (Probe × FlowError)) → flat_map Unsent (cons_option (missed_by p r) M) ≡ unsent_out (slice_get es p.at) (missed_by p r) ++ flat_map Unsent M
  first_unsent p (reply.Truth truth) M = refl
  first_unsent p reply.Failed M = refl
  first_unsent p (reply.Bad bad) M = refl
  first_unsent p (reply.TooLong size) M = refl
  first_unsent p (reply.Found founds) M = refl
  first_unsent p (reply.Table rows) M = refl

  one_unsent : (p : Probe) (r : JobReply) (M : List (Probe × FlowError)) → flat_map Unsent (cons_option (missed_by p r) M) ≡ unsent_for es (slice_get es p.at) p r ++ flat_map Unsent M
  one_unsent p r M = first_unsent p r M ∙ ap (λ (v : List Sent). v ++ flat_map Unsent M) (same_unsent (slice_get es p.at) p r)

  unsent_alike : (xs : List Replied) → unsent_of es xs ≡ flat_map Unsent (missed_in xs)
  unsent_alike [] = refl
  unsent_alike (x ∷ xs) = ap (λ (v : List Sent). unsent_for es (slice_get es x.0.at) x.0 x.1 ++ v) (unsent_alike xs) ∙ sym (one_unsent x.0 x.1 (missed_in xs))

-- ---- members that are kept

never : (p : Probe) (r : JobReply) (truth : Bool) → answer_of p r ≡ None → r ≡ reply.Truth truth → ⊥
never p r truth none is = let both : ◌≡◌ {A = Option (Probe × Bool)} None (Some (p, truth)) = sym none ∙ ap (answer_of p) is in cc

module _ (es : List EndpointParts) (kept : List Bool) where
  not_kept : (p : Probe) (r : JobReply) → answer_of p r ≡ None → IsPassed es kept (p, r) → is_kept kept p.at ≡ false
  not_kept p r none (inl answer) = absurd (never p r answer.0 none answer.1)
  not_kept p r none (inr gone) = gone.1

  passed_by : (p : Probe) (r : JobReply) (L R : List Probe) → answer_of p r ≡ None → IsPassed es kept (p, r) → L ≡ R → L ≡ cond (is_kept kept p.at) (p ∷ R) R
  passed_by p r L R none h e = e ∙ sym (ap (λ (b : Bool). cond b (p ∷ R) R) (not_kept p r none h))

  one_kept : (p : Probe) (r : JobReply) (A : List (Probe × Bool)) (ps : List Probe) → IsPassed es kept (p, r) → kept_probes kept (probes_of A) ≡ kept_probes kept ps
      → kept_probes kept (probes_of (cons_option (answer_of p r) A)) ≡ kept_probes kept (p ∷ ps)
  one_kept p (reply.Truth truth) A ps h e = ap (λ (v : List Probe). cond (is_kept kept p.at) (p ∷ v) v) e
  one_kept p (reply.Found founds) A ps h e = passed_by p (reply.Found founds) (kept_probes kept (probes_of A)) (kept_probes kept ps) refl h e
  one_kept p (reply.Table rows) A ps h e = passed_by p (reply.Table rows) (kept_probes kept (probes_of A)) (kept_probes kept ps) refl h e
  one_kept p reply.Failed A ps h e = passed_by p reply.Failed (kept_probes kept (probes_of A)) (kept_probes kept ps) refl h e
  one_kept p (reply.Bad bad) A ps h e = passed_by p (reply.Bad bad) (kept_probes kept (probes_of A)) (kept_probes kept ps) refl h e
  one_kept p (reply.TooLong size) A ps h e = passed_by p (reply.TooLong size) (kept_probes kept (probes_of A)) (kept_probes kept ps) refl h e

  -- each probe of a member that is kept has an answer
  all_kept : (xs : List Replied) → AllByRecursion (IsPassed es kept) xs → kept_probes kept (probes_of (answered xs)) ≡ kept_probes kept (map (λ x. x.0) xs)
  all_kept [] h = refl
  all_kept (x ∷ xs) h = one_kept x.0 x.1 (answered xs) (map (λ y. y.0) xs) h.0 (all_kept xs h.1)

  abbrev AreTruths : List JobReply → Type 0
  AreTruths rs = (truths : List Bool) × (rs ≡ map (λ truth. reply.Truth truth) truths)

  one_truth : (p : Probe) (r : JobReply) (rs : List JobReply) → is_kept kept p.at ≡ true → IsPassed es kept (p, r) → AreTruths rs → AreTruths (r ∷ rs)
  one_truth p r rs marked (inl answer) rest = (answer.0 ∷ rest.0, ap (λ (v : JobReply). v ∷ rs) answer.1 ∙ ap (λ (v : List JobReply). reply.Truth answer.0 ∷ v) rest.1)
  one_truth p r rs marked (inr gone) rest = absurd (both (sym marked ∙ gone.1))
    where
      both : true ≡ false → ⊥
      both e = cc

  -- where all members are kept all replies are truth values
  all_truths : AreAllKept kept (length es) → (ps : List Probe) (rs : List JobReply) → length rs ≡ length ps → AllByRecursion (λ p. p.at < length es) ps → AllByRecursion (IsPassed es kept) (zip ps rs) → AreTruths rs
  all_truths all [] [] many within h = ([], refl)
  all_truths all [] (r ∷ rs) many within h = absurd (omega (arith, many))
  all_truths all (p ∷ ps) [] many within h = absurd (omega (arith, many))
  all_truths all (p ∷ ps) (r ∷ rs) many within h = one_truth p r rs (all p.at within.0) h.0 (all_truths all ps rs (omega (arith, many)) within.1 h.1)

-- ---- refusals

-- a refusal that names a number is of the endpoint there
required_of : (es : List EndpointParts) (e : FlowError) (at : ℕ) → Names at e → IsMarked false es at → IsRequired es e
required_of es (flow.Member it) at names marked = subst (IsMarked false es) (sym names) marked
required_of es (flow.BadReply it bad) at names marked = subst (IsMarked false es) (sym names) marked
required_of es (flow.RequestTooLong it size) at names marked = subst (IsMarked false es) (sym names) marked
required_of es flow.Memory at names marked = tt

-- a reply is never refused for want of memory
never_memory : (at : ℕ) (r : JobReply) → IsRefusal at r flow.Memory → ⊥
never_memory at (reply.Truth truth) h = h
never_memory at (reply.Found founds) h = h
never_memory at (reply.Table rows) h = h
never_memory at reply.Failed h = cc
never_memory at (reply.Bad bad) h = cc
never_memory at (reply.TooLong size) h = cc

-- ---- all probes

all_of : (ps : List Probe) → IsPermutation (ps ++ []) ps
all_of ps = subst (λ (v : List Probe). IsPermutation v ps) (sym (append-nil ps)) (IsPermutation-refl ps)

module _ (tells alone : Bool) (es : List EndpointParts) (s t : List Seen) (ps : List Probe) where
  -- memory lacked for the replies
  pub members_in_vain : WiresDid tells alone s t es (map job_of ps) None → AskedMembers tells alone s t es ps (Err flow.Memory)
  members_in_vain h = record {
    exchanges = h.exchanges;
    gained = h.gained;
    after_all = h.left;
    asked = ps;
    unasked = [];
    split = all_of ps;
    wanted = h.of_jobs.wanted;
    left = h.of_jobs.left;
    texts = asks_sent es ps h.of_jobs.wanted h.of_jobs.of_jobs;
    sent = h.of_jobs.sent;
    fit = tt;
    answered = tt;
    told = tt;
    causes = tt;
    quiet = λ is. tt;
    whole = tt;
    faultless = tt;
    each_asked = tt;
    missed = tt;
    cause = tt;
    failed = tt;
    required = tt;
  }

  module _ (triples : All (λ p. IsTriple p.key.pattern) ps) (within : All (λ p. p.at < length es) ps) (rs : List JobReply) (h : WiresDid tells alone s t es (map job_of ps) (Some rs)) where
    abbrev order : List Exchange
    order = h.done.0

    abbrev sends : SplitAsks es ps rs order
    sends = split_asks es ps rs order h.done.1

    many_replies : length rs ≡ length ps
    many_replies = as_many es ps rs order h.done.1

    more : AllAmong order h.exchanges
    more = among_all tells alone es s t ps triples rs h

    pair_among : (before behind : List Replied) (p : Probe) (r : JobReply) → zip ps rs ≡ before ++ (p, r) ∷ behind → Contains (zip ps rs) (p, r)
    pair_among before behind p r split =
        subst (λ (v : List Replied). Contains v (p, r)) (sym split) (Contains-append_right before ((p, r) ∷ behind) (p, r) (contains_from ((p, r) ∷ behind) (p, r) (inl refl)))

    -- ---- who is left out

    probe_cause : (why : FlowError) (l : Left) → IsLeftBy why l → HasProbeCause s t es ps h.exchanges why → IsProbeCause s t es ps h.exchanges why
    probe_cause (flow.Member at) l named k = k
    probe_cause (flow.BadReply at bad) l named k = k
    probe_cause (flow.RequestTooLong at size) l named k = k
    probe_cause flow.Memory l named k = absurd named

    left_at_ask : (l : Left) → IsLeftFor (zip ps rs) l → IsLeftAtAsk s t es ps h.exchanges l
    left_at_ask l k = record {
      why = k.why;
      named = k.named;
      cause =
          probe_cause k.why l k.named
          (cause_of tells alone es s t ps triples rs h k.why (record { probe = k.probe; reply = k.reply; among = pair_among k.before k.behind k.probe k.reply k.split; refused = k.refused }));
    }

    -- the cause at a probe of its own
    own_cause : (p : Probe) (r : JobReply) → Among (p, r) (zip ps rs) → (why : FlowError) → IsRefusal p.at r why → IsProbeCause s t es (p ∷ []) h.exchanges why
    own_cause p r m why is =
        let d = done_at es ps rs order p r h.done.1 m in
        let triple = All-contains (λ (q : Probe). IsTriple q.key.pattern) ps p triples (contains_from ps p (among_probes es ps rs p r m)) in
        no_memory why is
        (cause_here es p d.own h.exchanges (λ x own. more x (d.more x own)) s t (p ∷ []) h.honest triple (contains_from (p ∷ []) p (inl refl)) r why d.done
        (λ failed.
        let one : 1 ≤ failures_at es d.done.endpoint.iri (map job_of ps) rs = failed_counts es d.done.endpoint p d.done.found ps rs (subst (λ (x : JobReply). Among (p, x) (zip ps rs)) failed m) in
        let counted : faults_at s d.done.endpoint.iri + failures_at es d.done.endpoint.iri (map job_of ps) rs ≤ faults_at t d.done.endpoint.iri = h.counted d.done.endpoint.iri in
        omega (arith, one, counted))
        is)
      where
        no_memory : (e : FlowError) → IsRefusal p.at r e → HasProbeCause s t es (p ∷ []) h.exchanges e → IsProbeCause s t es (p ∷ []) h.exchanges e
        no_memory (flow.Member at) is k = k
        no_memory (flow.BadReply at bad) is k = k
        no_memory (flow.RequestTooLong at size) is k = k
        no_memory flow.Memory is k = absurd (never_memory p.at r is)

    abbrev Missed : Probe × FlowError → Type 0
    Missed m = IsProbeCause s t es (m.0 ∷ []) h.exchanges m.1

    -- ---- the answers

    is_answered : (p : Probe) (truth : Bool) → Among (p, reply.Truth truth) (zip ps rs) → IsAnsweredBy es h.exchanges (p, truth)
    is_answered p truth m =
        let d = done_at es ps rs order p (reply.Truth truth) h.done.1 m in
        answered_here es p d.own h.exchanges (λ x own. more x (d.more x own)) truth d.done

    is_told : (graphs : List (List Triple)) → TellAll s es graphs → (p : Probe) (truth : Bool) → Among (p, reply.Truth truth) (zip ps rs) → source.Tells graphs (p, truth)
    is_told graphs tell p truth m =
        let d = done_at es ps rs order p (reply.Truth truth) h.done.1 m in
        let triple = All-contains (λ (q : Probe). IsTriple q.key.pattern) ps p triples (contains_from ps p (among_probes es ps rs p (reply.Truth truth) m)) in
        told_here es p d.own h.exchanges (λ x own. more x (d.more x own)) s h.honest triple truth d.done graphs tell

    module _ (a : Answers) (k : AreSorted es (zip ps rs) a) where
      together : zip a.probes.items a.truths.items ≡ answered (zip ps rs)
      together =
          ap (λ (v : List Probe). zip v a.truths.items) k.probes_are
          ∙ ap (λ (v : List Bool). zip (probes_of (answered (zip ps rs))) v) k.truths_are
          ∙ zip_back (answered (zip ps rs))

      each : (P : Entry → Type 0) → ((p : Probe) (truth : Bool) → Among (p, reply.Truth truth) (zip ps rs) → P (p, truth)) → All P (zip a.probes.items a.truths.items)
      each P f = subst (All P) (sym together) (All-from_recursion P (answered (zip ps rs)) (each_answer P (zip ps rs) f))

      passed : AllByRecursion (IsPassed es a.kept.items) (zip ps rs)
      passed = recursion_from_All (IsPassed es a.kept.items) (zip ps rs) k.passed

      are_answers : AreAnswers es ps a
      are_answers = record {
        many =
            ap length k.truths_are
            ∙ length-map (answered (zip ps rs)) (λ (x : Entry). x.1)
            ∙ sym (ap length k.probes_are ∙ length-map (answered (zip ps rs)) (λ (x : Entry). x.0));
        unanswered = lacking (zip ps rs);
        split =
            subst (λ (v : List Probe). IsPermutation (v ++ lacking (zip ps rs)) ps) (sym k.probes_are)
            (subst (IsPermutation (probes_of (answered (zip ps rs)) ++ lacking (zip ps rs))) (firsts_of ps rs many_replies) (all_split (zip ps rs)));
        of_kept =
            ap (kept_probes a.kept.items) k.probes_are
            ∙ all_kept es a.kept.items (zip ps rs) passed
            ∙ ap (kept_probes a.kept.items) (firsts_of ps rs many_replies);
        may_leave = k.may_leave;
        those_kept = k.those_kept;
        by_number = λ come. k.by_number (subst (ComeByMember 0) (sym (firsts_of ps rs many_replies)) come);
      }

      -- why a probe has no answer
      is_missed : (p : Probe) (r : JobReply) → Among (p, r) (zip ps rs) → IsForAsk r × ((why : FlowError) → IsRefusal p.at r why → IsProbeCause s t es (p ∷ []) h.exchanges why)
      is_missed p r m =
          let d = done_at es ps rs order p r h.done.1 m in (
            for_ask es p d.own h.exchanges (λ x own. more x (d.more x own)) r d.done,
            λ why is. own_cause p r m why is,
          )

      are_missed : AreMissed s t es ps h.exchanges sends.left a
      are_missed = record {
        missed = missed_in (zip ps rs);
        split =
            subst (λ (v : List Probe). IsPermutation (v ++ map (λ m. m.0) (missed_in (zip ps rs))) ps) (sym k.probes_are)
            (subst (λ (v : List Probe). IsPermutation (probes_of (answered (zip ps rs)) ++ v) ps) (those_lacking (zip ps rs))
            (subst (IsPermutation (probes_of (answered (zip ps rs)) ++ lacking (zip ps rs))) (firsts_of ps rs many_replies) (all_split (zip ps rs))));
        each = All-from_recursion Missed (missed_in (zip ps rs)) (each_missed Missed (zip ps rs) is_missed);
        counted = λ address.
            let counted : faults_at s address + failures_at es address (map job_of ps) rs ≤ faults_at t address = h.counted address in
            let same : failed_at es address (missed_in (zip ps rs)) ≡ failures_at es address (map job_of ps) rs = failed_alike es address ps rs in
            omega (arith, counted, same);
        unsent = sends.left_is ∙ unsent_alike es (zip ps rs);
      }

      -- nobody is left out
      truths_where : a.left.items ≡ [] → (truths : List Bool) × (rs ≡ map (λ truth. reply.Truth truth) truths)
      truths_where none =
          all_truths es a.kept.items
          (subst (λ (v : List Bool). AreAllKept v (length es)) (sym (k.those_kept ∙ ap (λ (v : List Left). without_all v (everybody es)) none)) (replicate_kept (length es)))
          ps rs many_replies (recursion_from_All (λ (p : Probe). p.at < length es) ps within) passed

    -- ---- a refusal

    first_of : (e : FlowError) → IsFirstRefused es (zip ps rs) e → IsRefused ps rs e
    first_of e k = record { probe = k.probe; reply = k.reply; among = pair_among k.before k.behind k.probe k.reply k.split; refused = k.refused }

    required : (e : FlowError) → IsFirstRefused es (zip ps rs) e → IsRequired es e
    required e k = required_of es e k.probe.at (refusal_names k.probe.at k.reply e k.refused) k.required

    -- what they come to
    pub members_asked : (r : Result Answers FlowError) → AreSortedOut es (zip ps rs) r → AskedMembers tells alone s t es ps r
    members_asked r k = record {
      exchanges = h.exchanges;
      gained = h.gained;
      after_all = h.left;
      asked = ps;
      unasked = [];
      split = all_of ps;
      wanted = sends.wanted;
      left = sends.left;
      texts = sends.texts;
      sent = sent_laws.any_order sends.wanted sends.left order h.exchanges h.done.2 sends.sent;
      fit = fit_in r k;
      answered = answered_in r k;
      told = told_in r k;
      causes = causes_in r k;
      quiet = λ is. quiet_in r k is;
      whole = whole_in r k;
      faultless = faultless_in r k;
      each_asked = asked_in r;
      missed = missed_at r k;
      cause = cause_in r k;
      failed = failed_in r k;
      required = required_in r k;
    }
      where
        asked_in : (o : Result Answers FlowError) → IfOk o (λ _. ◌≡◌ {A = List Probe} [] [])
        asked_in (Ok a) = refl
        asked_in (Err e) = tt

        missed_at : (o : Result Answers FlowError) → AreSortedOut es (zip ps rs) o → IfOk o (AreMissed s t es ps h.exchanges sends.left)
        missed_at (Ok a) k = are_missed a k
        missed_at (Err e) k = tt

        fit_in : (o : Result Answers FlowError) → AreSortedOut es (zip ps rs) o → IfOk o (AreAnswers es ps)
        fit_in (Ok a) k = are_answers a k
        fit_in (Err e) k = tt

        answered_in : (o : Result Answers FlowError) → AreSortedOut es (zip ps rs) o → IfOk o (λ a. All (IsAnsweredBy es h.exchanges) (zip a.probes.items a.truths.items))
        answered_in (Ok a) k = each a k (IsAnsweredBy es h.exchanges) is_answered
        answered_in (Err e) k = tt

        told_in : (o : Result Answers FlowError) → AreSortedOut es (zip ps rs) o → IfOk o (λ a. (graphs : List (List Triple)) → TellAll s es graphs → All (source.Tells graphs) (zip a.probes.items a.truths.items))
        told_in (Ok a) k = λ graphs tell. each a k (source.Tells graphs) (is_told graphs tell)
        told_in (Err e) k = tt

        causes_in : (o : Result Answers FlowError) → AreSortedOut es (zip ps rs) o → IfOk o (λ a. All (IsLeftAtAsk s t es ps h.exchanges) a.left.items)
        causes_in (Ok a) k = All-weaker (IsLeftFor (zip ps rs)) (IsLeftAtAsk s t es ps h.exchanges) left_at_ask a.left.items k.left_for
        causes_in (Err e) k = tt

        quiet_in : (o : Result Answers FlowError) → AreSortedOut es (zip ps rs) o → IsTrue alone → IfOk o (λ a. a.left.items ≡ [] → (address : List ℕ) → faults_at t address ≡ faults_at s address)
        quiet_in (Ok a) k is = λ none. let all = truths_where a k none in all_quiet tells alone es s t ps triples rs h all.0 all.1 is
        quiet_in (Err e) k is = tt

        whole_in : (o : Result Answers FlowError) → AreSortedOut es (zip ps rs) o → IfOk o (λ a. a.left.items ≡ [] → sends.left ≡ [])
        whole_in (Ok a) k = λ none. let all = truths_where a k none in sends.none_left all.0 all.1
        whole_in (Err e) k = tt

        faultless_in : (o : Result Answers FlowError) → AreSortedOut es (zip ps rs) o → IfOk o (λ a. a.left.items ≡ [] → All (IsAskRead ps) h.exchanges)
        faultless_in (Ok a) k = λ none. let all = truths_where a k none in all_faultless tells alone es s t ps triples rs h all.0 all.1
        faultless_in (Err e) k = tt

        cause_in : (o : Result Answers FlowError) → AreSortedOut es (zip ps rs) o → IfErr o (HasProbeCause s t es ps h.exchanges)
        cause_in (Ok a) k = tt
        cause_in (Err (flow.Member at)) k = cause_of tells alone es s t ps triples rs h (flow.Member at) (first_of (flow.Member at) k)
        cause_in (Err (flow.BadReply at bad)) k = cause_of tells alone es s t ps triples rs h (flow.BadReply at bad) (first_of (flow.BadReply at bad) k)
        cause_in (Err (flow.RequestTooLong at size)) k = cause_of tells alone es s t ps triples rs h (flow.RequestTooLong at size) (first_of (flow.RequestTooLong at size) k)
        cause_in (Err flow.Memory) k = tt

        failed_in : (o : Result Answers FlowError) → AreSortedOut es (zip ps rs) o → IfErr o (HasFailedAsk s t es ps sends.left)
        failed_in (Ok a) k = tt
        failed_in (Err (flow.Member at)) k = failed_of tells alone es s t ps triples rs h (flow.Member at) (first_of (flow.Member at) k)
        failed_in (Err (flow.BadReply at bad)) k = tt
        failed_in (Err (flow.RequestTooLong at size)) k = tt
        failed_in (Err flow.Memory) k = tt

        required_in : (o : Result Answers FlowError) → AreSortedOut es (zip ps rs) o → IfErr o (IsRequired es)
        required_in (Ok a) k = tt
        required_in (Err (flow.Member at)) k = required (flow.Member at) k
        required_in (Err (flow.BadReply at bad)) k = required (flow.BadReply at bad) k
        required_in (Err (flow.RequestTooLong at size)) k = required (flow.RequestTooLong at size) k
        required_in (Err flow.Memory) k = tt
