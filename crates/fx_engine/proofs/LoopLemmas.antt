-- Rounds, one after the other: each leaves out a member that was kept, so they come to an end.
use Rattle.std.proofs.Common.{◌≡◌, ◌∙◌, ap, sym, subst, refl, inl, inr, ◌⊎◌, ℕ, zero, suc, ◌+◌, ◌<◌, Bool, true, false, List, [], ◌∷◌, ◌++◌, length, take, Some, All, Result, Ok, Err, IfOk, slice_get, slice_set, arith}
use Rattle.std.specs.Prelude.{Contains, slice_index_or}
use Rattle.std.specs.List.{AllByRecursion, sum_by, zip}
use Rattle.std.proofs.lemmas.List.Elements.{All-from_recursion, filter_passes, recursion_from_All}
use Rattle.std.proofs.lemmas.List.Sums.{sum_by-cons}
use Rattle.fx_terms.specs.declared.patterns.Pattern.{Pattern}
use Rattle.fx_outside.specs.Endpoints.{EndpointParts}
use Rattle.fx_algebra.specs.Solutions.{Bindings}
use Rattle.fx_algebra.specs.Units.{is_kept}
use Rattle.fx_algebra.specs.declared.queries.Query.{Query}
use Rattle.fx_grammar.specs.Accepted.{Accepted}
use Rattle.fx_plan.specs.declared.parts.Part.{Part}
use Rattle.fx_flows.specs.Flows.{Names}
use Rattle.fx_flows.specs.RunFlows.{HasFlowCause}
use Rattle.fx_flows.specs.declared.flows.FlowError.{FlowError}
use Rattle.fx_flows.specs.declared.flows.FlowError.TheVariants as flow
use Rattle.fx_keys.specs.Probes.{key_of}
use Rattle.fx_sources.specs.Probes.{Entry, members_of}
use Rattle.fx_traffic.specs.Gains.{IsMemberIn}
use Rattle.fx_traffic.specs.Sent.{Sent}
use Rattle.fx_wire.specs.Exchanges.{Exchange, Seen}
use Rattle.fx_walks.specs.GroupsAsked.{units_in}
use Rattle.fx_walks.specs.Sections.{parts_with}
use Rattle.fx_walks.specs.Tasks.{tasks_with}
use Rattle.fx_outcomes.specs.InRounds.{IsLast, WentRound, plan_over}
use Rattle.fx_outcomes.specs.Outcomes.{Outcomed}
use Rattle.fx_outcomes.specs.RoundEnds.{AreAbandoned, IsAbandoned, LeavesOut, RoundEnded}
use Rattle.fx_outcomes.specs.Rounds.{AreStillKept, IsLeftBy, IsRequired, MayLeave, kept_choice, kept_entries, without, without_all}
use Rattle.fx_outcomes.specs.declared.federated.FedError.{FedError}
use Rattle.fx_outcomes.specs.declared.federated.FedError.TheVariants as fed
use Rattle.fx_outcomes.specs.declared.federated.Outcome.{Outcome}
use Rattle.fx_outcomes.specs.declared.rounds.Answers.{Answers}
use Rattle.fx_outcomes.specs.declared.rounds.Ended.{Ended}
use Rattle.fx_outcomes.specs.declared.rounds.Ended.TheVariants as ended
use Rattle.fx_outcomes.specs.declared.rounds.Left.{Left}
use Rattle.fx_outcomes.specs.declared.rounds.OutcomeInRounds.{OutcomeInRounds}
use Rattle.fx_outcomes.specs.declared.rounds.Round.{Round}
use Rattle.fx_outcomes.proofs.InvocationLemmas.{not_invoked}
use Rattle.fx_engine.specs.Rounds.{LeavesKept}
use Rattle.fx_engine.specs.declared.questions.Question.{Question}
use Rattle.fx_engine.proofs.KeptLemmas.{its_member}
use Rattle.fx_engine.proofs.RefusalLemmas.{lost_outcomed}
use Rattle.fx_pool.proofs.WiresLemmas.{AllTell}

-- ---- the member that is left out was kept

-- the number that the refusal names is that of who is left out
its_number : (why : FlowError) (l : Left) (at : ℕ) → IsLeftBy why l → Names at why → at ≡ l.at
its_number (flow.Member it) l at its names = sym names ∙ sym (ap (λ (x : Left). x.at) its)
its_number (flow.BadReply it bad) l at its names = sym names ∙ sym (ap (λ (x : Left). x.at) its)
its_number (flow.RequestTooLong it size) l at its names = sym names ∙ sym (ap (λ (x : Left). x.at) its)
its_number flow.Memory l at its names = absurd its

-- a cause that names somebody is at a batch
at_batch : (s t : List Seen) (es : List EndpointParts) (plan : List Part) (found : List (List Bindings)) (block : ℕ) (wanted : List Sent) (xs : List Exchange) (why : FlowError) (l : Left) → IsLeftBy why l → HasFlowCause s t es (units_in (tasks_with plan found)) block wanted xs why
    → IsMemberIn (units_in (tasks_with plan found)) l.at
at_batch s t es plan found block wanted xs (flow.Member it) l its k = (k.unit, k.of_run, subst (Contains k.unit.members) (its_number (flow.Member it) l k.at its k.named) k.member)
at_batch s t es plan found block wanted xs (flow.BadReply it bad) l its k = (k.unit, k.of_run, subst (Contains k.unit.members) (its_number (flow.BadReply it bad) l k.at its k.named) k.member)
at_batch s t es plan found block wanted xs (flow.RequestTooLong it size) l its k = (k.unit, k.of_run, subst (Contains k.unit.members) (its_number (flow.RequestTooLong it size) l k.at its k.named) k.member)
at_batch s t es plan found block wanted xs flow.Memory l its k = absurd its

choice_kept : (kept : List Bool) (entries : List Entry) (members : ℕ) (p : Pattern) → All (λ at. is_kept kept at ≡ true) (kept_choice kept entries members p)
choice_kept kept entries members p = filter_passes (is_kept kept) (members_of entries members (key_of p))

one_of : (P : Left → Type 0) (left : List Left) (l : Left) → left ≡ l ∷ [] → P l → All P left
one_of P left l is h = subst (All P) (sym is) (All-from_recursion P (l ∷ []) (h, tt))

pub leaves_kept : (tells alone : Bool) (s t : List Seen) (es : List EndpointParts) (q : Query) (kept : List Bool) (entries : List Entry) (block : ℕ) (r : Round) → IsAbandoned tells alone s t es q (parts_with (kept_choice kept entries (length es)) q) block r → All (MayLeave es kept) r.left
leaves_kept tells alone s t es q kept entries block r h =
    let f = kept_choice kept entries (length es) in
    let member = at_batch s t es (parts_with f q) h.went.found block h.went.texts h.went.of_runs h.why h.left h.its h.cause in
    one_of (MayLeave es kept) r.left h.left h.left_is (record { optional = h.optional; was_kept = its_member (λ at. is_kept kept at ≡ true) f (choice_kept kept entries (length es)) q h.went.found h.left.at member })

-- ---- marks

kept_at : (kept : List Bool) (at : ℕ) → is_kept kept at ≡ true → slice_get kept at ≡ Some true
kept_at [] at h = absurd (cc)
kept_at (k ∷ kept) zero h = ap (λ (b : Bool). Some b) h
kept_at (k ∷ kept) (suc at) h = kept_at kept at h

kept_within : (kept : List Bool) (at : ℕ) → is_kept kept at ≡ true → at < length kept
kept_within [] at h = absurd (cc)
kept_within (k ∷ kept) zero h = omega arith
kept_within (k ∷ kept) (suc at) h = let low : at < length kept = kept_within kept at h in omega (arith, low)

pub left_within : (es : List EndpointParts) (kept : List Bool) (left : List Left) → AllByRecursion (MayLeave es kept) left → AllByRecursion (λ l. l.at < length kept) left
left_within es kept [] h = tt
left_within es kept (l ∷ left) h = (kept_within kept l.at h.0.was_kept, left_within es kept left h.1)

-- who is kept behind was kept before
without_kept : (kept : List Bool) (gone at : ℕ) → is_kept (without gone kept) at ≡ true → is_kept kept at ≡ true
without_kept [] gone at h = h
without_kept (k ∷ kept) zero zero h = absurd (cc)
without_kept (k ∷ kept) zero (suc at) h = h
without_kept (k ∷ kept) (suc gone) zero h = h
without_kept (k ∷ kept) (suc gone) (suc at) h = without_kept kept gone at h

all_without_kept : (left : List Left) (kept : List Bool) (at : ℕ) → is_kept (without_all left kept) at ≡ true → is_kept kept at ≡ true
all_without_kept [] kept at h = h
all_without_kept (l ∷ left) kept at h = without_kept kept l.at at (all_without_kept left (without l.at kept) at h)

pub still_kept : (left : List Left) (kept last before : List Bool) → last ≡ without_all left kept → AreStillKept kept before → AreStillKept last before
still_kept left kept last before is h at m = h at (all_without_kept left kept at (subst (λ (v : List Bool). is_kept v at ≡ true) is m))

-- ---- the measure

abbrev pub is_one : Bool → ℕ
is_one true = 1
is_one false = 0

-- how many are kept
abbrev pub count : List Bool → ℕ
count kept = sum_by is_one kept

fewer : (kept : List Bool) (at : ℕ) → slice_get kept at ≡ Some true → count (slice_set kept at false) < count kept
fewer [] at h = absurd (cc)
fewer (k ∷ kept) zero h =
    let is : k ≡ true = cc in
    let one : count (false ∷ kept) ≡ 0 + count kept = sum_by-cons is_one false kept in
    let two : count (k ∷ kept) ≡ is_one k + count kept = sum_by-cons is_one k kept in
    let three : is_one k ≡ 1 = ap is_one is in
    omega (arith, one, two, three)
fewer (k ∷ kept) (suc at) h =
    let rest = fewer kept at h in
    let one : count (k ∷ slice_set kept at false) ≡ is_one k + count (slice_set kept at false) = sum_by-cons is_one k (slice_set kept at false) in
    let two : count (k ∷ kept) ≡ is_one k + count kept = sum_by-cons is_one k kept in
    omega (arith, one, two, rest)

-- the one of an abandoned round is left out of those that were kept
pub fewer_kept : (tells alone : Bool) (s t : List Seen) (es : List EndpointParts) (q : Query) (plan : List Part) (block : ℕ) (kept last : List Bool) (r : Round) → IsAbandoned tells alone s t es q plan block r → All (MayLeave es kept) r.left → last ≡ without_all r.left kept
    → count last < count kept
fewer_kept tells alone s t es q plan block kept last r h may is =
    let left : without_all r.left kept ≡ slice_set kept h.left.at false = ap (λ (v : List Left). without_all v kept) h.left_is in
    let its : MayLeave es kept h.left = (recursion_from_All (MayLeave es kept) (h.left ∷ []) (subst (All (MayLeave es kept)) h.left_is may)).0 in
    subst (λ (v : List Bool). count v < count kept) (sym (is ∙ left)) (fewer kept h.left.at (kept_at kept h.left.at its.was_kept))

-- ---- leaving out

without_more : (front : List Left) (l : Left) (kept : List Bool) → without_all (front ++ l ∷ []) kept ≡ slice_set (without_all front kept) l.at false
without_more [] l kept = refl
without_more (f ∷ front) l kept = without_more front l (without f.at kept)

left_more : (left : List Left) (n : ℕ) (d : Left) → n < length left → take (n + 1) left ≡ take n left ++ slice_index_or left n d ∷ []
left_more [] n d h = absurd (omega (arith, h))
left_more (l ∷ left) zero d h = refl
left_more (l ∷ left) (suc n) d h =
    let more : suc n + 1 ≡ suc (n + 1) = omega arith in
    ap (λ (m : ℕ). take m (l ∷ left)) more ∙ ap (λ (v : List Left). l ∷ v) (left_more left n d (let down : n < length left = omega (arith, h) in down))

pub left_next : (left : List Left) (n : ℕ) (d : Left) (now kept : List Bool) → n < length left → d ≡ slice_index_or left n d → now ≡ without_all (take n left) kept → slice_set now d.at false ≡ without_all (take (n + 1) left) kept
left_next left n d now kept h its is =
    ap (λ (v : List Bool). slice_set v d.at false) is
    ∙ ap (λ (l : Left). slice_set (without_all (take n left) kept) l.at false) its
    ∙ sym (ap (λ (v : List Left). without_all v kept) (left_more left n d h) ∙ without_more (take n left) (slice_index_or left n d) kept)

-- ---- one round more

module _ (tells alone : Bool) (es : List EndpointParts) (q : Query) (plan : List Bool → List Part) (block : ℕ) where
  pub none_abandoned : (s : List Seen) (kept last : List Bool) (rounds : List Round) → last ≡ kept → rounds ≡ [] → AreAbandoned tells alone s s es q plan block kept last rounds
  none_abandoned s kept last rounds same is = subst (AreAbandoned tells alone s s es q plan block kept last) (sym is) (refl, same)

  behind : (s t u : List Seen) (kept mid : List Bool) (rounds : List Round) (r : Round) → AreAbandoned tells alone s t es q plan block kept mid rounds → IsAbandoned tells alone t u es q (plan mid) block r → All (MayLeave es mid) r.left
      → AreAbandoned tells alone s u es q plan block kept (without_all r.left mid) (rounds ++ r ∷ [])
  behind s t u kept mid [] r h k may = (
    u,
    subst (λ (v : List Seen). IsAbandoned tells alone v u es q (plan kept) block r) h.0 (subst (λ (v : List Bool). IsAbandoned tells alone t u es q (plan v) block r) h.1 k),
    subst (λ (v : List Bool). All (MayLeave es v) r.left) h.1 may,
    (refl, ap (without_all r.left) h.1),
  )
  behind s t u kept mid (first ∷ rounds) r h k may = (h.0, h.1, h.2, behind h.0 t u (without_all first.left kept) mid rounds r h.3 k may)

  pub one_more : (s t u : List Seen) (kept mid last : List Bool) (rounds more : List Round) (r : Round) → AreAbandoned tells alone s t es q plan block kept mid rounds → IsAbandoned tells alone t u es q (plan mid) block r → All (MayLeave es mid) r.left
      → last ≡ without_all r.left mid → more ≡ rounds ++ r ∷ [] → AreAbandoned tells alone s u es q plan block kept last more
  one_more s t u kept mid last rounds more r h k may is are =
      subst (λ (v : List Bool). AreAbandoned tells alone s u es q plan block kept v more) (sym is)
      (subst (λ (v : List Round). AreAbandoned tells alone s u es q plan block kept (without_all r.left mid) v) (sym are) (behind s t u kept mid rounds r h k may))

  -- ---- how they end

  abbrev Last : List Seen → List Seen → List Bool → Result Outcome FedError → Type 0
  Last t u kept r = Outcomed (IsRequired es) (LeavesOut es) tells alone t u es q (plan kept) block r

  ended_so : (s t u : List Seen) (kept mid : List Bool) (rounds : List Round) → AreAbandoned tells alone s t es q plan block kept mid rounds → (r : Result Outcome FedError) → Last t u mid r → (all : Result OutcomeInRounds FedError) → IsLast r all → IfOk all (λ x. x.abandoned ≡ rounds)
      → WentRound tells alone s u es q plan block kept all
  ended_so s t u kept mid rounds h r last all told listed = record { abandoned = rounds; between = t; last_kept = mid; rounds = h; ended = r; last = last; told = told; listed = listed }

  pub went_given : (s t u : List Seen) (kept mid : List Bool) (rounds : List Round) → AreAbandoned tells alone s t es q plan block kept mid rounds → (outcome : Outcome) → Last t u mid (Ok outcome) → (all : OutcomeInRounds) → all.outcome ≡ outcome → all.abandoned ≡ rounds
      → WentRound tells alone s u es q plan block kept (Ok all)
  went_given s t u kept mid rounds h outcome last all same listed = ended_so s t u kept mid rounds h (Ok outcome) last (Ok all) same listed

  its_last : (e : FedError) → IsLast (Err e) (Err e)
  its_last (fed.Member name) = refl
  its_last (fed.Service iri) = refl
  its_last (fed.BadReply name bad) = refl
  its_last (fed.RequestTooLong name size) = refl
  its_last (fed.UnknownService iri) = refl
  its_last fed.Memory = tt

  pub went_refused : (s t u : List Seen) (kept mid : List Bool) (rounds : List Round) → AreAbandoned tells alone s t es q plan block kept mid rounds → (e : FedError) → Last t u mid (Err e) → WentRound tells alone s u es q plan block kept (Err e)
  went_refused s t u kept mid rounds h e last = ended_so s t u kept mid rounds h (Err e) last (Err e) (its_last e) tt

  -- memory ran out before a round
  pub went_lost : (s t : List Seen) (kept mid : List Bool) (rounds : List Round) → AreAbandoned tells alone s t es q plan block kept mid rounds → AllTell tells t → (text : List ℕ) → Accepted text q → WentRound tells alone s t es q plan block kept (Err fed.Memory)
  went_lost s t kept mid rounds h tell text accepted =
      went_refused s t t kept mid rounds h fed.Memory (lost_outcomed tells alone t t tell tell es q text accepted (plan mid) block (not_invoked tells alone t es _) (IsRequired es) (LeavesOut es) tt)

  -- or behind one that was abandoned
  as_lost : (t u : List Seen) (mid : List Bool) (same : FlowError → Type 0) (e : FedError) → Outcomed same same tells alone t u es q (plan mid) block (Err e) → Last t u mid (Err fed.Memory)
  as_lost t u mid same e k = record {
    found = k.found;
    exchanges = k.exchanges;
    gained = k.gained;
    after_all = k.after_all;
    calls = k.calls;
    called = k.called;
    behind = k.behind;
    all_called = tt;
    passed = tt;
    down = tt;
    counted = k.counted;
    exact = λ is. tt;
    of_calls = k.of_calls;
    of_runs = k.of_runs;
    parted = k.parted;
    are_calls = k.are_calls;
    texts = k.texts;
    of_batches = k.of_batches;
    left = k.left;
    sent = k.sent;
    whole = tt;
    faultless = tt;
    runs = k.runs;
    answer = tt;
    cause = inl (flow.Memory, tt, tt, tt);
    own_failure = tt;
    in_turn = inl (flow.Memory, tt, tt, tt);
  }

  pub went_unnoted : (s t u : List Seen) (kept mid : List Bool) (rounds : List Round) → AreAbandoned tells alone s t es q plan block kept mid rounds → (r : Round) → IsAbandoned tells alone t u es q (plan mid) block r → WentRound tells alone s u es q plan block kept (Err fed.Memory)
  went_unnoted s t u kept mid rounds h r k = went_refused s t u kept mid rounds h fed.Memory (as_lost t u mid (λ it. it ≡ k.why) k.error k.went)

-- ---- of a question

module _ (tells alone : Bool) (question : Question) (old : List Entry) (a : Answers) where
  abbrev its_endpoints : List EndpointParts
  its_endpoints = question.registry.now

  abbrev its_plan : List Bool → List Part
  its_plan = plan_over question.registry.now question.query.now old a

  -- a round over these members, or none
  abbrev pub Over : List Seen → List Seen → List Bool → Result Ended FedError → Type 0
  Over t u kept r =
      ((u ≡ t) × (r ≡ Err fed.Memory)) ⊎ (RoundEnded tells alone t u question.registry.now question.query.now (plan_over question.registry.now question.query.now old a kept) question.block r × LeavesKept question kept r)

  its_leaves : (t u : List Seen) (kept : List Bool) (r : Result Ended FedError) → RoundEnded tells alone t u its_endpoints question.query.now (its_plan kept) question.block r → LeavesKept question kept r
  its_leaves t u kept (Ok (ended.Answered outcome)) h = tt
  its_leaves t u kept (Ok (ended.Abandoned r)) h =
      leaves_kept tells alone t u its_endpoints question.query.now kept (kept_entries kept (zip a.probes.items a.truths.items) old) question.block r h
  its_leaves t u kept (Err e) h = tt

  pub over_round : (t u : List Seen) (kept : List Bool) (parts : List Part) → parts ≡ its_plan kept → (r : Result Ended FedError) → RoundEnded tells alone t u its_endpoints question.query.now parts question.block r → Over t u kept r
  over_round t u kept parts are r h =
      let k = subst (λ (v : List Part). RoundEnded tells alone t u its_endpoints question.query.now v question.block r) are h in
      inr (k, its_leaves t u kept r k)

  module _ (s t u : List Seen) (first mid lent : List Bool) (rounds : List Round) (gone : AreAbandoned tells alone s t its_endpoints question.query.now its_plan question.block first mid rounds) (same : lent ≡ mid) where
    abbrev Went : List Seen → Result OutcomeInRounds FedError → Type 0
    Went v r = WentRound tells alone s v its_endpoints question.query.now its_plan question.block first r

    abbrev refused : FedError → Result Ended FedError
    refused e = Err e

    abbrev ended_so_far : Ended → Result Ended FedError
    ended_so_far x = Ok x

    one_error : (x y : FedError) → refused x ≡ refused y → x ≡ y
    one_error x y h = cc

    pub over_stopped : AllTell tells t → (text : List ℕ) → Accepted text question.query.now → (e : FedError) → Over t u lent (Err e) → Went u (Err e)
    over_stopped tell text accepted e (inl h) =
        let lost : e ≡ fed.Memory = one_error e fed.Memory h.1 in
        subst (λ (v : List Seen). Went v (Err e)) (sym h.0)
        (subst (λ (x : FedError). Went t (Err x)) (sym lost) (went_lost tells alone its_endpoints question.query.now its_plan question.block s t first mid rounds gone tell text accepted))
    over_stopped tell text accepted e (inr h) =
        went_refused tells alone its_endpoints question.query.now its_plan question.block s t u first mid rounds gone e
        (subst (λ (v : List Bool). Outcomed (IsRequired its_endpoints) (LeavesOut its_endpoints) tells alone t u its_endpoints question.query.now (its_plan v) question.block (Err e)) same h.0)

    not_lost : (x : Ended) → ended_so_far x ≡ refused fed.Memory → ⊥
    not_lost x h = cc

    pub over_given : (x : Ended) → Over t u lent (Ok x) → (outcome : Outcome) → x ≡ ended.Answered outcome → (all : OutcomeInRounds) → all.outcome ≡ outcome → all.abandoned ≡ rounds → Went u (Ok all)
    over_given x (inl h) outcome is all given listed = absurd (not_lost x h.1)
    over_given x (inr h) outcome is all given listed =
        let k = subst (λ (e : Ended). RoundEnded tells alone t u its_endpoints question.query.now (its_plan lent) question.block (Ok e)) is h.0 in
        went_given tells alone its_endpoints question.query.now its_plan question.block s t u first mid rounds gone outcome
        (subst (λ (v : List Bool). Outcomed (IsRequired its_endpoints) (LeavesOut its_endpoints) tells alone t u its_endpoints question.query.now (its_plan v) question.block (Ok outcome)) same k) all given listed

    pub over_abandoned : (x : Ended) → Over t u lent (Ok x) → (r : Round) → x ≡ ended.Abandoned r → IsAbandoned tells alone t u its_endpoints question.query.now (its_plan mid) question.block r × All (MayLeave its_endpoints mid) r.left
    over_abandoned x (inl h) r is = absurd (not_lost x h.1)
    over_abandoned x (inr h) r is =
        let k = subst (λ (e : Ended). RoundEnded tells alone t u its_endpoints question.query.now (its_plan lent) question.block (Ok e)) is h.0 in
        let m = subst (λ (e : Ended). LeavesKept question lent (Ok e)) is h.1 in (
          subst (λ (v : List Bool). IsAbandoned tells alone t u its_endpoints question.query.now (its_plan v) question.block r) same k,
          subst (λ (v : List Bool). All (MayLeave its_endpoints v) r.left) same m,
        )

pub all_left_within : (es : List EndpointParts) (kept : List Bool) (left : List Left) → All (MayLeave es kept) left → All (λ l. l.at < length kept) left
all_left_within es kept left h = All-from_recursion (λ (l : Left). l.at < length kept) left (left_within es kept left (recursion_from_All (MayLeave es kept) left h))
