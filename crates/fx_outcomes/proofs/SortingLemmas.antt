-- Sorting the replies to probes, one after the other.
use Rattle.std.proofs.Common.{◌≡◌, ◌∙◌, ap, sym, subst, refl, ℕ, zero, suc, ◌<◌, Bool, true, false, List, [], ◌∷◌, ◌++◌, map, Option, None, Err, All, length, inl, inr, ◌⊎◌, arith, append-nil, append_assoc, ◌≤◌}
use Rattle.std.specs.List.{AllByRecursion, cons_option, zip}
use Rattle.std.proofs.lemmas.List.{length-replicate, length-set, map-append}
use Rattle.std.proofs.lemmas.List.Elements.{All-nil, All-push, All-weaker, filter_map-append, All-contains}
use Rattle.fx_outside.specs.Endpoints.{EndpointParts}
use Rattle.fx_algebra.specs.Units.{is_kept}
use Rattle.fx_keys.specs.declared.probes.Probe.{Probe}
use Rattle.fx_flows.specs.Flows.{Names}
use Rattle.fx_flows.specs.declared.flows.FlowError.{FlowError}
use Rattle.fx_flows.specs.declared.flows.FlowError.TheVariants as flow
use Rattle.fx_pool.specs.declared.jobs.JobReply.{JobReply}
use Rattle.fx_pool.specs.declared.jobs.JobReply.TheVariants as reply
use Rattle.fx_outcomes.specs.AskSteps.{IsForAsk, IsRefusal}
use Rattle.fx_outcomes.specs.Rounds.{IsLeftBy, IsMarked, MayAllLeave, MayLeave, everybody, without, without_all, ComeByMember, RiseByNumber}
use Rattle.fx_outcomes.specs.Sorting.{AreNone, AreSorted, AreSortedOut, IsAdded, IsAnswer, IsAnswered, IsFirstRefused, IsLeftFor, IsLeftOut, IsOut, IsPassed, IsPassedOver, IsTakenIn, Leaves, Replied, answer_of, answered}
use Rattle.fx_outcomes.specs.declared.rounds.Answers.{Answers}
use Rattle.fx_outcomes.specs.declared.rounds.Left.{Left}
use Rattle.fx_terms.proofs.SetLemmas.{Among, contains_from}

-- ---- numbers

-- a refusal names the endpoint whose reply it is of
pub refusal_names : (at : ℕ) (r : JobReply) (e : FlowError) → IsRefusal at r e → Names at e
refusal_names at reply.Failed e h = subst (Names at) (sym h) refl
refusal_names at (reply.Bad bad) e h = subst (Names at) (sym h) refl
refusal_names at (reply.TooLong size) e h = subst (Names at) (sym h) refl
refusal_names at (reply.Truth truth) e h = absurd h
refusal_names at (reply.Found founds) e h = absurd h
refusal_names at (reply.Table rows) e h = absurd h

-- and the member that is left out for it is that one
pub left_named : (at : ℕ) (e : FlowError) (l : Left) → Names at e → IsLeftBy e l → l.at ≡ at
left_named at (flow.Member it) l names is = ap (λ (x : Left). x.at) is ∙ names
left_named at (flow.BadReply it bad) l names is = ap (λ (x : Left). x.at) is ∙ names
left_named at (flow.RequestTooLong it size) l names is = ap (λ (x : Left). x.at) is ∙ names
left_named at flow.Memory l names is = absurd is

-- ---- marks

pub without_it : (kept : List Bool) (at : ℕ) → is_kept (without at kept) at ≡ false
without_it [] at = refl
without_it (k ∷ kept) zero = refl
without_it (k ∷ kept) (suc at) = without_it kept at

still_gone : (kept : List Bool) (at it : ℕ) → is_kept kept it ≡ false → is_kept (without at kept) it ≡ false
still_gone [] at it h = h
still_gone (k ∷ kept) zero zero h = refl
still_gone (k ∷ kept) zero (suc it) h = h
still_gone (k ∷ kept) (suc at) zero h = h
still_gone (k ∷ kept) (suc at) (suc it) h = still_gone kept at it h

without_more : (left : List Left) (l : Left) (kept : List Bool) → without_all (left ++ l ∷ []) kept ≡ without l.at (without_all left kept)
without_more [] l kept = refl
without_more (k ∷ left) l kept = without_more left l (without k.at kept)

as_many_marks : (left : List Left) (kept : List Bool) → length (without_all left kept) ≡ length kept
as_many_marks [] kept = refl
as_many_marks (l ∷ left) kept = as_many_marks left (without l.at kept) ∙ length-set kept l.at false

more_leave : (es : List EndpointParts) (kept : List Bool) (left : List Left) (l : Left) → MayAllLeave es kept left → MayLeave es (without_all left kept) l → MayAllLeave es kept (left ++ l ∷ [])
more_leave es kept [] l h m = (m, tt)
more_leave es kept (k ∷ left) l h m = (h.0, more_leave es (without k.at kept) left l h.1 m)

-- ---- one more pair

more_answered : (done : List Replied) (p : Probe) (r : JobReply) (truth : Bool) → r ≡ reply.Truth truth → answered (done ++ (p, r) ∷ []) ≡ answered done ++ (p, truth) ∷ []
more_answered done p r truth is =
    filter_map-append (λ (x : Replied). answer_of x.0 x.1) done ((p, r) ∷ [])
    ∙ ap (λ (s : JobReply). answered done ++ cons_option (answer_of p s) []) is

none_from : (at : ℕ) (p : Probe) (r : JobReply) (e : FlowError) → IsRefusal at r e → answer_of p r ≡ None
none_from at p reply.Failed e h = refl
none_from at p (reply.Bad bad) e h = refl
none_from at p (reply.TooLong size) e h = refl
none_from at p (reply.Truth truth) e h = absurd h
none_from at p (reply.Found founds) e h = absurd h
none_from at p (reply.Table rows) e h = absurd h

no_more_answered : (done : List Replied) (p : Probe) (r : JobReply) (e : FlowError) → IsRefusal p.at r e → answered (done ++ (p, r) ∷ []) ≡ answered done
no_more_answered done p r e is =
    filter_map-append (λ (x : Replied). answer_of x.0 x.1) done ((p, r) ∷ [])
    ∙ ap (λ (o : Option (Probe × Bool)). answered done ++ cons_option o []) (none_from p.at p r e is)
    ∙ append-nil (answered done)

more_behind : (pairs : List Replied) (x : Replied) (l : Left) → IsLeftFor pairs l → IsLeftFor (pairs ++ x ∷ []) l
more_behind pairs x l k = record {
  before = k.before;
  probe = k.probe;
  reply = k.reply;
  behind = k.behind ++ x ∷ [];
  split = ap (λ (v : List Replied). v ++ x ∷ []) k.split ∙ append_assoc k.before ((k.probe, k.reply) ∷ k.behind) (x ∷ []);
  first = k.first;
  why = k.why;
  refused = k.refused;
  named = k.named;
}

all_behind : (pairs : List Replied) (x : Replied) (left : List Left) → All (IsLeftFor pairs) left → All (IsLeftFor (pairs ++ x ∷ [])) left
all_behind pairs x left h = All-weaker (IsLeftFor pairs) (IsLeftFor (pairs ++ x ∷ [])) (more_behind pairs x) left h

-- ---- by number

-- of probes that come by member, the last one's comes last
front_comes : (low : ℕ) (ps : List Probe) (p : Probe) → ComeByMember low (ps ++ p ∷ []) → ComeByMember low ps
front_comes low [] p h = tt
front_comes low (q ∷ ps) p h = (h.0, front_comes q.at ps p h.1)

low_before : (low : ℕ) (ps : List Probe) (p : Probe) → ComeByMember low (ps ++ p ∷ []) → low ≤ p.at
low_before low [] p h = h.0
low_before low (q ∷ ps) p h = let first : low ≤ q.at = h.0 in let rest = low_before q.at ps p h.1 in omega (arith, first, rest)

comes_last : (low : ℕ) (ps : List Probe) (p q : Probe) → ComeByMember low (ps ++ p ∷ []) → Among q ps → q.at ≤ p.at
comes_last low [] p q h m = absurd m
comes_last low (o ∷ ps) p q h (inl same) = subst (λ (v : Probe). v.at ≤ p.at) same (low_before o.at ps p h.1)
comes_last low (o ∷ ps) p q h (inr m) = comes_last o.at ps p q h.1 m

-- a number that is no greater is less or the same
leq_or : (k n : ℕ) → k ≤ n → (k < n) ⊎ (k ≡ n)
leq_or zero zero h = inr refl
leq_or zero (suc n) h = inl (omega arith)
leq_or (suc k) zero h = absurd (omega (arith, h))
leq_or (suc k) (suc n) h = by (leq_or k n (omega (arith, h)))
  where
    by : (k < n) ⊎ (k ≡ n) → (suc k < suc n) ⊎ (suc k ≡ suc n)
    by (inl less) = inl (omega (arith, less))
    by (inr same) = inr (ap suc same)

strictly : (k n it : ℕ) → k ≤ n → (k ≡ n → ⊥) → it ≡ n → k < it
strictly k n it low apart is = by (leq_or k n low)
  where
    by : (k < n) ⊎ (k ≡ n) → k < it
    by (inl less) = omega (arith, less, is)
    by (inr same) = absurd (apart same)

-- one more with a greater number
rises_on : (low : ℕ) (left : List Left) (it : Left) → RiseByNumber low left → low ≤ it.at → ((l : Left) → Among l left → l.at < it.at) → RiseByNumber low (left ++ it ∷ [])
rises_on low [] it h least f = (least, tt)
rises_on low (l ∷ left) it h least f = (h.0, rises_on (suc l.at) left it h.1 (let first = f l (inl refl) in omega (arith, first)) (λ k m. f k (inr m)))

-- who is left out isn't kept
stays_gone : (left : List Left) (kept : List Bool) (at : ℕ) → is_kept kept at ≡ false → is_kept (without_all left kept) at ≡ false
stays_gone [] kept at h = h
stays_gone (l ∷ left) kept at h = stays_gone left (without l.at kept) at (still_gone kept l.at at h)

left_gone : (left : List Left) (kept : List Bool) (l : Left) → Among l left → is_kept (without_all left kept) l.at ≡ false
left_gone [] kept l m = absurd m
left_gone (k ∷ left) kept l (inl same) = stays_gone left (without k.at kept) l.at (ap (λ (x : Left). is_kept (without k.at kept) x.at) (sym same) ∙ without_it kept k.at)
left_gone (k ∷ left) kept l (inr m) = left_gone left (without k.at kept) l m

in_the_middle : (before behind : List Probe) (p : Probe) → Among p (before ++ p ∷ behind)
in_the_middle [] behind p = inl refl
in_the_middle (q ∷ before) behind p = inr (in_the_middle before behind p)

-- it is the number of one of the probes
left_number : (pairs : List Replied) (l : Left) → IsLeftFor pairs l → (p : Probe) × Among p (map (λ x. x.0) pairs) × (l.at ≡ p.at)
left_number pairs l k =
    let probes : map (λ (x : Replied). x.0) pairs ≡ map (λ (x : Replied). x.0) k.before ++ k.probe ∷ map (λ (x : Replied). x.0) k.behind =
    ap (map (λ (x : Replied). x.0)) k.split ∙ map-append (λ (x : Replied). x.0) k.before ((k.probe, k.reply) ∷ k.behind) in
    (k.probe, subst (λ (v : List Probe). Among k.probe v) (sym probes) (in_the_middle (map (λ (x : Replied). x.0) k.before) (map (λ (x : Replied). x.0) k.behind) k.probe), left_named k.probe.at k.why l (refusal_names k.probe.at k.reply k.why k.refused) k.named)

-- ---- what is sorted

-- nothing yet
none_sorted : (es : List EndpointParts) (a : Answers) → AreNone (length es) a → AreSorted es [] a
none_sorted es a h = record {
  probes_are = h.probes;
  truths_are = h.truths;
  passed = All-nil (IsPassed es a.kept.items);
  left_for = subst (All (IsLeftFor [])) (sym h.left) (All-nil (IsLeftFor []));
  may_leave = subst (MayAllLeave es (everybody es)) (sym h.left) tt;
  those_kept = h.kept ∙ ap (λ (v : List Left). without_all v (everybody es)) (sym h.left);
  by_number = λ come. subst (RiseByNumber 0) (sym h.left) tt;
}

-- so many members have a mark
pub marks_of_all : (es : List EndpointParts) (pairs : List Replied) (a : Answers) → AreSorted es pairs a → length a.kept.items ≡ length es
marks_of_all es pairs a h = ap length h.those_kept ∙ as_many_marks a.left.items (everybody es) ∙ length-replicate (length es) true

module _ (es : List EndpointParts) (done : List Replied) (a b : Answers) (h : AreSorted es done a) (p : Probe) (r : JobReply) where
  abbrev before : List Probe
  before = map (λ (x : Replied). x.0) done

  come_so : ComeByMember 0 (map (λ (x : Replied). x.0) (done ++ (p, r) ∷ [])) → ComeByMember 0 (before ++ p ∷ [])
  come_so come = subst (ComeByMember 0) (map-append (λ (x : Replied). x.0) done ((p, r) ∷ [])) come

  still_rising : ComeByMember 0 (map (λ (x : Replied). x.0) (done ++ (p, r) ∷ [])) → RiseByNumber 0 a.left.items
  still_rising come = h.by_number (front_comes 0 before p (come_so come))

  answered_one : IsAnswered p r a b → AreSorted es (done ++ (p, r) ∷ []) b
  answered_one k =
      let more = more_answered done p r k.truth k.told in
      record {
        probes_are =
            k.added.probes
            ∙ ap (λ (v : List Probe). v ++ p ∷ []) h.probes_are
            ∙ sym (ap (map (λ (x : Probe × Bool). x.0)) more ∙ map-append (λ (x : Probe × Bool). x.0) (answered done) ((p, k.truth) ∷ []));
        truths_are =
            k.added.truths
            ∙ ap (λ (v : List Bool). v ++ k.truth ∷ []) h.truths_are
            ∙ sym (ap (map (λ (x : Probe × Bool). x.1)) more ∙ map-append (λ (x : Probe × Bool). x.1) (answered done) ((p, k.truth) ∷ []));
        passed =
            subst (λ (v : List Bool). All (IsPassed es v) (done ++ (p, r) ∷ [])) (sym k.added.kept)
            (All-push (IsPassed es a.kept.items) done (p, r) h.passed (inl (k.truth, k.told)));
        left_for = subst (All (IsLeftFor (done ++ (p, r) ∷ []))) (sym k.added.left) (all_behind done (p, r) a.left.items h.left_for);
        may_leave = subst (MayAllLeave es (everybody es)) (sym k.added.left) h.may_leave;
        those_kept = k.added.kept ∙ h.those_kept ∙ ap (λ (v : List Left). without_all v (everybody es)) (sym k.added.left);
        by_number = λ come. subst (RiseByNumber 0) (sym k.added.left) (still_rising come);
      }

  module _ (k : IsPassedOver es p r a b) where
    same_answers : answered (done ++ (p, r) ∷ []) ≡ answered done
    same_answers = no_more_answered done p r k.why k.refused

    -- its member was left out before
    out_before : IsOut p.at a b → AreSorted es (done ++ (p, r) ∷ []) b
    out_before o = record {
      probes_are = k.out.probes ∙ h.probes_are ∙ ap (map (λ (x : Probe × Bool). x.0)) (sym same_answers);
      truths_are = k.out.truths ∙ h.truths_are ∙ ap (map (λ (x : Probe × Bool). x.1)) (sym same_answers);
      passed =
          subst (λ (v : List Bool). All (IsPassed es v) (done ++ (p, r) ∷ [])) (sym o.kept)
          (All-push (IsPassed es a.kept.items) done (p, r) h.passed (inr (k.optional, o.gone)));
      left_for = subst (All (IsLeftFor (done ++ (p, r) ∷ []))) (sym o.left) (all_behind done (p, r) a.left.items h.left_for);
      may_leave = subst (MayAllLeave es (everybody es)) (sym o.left) h.may_leave;
      those_kept = o.kept ∙ h.those_kept ∙ ap (λ (v : List Left). without_all v (everybody es)) (sym o.left);
      by_number = λ come. subst (RiseByNumber 0) (sym o.left) (still_rising come);
    }

    -- or it is now
    module _ (o : Leaves p.at k.why a b) where
      its_number : o.it.at ≡ p.at
      its_number = left_named p.at k.why o.it (refusal_names p.at r k.why k.refused) o.named

      answered_before : (x : Replied) → IsPassed es a.kept.items x → x.0.at ≡ p.at → IsAnswer x.1
      answered_before x (inl answer) same = answer
      answered_before x (inr gone) same = absurd (both (sym (ap (is_kept a.kept.items) same) ∙ gone.1))
        where
          both : is_kept a.kept.items p.at ≡ false → ⊥
          both gone_so = let was : true ≡ false = sym o.was_kept ∙ gone_so in cc

      for_this : IsLeftFor (done ++ (p, r) ∷ []) o.it
      for_this = record {
        before = done;
        probe = p;
        reply = r;
        behind = [];
        split = refl;
        first = All-weaker (IsPassed es a.kept.items) (λ (x : Replied). x.0.at ≡ p.at → IsAnswer x.1) answered_before done h.passed;
        why = k.why;
        refused = k.refused;
        named = o.named;
      }

      still_passed : (x : Replied) → IsPassed es a.kept.items x → IsPassed es (without p.at a.kept.items) x
      still_passed x (inl answer) = inl answer
      still_passed x (inr gone) = inr (gone.0, still_gone a.kept.items p.at x.0.at gone.1)

      it_may : MayLeave es (without_all a.left.items (everybody es)) o.it
      it_may = record {
        optional = subst (IsMarked true es) (sym its_number) k.optional;
        was_kept = ap (is_kept (without_all a.left.items (everybody es))) its_number ∙ ap (λ (v : List Bool). is_kept v p.at) (sym h.those_kept) ∙ o.was_kept;
      }

      -- its number is greater than those before
      below : ComeByMember 0 (map (λ (x : Replied). x.0) (done ++ (p, r) ∷ [])) → (l : Left) → Among l a.left.items → l.at < o.it.at
      below come l m =
          let n = left_number done l (All-contains (IsLeftFor done) a.left.items l h.left_for (contains_from a.left.items l m)) in
          let low : n.0.at ≤ p.at = comes_last 0 before p n.0 (come_so come) n.1 in
          let same : l.at ≡ n.0.at = n.2 in
          strictly l.at p.at o.it.at (subst (λ (v : ℕ). v ≤ p.at) (sym same) low) (apart l m) its_number
        where
          apart : (l : Left) → Among l a.left.items → l.at ≡ p.at → ⊥
          apart l m equal =
              let gone : is_kept a.kept.items l.at ≡ false = ap (λ (v : List Bool). is_kept v l.at) h.those_kept ∙ left_gone a.left.items (everybody es) l m in
              let both : true ≡ false = sym o.was_kept ∙ ap (is_kept a.kept.items) (sym equal) ∙ gone in
              cc

      out_now : AreSorted es (done ++ (p, r) ∷ []) b
      out_now = record {
        probes_are = k.out.probes ∙ h.probes_are ∙ ap (map (λ (x : Probe × Bool). x.0)) (sym same_answers);
        truths_are = k.out.truths ∙ h.truths_are ∙ ap (map (λ (x : Probe × Bool). x.1)) (sym same_answers);
        passed =
            subst (λ (v : List Bool). All (IsPassed es v) (done ++ (p, r) ∷ [])) (sym o.kept)
            (All-push (IsPassed es (without p.at a.kept.items)) done (p, r) (All-weaker (IsPassed es a.kept.items) (IsPassed es (without p.at a.kept.items)) still_passed done h.passed)
            (inr (k.optional, without_it a.kept.items p.at)));
        left_for =
            subst (All (IsLeftFor (done ++ (p, r) ∷ []))) (sym o.left)
            (All-push (IsLeftFor (done ++ (p, r) ∷ [])) a.left.items o.it (all_behind done (p, r) a.left.items h.left_for) for_this);
        may_leave = subst (MayAllLeave es (everybody es)) (sym o.left) (more_leave es (everybody es) a.left.items o.it h.may_leave it_may);
        those_kept =
            o.kept
            ∙ ap (without p.at) h.those_kept
            ∙ sym
            (ap (λ (v : List Left). without_all v (everybody es)) o.left
            ∙ without_more a.left.items o.it (everybody es)
            ∙ ap (λ (n : ℕ). without n (without_all a.left.items (everybody es))) its_number);
        by_number = λ come.
            subst (RiseByNumber 0) (sym o.left)
            (rises_on 0 a.left.items o.it (still_rising come) (omega arith) (below come));
      }

    passed_one : IsOut p.at a b ⊎ Leaves p.at k.why a b → AreSorted es (done ++ (p, r) ∷ []) b
    passed_one (inl o) = out_before o
    passed_one (inr o) = out_now o

  -- one more
  pub one_more : IsAnswered p r a b ⊎ IsPassedOver es p r a b → AreSorted es (done ++ (p, r) ∷ []) b
  one_more (inl k) = answered_one k
  one_more (inr k) = passed_one k k.out.out

-- ---- all of them

-- some pairs are sorted, and these are left
pub record Sorting (es : List EndpointParts) (all : List Replied) (a : Answers) (left : List Probe) (unread : List JobReply) : Type 0 where
  pub done : List Replied
  pub whole : all ≡ done ++ zip left unread
  pub so_far : AreSorted es done a
  pub for_asks : AllByRecursion IsForAsk unread
  pub within : AllByRecursion (λ p. p.at < length es) left

pub sorting_starts : (es : List EndpointParts) (a : Answers) (left : List Probe) (unread : List JobReply) → AreNone (length es) a → AllByRecursion IsForAsk unread → AllByRecursion (λ p. p.at < length es) left → Sorting es (zip left unread) a left unread
sorting_starts es a left unread none for_asks within = record { done = []; whole = refl; so_far = none_sorted es a none; for_asks = for_asks; within = within }

module _ (es : List EndpointParts) (all : List Replied) (a : Answers) where
  -- the next probe and its reply
  pub next_pair : (p : Probe) (r : JobReply) (left : List Probe) (unread : List JobReply) (ps : List Probe) (rs : List JobReply) → ps ≡ p ∷ left → rs ≡ r ∷ unread → Sorting es all a ps rs → Sorting es all a (p ∷ left) (r ∷ unread)
  next_pair p r left unread ps rs e f h = subst (λ (v : List JobReply). Sorting es all a (p ∷ left) v) f (subst (λ (v : List Probe). Sorting es all a v rs) e h)

  module _ (p : Probe) (r : JobReply) (left : List Probe) (unread : List JobReply) (h : Sorting es all a (p ∷ left) (r ∷ unread)) where
    pub one_sorted : (b : Answers) → IsAnswered p r a b ⊎ IsPassedOver es p r a b → Sorting es all b left unread
    one_sorted b k = record {
      done = h.done ++ (p, r) ∷ [];
      whole = h.whole ∙ sym (append_assoc h.done ((p, r) ∷ []) (zip left unread));
      so_far = one_more es h.done a b h.so_far p r k;
      for_asks = h.for_asks.1;
      within = h.within.1;
    }

    passed_before : (x : Replied) → IsPassed es a.kept.items x → IsAnswer x.1 ⊎ IsMarked true es x.0.at
    passed_before x (inl answer) = inl answer
    passed_before x (inr gone) = inr gone.0

    first_refused : (e : FlowError) → IsRefusal p.at r e → IsMarked false es p.at → IsFirstRefused es all e
    first_refused e is required = record {
      before = h.done;
      probe = p;
      reply = r;
      behind = zip left unread;
      split = h.whole;
      passed = All-weaker (IsPassed es a.kept.items) (λ (x : Replied). IsAnswer x.1 ⊎ IsMarked true es x.0.at) passed_before h.done h.so_far.passed;
      refused = is;
      required = required;
    }

    pub one_turned_away : (b : Answers) (e : FlowError) → IsTakenIn es p r a b (Err e) → AreSortedOut es all (Err e)
    one_turned_away b (flow.Member at) k = first_refused (flow.Member at) k.0 k.1
    one_turned_away b (flow.BadReply at bad) k = first_refused (flow.BadReply at bad) k.0 k.1
    one_turned_away b (flow.RequestTooLong at size) k = first_refused (flow.RequestTooLong at size) k.0 k.1
    one_turned_away b flow.Memory k = tt

  no_pair : (left : List Probe) (unread : List JobReply) → (length left ≡ 0) ⊎ (length unread ≡ 0) → zip left unread ≡ []
  no_pair [] unread none = refl
  no_pair (p ∷ left) [] none = refl
  no_pair (p ∷ left) (r ∷ unread) (inl none) = absurd (omega (arith, none))
  no_pair (p ∷ left) (r ∷ unread) (inr none) = absurd (omega (arith, none))

  pub all_sorted : (left : List Probe) (unread : List JobReply) → (length left ≡ 0) ⊎ (length unread ≡ 0) → Sorting es all a left unread → AreSorted es all a
  all_sorted left unread none h = subst (λ (v : List Replied). AreSorted es v a) (sym (h.whole ∙ ap (λ (v : List Replied). h.done ++ v) (no_pair left unread none) ∙ append-nil h.done)) h.so_far

-- ---- one pair

-- by its truth value, or its refusal
pub one_answer : (es : List EndpointParts) (p : Probe) (r : JobReply) (a b : Answers) (truth : Bool) → r ≡ reply.Truth truth → IsAdded p truth a b → IsAnswered p r a b ⊎ IsPassedOver es p r a b
one_answer es p r a b truth told added = inl (record { truth = truth; told = told; added = added })

pub one_passed : (es : List EndpointParts) (p : Probe) (r : JobReply) (a b : Answers) (why : FlowError) → IsRefusal p.at r why → IsMarked true es p.at → IsLeftOut p.at why a b → IsAnswered p r a b ⊎ IsPassedOver es p r a b
one_passed es p r a b why refused optional out = inr (record { why = why; refused = refused; optional = optional; out = out })

pub one_refused : (es : List EndpointParts) (p : Probe) (r : JobReply) (a b : Answers) (e : FlowError) → IsRefusal p.at r e → IsMarked false es p.at → IsTakenIn es p r a b (Err e)
one_refused es p r a b (flow.Member at) refused required = (refused, required)
one_refused es p r a b (flow.BadReply at bad) refused required = (refused, required)
one_refused es p r a b (flow.RequestTooLong at size) refused required = (refused, required)
one_refused es p r a b flow.Memory refused required = tt
