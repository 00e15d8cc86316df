-- Who is left out of a query that was asked in rounds.
use Rattle.std.proofs.Common.{◌≡◌, ◌∙◌, ap, sym, subst, refl, inl, inr, ℕ, zero, suc, ◌<◌, ◌==◌, ◌||◌, Bool, true, false, not, List, [], ◌∷◌, ◌++◌, append-nil, length, Ok, Err, Result, All, ◌⊎◌, replicate, arith}
use Rattle.std.specs.Prelude.{◌≢◌, AllPairs}
use Rattle.std.proofs.lemmas.Bool.{eqb-true, eqb-false}
use Rattle.std.proofs.lemmas.List.Concat.{flat_map-append}
use Rattle.std.proofs.lemmas.List.Elements.{All-append, All-cons, All-from_recursion, All-nil, All-weaker, recursion_from_All}
use Rattle.std.proofs.lemmas.List.Kept.{AllPairs-cons}
use Rattle.fx_outside.specs.Endpoints.{EndpointParts}
use Rattle.fx_algebra.specs.Units.{is_kept}
use Rattle.fx_algebra.specs.declared.queries.Query.{Query}
use Rattle.fx_plan.specs.declared.parts.Part.{Part}
use Rattle.fx_sources.specs.Probes.{missing}
use Rattle.fx_wire.specs.Exchanges.{Seen}
use Rattle.fx_outcomes.specs.InRounds.{IsRefusedAtAsks, IsUnasked, WentInRounds, by_asks, plan_over}
use Rattle.fx_outcomes.specs.RoundEnds.{AreAbandoned}
use Rattle.fx_outcomes.specs.Rounds.{AreAnswers, IsMarked, MayAllLeave, MayLeave, everybody, without, without_all}
use Rattle.fx_outcomes.specs.declared.federated.FedError.{FedError}
use Rattle.fx_outcomes.specs.declared.rounds.Left.{Left}
use Rattle.fx_outcomes.specs.declared.rounds.OutcomeInRounds.{OutcomeInRounds}
use Rattle.fx_outcomes.specs.declared.rounds.Round.{Round}
use Rattle.fx_rounds.specs.LeftOut.{AnswersWent, AreLeftOut, LeavesSomebody, MembersAreLeftOnce, is_listed, left_in}

-- ---- where there is an answer

abbrev given : OutcomeInRounds → Result OutcomeInRounds FedError
given all = Ok all

abbrev refused : FedError → Result OutcomeInRounds FedError
refused e = Err e

pub answers_went : AnswersWent
answers_went tells alone before after es q old new block all f = by f.went
  where
    not_told : (e : FedError) → given all ≡ refused e → ⊥
    not_told e h = cc

    by : IsUnasked before after old new (Ok all) ⊎ (IsRefusedAtAsks tells alone before after es q old new (Ok all) ⊎ WentInRounds tells alone before after es q old new block (Ok all)) → WentInRounds tells alone before after es q old new block (Ok all)
    by (inl n) = absurd (not_told n.error n.is)
    by (inr (inl h)) = absurd (not_told h.error h.is)
    by (inr (inr w)) = w

-- ---- each round leaves somebody out

not_empty : (l : Left) (left : List Left) → l ∷ left ≡ [] → ⊥
not_empty l left h = cc

asks_leave : (left : List Left) → All LeavesSomebody (by_asks left)
asks_leave [] = All-nil LeavesSomebody
asks_leave (l ∷ left) = All-cons LeavesSomebody (record { left = l ∷ left; down = [] }) [] (not_empty l left) (All-nil LeavesSomebody)

module _ (tells alone : Bool) (es : List EndpointParts) (q : Query) (plan : List Bool → List Part) (block : ℕ) where
  pub each_leaves : (s t : List Seen) (kept last : List Bool) (rounds : List Round) → AreAbandoned tells alone s t es q plan block kept last rounds → All LeavesSomebody rounds
  each_leaves s t kept last [] c = All-nil LeavesSomebody
  each_leaves s t kept last (r ∷ rounds) c =
      All-cons LeavesSomebody r rounds (λ none. not_empty c.1.left [] (sym c.1.left_is ∙ none)) (each_leaves c.0 t (without_all r.left kept) last rounds c.3)

pub all_leave : (left : List Left) (rounds all : List Round) → all ≡ by_asks left ++ rounds → All LeavesSomebody rounds → All LeavesSomebody all
all_leave left rounds all is h = subst (All LeavesSomebody) (sym is) (All-append LeavesSomebody (by_asks left) rounds (asks_leave left) h)

-- ---- marks

still_out : (kept : List Bool) (gone at : ℕ) → is_kept kept at ≡ false → is_kept (without gone kept) at ≡ false
still_out [] gone at h = h
still_out (k ∷ kept) zero zero h = refl
still_out (k ∷ kept) zero (suc at) h = h
still_out (k ∷ kept) (suc gone) zero h = h
still_out (k ∷ kept) (suc gone) (suc at) h = still_out kept gone at h

stays_out : (left : List Left) (kept : List Bool) (at : ℕ) → is_kept kept at ≡ false → is_kept (without_all left kept) at ≡ false
stays_out [] kept at h = h
stays_out (l ∷ left) kept at h = stays_out left (without l.at kept) at (still_out kept l.at at h)

is_out : (kept : List Bool) (at : ℕ) → is_kept (without at kept) at ≡ false
is_out [] at = refl
is_out (k ∷ kept) zero = refl
is_out (k ∷ kept) (suc at) = is_out kept at

other_stays : (kept : List Bool) (gone at : ℕ) → (gone ≡ at → ⊥) → is_kept (without gone kept) at ≡ is_kept kept at
other_stays [] gone at apart = refl
other_stays (k ∷ kept) zero zero apart = absurd (apart refl)
other_stays (k ∷ kept) zero (suc at) apart = refl
other_stays (k ∷ kept) (suc gone) zero apart = refl
other_stays (k ∷ kept) (suc gone) (suc at) apart = other_stays kept gone at (λ e. apart (ap suc e))

-- who was kept is kept where it isn't listed
kept_by_list : (left : List Left) (kept : List Bool) (at : ℕ) → is_kept kept at ≡ true → is_kept (without_all left kept) at ≡ not (is_listed left at)
kept_by_list [] kept at h = h
kept_by_list (l ∷ left) kept at h = by (l.at == at) refl (λ k. kept_by_list left (without l.at kept) at k)
  where
    by : (b : Bool) → (l.at == at) ≡ b → (is_kept (without l.at kept) at ≡ true → is_kept (without_all left (without l.at kept)) at ≡ not (is_listed left at)) → is_kept (without_all left (without l.at kept)) at ≡ not (b || is_listed left at)
    by true e next = stays_out left (without l.at kept) at (subst (λ (n : ℕ). is_kept (without l.at kept) n ≡ false) (eqb-true l.at at e) (is_out kept l.at))
    by false e next = next (other_stays kept l.at at (eqb-false l.at at e) ∙ h)

every_kept : (n at : ℕ) → at < n → is_kept (replicate n true) at ≡ true
every_kept zero at low = absurd (omega (arith, low))
every_kept (suc n) zero low = refl
every_kept (suc n) (suc at) low = every_kept n at (omega (arith, low))

-- who is kept behind was kept before
was_kept : (kept : List Bool) (gone at : ℕ) → is_kept (without gone kept) at ≡ true → is_kept kept at ≡ true
was_kept [] gone at h = h
was_kept (k ∷ kept) zero zero h = absurd (cc)
was_kept (k ∷ kept) zero (suc at) h = h
was_kept (k ∷ kept) (suc gone) zero h = h
was_kept (k ∷ kept) (suc gone) (suc at) h = was_kept kept gone at h

not_both : (b : Bool) → b ≡ true → b ≡ false → ⊥
not_both b is other = absurd (let same : true ≡ false = sym is ∙ other in cc)

-- ---- one after the other

may_behind : (es : List EndpointParts) (kept : List Bool) (xs ys : List Left) → MayAllLeave es kept xs → MayAllLeave es (without_all xs kept) ys → MayAllLeave es kept (xs ++ ys)
may_behind es kept [] ys h k = k
may_behind es kept (x ∷ xs) ys h k = (h.0, may_behind es (without x.at kept) xs ys h.1 k)

without_behind : (xs ys : List Left) (kept : List Bool) → without_all (xs ++ ys) kept ≡ without_all ys (without_all xs kept)
without_behind [] ys kept = refl
without_behind (x ∷ xs) ys kept = without_behind xs ys (without x.at kept)

module _ (es : List EndpointParts) where
  -- all of them were kept at first
  all_kept : (kept : List Bool) (left : List Left) → MayAllLeave es kept left → All (λ (l : Left). is_kept kept l.at ≡ true) left
  all_kept kept [] h = All-from_recursion (λ (l : Left). is_kept kept l.at ≡ true) [] tt
  all_kept kept (l ∷ left) h =
      All-cons (λ (m : Left). is_kept kept m.at ≡ true) l left h.0.was_kept
      (All-weaker (λ (m : Left). is_kept (without l.at kept) m.at ≡ true) (λ (m : Left). is_kept kept m.at ≡ true) (λ m k. was_kept kept l.at m.at k) left (all_kept (without l.at kept) left h.1))

  pub once : (kept : List Bool) (left : List Left) → MayAllLeave es kept left → AllPairs (λ (k l : Left). k.at ≢ l.at) left
  once kept [] h = λ i j d low high. absurd (omega (arith, high))
  once kept (l ∷ left) h =
      AllPairs-cons (λ (k m : Left). k.at ≢ m.at) l left
      (All-weaker (λ (m : Left). is_kept (without l.at kept) m.at ≡ true) (λ (m : Left). l.at ≢ m.at)
      (λ m k same. not_both (is_kept (without l.at kept) m.at) k (subst (λ (n : ℕ). is_kept (without l.at kept) n ≡ false) same (is_out kept l.at))) left (all_kept (without l.at kept) left h.1)) (once (without l.at kept) left h.1)

  pub marked : (kept : List Bool) (left : List Left) → MayAllLeave es kept left → All (λ (l : Left). IsMarked true es l.at) left
  marked kept [] h = All-from_recursion (λ (l : Left). IsMarked true es l.at) [] tt
  marked kept (l ∷ left) h = All-cons (λ (m : Left). IsMarked true es m.at) l left h.0.optional (marked (without l.at kept) left h.1)

  pub left_out : (left : List Left) (kept : List Bool) → MayAllLeave es (everybody es) left → kept ≡ without_all left (everybody es) → AreLeftOut es left kept
  left_out left kept h is = record {
    once = once (everybody es) left h;
    optional = marked (everybody es) left h;
    those_kept = is;
    others = λ at low. ap (λ (v : List Bool). is_kept v at) is ∙ kept_by_list left (everybody es) at (every_kept (length es) at low);
  }

  -- ---- rounds

  -- the one of a round
  one_leaves : (kept : List Bool) (left : List Left) (l : Left) → left ≡ l ∷ [] → All (MayLeave es kept) left → MayAllLeave es kept left
  one_leaves kept left l is h =
      subst (MayAllLeave es kept) (sym is) ((recursion_from_All (MayLeave es kept) (l ∷ []) (subst (All (MayLeave es kept)) is h)).0, tt)

  module _ (tells alone : Bool) (q : Query) (plan : List Bool → List Part) (block : ℕ) where
    rounds_leave : (s t : List Seen) (kept last : List Bool) (rounds : List Round) → AreAbandoned tells alone s t es q plan block kept last rounds → MayAllLeave es kept (left_in rounds) × (last ≡ without_all (left_in rounds) kept)
    rounds_leave s t kept last [] c = (tt, c.1)
    rounds_leave s t kept last (r ∷ rounds) c =
        let rest = rounds_leave c.0 t (without_all r.left kept) last rounds c.3 in
        (may_behind es kept r.left (left_in rounds) (one_leaves kept r.left c.1.left c.1.left_is c.2) rest.0, rest.1 ∙ sym (without_behind r.left (left_in rounds) kept))

-- ---- with the round of the ASKs

pub left_of_asks : (left : List Left) → left_in (by_asks left) ≡ left
left_of_asks [] = refl
left_of_asks (l ∷ left) = append-nil (l ∷ left)

pub all_left : (left : List Left) (rounds all : List Round) → all ≡ by_asks left ++ rounds → left_in all ≡ left ++ left_in rounds
all_left left rounds all is = ap left_in is ∙ flat_map-append (λ (r : Round). r.left) (by_asks left) rounds ∙ ap (λ (v : List Left). v ++ left_in rounds) (left_of_asks left)

pub members_are_left_once : MembersAreLeftOnce
members_are_left_once tells alone before after es q old new block all w =
    let first = w.answers.left.items in
    let kept = w.answers.kept.items in
    let fit : AreAnswers es (missing q (length es) old) w.answers = w.asking.fit in
    let rest = rounds_leave es tells alone q (plan_over es q old w.answers) block w.asked w.went.between kept w.went.last_kept w.went.abandoned w.went.rounds in
    let more = left_in w.went.abandoned in
    let may : MayAllLeave es (everybody es) (first ++ more) = may_behind es (everybody es) first more fit.may_leave (subst (λ (v : List Bool). MayAllLeave es v more) fit.those_kept rest.0) in
    let last : w.went.last_kept ≡ without_all (first ++ more) (everybody es) = rest.1 ∙ ap (without_all more) fit.those_kept ∙ sym (without_behind first more (everybody es)) in
    subst (λ (v : List Left). AreLeftOut es v w.went.last_kept) (sym (all_left first w.went.abandoned all.abandoned w.listed)) (left_out es (first ++ more) w.went.last_kept may last)
