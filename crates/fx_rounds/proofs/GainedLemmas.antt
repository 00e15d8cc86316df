-- What a query exchanged in all that was asked in rounds.
use Rattle.std.proofs.Common.{◌≡◌, ◌∙◌, sym, subst, refl, inl, inr, ◌⊎◌, ℕ, ◌≤◌, Bool, true, false, List, [], ◌∷◌, ◌++◌, append-nil, append_assoc, IsTrue, Result, arith}
use Rattle.std.proofs.lemmas.List.Sorted.{IsPermutation-refl, IsPermutation-append_left, IsPermutation-trans}
use Rattle.fx_outside.specs.Endpoints.{EndpointParts}
use Rattle.fx_algebra.specs.declared.queries.Query.{Query}
use Rattle.fx_plan.specs.declared.parts.Part.{Part}
use Rattle.fx_sources.specs.Probes.{Entry}
use Rattle.fx_traffic.specs.Gains.{AreAfter, HaveGained}
use Rattle.fx_traffic.proofs.GainLemmas.{gain_laws}
use Rattle.fx_wire.specs.Exchanges.{Exchange, IsAfter, Seen}
use Rattle.fx_pool.proofs.WiresLemmas.{AllTell, gained_both}
use Rattle.fx_outcomes.specs.InRounds.{IsRefusedAtAsks, IsUnasked, WentInRounds, plan_over}
use Rattle.fx_outcomes.specs.RoundEnds.{AreAbandoned}
use Rattle.fx_outcomes.specs.Rounds.{without_all}
use Rattle.fx_outcomes.specs.declared.federated.FedError.{FedError}
use Rattle.fx_outcomes.specs.declared.rounds.OutcomeInRounds.{OutcomeInRounds}
use Rattle.fx_outcomes.specs.declared.rounds.Round.{Round}
use Rattle.fx_rounds.specs.Gained.{GainedInAll, RoundsHaveGained, all_exchanged, rounds_exchanged, went_exchanged}

-- ---- what exchanges leave of wires, by what the logs gained

one_told : (s t u : Seen) (own : List Exchange) → u.log ≡ s.log ++ own → IsAfter s t → IsAfter t u → IsAfter s u
one_told s t u own e h k = record {
  logged = λ told. (own, e);
  same = λ a. k.same a ∙ h.same a;
  kept = λ a. let low : s.faults a ≤ t.faults a = h.kept a in let high : t.faults a ≤ u.faults a = k.kept a in omega (arith, low, high);
}

after_told : (s t u : List Seen) (xs : List Exchange) → HaveGained s u xs → AreAfter s t → AreAfter t u → AreAfter s u
after_told [] [] [] xs g h k = tt
after_told [] [] (c ∷ u) xs g h k = absurd k
after_told [] (b ∷ t) u xs g h k = absurd h
after_told (a ∷ s) [] u xs g h k = absurd h
after_told (a ∷ s) (b ∷ t) [] xs g h k = absurd k
after_told (a ∷ s) (b ∷ t) (c ∷ u) xs g h k = (one_told a b c g.0 g.3 h.0 k.0, after_told s t u g.1 g.4 h.1 k.1)

one_untold : (s t u : Seen) → s.tells_log ≡ false → IsAfter s t → IsAfter t u → IsAfter s u
one_untold s t u untold h k = record {
  logged = λ told. absurd (let yes : false ≡ true = sym untold ∙ told in cc);
  same = λ a. k.same a ∙ h.same a;
  kept = λ a. let low : s.faults a ≤ t.faults a = h.kept a in let high : t.faults a ≤ u.faults a = k.kept a in omega (arith, low, high);
}

after_untold : (s t u : List Seen) → AllTell false s → AreAfter s t → AreAfter t u → AreAfter s u
after_untold [] [] [] a h k = tt
after_untold [] [] (c ∷ u) a h k = absurd k
after_untold [] (b ∷ t) u a h k = absurd h
after_untold (w ∷ s) [] u a h k = absurd h
after_untold (w ∷ s) (b ∷ t) [] a h k = absurd k
after_untold (w ∷ s) (b ∷ t) (c ∷ u) a h k = (one_untold w b c a.0 h.0 k.0, after_untold s t u a.1 h.1 k.1)

pub after_both : (tells : Bool) (s t u : List Seen) (xs : List Exchange) → AllTell tells s → (IsTrue tells → HaveGained s u xs) → AreAfter s t → AreAfter t u → AreAfter s u
after_both true s t u xs a g h k = after_told s t u xs (g refl) h k
after_both false s t u xs a g h k = after_untold s t u a h k

after_itself : (ws : List Seen) → AreAfter ws ws
after_itself [] = tt
after_itself (w ∷ ws) = (record { logged = λ told. ([], sym (append-nil w.log)); same = λ a. refl; kept = λ a. omega arith }, after_itself ws)

-- ---- one call behind the other

none_gained : (tells : Bool) (s : List Seen) → GainedInAll tells s s []
none_gained tells s = record { exchanges = []; same = IsPermutation-refl []; gained = λ told. gain_laws.nothing s; after_all = after_itself s }

alone_gained : (tells : Bool) (s t : List Seen) (xs : List Exchange) → (IsTrue tells → HaveGained s t xs) → AreAfter s t → GainedInAll tells s t xs
alone_gained tells s t xs g h = record { exchanges = xs; same = IsPermutation-refl xs; gained = g; after_all = h }

behind : (tells : Bool) (s t u : List Seen) (xs ys : List Exchange) → AllTell tells s → (IsTrue tells → HaveGained s t xs) → AreAfter s t → (IsTrue tells → HaveGained t u ys) → AreAfter t u → GainedInAll tells s u (xs ++ ys)
behind tells s t u xs ys a g h l k =
    let both = gained_both tells s t u xs ys g l in
    record { exchanges = both.all; same = both.same; gained = both.gained; after_all = after_both tells s t u both.all a both.gained h k }

-- with what a call before gained
behind_all : (tells : Bool) (s t u : List Seen) (xs ys : List Exchange) → AllTell tells s → GainedInAll tells s t xs → (IsTrue tells → HaveGained t u ys) → AreAfter t u → GainedInAll tells s u (xs ++ ys)
behind_all tells s t u xs ys a h g k =
    let both = behind tells s t u h.exchanges ys a h.gained h.after_all g k in
    record {
      exchanges = both.exchanges;
      same = IsPermutation-trans (xs ++ ys) (h.exchanges ++ ys) both.exchanges (IsPermutation-append_left ys xs h.exchanges h.same) both.same;
      gained = both.gained;
      after_all = both.after_all;
    }

same_order : (tells : Bool) (s t : List Seen) (xs ys : List Exchange) → xs ≡ ys → GainedInAll tells s t xs → GainedInAll tells s t ys
same_order tells s t xs ys e h = subst (GainedInAll tells s t) e h

module _ (tells alone : Bool) (es : List EndpointParts) (q : Query) (block : ℕ) where
  -- rounds behind what was gained before
  rounds_behind : (plan : List Bool → List Part) (s t u : List Seen) (xs : List Exchange) (kept last : List Bool) (rounds : List Round) → AllTell tells s → GainedInAll tells s t xs → (c : AreAbandoned tells alone t u es q plan block kept last rounds)
      → GainedInAll tells s u (xs ++ rounds_exchanged tells alone t u es q plan block kept last rounds c)
  rounds_behind plan s t u xs kept last [] a h c = same_order tells s u xs (xs ++ []) (sym (append-nil xs)) (subst (λ (v : List Seen). GainedInAll tells s v xs) (sym c.0) h)
  rounds_behind plan s t u xs kept last (r ∷ rounds) a h c =
      let mine = c.1.went.exchanges in
      let rest = rounds_exchanged tells alone c.0 u es q plan block (without_all r.left kept) last rounds c.3 in
      same_order tells s u ((xs ++ mine) ++ rest) (xs ++ (mine ++ rest)) (append_assoc xs mine rest)
      (rounds_behind plan s c.0 u (xs ++ mine) (without_all r.left kept) last rounds a (behind_all tells s t c.0 xs mine a h c.1.went.gained c.1.went.after_all) c.3)

  module _ (s u : List Seen) (old new : List Entry) (r : Result OutcomeInRounds FedError) where
    pub went_gained : AllTell tells s → (w : WentInRounds tells alone s u es q old new block r) → GainedInAll tells s u (went_exchanged tells alone s u es q old new block r w)
    went_gained a w =
        let plan = plan_over es q old w.answers in
        let first = w.asking.exchanges in
        let kept = w.answers.kept.items in
        let mid = rounds_exchanged tells alone w.asked w.went.between es q plan block kept w.went.last_kept w.went.abandoned w.went.rounds in
        let last = w.went.last.exchanges in
        same_order tells s u ((first ++ mid) ++ last) (first ++ (mid ++ last)) (append_assoc first mid last)
        (behind_all tells s w.went.between u (first ++ mid) last a
        (rounds_behind plan s w.asked w.went.between first kept w.went.last_kept w.went.abandoned a (alone_gained tells s w.asked first w.asking.gained w.asking.after_all) w.went.rounds) w.went.last.gained w.went.last.after_all)

    -- the wires behind the rounds that were abandoned are those before, later on
    pub has_begun : AllTell tells s → (w : WentInRounds tells alone s u es q old new block r) → AreAfter s w.went.between
    has_begun a w =
        let first = w.asking.exchanges in
        let all =
        rounds_behind (plan_over es q old w.answers) s w.asked w.went.between first w.answers.kept.items w.went.last_kept w.went.abandoned a (alone_gained tells s w.asked first w.asking.gained w.asking.after_all) w.went.rounds in
        all.after_all

    each_way : AllTell tells s → (f : IsUnasked s u old new r ⊎ (IsRefusedAtAsks tells alone s u es q old new r ⊎ WentInRounds tells alone s u es q old new block r)) → GainedInAll tells s u (all_exchanged tells alone s u es q old new block r f)
    each_way a (inl n) = subst (λ (v : List Seen). GainedInAll tells s v []) (sym n.same) (none_gained tells s)
    each_way a (inr (inl h)) = alone_gained tells s u h.asking.exchanges h.asking.gained h.asking.after_all
    each_way a (inr (inr w)) = went_gained a w

pub rounds_have_gained : RoundsHaveGained
rounds_have_gained tells alone before after es q old new block r a f = each_way tells alone es q block before after old new r a f.went
