-- The logs gain the ASKs, each round that was abandoned and the last one, one after the other.
use Rattle.std.proofs.Common.{◌≡◌, ◌∙◌, ap, sym, subst, refl, ℕ, zero, suc, Bool, List, [], ◌∷◌, ◌++◌, IsTrue, Result, Some, slice_get, append-nil, append_assoc}
use Rattle.std.specs.Prelude.{All, Contains}
use Rattle.std.specs.List.{flat_map}
use Rattle.std.proofs.lemmas.List.Elements.{All-contains_itself, All-weaker, Contains-append_left, Contains-append_right}
use Rattle.fx_outside.specs.Endpoints.{EndpointParts}
use Rattle.fx_algebra.specs.declared.queries.Query.{Query}
use Rattle.fx_plan.specs.declared.parts.Part.{Part}
use Rattle.fx_traffic.specs.Gains.{HaveGained}
use Rattle.fx_wire.specs.Exchanges.{Exchange, Seen}
use Rattle.fx_outcomes.specs.InRounds.{plan_over}
use Rattle.fx_outcomes.specs.RoundEnds.{AreAbandoned}
use Rattle.fx_outcomes.specs.Rounds.{without_all}
use Rattle.fx_outcomes.specs.declared.rounds.Round.{Round}
use Rattle.fx_rounds.specs.Gained.{ArePartsOf, EachLogIsInTurn, HaveGainedInTurn, RoundsGainInTurn, each_exchanged}

module _ (tells alone : Bool) (told : IsTrue tells) (es : List EndpointParts) (q : Query) (plan : List Bool → List Part) (block : ℕ) where
  -- rounds, and then one stage more
  then_last : (s t u : List Seen) (kept last : List Bool) (rounds : List Round) (c : AreAbandoned tells alone s t es q plan block kept last rounds) (xs : List Exchange) → HaveGained t u xs
      → HaveGainedInTurn s u (each_exchanged tells alone s t es q plan block kept last rounds c ++ xs ∷ [])
  then_last s t u kept last [] c xs h = (u, subst (λ (v : List Seen). HaveGained v u xs) c.0 h, refl)
  then_last s t u kept last (r ∷ rounds) c xs h = (c.0, c.1.went.gained told, then_last c.0 t u (without_all r.left kept) last rounds c.3 xs h)

pub rounds_gain_in_turn : RoundsGainInTurn
rounds_gain_in_turn tells alone before after es q old new block result told w = (
  w.asked,
  w.asking.gained told,
  then_last tells alone told es q (plan_over es q old w.answers) block w.asked w.went.between after w.answers.kept.items w.went.last_kept w.went.abandoned w.went.rounds w.went.last.exchanges (w.went.last.gained told),
)

-- ---- one wire

-- what one of several wires gained of these
record GainedAt (s : Seen) (wires laters : List Seen) (k : ℕ) (xs : List Exchange) : Type 0 where
  later : Seen
  found : slice_get laters k ≡ Some later
  own : List Exchange
  logged : later.log ≡ s.log ++ own
  of_these : All (Contains xs) own

gained_at : (wires laters : List Seen) (xs : List Exchange) → HaveGained wires laters xs → (k : ℕ) (s : Seen) → slice_get wires k ≡ Some s → GainedAt s wires laters k xs
gained_at [] [] xs h k s found = absurd (cc)
gained_at [] (u ∷ laters) xs h k s found = absurd h
gained_at (w ∷ wires) [] xs h k s found = absurd h
gained_at (w ∷ wires) (u ∷ laters) xs h zero s found =
    let same : w ≡ s = cc in
    record {
      later = u;
      found = refl;
      own = h.0;
      logged = subst (λ (v : Seen). u.log ≡ v.log ++ h.0) same h.3;
      of_these = All-weaker (Contains h.0) (Contains xs) (λ x m. subst (λ (v : List Exchange). Contains v x) (sym h.2) (Contains-append_left h.0 h.1 x m)) h.0 (All-contains_itself h.0);
    }
gained_at (w ∷ wires) (u ∷ laters) xs h (suc k) s found =
    let rest = gained_at wires laters h.1 h.4 k s found in
    record {
      later = rest.later;
      found = rest.found;
      own = rest.own;
      logged = rest.logged;
      of_these = All-weaker (Contains h.1) (Contains xs) (λ x m. subst (λ (v : List Exchange). Contains v x) (sym h.2) (Contains-append_right h.0 h.1 x m)) rest.own rest.of_these;
    }

one_seen : (wires : List Seen) (k : ℕ) (s t : Seen) → slice_get wires k ≡ Some s → slice_get wires k ≡ Some t → s ≡ t
one_seen wires k s t a b = cc

pub each_log_is_in_turn : EachLogIsInTurn
each_log_is_in_turn before after [] h k s t found later =
    let same : t ≡ s = one_seen before k t s (subst (λ (v : List Seen). slice_get v k ≡ Some t) h later) found in
    ([], tt, ap (λ (v : Seen). v.log) same ∙ sym (append-nil s.log))
each_log_is_in_turn before after (xs ∷ stages) h k s t found later =
    let here = gained_at before h.0 xs h.1 k s found in
    let rest = each_log_is_in_turn h.0 after stages h.2 k here.later t here.found later in (
      here.own ∷ rest.0,
      (here.of_these, rest.1),
      rest.2 ∙ ap (λ (v : List Exchange). v ++ flat_map (λ (ys : List Exchange). ys) rest.0) here.logged ∙ append_assoc s.log here.own (flat_map (λ (ys : List Exchange). ys) rest.0),
    )
