-- With an answer faults and refused replies are enough for all that is told.
use Rattle.std.proofs.Common.{◌≡◌, ap, refl, inl, inr, ◌⊎◌, ℕ, ◌+◌, ◌≤◌, Bool, List, [], ◌∷◌, ◌++◌, Ok, Err, Result, arith}
use Rattle.fx_outside.specs.Endpoints.{EndpointParts}
use Rattle.fx_algebra.specs.declared.queries.Query.{Query}
use Rattle.fx_plan.specs.declared.parts.Part.{Part}
use Rattle.fx_services.specs.declared.noted.Down.{Down}
use Rattle.fx_sources.specs.Probes.{Entry}
use Rattle.fx_sources.specs.Registries.{IsRegistry}
use Rattle.fx_wire.specs.Exchanges.{Seen}
use Rattle.fx_outcomes.specs.Calls.{down_in}
use Rattle.fx_outcomes.specs.InRounds.{IsRefusedAtAsks, IsUnasked, WentInRounds, by_asks, plan_over}
use Rattle.fx_outcomes.specs.RoundEnds.{AreAbandoned}
use Rattle.fx_outcomes.specs.Rounds.{without_all}
use Rattle.fx_outcomes.specs.declared.federated.FedError.{FedError}
use Rattle.fx_outcomes.specs.declared.rounds.Left.{Left}
use Rattle.fx_outcomes.specs.declared.rounds.OutcomeInRounds.{OutcomeInRounds}
use Rattle.fx_outcomes.specs.declared.rounds.Round.{Round}
use Rattle.fx_rounds.specs.Counts.{downs_told}
use Rattle.fx_rounds.specs.Gained.{GainedInAll, all_exchanged, went_exchanged}
use Rattle.fx_rounds.specs.LeftOut.{left_in}
use Rattle.fx_rounds.specs.Licences.{downs_failed, downs_in, lefts_failed}
use Rattle.fx_rounds.specs.Sums.{AreEnough, FaultsAndRefusalsAreEnough, numbers_in}
use Rattle.fx_rounds.proofs.CountLemmas.{licences_count, numbers_are_told}
use Rattle.fx_rounds.proofs.GainedLemmas.{rounds_have_gained}
use Rattle.fx_rounds.proofs.LicenceLemmas.{answers_are_licensed, licences_in_any_order}
use Rattle.fx_traffic.specs.Gains.{faults_at}

-- ---- sums over lists

module _ (es : List EndpointParts) (q : Query) (a : List ℕ) where
  downs_behind : (xs ys : List Down) → downs_told a (xs ++ ys) ≡ downs_told a xs + downs_told a ys
  downs_behind [] ys = omega arith
  downs_behind (d ∷ xs) ys = let rest = downs_behind xs ys in omega (arith, rest)

  numbers_behind : (xs ys : List Round) → numbers_in es q a (xs ++ ys) ≡ numbers_in es q a xs + numbers_in es q a ys
  numbers_behind [] ys = omega arith
  numbers_behind (r ∷ xs) ys = let rest = numbers_behind xs ys in omega (arith, rest)

  -- nothing is down in the round of the ASKs
  none_by_asks : (left : List Left) → numbers_in es q a (by_asks left) ≡ 0
  none_by_asks [] = refl
  none_by_asks (l ∷ left) = refl

  module _ (tells alone : Bool) (plan : List Bool → List Part) (block : ℕ) where
    in_rounds : (v w : List Seen) (kept last : List Bool) (rounds : List Round) (c : AreAbandoned tells alone v w es q plan block kept last rounds) → numbers_in es q a rounds ≤ downs_told a (downs_in tells alone v w es q plan block kept last rounds c)
    in_rounds v w kept last [] c = omega arith
    in_rounds v w kept last (r ∷ rounds) c =
        let one = numbers_are_told tells alone v c.0 es q (plan kept) block r c.1 a in
        let rest = in_rounds c.0 w (without_all r.left kept) last rounds c.3 in
        let sum = downs_behind (down_in c.1.went.calls) (downs_in tells alone c.0 w es q plan block (without_all r.left kept) last rounds c.3) in
        omega (arith, one, rest, sum)

-- ---- a call

module _ (tells alone : Bool) (before after : List Seen) (es : List EndpointParts) (q : Query) (old new : List Entry) (block : ℕ) (all : OutcomeInRounds) (registry : IsRegistry es) where
  with_rounds : (w : WentInRounds tells alone before after es q old new block (Ok all)) → GainedInAll tells before after (went_exchanged tells alone before after es q old new block (Ok all) w) → AreEnough tells before after es q all.abandoned all.outcome.down
  with_rounds w g =
      let plan = plan_over es q old w.answers in
      let downs = downs_in tells alone w.asked w.went.between es q plan block w.answers.kept.items w.went.last_kept w.went.abandoned w.went.rounds in
      let lefts = left_in all.abandoned in
      let l =
      licences_in_any_order es q before after (went_exchanged tells alone before after es q old new block (Ok all) w) g.exchanges lefts (downs ++ all.outcome.down) g.same
      (answers_are_licensed tells alone before after es q old new block all registry w) in
      record {
        exchanges = g.exchanges;
        gained = g.gained;
        refused = l.refused;
        others = l.others;
        parted = l.parted;
        each = l.each;
        enough = λ a.
            let counted : faults_at before a + (lefts_failed es a lefts + downs_failed a (downs ++ all.outcome.down)) ≤ faults_at after a = l.counted a in
            let count = licences_count es q before after g.exchanges lefts (downs ++ all.outcome.down) l a in
            let both = downs_behind es q a downs all.outcome.down in
            let listed : numbers_in es q a all.abandoned ≡ numbers_in es q a (by_asks w.answers.left.items ++ w.went.abandoned) = ap (numbers_in es q a) w.listed in
            let apart = numbers_behind es q a (by_asks w.answers.left.items) w.went.abandoned in
            let none = none_by_asks es q a w.answers.left.items in
            let few = in_rounds es q a tells alone plan block w.asked w.went.between w.answers.kept.items w.went.last_kept w.went.abandoned w.went.rounds in
            omega (arith, counted, count, both, listed, apart, none, few);
      }

  abbrev given : Result OutcomeInRounds FedError
  given = Ok all

  abbrev refused : FedError → Result OutcomeInRounds FedError
  refused e = Err e

  not_refused : (e : FedError) → given ≡ refused e → ⊥
  not_refused e same = cc

  by_went : (f : IsUnasked before after old new given ⊎ (IsRefusedAtAsks tells alone before after es q old new given ⊎ WentInRounds tells alone before after es q old new block given)) → GainedInAll tells before after (all_exchanged tells alone before after es q old new block given f)
      → AreEnough tells before after es q all.abandoned all.outcome.down
  by_went (inl u) g = absurd (not_refused u.error u.is)
  by_went (inr (inl r)) g = absurd (not_refused r.error r.is)
  by_went (inr (inr w)) g = with_rounds w g

pub faults_and_refusals_are_enough : FaultsAndRefusalsAreEnough
faults_and_refusals_are_enough tells alone before after es q old new block all told registry f =
    by_went tells alone before after es q old new block all registry f.went (rounds_have_gained tells alone before after es q old new block (Ok all) told f)
