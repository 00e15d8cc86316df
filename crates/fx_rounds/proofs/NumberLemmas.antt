-- Who is left out is listed by number: the probes that a cache lacks come by member.
use Rattle.std.proofs.Common.{◌≡◌, sym, subst, ℕ, zero, suc, ◌≤◌, ◌+◌, Bool, true, false, cond, List, [], ◌∷◌, ◌++◌, arith}
use Rattle.std.specs.Prelude.{All, filter, not}
use Rattle.std.specs.List.{flat_map, range_with_len}
use Rattle.std.proofs.lemmas.List.Elements.{All-append, All-cons, All-nil}
use Rattle.fx_outside.specs.Endpoints.{EndpointParts}
use Rattle.fx_algebra.specs.declared.queries.Query.{Query}
use Rattle.fx_keys.specs.Probes.{probe}
use Rattle.fx_keys.specs.declared.keys.AskKey.{AskKey}
use Rattle.fx_keys.specs.declared.probes.Probe.{Probe}
use Rattle.fx_plan.specs.declared.parts.Part.{Part}
use Rattle.fx_sources.specs.Probes.{Entry, is_held, keys_of, missing, missing_at}
use Rattle.fx_wire.specs.Exchanges.{Seen}
use Rattle.fx_outcomes.specs.InRounds.{by_asks}
use Rattle.fx_outcomes.specs.RoundEnds.{AreAbandoned}
use Rattle.fx_outcomes.specs.Rounds.{ComeByMember, RiseByNumber, without_all}
use Rattle.fx_outcomes.specs.declared.rounds.Left.{Left}
use Rattle.fx_outcomes.specs.declared.rounds.Round.{Round}
use Rattle.fx_rounds.specs.LeftOut.{IsByNumber}

module _ (entries : List Entry) where
  -- those of one member, and then those of others behind it
  of_member : (keys : List AskKey) (at low : ℕ) (rest : List Probe) → low ≤ at → ((k : ℕ) → k ≤ suc at → ComeByMember k rest) → ComeByMember low (missing_at entries keys at ++ rest)
  of_member [] at low rest least f = f low (omega (arith, least))
  of_member (key ∷ keys) at low rest least f = by (not (is_held entries (probe at key))) (of_member keys at at rest (omega arith) f) (of_member keys at low rest least f)
    where
      by : (b : Bool) → ComeByMember at (missing_at entries keys at ++ rest) → ComeByMember low (missing_at entries keys at ++ rest)
          → ComeByMember low (cond {A = List Probe} b (probe at key ∷ missing_at entries keys at) (missing_at entries keys at) ++ rest)
      by true behind same = (least, behind)
      by false behind same = same

  of_members : (keys : List AskKey) (count at low : ℕ) → low ≤ at → ComeByMember low (flat_map (missing_at entries keys) (range_with_len at count))
  of_members keys zero at low least = tt
  of_members keys (suc count) at low least =
      of_member keys at low (flat_map (missing_at entries keys) (range_with_len (at + 1) count)) least (λ k below. of_members keys count (at + 1) k (omega (arith, below)))

pub missing_come : (q : Query) (members : ℕ) (entries : List Entry) → ComeByMember 0 (missing q members entries)
missing_come q members entries = of_members entries (keys_of q) members 0 0 (omega arith)

-- ---- rounds

one_of : (r : Round) (l : Left) → r.left ≡ l ∷ [] → IsByNumber r
one_of r l is = subst (RiseByNumber 0) (sym is) (omega arith, tt)

asks_by_number : (left : List Left) → RiseByNumber 0 left → All IsByNumber (by_asks left)
asks_by_number [] h = All-nil IsByNumber
asks_by_number (l ∷ left) h = All-cons IsByNumber (record { left = l ∷ left; down = [] }) [] h (All-nil IsByNumber)

module _ (tells alone : Bool) (es : List EndpointParts) (q : Query) (plan : List Bool → List Part) (block : ℕ) where
  -- a round that was abandoned leaves one out
  pub each_by_number : (s t : List Seen) (kept last : List Bool) (rounds : List Round) → AreAbandoned tells alone s t es q plan block kept last rounds → All IsByNumber rounds
  each_by_number s t kept last [] c = All-nil IsByNumber
  each_by_number s t kept last (r ∷ rounds) c = All-cons IsByNumber r rounds (one_of r c.1.left c.1.left_is) (each_by_number c.0 t (without_all r.left kept) last rounds c.3)

pub all_by_number : (left : List Left) (rounds all : List Round) → all ≡ by_asks left ++ rounds → RiseByNumber 0 left → All IsByNumber rounds → All IsByNumber all
all_by_number left rounds all is first h = subst (All IsByNumber) (sym is) (All-append IsByNumber (by_asks left) rounds (asks_by_number left first) h)
