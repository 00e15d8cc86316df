-- What wires exchanged, in shares: in one call after the other.
use Rattle.std.proofs.Common.{◌≡◌, sym, subst, ℕ, ◌+◌, ◌≤◌, List, [], ◌∷◌, ◌++◌, Bool, arith, append-nil, sum_by, IsPermutation}
use Rattle.std.specs.List.{flat_map}
use Rattle.std.proofs.lemmas.Grind.{flat_map-append}
use Rattle.std.proofs.lemmas.List.Elements.{All-append, All-nil, All-weaker}
use Rattle.std.proofs.lemmas.List.Sorted.{All-permutation, IsPermutation-append, IsPermutation-refl, IsPermutation-trans}
use Rattle.std.proofs.lemmas.List.Sums.{sum_by-append, sum_by-cons}
use Rattle.fx_outside.specs.Endpoints.{EndpointParts}
use Rattle.fx_algebra.specs.declared.units.Row.{Row}
use Rattle.fx_algebra.specs.declared.units.Unit as unit
use Rattle.fx_traffic.specs.Gains.{faults_at}
use Rattle.fx_traffic.proofs.GainLemmas.{gain_laws}
use Rattle.fx_wire.specs.Exchanges.{Exchange, Seen}
use Rattle.fx_pool.specs.Runs.{IsHonestOver}
use Rattle.fx_pool.proofs.WireLemmas.{after_itself}
use Rattle.fx_pool.proofs.WiresLemmas.{AllTell, GainedBoth, all_after, gained_both, still_tell}
use Rattle.fx_flows.specs.RunFlows.{RunFlowed}
use Rattle.fx_flows.specs.declared.flows.FlowError.{FlowError}
use Rattle.std.specs.Prelude.{Result}
use Rattle.fx_side_by_side.specs.SideBySide.{Share}
use Rattle.fx_side_by_side.specs.Steps.{FallsIntoShares}
use Rattle.fx_side_by_side.proofs.ShareLemmas.{share_of}

-- what all shares have
abbrev pub exchanged : List Share → List Exchange
exchanged shares = flat_map (λ s. s.exchanges) shares

abbrev pub failures : List Share → ℕ
failures shares = sum_by (λ s. s.failed) shares

pub falls_in_turn : (tells alone : Bool) (s t v : List Seen) (shares more : List Share) → AllTell tells s → AllTell tells t → FallsIntoShares tells alone s t shares → FallsIntoShares tells alone t v more
    → FallsIntoShares tells alone s v (shares ++ more)
falls_in_turn tells alone s t v shares more s_tells t_tells h k = record {
  exchanges = gained.all;
  gained = gained.gained;
  honest =
      All-permutation (IsHonestOver s) (h.exchanges ++ k.exchanges) gained.all gained.same
      (All-append (IsHonestOver s) h.exchanges k.exchanges h.honest
      (All-weaker (IsHonestOver t) (IsHonestOver s) (λ x honest graph tell. honest graph (still_tell s t x.at.iri graph h.after_all tell)) k.exchanges k.honest));
  after_all = all_after tells s t v s_tells t_tells h.after_all k.after_all;
  parted =
      subst (λ (l : List Exchange). IsPermutation l gained.all) (sym (flat_map-append (λ (x : Share). x.exchanges) shares more))
      (IsPermutation-trans (exchanged shares ++ exchanged more) (h.exchanges ++ k.exchanges) gained.all
      (IsPermutation-append (exchanged shares) h.exchanges (exchanged more) k.exchanges h.parted k.parted) gained.same);
  counted = λ is address.
      let low : faults_at t address ≤ faults_at s address + failures shares = h.counted is address in
      let high : faults_at v address ≤ faults_at t address + failures more = k.counted is address in
      let all : failures (shares ++ more) ≡ failures shares + failures more = sum_by-append (λ (x : Share). x.failed) shares more in
      omega (arith, low, high, all);
}
  where
    gained : GainedBoth tells s v h.exchanges k.exchanges
    gained = gained_both tells s t v h.exchanges k.exchanges h.gained k.gained

-- other shares that have the same
pub falls_into : (tells alone : Bool) (s t : List Seen) (shares others : List Share) → IsPermutation (exchanged others) (exchanged shares) → failures others ≡ failures shares → FallsIntoShares tells alone s t shares → FallsIntoShares tells alone s t others
falls_into tells alone s t shares others same count h = record {
  exchanges = h.exchanges;
  gained = h.gained;
  honest = h.honest;
  after_all = h.after_all;
  parted = IsPermutation-trans (exchanged others) (exchanged shares) h.exchanges same h.parted;
  counted = λ is address. let few : faults_at t address ≤ faults_at s address + failures shares = h.counted is address in omega (arith, few, count);
}

-- a run that was asked for alone has all
pub falls_to_one : (tells alone : Bool) (s t : List Seen) (es : List EndpointParts) (us : List unit.Unit) (block : ℕ) (rows : List Row) (r : Result (List Row) FlowError) (h : RunFlowed tells alone s t es us block rows r)
    → FallsIntoShares tells alone s t (share_of tells alone s t es us block rows r h ∷ [])
falls_to_one tells alone s t es us block rows r h = record {
  exchanges = h.exchanges;
  gained = h.gained;
  honest = h.honest;
  after_all = h.after_all;
  parted = subst (λ (l : List Exchange). IsPermutation l h.exchanges) (sym (append-nil h.exchanges)) (IsPermutation-refl h.exchanges);
  counted = λ is address.
      let few : faults_at t address ≤ faults_at s address + h.failed = h.counted is address in
      let all : failures (share_of tells alone s t es us block rows r h ∷ []) ≡ h.failed + 0 = sum_by-cons (λ (x : Share). x.failed) (share_of tells alone s t es us block rows r h) [] in
      omega (arith, few, all);
}

-- nothing was asked
pub nothing_falls : (tells alone : Bool) (wires : List Seen) (shares : List Share) → exchanged shares ≡ [] → FallsIntoShares tells alone wires wires shares
nothing_falls tells alone wires shares none = record {
  exchanges = [];
  gained = λ told. gain_laws.nothing wires;
  honest = All-nil (IsHonestOver wires);
  after_all = after_itself wires;
  parted = subst (λ (l : List Exchange). IsPermutation l []) (sym none) (IsPermutation-refl []);
  counted = λ is address. omega arith;
}
