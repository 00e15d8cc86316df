-- The next step of several runs: of some of them and then of the others, or of both beside each other.
use Rattle.std.proofs.Common.{◌≡◌, ◌∙◌, ap, sym, subst, refl, ℕ, ◌+◌, ◌<◌, ◌≤◌, List, [], ◌∷◌, ◌++◌, Bool, map, Result, Ok, Err, Some, arith, IsPermutation, length, length-append}
use Rattle.std.specs.declared.alloc.Global.{Global}
use Rattle.std.specs.declared.vec.Vec.{Vec}
use Rattle.std.proofs.lemmas.Grind.{flat_map-append}
use Rattle.std.proofs.lemmas.List.{map-append}
use Rattle.std.proofs.lemmas.List.Elements.{All-append, All-weaker}
use Rattle.std.proofs.lemmas.List.Sorted.{IsPermutation-append}
use Rattle.std.proofs.lemmas.List.Sums.{sum_by-append}
use Rattle.fx_terms.specs.declared.triples.Triple.{Triple}
use Rattle.fx_outside.specs.Endpoints.{EndpointParts}
use Rattle.fx_algebra.specs.declared.units.Row.{Row}
use Rattle.fx_algebra.specs.declared.units.Unit as unit
use Rattle.fx_traffic.specs.Gains.{Tell, faults_at}
use Rattle.fx_traffic.proofs.GainLemmas.{gain_laws}
use Rattle.fx_wire.specs.Exchanges.{Exchange, Seen}
use Rattle.fx_pool.specs.Runs.{IsHonestOver}
use Rattle.fx_pool.proofs.BesideLemmas.{after_beside, back_all, front_all}
use Rattle.fx_pool.proofs.WiresLemmas.{AllTell, all_tell, as_many, still_tell}
use Rattle.fx_flows.specs.Flows.{rows_in}
use Rattle.fx_flows.specs.RunFlows.{RunFlowed}
use Rattle.fx_flows.specs.declared.flows.FlowError.{FlowError}
use Rattle.fx_side_by_side.specs.SideBySide.{Share}
use Rattle.fx_side_by_side.specs.Steps.{AreBehind, FallsIntoShares, IsBehind, StepsFlowed, nothing_shared, unit_at}
use Rattle.fx_side_by_side.proofs.GainedLemmas.{exchanged, failures, falls_in_turn, falls_to_one, nothing_falls}
use Rattle.fx_side_by_side.proofs.RunsLemmas.{Results}
use Rattle.fx_side_by_side.proofs.ShareLemmas.{share_of, shared_alone, shared_wider}

-- ---- each run

module _ (s t u v : List Seen)
    (rises : (address : List ℕ) → faults_at s address < faults_at t address → faults_at u address < faults_at v address)
    (tells : (address : List ℕ) (g : List Triple) → Tell u address g → Tell s address g)
    (fits : length s ≤ length u)
    (es : List EndpointParts) (step block : ℕ) where
  one_wider : (us : List unit.Unit) (r : Result (List Row) FlowError) (sh : Share) (q : Result (List Row) FlowError) → IsBehind s t es block us r sh q → IsBehind u v es block us r sh q
  one_wider us (Ok rows) sh q h = shared_wider s t u v rises tells fits es us block rows sh q h
  one_wider us (Err why) sh q h = h

  pub behind_wider : (runs : List (List unit.Unit)) (rs : Results) (shares : List Share) (qs : Results) → AreBehind s t es step block runs rs shares qs → AreBehind u v es step block runs rs shares qs
  behind_wider [] [] [] [] h = tt
  behind_wider [] [] [] (q ∷ qs) h = absurd h
  behind_wider [] [] (sh ∷ shares) [] h = absurd h
  behind_wider [] [] (sh ∷ shares) (q ∷ qs) h = absurd h
  behind_wider [] (r ∷ rs) [] [] h = absurd h
  behind_wider [] (r ∷ rs) [] (q ∷ qs) h = absurd h
  behind_wider [] (r ∷ rs) (sh ∷ shares) [] h = absurd h
  behind_wider [] (r ∷ rs) (sh ∷ shares) (q ∷ qs) h = absurd h
  behind_wider (us ∷ runs) [] [] [] h = absurd h
  behind_wider (us ∷ runs) [] [] (q ∷ qs) h = absurd h
  behind_wider (us ∷ runs) [] (sh ∷ shares) [] h = absurd h
  behind_wider (us ∷ runs) [] (sh ∷ shares) (q ∷ qs) h = absurd h
  behind_wider (us ∷ runs) (r ∷ rs) [] [] h = absurd h
  behind_wider (us ∷ runs) (r ∷ rs) [] (q ∷ qs) h = absurd h
  behind_wider (us ∷ runs) (r ∷ rs) (sh ∷ shares) [] h = absurd h
  behind_wider (us ∷ runs) (r ∷ rs) (sh ∷ shares) (q ∷ qs) h = (one_wider (unit_at step us) r sh q h.0, behind_wider runs rs shares qs h.1)

module _ (s t : List Seen) (es : List EndpointParts) (step block : ℕ) (others : List (List unit.Unit)) (os : Results) (more : List Share) (later : Results) (k : AreBehind s t es step block others os more later) where
  pub behind_more : (runs : List (List unit.Unit)) (rs : Results) (shares : List Share) (qs : Results) → AreBehind s t es step block runs rs shares qs → AreBehind s t es step block (runs ++ others) (rs ++ os) (shares ++ more) (qs ++ later)
  behind_more [] [] [] [] h = k
  behind_more [] [] [] (q ∷ qs) h = absurd h
  behind_more [] [] (sh ∷ shares) [] h = absurd h
  behind_more [] [] (sh ∷ shares) (q ∷ qs) h = absurd h
  behind_more [] (r ∷ rs) [] [] h = absurd h
  behind_more [] (r ∷ rs) [] (q ∷ qs) h = absurd h
  behind_more [] (r ∷ rs) (sh ∷ shares) [] h = absurd h
  behind_more [] (r ∷ rs) (sh ∷ shares) (q ∷ qs) h = absurd h
  behind_more (us ∷ runs) [] [] [] h = absurd h
  behind_more (us ∷ runs) [] [] (q ∷ qs) h = absurd h
  behind_more (us ∷ runs) [] (sh ∷ shares) [] h = absurd h
  behind_more (us ∷ runs) [] (sh ∷ shares) (q ∷ qs) h = absurd h
  behind_more (us ∷ runs) (r ∷ rs) [] [] h = absurd h
  behind_more (us ∷ runs) (r ∷ rs) [] (q ∷ qs) h = absurd h
  behind_more (us ∷ runs) (r ∷ rs) (sh ∷ shares) [] h = absurd h
  behind_more (us ∷ runs) (r ∷ rs) (sh ∷ shares) (q ∷ qs) h = (h.0, behind_more runs rs shares qs h.1)

-- ---- some runs, and then the others

pub steps_in_turn : (tells alone : Bool) (s t v : List Seen) (es : List EndpointParts) (step block : ℕ) (runs others : List (List unit.Unit)) (rs qs os later : Results) → AllTell tells s → AllTell tells t
    → StepsFlowed tells alone s t es step block runs rs qs → StepsFlowed tells alone t v es step block others os later → StepsFlowed tells alone s v es step block (runs ++ others) (rs ++ os) (qs ++ later)
steps_in_turn tells alone s t v es step block runs others rs qs os later s_tells t_tells h k = record {
  shares = h.shares ++ k.shares;
  exchanged = falls_in_turn tells alone s t v h.shares k.shares s_tells t_tells h.exchanged k.exchanged;
  each =
      behind_more s v es step block others os k.shares later
      (behind_wider t v s v (λ address rose. omega (arith, rose, gain_laws.never_fall s t address h.exchanged.after_all)) (λ address g tell. still_tell s t address g h.exchanged.after_all tell) (omega (arith, as_many s t h.exchanged.after_all)) es step block others os k.shares later k.each)
      runs rs h.shares qs
      (behind_wider s t s v (λ address rose. omega (arith, rose, gain_laws.never_fall t v address k.exchanged.after_all)) (λ address g tell. tell) (omega arith) es step block runs rs h.shares qs h.each);
}

-- ---- over two halves of the wires

falls_beside : (tells alone : Bool) (s t w v : List Seen) (shares more : List Share) → FallsIntoShares tells alone s t shares → FallsIntoShares tells alone w v more → FallsIntoShares tells alone (s ++ w) (t ++ v) (shares ++ more)
falls_beside tells alone s t w v shares more h k = record {
  exchanges = h.exchanges ++ k.exchanges;
  gained = λ told. gain_laws.beside s t w v h.exchanges k.exchanges (h.gained told) (k.gained told);
  honest =
      All-append (IsHonestOver (s ++ w)) h.exchanges k.exchanges
      (All-weaker (IsHonestOver s) (IsHonestOver (s ++ w)) (λ x honest graph tell. honest graph (front_all (λ (y : Seen). y.graph x.at.iri ≡ Some graph) s w tell)) h.exchanges h.honest)
      (All-weaker (IsHonestOver w) (IsHonestOver (s ++ w)) (λ x honest graph tell. honest graph (back_all (λ (y : Seen). y.graph x.at.iri ≡ Some graph) s w tell)) k.exchanges k.honest);
  after_all = after_beside s t w v h.after_all k.after_all;
  parted =
      subst (λ (l : List Exchange). IsPermutation l (h.exchanges ++ k.exchanges)) (sym (flat_map-append (λ (x : Share). x.exchanges) shares more))
      (IsPermutation-append (exchanged shares) h.exchanges (exchanged more) k.exchanges h.parted k.parted);
  counted = λ is address.
      let low : faults_at t address ≤ faults_at s address + failures shares = h.counted is address in
      let high : faults_at v address ≤ faults_at w address + failures more = k.counted is address in
      let all : failures (shares ++ more) ≡ failures shares + failures more = sum_by-append (λ (x : Share). x.failed) shares more in
      omega (arith, low, high, all, gain_laws.add_up s w address, gain_laws.add_up t v address);
}

pub steps_beside : (tells alone : Bool) (s t w v : List Seen) (es : List EndpointParts) (step block : ℕ) (runs others : List (List unit.Unit)) (rs qs os later : Results)
    → StepsFlowed tells alone s t es step block runs rs qs → StepsFlowed tells alone w v es step block others os later → StepsFlowed tells alone (s ++ w) (t ++ v) es step block (runs ++ others) (rs ++ os) (qs ++ later)
steps_beside tells alone s t w v es step block runs others rs qs os later h k = record {
  shares = h.shares ++ k.shares;
  exchanged = falls_beside tells alone s t w v h.shares k.shares h.exchanged k.exchanged;
  each =
      behind_more (s ++ w) (t ++ v) es step block others os k.shares later
      (behind_wider w v (s ++ w) (t ++ v)
      (λ address rose. omega (arith, rose, gain_laws.add_up s w address, gain_laws.add_up t v address, gain_laws.never_fall s t address h.exchanged.after_all))
      (λ address g tell. back_all (λ (x : Seen). x.graph address ≡ Some g) s w tell) (omega (arith, length-append s w)) es step block others os k.shares later k.each)
      runs rs h.shares qs
      (behind_wider s t (s ++ w) (t ++ v)
      (λ address rose. omega (arith, rose, gain_laws.add_up s w address, gain_laws.add_up t v address, gain_laws.never_fall w v address k.exchanged.after_all))
      (λ address g tell. front_all (λ (x : Seen). x.graph address ≡ Some g) s w tell) (omega (arith, length-append s w)) es step block runs rs h.shares qs h.each);
}

-- ---- one run

pub step_of_one : (tells alone : Bool) (s t : List Seen) (es : List EndpointParts) (step block : ℕ) (us : List unit.Unit) (rows : List Row) (q : Result (List Row) FlowError) → RunFlowed tells alone s t es (unit_at step us) block rows q
    → StepsFlowed tells alone s t es step block (us ∷ []) (Ok rows ∷ []) (q ∷ [])
step_of_one tells alone s t es step block us rows q h = record {
  shares = share_of tells alone s t es (unit_at step us) block rows q h ∷ [];
  exchanged = falls_to_one tells alone s t es (unit_at step us) block rows q h;
  each = (shared_alone tells alone s t es (unit_at step us) block rows q h, tt);
}

pub step_of_refused : (tells alone : Bool) (wires : List Seen) (es : List EndpointParts) (step block : ℕ) (us : List unit.Unit) (why : FlowError) → StepsFlowed tells alone wires wires es step block (us ∷ []) (Err why ∷ []) (Err why ∷ [])
step_of_refused tells alone wires es step block us why = record {
  shares = nothing_shared ∷ [];
  exchanged = nothing_falls tells alone wires (nothing_shared ∷ []) refl;
  each = ((refl, refl), tt);
}

-- ---- two halves of the runs, as they lie in memory

abbrev Found : Type 0
Found = Result (Vec Row Global) FlowError

module _ {W : Type 0} (see : W → Seen) (tells alone : Bool) (es : List EndpointParts) (step block : ℕ) (runs first others : List (List unit.Unit)) (found xs ys later more : List Found) (cut : runs ≡ first ++ others) (parts : found ≡ xs ++ ys) where
  as_whole : (s t : List Seen) → StepsFlowed tells alone s t es step block (first ++ others) (map rows_in xs ++ map rows_in ys) (map rows_in later ++ map rows_in more)
      → StepsFlowed tells alone s t es step block runs (map rows_in found) (map rows_in (later ++ more))
  as_whole s t h =
      subst (λ (l : Results). StepsFlowed tells alone s t es step block runs (map rows_in found) l) (sym (map-append rows_in later more))
      (subst (λ (l : Results). StepsFlowed tells alone s t es step block runs l (map rows_in later ++ map rows_in more)) (sym (ap (map rows_in) parts ∙ map-append rows_in xs ys))
      (subst (λ (l : List (List unit.Unit)). StepsFlowed tells alone s t es step block l (map rows_in xs ++ map rows_in ys) (map rows_in later ++ map rows_in more)) (sym cut) h))

  pub halves_in_turn : ((w : W) → (see w).tells_log ≡ tells) → (s t v : List W)
      → StepsFlowed tells alone (map see s) (map see t) es step block first (map rows_in xs) (map rows_in later) → StepsFlowed tells alone (map see t) (map see v) es step block others (map rows_in ys) (map rows_in more)
      → StepsFlowed tells alone (map see s) (map see v) es step block runs (map rows_in found) (map rows_in (later ++ more))
  halves_in_turn told s t v h k =
      as_whole (map see s) (map see v)
      (steps_in_turn tells alone (map see s) (map see t) (map see v) es step block first others (map rows_in xs) (map rows_in later) (map rows_in ys) (map rows_in more) (all_tell see tells told s) (all_tell see tells told t) h k)

  pub halves_beside : (wires ws us vs ts : List W) → wires ≡ ws ++ vs
      → StepsFlowed tells alone (map see ws) (map see us) es step block first (map rows_in xs) (map rows_in later) → StepsFlowed tells alone (map see vs) (map see ts) es step block others (map rows_in ys) (map rows_in more)
      → StepsFlowed tells alone (map see wires) (map see (us ++ ts)) es step block runs (map rows_in found) (map rows_in (later ++ more))
  halves_beside wires ws us vs ts whole h k =
      subst (λ (l : List Seen). StepsFlowed tells alone l (map see (us ++ ts)) es step block runs (map rows_in found) (map rows_in (later ++ more))) (sym (ap (map see) whole ∙ map-append see ws vs))
      (subst (λ (l : List Seen). StepsFlowed tells alone (map see ws ++ map see vs) l es step block runs (map rows_in found) (map rows_in (later ++ more))) (sym (map-append see us ts))
      (as_whole (map see ws ++ map see vs) (map see us ++ map see ts)
      (steps_beside tells alone (map see ws) (map see us) (map see vs) (map see ts) es step block first others (map rows_in xs) (map rows_in later) (map rows_in ys) (map rows_in more) h k)))
