-- Several runs, asked for over wires some of them and then the others.
use Rattle.std.proofs.Common.{◌≡◌, refl, ℕ, ◌<◌, List, [], ◌∷◌, ◌++◌, Bool, Result, Err, arith, ◌≤◌, length}
use Rattle.fx_terms.specs.declared.triples.Triple.{Triple}
use Rattle.fx_outside.specs.Endpoints.{EndpointParts}
use Rattle.fx_algebra.specs.Groups.{one_empty}
use Rattle.fx_algebra.specs.declared.units.Row.{Row}
use Rattle.fx_algebra.specs.declared.units.Unit as unit
use Rattle.fx_steps.specs.Steps.{numbered}
use Rattle.fx_traffic.specs.Gains.{Tell, faults_at}
use Rattle.fx_traffic.proofs.GainLemmas.{gain_laws}
use Rattle.fx_wire.specs.Exchanges.{Seen}
use Rattle.fx_pool.proofs.WiresLemmas.{AllTell, as_many, still_tell}
use Rattle.fx_flows.specs.declared.flows.FlowError.{FlowError}
use Rattle.fx_flows.specs.declared.flows.FlowError.TheVariants as flow
use Rattle.fx_side_by_side.specs.SideBySide.{AreShared, RunsFlowed, Share}
use Rattle.fx_side_by_side.specs.Steps.{FallsIntoShares, nothing_shared}
use Rattle.fx_side_by_side.proofs.GainedLemmas.{exchanged, falls_in_turn, nothing_falls}
use Rattle.fx_side_by_side.proofs.ShareLemmas.{shared_wider, unasked}

abbrev pub Results : Type 0
Results = List (Result (List Row) FlowError)

-- ---- each run

module _ (s t u v : List Seen)
    (rises : (address : List ℕ) → faults_at s address < faults_at t address → faults_at u address < faults_at v address)
    (tells : (address : List ℕ) (g : List Triple) → Tell u address g → Tell s address g)
    (fits : length s ≤ length u)
    (es : List EndpointParts) (block : ℕ) where
  pub all_wider : (runs : List (List unit.Unit)) (shares : List Share) (results : Results) → AreShared s t es block runs shares results → AreShared u v es block runs shares results
  all_wider [] [] [] h = tt
  all_wider [] [] (r ∷ rs) h = absurd h
  all_wider [] (sh ∷ shares) [] h = absurd h
  all_wider [] (sh ∷ shares) (r ∷ rs) h = absurd h
  all_wider (us ∷ runs) [] [] h = absurd h
  all_wider (us ∷ runs) [] (r ∷ rs) h = absurd h
  all_wider (us ∷ runs) (sh ∷ shares) [] h = absurd h
  all_wider (us ∷ runs) (sh ∷ shares) (r ∷ rs) h = (shared_wider s t u v rises tells fits es us block (numbered 0 one_empty) sh r h.0, all_wider runs shares rs h.1)

module _ (s t : List Seen) (es : List EndpointParts) (block : ℕ) (others : List (List unit.Unit)) (more : List Share) (qs : Results) (k : AreShared s t es block others more qs) where
  pub all_behind : (runs : List (List unit.Unit)) (shares : List Share) (results : Results) → AreShared s t es block runs shares results → AreShared s t es block (runs ++ others) (shares ++ more) (results ++ qs)
  all_behind [] [] [] h = k
  all_behind [] [] (r ∷ rs) h = absurd h
  all_behind [] (sh ∷ shares) [] h = absurd h
  all_behind [] (sh ∷ shares) (r ∷ rs) h = absurd h
  all_behind (us ∷ runs) [] [] h = absurd h
  all_behind (us ∷ runs) [] (r ∷ rs) h = absurd h
  all_behind (us ∷ runs) (sh ∷ shares) [] h = absurd h
  all_behind (us ∷ runs) (sh ∷ shares) (r ∷ rs) h = (h.0, all_behind runs shares rs h.1)

-- ---- some runs, and then the others

pub runs_from : (tells alone : Bool) (s t : List Seen) (es : List EndpointParts) (block : ℕ) (runs : List (List unit.Unit)) (shares : List Share) (rs : Results)
    → FallsIntoShares tells alone s t shares → AreShared s t es block runs shares rs → RunsFlowed tells alone s t es runs block rs
runs_from tells alone s t es block runs shares rs h each = record {
  exchanges = h.exchanges;
  gained = h.gained;
  honest = h.honest;
  after_all = h.after_all;
  shares = shares;
  parted = h.parted;
  counted = h.counted;
  each = each;
}

pub falls_of_runs : (tells alone : Bool) (s t : List Seen) (es : List EndpointParts) (block : ℕ) (runs : List (List unit.Unit)) (rs : Results) (h : RunsFlowed tells alone s t es runs block rs) → FallsIntoShares tells alone s t h.shares
falls_of_runs tells alone s t es block runs rs h = record { exchanges = h.exchanges; gained = h.gained; honest = h.honest; after_all = h.after_all; parted = h.parted; counted = h.counted }

pub runs_in_turn : (tells alone : Bool) (s t v : List Seen) (es : List EndpointParts) (block : ℕ) (runs others : List (List unit.Unit)) (rs qs : Results)
    → AllTell tells s → AllTell tells t → RunsFlowed tells alone s t es runs block rs → RunsFlowed tells alone t v es others block qs → RunsFlowed tells alone s v es (runs ++ others) block (rs ++ qs)
runs_in_turn tells alone s t v es block runs others rs qs s_tells t_tells h k =
    runs_from tells alone s v es block (runs ++ others) (h.shares ++ k.shares) (rs ++ qs)
    (falls_in_turn tells alone s t v h.shares k.shares s_tells t_tells (falls_of_runs tells alone s t es block runs rs h) (falls_of_runs tells alone t v es block others qs k))
    (all_behind s v es block others k.shares qs
    (all_wider t v s v (λ address rose. omega (arith, rose, gain_laws.never_fall s t address h.after_all)) (λ address g tell. still_tell s t address g h.after_all tell) (omega (arith, as_many s t h.after_all)) es block others k.shares qs k.each)
    runs h.shares rs
    (all_wider s t s v (λ address rose. omega (arith, rose, gain_laws.never_fall t v address k.after_all)) (λ address g tell. tell) (omega arith) es block runs h.shares rs h.each))

-- ---- runs that weren't come to

abbrev pub unasked_all : List (List unit.Unit) → Results
unasked_all [] = []
unasked_all (us ∷ runs) = Err flow.Memory ∷ unasked_all runs

abbrev pub nothings : List (List unit.Unit) → List Share
nothings [] = []
nothings (us ∷ runs) = nothing_shared ∷ nothings runs

pub none_exchanged : (runs : List (List unit.Unit)) → exchanged (nothings runs) ≡ []
none_exchanged [] = refl
none_exchanged (us ∷ runs) = none_exchanged runs

each_unasked : (s t : List Seen) (es : List EndpointParts) (block : ℕ) (runs : List (List unit.Unit)) → AreShared s t es block runs (nothings runs) (unasked_all runs)
each_unasked s t es block [] = tt
each_unasked s t es block (us ∷ runs) = (unasked s t es us block (numbered 0 one_empty), each_unasked s t es block runs)

pub runs_unasked : (tells alone : Bool) (wires : List Seen) (es : List EndpointParts) (block : ℕ) (runs : List (List unit.Unit)) → RunsFlowed tells alone wires wires es runs block (unasked_all runs)
runs_unasked tells alone wires es block runs = runs_from tells alone wires wires es block runs (nothings runs) (unasked_all runs) (nothing_falls tells alone wires (nothings runs) (none_exchanged runs)) (each_unasked wires wires es block runs)
