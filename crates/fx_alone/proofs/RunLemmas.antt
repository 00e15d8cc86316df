-- Several runs, asked for one after another.
use Rattle.std.proofs.Common.{◌≡◌, sym, subst, ℕ, ◌+◌, Bool, List, [], ◌∷◌, ◌++◌, map, take, drop, Result, Err}
use Rattle.fx_terms.specs.declared.allocation.Memory.{Memory}
use Rattle.fx_outside.specs.Endpoints.{EndpointParts}
use Rattle.fx_algebra.specs.Groups.{one_empty}
use Rattle.fx_algebra.specs.declared.units.Row.{Row}
use Rattle.fx_algebra.specs.declared.units.Unit as unit
use Rattle.fx_steps.specs.Steps.{numbered}
use Rattle.fx_wire.specs.Exchanges.{Seen}
use Rattle.fx_flows.specs.RunFlows.{RunFlowed}
use Rattle.fx_flows.specs.declared.flows.FlowError.{FlowError}
use Rattle.fx_pool.proofs.WiresLemmas.{all_tell}
use Rattle.fx_side_by_side.specs.SideBySide.{RunsFlowed, SideBySide}
use Rattle.fx_side_by_side.proofs.GainedLemmas.{falls_to_one}
use Rattle.fx_side_by_side.proofs.RunsLemmas.{Results, runs_from, runs_in_turn, runs_unasked, unasked_all}
use Rattle.fx_side_by_side.proofs.ShareLemmas.{share_of, shared_alone}

-- a run that was asked for alone is one of several that are one
pub runs_of_one : (tells alone : Bool) (s t : List Seen) (es : List EndpointParts) (block : ℕ) (us : List unit.Unit) (r : Result (List Row) FlowError)
    → RunFlowed tells alone s t es us block (numbered 0 one_empty) r → RunsFlowed tells alone s t es (us ∷ []) block (r ∷ [])
runs_of_one tells alone s t es block us r h =
    runs_from tells alone s t es block (us ∷ []) (share_of tells alone s t es us block (numbered 0 one_empty) r h ∷ []) (r ∷ [])
    (falls_to_one tells alone s t es us block (numbered 0 one_empty) r h)
    (shared_alone tells alone s t es us block (numbered 0 one_empty) r h, tt)

module _ {W : Type 0} (see : W → Seen) (tells alone : Bool) (told : (w : W) → (see w).tells_log ≡ tells) (es : List EndpointParts) (block : ℕ) (runs : List (List unit.Unit)) (k : ℕ) (us : List unit.Unit)
    (more : take (k + 1) runs ≡ take k runs ++ us ∷ []) (s t v : List W) (rs : Results) (r : Result (List Row) FlowError)
    (h : RunsFlowed tells alone (map see s) (map see t) es (take k runs) block rs) (one : RunsFlowed tells alone (map see t) (map see v) es (us ∷ []) block (r ∷ [])) where
  both : RunsFlowed tells alone (map see s) (map see v) es (take k runs ++ us ∷ []) block (rs ++ r ∷ [])
  both = runs_in_turn tells alone (map see s) (map see t) (map see v) es block (take k runs) (us ∷ []) rs (r ∷ []) (all_tell see tells told s) (all_tell see tells told t) h one

  -- one more run
  pub next_run : (all : Results) → all ≡ rs ++ r ∷ [] → RunsFlowed tells alone (map see s) (map see v) es (take (k + 1) runs) block all
  next_run all pushed =
      subst (λ (l : Results). RunsFlowed tells alone (map see s) (map see v) es (take (k + 1) runs) block l) (sym pushed)
      (subst (λ (l : List (List unit.Unit)). RunsFlowed tells alone (map see s) (map see v) es l block (rs ++ r ∷ [])) (sym more) both)

  -- and then memory ran out
  pub lost_behind : (why : Memory) → (take k runs ++ us ∷ []) ++ drop (k + 1) runs ≡ runs → SideBySide tells alone (map see s) (map see v) es runs block (Err why)
  lost_behind why whole = record {
    results = (rs ++ r ∷ []) ++ unasked_all (drop (k + 1) runs);
    flowed =
        subst (λ (l : List (List unit.Unit)). RunsFlowed tells alone (map see s) (map see v) es l block ((rs ++ r ∷ []) ++ unasked_all (drop (k + 1) runs))) whole
        (runs_in_turn tells alone (map see s) (map see v) (map see v) es block (take k runs ++ us ∷ []) (drop (k + 1) runs) (rs ++ r ∷ []) (unasked_all (drop (k + 1) runs)) (all_tell see tells told s) (all_tell see tells told v) both
        (runs_unasked tells alone (map see v) es block (drop (k + 1) runs)));
    given = tt;
  }
