-- What runs among stations send: behind each other, and nothing. The tasks of stations behind each other.
use Rattle.std.proofs.Common.{◌≡◌, ◌∙◌, ap, sym, subst, refl, ℕ, Bool, true, false, List, [], ◌∷◌, ◌++◌, drop, map, length, append-nil, append_assoc, arith}
use Rattle.std.specs.List.{AllByRecursion, list_any}
use Rattle.std.proofs.lemmas.List.{map-append}
use Rattle.std.proofs.lemmas.List.Elements.{All-from_recursion, recursion_from_All}
use Rattle.fx_terms.specs.declared.patterns.Pattern.{Pattern}
use Rattle.fx_terms.specs.declared.triples.Triple.{Triple}
use Rattle.fx_outside.specs.Endpoints.{EndpointParts}
use Rattle.fx_algebra.specs.Answers.{is_empty_list}
use Rattle.fx_algebra.specs.Graphs.{union}
use Rattle.fx_algebra.specs.Solutions.{Bindings}
use Rattle.fx_algebra.specs.Stations.{Station}
use Rattle.fx_algebra.specs.Stations as station
use Rattle.fx_algebra.specs.Units.{sources}
use Rattle.fx_algebra.specs.declared.expressions.Expr.{Expr}
use Rattle.fx_plan.specs.Plans.{plan}
use Rattle.fx_steps.specs.Steps.{numbered}
use Rattle.fx_traffic.specs.Batches.{IsRunSent}
use Rattle.fx_traffic.specs.Sent.{Sent}
use Rattle.fx_traffic.specs.Traffic.{SentUnless}
use Rattle.fx_traffic.proofs.CutLemmas.{batch_laws}
use Rattle.fx_walks.specs.GroupsAsked.{HasRows, IsNext, all_planned, planned, run_stations, run_tasks}
use Rattle.fx_walks.specs.Served.{Served}
use Rattle.fx_walks.specs.RunsSent.{AreRunsSent, IsSentForRun}
use Rattle.fx_walks.specs.declared.tasks.Task.{Task}

-- ---- what is sent

module _ (endpoints : List EndpointParts) (graphs : List (List Triple)) (block : ℕ) where
  -- what the first of them send, and then what the others do
  pub sent_behind : (first others : List Station) (seeds more : List (List Bindings)) (own rest : List Sent)
      → AreRunsSent endpoints graphs block first seeds own → AreRunsSent endpoints graphs block others more rest → AreRunsSent endpoints graphs block (first ++ others) (seeds ++ more) (own ++ rest)
  sent_behind [] others [] more own rest h k = subst (λ (v : List Sent). AreRunsSent endpoints graphs block others more (v ++ rest)) (sym h) k
  sent_behind [] others (rows ∷ seeds) more own rest h k = absurd h
  sent_behind (s ∷ first) others [] more own rest h k = absurd h
  sent_behind (s ∷ first) others (rows ∷ seeds) more own rest h k =
      (h.0, h.1 ++ rest, ap (λ (v : List Sent). v ++ rest) h.2 ∙ append_assoc h.0 h.1 rest, h.3, sent_behind first others seeds more h.1 rest h.4 k)

  -- one station
  pub sent_alone : (s : Station) (rows : List Bindings) (wanted : List Sent) → IsSentForRun endpoints graphs block s rows wanted → AreRunsSent endpoints graphs block (s ∷ []) (rows ∷ []) wanted
  sent_alone s rows wanted h = (wanted, [], sym (append-nil wanted), h, refl)

  none_unless : (b : Bool) (P : Type 0) → P → SentUnless b [] P
  none_unless true P h = refl
  none_unless false P h = h

  pub nothing_of : (s : Station) (rows : List Bindings) → IsSentForRun endpoints graphs block s rows []
  nothing_of (station.run ps filters before) rows =
      let us = plan ps (map (sources graphs) ps) filters before in
      none_unless (list_any is_empty_list (map (sources graphs) ps)) (IsRunSent endpoints (union graphs) block 1 us (numbered 0 rows) []) (batch_laws.nothing endpoints (union graphs) block 1 us (numbered 0 rows))
  nothing_of (station.service number silent iri g) rows = refl

  -- they may send nothing
  pub no_run_sent : (stations : List Station) (seeds : List (List Bindings)) → length seeds ≡ length stations → AreRunsSent endpoints graphs block stations seeds []
  no_run_sent [] [] h = refl
  no_run_sent [] (rows ∷ seeds) h = absurd (cc)
  no_run_sent (s ∷ stations) [] h = absurd (cc)
  no_run_sent (s ∷ stations) (rows ∷ seeds) h = let rest : length seeds ≡ length stations = omega arith in ([], [], refl, nothing_of s rows, no_run_sent stations seeds rest)

-- ---- the tasks that are next

module _ (served : Served) (graphs : List (List Triple)) where
  -- the tasks of stations behind each other
  pub planned_behind : (first others : List Station) (rest : List Task) → all_planned served graphs (first ++ others) ++ rest ≡ all_planned served graphs first ++ (all_planned served graphs others ++ rest)
  planned_behind first others rest =
      ap (λ (v : List Task). v ++ rest) (map-append (planned served graphs) first others)
      ∙ append_assoc (all_planned served graphs first) (all_planned served graphs others) rest

  -- the task of a run that may have no pattern
  pub run_planned : (filters : List Expr) (known : List (List ℕ)) (ps : List Pattern) → all_planned served graphs (run_stations filters known ps) ≡ run_tasks graphs filters known ps
  run_planned filters known [] = refl
  run_planned filters known (p ∷ ps) = refl

  split : (first others : List Station) → AllByRecursion (HasRows served) (first ++ others) → AllByRecursion (HasRows served) first × AllByRecursion (HasRows served) others
  split [] others h = (tt, h)
  split (s ∷ first) others h = let rest = split first others h.1 in ((h.0, rest.0), rest.1)

  module _ (tasks : List Task) (first others : List Station) (rest : List Task) where
    -- those of the first are next, and behind them those of the others
    pub next_first : (next : ℕ) → IsNext tasks next graphs served (first ++ others) rest → IsNext tasks next graphs served first (all_planned served graphs others ++ rest)
    next_first next h = record {
      next_is = h.next_is ∙ planned_behind first others rest;
      right = All-from_recursion (HasRows served) first (split first others (recursion_from_All (HasRows served) (first ++ others) h.right)).0;
    }

    pub next_others : (next later : ℕ) → IsNext tasks next graphs served (first ++ others) rest → drop later tasks ≡ all_planned served graphs others ++ rest → IsNext tasks later graphs served others rest
    next_others next later h is = record { next_is = is; right = All-from_recursion (HasRows served) others (split first others (recursion_from_All (HasRows served) (first ++ others) h.right)).1 }
