-- What was asked for of runs together, as what was asked for of a UNION's groups, and of an operator with the run before it.
use Rattle.std.proofs.Common.{◌≡◌, ◌∙◌, ap, sym, subst, refl, ℕ, ◌+◌, Bool, true, false, List, [], ◌∷◌, ◌++◌, map, drop, length, IfErr, IfOk, Result, Ok, Err, IsPermutation, arith, append-nil}
use Rattle.std.specs.declared.alloc.Global.{Global}
use Rattle.std.specs.declared.vec.Vec.{Vec}
use Rattle.std.proofs.lemmas.List.Sorted.{IsPermutation-refl, IsPermutation-sym, IsPermutation-trans}
use Rattle.fx_terms.specs.declared.triples.Triple.{Triple}
use Rattle.fx_outside.specs.Endpoints.{EndpointParts}
use Rattle.fx_algebra.specs.Graphs.{union}
use Rattle.fx_algebra.specs.Groups.{alternatives, alternative_seeds, alternative_stations, group_rows, keeps_run, one_empty}
use Rattle.fx_algebra.specs.Operators.{join, minus}
use Rattle.fx_algebra.specs.Solutions.{Bindings}
use Rattle.fx_algebra.specs.Stations.{Station}
use Rattle.fx_algebra.specs.declared.queries.Element.TheVariants.{Minus, Union}
use Rattle.fx_algebra.specs.declared.queries.Group.{Group}
use Rattle.fx_algebra.specs.declared.units.Row.{Row}
use Rattle.fx_flows.specs.declared.flows.FlowError.TheVariants as flow
use Rattle.fx_steps.specs.Steps.{solutions_of}
use Rattle.fx_steps.proofs.FewerLemmas.{fewer_laws}
use Rattle.fx_traffic.specs.Sent.{Sent}
use Rattle.fx_wire.specs.Exchanges.{Seen}
use Rattle.fx_walks.specs.Served.{Served, group_in}
use Rattle.fx_engine.specs.Asked.{Asked}
use Rattle.fx_walks.specs.GroupsAsked.{AlternativesDue, AlternativesGiven, ElementDue, ElementGiven, EndGiven, GroupDue, GroupGiven, IsNext, run_joined, seeds_in, stations_in}
use Rattle.fx_engine.specs.RowsAsked.{solutions_in}
use Rattle.fx_walks.proofs.FrontLemmas.{behind_next}
use Rattle.fx_walks.specs.RunsSent.{AreRunsSent}
use Rattle.fx_walks.specs.SectionSteps.{part_of}
use Rattle.fx_engine.specs.Together.{AreOneRuns, AreParted, BothDue, BothGiven, TasksDue, TasksGiven, both_in, rows_of_runs}
use Rattle.fx_engine.specs.declared.rows.RowsError.{RowsError}
use Rattle.fx_engine.specs.declared.rows.RowsError.TheVariants as rows_error
use Rattle.fx_walks.specs.declared.tasks.Task.{Task}
use Rattle.fx_engine.proofs.AnsweredLemmas.{alone_served}
use Rattle.fx_engine.proofs.AskedLemmas.{given_as, lost_behind, made_of, refused_as}
use Rattle.fx_walks.proofs.ElementLemmas.{due_minus, due_union, of_minus, of_union, part_minus, part_union}
use Rattle.fx_walks.proofs.PlaceLemmas.{due_of_both, of_operator}
use Rattle.fx_engine.proofs.TogetherLemmas.{alternatives_due, alternatives_given, due_of_given, first_due, first_given, ones_are}

-- ---- rows in another order

pub alternatives_move : (endpoints : List EndpointParts) (block : ℕ) (tasks : List Task) (next later : ℕ) (gs : List Group) (graphs : List (List Triple)) (wanted : List Sent) (found rows : List Bindings) → IsPermutation rows found
    → AlternativesGiven endpoints block tasks next later gs graphs wanted found → AlternativesGiven endpoints block tasks next later gs graphs wanted rows
alternatives_move endpoints block tasks next later gs graphs wanted found rows p h = λ served number rest is.
    let k = h served number rest is in
    (k.0, IsPermutation-trans rows found (alternatives (map (group_in served) gs) (union graphs) number) p k.1)

end_moves : (endpoints : List EndpointParts) (block : ℕ) (tasks : List Task) (next later : ℕ) (in_run : Bool) (before : List Bindings) (graphs : List (List Triple)) (wanted : List Sent) (found rows : List Bindings) → IsPermutation rows found
    → EndGiven endpoints block tasks next later in_run before graphs wanted found → EndGiven endpoints block tasks next later in_run before graphs wanted rows
end_moves endpoints block tasks next later in_run before graphs wanted found rows p h = λ ps filters known defined rest runs fewer is.
    let k = h ps filters known defined rest runs fewer is in
    let joined = run_joined (union graphs) defined ps in
    (k.0, fewer_laws.any_order filters found rows joined joined (IsPermutation-sym rows found p) (IsPermutation-refl joined) k.1)

-- one group alone
module _ (endpoints : List EndpointParts) (block : ℕ) (tasks : List Task) (next : ℕ) (g : Group) (graphs : List (List Triple)) (wanted : List Sent) where
  alone_next : (served : Served) (number : ℕ) (rest : List Task) → IsNext tasks next graphs served (stations_in served number g) rest → IsNext tasks next graphs served (alternative_stations (map (group_in served) (g ∷ [])) number) rest
  alone_next served number rest is = subst (λ (v : List Station). IsNext tasks next graphs served v rest) (sym (append-nil (stations_in served number g))) is

  alone_sent : (served : Served) (number : ℕ) → AreRunsSent endpoints graphs block (alternative_stations (map (group_in served) (g ∷ [])) number) (alternative_seeds (map (group_in served) (g ∷ [])) (union graphs) number) wanted
      → AreRunsSent endpoints graphs block (stations_in served number g) (seeds_in served number graphs g) wanted
  alone_sent served number h =
      subst (λ (v : List Station). AreRunsSent endpoints graphs block v (seeds_in served number graphs g) wanted) (append-nil (stations_in served number g))
      (subst (λ (v : List (List Bindings)). AreRunsSent endpoints graphs block (stations_in served number g ++ []) v wanted) (append-nil (seeds_in served number graphs g)) h)

  pub group_alone : (later : ℕ) (rows : List Bindings) → AlternativesGiven endpoints block tasks next later (g ∷ []) graphs wanted rows → GroupGiven endpoints block tasks next later g graphs wanted rows
  group_alone later rows h = λ served number rest is.
      let k = h served number rest (alone_next served number rest is) in (
        record { behind = k.0.behind; sent = alone_sent served number k.0.sent },
        subst (IsPermutation rows) (append-nil (group_rows (group_in served g) (union graphs) number)) k.1,
      )

  pub group_alone_due : AlternativesDue endpoints block tasks next (g ∷ []) graphs wanted → GroupDue endpoints block tasks next g graphs wanted
  group_alone_due h = λ served number rest is. alone_sent served number (h served number rest (alone_next served number rest is))

-- ---- the groups of a UNION

module _ (tells alone : Bool) (endpoints : List EndpointParts) (block : ℕ) (tasks : List Task) (next end : ℕ) (gs : List Group) (its : List Task) (s t : List Seen) where
  module _ (k : AreOneRuns tasks next (length gs) gs its end) where
    ends : next + length its ≡ end
    ends = ap (λ (n : ℕ). next + n) k.are_next.many ∙ sym k.are_next.end_is

    union_given : (founds : List (List Row)) (graphs : List (List Triple)) (wanted : List Sent) (rows : List Bindings) → TasksGiven endpoints block its graphs wanted founds → IsPermutation rows (rows_of_runs gs founds)
        → AlternativesGiven endpoints block tasks next end gs graphs wanted rows
    union_given founds graphs wanted rows h p =
        alternatives_move endpoints block tasks next end gs graphs wanted (rows_of_runs gs founds) rows p
        (subst (λ (n : ℕ). AlternativesGiven endpoints block tasks next n gs graphs wanted (rows_of_runs gs founds)) ends
        (alternatives_given endpoints block tasks graphs gs (ones_are gs k.ones) its founds k.are_next.others next wanted k.are_next.many k.are_next.next_are h))

    union_due : (graphs : List (List Triple)) (wanted : List Sent) → TasksDue endpoints block its graphs wanted → AlternativesDue endpoints block tasks next gs graphs wanted
    union_due graphs wanted h = alternatives_due endpoints block tasks graphs gs (ones_are gs k.ones) its k.are_next.others next wanted k.are_next.many k.are_next.next_are h

    pub union_asked : (founds : List (List Row)) (r : Result (Vec Bindings Global) RowsError) → IfOk r (λ rows. IsPermutation rows.items (rows_of_runs gs founds)) → IfErr r (λ e. e ≡ rows_error.Flow flow.Memory)
        → Asked tells alone s t endpoints tasks block (TasksGiven endpoints block its) (TasksDue endpoints block its) (Ok founds)
        → Asked tells alone s t endpoints tasks block (AlternativesGiven endpoints block tasks next end gs) (AlternativesDue endpoints block tasks next gs) (solutions_in r)
    union_asked founds r given memory h =
        made_of tells alone endpoints tasks block (TasksGiven endpoints block its) (TasksDue endpoints block its) (AlternativesGiven endpoints block tasks next end gs) (AlternativesDue endpoints block tasks next gs)
        (λ rows. IsPermutation rows (rows_of_runs gs founds)) s t founds r given memory
        (λ graphs wanted rows k p. union_given founds graphs wanted rows k p)
        (λ graphs wanted k. union_due graphs wanted (due_of_given endpoints block its graphs wanted founds k)) h

    pub union_refused : (why : RowsError) → Asked {X = List (List Row)} tells alone s t endpoints tasks block (TasksGiven endpoints block its) (TasksDue endpoints block its) (Err why)
        → Asked {X = List Bindings} tells alone s t endpoints tasks block (AlternativesGiven endpoints block tasks next end gs) (AlternativesDue endpoints block tasks next gs) (Err why)
    union_refused why h =
        refused_as tells alone endpoints tasks block s t (TasksGiven endpoints block its) (TasksDue endpoints block its) (AlternativesGiven endpoints block tasks next end gs) (AlternativesDue endpoints block tasks next gs) why union_due h

  -- ---- a run, and groups behind it

  module _ (k : AreOneRuns tasks next (1 + length gs) gs its end) where
    both_given : (founds : List (List Row)) (rows found : List Bindings) → AreParted gs founds rows found → (graphs : List (List Triple)) (wanted : List Sent) → TasksGiven endpoints block its graphs wanted founds → BothGiven endpoints block tasks next end gs graphs wanted (rows, found)
    both_given founds rows found parted graphs wanted h = by its founds k.are_next.many k.are_next.next_are parted h
      where
        by : (ts : List Task) (fs : List (List Row)) → length ts ≡ 1 + length gs → drop next tasks ≡ ts ++ k.are_next.others → AreParted gs fs rows found → TasksGiven endpoints block ts graphs wanted fs → BothGiven endpoints block tasks next end gs graphs wanted (rows, found)
        by [] fs many is p g = absurd (omega (arith, many))
        by (x ∷ ts) [] many is p g = absurd g
        by (x ∷ ts) (f ∷ fs) many is p g =
            let both = p f fs refl in
            let as_many : length ts ≡ length gs = omega (arith, many) in
            let last : next + 1 + length ts ≡ end = omega (arith, as_many, k.are_next.end_is) in (
              g.0,
              g.1,
              g.2,
              end_moves endpoints block tasks next (next + 1) true one_empty graphs g.0 (solutions_of f) rows both.0 (first_given tells alone endpoints block tasks (ts ++ k.are_next.others) next x is graphs g.0 f g.3),
              alternatives_move endpoints block tasks (next + 1) end gs graphs g.1 (rows_of_runs gs fs) found both.1
                  (subst (λ (n : ℕ). AlternativesGiven endpoints block tasks (next + 1) n gs graphs g.1 (rows_of_runs gs fs)) last
                  (alternatives_given endpoints block tasks graphs gs (ones_are gs k.ones) ts fs k.are_next.others (next + 1) g.1 as_many (behind_next tasks (ts ++ k.are_next.others) next x is) g.4)),
            )

    both_due : (graphs : List (List Triple)) (wanted : List Sent) → TasksDue endpoints block its graphs wanted → BothDue endpoints block tasks next gs graphs wanted
    both_due graphs wanted h = by its k.are_next.many k.are_next.next_are h
      where
        by : (ts : List Task) → length ts ≡ 1 + length gs → drop next tasks ≡ ts ++ k.are_next.others → TasksDue endpoints block ts graphs wanted → BothDue endpoints block tasks next gs graphs wanted
        by [] many is g = absurd (omega (arith, many))
        by (x ∷ ts) many is g =
            let as_many : length ts ≡ length gs = omega (arith, many) in (
              g.0,
              g.1,
              g.2,
              first_due tells alone endpoints block tasks (ts ++ k.are_next.others) next x is graphs g.0 g.3,
              alternatives_due endpoints block tasks graphs gs (ones_are gs k.ones) ts k.are_next.others (next + 1) g.1 as_many (behind_next tasks (ts ++ k.are_next.others) next x is) g.4,
            )

    pub both_asked : (founds : List (List Row)) (r : Result (Vec Bindings Global × Vec Bindings Global) RowsError) → IfOk r (λ both. AreParted gs founds both.0.items both.1.items) → IfErr r (λ e. e ≡ rows_error.Flow flow.Memory)
        → Asked tells alone s t endpoints tasks block (TasksGiven endpoints block its) (TasksDue endpoints block its) (Ok founds)
        → Asked tells alone s t endpoints tasks block (BothGiven endpoints block tasks next end gs) (BothDue endpoints block tasks next gs) (both_in r)
    both_asked founds (Ok both) given memory h =
        given_as tells alone endpoints tasks block s t (TasksGiven endpoints block its) (TasksDue endpoints block its) (BothGiven endpoints block tasks next end gs) (BothDue endpoints block tasks next gs) founds (both.0.items, both.1.items)
        (λ graphs wanted k. both_given founds both.0.items both.1.items given graphs wanted k) h
    both_asked founds (Err e) given memory h =
        subst (λ (e : RowsError). Asked {X = List Bindings × List Bindings} tells alone s t endpoints tasks block (BothGiven endpoints block tasks next end gs) (BothDue endpoints block tasks next gs) (Err e)) (sym memory)
        (lost_behind tells alone endpoints tasks block s t (TasksGiven endpoints block its) (TasksDue endpoints block its) (BothGiven endpoints block tasks next end gs) (BothDue endpoints block tasks next gs) founds
        (λ graphs wanted k. both_due graphs wanted (due_of_given endpoints block its graphs wanted founds k)) h)

    pub both_refused : (why : RowsError) → Asked {X = List (List Row)} tells alone s t endpoints tasks block (TasksGiven endpoints block its) (TasksDue endpoints block its) (Err why)
        → Asked {X = List Bindings × List Bindings} tells alone s t endpoints tasks block (BothGiven endpoints block tasks next end gs) (BothDue endpoints block tasks next gs) (Err why)
    both_refused why h =
        refused_as tells alone endpoints tasks block s t (TasksGiven endpoints block its) (TasksDue endpoints block its) (BothGiven endpoints block tasks next end gs) (BothDue endpoints block tasks next gs) why both_due h

-- ---- an operator with the run before it

due_of_both_given : (endpoints : List EndpointParts) (block : ℕ) (tasks : List Task) (next end : ℕ) (gs : List Group) (graphs : List (List Triple)) (wanted : List Sent) (both : List Bindings × List Bindings) → BothGiven endpoints block tasks next end gs graphs wanted both
    → BothDue endpoints block tasks next gs graphs wanted
due_of_both_given endpoints block tasks next end gs graphs wanted both h = (
  h.0,
  h.1,
  h.2,
  (λ ps filters known defined rest runs fewer is. (h.3 ps filters known defined rest runs fewer is).0.sent),
  (λ served number rest is. (h.4 served number rest is).0.sent),
)

module _ (tells alone : Bool) (endpoints : List EndpointParts) (block : ℕ) (tasks : List Task) (next end : ℕ) (s t : List Seen) where
  -- a UNION
  module _ (gs : List Group) where
    is_union : keeps_run (part_of (Union gs)) ≡ false
    is_union = ap keeps_run (part_union alone_served gs)

    union_is_due : (graphs : List (List Triple)) (wanted : List Sent) → BothDue endpoints block tasks next gs graphs wanted → ElementDue endpoints block tasks next true (Union gs) one_empty graphs wanted
    union_is_due graphs wanted h =
        subst (ElementDue endpoints block tasks next true (Union gs) one_empty graphs) (sym h.2)
        (due_of_both endpoints block tasks next true one_empty graphs (Union gs) is_union h.0 h.1 refl h.3 (λ rows. due_union endpoints block tasks (next + 1) graphs rows h.1 gs h.4))

    union_is_given : (rows found : List Bindings) (graphs : List (List Triple)) (wanted : List Sent) (made : List Bindings) → BothGiven endpoints block tasks next end gs graphs wanted (rows, found) → IsPermutation (join rows found) made
        → ElementGiven endpoints block tasks next end true false (Union gs) one_empty graphs wanted made
    union_is_given rows found graphs wanted made h p =
        subst (λ (v : List Sent). ElementGiven endpoints block tasks next end true false (Union gs) one_empty graphs v made) (sym h.2)
        (of_operator endpoints block tasks next true one_empty graphs (Union gs) is_union (next + 1) end rows made h.0 h.1 h.3 (of_union endpoints block tasks (next + 1) end graphs rows made h.1 gs found h.4 p))

    pub union_behind : (rows found : List Bindings) (r : Result (Vec Bindings Global) RowsError) → IfOk r (λ made. IsPermutation (join rows found) made.items) → IfErr r (λ e. e ≡ rows_error.Flow flow.Memory)
        → Asked tells alone s t endpoints tasks block (BothGiven endpoints block tasks next end gs) (BothDue endpoints block tasks next gs) (Ok (rows, found))
        → Asked tells alone s t endpoints tasks block (ElementGiven endpoints block tasks next end true false (Union gs) one_empty) (ElementDue endpoints block tasks next true (Union gs) one_empty) (solutions_in r)
    union_behind rows found r given memory h =
        made_of tells alone endpoints tasks block (BothGiven endpoints block tasks next end gs) (BothDue endpoints block tasks next gs) (ElementGiven endpoints block tasks next end true false (Union gs) one_empty) (ElementDue endpoints block tasks next true (Union gs) one_empty)
        (λ made. IsPermutation (join rows found) made) s t (rows, found) r given memory
        (λ graphs wanted made k p. union_is_given rows found graphs wanted made k p)
        (λ graphs wanted k. union_is_due graphs wanted (due_of_both_given endpoints block tasks next end gs graphs wanted (rows, found) k)) h

    pub union_behind_refused : (why : RowsError) → Asked {X = List Bindings × List Bindings} tells alone s t endpoints tasks block (BothGiven endpoints block tasks next end gs) (BothDue endpoints block tasks next gs) (Err why)
        → Asked {X = List Bindings} tells alone s t endpoints tasks block (ElementGiven endpoints block tasks next end true false (Union gs) one_empty) (ElementDue endpoints block tasks next true (Union gs) one_empty) (Err why)
    union_behind_refused why h =
        refused_as tells alone endpoints tasks block s t (BothGiven endpoints block tasks next end gs) (BothDue endpoints block tasks next gs) (ElementGiven endpoints block tasks next end true false (Union gs) one_empty) (ElementDue endpoints block tasks next true (Union gs) one_empty) why union_is_due h

  -- a MINUS
  module _ (g : Group) where
    is_minus : keeps_run (part_of (Minus g)) ≡ false
    is_minus = ap keeps_run (part_minus alone_served g)

    abbrev only : List Group
    only = g ∷ []

    minus_is_due : (graphs : List (List Triple)) (wanted : List Sent) → BothDue endpoints block tasks next only graphs wanted → ElementDue endpoints block tasks next true (Minus g) one_empty graphs wanted
    minus_is_due graphs wanted h =
        subst (ElementDue endpoints block tasks next true (Minus g) one_empty graphs) (sym h.2)
        (due_of_both endpoints block tasks next true one_empty graphs (Minus g) is_minus h.0 h.1 refl h.3
        (λ rows. due_minus endpoints block tasks (next + 1) graphs rows h.1 g (group_alone_due endpoints block tasks (next + 1) g graphs h.1 h.4)))

    minus_is_given : (rows found : List Bindings) (graphs : List (List Triple)) (wanted : List Sent) (made : List Bindings) → BothGiven endpoints block tasks next end only graphs wanted (rows, found) → made ≡ minus rows found
        → ElementGiven endpoints block tasks next end true false (Minus g) one_empty graphs wanted made
    minus_is_given rows found graphs wanted made h e =
        subst (λ (v : List Sent). ElementGiven endpoints block tasks next end true false (Minus g) one_empty graphs v made) (sym h.2)
        (of_operator endpoints block tasks next true one_empty graphs (Minus g) is_minus (next + 1) end rows made h.0 h.1 h.3
        (of_minus endpoints block tasks (next + 1) end graphs rows made h.1 g found (group_alone endpoints block tasks (next + 1) g graphs h.1 end found h.4) e))

    pub minus_behind : (rows found : List Bindings) (r : Result (Vec Bindings Global) RowsError) → IfOk r (λ made. made.items ≡ minus rows found) → IfErr r (λ e. e ≡ rows_error.Flow flow.Memory)
        → Asked tells alone s t endpoints tasks block (BothGiven endpoints block tasks next end only) (BothDue endpoints block tasks next only) (Ok (rows, found))
        → Asked tells alone s t endpoints tasks block (ElementGiven endpoints block tasks next end true false (Minus g) one_empty) (ElementDue endpoints block tasks next true (Minus g) one_empty) (solutions_in r)
    minus_behind rows found r given memory h =
        made_of tells alone endpoints tasks block (BothGiven endpoints block tasks next end only) (BothDue endpoints block tasks next only) (ElementGiven endpoints block tasks next end true false (Minus g) one_empty) (ElementDue endpoints block tasks next true (Minus g) one_empty)
        (λ made. made ≡ minus rows found) s t (rows, found) r given memory
        (λ graphs wanted made k e. minus_is_given rows found graphs wanted made k e)
        (λ graphs wanted k. minus_is_due graphs wanted (due_of_both_given endpoints block tasks next end only graphs wanted (rows, found) k)) h

    pub minus_behind_refused : (why : RowsError) → Asked {X = List Bindings × List Bindings} tells alone s t endpoints tasks block (BothGiven endpoints block tasks next end only) (BothDue endpoints block tasks next only) (Err why)
        → Asked {X = List Bindings} tells alone s t endpoints tasks block (ElementGiven endpoints block tasks next end true false (Minus g) one_empty) (ElementDue endpoints block tasks next true (Minus g) one_empty) (Err why)
    minus_behind_refused why h =
        refused_as tells alone endpoints tasks block s t (BothGiven endpoints block tasks next end only) (BothDue endpoints block tasks next only) (ElementGiven endpoints block tasks next end true false (Minus g) one_empty) (ElementDue endpoints block tasks next true (Minus g) one_empty) why minus_is_due h
