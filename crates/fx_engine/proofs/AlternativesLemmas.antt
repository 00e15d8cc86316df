-- Groups asked for one after the other.
use Rattle.std.proofs.Common.{◌≡◌, ap, sym, subst, refl, ℕ, Bool, ◌+◌, List, [], ◌∷◌, ◌++◌, drop, map, Ok, Err, append-nil, append_assoc, IsPermutation}
use Rattle.std.proofs.lemmas.List.Sorted.{IsPermutation-append, IsPermutation-refl}
use Rattle.fx_terms.specs.declared.triples.Triple.{Triple}
use Rattle.fx_outside.specs.Endpoints.{EndpointParts}
use Rattle.fx_algebra.specs.Graphs.{union}
use Rattle.fx_algebra.specs.Groups.{alternatives, alternative_seeds, alternative_stations, group_rows}
use Rattle.fx_algebra.specs.Solutions.{Bindings}
use Rattle.fx_algebra.specs.Stations.{Station}
use Rattle.fx_algebra.specs.declared.queries.Group.{Group}
use Rattle.fx_flows.specs.declared.flows.FlowError.TheVariants as flow
use Rattle.fx_traffic.specs.Sent.{Sent}
use Rattle.fx_wire.specs.Exchanges.{Seen}
use Rattle.fx_engine.specs.Asked.{Asked}
use Rattle.fx_walks.specs.GroupsAsked.{AlternativesDue, AlternativesGiven, GroupDue, GroupGiven, IsNext, all_planned, seeds_in, stations_in}
use Rattle.fx_walks.specs.Served.{Served, group_in}
use Rattle.fx_walks.specs.RunsSent.{AreRunsSent}
use Rattle.fx_engine.specs.declared.rows.RowsError.{RowsError}
use Rattle.fx_engine.specs.declared.rows.RowsError.TheVariants as rows_error
use Rattle.fx_walks.specs.declared.tasks.Task.{Task}
use Rattle.fx_engine.proofs.AskedLemmas.{AllTell, asked_behind, given_as, given_unasked, lost_behind, refused_as}
use Rattle.fx_walks.proofs.EvenLemmas.{groups_are_even}
use Rattle.fx_walks.proofs.StationLemmas.{next_first, next_others, no_run_sent, sent_behind}

-- ---- the groups so far

-- what groups have for requests, and their rows
abbrev stations_by : Served → ℕ → List Group → List Station
stations_by served number gs = alternative_stations (map (group_in served) gs) number

abbrev seeds_by : Served → ℕ → List (List Triple) → List Group → List (List Bindings)
seeds_by served number graphs gs = alternative_seeds (map (group_in served) gs) (union graphs) number

abbrev rows_by : Served → ℕ → List (List Triple) → List Group → List Bindings
rows_by served number graphs gs = alternatives (map (group_in served) gs) (union graphs) number

pub record AreReached (endpoints : List EndpointParts) (graphs : List (List Triple)) (block : ℕ) (tasks : List Task) (later : ℕ) (served : Served) (number : ℕ) (gs : List Group) (last : ℕ) (left : List Group) (rest : List Task) (wanted : List Sent) (rows : List Bindings) : Type 0 where
  pub next_is : IsNext tasks later graphs served (stations_by served last left) rest
  pub goes_on : (more : List Sent) → AreRunsSent endpoints graphs block (stations_by served last left) (seeds_by served last graphs left) more
      → AreRunsSent endpoints graphs block (stations_by served number gs) (seeds_by served number graphs gs) (wanted ++ more)
  pub comes_out : (others : List Bindings) → IsPermutation others (rows_by served last graphs left) → IsPermutation (rows ++ others) (rows_by served number graphs gs)

module _ (endpoints : List EndpointParts) (block : ℕ) (tasks : List Task) (next : ℕ) (gs : List Group) where
  abbrev pub SoFar : ℕ → List Group → List (List Triple) → List Sent → List Bindings → Type 0
  SoFar later left graphs wanted rows =
      (served : Served) (number : ℕ) (rest : List Task) → IsNext tasks next graphs served (alternative_stations (map (group_in served) gs) number) rest
      → (last : ℕ) × AreReached endpoints graphs block tasks later served number gs last left rest wanted rows

  -- before the first
  at_begin : (graphs : List (List Triple)) (rows : List Bindings) → rows ≡ [] → SoFar next gs graphs [] rows
  at_begin graphs rows none served number rest is = (
    number,
    record {
      next_is = is;
      goes_on = λ more k. k;
      comes_out = λ others p. subst (λ (v : List Bindings). IsPermutation (v ++ others) (rows_by served number graphs gs)) (sym none) p;
    },
  )

  -- nothing of groups may be sent
  none_sent : (graphs : List (List Triple)) (served : Served) (number : ℕ) (left : List Group) → AreRunsSent endpoints graphs block (stations_by served number left) (seeds_by served number graphs left) []
  none_sent graphs served number left = no_run_sent endpoints graphs block (stations_by served number left) (seeds_by served number graphs left) (groups_are_even served left (union graphs) number number)

  -- behind one more
  module _ (g : Group) (others left : List Group) (is_left : left ≡ g ∷ others) where
    -- the number behind it
    abbrev behind : Served → ℕ → ℕ
    behind served last = last + (group_in served g).services

    stations_are : (served : Served) (last : ℕ) → stations_by served last left ≡ stations_in served last g ++ stations_by served (behind served last) others
    stations_are served last = ap (stations_by served last) is_left

    seeds_are : (graphs : List (List Triple)) (served : Served) (last : ℕ) → seeds_by served last graphs left ≡ seeds_in served last graphs g ++ seeds_by served (behind served last) graphs others
    seeds_are graphs served last = ap (seeds_by served last graphs) is_left

    rows_are : (graphs : List (List Triple)) (served : Served) (last : ℕ) → rows_by served last graphs left ≡ group_rows (group_in served g) (union graphs) last ++ rows_by served (behind served last) graphs others
    rows_are graphs served last = ap (rows_by served last graphs) is_left

    both_sent : (graphs : List (List Triple)) (served : Served) (last : ℕ) (more most : List Sent) → AreRunsSent endpoints graphs block (stations_in served last g) (seeds_in served last graphs g) more
        → AreRunsSent endpoints graphs block (stations_by served (behind served last) others) (seeds_by served (behind served last) graphs others) most
        → AreRunsSent endpoints graphs block (stations_by served last left) (seeds_by served last graphs left) (more ++ most)
    both_sent graphs served last more most h k =
        subst (λ (v : List Station). AreRunsSent endpoints graphs block v (seeds_by served last graphs left) (more ++ most)) (sym (stations_are served last))
        (subst (λ (v : List (List Bindings)). AreRunsSent endpoints graphs block (stations_in served last g ++ stations_by served (behind served last) others) v (more ++ most)) (sym (seeds_are graphs served last))
        (sent_behind endpoints graphs block (stations_in served last g) (stations_by served (behind served last) others) (seeds_in served last graphs g) (seeds_by served (behind served last) graphs others) more most h k))

    both_next : (graphs : List (List Triple)) (served : Served) (last between : ℕ) (rest : List Task) → IsNext tasks between graphs served (stations_by served last left) rest
        → IsNext tasks between graphs served (stations_in served last g ++ stations_by served (behind served last) others) rest
    both_next graphs served last between rest is = subst (λ (v : List Station). IsNext tasks between graphs served v rest) (stations_are served last) is

    group_next : (graphs : List (List Triple)) (served : Served) (last between : ℕ) (rest : List Task) → IsNext tasks between graphs served (stations_by served last left) rest
        → IsNext tasks between graphs served (stations_in served last g) (all_planned served graphs (stations_by served (behind served last) others) ++ rest)
    group_next graphs served last between rest is = next_first served graphs tasks (stations_in served last g) (stations_by served (behind served last) others) rest between (both_next graphs served last between rest is)

    others_next : (graphs : List (List Triple)) (served : Served) (last between later : ℕ) (rest : List Task) → IsNext tasks between graphs served (stations_by served last left) rest
        → drop later tasks ≡ all_planned served graphs (stations_by served (behind served last) others) ++ rest → IsNext tasks later graphs served (stations_by served (behind served last) others) rest
    others_next graphs served last between later rest is behind_is =
        next_others served graphs tasks (stations_in served last g) (stations_by served (behind served last) others) rest between later (both_next graphs served last between rest is) behind_is

    at_next : (graphs : List (List Triple)) (between later : ℕ) (own more : List Sent) (before found : List Bindings) → SoFar between left graphs own before → GroupGiven endpoints block tasks between later g graphs more found → SoFar later others graphs (own ++ more) (before ++ found)
    at_next graphs between later own more before found so given = λ served number rest is.
        let here = so served number rest is in
        let m = here.0 in
        let a = here.1 in
        let b = given served m (all_planned served graphs (stations_by served (behind served m) others) ++ rest) (group_next graphs served m between rest a.next_is) in (
          behind served m,
          record {
            next_is = others_next graphs served m between later rest a.next_is b.0.behind;
            goes_on = λ most k.
                subst (AreRunsSent endpoints graphs block (stations_by served number gs) (seeds_by served number graphs gs)) (sym (append_assoc own more most)) (a.goes_on (more ++ most) (both_sent graphs served m more most b.0.sent k));
            comes_out = λ last p.
                subst (λ (v : List Bindings). IsPermutation v (rows_by served number graphs gs)) (sym (append_assoc before found last))
                (a.comes_out (found ++ last)
                (subst (IsPermutation (found ++ last)) (sym (rows_are graphs served m)) (IsPermutation-append found (group_rows (group_in served g) (union graphs) m) last (rows_by served (behind served m) graphs others) b.1 p)));
          },
        )

    due_next : (graphs : List (List Triple)) (between : ℕ) (own more : List Sent) (before : List Bindings) → SoFar between left graphs own before → GroupDue endpoints block tasks between g graphs more → AlternativesDue endpoints block tasks next gs graphs (own ++ more)
    due_next graphs between own more before so due = λ served number rest is.
        let here = so served number rest is in
        let m = here.0 in
        let a = here.1 in
        a.goes_on more
        (subst (AreRunsSent endpoints graphs block (stations_by served m left) (seeds_by served m graphs left)) (append-nil more)
        (both_sent graphs served m more [] (due served m (all_planned served graphs (stations_by served (behind served m) others) ++ rest) (group_next graphs served m between rest a.next_is))
        (none_sent graphs served (behind served m) others)))

  -- behind the last
  at_end : (graphs : List (List Triple)) (left : List Group) → left ≡ [] → (later : ℕ) (own : List Sent) (rows : List Bindings) → SoFar later left graphs own rows → AlternativesGiven endpoints block tasks next later gs graphs own rows
  at_end graphs left none later own rows so = λ served number rest is.
      let here = so served number rest is in
      let a = subst (λ (v : List Group). AreReached endpoints graphs block tasks later served number gs here.0 v rest own rows) none here.1 in (
        record {
          behind = a.next_is.next_is;
          sent = subst (AreRunsSent endpoints graphs block (stations_by served number gs) (seeds_by served number graphs gs)) (append-nil own) (a.goes_on [] refl);
        },
        subst (λ (v : List Bindings). IsPermutation v (rows_by served number graphs gs)) (append-nil rows) (a.comes_out [] (IsPermutation-refl [])),
      )

  -- ---- what was asked for

  module _ (tells alone : Bool) where
    pub groups_begun : (wires : List Seen) (rows : List Bindings) → rows ≡ [] → Asked tells alone wires wires endpoints tasks block (SoFar next gs) (AlternativesDue endpoints block tasks next gs) (Ok rows)
    groups_begun wires rows none = given_unasked tells alone endpoints tasks block (SoFar next gs) (AlternativesDue endpoints block tasks next gs) wires rows (λ graphs. at_begin graphs rows none)

    module _ (before between : List Seen) (later : ℕ) (rows : List Bindings) (left : List Group)
        (so : Asked tells alone before between endpoints tasks block (SoFar later left) (AlternativesDue endpoints block tasks next gs) (Ok rows)) where
      pub groups_ended : left ≡ [] → Asked tells alone before between endpoints tasks block (AlternativesGiven endpoints block tasks next later gs) (AlternativesDue endpoints block tasks next gs) (Ok rows)
      groups_ended none =
          given_as tells alone endpoints tasks block before between (SoFar later left) (AlternativesDue endpoints block tasks next gs) (AlternativesGiven endpoints block tasks next later gs) (AlternativesDue endpoints block tasks next gs) rows rows
          (λ graphs wanted s. at_end graphs left none later wanted rows s) so

      module _ (after : List Seen) (a : AllTell tells before) (b : AllTell tells between) (last : ℕ) (g : Group) (others : List Group) (is_left : left ≡ g ∷ others) where
        pub groups_more : (found all : List Bindings) → all ≡ rows ++ found
            → Asked tells alone between after endpoints tasks block (GroupGiven endpoints block tasks later last g) (GroupDue endpoints block tasks later g) (Ok found)
            → Asked tells alone before after endpoints tasks block (SoFar last others) (AlternativesDue endpoints block tasks next gs) (Ok all)
        groups_more found all is h =
            given_as tells alone endpoints tasks block before after (λ graphs wanted more. SoFar last others graphs wanted (rows ++ more)) (AlternativesDue endpoints block tasks next gs) (SoFar last others) (AlternativesDue endpoints block tasks next gs) found all
            (λ graphs wanted s. subst (SoFar last others graphs wanted) (sym is) s)
            (asked_behind tells alone endpoints tasks block before between after a b (SoFar later left) (AlternativesDue endpoints block tasks next gs) (GroupGiven endpoints block tasks later last g) (GroupDue endpoints block tasks later g)
            (λ graphs wanted more. SoFar last others graphs wanted (rows ++ more)) (AlternativesDue endpoints block tasks next gs) rows (Ok found)
            (λ graphs own more y s k. at_next g others left is_left graphs later last own more rows y s k)
            (λ graphs own more s k. due_next g others left is_left graphs later own more rows s k) so h)

        due_so : (graphs : List (List Triple)) (wanted : List Sent) (found : List Bindings) → SoFar last others graphs wanted (rows ++ found) → AlternativesDue endpoints block tasks next gs graphs wanted
        due_so graphs wanted found s = λ served number rest is.
            let c = s served number rest is in
            subst (AreRunsSent endpoints graphs block (stations_by served number gs) (seeds_by served number graphs gs)) (append-nil wanted) (c.1.goes_on [] (none_sent graphs served c.0 others))

        pub groups_lost : (found : List Bindings)
            → Asked tells alone between after endpoints tasks block (GroupGiven endpoints block tasks later last g) (GroupDue endpoints block tasks later g) (Ok found)
            → Asked {X = List Bindings} tells alone before after endpoints tasks block (AlternativesGiven endpoints block tasks next last gs) (AlternativesDue endpoints block tasks next gs) (Err (rows_error.Flow flow.Memory))
        groups_lost found h =
            lost_behind tells alone endpoints tasks block before after (λ graphs wanted more. SoFar last others graphs wanted (rows ++ more)) (AlternativesDue endpoints block tasks next gs) (AlternativesGiven endpoints block tasks next last gs) (AlternativesDue endpoints block tasks next gs) found
            (λ graphs wanted s. due_so graphs wanted found s)
            (asked_behind tells alone endpoints tasks block before between after a b (SoFar later left) (AlternativesDue endpoints block tasks next gs) (GroupGiven endpoints block tasks later last g) (GroupDue endpoints block tasks later g)
            (λ graphs wanted more. SoFar last others graphs wanted (rows ++ more)) (AlternativesDue endpoints block tasks next gs) rows (Ok found)
            (λ graphs own more y s k. at_next g others left is_left graphs later last own more rows y s k)
            (λ graphs own more s k. due_next g others left is_left graphs later own more rows s k) so h)

        pub groups_refused : (why : RowsError)
            → Asked {X = List Bindings} tells alone between after endpoints tasks block (GroupGiven endpoints block tasks later last g) (GroupDue endpoints block tasks later g) (Err why)
            → Asked {X = List Bindings} tells alone before after endpoints tasks block (AlternativesGiven endpoints block tasks next last gs) (AlternativesDue endpoints block tasks next gs) (Err why)
        groups_refused why h =
            refused_as tells alone endpoints tasks block before after (λ graphs wanted more. SoFar last others graphs wanted (rows ++ more)) (AlternativesDue endpoints block tasks next gs) (AlternativesGiven endpoints block tasks next last gs) (AlternativesDue endpoints block tasks next gs) why
            (λ graphs wanted due. due)
            (asked_behind tells alone endpoints tasks block before between after a b (SoFar later left) (AlternativesDue endpoints block tasks next gs) (GroupGiven endpoints block tasks later last g) (GroupDue endpoints block tasks later g)
            (λ graphs wanted more. SoFar last others graphs wanted (rows ++ more)) (AlternativesDue endpoints block tasks next gs) rows (Err why)
            (λ graphs own more y s k. at_next g others left is_left graphs later last own more rows y s k)
            (λ graphs own more s k. due_next g others left is_left graphs later own more rows s k) so h)
