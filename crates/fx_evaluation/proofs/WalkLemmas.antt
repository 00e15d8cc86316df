-- A group is gone through with the patterns of a run held back.
use Rattle.std.proofs.Common.{◌≡◌, ◌∙◌, ap, sym, subst, refl, inl, ℕ, ◌+◌, ◌<◌, ◌≤◌, Bool, true, not, ◌&&◌, List, [], ◌∷◌, ◌++◌, map, filter, length, take, drop, get_or, IsTrue, IsPermutation, arith, append_assoc}
use Rattle.std.specs.Prelude.{All}
use Rattle.std.specs.List.{AllByRecursion, filter_map, flat_map, list_any}
use Rattle.std.proofs.lemmas.List.{drop_more, drop_all}
use Rattle.std.specs.List.Sorted.{IsStrictlySortedBy}
use Rattle.fx_terms.specs.Triples.{triple_cmp}
use Rattle.fx_algebra.specs.Operators.{filtered, inline_rows, join, left_join, minus}
use Rattle.fx_evaluation.proofs.ConditionLemmas.{all_of_them}
use Rattle.fx_evaluation.proofs.HeldLemmas.{one_table_more, pattern_past, rise_run, rise_tables, tables_more}
use Rattle.fx_evaluation.proofs.RunLemmas.{bgps_move}
use Rattle.std.proofs.lemmas.List.Elements.{All-from_recursion, recursion_from_All}
use Rattle.std.proofs.lemmas.List.Sorted.{IsPermutation-append, IsPermutation-refl, IsPermutation-sym, IsPermutation-trans}
use Rattle.fx_terms.specs.declared.triples.Triple.{Triple}
use Rattle.fx_terms.specs.declared.patterns.Pattern.{Pattern}
use Rattle.fx_algebra.specs.Evaluation.{extended, rows_from}
use Rattle.fx_algebra.specs.Conditions.{holds}
use Rattle.fx_algebra.specs.BasicGraphPatterns.{bgp, forced, parts_of}
use Rattle.fx_algebra.specs.Groups.{Meaning, Part, Step, after, alternatives, apply, condition, element_meaning, group_rows, meaning, one_empty, operator, part_services, pattern, run, steps_of}
use Rattle.fx_algebra.specs.Solutions.{Bindings, agree, merge, rises}
use Rattle.fx_algebra.specs.declared.expressions.Expr.{Expr}
use Rattle.fx_algebra.specs.declared.queries.Element.{Element, Element-F}
use Rattle.fx_algebra.specs.declared.queries.Element.TheVariants.{Triple as Triple-E, Filter, Optional, Union, Values, Minus}
use Rattle.fx_algebra.specs.declared.queries.Inline.{Inline}
use Rattle.fx_algebra.specs.declared.queries.Group.{Group}
use Rattle.fx_algebra.proofs.OperatorLemmas.{filtered_by_none}
use Rattle.fx_steps.specs.Fewer.{AreFewer}
use Rattle.fx_steps.specs.Groups.{ComesOut, IsPushed}
use Rattle.fx_steps.proofs.FewerLemmas.{fewer_laws}
use Rattle.fx_steps.proofs.GroupLemmas.{PartGoes, part_goes}
use Rattle.fx_terms.proofs.SetLemmas.{Among}
use Rattle.std.proofs.lemmas.Grind.{flat_map-append}
use Rattle.fx_evaluation.specs.GroupRows.{AreAfter, AreAlternatives, AreConditions, AreDown, AreFewerRows, AreJoined, AreKnown, AreNearly, AreNearlyAfter, AreRowsOf, AreTables, AreUnfiltered, after_part, part_of, with_tables}
use Rattle.fx_evaluation.specs.Optionals.{IsRunOf, matches_or_itself}
use Rattle.fx_evaluation.proofs.GroupLemmas.{AllRise, all_rise, by_part, down_within, meaning_is, part_filter, part_minus, part_optional, part_step, part_triple, part_union, part_values, plus_none, services_append, services_of, taken}
use Rattle.fx_evaluation.proofs.OutsideLemmas.{all_there, fewer_filtered, fewer_joined, join_known, left_join_known, minus_known}
use Rattle.fx_evaluation.proofs.OptionalLemmas.{left_join_of_run, rows_from_more}

-- what is left completes the rows after the elements so far, joined with tables of those that are held back, without some that conditions refuse
pub record IsNearAt (conditions : List Expr) (graphs : List ℕ → List Triple) (down : List ℕ) (number : ℕ) (all done left : List Element) (graph : List Triple) (rows : List Bindings) (held : List Element) : Type 0 where
  pub tables : List (List Bindings)
  pub are : AreTables graphs down graph held tables
  pub fewer : AreFewer conditions (after graph (number + services_of graphs down done) (with_tables rows tables) (steps_of (map (part_of graphs down) left))) (after graph number one_empty (steps_of (map (part_of graphs down) all)))

pub record IsNear (conditions : List Expr) (all done left : List Element) (graph : List Triple) (rows : List Bindings) (held : List Element) : Type 0 where
  pub split : done ++ left ≡ all
  pub same : (graphs : List ℕ → List Triple) (down : List ℕ) (number : ℕ) → AreDown down number (services_of graphs down all) → IsNearAt conditions graphs down number all done left graph rows held

-- the rows after one element more: some of those before it may be gone, and tables of others may be held back behind it
pub record IsNextAt (conditions : List Expr) (graphs : List ℕ → List Triple) (down : List ℕ) (number : ℕ) (e : Element) (graph : List Triple) (before rows : List Bindings) (held : List Element) : Type 0 where
  pub kept : List Bindings
  pub rising : AllRise kept
  pub fewer : AreFewer conditions kept before
  pub tables : List (List Bindings)
  pub are : AreTables graphs down graph held tables
  pub next : AreFewer conditions (with_tables rows tables) (after_part graph number kept (part_of graphs down e))

abbrev pub IsNext : List Expr → Element → List Triple → List Bindings → List Element → List Bindings → List Element → Type 0
IsNext conditions e graph before held rows more = (graphs : List ℕ → List Triple) (down : List ℕ) (number : ℕ) (tables : List (List Bindings)) → AreTables graphs down graph held tables → AreDown down number (part_services (part_of graphs down e))
    → IsNextAt conditions graphs down number e graph (with_tables before tables) rows more

module _ (conditions : List Expr) where
  -- the steps of a group, as they stand
  comes_out : (graph : List Triple) (number : ℕ) (steps : List Step) (found : List Bindings) → ComesOut conditions graph number found steps (after graph number found steps)
  comes_out graph number [] found = IsPermutation-refl found
  comes_out graph number (run ps ∷ steps) found =
      let next = join found (bgp graph ps) in (
        next,
        record { filters = []; pushed = All-from_recursion (IsPushed conditions ps) [] tt; rows_are = subst (λ (v : List Bindings). IsPermutation next v) (sym (filtered_by_none next)) (IsPermutation-refl next) },
        comes_out graph number steps next,
      )
  comes_out graph number (apply o ∷ steps) found =
      let next = o.rows graph number found in (next, IsPermutation-refl next, comes_out graph (number + o.services) steps next)

  -- rows that are gone before them are gone behind them
  pub fewer_behind : (graphs : List ℕ → List Triple) (down : List ℕ) (elements : List Element) (graph : List Triple) (number : ℕ) (found rows : List Bindings) → AreFewer conditions found rows
      → AreFewer conditions (after graph number found (steps_of (map (part_of graphs down) elements))) (after graph number rows (steps_of (map (part_of graphs down) elements)))
  fewer_behind graphs down elements graph number found rows h =
      let steps = steps_of (map (part_of graphs down) elements) in
      fewer_laws.steps (record { elements = elements }) graphs down conditions graph number found rows (after graph number found steps) h (comes_out graph number steps found)

  pub near_first : (all : List Element) (graph : List Triple) (rows : List Bindings) (held : List Element) → rows ≡ one_empty → held ≡ [] → IsNear conditions all [] all graph rows held
  near_first all graph rows held first none =
      subst (λ (v : List Element). IsNear conditions all [] all graph rows v) (sym none)
      (subst (λ (v : List Bindings). IsNear conditions all [] all graph v []) (sym first) (record {
        split = refl;
        same = λ graphs down number h.
            let whole = after graph number one_empty (steps_of (map (part_of graphs down) all)) in
            record { tables = []; are = tt; fewer = subst (λ n. AreFewer conditions (after graph n one_empty (steps_of (map (part_of graphs down) all))) whole) (sym (plus_none number)) (all_of_them conditions whole) };
      }))

  -- one element more
  near_more : (all done left : List Element) (e : Element) (graph : List Triple) (before rows : List Bindings) (held more : List Element) → IsNear conditions all done (e ∷ left) graph before held
      → IsNext conditions e graph before held rows more → IsNear conditions all (done ++ e ∷ []) left graph rows more
  near_more all done left e graph before rows held more so step = record {
    split = append_assoc done (e ∷ []) left ∙ so.split;
    same = λ graphs down number h.
        let part = part_of graphs down e in
        let steps = steps_of (map (part_of graphs down) left) in
        let start = after graph number one_empty (steps_of (map (part_of graphs down) all)) in
        let here = number + services_of graphs down done in
        let counted : services_of graphs down (done ++ e ∷ left) ≡ services_of graphs down done + services_of graphs down (e ∷ left) = services_append graphs down done (e ∷ left) in
        let whole : services_of graphs down (done ++ e ∷ left) ≡ services_of graphs down all = ap (services_of graphs down) so.split in
        let all_here : AreDown down here (part_services part) = down_within down number (services_of graphs down all) here (part_services part) h (omega arith) (omega (arith, counted, whole)) in
        let one : services_of graphs down (done ++ e ∷ []) ≡ services_of graphs down done + services_of graphs down (e ∷ []) = services_append graphs down done (e ∷ []) in
        let behind : here + part_services part ≡ number + services_of graphs down (done ++ e ∷ []) = omega (arith, one) in
        let there = here + part_services part in
        let near = so.same graphs down number h in
        let next = step graphs down here near.tables near.are all_here in
        let last = with_tables rows next.tables in
        let between = after_part graph here next.kept part in
        record {
          tables = next.tables;
          are = next.are;
          fewer =
              subst (λ n. AreFewer conditions (after graph n last steps) start) behind
              (fewer_laws.in_turn conditions (after graph there last steps) (after graph there between steps) start (fewer_behind graphs down left graph there last between next.next)
              (subst (λ (v : List Bindings). AreFewer conditions v start) (part_step graph here part steps next.kept next.rising)
              (fewer_laws.in_turn conditions (after graph here next.kept (steps_of (map (part_of graphs down) (e ∷ left)))) (after graph here (with_tables before near.tables) (steps_of (map (part_of graphs down) (e ∷ left)))) start
              (fewer_behind graphs down (e ∷ left) graph here next.kept (with_tables before near.tables) next.fewer) near.fewer)));
        };
  }

  pub near_by : (all : List Element) (i : ℕ) (e : Element) (graph : List Triple) (before rows : List Bindings) (held more : List Element) → i < length all → e ≡ get_or all i e
      → IsNear conditions all (take i all) (drop i all) graph before held → IsNext conditions e graph before held rows more → IsNear conditions all (take (i + 1) all) (drop (i + 1) all) graph rows more
  near_by all i e graph before rows held more b is so step =
      let split : drop i all ≡ e ∷ drop (i + 1) all = drop_more all i e b ∙ ap (λ (v : Element). v ∷ drop (i + 1) all) (sym is) in
      let here : IsNear conditions all (take i all) (e ∷ drop (i + 1) all) graph before held = subst (λ (v : List Element). IsNear conditions all (take i all) v graph before held) split so in
      subst (λ (v : List Element). IsNear conditions all v (drop (i + 1) all) graph rows more) (taken all i e b is) (near_more all (take i all) (drop (i + 1) all) e graph before rows held more here step)

  near_all : (g : Group) (done : List Element) (graph : List Triple) (before rows : List Bindings) (held : List Element) → IsNear conditions g.elements done [] graph before held → AreJoined conditions held graph before rows → AreNearly g graph conditions rows
  near_all g done graph before rows held so joined = record {
    same = λ graphs down number h.
        subst (λ (m : Meaning). AreFewer conditions rows (m.rows graph number)) (sym (meaning_is graphs down g))
        (by graphs down number (so.same graphs down number (subst (λ (m : Meaning). AreDown down number m.services) (meaning_is graphs down g) h)));
  }
    where
      by : (graphs : List ℕ → List Triple) (down : List ℕ) (number : ℕ) → IsNearAt conditions graphs down number g.elements done [] graph before held
          → AreFewer conditions rows (after graph number one_empty (steps_of (map (part_of graphs down) g.elements)))
      by graphs down number near =
          fewer_laws.in_turn conditions rows (with_tables before near.tables) (after graph number one_empty (steps_of (map (part_of graphs down) g.elements))) (joined.same graphs down near.tables near.are) near.fewer

  near_end : (g : Group) (all : List Element) (i : ℕ) (graph : List Triple) (before rows : List Bindings) (held : List Element) → all ≡ g.elements → length all ≤ i → IsNear conditions all (take i all) (drop i all) graph before held
      → AreJoined conditions held graph before rows → AreNearly g graph conditions rows
  near_end g all i graph before rows held e b so joined =
      near_all g (take i all) graph before rows held
      (subst (λ (v : List Element). IsNear conditions v (take i all) [] graph before held) e (subst (λ (v : List Element). IsNear conditions all (take i all) v graph before held) (drop_all i all b) so)) joined

-- the rows after the elements so far are nearly those that come of the rows in hand by a run and other elements, all of which are held back
abbrev pub IsHeld : List Expr → List Element → ℕ → List Triple → List Bindings → List Pattern → List Element → Type 0
IsHeld conditions all i graph rows patterns held = IsNear conditions all (take i all) (drop i all) graph (rows_from graph rows patterns) held

-- an element that joins the rows before it with a table
record Joins (e : Element) (graph : List Triple) : Type 0 where
  pub table : (List ℕ → List Triple) → List ℕ → ℕ → List Bindings
  pub same : (graphs : List ℕ → List Triple) (down : List ℕ) (number : ℕ) (rows : List Bindings) → after_part graph number rows (part_of graphs down e) ≡ join rows (table graphs down number)

joins_values : (inline : Inline) (graph : List Triple) → Joins (Values inline) graph
joins_values inline graph = record { table = λ graphs down number. inline_rows inline; same = λ graphs down number rows. ap (after_part graph number rows) (part_values graphs down inline) }

joins_union : (gs : List Group) (graph : List Triple) → Joins (Union gs) graph
joins_union gs graph = record { table = λ graphs down number. alternatives (map (meaning graphs down) gs) graph number; same = λ graphs down number rows. ap (after_part graph number rows) (part_union graphs down gs) }

module _ (conditions : List Expr) (all : List Element) (i : ℕ) (e : Element) (graph : List Triple) (rows : List Bindings) (patterns : List Pattern) (held : List Element) (b : i < length all) (is : e ≡ get_or all i e)
    (so : IsHeld conditions all i graph rows patterns held) where
  abbrev pub before : List Bindings
  before = rows_from graph rows patterns

  rising_before : All (λ s. IsTrue (rises s)) rows → AllByRecursion (λ s. rises s ≡ true) before
  rising_before up = rise_run graph rows patterns (recursion_from_All (λ s. IsTrue (rises s)) rows up)

  rising_tables : (tables : List (List Bindings)) → All (λ s. IsTrue (rises s)) rows → AllRise (with_tables before tables)
  rising_tables tables up = all_rise (with_tables before tables) (rise_tables before tables (rising_before up))

  pub held_triple : (p q : Pattern) (more : List Pattern) → All (λ s. IsTrue (rises s)) rows → e ≡ Triple-E p → q ≡ p → more ≡ patterns ++ q ∷ [] → IsHeld conditions all (i + 1) graph rows more held
  held_triple p q more up named same added =
      let pushed : more ≡ patterns ++ p ∷ [] = added ∙ ap (λ (x : Pattern). patterns ++ x ∷ []) same in
      let longer : rows_from graph rows more ≡ extended graph p before = ap (rows_from graph rows) pushed ∙ rows_from_more graph rows patterns p in
      near_by conditions all i e graph before (rows_from graph rows more) held held b is so
      (λ graphs down number tables are h.
      let whole = with_tables before tables in
      let part_is : part_of graphs down e ≡ pattern p = ap (part_of graphs down) named ∙ part_triple graphs down p in
      record {
        kept = whole;
        rising = rising_tables tables up;
        fewer = all_of_them conditions whole;
        tables = tables;
        are = are;
        next =
            subst (λ (v : List Bindings). AreFewer conditions (with_tables v tables) (after_part graph number whole (part_of graphs down e))) (sym longer)
            (subst (λ (part : Part). AreFewer conditions (with_tables (extended graph p before) tables) (after_part graph number whole part)) (sym part_is)
            (fewer_laws.none conditions (with_tables (extended graph p before) tables) (extended graph p whole) (pattern_past graph before p tables (rising_before up))));
      })

  pub held_filter : (x : Expr) → All (λ s. IsTrue (rises s)) rows → e ≡ Filter x → IsHeld conditions all (i + 1) graph rows patterns held
  held_filter x up named =
      near_by conditions all i e graph before before held held b is so
      (λ graphs down number tables are h.
      let whole = with_tables before tables in
      let part_is : part_of graphs down e ≡ condition x = ap (part_of graphs down) named ∙ part_filter graphs down x in
      record {
        kept = whole;
        rising = rising_tables tables up;
        fewer = all_of_them conditions whole;
        tables = tables;
        are = are;
        next = subst (λ (part : Part). AreFewer conditions whole (after_part graph number whole part)) (sym part_is) (all_of_them conditions whole);
      })

  -- an element that joins is held back
  held_more : (more : List Element) → All (λ s. IsTrue (rises s)) rows → Joins e graph → more ≡ held ++ e ∷ [] → IsHeld conditions all (i + 1) graph rows patterns more
  held_more more up its added =
      near_by conditions all i e graph before before held more b is so
      (λ graphs down number tables are h.
      let whole = with_tables before tables in
      let table = its.table graphs down number in
      record {
        kept = whole;
        rising = rising_tables tables up;
        fewer = all_of_them conditions whole;
        tables = tables ++ table ∷ [];
        are =
            subst (λ (v : List Element). AreTables graphs down graph v (tables ++ table ∷ [])) (sym added)
            (tables_more graphs down graph held tables e table are (record { number = number; are_down = h; joined = its.same graphs down number }));
        next =
            subst (λ (v : List Bindings). AreFewer conditions v (after_part graph number whole (part_of graphs down e))) (sym (one_table_more before tables table))
            (subst (λ (v : List Bindings). AreFewer conditions (join whole table) v) (sym (its.same graphs down number whole)) (all_of_them conditions (join whole table)));
      })

  pub held_values : (inline : Inline) (more : List Element) → All (λ s. IsTrue (rises s)) rows → e ≡ Values inline → more ≡ held ++ e ∷ [] → IsHeld conditions all (i + 1) graph rows patterns more
  held_values inline more up named added = held_more more up (subst (λ (x : Element). Joins x graph) (sym named) (joins_values inline graph)) added

  pub held_union : (gs : List Group) (more : List Element) → All (λ s. IsTrue (rises s)) rows → e ≡ Union gs → more ≡ held ++ e ∷ [] → IsHeld conditions all (i + 1) graph rows patterns more
  held_union gs more up named added = held_more more up (subst (λ (x : Element). Joins x graph) (sym named) (joins_union gs graph)) added

  -- any other element comes behind all that was held back
  pub held_other : (found next : List Bindings) (none : List Pattern) (gone : List Element) → AreJoined conditions held graph before found → All (λ s. IsTrue (rises s)) found → AreAfter e graph found next → none ≡ [] → gone ≡ []
      → IsHeld conditions all (i + 1) graph next none gone
  held_other found next none gone joined up behind no_pattern no_element =
      subst (λ (v : List Pattern). IsHeld conditions all (i + 1) graph next v gone) (sym no_pattern)
      (subst (λ (v : List Element). IsHeld conditions all (i + 1) graph next [] v) (sym no_element)
      (near_by conditions all i e graph before next held [] b is so
      (λ graphs down number tables are h.
      let after_it = after_part graph number found (part_of graphs down e) in
      record {
        kept = found;
        rising = all_rise found (recursion_from_All (λ s. IsTrue (rises s)) found up);
        fewer = joined.same graphs down tables are;
        tables = [];
        are = tt;
        next = fewer_laws.none conditions next after_it (IsPermutation-sym after_it next (behind.same graphs down number h));
      })))

pub held_end : (conditions : List Expr) (g : Group) (all : List Element) (i : ℕ) (graph : List Triple) (rows found : List Bindings) (patterns : List Pattern) (held : List Element) → all ≡ g.elements → length all ≤ i
    → IsHeld conditions all i graph rows patterns held → AreJoined conditions held graph (rows_from graph rows patterns) found → AreNearly g graph conditions found
held_end conditions g all i graph rows found patterns held e b so joined = near_end conditions g all i graph (rows_from graph rows patterns) found held e b so joined

-- ---- what joins, with conditions

pub after_is_near : (conditions : List Expr) (e : Element) (graph : List Triple) (before rows : List Bindings) → AreAfter e graph before rows → AreNearlyAfter conditions e graph before rows
after_is_near conditions e graph before rows h = record {
  same = λ graphs down number all. let whole = after_part graph number before (part_of graphs down e) in fewer_laws.none conditions rows whole (IsPermutation-sym whole rows (h.same graphs down number all));
}

pub union_is_near : (conditions : List Expr) (gs : List Group) (graph : List Triple) (before found rows : List Bindings) → AreAlternatives gs graph conditions found → IsPermutation (join before found) rows
    → AreNearlyAfter conditions (Union gs) graph before rows
union_is_near conditions gs graph before found rows those joined = record {
  same = λ graphs down number h.
      let others = alternatives (map (meaning graphs down) gs) graph number in
      let fewer : AreFewer conditions rows (join before others) =
      fewer_laws.any_order conditions (join before found) rows (join before others) (join before others) joined (IsPermutation-refl (join before others))
      (fewer_joined conditions before found others (those.same graphs down number (subst (λ (part : Part). AreDown down number (part_services part)) (part_union graphs down gs) h))) in
      subst (λ (part : Part). AreFewer conditions rows (after_part graph number before part)) (sym (part_union graphs down gs)) fewer;
}

-- ---- the filters at the end

abbrev says : List Expr → Bindings → Bool
says conditions s = holds conditions s

same_holds : (g : Group) (conditions : List Expr) (graphs : List ℕ → List Triple) (down : List ℕ) → AreConditions g conditions → says conditions ≡ says (meaning graphs down g).filters
same_holds g conditions graphs down h = λ i s. h.same graphs down s i

pub rows_filtered : (g : Group) (graph : List Triple) (own outside conditions : List Expr) (found rows : List Bindings) → conditions ≡ own ++ outside → AreNearly g graph conditions found → AreConditions g own → rows ≡ filtered own found
    → AreFewerRows g graph outside rows
rows_filtered g graph own outside conditions found rows parts near says e = record {
  same = λ graphs down number all.
      let m = meaning graphs down g in
      let whole = m.rows graph number in
      let same : filtered own whole ≡ filtered m.filters whole = ap (λ (p : Bindings → Bool). filter p whole) (same_holds g own graphs down says) in
      subst (λ (v : List Bindings). AreFewer outside v (filtered m.filters whole)) (sym e)
      (subst (λ (v : List Bindings). AreFewer outside (filtered own found) v) same
      (fewer_filtered own outside found whole (subst (λ (es : List Expr). AreFewer es found whole) parts (near.same graphs down number all))));
}

pub rows_all : (g : Group) (graph : List Triple) (rows : List Bindings) → AreFewerRows g graph [] rows → AreRowsOf g graph rows
rows_all g graph rows h = record { same = λ graphs down number all. all_there rows (group_rows (meaning graphs down g) graph number) (h.same graphs down number all) }

-- where the conditions of an OPTIONAL say the same, so does it
abbrev left_join_by : (Bindings → Bool) → List Bindings → List Bindings → List Bindings
left_join_by p left right = filter p (join left right) ++ filter (λ a. not (list_any (λ b. agree a b && p (merge a b)) right)) left

pub nearly_optional : (graph : List Triple) (before rows : List Bindings) (g : Group) (found : List Bindings) (conditions : List Expr) → AreNearly g graph conditions found → AreConditions g conditions → IsPermutation (left_join before found conditions) rows
    → AreAfter (Optional g) graph before rows
nearly_optional graph before rows g found conditions near own joined =
    by_part graph before rows (Optional g) (λ graphs down. element_meaning graphs down (Element-F.Optional (meaning graphs down g))) (λ graphs down. part_optional graphs down g)
    (λ graphs down number all. let m = meaning graphs down g in
    let whole = m.rows graph number in
    let same : left_join before whole conditions ≡ left_join before whole m.filters = ap (λ (p : Bindings → Bool). left_join_by p before whole) (same_holds g conditions graphs down own) in
    IsPermutation-trans (left_join before whole m.filters) (left_join before found conditions) rows
    (subst (λ (v : List Bindings). IsPermutation v (left_join before found conditions)) same
    (IsPermutation-sym (left_join before found conditions) (left_join before whole conditions) (fewer_laws.on_the_right conditions before found whole (near.same graphs down number all)))) joined)

-- ---- elements behind rows of which something is known

module _ (graph : List Triple) (known : List Expr) (before rows : List Bindings) (its : AreKnown known before) where
  pub known_union : (gs : List Group) (found : List Bindings) → AreAlternatives gs graph known found → IsPermutation (join before found) rows → AreAfter (Union gs) graph before rows
  known_union gs found those joined =
      by_part graph before rows (Union gs) (λ graphs down. element_meaning graphs down (Element-F.Union (map (meaning graphs down) gs))) (λ graphs down. part_union graphs down gs)
      (λ graphs down number all. let others = alternatives (map (meaning graphs down) gs) graph number in
      IsPermutation-trans (join before others) (join before found) rows (join_known known before found others its (those.same graphs down number all)) joined)

  pub known_minus : (g : Group) (found : List Bindings) → AreFewerRows g graph known found → rows ≡ minus before found → AreAfter (Minus g) graph before rows
  known_minus g found those e =
      by_part graph before rows (Minus g) (λ graphs down. element_meaning graphs down (Element-F.Minus (meaning graphs down g))) (λ graphs down. part_minus graphs down g)
      (λ graphs down number all. let others = group_rows (meaning graphs down g) graph number in
      subst (λ (v : List Bindings). IsPermutation (minus before others) v) (sym e) (minus_known known before found others its (those.same graphs down number all)))

  pub known_optional : (g : Group) (own conditions : List Expr) (found : List Bindings) → conditions ≡ own ++ known → AreNearly g graph conditions found → AreConditions g own → IsPermutation (left_join before found own) rows
      → AreAfter (Optional g) graph before rows
  known_optional g own conditions found parts near says joined =
      by_part graph before rows (Optional g) (λ graphs down. element_meaning graphs down (Element-F.Optional (meaning graphs down g))) (λ graphs down. part_optional graphs down g)
      (λ graphs down number all. let m = meaning graphs down g in
      let whole = m.rows graph number in
      let same : left_join before whole own ≡ left_join before whole m.filters = ap (λ (p : Bindings → Bool). left_join_by p before whole) (same_holds g own graphs down says) in
      IsPermutation-trans (left_join before whole m.filters) (left_join before found own) rows
      (subst (λ (v : List Bindings). IsPermutation v (left_join before found own)) same
      (left_join_known own known before found whole its (subst (λ (es : List Expr). AreFewer es found whole) parts (near.same graphs down number all)))) joined)

-- ---- row by row

nothing_after : (graph : List Triple) (number : ℕ) (part : Part) → PartGoes part → after_part graph number [] part ≡ []
nothing_after graph number (pattern p) go = refl
nothing_after graph number (condition e) go = refl
nothing_after graph number (operator o) go = none (o.rows graph number []) (λ s m. (go.grows graph number [] s m).1)
  where
    none : (rows : List Bindings) → ((s : Bindings) → Among s rows → ⊥) → rows ≡ []
    none [] f = refl
    none (s ∷ rows) f = absurd (f s (inl refl))

both_after : (graph : List Triple) (number : ℕ) (part : Part) → PartGoes part → (xs ys : List Bindings) → IsPermutation (after_part graph number (xs ++ ys) part) (after_part graph number xs part ++ after_part graph number ys part)
both_after graph number (pattern p) go xs ys =
    let halves : extended graph p (xs ++ ys) ≡ extended graph p xs ++ extended graph p ys = flat_map-append (λ row. filter_map (λ t. forced row (parts_of p t)) graph) xs ys in
    subst (λ (v : List Bindings). IsPermutation v (extended graph p xs ++ extended graph p ys)) (sym halves) (IsPermutation-refl (extended graph p xs ++ extended graph p ys))
both_after graph number (condition e) go xs ys = IsPermutation-refl (xs ++ ys)
both_after graph number (operator o) go xs ys = go.splits graph number xs ys

pub row_none : (e : Element) (graph : List Triple) → AreAfter e graph [] []
row_none e graph = record {
  same = λ graphs down number h.
      let part = part_of graphs down e in
      subst (λ (v : List Bindings). IsPermutation v []) (sym (nothing_after graph number part (part_goes graphs down e))) (IsPermutation-refl []);
}

pub row_more : (e : Element) (graph : List Triple) (xs : List Bindings) (x : Bindings) (rows more all : List Bindings) → AreAfter e graph xs rows → AreAfter e graph (x ∷ []) more → all ≡ rows ++ more → AreAfter e graph (xs ++ x ∷ []) all
row_more e graph xs x rows more all h k is = record {
  same = λ graphs down number d.
      let part = part_of graphs down e in
      subst (λ (v : List Bindings). IsPermutation (after_part graph number (xs ++ x ∷ []) part) v) (sym is)
      (IsPermutation-trans (after_part graph number (xs ++ x ∷ []) part) (after_part graph number xs part ++ after_part graph number (x ∷ []) part) (rows ++ more) (both_after graph number part (part_goes graphs down e) xs (x ∷ []))
      (IsPermutation-append (after_part graph number xs part) rows (after_part graph number (x ∷ []) part) more (h.same graphs down number d) (k.same graphs down number d)));
}

-- ---- an OPTIONAL whose patterns are looked up in another order

exactly : (g : Group) (graph : List Triple) (rows : List Bindings) (conditions : List Expr) → AreUnfiltered g graph rows → AreNearly g graph conditions rows
exactly g graph rows conditions h = record {
  same = λ graphs down number all. let whole = (meaning graphs down g).rows graph number in fewer_laws.none conditions rows whole (IsPermutation-sym whole rows (h.same graphs down number all));
}

pub after_run_moved : (g : Group) (graph : List Triple) (before rows : List Bindings) (ps qs : List Pattern) (filters : List Expr) → IsStrictlySortedBy triple_cmp graph → IsRunOf g ps → IsPermutation ps qs → AreConditions g filters
    → All (λ s. IsTrue (rises s)) before → rows ≡ flat_map (matches_or_itself graph qs filters) before → AreAfter (Optional g) graph before rows
after_run_moved g graph before rows ps qs filters sorted whole moved own up e =
    let found = rows_from graph one_empty qs in
    let rising = all_rise before (recursion_from_All (λ s. IsTrue (rises s)) before up) in
    let unfiltered : AreUnfiltered g graph found = record {
      same = λ graphs down number h.
          IsPermutation-trans ((meaning graphs down g).rows graph number) (rows_from graph one_empty ps) found ((whole.same graph).same graphs down number h) (bgps_move graph ps qs sorted moved);
    } in
    nearly_optional graph before rows g found filters (exactly g graph found filters unfiltered) own
    (subst (λ (v : List Bindings). IsPermutation (left_join before found filters) v) (sym e) (left_join_of_run graph qs filters before rising))
