-- Elements that are held back: each joins the rows before it with a table, and these may be taken in any order, among the patterns of a run too.
use Rattle.std.proofs.Common.{◌≡◌, ◌∙◌, ap, sym, subst, refl, ℕ, zero, suc, ◌+◌, ◌<◌, ◌≤◌, true, List, [], ◌∷◌, ◌++◌, length, take, drop, get_or, remove, reverse, IsTrue, IsPermutation, arith, append-nil, append_assoc}
use Rattle.std.specs.Prelude.{All}
use Rattle.std.specs.List.{AllByRecursion}
use Rattle.std.proofs.lemmas.Grind.{flat_map-append, reverse_onto}
use Rattle.std.proofs.lemmas.List.{drop_all, drop_more, reverse-append}
use Rattle.std.proofs.lemmas.List.Elements.{All-from_recursion, recursion_from_All}
use Rattle.std.proofs.lemmas.List.Sorted.{IsPermutation-refl, IsPermutation-sym, IsPermutation-trans}
use Rattle.fx_terms.specs.declared.patterns.Pattern.{Pattern}
use Rattle.fx_terms.specs.declared.triples.Triple.{Triple}
use Rattle.fx_algebra.specs.BasicGraphPatterns.{bgp}
use Rattle.fx_algebra.specs.Evaluation.{extended, rows_from}
use Rattle.fx_algebra.specs.Operators.{join}
use Rattle.fx_algebra.specs.Solutions.{Bindings, rises}
use Rattle.fx_algebra.specs.declared.expressions.Expr.{Expr}
use Rattle.fx_algebra.specs.declared.queries.Element.{Element}
use Rattle.fx_algebra.proofs.JoinLemmas.{join_extends, join_run, same_join}
use Rattle.fx_algebra.proofs.JoinOrderLemmas.{joins_turned, rise_join, run_past}
use Rattle.fx_algebra.proofs.RunLemmas.{all_T}
use Rattle.fx_steps.specs.Fewer.{AreFewer}
use Rattle.fx_steps.proofs.FewerLemmas.{fewer_laws}
use Rattle.fx_evaluation.specs.GroupRows.{AreJoined, AreNearlyAfter, AreTables, IsTable, elements_at, with_tables}
use Rattle.fx_evaluation.proofs.OutsideLemmas.{fewer_on_the_left}
use Rattle.fx_evaluation.proofs.RunLemmas.{run_of_fewer}

abbrev Rising : List Bindings → Type 0
Rising rows = AllByRecursion (λ s. rises s ≡ true) rows

-- ---- rows joined with tables

pub rise_tables : (rows : List Bindings) (tables : List (List Bindings)) → Rising rows → Rising (with_tables rows tables)
rise_tables rows [] up = up
rise_tables rows (t ∷ ts) up = rise_tables (join rows t) ts (rise_join rows t up)

pub rise_run : (graph : List Triple) (rows : List Bindings) (ps : List Pattern) → Rising rows → Rising (rows_from graph rows ps)
rise_run graph rows ps up = subst Rising (join_run graph ps rows (all_T rows up)) (rise_join rows (bgp graph ps) up)

tables_move : (rows others : List Bindings) (tables : List (List Bindings)) → IsPermutation rows others → IsPermutation (with_tables rows tables) (with_tables others tables)
tables_move rows others [] moved = moved
tables_move rows others (t ∷ ts) moved = tables_move (join rows t) (join others t) ts (same_join rows others t t moved (IsPermutation-refl t))

table_past : (rows table : List Bindings) (tables : List (List Bindings)) → Rising rows → IsPermutation (with_tables (join rows table) tables) (join (with_tables rows tables) table)
table_past rows table [] up = IsPermutation-refl (join rows table)
table_past rows table (t ∷ ts) up =
    IsPermutation-trans (with_tables (join (join rows table) t) ts) (with_tables (join (join rows t) table) ts) (join (with_tables (join rows t) ts) table)
    (tables_move (join (join rows table) t) (join (join rows t) table) ts (joins_turned rows table t up))
    (table_past (join rows t) table ts (rise_join rows t up))

-- a pattern before the tables, or behind them
pub pattern_past : (graph : List Triple) (rows : List Bindings) (p : Pattern) (tables : List (List Bindings)) → Rising rows → IsPermutation (with_tables (extended graph p rows) tables) (extended graph p (with_tables rows tables))
pattern_past graph rows p tables up =
    let one = bgp graph (p ∷ []) in
    subst (λ (v : List Bindings). IsPermutation (with_tables v tables) (extended graph p (with_tables rows tables))) (join_extends graph p rows (all_T rows up))
    (subst (λ (v : List Bindings). IsPermutation (with_tables (join rows one) tables) v) (join_extends graph p (with_tables rows tables) (all_T (with_tables rows tables) (rise_tables rows tables up)))
    (table_past rows one tables up))

pub one_table_more : (rows : List Bindings) (tables : List (List Bindings)) (t : List Bindings) → with_tables rows (tables ++ t ∷ []) ≡ join (with_tables rows tables) t
one_table_more rows [] t = refl
one_table_more rows (u ∷ us) t = one_table_more (join rows u) us t

-- the tables the other way round
tables_turned : (rows : List Bindings) (tables : List (List Bindings)) → Rising rows → IsPermutation (with_tables rows (reverse tables)) (with_tables rows tables)
tables_turned rows [] up = IsPermutation-refl rows
tables_turned rows (t ∷ ts) up =
    subst (λ (v : List Bindings). IsPermutation v (with_tables (join rows t) ts)) (sym (ap (with_tables rows) (reverse_onto ts t []) ∙ one_table_more rows (reverse ts) t))
    (IsPermutation-trans (join (with_tables rows (reverse ts)) t) (join (with_tables rows ts) t) (with_tables (join rows t) ts)
    (same_join (with_tables rows (reverse ts)) (with_tables rows ts) t t (tables_turned rows ts up) (IsPermutation-refl t))
    (IsPermutation-sym (with_tables (join rows t) ts) (join (with_tables rows ts) t) (table_past rows t ts up)))

fewer_tables : (conditions : List Expr) (found rows : List Bindings) (tables : List (List Bindings)) → AreFewer conditions found rows → AreFewer conditions (with_tables found tables) (with_tables rows tables)
fewer_tables conditions found rows [] h = h
fewer_tables conditions found rows (t ∷ ts) h = fewer_tables conditions (join found t) (join rows t) ts (fewer_on_the_left conditions found rows t h)

-- ---- the tables of elements

module _ (graphs : List ℕ → List Triple) (down : List ℕ) (graph : List Triple) where
  pub tables_more : (elements : List Element) (tables : List (List Bindings)) (e : Element) (t : List Bindings) → AreTables graphs down graph elements tables → IsTable graphs down graph e t
      → AreTables graphs down graph (elements ++ e ∷ []) (tables ++ t ∷ [])
  tables_more [] [] e t h its = (its, tt)
  tables_more [] (u ∷ us) e t h its = absurd h
  tables_more (x ∷ xs) [] e t h its = absurd h
  tables_more (x ∷ xs) (u ∷ us) e t h its = (h.0, tables_more xs us e t h.1 its)

  are_turned : (elements : List Element) (tables : List (List Bindings)) → AreTables graphs down graph elements tables → AreTables graphs down graph (reverse elements) (reverse tables)
  are_turned [] [] h = h
  are_turned [] (u ∷ us) h = absurd h
  are_turned (x ∷ xs) [] h = absurd h
  are_turned (x ∷ xs) (u ∷ us) h =
      subst (λ (v : List Element). AreTables graphs down graph v (reverse (u ∷ us))) (sym (reverse_onto xs x []))
      (subst (λ (v : List (List Bindings)). AreTables graphs down graph (reverse xs ++ x ∷ []) v) (sym (reverse_onto us u []))
      (tables_more (reverse xs) (reverse us) x u (are_turned xs us h.1) h.0))

  -- that of one of the elements, and those of the others
  record TakenTable (e : Element) (rest : List Element) (tables : List (List Bindings)) : Type 0 where
    pub table : List Bindings
    pub others : List (List Bindings)
    pub its : IsTable graphs down graph e table
    pub are : AreTables graphs down graph rest others
    pub same : (rows : List Bindings) → Rising rows → IsPermutation (with_tables (join rows table) others) (with_tables rows tables)

  taken_table : (e : Element) (xs ys : List Element) (tables : List (List Bindings)) → AreTables graphs down graph (xs ++ e ∷ ys) tables → TakenTable e (xs ++ ys) tables
  taken_table e [] ys [] h = absurd h
  taken_table e [] ys (t ∷ ts) h = record { table = t; others = ts; its = h.0; are = h.1; same = λ rows up. IsPermutation-refl (with_tables (join rows t) ts) }
  taken_table e (x ∷ xs) ys [] h = absurd h
  taken_table e (x ∷ xs) ys (t ∷ ts) h =
      let rest = taken_table e xs ys ts h.1 in
      record {
        table = rest.table;
        others = t ∷ rest.others;
        its = rest.its;
        are = (h.0, rest.are);
        same = λ rows up.
            IsPermutation-trans (with_tables (join (join rows rest.table) t) rest.others) (with_tables (join (join rows t) rest.table) rest.others) (with_tables (join rows t) ts)
            (tables_move (join (join rows rest.table) t) (join (join rows t) rest.table) rest.others (joins_turned rows rest.table t up))
            (rest.same (join rows t) (rise_join rows t up));
      }

-- ---- elements by their places

module _ (all : List Element) where
  one_there : (k : ℕ) (e : Element) → k < length all → e ≡ get_or all k e → take 1 (drop k all) ≡ e ∷ []
  one_there k e b is = ap (take 1) (drop_more all k e b ∙ ap (λ (v : Element). v ∷ drop (k + 1) all) (sym is))

  none_there : (k : ℕ) → length all ≤ k → take 1 (drop k all) ≡ []
  none_there k b = ap (take 1) (drop_all k all b)

  pub one_place_more : (places more : List ℕ) (k : ℕ) (e : Element) → k < length all → e ≡ get_or all k e → more ≡ places ++ k ∷ [] → elements_at all more ≡ elements_at all places ++ e ∷ []
  one_place_more places more k e b is added =
      ap (elements_at all) added
      ∙ flat_map-append (λ place. take 1 (drop place all)) places (k ∷ [])
      ∙ ap (λ (v : List Element). elements_at all places ++ v) (append-nil (take 1 (drop k all)) ∙ one_there k e b is)

  parted : (places : List ℕ) (i k : ℕ) → i < length places → k ≡ get_or places i k → elements_at all places ≡ elements_at all (take i places) ++ (take 1 (drop k all) ++ elements_at all (drop (suc i) places))
  parted [] i k b is = absurd (omega (arith, b))
  parted (x ∷ xs) zero k b is = ap (λ (v : ℕ). take 1 (drop v all) ++ elements_at all xs) (sym is)
  parted (x ∷ xs) (suc i) k b is =
      ap (λ (v : List Element). take 1 (drop x all) ++ v) (parted xs i k (omega (arith, b)) is)
      ∙ sym (append_assoc (take 1 (drop x all)) (elements_at all (take i xs)) (take 1 (drop k all) ++ elements_at all (drop (suc i) xs)))

  removed : (places : List ℕ) (i : ℕ) → elements_at all (remove places i) ≡ elements_at all (take i places) ++ elements_at all (drop (suc i) places)
  removed places i = flat_map-append (λ place. take 1 (drop place all)) (take i places) (drop (suc i) places)

  one_or_none : (xs : List Element) → reverse (take 1 xs) ≡ take 1 xs
  one_or_none [] = refl
  one_or_none (x ∷ xs) = refl

  places_turned : (places : List ℕ) → elements_at all (reverse places) ≡ reverse (elements_at all places)
  places_turned [] = refl
  places_turned (k ∷ ks) =
      let one = take 1 (drop k all) in
      let others = elements_at all ks in
      ap (elements_at all) (reverse_onto ks k [])
      ∙ flat_map-append (λ place. take 1 (drop place all)) (reverse ks) (k ∷ [])
      ∙ ap (λ (v : List Element). elements_at all (reverse ks) ++ v) (append-nil one)
      ∙ ap (λ (v : List Element). v ++ one) (places_turned ks)
      ∙ sym (reverse-append one others ∙ ap (λ (v : List Element). reverse others ++ v) (one_or_none (drop k all)))

-- ---- elements are taken one by one

-- what the elements that are left make of the rows so far, all make of those before
abbrev pub LeadsTo : List Expr → List Triple → List Element → List Bindings → List Element → List Bindings → Type 0
LeadsTo conditions graph all before left rows = (found : List Bindings) → AreJoined conditions left graph rows found → AreJoined conditions all graph before found

module _ (conditions : List Expr) (graph : List Triple) (all : List Element) (before : List Bindings) where
  pub leads_first : (rows : List Bindings) → AreFewer conditions rows before → LeadsTo conditions graph all before all rows
  leads_first rows fewer found h = record {
    same = λ graphs down tables are.
        fewer_laws.in_turn conditions found (with_tables rows tables) (with_tables before tables) (h.same graphs down tables are) (fewer_tables conditions rows before tables fewer);
  }

  -- fewer rows
  pub leads_fewer : (left : List Element) (rows kept : List Bindings) → LeadsTo conditions graph all before left rows → AreFewer conditions kept rows → LeadsTo conditions graph all before left kept
  leads_fewer left rows kept so fewer found h = so found (record {
    same = λ graphs down tables are.
        fewer_laws.in_turn conditions found (with_tables kept tables) (with_tables rows tables) (h.same graphs down tables are) (fewer_tables conditions kept rows tables fewer);
  })

  -- the elements are taken the other way round
  pub leads_turned : (elements : List Element) (places others : List ℕ) (rows : List Bindings) (ps : List Pattern) → others ≡ reverse places → All (λ s. IsTrue (rises s)) rows
      → LeadsTo conditions graph all before (elements_at elements places) (rows_from graph rows ps) → LeadsTo conditions graph all before (elements_at elements others) (rows_from graph rows ps)
  leads_turned elements places others rows ps turned up so found h = so found (record {
    same = λ graphs down tables are.
        let run = rows_from graph rows ps in
        let rising = rise_run graph rows ps (recursion_from_All (λ s. IsTrue (rises s)) rows up) in
        let held : elements_at elements others ≡ reverse (elements_at elements places) = ap (elements_at elements) turned ∙ places_turned elements places in
        let those = subst (λ (v : List Element). AreTables graphs down graph v (reverse tables)) (sym held) (are_turned graphs down graph (elements_at elements places) tables are) in
        fewer_laws.in_turn conditions found (with_tables run (reverse tables)) (with_tables run tables) (h.same graphs down (reverse tables) those)
        (fewer_laws.none conditions (with_tables run (reverse tables)) (with_tables run tables) (tables_turned run tables rising));
  })

  -- one of the elements goes before what is left of the run
  leads_joined : (xs ys : List Element) (rows next : List Bindings) (ps : List Pattern) (e : Element) → LeadsTo conditions graph all before (xs ++ e ∷ ys) (rows_from graph rows ps)
      → All (λ s. IsTrue (rises s)) rows → All (λ s. IsTrue (rises s)) next → AreNearlyAfter conditions e graph rows next → LeadsTo conditions graph all before (xs ++ ys) (rows_from graph next ps)
  leads_joined xs ys rows next ps e so up also near found h = so found (record {
    same = λ graphs down tables are.
        let rising = recursion_from_All (λ s. IsTrue (rises s)) rows up in
        let taken = taken_table graphs down graph e xs ys tables are in
        let table = taken.table in
        let others = taken.others in
        let joined = join rows table in
        let all_rise = All-from_recursion (λ s. IsTrue (rises s)) joined (rise_join rows table rising) in
        let gone : AreFewer conditions next joined = subst (λ (v : List Bindings). AreFewer conditions next v) (taken.its.joined rows) (near.same graphs down taken.its.number taken.its.are_down) in
        let behind : AreFewer conditions (rows_from graph next ps) (rows_from graph joined ps) = run_of_fewer conditions graph next joined ps also all_rise gone in
        let last = with_tables (rows_from graph next ps) others in
        let between = with_tables (rows_from graph joined ps) others in
        let whole = with_tables (rows_from graph rows ps) tables in
        let moved : IsPermutation between whole =
        IsPermutation-trans between (with_tables (join (rows_from graph rows ps) table) others) whole (tables_move (rows_from graph joined ps) (join (rows_from graph rows ps) table) others (run_past graph rows table ps rising))
        (taken.same (rows_from graph rows ps) (rise_run graph rows ps rising)) in
        fewer_laws.in_turn conditions found last whole (h.same graphs down others taken.are)
        (fewer_laws.in_turn conditions last between whole (fewer_tables conditions (rows_from graph next ps) (rows_from graph joined ps) others behind) (fewer_laws.none conditions between whole moved));
  })

  -- the one at a place
  pub held_joined : (elements : List Element) (left rest : List ℕ) (rows next : List Bindings) (ps : List Pattern) (e : Element) (i k : ℕ) → LeadsTo conditions graph all before (elements_at elements left) (rows_from graph rows ps)
      → i < length left → k ≡ get_or left i k → rest ≡ remove left i → k < length elements → e ≡ get_or elements k e → All (λ s. IsTrue (rises s)) rows → All (λ s. IsTrue (rises s)) next → AreNearlyAfter conditions e graph rows next
      → LeadsTo conditions graph all before (elements_at elements rest) (rows_from graph next ps)
  held_joined elements left rest rows next ps e i k so b is out within there up also near =
      let xs = elements_at elements (take i left) in
      let ys = elements_at elements (drop (suc i) left) in
      let split : elements_at elements left ≡ xs ++ e ∷ ys = parted elements left i k b is ∙ ap (λ (v : List Element). xs ++ (v ++ ys)) (one_there elements k e within there) in
      let others : elements_at elements rest ≡ xs ++ ys = ap (elements_at elements) out ∙ removed elements left i in
      subst (λ (v : List Element). LeadsTo conditions graph all before v (rows_from graph next ps)) (sym others)
      (leads_joined xs ys rows next ps e (subst (λ (v : List Element). LeadsTo conditions graph all before v (rows_from graph rows ps)) split so) up also near)

  -- where none stands there
  pub held_nowhere : (elements : List Element) (left rest : List ℕ) (rows : List Bindings) (i k : ℕ) → LeadsTo conditions graph all before (elements_at elements left) rows
      → i < length left → k ≡ get_or left i k → rest ≡ remove left i → length elements ≤ k → LeadsTo conditions graph all before (elements_at elements rest) rows
  held_nowhere elements left rest rows i k so b is out beyond =
      let xs = elements_at elements (take i left) in
      let ys = elements_at elements (drop (suc i) left) in
      let split : elements_at elements left ≡ xs ++ ys = parted elements left i k b is ∙ ap (λ (v : List Element). xs ++ (v ++ ys)) (none_there elements k beyond) in
      let others : elements_at elements rest ≡ xs ++ ys = ap (elements_at elements) out ∙ removed elements left i in
      subst (λ (v : List Element). LeadsTo conditions graph all before v rows) (split ∙ sym others) so

  -- where none is left
  pub leads_end : (left : List Element) (rows found : List Bindings) → left ≡ [] → LeadsTo conditions graph all before left rows → AreFewer conditions found rows → AreJoined conditions all graph before found
  leads_end left rows found none so fewer = so found (record { same = λ graphs down tables are. by graphs down tables (subst (λ (v : List Element). AreTables graphs down graph v tables) none are) })
    where
      by : (graphs : List ℕ → List Triple) (down : List ℕ) (tables : List (List Bindings)) → AreTables graphs down graph [] tables → AreFewer conditions found (with_tables rows tables)
      by graphs down [] are = fewer
      by graphs down (t ∷ ts) are = absurd are
