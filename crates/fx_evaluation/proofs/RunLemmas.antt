-- A run whose patterns are taken one by one or in parts, and a table that goes before it.
use Rattle.std.proofs.Common.{◌≡◌, ◌∙◌, ap, refl, sym, subst, true, ◌++◌, append-nil, append_assoc, List, [], ◌∷◌, IsTrue, IsPermutation, ℕ, ◌<◌, length, get_or, remove}
use Rattle.std.specs.Prelude.{All}
use Rattle.std.specs.List.{AllByRecursion, filter_map}
use Rattle.std.specs.List.Sorted.{IsStrictlySortedBy}
use Rattle.std.proofs.lemmas.List.Elements.{recursion_from_All, All-from_recursion}
use Rattle.std.proofs.lemmas.List.Sorted.{All-permutation, IsPermutation-append, IsPermutation-refl, IsPermutation-remove, IsPermutation-sym, IsPermutation-trans}
use Rattle.fx_terms.specs.Triples.{triple_cmp}
use Rattle.fx_terms.specs.declared.patterns.Pattern.{Pattern}
use Rattle.fx_terms.specs.declared.triples.Triple.{Triple}
use Rattle.fx_algebra.specs.BasicGraphPatterns.{bgp, forced, parts_of}
use Rattle.fx_algebra.specs.Evaluation.{extended, rows_from}
use Rattle.fx_algebra.specs.Operators.{join}
use Rattle.fx_algebra.specs.Solutions.{Bindings, rises}
use Rattle.fx_algebra.proofs.BgpLemmas.{rows_from-bgp}
use Rattle.fx_algebra.proofs.JoinLemmas.{join_extends, join_run, same_join}
use Rattle.fx_algebra.proofs.RunLemmas.{all_T, bgp_moves, runs_move}
use Rattle.fx_algebra.proofs.JoinOrderLemmas.{rise_join, run_past}
use Rattle.fx_algebra.specs.declared.expressions.Expr.{Expr}
use Rattle.fx_algebra.proofs.OperatorLemmas.{filtered_by_none}
use Rattle.fx_steps.specs.Fewer.{AreFewer}
use Rattle.fx_steps.specs.Groups.{IsPushed, IsRunOut}
use Rattle.fx_steps.proofs.FewerLemmas.{fewer_laws}
use Rattle.fx_evaluation.specs.Runs.{IsOneMore, IsPart}

-- rows that rise do so in another order, and with a pattern more
rise_moved : (xs ys : List Bindings) → AllByRecursion (λ s. rises s ≡ true) xs → IsPermutation xs ys → AllByRecursion (λ s. rises s ≡ true) ys
rise_moved xs ys up moved = recursion_from_All (λ s. IsTrue (rises s)) ys (All-permutation (λ s. IsTrue (rises s)) xs ys moved (All-from_recursion (λ s. IsTrue (rises s)) xs up))

rise_extended : (graph : List Triple) (p : Pattern) (rows : List Bindings) → AllByRecursion (λ s. rises s ≡ true) rows → AllByRecursion (λ s. rises s ≡ true) (extended graph p rows)
rise_extended graph p rows up = subst (λ (v : List Bindings). AllByRecursion (λ s. rises s ≡ true) v) (join_extends graph p rows (all_T rows up)) (rise_join rows (bgp graph (p ∷ [])) up)

pub bgps_move : (graph : List Triple) (ps qs : List Pattern) → IsStrictlySortedBy triple_cmp graph → IsPermutation ps qs → IsPermutation (rows_from graph ([] ∷ []) ps) (rows_from graph ([] ∷ []) qs)
bgps_move graph ps qs sorted moved =
    subst (λ (v : List Bindings). IsPermutation v (rows_from graph ([] ∷ []) qs)) (sym (rows_from-bgp graph ps))
    (subst (λ (v : List Bindings). IsPermutation (bgp graph ps) v) (sym (rows_from-bgp graph qs)) (bgp_moves graph ps qs sorted moved))

-- the same rows, however they arrived, give the same
pub rows_from_moves : (graph : List Triple) (xs ys : List Bindings) (ps : List Pattern) → AllByRecursion (λ s. rises s ≡ true) xs → AllByRecursion (λ s. rises s ≡ true) ys → IsPermutation xs ys
    → IsPermutation (rows_from graph xs ps) (rows_from graph ys ps)
rows_from_moves graph xs ys ps up also moved =
    subst (λ (v : List Bindings). IsPermutation v (rows_from graph ys ps)) (join_run graph ps xs (all_T xs up))
    (subst (λ (v : List Bindings). IsPermutation (join xs (bgp graph ps)) v) (join_run graph ps ys (all_T ys also)) (same_join xs ys (bgp graph ps) (bgp graph ps) moved (IsPermutation-refl (bgp graph ps))))

-- ---- one pattern more

-- it was taken out of those that are left
pub one_at : (graph : List Triple) (rows more : List Bindings) (left rest : List Pattern) (p : Pattern) (at : ℕ) → at < length left → p ≡ get_or left at p → rest ≡ remove left at → IsPermutation (extended graph p rows) more
    → IsOneMore graph rows left more rest
one_at graph rows more left rest p at within is others joined = record {
  taken = p;
  split = subst (λ (v : List Pattern). IsPermutation left (p ∷ v)) (sym others) (IsPermutation-remove left at p within is);
  rows_are = joined;
}

pub one_more : (graph : List Triple) (rows more : List Bindings) (left rest : List Pattern) → IsStrictlySortedBy triple_cmp graph → All (λ s. IsTrue (rises s)) rows → IsOneMore graph rows left more rest
    → IsPermutation (rows_from graph rows left) (rows_from graph more rest)
one_more graph rows more left rest sorted up h =
    let next = extended graph h.taken rows in
    let rising = rise_extended graph h.taken rows (recursion_from_All (λ s. IsTrue (rises s)) rows up) in
    IsPermutation-trans (rows_from graph rows left) (rows_from graph next rest) (rows_from graph more rest)
    (runs_move graph rows left (h.taken ∷ rest) sorted up h.split)
    (rows_from_moves graph next more rest rising (rise_moved next more rising h.rows_are) h.rows_are)

-- a pattern under the empty solution gives its own rows
pub rows_alone : (graph : List Triple) (p : Pattern) (nothing : Bindings) (rows : List Bindings) → nothing ≡ [] → rows ≡ filter_map (λ t. forced nothing (parts_of p t)) graph → rows ≡ rows_from graph ([] ∷ []) (p ∷ [])
rows_alone graph p nothing rows is found = found ∙ ap (λ (s : Bindings). filter_map (λ t. forced s (parts_of p t)) graph) is ∙ sym (append-nil (filter_map (λ t. forced [] (parts_of p t)) graph))

-- the triples of a pattern, found at once and joined
pub scanned : (graph : List Triple) (rows found more : List Bindings) (p : Pattern) → All (λ s. IsTrue (rises s)) rows → found ≡ rows_from graph ([] ∷ []) (p ∷ []) → IsPermutation (join rows found) more
    → IsPermutation (extended graph p rows) more
scanned graph rows found more p up is moved =
    subst (λ (v : List Bindings). IsPermutation v more) (ap (join rows) (is ∙ rows_from-bgp graph (p ∷ [])) ∙ join_extends graph p rows (all_T rows (recursion_from_All (λ s. IsTrue (rises s)) rows up))) moved

-- ---- a part of a run

rows_from_append : (graph : List Triple) (rows : List Bindings) (ps qs : List Pattern) → rows_from graph rows (ps ++ qs) ≡ rows_from graph (rows_from graph rows ps) qs
rows_from_append graph rows [] qs = refl
rows_from_append graph rows (p ∷ ps) qs = rows_from_append graph (extended graph p rows) ps qs

rising_one : AllByRecursion (λ s. rises s ≡ true) ([] ∷ [])
rising_one = (refl, tt)

pub part_first : (graph : List Triple) (all rest : List Pattern) (rows : List Bindings) → IsOneMore graph ([] ∷ []) all rows rest → IsPart graph all rows rest
part_first graph all rest rows h = record { taken = h.taken ∷ []; split = h.split; rows_are = h.rows_are }

pub part_more : (graph : List Triple) (all left rest : List Pattern) (rows more : List Bindings) → All (λ s. IsTrue (rises s)) rows → IsPart graph all rows left → IsOneMore graph rows left more rest → IsPart graph all more rest
part_more graph all left rest rows more up part h =
    let taken = part.taken in
    let p = h.taken in
    let before = rows_from graph ([] ∷ []) taken in
    let rising = recursion_from_All (λ s. IsTrue (rises s)) rows up in
    record {
      taken = taken ++ p ∷ [];
      split =
          subst (λ (v : List Pattern). IsPermutation all v) (sym (append_assoc taken (p ∷ []) rest))
          (IsPermutation-trans all (taken ++ left) (taken ++ p ∷ rest) part.split (IsPermutation-append taken taken left (p ∷ rest) (IsPermutation-refl taken) h.split));
      rows_are =
          subst (λ (v : List Bindings). IsPermutation v more) (sym (rows_from_append graph ([] ∷ []) taken (p ∷ [])))
          (IsPermutation-trans (extended graph p before) (extended graph p rows) more
          (rows_from_moves graph before rows (p ∷ []) (rise_moved rows before rising (IsPermutation-sym before rows part.rows_are)) rising part.rows_are) h.rows_are);
    }

-- rows are joined with it
pub part_joined : (graph : List Triple) (rows found more : List Bindings) (all rest : List Pattern) → IsStrictlySortedBy triple_cmp graph → All (λ s. IsTrue (rises s)) rows → IsPart graph all found rest → IsPermutation (join rows found) more
    → IsPermutation (rows_from graph rows all) (rows_from graph more rest)
part_joined graph rows found more all rest sorted up part moved =
    let taken = part.taken in
    let rising = recursion_from_All (λ s. IsTrue (rises s)) rows up in
    let own = rows_from graph ([] ∷ []) taken in
    let both : join rows own ≡ rows_from graph rows taken = ap (join rows) (rows_from-bgp graph taken) ∙ join_run graph taken rows (all_T rows rising) in
    let joined = IsPermutation-trans (join rows own) (join rows found) more (same_join rows rows own found (IsPermutation-refl rows) part.rows_are) moved in
    let up_own = rise_join rows own rising in
    IsPermutation-trans (rows_from graph rows all) (rows_from graph rows (taken ++ rest)) (rows_from graph more rest) (runs_move graph rows all (taken ++ rest) sorted up part.split)
    (subst (λ (v : List Bindings). IsPermutation v (rows_from graph more rest)) (ap (λ (v : List Bindings). rows_from graph v rest) both ∙ sym (rows_from_append graph rows taken rest))
    (rows_from_moves graph (join rows own) more rest up_own (rise_moved (join rows own) more up_own joined) joined))

-- ---- rows that are gone before a run are gone behind it

pub run_of_fewer : (conditions : List Expr) (graph : List Triple) (found rows : List Bindings) (ps : List Pattern) → All (λ s. IsTrue (rises s)) found → All (λ s. IsTrue (rises s)) rows → AreFewer conditions found rows
    → AreFewer conditions (rows_from graph found ps) (rows_from graph rows ps)
run_of_fewer conditions graph found rows ps up also fewer =
    let next = join found (bgp graph ps) in
    let out : IsRunOut conditions graph found ps next = record {
      filters = [];
      pushed = All-from_recursion (IsPushed conditions ps) [] tt;
      rows_are = subst (λ (v : List Bindings). IsPermutation next v) (sym (filtered_by_none next)) (IsPermutation-refl next);
    } in
    subst (λ (v : List Bindings). AreFewer conditions v (rows_from graph rows ps)) (join_run graph ps found (all_T found (recursion_from_All (λ s. IsTrue (rises s)) found up)))
    (subst (λ (v : List Bindings). AreFewer conditions next v) (join_run graph ps rows (all_T rows (recursion_from_All (λ s. IsTrue (rises s)) rows also))) (fewer_laws.run conditions graph ps found rows next fewer out))

pub same_again : (conditions : List Expr) (found rows : List Bindings) → IsPermutation rows found → AreFewer conditions found rows
same_again conditions found rows moved = fewer_laws.none conditions found rows (IsPermutation-sym rows found moved)

-- a table that rows are joined with goes before a run that is held back
pub table_first : (graph : List Triple) (rows table next : List Bindings) (ps : List Pattern) → All (λ s. IsTrue (rises s)) rows → IsPermutation (join rows table) next
    → IsPermutation (join (rows_from graph rows ps) table) (rows_from graph next ps)
table_first graph rows table next ps up moved =
    let rising = recursion_from_All (λ s. IsTrue (rises s)) rows up in
    let both = rise_join rows table rising in
    let after = recursion_from_All (λ s. IsTrue (rises s)) next (All-permutation (λ s. IsTrue (rises s)) (join rows table) next moved (All-from_recursion (λ s. IsTrue (rises s)) (join rows table) both)) in
    IsPermutation-trans (join (rows_from graph rows ps) table) (rows_from graph (join rows table) ps) (rows_from graph next ps)
    (IsPermutation-sym (rows_from graph (join rows table) ps) (join (rows_from graph rows ps) table) (run_past graph rows table ps rising))
    (rows_from_moves graph (join rows table) next ps both after moved)
