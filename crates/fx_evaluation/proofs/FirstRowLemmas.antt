-- A run has a row on which conditions hold where one of the rows before it leads to one.
use Rattle.std.proofs.Common.{◌≡◌, ◌∙◌, ap, sym, subst, refl, ℕ, suc, ◌+◌, ◌<◌, ◌≤◌, Bool, true, false, cond, ◌||◌, List, [], ◌∷◌, ◌++◌, filter, length, drop, get_or, All, IsTrue, IsPermutation, arith, append-nil, Option, None}
use Rattle.std.specs.Prelude.{◌==◌}
use Rattle.std.specs.List.{filter_map}
use Rattle.std.proofs.lemmas.Bool.Decides.{nat_tests}
use Rattle.std.specs.List.Sorted.{IsStrictlySortedBy}
use Rattle.std.proofs.lemmas.Grind.{flat_map-append}
use Rattle.std.proofs.lemmas.List.{drop_more, drop_all}
use Rattle.std.proofs.lemmas.List.Elements.{filter-append}
use Rattle.std.proofs.lemmas.List.Sorted.{length_permutation}
use Rattle.fx_terms.specs.Triples.{triple_cmp}
use Rattle.fx_terms.specs.declared.patterns.Pattern.{Pattern}
use Rattle.fx_terms.specs.declared.triples.Triple.{Triple}
use Rattle.fx_algebra.specs.Answers.{form_answer, has_rows, with_inline}
use Rattle.fx_algebra.specs.BasicGraphPatterns.{forced, parts_of}
use Rattle.fx_algebra.specs.Conditions.{holds}
use Rattle.fx_algebra.specs.Evaluation.{extended, rows_from}
use Rattle.fx_algebra.specs.Groups.{evaluated, meaning, one_empty}
use Rattle.fx_algebra.specs.Occurrences.{services}
use Rattle.fx_algebra.specs.Operators.{filtered}
use Rattle.fx_algebra.specs.Solutions.{Bindings, rises}
use Rattle.fx_algebra.specs.declared.answers.Answer.TheVariants.{Truth}
use Rattle.fx_algebra.specs.declared.expressions.Expr.{Expr}
use Rattle.fx_algebra.specs.declared.queries.Form.{Form}
use Rattle.fx_algebra.specs.declared.queries.Form.TheVariants.{Ask}
use Rattle.fx_algebra.specs.declared.queries.Group.{Group}
use Rattle.fx_algebra.specs.declared.queries.Inline.{Inline}
use Rattle.fx_algebra.specs.declared.queries.Query.{Query}
use Rattle.fx_algebra.proofs.OperatorLemmas.{filtered_by_empty}
use Rattle.fx_algebra.proofs.RunLemmas.{runs_move}
use Rattle.fx_steps.specs.Fewer.{AreFewer}
use Rattle.fx_steps.proofs.FewerLemmas.{fewer_laws}
use Rattle.fx_evaluation.specs.FirstRows.{TellsOfRows}
use Rattle.fx_evaluation.specs.GroupRows.{AreConditions, AreDown, IsAnswerOf}
use Rattle.fx_evaluation.specs.Known.{ComeToFewer}
use Rattle.fx_evaluation.specs.Optionals.{IsRunOf}
use Rattle.fx_evaluation.proofs.CountLemmas.{services_count}
use Rattle.fx_evaluation.proofs.RunLemmas.{run_of_fewer}

-- ---- rows in another order

same_length : (xs ys : List Bindings) → length ys ≡ length xs → has_rows xs ≡ has_rows ys
same_length [] [] e = refl
same_length [] (y ∷ ys) e = absurd (omega arith)
same_length (x ∷ xs) [] e = absurd (omega arith)
same_length (x ∷ xs) (y ∷ ys) e = refl

moved : (xs ys : List Bindings) → IsPermutation xs ys → has_rows xs ≡ has_rows ys
moved xs ys h = same_length xs ys (length_permutation xs ys h)

-- what is gone holds nowhere behind
of_fewer : (conditions : List Expr) (found rows : List Bindings) → AreFewer conditions found rows → has_rows (filtered conditions found) ≡ has_rows (filtered conditions rows)
of_fewer conditions found rows h = moved (filtered conditions found) (filtered conditions rows) (fewer_laws.at_the_end conditions found rows h)

-- ---- row by row

some_of_both : (xs ys : List Bindings) → has_rows (xs ++ ys) ≡ (has_rows xs || has_rows ys)
some_of_both [] ys = refl
some_of_both (x ∷ xs) ys = refl

rows_of_both : (graph : List Triple) (xs ys : List Bindings) (ps : List Pattern) → rows_from graph (xs ++ ys) ps ≡ rows_from graph xs ps ++ rows_from graph ys ps
rows_of_both graph xs ys [] = refl
rows_of_both graph xs ys (p ∷ ps) =
    ap (λ (v : List Bindings). rows_from graph v ps) (flat_map-append (λ row. filter_map (λ t. forced row (parts_of p t)) graph) xs ys) ∙ rows_of_both graph (extended graph p xs) (extended graph p ys) ps

-- whether patterns give of rows one on which the conditions hold
abbrev pub leads : List Triple → List Expr → List Pattern → List Bindings → Bool
leads graph conditions ps rows = has_rows (filtered conditions (rows_from graph rows ps))

none_leads : (graph : List Triple) (ps : List Pattern) → rows_from graph [] ps ≡ []
none_leads graph [] = refl
none_leads graph (p ∷ ps) = none_leads graph ps

module _ (graph : List Triple) (conditions : List Expr) (ps : List Pattern) where
  pub leads_none : leads graph conditions ps [] ≡ false
  leads_none = ap (λ (v : List Bindings). has_rows (filtered conditions v)) (none_leads graph ps)

  leads_both : (xs ys : List Bindings) → leads graph conditions ps (xs ++ ys) ≡ (leads graph conditions ps xs || leads graph conditions ps ys)
  leads_both xs ys =
      ap (λ (v : List Bindings). has_rows (filtered conditions v)) (rows_of_both graph xs ys ps)
      ∙ ap has_rows (filter-append (holds conditions) (rows_from graph xs ps) (rows_from graph ys ps))
      ∙ some_of_both (filtered conditions (rows_from graph xs ps)) (filtered conditions (rows_from graph ys ps))

  module _ (rows : List Bindings) (i : ℕ) (row : Bindings) (within : i < length rows) (is : row ≡ get_or rows i row) where
    split : leads graph conditions ps (drop i rows) ≡ (leads graph conditions ps (row ∷ []) || leads graph conditions ps (drop (i + 1) rows))
    split =
        ap (leads graph conditions ps) (drop_more rows i row within ∙ ap (λ (v : Bindings). v ∷ drop (i + 1) rows) (sym is))
        ∙ leads_both (row ∷ []) (drop (i + 1) rows)

    -- a row that leads nowhere is passed over
    pub passed : leads graph conditions ps (drop i rows) ≡ leads graph conditions ps rows → false ≡ leads graph conditions ps (row ∷ []) → leads graph conditions ps (drop (i + 1) rows) ≡ leads graph conditions ps rows
    passed so nowhere = ap (λ (b : Bool). b || leads graph conditions ps (drop (i + 1) rows)) nowhere ∙ sym split ∙ so

    -- one that leads to a row is enough
    pub reached : leads graph conditions ps (drop i rows) ≡ leads graph conditions ps rows → true ≡ leads graph conditions ps (row ∷ []) → true ≡ leads graph conditions ps rows
    reached so there = ap (λ (b : Bool). b || leads graph conditions ps (drop (i + 1) rows)) there ∙ sym split ∙ so

  -- behind the last none has led to one
  pub at_end : (rows : List Bindings) (i : ℕ) → length rows ≤ i → leads graph conditions ps (drop i rows) ≡ leads graph conditions ps rows → false ≡ leads graph conditions ps rows
  at_end rows i behind so = sym leads_none ∙ ap (leads graph conditions ps) (sym (drop_all i rows behind)) ∙ so

-- a row leads to itself where no pattern is left
pub leads_itself : (graph : List Triple) (conditions : List Expr) (row : Bindings) (held : Bool) → held ≡ holds conditions row → held ≡ leads graph conditions [] (row ∷ [])
leads_itself graph conditions row held e = e ∙ pick (holds conditions row)
  where
    pick : (b : Bool) → b ≡ has_rows (cond b (row ∷ []) [])
    pick true = refl
    pick false = refl

-- ---- one pattern more

some_left : (n : ℕ) → true ≡ (suc n == 0) → ⊥
some_left n h = grind (arith, nat_tests)

-- the rows that it gives of one row
pub of_row : (graph : List Triple) (p : Pattern) (row : Bindings) → filter_map (λ t. forced row (parts_of p t)) graph ≡ extended graph p (row ∷ [])
of_row graph p row = sym (append-nil (filter_map (λ t. forced row (parts_of p t)) graph))

pub leads_behind : (graph : List Triple) (conditions : List Expr) (ps : List Pattern) (more rows : List Bindings) (found : Bool) → All (λ s. IsTrue (rises s)) more → All (λ s. IsTrue (rises s)) rows → AreFewer conditions more rows
    → found ≡ leads graph conditions ps more → found ≡ leads graph conditions ps rows
leads_behind graph conditions ps more rows found up also fewer e = e ∙ of_fewer conditions (rows_from graph more ps) (rows_from graph rows ps) (run_of_fewer conditions graph more rows ps up also fewer)

pub leads_last : (graph : List Triple) (conditions : List Expr) (ps : List Pattern) (p : Pattern) (row : Bindings) (found : Bool) → true ≡ (length ps == 0) → true ≡ (length conditions == 0)
    → found ≡ has_rows (filter_map (λ t. forced row (parts_of p t)) graph) → found ≡ leads graph conditions (p ∷ ps) (row ∷ [])
leads_last graph conditions [] p row found last free e = e ∙ ap has_rows (of_row graph p row ∙ filtered_by_empty conditions (extended graph p (row ∷ [])) free)
leads_last graph conditions (q ∷ ps) p row found last free e = absurd (some_left (length ps) last)

-- ---- a whole run

pub from_start : (graph : List Triple) (conditions : List Expr) (ps qs : List Pattern) (rows : List Bindings) (found : Bool) → IsStrictlySortedBy triple_cmp graph → All (λ s. IsTrue (rises s)) rows → ComeToFewer conditions ps rows one_empty
    → IsPermutation ps qs → found ≡ leads graph conditions qs rows → found ≡ leads graph conditions ps one_empty
from_start graph conditions ps qs rows found sorted up known order e =
    e
    ∙ sym (of_fewer conditions (rows_from graph rows ps) (rows_from graph rows qs) (fewer_laws.none conditions (rows_from graph rows ps) (rows_from graph rows qs) (runs_move graph rows ps qs sorted up order)))
    ∙ of_fewer conditions (rows_from graph rows ps) (rows_from graph one_empty ps) (known.same graph)

-- ---- a group and a query

pub tells_of_group : (g : Group) (graph : List Triple) (ps : List Pattern) (conditions : List Expr) (found : Bool) → IsRunOf g ps → AreConditions g conditions → found ≡ leads graph conditions ps one_empty → TellsOfRows g graph found
tells_of_group g graph ps conditions found whole own e = record {
  same = λ graphs down number h.
      let m = meaning graphs down g in
      let run = rows_from graph one_empty ps in
      e
      ∙ ap has_rows (λ i. filter (λ s. own.same graphs down s i) run)
      ∙ sym (of_fewer m.filters (m.rows graph number) run (fewer_laws.none m.filters (m.rows graph number) run ((whole.same graph).same graphs down number h)));
}

pub told_of_rows : (q : Query) (graph : List Triple) (found : Bool) → q.form ≡ Ask → q.inline ≡ None → TellsOfRows q.group graph found → IsAnswerOf q graph (Truth found)
told_of_rows q graph found asks alone tells = record {
  same = λ graphs down down_all.
      let rows = evaluated q.group graph graphs down in
      let count : length (services q) ≡ (meaning graphs down q.group).services = sym (services_count graphs down q.group) in
      ap Truth (tells.same graphs down 0 (subst (λ n. AreDown down 0 n) count down_all))
      ∙ ap (λ (inline : Option Inline). Truth (has_rows (with_inline inline rows))) (sym alone)
      ∙ ap (λ (form : Form). form_answer q form (with_inline q.inline rows)) (sym asks);
}
