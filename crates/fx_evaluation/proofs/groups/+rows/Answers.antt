use Rattle.std.proofs.Common.{◌∙◌, ap, sym, subst, refl, ℕ, ◌≡◌, ◌<◌, List, [], ◌∷◌, ◌++◌, length, Option, IsPermutation, rules}
use Rattle.fx_algebra.specs.Operators.{join, left_join, filtered}
use Rattle.fx_algebra.specs.Solutions.{Bindings}
use Rattle.fx_algebra.specs.declared.expressions.Expr.{Expr}
use Rattle.fx_algebra.specs.declared.queries.Element.{Element}
use Rattle.fx_algebra.specs.declared.queries.Group.{Group}
use Rattle.fx_evaluation.specs.GroupRows.{AreAfter, AreAlternatives, AreKnown, AreNearlyAfter, elements_at}
use Rattle.fx_evaluation.specs.Runs.{IsHeldNext}
use Rattle.fx_terms.specs.declared.patterns.Pattern.{Pattern}
use Rattle.fx_algebra.specs.Evaluation.{rows_from}
use Rattle.fx_steps.specs.Fewer.{AreFewer}
use Rattle.std.specs.Prelude.{IfOk}
use Rattle.fx_evaluation.proofs.GroupLemmas.{after_service, alternatives_next}
use Rattle.fx_evaluation.proofs.HeldLemmas.{held_joined, held_nowhere, leads_first, leads_fewer, leads_turned, one_place_more}
use Rattle.fx_evaluation.proofs.OutsideLemmas.{nothing_known, said_known}
use Rattle.fx_evaluation.proofs.WalkLemmas.{known_minus, known_optional, known_union, row_more, row_none, rows_filtered, near_first, after_is_near, union_is_near, held_end, held_filter, held_other, held_triple, held_union, held_values}
use Rattle.fx_evaluation.proofs.groups.+rows.Goals as goal
use Rattle.fx_evaluation.proofs.groups.+rows.Goals.{nearly-in-Triple+in_ok-copy-in-Triple+in_ok-push-in-Triple, nearly-in-Filter, nearly-in-Values+in_ok-push-in-Values, nearly-in-Union+in_ok-push-in-Union, nearly-in_default+in_ok-found-in_default+in_ok-rows-in_default}

pub rows_with-returns : goal.rows_with-returns
rows_with-returns t c =
    let own = c.in_ok-own.own.items in
    let found = c.in_ok-found.found.items in
    rows_filtered c.args.group.now c.args.store.now own c.args.outside.now c.in_ok-conditions.conditions.items found c.in_ok-rows.rows.items
    (c.in_ok-conditions.ensures ∙ ap (λ (es : List Expr). es ++ c.args.outside.now) c.as_slice.ensures.value) (rw c.as_slice-2.ensures.value at c.in_ok-found.ensures) c.in_ok-own.ensures
    (c.in_ok-rows.ensures ∙ ap (λ (es : List Expr). filtered es found) c.as_slice-3.ensures.value)

pub row_by_row-loop-row-init : goal.row_by_row-loop-row-init
row_by_row-loop-row-init t c = subst (λ (v : List Bindings). AreAfter c.args.element.now c.args.store.now [] v) (sym c.new-rows.ensures.items) (row_none c.args.element.now c.args.store.now)

pub row_by_row-loop-row-preserved : goal.row_by_row-loop-row-preserved
row_by_row-loop-row-preserved t c =
    row_more c.args.element.now c.args.store.now c.loop-row.yielded c.in-Some.row c.loop-row.rows.items c.in_ok-more.more.items c.append.new.self.items c.loop-row.invariant c.in_ok-more.ensures c.in_ok-append.ensures.items

pub after_row-after_known-requires : goal.after_row-after_known-requires
after_row-after_known-requires t c = (
  search rules,
  subst (λ (es : List Expr). AreKnown es c.in_ok-before.before.items) (sym c.as_slice.ensures.value)
      (subst (λ (v : List Bindings). AreKnown c.in_ok-known.known.items v) (sym c.in_ok-before.ensures) (said_known c.args.row c.in_ok-known.known.items c.in_ok-known.ensures)),
)

pub after_row-returns : goal.after_row-returns
after_row-returns t c = subst (λ (v : List Bindings). AreAfter c.args.element.now c.args.store.now v c.in_ok-rows.rows.items) c.in_ok-before.ensures c.in_ok-rows.ensures

pub after_element-after_known-requires : goal.after_element-after_known-requires
after_element-after_known-requires t c = (search rules, nothing_known c.args.before.items)

pub after_element-returns-in-Some : goal.after_element-returns-in-Some
after_element-returns-in-Some t c =
    subst (λ (e : Element). IfOk c.after_run.result (λ rows. AreAfter e c.args.store.now c.args.before.items rows.items)) (sym c.in-Optional.is) c.after_run.ensures

pub after_known-returns-in-Optional : goal.after_known-returns-in-Optional
after_known-returns-in-Optional t c =
    subst (λ (e : Element). IfOk c.after_optional.result (λ rows. AreAfter e c.args.store.now c.args.before.items rows.items)) (sym c.in-Optional.is) c.after_optional.ensures

pub after_optional-returns : goal.after_optional-returns
after_optional-returns t c =
    let before = c.args.before.items in
    let own = c.in_ok-own.own.items in
    let found = c.in_ok-found.found.items in
    let rows = c.in_ok-rows.rows.items in
    known_optional c.args.store.now c.args.known.now before rows c.requires.apart c.args.group.now own c.in_ok-conditions.conditions.items found
    (c.in_ok-conditions.ensures ∙ ap (λ (es : List Expr). es ++ c.args.known.now) c.as_slice.ensures.value) (rw c.as_slice-2.ensures.value at c.in_ok-found.ensures) c.in_ok-own.ensures
    (subst (λ (es : List Expr). IsPermutation (left_join before found es) rows) c.as_slice-3.ensures.value c.in_ok-rows.ensures)

pub after_known-returns-in_ok-rows-in-Union : goal.after_known-returns-in_ok-rows-in-Union
after_known-returns-in_ok-rows-in-Union t c =
    let before = c.args.before.items in
    let found = c.in_ok-found-in-Union.found.items in
    let rows = c.in_ok-rows-in-Union.rows.items in
    let joined : IsPermutation (join before found) rows = subst (λ (left : List Bindings). IsPermutation (join left found) rows) c.as_slice-in-Union-2.ensures.value c.in_ok-rows-in-Union.ensures in
    subst (λ (e : Element). AreAfter e c.args.store.now before rows) (sym c.in-Union.is)
    (known_union c.args.store.now c.args.known.now before rows c.requires.apart c.in-Union.groups found
    (subst (λ (gs : List Group). AreAlternatives gs c.args.store.now c.args.known.now found) c.as_slice-in-Union.ensures c.in_ok-found-in-Union.ensures) joined)

pub after_known-returns-in_ok-rows-in-Minus : goal.after_known-returns-in_ok-rows-in-Minus
after_known-returns-in_ok-rows-in-Minus t c =
    let before = c.args.before.items in
    let rows = c.in_ok-rows-in-Minus.rows.items in
    subst (λ (e : Element). AreAfter e c.args.store.now before rows) (sym c.in-Minus.is)
    (known_minus c.args.store.now c.args.known.now before rows c.requires.apart c.in-Minus.group c.in_ok-found-in-Minus.found.items c.in_ok-found-in-Minus.ensures c.in_ok-rows-in-Minus.ensures)

pub after_known-returns-in-Service : goal.after_known-returns-in-Service
after_known-returns-in-Service t c =
    let before = c.args.before.items in
    subst (λ (e : Element). AreAfter e c.args.store.now before before) (sym c.in-Service.is) (after_service c.args.store.now before before c.in-Service.silent c.in-Service.iri c.in-Service.group refl)

pub alternatives-loop-group-preserved : goal.alternatives-loop-group-preserved
alternatives-loop-group-preserved t c =
    alternatives_next c.args.groups.now c.loop-group.group-index c.group-item.result c.args.store.now c.args.outside.now c.loop-group.rows.items c.in_ok-found.found.items c.append.new.self.items c.loop-group-test.true c.group-item.is
    c.loop-group.invariant c.in_ok-found.ensures c.in_ok-append.ensures.items

pub joined_with-returns-then-branch : goal.joined_with-returns-then-branch
joined_with-returns-then-branch t c = after_is_near c.args.conditions.now c.args.element.now c.args.store.now c.args.before.items c.in_ok-rows-in-Union.rows.items c.in_ok-rows-in-Union.ensures

pub joined_with-returns-in_ok-found-in_default : goal.joined_with-returns-in_ok-found-in_default
joined_with-returns-in_ok-found-in_default t c = after_is_near c.args.conditions.now c.args.element.now c.args.store.now c.args.before.items c.in_ok-found-in_default.found.items c.in_ok-found-in_default.ensures

pub joined_with-returns-in_ok-rows-in-Union-2 : goal.joined_with-returns-in_ok-rows-in-Union-2
joined_with-returns-in_ok-rows-in-Union-2 t c =
    let before = c.args.before.items in
    let found = c.in_ok-found-in-Union.found.items in
    let rows = c.in_ok-rows-in-Union-2.rows.items in
    subst (λ (e : Element). AreNearlyAfter c.args.conditions.now e c.args.store.now before rows) (sym c.in-Union.is)
    (union_is_near c.args.conditions.now c.in-Union.groups c.args.store.now before found rows (rw c.as_slice-in-Union.ensures at c.in_ok-found-in-Union.ensures) (rw c.as_slice-in-Union-2.ensures.value at c.in_ok-rows-in-Union-2.ensures))

pub nearly-loop-place-init : goal.nearly-loop-place-init
nearly-loop-place-init t c =
    let all = c.as_slice-elements.result.now in
    let start : c.push.new.self.items ≡ [] ∷ [] = c.in_ok-push.ensures.items ∙ ap (λ (v : List Bindings). v ++ c.empty.result ∷ []) c.new-rows.ensures.items ∙ ap (λ (s : Bindings). s ∷ []) c.empty.ensures in
    near_first c.args.conditions.now all c.args.store.now (rows_from c.args.store.now c.push.new.self.items c.new-left.result.items) (elements_at all c.new-held.result.items)
    (ap (rows_from c.args.store.now c.push.new.self.items) c.new-left.ensures.items ∙ start) (ap (elements_at all) c.new-held.ensures.items)

pub nearly-loop-place-preserved : goal.nearly-loop-place-preserved
nearly-loop-place-preserved t c =
    let conditions = c.args.conditions.now in
    let all = c.as_slice-elements.result.now in
    let i = c.loop-place.place in
    let e = c.index-elements-place.result in
    let graph = c.args.store.now in
    let rows = c.loop-place.rows.items in
    let left = c.loop-place.left.items in
    let places = c.loop-place.held.items in
    let held = elements_at all places in
    let b = c.loop-place-test.true in
    let is = c.index-elements-place.is in
    let so = c.loop-place.invariant in
    let up = rw c.as_slice.ensures.value at c.known_to_rise.ensures in
    elim c.match-element.branch [
      | nearly-in-Triple+in_ok-copy-in-Triple+in_ok-push-in-Triple w ↦
          rw (w.rows-is, w.left-is, w.held-is) (held_triple conditions all i e graph rows left held b is so w.in-Triple.pattern _ _ up w.in-Triple.is w.in_ok-copy-in-Triple.ensures w.in_ok-push-in-Triple.ensures.items)
      | nearly-in-Filter w ↦ rw (w.rows-is, w.left-is, w.held-is) (held_filter conditions all i e graph rows left held b is so w.in-Filter.field-0 up w.in-Filter.is)
      | nearly-in-Values+in_ok-push-in-Values w ↦
          rw (w.rows-is, w.left-is, w.held-is) (held_values conditions all i e graph rows left held b is so w.in-Values.field-0 _ up w.in-Values.is (one_place_more all places _ i e b is w.in_ok-push-in-Values.ensures.items))
      | nearly-in-Union+in_ok-push-in-Union w ↦
          rw (w.rows-is, w.left-is, w.held-is) (held_union conditions all i e graph rows left held b is so w.in-Union.field-0 _ up w.in-Union.is (one_place_more all places _ i e b is w.in_ok-push-in-Union.ensures.items))
      | nearly-in_default+in_ok-found-in_default+in_ok-rows-in_default w ↦
          rw (w.rows-is, w.left-is, w.held-is) (held_other conditions all i e graph rows left held b is so w.in_ok-found-in_default.found.items _ _ _ w.in_ok-found-in_default.ensures (rw w.as_slice-in_default.ensures.value at w.known_to_rise-in_default.ensures)
          w.in_ok-rows-in_default.ensures w.new-left-in_default.ensures.items (ap (elements_at all) w.new-held-in_default.ensures.items))
    ]

pub nearly-returns : goal.nearly-returns
nearly-returns t c =
    let all = c.as_slice-elements.result.now in
    held_end c.args.conditions.now c.args.group.now all c.loop-place.place c.args.store.now c.loop-place.rows.items c.in_ok-found.found.items c.loop-place.left.items (elements_at all c.loop-place.held.items) c.as_slice-elements.ensures
    c.loop-place-test.false c.loop-place.invariant c.in_ok-found.ensures

pub with_held-loop-more-init : goal.with_held-loop-more-init
with_held-loop-more-init t c =
    let graph = c.args.store.now in
    let conditions = c.args.conditions.now in
    let rows = c.args.run.rows.items in
    let known = c.in_ok-known.known.items in
    let elements = c.args.elements.now in
    let held = c.args.held.items in
    let all = elements_at elements held in
    let left = c.args.run.left.items in
    let before = rows_from graph rows left in
    leads_turned conditions graph all before elements held c.reverse.new.self.items known left c.reverse.ensures.items (rw c.as_slice-2.ensures.value at c.known_to_rise.ensures)
    (leads_first conditions graph all before (rows_from graph known left) (subst (λ (ps : List Pattern). AreFewer conditions (rows_from graph known ps) (rows_from graph rows ps)) c.as_slice.ensures.value (c.in_ok-known.ensures.same graph)))

pub with_held-loop-more-preserved-in-None : goal.with_held-loop-more-preserved-in-None
with_held-loop-more-preserved-in-None t c =
    let graph = c.args.store.now in
    let elements = c.args.elements.now in
    let before = c.loop-more.more in
    let more = c.in_ok-more-in-None.more in
    leads_fewer c.args.conditions.now graph (elements_at elements c.args.held.items) (rows_from graph c.args.run.rows.items c.args.run.left.items) (elements_at elements c.loop-more.left.items) (rows_from graph before.rows.items before.left.items)
    (rows_from graph more.rows.items more.left.items) c.loop-more.invariant c.in_ok-more-in-None.ensures.rows

pub with_held-loop-more-preserved-in-Some-get : goal.with_held-loop-more-preserved-in-Some-get
with_held-loop-more-preserved-in-Some-get t c =
    let graph = c.args.store.now in
    let elements = c.args.elements.now in
    let left = c.loop-more.left.items in
    let before = c.loop-more.more in
    let at = c.in-Some.at in
    let b : at < length left =
    subst (λ (v : List ℕ). at < length v) c.as_slice-in-loop-more-2.ensures.value
    (subst (λ (o : Option ℕ). IsHeldNext (length c.as_slice-in-loop-more-2.result.now) (length c.as_slice-in-loop-more-3.result.now) o) c.in-Some.is c.in_ok-held_next.ensures) in
    held_joined c.args.conditions.now graph (elements_at elements c.args.held.items) (rows_from graph c.args.run.rows.items c.args.run.left.items) elements left c.remove.new.self.items before.rows.items c.in_ok-rows-in-Some.rows.items
    before.left.items c.in-Some-get.element.now at c.remove.result c.loop-more.invariant b c.remove.ensures.value c.remove.ensures.items c.in-Some-get.ensures.lookup.3.0 c.in-Some-get.ensures.lookup.1
    (rw c.as_slice-in-loop-more.ensures.value at c.known_to_rise-in-loop-more.ensures) (rw c.as_slice-in-Some-get.ensures.value at c.known_to_rise-in-Some-get.ensures) c.in_ok-rows-in-Some.ensures

pub with_held-loop-more-preserved : goal.with_held-loop-more-preserved
with_held-loop-more-preserved t c =
    let graph = c.args.store.now in
    let elements = c.args.elements.now in
    let left = c.loop-more.left.items in
    let before = c.loop-more.more in
    let at = c.in-Some.at in
    let b : at < length left =
    subst (λ (v : List ℕ). at < length v) c.as_slice-in-loop-more-2.ensures.value
    (subst (λ (o : Option ℕ). IsHeldNext (length c.as_slice-in-loop-more-2.result.now) (length c.as_slice-in-loop-more-3.result.now) o) c.in-Some.is c.in_ok-held_next.ensures) in
    held_nowhere c.args.conditions.now graph (elements_at elements c.args.held.items) (rows_from graph c.args.run.rows.items c.args.run.left.items) elements left c.remove.new.self.items (rows_from graph before.rows.items before.left.items)
    at c.remove.result c.loop-more.invariant b c.remove.ensures.value c.remove.ensures.items c.in_default.ensures.lookup.3
