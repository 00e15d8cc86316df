use Rattle.std.proofs.Common.{rules, ◌≡◌, ◌∙◌, ◌++◌, ◌+◌, ap, sym, subst, refl, true, false, ℕ, ◌<◌, get_or, List, [], ◌∷◌, map, drop, length, Ok, Err, IfOk, IsPermutation}
use Rattle.std.proofs.lemmas.List.{drop_all, drop_more}
use Rattle.fx_algebra.specs.Groups.{keeps_run}
use Rattle.fx_algebra.specs.Operators.{extend, filtered, inline_rows, join, left_join, minus}
use Rattle.fx_algebra.specs.Solutions.{Bindings}
use Rattle.fx_algebra.specs.declared.queries.Element.{Element}
use Rattle.fx_algebra.specs.declared.queries.Element.TheVariants.{Bind, Minus, Optional, Union, Values}
use Rattle.fx_algebra.specs.declared.queries.Group.{Group}
use Rattle.fx_engine.specs.Asked.{Asked}
use Rattle.fx_walks.specs.GroupsAsked.{AlternativesDue, AlternativesGiven, ElementDue, ElementGiven, EndDue, EndGiven, GroupDue, GroupGiven, OperatorDue, OperatorGiven, UnfilteredGiven}
use Rattle.fx_engine.specs.RowsAsked.{IsBehindService, solutions_in}
use Rattle.fx_walks.specs.SectionSteps.{group_of, part_of}
use Rattle.fx_engine.proofs.AlternativesLemmas.{groups_begun, groups_ended, groups_lost, groups_more, groups_refused}
use Rattle.fx_engine.proofs.AskedLemmas.{all_tell, asked_behind, given_unasked, made_of, made_unasked, refused_as, unasked}
use Rattle.fx_walks.proofs.ElementLemmas.{due_bind, due_minus, due_optional, due_union, due_values, of_bind, of_kept, of_minus, of_optional, of_union, of_values, part_triple, part_filter}
use Rattle.fx_engine.proofs.AnsweredLemmas.{alone_served}
use Rattle.fx_walks.proofs.FilterLemmas.{group_filtered}
use Rattle.fx_walks.proofs.PlaceLemmas.{due_of_operator, due_of_run, of_condition, of_operator, of_pattern}
use Rattle.fx_engine.proofs.ServiceElementLemmas.{service_behind}
use Rattle.fx_engine.proofs.WalkLemmas.{from_element, none_due, so_far_begun, so_far_ended, so_far_more, so_far_refused}
use Rattle.fx_engine.proofs.groups.+rows.Goals as goal

pub after_element-returns-then-is_pattern : goal.after_element-returns-then-is_pattern
after_element-returns-then-is_pattern g t c =
    given_unasked g.W.Wire.tells_log g.W.Wire.counts_alone c.args.walk.now.endpoints.now c.args.walk.now.tasks.now c.args.walk.now.block (ElementGiven c.args.walk.now.endpoints.now c.args.walk.now.block c.args.walk.now.tasks.now c.args.next.now c.args.next.now c.args.in_run.now true c.args.element.now c.args.before.items) (ElementDue c.args.walk.now.endpoints.now c.args.walk.now.block c.args.walk.now.tasks.now c.args.next.now c.args.in_run.now c.args.element.now c.args.before.items) (map g.W.Wire.seen c.args.wires.now) c.args.before.items
    (λ graphs. of_pattern c.args.walk.now.endpoints.now c.args.walk.now.block c.args.walk.now.tasks.now c.args.next.now c.args.in_run.now c.args.before.items graphs c.args.element.now (sym c.is_pattern.ensures ∙ c.if-is_pattern.true))

pub after_element-returns-then-keeps_run : goal.after_element-returns-then-keeps_run
after_element-returns-then-keeps_run g t c =
    given_unasked g.W.Wire.tells_log g.W.Wire.counts_alone c.args.walk.now.endpoints.now c.args.walk.now.tasks.now c.args.walk.now.block (ElementGiven c.args.walk.now.endpoints.now c.args.walk.now.block c.args.walk.now.tasks.now c.args.next.now c.args.next.now c.args.in_run.now c.args.in_run.now c.args.element.now c.args.before.items) (ElementDue c.args.walk.now.endpoints.now c.args.walk.now.block c.args.walk.now.tasks.now c.args.next.now c.args.in_run.now c.args.element.now c.args.before.items) (map g.W.Wire.seen c.args.wires.now) c.args.before.items
    (λ graphs. of_condition c.args.walk.now.endpoints.now c.args.walk.now.block c.args.walk.now.tasks.now c.args.next.now c.args.in_run.now c.args.before.items graphs c.args.element.now (sym c.is_pattern.ensures ∙ c.if-is_pattern.false) (sym c.keeps_run.ensures ∙ c.if-keeps_run.true))

pub after_element-returns-in-Err : goal.after_element-returns-in-Err
after_element-returns-in-Err g t c =
    let e = c.args.element.now in
    let ends : keeps_run (part_of e) ≡ false = sym c.keeps_run.ensures ∙ c.if-keeps_run.false in
    refused_as g.W.Wire.tells_log g.W.Wire.counts_alone c.args.walk.now.endpoints.now c.args.walk.now.tasks.now c.args.walk.now.block (map g.W.Wire.seen c.args.wires.now) (map g.W.Wire.seen c.end_run.new.wires) (EndGiven c.args.walk.now.endpoints.now c.args.walk.now.block c.args.walk.now.tasks.now c.args.next.now c.end_run.new.next c.args.in_run.now c.args.before.items) (EndDue c.args.walk.now.endpoints.now c.args.walk.now.block c.args.walk.now.tasks.now c.args.next.now c.args.in_run.now c.args.before.items)
    (ElementGiven c.args.walk.now.endpoints.now c.args.walk.now.block c.args.walk.now.tasks.now c.args.next.now c.end_run.new.next c.args.in_run.now c.args.in_run.now e c.args.before.items) (ElementDue c.args.walk.now.endpoints.now c.args.walk.now.block c.args.walk.now.tasks.now c.args.next.now c.args.in_run.now e c.args.before.items) c.in-Err.error
    (λ graphs wanted due. due_of_run c.args.walk.now.endpoints.now c.args.walk.now.block c.args.walk.now.tasks.now c.args.next.now c.args.in_run.now c.args.before.items graphs e ends wanted due) c.in-Err.ensures

pub after_element-returns-in-Ok : goal.after_element-returns-in-Ok
after_element-returns-in-Ok g t c =
    let e = c.args.element.now in
    let see = g.W.Wire.seen in
    let ends : keeps_run (part_of e) ≡ false = sym c.keeps_run.ensures ∙ c.if-keeps_run.false in
    let rows = c.in-Ok.rows.items in
    let between = c.end_run.new.next in
    let later = c.after_operator.new.next in
    asked_behind g.W.Wire.tells_log g.W.Wire.counts_alone c.args.walk.now.endpoints.now c.args.walk.now.tasks.now c.args.walk.now.block (map see c.args.wires.now) (map see c.end_run.new.wires) (map see c.after_operator.new.wires) (all_tell see g.W.Wire.tells_log g.met.W.Wire.told c.args.wires.now) (all_tell see g.W.Wire.tells_log g.met.W.Wire.told c.end_run.new.wires)
    (EndGiven c.args.walk.now.endpoints.now c.args.walk.now.block c.args.walk.now.tasks.now c.args.next.now between c.args.in_run.now c.args.before.items) (EndDue c.args.walk.now.endpoints.now c.args.walk.now.block c.args.walk.now.tasks.now c.args.next.now c.args.in_run.now c.args.before.items) (OperatorGiven c.args.walk.now.endpoints.now c.args.walk.now.block c.args.walk.now.tasks.now between later e rows) (OperatorDue c.args.walk.now.endpoints.now c.args.walk.now.block c.args.walk.now.tasks.now between e rows)
    (ElementGiven c.args.walk.now.endpoints.now c.args.walk.now.block c.args.walk.now.tasks.now c.args.next.now later c.args.in_run.now false e c.args.before.items) (ElementDue c.args.walk.now.endpoints.now c.args.walk.now.block c.args.walk.now.tasks.now c.args.next.now c.args.in_run.now e c.args.before.items) rows (solutions_in c.after_operator.result)
    (λ graphs own more found ended asked. of_operator c.args.walk.now.endpoints.now c.args.walk.now.block c.args.walk.now.tasks.now c.args.next.now c.args.in_run.now c.args.before.items graphs e ends between later rows found own more ended asked)
    (λ graphs own more ended due. due_of_operator c.args.walk.now.endpoints.now c.args.walk.now.block c.args.walk.now.tasks.now c.args.next.now c.args.in_run.now c.args.before.items graphs e ends between rows own more ended due)
    c.in-Ok.ensures c.after_operator.ensures

pub after_operator-returns-in-Triple : goal.after_operator-returns-in-Triple
after_operator-returns-in-Triple g t c =
    given_unasked g.W.Wire.tells_log g.W.Wire.counts_alone c.args.walk.now.endpoints.now c.args.walk.now.tasks.now c.args.walk.now.block (OperatorGiven c.args.walk.now.endpoints.now c.args.walk.now.block c.args.walk.now.tasks.now c.args.next.now c.args.next.now c.args.element.now c.args.before.items) (OperatorDue c.args.walk.now.endpoints.now c.args.walk.now.block c.args.walk.now.tasks.now c.args.next.now c.args.element.now c.args.before.items) (map g.W.Wire.seen c.args.wires.now) c.args.before.items
    (λ graphs. of_kept c.args.walk.now.endpoints.now c.args.walk.now.block c.args.walk.now.tasks.now c.args.next.now graphs c.args.before.items c.args.element.now (ap (λ (e : Element). keeps_run (part_of e)) c.in-Triple.is ∙ ap keeps_run (part_triple alone_served c.in-Triple.field-0)))

pub after_operator-returns-in-Filter : goal.after_operator-returns-in-Filter
after_operator-returns-in-Filter g t c =
    given_unasked g.W.Wire.tells_log g.W.Wire.counts_alone c.args.walk.now.endpoints.now c.args.walk.now.tasks.now c.args.walk.now.block (OperatorGiven c.args.walk.now.endpoints.now c.args.walk.now.block c.args.walk.now.tasks.now c.args.next.now c.args.next.now c.args.element.now c.args.before.items) (OperatorDue c.args.walk.now.endpoints.now c.args.walk.now.block c.args.walk.now.tasks.now c.args.next.now c.args.element.now c.args.before.items) (map g.W.Wire.seen c.args.wires.now) c.args.before.items
    (λ graphs. of_kept c.args.walk.now.endpoints.now c.args.walk.now.block c.args.walk.now.tasks.now c.args.next.now graphs c.args.before.items c.args.element.now (ap (λ (e : Element). keeps_run (part_of e)) c.in-Filter.is ∙ ap keeps_run (part_filter alone_served c.in-Filter.field-0)))

pub after_operator-returns-in-Err : goal.after_operator-returns-in-Err
after_operator-returns-in-Err g t c =
    let before = c.args.before.items in
    let gs = c.in-Union.groups in
    let later = c.alternatives.new.next in
    let s = map g.W.Wire.seen c.args.wires.now in
    let u = map g.W.Wire.seen c.alternatives.new.wires in
    subst (λ (e : Element). Asked {X = List Bindings} g.W.Wire.tells_log g.W.Wire.counts_alone s u c.args.walk.now.endpoints.now c.args.walk.now.tasks.now c.args.walk.now.block (OperatorGiven c.args.walk.now.endpoints.now c.args.walk.now.block c.args.walk.now.tasks.now c.args.next.now later e before) (OperatorDue c.args.walk.now.endpoints.now c.args.walk.now.block c.args.walk.now.tasks.now c.args.next.now e before) (Err c.in-Err.error)) (sym c.in-Union.is)
    (refused_as g.W.Wire.tells_log g.W.Wire.counts_alone c.args.walk.now.endpoints.now c.args.walk.now.tasks.now c.args.walk.now.block s u (AlternativesGiven c.args.walk.now.endpoints.now c.args.walk.now.block c.args.walk.now.tasks.now c.args.next.now later gs) (AlternativesDue c.args.walk.now.endpoints.now c.args.walk.now.block c.args.walk.now.tasks.now c.args.next.now gs) (OperatorGiven c.args.walk.now.endpoints.now c.args.walk.now.block c.args.walk.now.tasks.now c.args.next.now later (Union gs) before) (OperatorDue c.args.walk.now.endpoints.now c.args.walk.now.block c.args.walk.now.tasks.now c.args.next.now (Union gs) before) c.in-Err.error
    (λ graphs wanted due. due_union c.args.walk.now.endpoints.now c.args.walk.now.block c.args.walk.now.tasks.now c.args.next.now graphs before wanted gs due)
    (subst (λ (v : List Group). Asked {X = List Bindings} g.W.Wire.tells_log g.W.Wire.counts_alone s u c.args.walk.now.endpoints.now c.args.walk.now.tasks.now c.args.walk.now.block (AlternativesGiven c.args.walk.now.endpoints.now c.args.walk.now.block c.args.walk.now.tasks.now c.args.next.now later v) (AlternativesDue c.args.walk.now.endpoints.now c.args.walk.now.block c.args.walk.now.tasks.now c.args.next.now v) (Err c.in-Err.error)) c.as_slice.ensures c.in-Err.ensures))

pub after_operator-returns-in-Union : goal.after_operator-returns-in-Union
after_operator-returns-in-Union g t c =
    let before = c.args.before.items in
    let gs = c.in-Union.groups in
    let found = c.in-Ok.found.items in
    let later = c.alternatives.new.next in
    let s = map g.W.Wire.seen c.args.wires.now in
    let u = map g.W.Wire.seen c.alternatives.new.wires in
    subst (λ (e : Element). Asked {X = List Bindings} g.W.Wire.tells_log g.W.Wire.counts_alone s u c.args.walk.now.endpoints.now c.args.walk.now.tasks.now c.args.walk.now.block (OperatorGiven c.args.walk.now.endpoints.now c.args.walk.now.block c.args.walk.now.tasks.now c.args.next.now later e before) (OperatorDue c.args.walk.now.endpoints.now c.args.walk.now.block c.args.walk.now.tasks.now c.args.next.now e before) (solutions_in c.joined.result)) (sym c.in-Union.is)
    (made_of g.W.Wire.tells_log g.W.Wire.counts_alone c.args.walk.now.endpoints.now c.args.walk.now.tasks.now c.args.walk.now.block (AlternativesGiven c.args.walk.now.endpoints.now c.args.walk.now.block c.args.walk.now.tasks.now c.args.next.now later gs) (AlternativesDue c.args.walk.now.endpoints.now c.args.walk.now.block c.args.walk.now.tasks.now c.args.next.now gs) (OperatorGiven c.args.walk.now.endpoints.now c.args.walk.now.block c.args.walk.now.tasks.now c.args.next.now later (Union gs) before) (OperatorDue c.args.walk.now.endpoints.now c.args.walk.now.block c.args.walk.now.tasks.now c.args.next.now (Union gs) before) (λ rows. IsPermutation (join before found) rows) s u found c.joined.result
    (subst (λ (v : List Bindings). IfOk c.joined.result (λ rows. IsPermutation (join v found) rows.items)) c.as_slice-in-Ok.ensures.value c.joined.ensures.given) c.joined.ensures.memory
    (λ graphs wanted rows given p. of_union c.args.walk.now.endpoints.now c.args.walk.now.block c.args.walk.now.tasks.now c.args.next.now later graphs before rows wanted gs found given p)
    (λ graphs wanted given. due_union c.args.walk.now.endpoints.now c.args.walk.now.block c.args.walk.now.tasks.now c.args.next.now graphs before wanted gs (λ served number rest is. (given served number rest is).0.sent))
    (subst (λ (v : List Group). Asked {X = List Bindings} g.W.Wire.tells_log g.W.Wire.counts_alone s u c.args.walk.now.endpoints.now c.args.walk.now.tasks.now c.args.walk.now.block (AlternativesGiven c.args.walk.now.endpoints.now c.args.walk.now.block c.args.walk.now.tasks.now c.args.next.now later v) (AlternativesDue c.args.walk.now.endpoints.now c.args.walk.now.block c.args.walk.now.tasks.now c.args.next.now v) (Ok found)) c.as_slice.ensures c.in-Ok.ensures))

pub after_operator-returns-in-Err-group_rows : goal.after_operator-returns-in-Err-group_rows
after_operator-returns-in-Err-group_rows g t c =
    let before = c.args.before.items in
    let it = c.in-Minus.group in
    let later = c.group_rows.new.next in
    let s = map g.W.Wire.seen c.args.wires.now in
    let u = map g.W.Wire.seen c.group_rows.new.wires in
    let why = c.in-Err-group_rows.error in
    subst (λ (e : Element). Asked {X = List Bindings} g.W.Wire.tells_log g.W.Wire.counts_alone s u c.args.walk.now.endpoints.now c.args.walk.now.tasks.now c.args.walk.now.block (OperatorGiven c.args.walk.now.endpoints.now c.args.walk.now.block c.args.walk.now.tasks.now c.args.next.now later e before) (OperatorDue c.args.walk.now.endpoints.now c.args.walk.now.block c.args.walk.now.tasks.now c.args.next.now e before) (Err why)) (sym c.in-Minus.is)
    (refused_as g.W.Wire.tells_log g.W.Wire.counts_alone c.args.walk.now.endpoints.now c.args.walk.now.tasks.now c.args.walk.now.block s u (GroupGiven c.args.walk.now.endpoints.now c.args.walk.now.block c.args.walk.now.tasks.now c.args.next.now later it) (GroupDue c.args.walk.now.endpoints.now c.args.walk.now.block c.args.walk.now.tasks.now c.args.next.now it) (OperatorGiven c.args.walk.now.endpoints.now c.args.walk.now.block c.args.walk.now.tasks.now c.args.next.now later (Minus it) before) (OperatorDue c.args.walk.now.endpoints.now c.args.walk.now.block c.args.walk.now.tasks.now c.args.next.now (Minus it) before) why
    (λ graphs wanted due. due_minus c.args.walk.now.endpoints.now c.args.walk.now.block c.args.walk.now.tasks.now c.args.next.now graphs before wanted it due) c.in-Err-group_rows.ensures)

pub after_operator-returns-in-Minus : goal.after_operator-returns-in-Minus
after_operator-returns-in-Minus g t c =
    let before = c.args.before.items in
    let it = c.in-Minus.group in
    let found = c.in-Ok-group_rows.found.items in
    let later = c.group_rows.new.next in
    let s = map g.W.Wire.seen c.args.wires.now in
    let u = map g.W.Wire.seen c.group_rows.new.wires in
    subst (λ (e : Element). Asked {X = List Bindings} g.W.Wire.tells_log g.W.Wire.counts_alone s u c.args.walk.now.endpoints.now c.args.walk.now.tasks.now c.args.walk.now.block (OperatorGiven c.args.walk.now.endpoints.now c.args.walk.now.block c.args.walk.now.tasks.now c.args.next.now later e before) (OperatorDue c.args.walk.now.endpoints.now c.args.walk.now.block c.args.walk.now.tasks.now c.args.next.now e before) (solutions_in c.lessened.result)) (sym c.in-Minus.is)
    (made_of g.W.Wire.tells_log g.W.Wire.counts_alone c.args.walk.now.endpoints.now c.args.walk.now.tasks.now c.args.walk.now.block (GroupGiven c.args.walk.now.endpoints.now c.args.walk.now.block c.args.walk.now.tasks.now c.args.next.now later it) (GroupDue c.args.walk.now.endpoints.now c.args.walk.now.block c.args.walk.now.tasks.now c.args.next.now it) (OperatorGiven c.args.walk.now.endpoints.now c.args.walk.now.block c.args.walk.now.tasks.now c.args.next.now later (Minus it) before) (OperatorDue c.args.walk.now.endpoints.now c.args.walk.now.block c.args.walk.now.tasks.now c.args.next.now (Minus it) before) (λ rows. rows ≡ minus before found) s u found c.lessened.result
    c.lessened.ensures.given c.lessened.ensures.memory
    (λ graphs wanted rows given e. of_minus c.args.walk.now.endpoints.now c.args.walk.now.block c.args.walk.now.tasks.now c.args.next.now later graphs before rows wanted it found given e)
    (λ graphs wanted given. due_minus c.args.walk.now.endpoints.now c.args.walk.now.block c.args.walk.now.tasks.now c.args.next.now graphs before wanted it (λ served number rest is. (given served number rest is).0.sent)) c.in-Ok-group_rows.ensures)

pub after_operator-returns-in-Bind : goal.after_operator-returns-in-Bind
after_operator-returns-in-Bind g t c =
    let before = c.args.before.items in
    let x = c.in-Bind.expr in
    let name = c.in-Bind.name in
    let s = map g.W.Wire.seen c.args.wires.now in
    subst (λ (e : Element). Asked {X = List Bindings} g.W.Wire.tells_log g.W.Wire.counts_alone s s c.args.walk.now.endpoints.now c.args.walk.now.tasks.now c.args.walk.now.block (OperatorGiven c.args.walk.now.endpoints.now c.args.walk.now.block c.args.walk.now.tasks.now c.args.next.now c.args.next.now e before) (OperatorDue c.args.walk.now.endpoints.now c.args.walk.now.block c.args.walk.now.tasks.now c.args.next.now e before) (solutions_in c.extended.result)) (sym c.in-Bind.is)
    (made_unasked g.W.Wire.tells_log g.W.Wire.counts_alone c.args.walk.now.endpoints.now c.args.walk.now.tasks.now c.args.walk.now.block (OperatorGiven c.args.walk.now.endpoints.now c.args.walk.now.block c.args.walk.now.tasks.now c.args.next.now c.args.next.now (Bind x name) before) (OperatorDue c.args.walk.now.endpoints.now c.args.walk.now.block c.args.walk.now.tasks.now c.args.next.now (Bind x name) before) (λ rows. rows ≡ extend before name x) s c.extended.result
    (subst (λ (v : List Bindings). IfOk c.extended.result (λ rows. rows.items ≡ extend v name x)) c.as_slice-in-Bind.ensures.value c.extended.ensures.given) c.extended.ensures.memory
    (λ graphs rows e. of_bind c.args.walk.now.endpoints.now c.args.walk.now.block c.args.walk.now.tasks.now c.args.next.now c.args.next.now graphs before rows [] x name refl refl e)
    (λ graphs. due_bind c.args.walk.now.endpoints.now c.args.walk.now.block c.args.walk.now.tasks.now c.args.next.now graphs before [] x name refl))

pub after_operator-returns-in-Values : goal.after_operator-returns-in-Values
after_operator-returns-in-Values g t c =
    let before = c.args.before.items in
    let inline = c.in-Values.inline in
    let s = map g.W.Wire.seen c.args.wires.now in
    subst (λ (e : Element). Asked {X = List Bindings} g.W.Wire.tells_log g.W.Wire.counts_alone s s c.args.walk.now.endpoints.now c.args.walk.now.tasks.now c.args.walk.now.block (OperatorGiven c.args.walk.now.endpoints.now c.args.walk.now.block c.args.walk.now.tasks.now c.args.next.now c.args.next.now e before) (OperatorDue c.args.walk.now.endpoints.now c.args.walk.now.block c.args.walk.now.tasks.now c.args.next.now e before) (solutions_in c.with_inline.result)) (sym c.in-Values.is)
    (made_unasked g.W.Wire.tells_log g.W.Wire.counts_alone c.args.walk.now.endpoints.now c.args.walk.now.tasks.now c.args.walk.now.block (OperatorGiven c.args.walk.now.endpoints.now c.args.walk.now.block c.args.walk.now.tasks.now c.args.next.now c.args.next.now (Values inline) before) (OperatorDue c.args.walk.now.endpoints.now c.args.walk.now.block c.args.walk.now.tasks.now c.args.next.now (Values inline) before) (λ rows. IsPermutation (join before (inline_rows inline)) rows) s c.with_inline.result
    (subst (λ (v : List Bindings). IfOk c.with_inline.result (λ rows. IsPermutation (join v (inline_rows inline)) rows.items)) c.as_slice-in-Values.ensures.value c.with_inline.ensures.given) c.with_inline.ensures.memory
    (λ graphs rows p. of_values c.args.walk.now.endpoints.now c.args.walk.now.block c.args.walk.now.tasks.now c.args.next.now c.args.next.now graphs before rows [] inline (inline_rows inline) refl refl refl p)
    (λ graphs. due_values c.args.walk.now.endpoints.now c.args.walk.now.block c.args.walk.now.tasks.now c.args.next.now graphs before [] inline refl))

pub after_operator-returns : goal.after_operator-returns
after_operator-returns g t c =
    let before = c.args.before.items in
    let tasks = c.args.walk.now.tasks.now in
    let next = c.args.next.now in
    let later = c.after_service.new.next in
    let silent = c.in-Service.silent in
    let iri = c.in-Service.iri in
    let it = c.in-Service.group in
    let s = map g.W.Wire.seen c.args.wires.now in
    subst (λ (e : Element). Asked {X = List Bindings} g.W.Wire.tells_log g.W.Wire.counts_alone s s c.args.walk.now.endpoints.now tasks c.args.walk.now.block (OperatorGiven c.args.walk.now.endpoints.now c.args.walk.now.block tasks next later e before) (OperatorDue c.args.walk.now.endpoints.now c.args.walk.now.block tasks next e before) (solutions_in c.after_service.result)) (sym c.in-Service.is)
    (service_behind c.args.walk.now.endpoints.now c.args.walk.now.block tasks next later before silent iri it g.W.Wire.tells_log g.W.Wire.counts_alone s (solutions_in c.after_service.result)
    (subst (λ (v : List Bindings). IsBehindService tasks next later v (solutions_in c.after_service.result)) c.as_slice-in-Service.ensures.value c.after_service.ensures))

pub alternatives-loop-group-init : goal.alternatives-loop-group-init
alternatives-loop-group-init g t c = groups_begun c.args.walk.now.endpoints.now c.args.walk.now.block c.args.walk.now.tasks.now c.args.next.now c.args.groups.now g.W.Wire.tells_log g.W.Wire.counts_alone (map g.W.Wire.seen c.args.wires.now) c.new-rows.result.items c.new-rows.ensures.items

from_group : (gs : List Group) (i : ℕ) (d : Group) → i < length gs → d ≡ get_or gs i d → drop i gs ≡ d ∷ drop (i + 1) gs
from_group gs i d below is = drop_more gs i d below ∙ ap (λ (v : Group). v ∷ drop (i + 1) gs) (sym is)

pub alternatives-returns-in-Err : goal.alternatives-returns-in-Err
alternatives-returns-in-Err g t c =
    let see = g.W.Wire.seen in
    let gs = c.args.groups.now in
    let i = c.loop-group.group-index in
    let it = c.group-item.result in
    groups_refused c.args.walk.now.endpoints.now c.args.walk.now.block c.args.walk.now.tasks.now c.args.next.now gs g.W.Wire.tells_log g.W.Wire.counts_alone (map see c.args.wires.now) (map see c.loop-group.wires) c.loop-group.next c.loop-group.rows.items (drop i gs) c.loop-group.invariant (map see c.group_rows.new.wires)
    (all_tell see g.W.Wire.tells_log g.met.W.Wire.told c.args.wires.now) (all_tell see g.W.Wire.tells_log g.met.W.Wire.told c.loop-group.wires) c.group_rows.new.next it (drop (i + 1) gs) (from_group gs i it c.loop-group-test.true c.group-item.is)
    c.in-Err.error c.in-Err.ensures

pub alternatives-returns-then-is_err : goal.alternatives-returns-then-is_err
alternatives-returns-then-is_err g t c =
    let see = g.W.Wire.seen in
    let gs = c.args.groups.now in
    let i = c.loop-group.group-index in
    let it = c.group-item.result in
    groups_lost c.args.walk.now.endpoints.now c.args.walk.now.block c.args.walk.now.tasks.now c.args.next.now gs g.W.Wire.tells_log g.W.Wire.counts_alone (map see c.args.wires.now) (map see c.loop-group.wires) c.loop-group.next c.loop-group.rows.items (drop i gs) c.loop-group.invariant (map see c.group_rows.new.wires)
    (all_tell see g.W.Wire.tells_log g.met.W.Wire.told c.args.wires.now) (all_tell see g.W.Wire.tells_log g.met.W.Wire.told c.loop-group.wires) c.group_rows.new.next it (drop (i + 1) gs) (from_group gs i it c.loop-group-test.true c.group-item.is)
    c.in-Ok.found.items c.in-Ok.ensures

pub alternatives-loop-group-preserved : goal.alternatives-loop-group-preserved
alternatives-loop-group-preserved g t c =
    let see = g.W.Wire.seen in
    let gs = c.args.groups.now in
    let i = c.loop-group.group-index in
    let it = c.group-item.result in
    let joined : c.append.new.self.items ≡ c.loop-group.rows.items ++ c.in-Ok.found.items = search rules in
    groups_more c.args.walk.now.endpoints.now c.args.walk.now.block c.args.walk.now.tasks.now c.args.next.now gs g.W.Wire.tells_log g.W.Wire.counts_alone (map see c.args.wires.now) (map see c.loop-group.wires) c.loop-group.next c.loop-group.rows.items (drop i gs) c.loop-group.invariant (map see c.group_rows.new.wires)
    (all_tell see g.W.Wire.tells_log g.met.W.Wire.told c.args.wires.now) (all_tell see g.W.Wire.tells_log g.met.W.Wire.told c.loop-group.wires) c.group_rows.new.next it (drop (i + 1) gs) (from_group gs i it c.loop-group-test.true c.group-item.is)
    c.in-Ok.found.items c.append.new.self.items joined c.in-Ok.ensures

pub alternatives-returns : goal.alternatives-returns
alternatives-returns g t c =
    let see = g.W.Wire.seen in
    let gs = c.args.groups.now in
    groups_ended c.args.walk.now.endpoints.now c.args.walk.now.block c.args.walk.now.tasks.now c.args.next.now gs g.W.Wire.tells_log g.W.Wire.counts_alone (map see c.args.wires.now) (map see c.loop-group.wires) c.loop-group.next c.loop-group.rows.items (drop c.loop-group.group-index gs) c.loop-group.invariant (drop_all c.loop-group.group-index gs c.loop-group-test.false)

pub group_rows-returns-in-Ok : goal.group_rows-returns-in-Ok
group_rows-returns-in-Ok g t c =
    let it = c.args.group.now in
    let found = c.in-Ok.rows.items in
    let later = c.unfiltered.new.next in
    made_of g.W.Wire.tells_log g.W.Wire.counts_alone c.args.walk.now.endpoints.now c.args.walk.now.tasks.now c.args.walk.now.block (UnfilteredGiven c.args.walk.now.endpoints.now c.args.walk.now.block c.args.walk.now.tasks.now c.args.next.now later it) (GroupDue c.args.walk.now.endpoints.now c.args.walk.now.block c.args.walk.now.tasks.now c.args.next.now it) (GroupGiven c.args.walk.now.endpoints.now c.args.walk.now.block c.args.walk.now.tasks.now c.args.next.now later it) (GroupDue c.args.walk.now.endpoints.now c.args.walk.now.block c.args.walk.now.tasks.now c.args.next.now it) (λ rows. rows ≡ filtered (group_of it).filters found) (map g.W.Wire.seen c.args.wires.now) (map g.W.Wire.seen c.unfiltered.new.wires) found c.filtered.result
    c.filtered.ensures.given c.filtered.ensures.memory
    (λ graphs wanted rows given e. group_filtered c.args.walk.now.endpoints.now c.args.walk.now.block c.args.walk.now.tasks.now c.args.next.now later it graphs wanted found rows given e)
    (λ graphs wanted given served number rest is. (given served number rest is).0.sent) c.in-Ok.ensures

pub optional-returns-in-Err : goal.optional-returns-in-Err
optional-returns-in-Err g t c =
    let it = c.args.group.now in
    let before = c.args.before.items in
    let later = c.unfiltered.new.next in
    let apart : (group_of it).is_simple ≡ false = sym c.is_simple.ensures ∙ c.if-is_simple.false in
    refused_as g.W.Wire.tells_log g.W.Wire.counts_alone c.args.walk.now.endpoints.now c.args.walk.now.tasks.now c.args.walk.now.block (map g.W.Wire.seen c.args.wires.now) (map g.W.Wire.seen c.unfiltered.new.wires) (UnfilteredGiven c.args.walk.now.endpoints.now c.args.walk.now.block c.args.walk.now.tasks.now c.args.next.now later it) (GroupDue c.args.walk.now.endpoints.now c.args.walk.now.block c.args.walk.now.tasks.now c.args.next.now it)
    (OperatorGiven c.args.walk.now.endpoints.now c.args.walk.now.block c.args.walk.now.tasks.now c.args.next.now later (Optional it) before) (OperatorDue c.args.walk.now.endpoints.now c.args.walk.now.block c.args.walk.now.tasks.now c.args.next.now (Optional it) before) c.in-Err.error
    (λ graphs wanted due. due_optional c.args.walk.now.endpoints.now c.args.walk.now.block c.args.walk.now.tasks.now c.args.next.now graphs before wanted it apart due) c.in-Err.ensures

pub optional-returns-in-Ok : goal.optional-returns-in-Ok
optional-returns-in-Ok g t c =
    let it = c.args.group.now in
    let before = c.args.before.items in
    let found = c.in-Ok.found.items in
    let later = c.unfiltered.new.next in
    let apart : (group_of it).is_simple ≡ false = sym c.is_simple.ensures ∙ c.if-is_simple.false in
    made_of g.W.Wire.tells_log g.W.Wire.counts_alone c.args.walk.now.endpoints.now c.args.walk.now.tasks.now c.args.walk.now.block (UnfilteredGiven c.args.walk.now.endpoints.now c.args.walk.now.block c.args.walk.now.tasks.now c.args.next.now later it) (GroupDue c.args.walk.now.endpoints.now c.args.walk.now.block c.args.walk.now.tasks.now c.args.next.now it) (OperatorGiven c.args.walk.now.endpoints.now c.args.walk.now.block c.args.walk.now.tasks.now c.args.next.now later (Optional it) before) (OperatorDue c.args.walk.now.endpoints.now c.args.walk.now.block c.args.walk.now.tasks.now c.args.next.now (Optional it) before) (λ rows. IsPermutation (left_join before found (group_of it).filters) rows)
    (map g.W.Wire.seen c.args.wires.now) (map g.W.Wire.seen c.unfiltered.new.wires) found c.left_joined.result
    c.left_joined.ensures.given c.left_joined.ensures.memory
    (λ graphs wanted rows given p. of_optional c.args.walk.now.endpoints.now c.args.walk.now.block c.args.walk.now.tasks.now c.args.next.now later graphs before rows wanted it found apart given p)
    (λ graphs wanted given. due_optional c.args.walk.now.endpoints.now c.args.walk.now.block c.args.walk.now.tasks.now c.args.next.now graphs before wanted it apart (λ served number rest is. (given served number rest is).0.sent)) c.in-Ok.ensures

pub unfiltered-returns-in_default : goal.unfiltered-returns-in_default
unfiltered-returns-in_default g t c =
    unasked g.W.Wire.tells_log g.W.Wire.counts_alone c.args.walk.now.endpoints.now c.args.walk.now.tasks.now c.args.walk.now.block (UnfilteredGiven c.args.walk.now.endpoints.now c.args.walk.now.block c.args.walk.now.tasks.now c.args.next.now c.args.next.now c.args.group.now) (GroupDue c.args.walk.now.endpoints.now c.args.walk.now.block c.args.walk.now.tasks.now c.args.next.now c.args.group.now) (map g.W.Wire.seen c.args.wires.now) (none_due c.args.walk.now.endpoints.now c.args.walk.now.block c.args.walk.now.tasks.now c.args.next.now c.args.group.now c.args.group.now.elements refl)

pub unfiltered-loop-element-init : goal.unfiltered-loop-element-init
unfiltered-loop-element-init g t c = record {
  are = c.as_slice-element-items.ensures;
  asked = λ are. so_far_begun c.args.walk.now.endpoints.now c.args.walk.now.block c.args.walk.now.tasks.now c.args.next.now c.args.group.now c.as_slice-element-items.result.now are g.W.Wire.tells_log g.W.Wire.counts_alone (map g.W.Wire.seen c.args.wires.now) c.in-Ok.rows.items c.in-Ok.ensures;
}

pub unfiltered-returns-in-Err : goal.unfiltered-returns-in-Err
unfiltered-returns-in-Err g t c =
    let see = g.W.Wire.seen in
    let all = c.as_slice-element-items.result.now in
    let i = c.loop-element.element-index in
    let e = c.element-item.result in
    so_far_refused c.args.walk.now.endpoints.now c.args.walk.now.block c.args.walk.now.tasks.now c.args.next.now c.args.group.now all c.loop-element.invariant.are g.W.Wire.tells_log g.W.Wire.counts_alone (map see c.args.wires.now) (map see c.loop-element.wires) (map see c.after_element.new.wires) (all_tell see g.W.Wire.tells_log g.met.W.Wire.told c.args.wires.now) (all_tell see g.W.Wire.tells_log g.met.W.Wire.told c.loop-element.wires)
    c.loop-element.next c.after_element.new.next c.loop-element.in_run c.loop-element.rows.items (drop i all) (c.loop-element.invariant.asked c.loop-element.invariant.are) c.after_element.new.in_run e (drop (i + 1) all) (from_element all i e c.loop-element-test.true c.element-item.is) c.in-Err.error c.in-Err.ensures

pub unfiltered-loop-element-preserved : goal.unfiltered-loop-element-preserved
unfiltered-loop-element-preserved g t c =
    let see = g.W.Wire.seen in
    let all = c.as_slice-element-items.result.now in
    let i = c.loop-element.element-index in
    let e = c.element-item.result in
    record {
      are = c.loop-element.invariant.are;
      asked = λ are.
          so_far_more c.args.walk.now.endpoints.now c.args.walk.now.block c.args.walk.now.tasks.now c.args.next.now c.args.group.now all are g.W.Wire.tells_log g.W.Wire.counts_alone (map see c.args.wires.now) (map see c.loop-element.wires) (map see c.after_element.new.wires) (all_tell see g.W.Wire.tells_log g.met.W.Wire.told c.args.wires.now) (all_tell see g.W.Wire.tells_log g.met.W.Wire.told c.loop-element.wires)
          c.loop-element.next c.after_element.new.next c.loop-element.in_run c.loop-element.rows.items (drop i all) (c.loop-element.invariant.asked are) c.after_element.new.in_run e (drop (i + 1) all) (from_element all i e c.loop-element-test.true c.element-item.is) c.in-Ok-after_element.found.items c.in-Ok-after_element.ensures;
    }

pub unfiltered-returns : goal.unfiltered-returns
unfiltered-returns g t c =
    let see = g.W.Wire.seen in
    let all = c.as_slice-element-items.result.now in
    let i = c.loop-element.element-index in
    so_far_ended c.args.walk.now.endpoints.now c.args.walk.now.block c.args.walk.now.tasks.now c.args.next.now c.args.group.now all c.loop-element.invariant.are g.W.Wire.tells_log g.W.Wire.counts_alone (map see c.args.wires.now) (map see c.loop-element.wires) (map see c.end_run.new.wires) (all_tell see g.W.Wire.tells_log g.met.W.Wire.told c.args.wires.now) (all_tell see g.W.Wire.tells_log g.met.W.Wire.told c.loop-element.wires)
    c.loop-element.next c.end_run.new.next c.loop-element.in_run c.loop-element.rows.items (drop i all) (c.loop-element.invariant.asked c.loop-element.invariant.are) (drop_all i all c.loop-element-test.false) (solutions_in c.end_run.result) c.end_run.ensures
