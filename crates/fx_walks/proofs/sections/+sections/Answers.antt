use Rattle.std.proofs.Common.{◌≡◌, ◌∙◌, ◌++◌, ap, sym, subst, drop, ℕ, ◌+◌, List, ◌∷◌}
use Rattle.std.proofs.lemmas.List.{drop_all, drop_more}
use Rattle.std.proofs.lemmas.Result.{on_ok_weaker}
use Rattle.std.specs.declared.vec.Vec.{Vec}
use Rattle.std.specs.declared.alloc.Global.{Global}
use Rattle.fx_algebra.specs.declared.expressions.Expr.{Expr}
use Rattle.fx_algebra.specs.declared.queries.Element.{Element}
use Rattle.fx_algebra.specs.declared.queries.Element.TheVariants.{Union}
use Rattle.fx_algebra.specs.declared.queries.Group.{Group}
use Rattle.fx_walks.specs.SectionSteps as spec
use Rattle.fx_walks.specs.declared.sections.Pending.{Pending}
use Rattle.fx_walks.specs.declared.sections.Section.{Section}
use Rattle.fx_walks.proofs.SectionLemmas.{IsSoFar, inside_union, so_far_all, so_far_ended, so_far_kept}
use Rattle.fx_walks.proofs.sections.+sections.Goals.{add_group-then-keeps_run+in_ok-push_pattern, add_group-else-keeps_run+in_ok-end_run+in_ok-add_inside+in_ok-add_element}
use Rattle.fx_walks.proofs.sections.+sections.Goals as goal

pub add_group-loop-element-preserved : goal.add_group-loop-element-preserved
add_group-loop-element-preserved t c =
    let all = c.as_slice-element-items.result.now in
    let i = c.loop-element.element-index in
    let e = c.element-item.result in
    let start = c.args.sections.now.items in
    let before = c.args.before.now in
    let es = c.in_ok-filters.filters.items in
    let done = c.loop-element.sections.items in
    let known = c.loop-element.pending.known.items in
    let run = c.loop-element.pending.run.items in
    let next : drop i all ≡ e ∷ drop (i + 1) all = drop_more all i e c.loop-element-test.true ∙ ap (λ (d : Element). d ∷ drop (i + 1) all) (sym c.element-item.is) in
    elim c.if-keeps_run.branch [
      | add_group-then-keeps_run+in_ok-push_pattern w ↦
          subst (λ (p : Pending). IsSoFar start es before all c.if-keeps_run.sections.items p.known.items p.run.items (drop (i + 1) all)) (sym w.pending-is)
          (subst (λ (v : Vec Section Global). IsSoFar start es before all v.items known w.push_pattern.new.run.items (drop (i + 1) all)) (sym w.sections-is)
          (so_far_kept start es before all done known run w.push_pattern.new.run.items e (drop i all) (drop (i + 1) all) next (sym c.keeps_run.ensures ∙ w.if-keeps_run.true) w.in_ok-push_pattern.ensures c.loop-element.invariant))
      | add_group-else-keeps_run+in_ok-end_run+in_ok-add_inside+in_ok-add_element w ↦
          subst (λ (p : Pending). IsSoFar start es before all c.if-keeps_run.sections.items p.known.items p.run.items (drop (i + 1) all)) (sym w.pending-is)
          (subst (λ (v : Vec Section Global). IsSoFar start es before all v.items w.add_element.new.names.items w.end_run.new.pending.run.items (drop (i + 1) all)) (sym w.sections-is)
          (so_far_ended start es before all done w.end_run.new.sections.items w.add_inside.new.sections.items known w.end_run.new.pending.known.items w.add_element.new.names.items run w.end_run.new.pending.run.items e (drop i all) (drop (i + 1) all) next
          (sym c.keeps_run.ensures ∙ w.if-keeps_run.false)
          (w.in_ok-end_run.ensures.sections ∙ ap (λ (v : List Expr). done ++ spec.run_of v known run) w.as_slice.ensures.value)
          w.in_ok-end_run.ensures.known
          w.in_ok-end_run.ensures.run
          (w.in_ok-add_inside.ensures ∙ ap (λ (v : List (List ℕ)). w.end_run.new.sections.items ++ spec.inside_of (spec.part_of e) v) w.as_slice-else-keeps_run.ensures.value)
          w.in_ok-add_element.ensures
          c.loop-element.invariant))
    ]

pub add_group-returns : goal.add_group-returns
add_group-returns t c =
    let all = c.as_slice-element-items.result.now in
    let i = c.loop-element.element-index in
    on_ok_weaker c.end_run-2.result
    (λ ends. so_far_all c.args.sections.now.items c.args.before.now c.args.group.now c.as_slice-2.result.now c.in_ok-filters.filters.items c.loop-element.sections.items c.end_run-2.new.sections.items c.loop-element.pending.known.items
    c.loop-element.pending.run.items (drop i all) all c.as_slice-element-items.ensures c.in_ok-filters.ensures c.as_slice-2.ensures.value (drop_all i all c.loop-element-test.false) ends c.loop-element.invariant)
    c.end_run-2.ensures.sections

pub add_inside-returns-in-Union : goal.add_inside-returns-in-Union
add_inside-returns-in-Union t c =
    let start = c.args.sections.now.items in
    let before = c.args.before.now in
    on_ok_weaker c.add_groups.result
    (λ more.
    more
    ∙ ap (λ (v : List Section). start ++ v) (sym (inside_union c.as_slice.result.now before))
    ∙ ap (λ (gs : List Group). start ++ spec.inside_of (spec.part_of (Union gs)) before) c.as_slice.ensures
    ∙ ap (λ (e : Element). start ++ spec.inside_of (spec.part_of e) before) (sym c.in-Union.is))
    c.add_groups.ensures
