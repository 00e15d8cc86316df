use Rattle.std.proofs.Common.{rules, ◌≡◌, ◌∙◌, ◌+◌, ◌++◌, ◌∷◌, [], ap, sym, subst, List, drop, length, IsPermutation, arith}
use Rattle.std.proofs.lemmas.List.{drop_all}
use Rattle.std.specs.Vec.Iter.{into_iter_items, into_iter_len}
use Rattle.fx_algebra.specs.declared.queries.Group.{Group}
use Rattle.fx_engine.specs.Together.{rows_of_runs}
use Rattle.fx_engine.proofs.FoundLemmas.{groups_go_on, nothing_left, rows_of_none, rows_whole}
use Rattle.fx_engine.proofs.together.rows_of_runs.Goals as goal

pub loop-group-preserved : goal.loop-group-preserved
loop-group-preserved c =
    let taken : into_iter_items c.loop-group.left ≡ c.in-Some.found ∷ into_iter_items c.next.new.self = search rules in
    let appended : c.append.new.self.items ≡ c.loop-group.rows.items ++ c.in_ok-more.more.items = search rules in
    let shorter : into_iter_len c.next.new.self + 1 ≡ into_iter_len c.loop-group.left = search rules in
    let long : length (into_iter_items c.loop-group.left) ≡ length (into_iter_items c.next.new.self) + 1 = ap length taken ∙ omega arith in
    record {
      len = omega (arith, shorter, long, c.loop-group.invariant.len);
      whole = groups_go_on c.args.groups.now c.loop-group.group-index c.group-item.result c.in-Some.found (into_iter_items c.loop-group.left) (into_iter_items c.next.new.self) c.loop-group.rows.items c.in_ok-more.more.items c.append.new.self.items
          (rows_of_runs c.args.groups.now c.args.founds.items) c.loop-group-test.true c.group-item.is taken appended c.in_ok-more.ensures.given c.loop-group.invariant.whole;
    }

pub returns-in_default-clause-given : goal.returns-in_default-clause-given
returns-in_default-clause-given c =
    let over : into_iter_len c.loop-group.left ≡ 0 = search rules in
    let none : into_iter_items c.loop-group.left ≡ [] = nothing_left (into_iter_items c.loop-group.left) (sym c.loop-group.invariant.len ∙ over) in
    rows_whole c.loop-group.rows.items (rows_of_runs c.args.groups.now c.args.founds.items)
    (λ all p. c.loop-group.invariant.whole all
    (subst (IsPermutation all) (sym (ap (rows_of_runs (drop c.loop-group.group-index c.args.groups.now)) none ∙ rows_of_none (drop c.loop-group.group-index c.args.groups.now))) p))

pub returns-clause-given : goal.returns-clause-given
returns-clause-given c =
    let none : drop c.loop-group.group-index c.args.groups.now ≡ [] = drop_all c.loop-group.group-index c.args.groups.now (omega (arith, c.loop-group-test.false)) in
    rows_whole c.loop-group.rows.items (rows_of_runs c.args.groups.now c.args.founds.items)
    (λ all p. c.loop-group.invariant.whole all (subst (IsPermutation all) (sym (ap (λ (v : List Group). rows_of_runs v (into_iter_items c.loop-group.left)) none)) p))
