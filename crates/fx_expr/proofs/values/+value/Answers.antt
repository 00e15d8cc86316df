use Rattle.std.proofs.Common.{◌≡◌, ◌+◌, ◌∙◌, ◌∷◌, Some, false, true, arith, refl, sym, ap, subst, drop, List, map, Option, option_map}
use Rattle.std.proofs.lemmas.List.{drop_more}
use Rattle.std.specs.Prelude.{IfOk, option_and_then}
use Rattle.fx_algebra.specs.declared.expressions.Expr.{Expr}
use Rattle.fx_terms.specs.declared.terms.Term.{Term}
use Rattle.fx_algebra.specs.Values as spec
use Rattle.fx_expr.proofs.Equations.{value_or, value_and, value_among, value_sum, value_product}
use Rattle.fx_expr.proofs.LoopLemmas.{behind_truth, behind_error, behind_none}
use Rattle.fx_expr.proofs.values.+value.Goals as goal
use Rattle.fx_expr.proofs.values.+value.Goals.{any_of-in-Some-false, any_of-in-None, all_of-in-Some-true, all_of-in-None, among-in-Some-false, among-in-None}

pub value-returns-in_ok-any_of-in-Or : goal.value-returns-in_ok-any_of-in-Or
value-returns-in_ok-any_of-in-Or t c =
    let s = c.args.solution.now in
    let same = ap (option_map spec.boolean) (c.in_ok-any_of-in-Or.ensures ∙ ap (λ ps. spec.any_of (map spec.truth_of (map (λ e. spec.value e s) ps))) c.as_slice.ensures) ∙ sym (value_or c.in-Or.parts s) in
    rw c.in-Or.is (subst (λ (x : Option Term). IfOk c.truth_term.result (λ v. v ≡ x)) same c.truth_term.ensures)

pub value-returns-in_ok-all_of-in-And : goal.value-returns-in_ok-all_of-in-And
value-returns-in_ok-all_of-in-And t c =
    let s = c.args.solution.now in
    let same = ap (option_map spec.boolean) (c.in_ok-all_of-in-And.ensures ∙ ap (λ ps. spec.all_of (map spec.truth_of (map (λ e. spec.value e s) ps))) c.as_slice-in-And.ensures) ∙ sym (value_and c.in-And.parts s) in
    rw c.in-And.is (subst (λ (x : Option Term). IfOk c.truth_term-in-And.result (λ v. v ≡ x)) same c.truth_term-in-And.ensures)

pub value-returns-in_ok-item-in-Among : goal.value-returns-in_ok-item-in-Among
value-returns-in_ok-item-in-Among t c =
    let s = c.args.solution.now in
    let told = λ (v : Option Term) (ps : List Expr). option_map spec.boolean (option_map (spec.negated_by c.in-Among.negated) (spec.among v (map (λ e. spec.value e s) ps))) in
    let same = ap (λ v. told v c.as_slice-in-Among.result.now) (c.in_ok-item-in-Among.ensures ∙ ap (λ e. spec.value e s) c.get-in-Among.ensures) ∙ ap (told (spec.value c.in-Among.item s)) c.as_slice-in-Among.ensures ∙ sym (value_among c.in-Among.negated c.in-Among.item c.in-Among.list s) in
    rw c.in-Among.is (subst (λ (x : Option Term). IfOk c.found_among.result (λ v. v ≡ x)) same c.found_among.ensures)

pub value-returns-in_ok-sum-in-Sum : goal.value-returns-in_ok-sum-in-Sum
value-returns-in_ok-sum-in-Sum t c =
    let s = c.args.solution.now in
    let found = c.in_ok-sum-in-Sum.ensures ∙ ap (option_and_then (λ m. spec.sum_from m (map (λ p. (p.0, spec.value p.1 s)) c.as_slice-in-Sum.result.now))) (c.in_ok-first-in-Sum.ensures ∙ ap (λ e. spec.integer_in (spec.value e s)) c.get-in-Sum.ensures) ∙ ap (λ ps. spec.sum (spec.value c.in-Sum.first s) (map (λ p. (p.0, spec.value p.1 s)) ps)) c.as_slice-in-Sum.ensures in
    let same = ap (option_map spec.integer) found ∙ sym (value_sum c.in-Sum.first c.in-Sum.rest s) in
    rw c.in-Sum.is (subst (λ (x : Option Term). IfOk c.integer_term.result (λ v. v ≡ x)) same c.integer_term.ensures)

pub value-returns-in_ok-product-in-Product : goal.value-returns-in_ok-product-in-Product
value-returns-in_ok-product-in-Product t c =
    let s = c.args.solution.now in
    let same = ap (option_map spec.integer) (c.in_ok-product-in-Product.ensures ∙ ap (λ ps. spec.product (map (λ e. spec.value e s) ps)) c.as_slice-in-Product.ensures) ∙ sym (value_product c.in-Product.parts s) in
    rw c.in-Product.is (subst (λ (x : Option Term). IfOk c.integer_term-in-Product.result (λ v. v ≡ x)) same c.integer_term-in-Product.ensures)

pub any_of-loop-part-preserved : goal.any_of-loop-part-preserved
any_of-loop-part-preserved t c =
    let s = c.args.solution.now in
    let xs = c.args.parts.now in
    let i = c.loop-part.part-index in
    let x = c.part-item.result in
    let seen = λ (es : List Expr). map (spec.truth_of) (map (λ e. spec.value e s) es) in
    let rest = drop (i + 1) xs in
    let here : drop i xs ≡ x ∷ rest = drop_more xs i x (omega arith) ∙ ap (λ (y : Expr). y ∷ rest) (sym c.part-item.is) in
    let split = ap seen here ∙ ap (λ v. v ∷ seen rest) (sym (c.in_ok-truth_on.ensures)) in
    elim c.match-branch-2.branch [
      | any_of-in-Some-false w ↦ (let k = behind_truth spec.is_true c.in_ok-truth_on.field-0 false c.loop-part.unsure c.match-branch-2.unsure (seen (drop i xs)) (seen rest) (seen xs) split (w.in-Some-false.is ∙ ap Some w.in-Some-false.field-0-test) refl w.unsure-is c.loop-part.invariant.sure c.loop-part.invariant.errors in record { sure = k.sure; errors = k.errors })
      | any_of-in-None w ↦ (let k = behind_error spec.is_true c.in_ok-truth_on.field-0 c.loop-part.unsure c.match-branch-2.unsure (seen (drop i xs)) (seen rest) (seen xs) split w.in-None.is refl w.unsure-is c.loop-part.invariant.sure c.loop-part.invariant.errors in record { sure = k.sure; errors = k.errors })
    ]

pub all_of-loop-part-preserved : goal.all_of-loop-part-preserved
all_of-loop-part-preserved t c =
    let s = c.args.solution.now in
    let xs = c.args.parts.now in
    let i = c.loop-part.part-index in
    let x = c.part-item.result in
    let seen = λ (es : List Expr). map (spec.truth_of) (map (λ e. spec.value e s) es) in
    let rest = drop (i + 1) xs in
    let here : drop i xs ≡ x ∷ rest = drop_more xs i x (omega arith) ∙ ap (λ (y : Expr). y ∷ rest) (sym c.part-item.is) in
    let split = ap seen here ∙ ap (λ v. v ∷ seen rest) (sym (c.in_ok-truth_on.ensures)) in
    elim c.match-branch-2.branch [
      | all_of-in-Some-true w ↦ (let k = behind_truth spec.is_false c.in_ok-truth_on.field-0 true c.loop-part.uncertain c.match-branch-2.uncertain (seen (drop i xs)) (seen rest) (seen xs) split (w.in-Some-true.is ∙ ap Some w.in-Some-true.field-0-test) refl w.uncertain-is c.loop-part.invariant.sure c.loop-part.invariant.errors in record { sure = k.sure; errors = k.errors })
      | all_of-in-None w ↦ (let k = behind_error spec.is_false c.in_ok-truth_on.field-0 c.loop-part.uncertain c.match-branch-2.uncertain (seen (drop i xs)) (seen rest) (seen xs) split w.in-None.is refl w.uncertain-is c.loop-part.invariant.sure c.loop-part.invariant.errors in record { sure = k.sure; errors = k.errors })
    ]

pub among-loop-part-preserved : goal.among-loop-part-preserved
among-loop-part-preserved t c =
    let s = c.args.solution.now in
    let xs = c.args.list.now in
    let i = c.loop-part.part-index in
    let x = c.part-item.result in
    let seen = λ (es : List Expr). map (spec.on_both spec.equal c.args.item.now) (map (λ e. spec.value e s) es) in
    let rest = drop (i + 1) xs in
    let here : drop i xs ≡ x ∷ rest = drop_more xs i x (omega arith) ∙ ap (λ (y : Expr). y ∷ rest) (sym c.part-item.is) in
    let split = ap seen here ∙ ap (λ v. v ∷ seen rest) (sym (c.both_equal-equal.ensures ∙ ap (spec.on_both spec.equal c.args.item.now) c.in_ok-value.ensures)) in
    elim c.match-equal.branch [
      | among-in-Some-false w ↦ (let k = behind_truth spec.is_true c.both_equal-equal.result false c.loop-part.undecided c.match-equal.undecided (seen (drop i xs)) (seen rest) (seen xs) split (w.in-Some-false.is ∙ ap Some w.in-Some-false.field-0-test) refl w.undecided-is c.loop-part.invariant.sure c.loop-part.invariant.errors in record { sure = k.sure; errors = k.errors })
      | among-in-None w ↦ (let k = behind_error spec.is_true c.both_equal-equal.result c.loop-part.undecided c.match-equal.undecided (seen (drop i xs)) (seen rest) (seen xs) split w.in-None.is refl w.undecided-is c.loop-part.invariant.sure c.loop-part.invariant.errors in record { sure = k.sure; errors = k.errors })
    ]

pub first_of-loop-arg-preserved : goal.first_of-loop-arg-preserved
first_of-loop-arg-preserved t c =
    let s = c.args.solution.now in
    let xs = c.args.args.now in
    let i = c.loop-arg.arg-index in
    let x = c.arg-item.result in
    let seen = map (λ e. spec.value e s) in
    let rest = drop (i + 1) xs in
    let here : drop i xs ≡ x ∷ rest = drop_more xs i x (omega arith) ∙ ap (λ (y : Expr). y ∷ rest) (sym c.arg-item.is) in
    behind_none c.in_ok-term.field-0 (seen (drop i xs)) (seen rest) (seen xs) (ap seen here ∙ ap (λ v. v ∷ seen rest) (sym c.in_ok-term.ensures)) c.in_default.is c.loop-arg.invariant
