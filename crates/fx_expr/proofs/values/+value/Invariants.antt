use Rattle.std.proofs.Common.{◌≡◌, ◌||◌, map, drop}
use Rattle.std.specs.List.{list_any}
use Rattle.std.specs.Prelude.{is_none}
use Rattle.fx_algebra.specs.Values as spec
use Rattle.fx_expr.proofs.values.+value.Given as goal

abbrev pub invariant-any_of-loop-part : goal.invariant-any_of-loop-part
invariant-any_of-loop-part l =
    let truths = λ (es : _). map spec.truth_of (map (λ e. spec.value e l.solution) es) in
    record {
      sure : list_any spec.is_true (truths (drop l.part-index l.parts)) ≡ list_any spec.is_true (truths l.parts);
      errors : l.unsure || list_any is_none (truths (drop l.part-index l.parts)) ≡ list_any is_none (truths l.parts);
    }

abbrev pub invariant-all_of-loop-part : goal.invariant-all_of-loop-part
invariant-all_of-loop-part l =
    let truths = λ (es : _). map spec.truth_of (map (λ e. spec.value e l.solution) es) in
    record {
      sure : list_any spec.is_false (truths (drop l.part-index l.parts)) ≡ list_any spec.is_false (truths l.parts);
      errors : l.uncertain || list_any is_none (truths (drop l.part-index l.parts)) ≡ list_any is_none (truths l.parts);
    }

abbrev pub invariant-among-loop-part : goal.invariant-among-loop-part
invariant-among-loop-part l =
    let truths = λ (es : _). map (spec.on_both spec.equal l.item) (map (λ e. spec.value e l.solution) es) in
    record {
      sure : list_any spec.is_true (truths (drop l.part-index l.list)) ≡ list_any spec.is_true (truths l.list);
      errors : l.undecided || list_any is_none (truths (drop l.part-index l.list)) ≡ list_any is_none (truths l.list);
    }

abbrev pub invariant-first_of-loop-arg : goal.invariant-first_of-loop-arg
invariant-first_of-loop-arg l =
    spec.first_of (map (λ e. spec.value e l.solution) (drop l.arg-index l.args)) ≡ spec.first_of (map (λ e. spec.value e l.solution) l.args)

abbrev pub invariant-sum-loop-sign : goal.invariant-sum-loop-sign
invariant-sum-loop-sign l =
    let values = λ (ps : _). map (λ p. (p.0, spec.value p.1 l.solution)) ps in
    spec.sum_from l.total (values (drop l.sign-index l.rest)) ≡ spec.sum_from l.first (values l.rest)

abbrev pub invariant-product-loop-part : goal.invariant-product-loop-part
invariant-product-loop-part l =
    let values = λ (es : _). map (λ e. spec.value e l.solution) es in
    spec.product_from l.total (values (drop l.part-index l.parts)) ≡ spec.product (values l.parts)
