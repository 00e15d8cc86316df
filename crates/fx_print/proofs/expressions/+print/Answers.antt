use Rattle.std.proofs.Common.{◌≡◌, ◌++◌, ◌∷◌, OnOk, map, string_bytes, subst, append_assoc, ap, sym, ◌∙◌}
use Rattle.std.proofs.lemmas.List.Concat.{flat_map-append}
use Rattle.fx_algebra.specs.Printed as spec
use Rattle.fx_print.proofs.Equations.{printed_call, printed_sum}
use Rattle.fx_print.proofs.expressions.+print.Goals as goal

pub push_expr-returns-in_ok-push_in_place-in-Sum : goal.push_expr-returns-in_ok-push_in_place-in-Sum
push_expr-returns-in_ok-push_in_place-in-Sum t c =
    let text = string_bytes c.args.text.now in
    let front = spec.in_place 4 (spec.printed c.in-Sum.first) in
    let back = spec.signed (map (λ part. (part.0, spec.printed part.1)) c.in-Sum.rest) in
    subst (λ w. OnOk c.push_signed.result (string_bytes c.push_signed.new.text ≡ w))
    (rw (c.in-Sum.is, printed_sum c.in-Sum.first c.in-Sum.rest, c.as_slice-in-Sum.ensures, c.in_ok-push_in_place-in-Sum.ensures, c.get-in-Sum.ensures)
    (append_assoc text (spec.spaced front) (spec.spaced back) ∙ ap (λ w. text ++ w) (sym (flat_map-append (λ word. 32 ∷ spec.spelling word) front back))))
    c.push_signed.ensures

pub push_expr-returns-in_ok-push_fixed-in-Call : goal.push_expr-returns-in_ok-push_fixed-in-Call
push_expr-returns-in_ok-push_fixed-in-Call t c =
    let words = spec.listed (map spec.printed c.in-Call.args) in
    subst (λ w. OnOk c.push_list-in-Call.result (string_bytes c.push_list-in-Call.new.text ≡ w))
    (rw (c.in-Call.is, printed_call c.in-Call.function c.in-Call.args, c.as_slice-in-Call.ensures, c.in_ok-push_fixed-in-Call.ensures, c.keyword.ensures)
    (append_assoc (string_bytes c.args.text.now) (32 ∷ spec.keyword c.in-Call.function) (spec.spaced words)))
    c.push_list-in-Call.ensures
