use Rattle.std.proofs.Common.{◌≡◌, ◌∙◌, ap, length}
use Rattle.std.specs.declared.cmp.Ordering.{Ordering}
use Rattle.std.specs.Ordering.{nat_cmp, ordering_then, is_le}
use Rattle.std.specs.Cmp.Lexicographic.{slice_cmp}
use Rattle.std.specs.Str.Parse.{digits_value}
use Rattle.fx_expr.proofs.DigitLemmas.{by_digits, told}
use Rattle.fx_expr.proofs.integers.are_digits_in_order.Goals as goal

pub returns : goal.returns
returns c =
    let l = c.args.left.now in
    let r = c.args.right.now in
    let order : c.then.result ≡ ordering_then (nat_cmp (length l) (length r)) (slice_cmp nat_cmp l r) =
    c.then.ensures
    ∙ ap (λ (o : Ordering). ordering_then o c.cmp-2.result) c.cmp.ensures
    ∙ ap (λ (o : Ordering). ordering_then (nat_cmp (length l) (length r)) o) c.cmp-2.ensures in
    c.is_le.ensures
    ∙ ap is_le order
    ∙ told (ordering_then (nat_cmp (length l) (length r)) (slice_cmp nat_cmp l r)) (digits_value 10 l) (digits_value 10 r) (by_digits l r c.requires.left c.requires.right)
