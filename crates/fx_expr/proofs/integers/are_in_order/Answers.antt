use Rattle.std.proofs.Common.{◌≡◌, ◌∙◌, ◌&&◌, ap, Bool, true, false, nat_eq, length}
use Rattle.fx_expr.proofs.DigitLemmas.{up_to_minus}
use Rattle.fx_expr.proofs.integers.are_in_order.Goals as goal

pub returns-then-is_empty : goal.returns-then-is_empty
returns-then-is_empty c =
    let l = c.args.left.now in
    let r = c.args.right.now in
    let first : true ≡ nat_eq (length l) 0 = cc in
    rw (c.if-left_negative.false, c.if-right_negative-2.true)
    (c.is_empty-then-is_empty.ensures ∙ ap (λ (b : Bool). b && nat_eq (length r) 0) first ∙ up_to_minus l r c.requires.left c.requires.right)

pub returns-else-is_empty : goal.returns-else-is_empty
returns-else-is_empty c =
    let l = c.args.left.now in
    let r = c.args.right.now in
    let first : false ≡ nat_eq (length l) 0 = cc in
    rw (c.if-left_negative.false, c.if-right_negative-2.true)
    (c.if-is_empty.false ∙ ap (λ (b : Bool). b && nat_eq (length r) 0) first ∙ up_to_minus l r c.requires.left c.requires.right)
