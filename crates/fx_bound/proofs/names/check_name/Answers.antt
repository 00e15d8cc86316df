use Rattle.std.proofs.Common.{arith, ℕ, List, ◌++◌, codes, subst, sym, ap, ◌∙◌}
use Rattle.std.specs.Fmt.{decimal}
use Rattle.fx_terms.specs.Names.{IsName}
use Rattle.fx_bound.proofs.TextNames.{columns_are_names}
use Rattle.fx_bound.proofs.names.check_name.Goals as goal

pub known-requires : goal.known-requires
known-requires c =
    (subst IsName
    (sym (c.as_str.ensures.value ∙ c.in_ok-push_decimal.ensures ∙ ap (λ (front : List ℕ). front ++ decimal c.args.branch) (c.in_ok-push_str.ensures.bytes ∙ ap (λ (front : List ℕ). front ++ codes "k_") c.new-text.ensures.bytes)))
    (columns_are_names 0 c.args.branch (omega arith) (omega arith)).check).name
