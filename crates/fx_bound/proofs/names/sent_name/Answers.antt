use Rattle.std.proofs.Common.{arith, ℕ, List, ◌++◌, subst, sym, ap, ◌∙◌}
use Rattle.fx_terms.specs.Names.{IsName}
use Rattle.fx_bound.specs.Reading.{sent_name}
use Rattle.fx_bound.proofs.TextNames.{columns_are_names}
use Rattle.fx_bound.proofs.names.sent_name.Goals as goal

pub known-requires : goal.known-requires
known-requires c =
    (subst IsName (sym (c.as_str.ensures.value ∙ c.in_ok-push_sent.ensures ∙ ap (λ (front : List ℕ). front ++ sent_name c.args.place c.args.branch) c.new-text.ensures.bytes))
    (columns_are_names c.args.place c.args.branch (omega arith) (omega arith)).sent).name
