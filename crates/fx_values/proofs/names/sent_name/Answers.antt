use Rattle.std.proofs.Common.{arith, ℕ, List, ◌++◌, subst, sym, ap, ◌∙◌}
use Rattle.fx_terms.specs.Names.{IsName}
use Rattle.fx_values.specs.Values.{sent_name}
use Rattle.fx_values.proofs.TextNames.{sent_is_name}
use Rattle.fx_values.proofs.names.sent_name.Goals as goal

pub known-requires : goal.known-requires
known-requires c =
    (subst IsName (sym (c.as_str.ensures.value ∙ c.in_ok-push_sent.ensures ∙ ap (λ (front : List ℕ). front ++ sent_name c.args.place) c.new-text.ensures.bytes))
    (sent_is_name c.args.place (omega arith))).name
