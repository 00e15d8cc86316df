use Rattle.std.proofs.Common.{rules, ◌∙◌, ap, not, filter, ℕ, List}
use Rattle.std.proofs.lemmas.Fn.{filter_same}
use Rattle.fx_algebra.specs.Scopes.{is_among}
use Rattle.fx_plan.proofs.names.Names.forget.Goals as goal

pub returns : goal.returns
returns c =
    filter_same _ (λ name. not (is_among c.args.others.now name)) _ (λ x b f' called. search rules) c.self.inside.names.keys c.retain.new.self.keys c.retain.ensures.filtered
    ∙ ap (λ (names : List (List ℕ)). filter (λ name. not (is_among c.args.others.now name)) names) c.self.view_is
