use Rattle.std.proofs.Common.{◌∙◌, ap, ℕ, List}
use Rattle.fx_algebra.specs.Scopes.{is_among}
use Rattle.fx_plan.proofs.NameLemmas.{any_is}
use Rattle.fx_plan.proofs.names.Names.has.Goals as goal

pub returns : goal.returns
returns c =
    c.contains.ensures
    ∙ any_is c.self.inside.names.keys c.args.name.now
    ∙ ap (λ (names : List (List ℕ)). is_among names c.args.name.now) c.self.view_is
