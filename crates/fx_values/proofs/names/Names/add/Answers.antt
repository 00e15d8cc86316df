use Rattle.std.proofs.Common.{◌∙◌, ap, ℕ, List}
use Rattle.fx_algebra.specs.Scopes.{with_name}
use Rattle.fx_algebra.proofs.ScopeLemmas.{insert_is}
use Rattle.fx_values.proofs.names.Names.add.Goals as goal

pub returns : goal.returns
returns c =
    c.in_ok-insert.ensures.keys
    ∙ insert_is c.self.inside.names.keys c.args.name
    ∙ ap (λ (names : List (List ℕ)). with_name names c.args.name) c.self.view_is
