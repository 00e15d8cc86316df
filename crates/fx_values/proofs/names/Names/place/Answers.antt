use Rattle.std.proofs.Common.{◌∙◌, ap, ℕ, List, Option, length, unwrap_or}
use Rattle.fx_values.specs.Values.{place_of}
use Rattle.fx_values.proofs.PlaceLemmas.{place_is}
use Rattle.fx_values.proofs.names.Names.place.Goals as goal

pub returns-in-Some : goal.returns-in-Some
returns-in-Some c =
    let keys = c.self.inside.names.keys in
    ap (λ (o : Option ℕ). unwrap_or o (length keys)) c.in-Some.ensures.index
    ∙ place_is keys c.args.name.now
    ∙ ap (λ (names : List (List ℕ)). place_of names c.args.name.now) c.self.view_is

pub returns-in-None : goal.returns-in-None
returns-in-None c =
    let keys = c.self.inside.names.keys in
    c.len.ensures.len
    ∙ ap (λ (o : Option ℕ). unwrap_or o (length keys)) c.in-None.ensures.index
    ∙ place_is keys c.args.name.now
    ∙ ap (λ (names : List (List ℕ)). place_of names c.args.name.now) c.self.view_is
