use Rattle.std.proofs.Common.{◌≡◌, ◌∙◌, ap, List, subst}
use Rattle.fx_terms.specs.declared.triples.Triple.{Triple}
use Rattle.fx_algebra.specs.Answers.{has_rows}
use Rattle.fx_algebra.specs.BasicGraphPatterns.{bgp}
use Rattle.fx_algebra.specs.Operators.{merges}
use Rattle.fx_store.specs.Stores.{alone}
use Rattle.fx_store.proofs.StoreLemmas.{matches_are}
use Rattle.fx_store.proofs.stores.Store.some_fits_counted.Goals as goal

pub returns-clause-merged : goal.returns-clause-merged
returns-clause-merged g c =
    let p = c.args.pattern.now in
    let s = c.args.solution.now in
    subst (λ (graph : List Triple). c.some_fits.result ≡ has_rows (merges (bgp graph (alone p)) s)) c.self.view_is
    (c.some_fits.ensures.some ∙ ap has_rows (matches_are c.self.inside.orders p s c.pairs-pairs.ensures.rises))
