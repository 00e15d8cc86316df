use Rattle.std.proofs.Common.{◌≡◌, List, subst}
use Rattle.std.specs.Prelude.{IfOk}
use Rattle.fx_terms.specs.declared.triples.Triple.{Triple}
use Rattle.fx_algebra.specs.Solutions.{Bindings}
use Rattle.fx_algebra.specs.BasicGraphPatterns.{bgp}
use Rattle.fx_algebra.specs.Operators.{merges}
use Rattle.fx_store.specs.Stores.{alone}
use Rattle.fx_store.proofs.StoreLemmas.{matches_are}
use Rattle.fx_store.proofs.stores.Store.matches_counted.Goals as goal

pub returns-clause-merged : goal.returns-clause-merged
returns-clause-merged g c =
    let p = c.args.pattern.now in
    let s = c.args.solution.now in
    subst (λ (graph : List Triple). IfOk c.rows_of.result (λ more. more.items ≡ merges (bgp graph (alone p)) s)) c.self.view_is
    (subst (λ (v : List Bindings). IfOk c.rows_of.result (λ more. more.items ≡ v)) (matches_are c.self.inside.orders p s c.pairs-pairs.ensures.rises) c.rows_of.ensures.rows)
