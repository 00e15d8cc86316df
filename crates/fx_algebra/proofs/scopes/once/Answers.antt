use Rattle.std.proofs.Common.{◌≡◌, ◌∙◌, ap, arith}
use Rattle.std.specs.Ordering.{eq_by_cmp}
use Rattle.std.proofs.lemmas.Grind.{common_steps}
use Rattle.indexmap.specs.IndexSet.{insert_key}
use Rattle.fx_terms.specs.Texts.{text_cmp}
use Rattle.fx_algebra.specs.Scopes.{with_name}
use Rattle.fx_algebra.proofs.ScopeLemmas.{insert_is}
use Rattle.fx_algebra.proofs.scopes.once.Goals as goal

pub loop-name-preserved : goal.loop-name-preserved
loop-name-preserved c =
    let added : c.insert.new.self.keys ≡ with_name c.loop-name.all.keys c.name-item.result =
    c.in_ok-insert.ensures.keys ∙ (ap (insert_key (eq_by_cmp text_cmp) c.loop-name.all.keys) c.in_ok-copy.ensures ∙ insert_is c.loop-name.all.keys c.name-item.result) in
    grind (arith, common_steps, added, c.loop-name.invariant)
