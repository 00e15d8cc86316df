-- The order of triples: by subject, predicate, object.
use Rattle.std.specs.declared.cmp.Ordering.{Ordering}
use Rattle.std.specs.Ordering.{on, then_cmp}
use Rattle.std.specs.Cmp.{IsTotalOrder}
use Rattle.std.proofs.lemmas.Cmp.{then_total, on_total}
use Rattle.fx_terms.specs.Texts.{text_cmp, texts_total}
use Rattle.fx_terms.specs.Iris.{IsIri}
use Rattle.fx_terms.specs.Terms.{term_cmp, terms_total, IsTerm}
use Rattle.fx_terms.specs.declared.triples.Triple.{Triple}

abbrev pub triple_cmp : Triple → Triple → Ordering
triple_cmp = then_cmp (on (λ t. t.subject) text_cmp) (then_cmp (on (λ t. t.predicate) text_cmp) (on (λ t. t.object) term_cmp))

pub triples_total : IsTotalOrder triple_cmp
triples_total = then_total (on_total (λ t. t.subject) texts_total) (then_total (on_total (λ t. t.predicate) texts_total) (on_total (λ t. t.object) terms_total))

-- its parts are what their readers accept
pub record IsTriple (t : Triple) : Type 0 where
  pub subject : IsIri t.subject
  pub predicate : IsIri t.predicate
  pub object : IsTerm t.object
