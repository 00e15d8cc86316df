use Rattle.std.proofs.Common.{subst, ℕ, List}
use Rattle.std.proofs.lemmas.List.{take_all}
use Rattle.std.proofs.lemmas.List.Elements.{All-more}
use Rattle.fx_terms.specs.Terms.{IsTerm}
use Rattle.fx_terms.specs.declared.terms.Term.{Term}
use Rattle.fx_values.specs.Texts.{HasTerms}
use Rattle.fx_values.proofs.batches.known_pairs.Goals as goal

pub loop-pair-preserved : goal.loop-pair-preserved
loop-pair-preserved c =
    All-more (λ (e : List ℕ × Term). IsTerm e.1) c.args.pairs.now c.loop-pair.pair-index c.pair-item.result c.loop-pair-test.true c.loop-pair.invariant
    (subst (λ (e : List ℕ × Term). IsTerm e.1) c.pair-item.is c.known.ensures)

pub returns : goal.returns
returns c = subst HasTerms (take_all c.loop-pair.pair-index c.args.pairs.now c.loop-pair-test.false) c.loop-pair.invariant
