use Rattle.std.proofs.Common.{◌∙◌, sym}
use Rattle.fx_terms.proofs.OrderLemmas.{exact_terms}
use Rattle.fx_terms.proofs.terms.Term.compare.Goals as goal

pub returns-clause-same : goal.returns-clause-same
returns-clause-same c = λ h. exact_terms c.args.self.now c.args.other.now (sym c.cmp.ensures ∙ h)
