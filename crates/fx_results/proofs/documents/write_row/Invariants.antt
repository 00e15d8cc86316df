use Rattle.std.proofs.Common.{◌≡◌, ◌++◌, All, take}
use Rattle.fx_terms.specs.Terms.{IsTerm}
use Rattle.fx_results.proofs.TokenLemmas.{pairs_tokens}
use Rattle.fx_results.proofs.documents.write_row.Given as goal

abbrev pub invariant-loop-pair : goal.invariant-loop-pair
invariant-loop-pair l = record {
  tokens : l.text.tokens ≡ l.initial.text.tokens ++ pairs_tokens (take l.pair-index l.pairs);
  before : l.text.before ≡ l.initial.text.before;
  known : All (λ e. IsTerm e.1) (take l.pair-index l.pairs);
}
