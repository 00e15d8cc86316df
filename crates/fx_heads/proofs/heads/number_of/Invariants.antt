use Rattle.std.proofs.Common.{◌≡◌, ◌≤◌, drop}
use Rattle.fx_grammar.specs.Grammar.{number_from}
use Rattle.fx_heads.proofs.heads.number_of.Given as goal

abbrev pub invariant-loop-digit : goal.invariant-loop-digit
invariant-loop-digit l = record {
  same : number_from l.number (drop l.digit-index l.digit-items) ≡ number_from 0 l.digit-items;
  small : l.number ≤ 18446744073709551615;
}
