use Rattle.std.proofs.Common.{◌≡◌, ◌++◌, All, take}
use Rattle.serde_json.specs.Data.{string}
use Rattle.fx_terms.specs.Names.{IsName}
use Rattle.fx_results.proofs.TokenLemmas.{each}
use Rattle.fx_results.proofs.documents.write_names.Given as goal

abbrev pub invariant-loop-name : goal.invariant-loop-name
invariant-loop-name l = record {
  tokens : l.text.tokens ≡ l.initial.text.tokens ++ each string (take l.name-index l.names);
  before : l.text.before ≡ l.initial.text.before;
  known : All IsName (take l.name-index l.names);
}
