use Rattle.std.proofs.Common.{◌∙◌, ◌++◌, ◌∷◌, [], subst, All}
use Rattle.std.proofs.lemmas.List.{take_all}
use Rattle.std.proofs.lemmas.List.Elements.{All-more}
use Rattle.json.specs.Token.{begin_array, end_array, string as token}
use Rattle.serde_json.specs.Data.{string}
use Rattle.fx_terms.specs.Names.{IsName}
use Rattle.fx_results.specs.Tokens.{data_tokens}
use Rattle.fx_results.proofs.TokenLemmas.{each, array_is, closes, one_more, all_parts, standing}
use Rattle.fx_results.proofs.documents.write_names.Goals as goal

pub loop-name-preserved : goal.loop-name-preserved
loop-name-preserved c = record {
  tokens =
      one_more (λ name. data_tokens (string name)) c.begin_array.new.self.tokens c.args.names.now c.loop-name.name-index c.name-item.result c.loop-name.invariant.tokens
      (c.in_ok-string.ensures.ok ∙ (λ j. c.loop-name.text.tokens ++ token (c.text.ensures.value j) ∷ [])) c.loop-name-test.true c.name-item.is;
  before = c.in_ok-string.ensures.room.0 ∙ c.loop-name.invariant.before;
  known = All-more IsName c.args.names.now c.loop-name.name-index c.name-item.result c.loop-name-test.true c.loop-name.invariant.known (subst IsName c.name-item.is c.text.ensures.valid);
}

pub returns-clause-tokens : goal.returns-clause-tokens
returns-clause-tokens c =
    let names = c.args.names.now in
    let mid = c.begin_array.new.self.tokens in
    closes c.end_array.result c.args.text.now.tokens (each string names) _ c.end_array.new.self.tokens begin_array end_array (array_is string names) c.in_ok-begin_array.ensures.ok
    (all_parts (λ name. data_tokens (string name)) mid names c.loop-name.name-index c.loop-name.invariant.tokens c.loop-name-test.false) c.end_array.ensures.ok

pub returns-clause-known : goal.returns-clause-known
returns-clause-known c = standing c.end_array.result (subst (All IsName) (take_all c.loop-name.name-index c.args.names.now c.loop-name-test.false) c.loop-name.invariant.known)
