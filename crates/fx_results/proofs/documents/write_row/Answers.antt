use Rattle.std.proofs.Common.{◌∙◌, ◌++◌, ◌∷◌, [], List, ℕ, ap, subst, All}
use Rattle.std.proofs.lemmas.List.{take_all}
use Rattle.std.proofs.lemmas.List.Elements.{All-more}
use Rattle.json.specs.Token.{begin_object, end_object, key}
use Rattle.fx_terms.specs.Terms.{IsTerm}
use Rattle.fx_terms.specs.declared.terms.Term.{Term}
use Rattle.fx_results.specs.Documents.{row_data, term_data}
use Rattle.fx_results.specs.Tokens.{data_tokens}
use Rattle.fx_results.proofs.TokenLemmas.{pair_tokens, pairs_tokens, row_is, closes, more, one_more, all_parts, standing}
use Rattle.fx_results.proofs.documents.write_row.Goals as goal

abbrev HasTerm : List ℕ × Term → Type 0
HasTerm e = IsTerm e.1

pub loop-pair-preserved : goal.loop-pair-preserved
loop-pair-preserved c =
    let pair = c.pair-item.result in
    let old = c.loop-pair.text.tokens in
    let named = c.in_ok-key.ensures.ok ∙ (λ j. old ++ key (c.text.ensures.value j) ∷ []) in
    record {
      tokens =
          one_more pair_tokens c.begin_object.new.self.tokens c.pairs-pairs.result.now c.loop-pair.pair-index pair c.loop-pair.invariant.tokens
          (more old (key pair.0 ∷ []) (data_tokens (term_data pair.1)) named c.in_ok-write_term.ensures.tokens) c.loop-pair-test.true c.pair-item.is;
      before = c.in_ok-write_term.ensures.before ∙ c.in_ok-key.ensures.room.0 ∙ c.loop-pair.invariant.before;
      known = All-more HasTerm c.pairs-pairs.result.now c.loop-pair.pair-index pair c.loop-pair-test.true c.loop-pair.invariant.known (subst HasTerm c.pair-item.is c.in_ok-write_term.ensures.known);
    }

pub returns-clause-tokens : goal.returns-clause-tokens
returns-clause-tokens c =
    let pairs = c.pairs-pairs.result.now in
    closes c.end_object.result c.args.text.now.tokens (pairs_tokens pairs) _ c.end_object.new.self.tokens begin_object end_object
    (row_is pairs ∙ ap (λ row. data_tokens (row_data row)) c.pairs-pairs.ensures.all) c.in_ok-begin_object.ensures.ok
    (all_parts pair_tokens c.begin_object.new.self.tokens pairs c.loop-pair.pair-index c.loop-pair.invariant.tokens c.loop-pair-test.false) c.end_object.ensures.ok

pub returns-clause-known : goal.returns-clause-known
returns-clause-known c =
    let whole = subst (All HasTerm) (take_all c.loop-pair.pair-index c.pairs-pairs.result.now c.loop-pair-test.false) c.loop-pair.invariant.known in
    standing c.end_object.result (record { rises = c.pairs-pairs.ensures.rises; terms = subst (All HasTerm) c.pairs-pairs.ensures.all whole })
