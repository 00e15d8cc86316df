use Rattle.std.proofs.Common.{◌≡◌, ◌∙◌, ◌++◌, ap, subst, sym}
use Rattle.std.specs.Str.{IsUtf8}
use Rattle.json.specs.Print.{print}
use Rattle.serde_json.proofs.Texts.{print-outline}
use Rattle.fx_results.specs.Documents.{answer_data}
use Rattle.fx_results.specs.Meanings.{Denotes}
use Rattle.fx_results.specs.Reading.{read_results}
use Rattle.fx_results.specs.Tokens.{data_tokens}
use Rattle.fx_results.proofs.BackLemmas.{reads_back, denotes_itself}
use Rattle.fx_results.proofs.KnownLemmas.{known_is}
use Rattle.fx_results.proofs.documents.write.Goals as goal

-- the bytes are the print of the tokens
printed : (c : goal.After-into_inner) → c.into_inner.result.items ≡ print c.write_answer.new.text.tokens
printed c = c.into_inner.ensures.items ∙ ap (λ b. b ++ print c.write_answer.new.text.tokens) (c.in_ok-write_answer.ensures.before ∙ c.new-text.ensures.before ∙ c.new.ensures.items)

pub returns-clause-document : goal.returns-clause-document
returns-clause-document c =
    let d = answer_data c.args.answer.now in
    printed c ∙ ap print (c.in_ok-write_answer.ensures.tokens ∙ ap (λ old. old ++ data_tokens d) c.new-text.ensures.tokens) ∙ print-outline d

pub returns-clause-utf8 : goal.returns-clause-utf8
returns-clause-utf8 c = subst IsUtf8 (sym (printed c)) c.into_inner.ensures.utf8

pub returns-clause-back : goal.returns-clause-back
returns-clause-back c = λ h.
    let whole = returns-clause-document c in
    ap read_results whole ∙ reads_back c.args.answer.now (known_is c.args.answer.now c.in_ok-write_answer.ensures.known h) (subst IsUtf8 whole (returns-clause-utf8 c))

pub returns-clause-means : goal.returns-clause-means
returns-clause-means c = λ h.
    let whole = returns-clause-document c in
    subst (λ b. Denotes b c.args.answer.now) (sym whole)
    (denotes_itself c.args.answer.now (known_is c.args.answer.now c.in_ok-write_answer.ensures.known h) (subst IsUtf8 whole (returns-clause-utf8 c)))
