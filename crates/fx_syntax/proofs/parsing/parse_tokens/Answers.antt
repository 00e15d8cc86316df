use Rattle.std.proofs.Common.{List, ◌∙◌, subst}
use Rattle.fx_grammar.specs.declared.kinds.Token.{Token}
use Rattle.fx_grammar.specs.Grammar.{query}
use Rattle.fx_grammar.specs.Rule.{read_whole}
use Rattle.fx_readers.specs.Gives.{IsRefusal}
use Rattle.fx_syntax.proofs.ParsingLaws.{stands_within, fault_answers}
use Rattle.fx_syntax.proofs.parsing.parse_tokens.Goals as goal

pub fault_at-requires : goal.fault_at-requires
fault_at-requires c =
    stands_within c.args.text.now c.args.read.now c.in-Err.fault
    (subst (λ (ts : List Token). IsRefusal c.in-Err.fault (read_whole query ts)) (c.as_slice.ensures.value ∙ c.in_ok-said.ensures) c.in-Err.ensures)

pub returns : goal.returns
returns c =
    fault_answers c.args.text.now c.args.read.now c.in-Err.fault c.fault_at.result
    (subst (λ (ts : List Token). IsRefusal c.in-Err.fault (read_whole query ts)) (c.as_slice.ensures.value ∙ c.in_ok-said.ensures) c.in-Err.ensures) c.fault_at.ensures
