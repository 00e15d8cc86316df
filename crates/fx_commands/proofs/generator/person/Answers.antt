use Rattle.std.proofs.Common.{◌≡◌, ◌∙◌, ◌++◌, ap, arith, codes, List, ℕ, Ok, subst, sym}
use Rattle.std.specs.Fmt.{decimal}
use Rattle.fx_terms.specs.Iris.{read_iri}
use Rattle.fx_commands.proofs.GeneratorLemmas.{person_read}
use Rattle.fx_commands.proofs.generator.person.Goals as goal

pub known-requires : goal.known-requires
known-requires c =
    subst (λ (text : List ℕ). read_iri text ≡ Ok text)
    (sym (c.as_str.ensures.value ∙ c.in_ok-push_number.ensures ∙ ap (λ (front : List ℕ). front ++ decimal c.args.number) (c.in_ok-push_str.ensures.bytes ∙ ap (λ (front : List ℕ). front ++ codes "http://g/p") c.new-text.ensures.bytes)))
    (person_read c.args.number (omega arith))
