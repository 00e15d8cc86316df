use Rattle.std.proofs.Common.{◌∙◌, ap, sym, subst, ℕ, List, Some, String, Global, string_bytes}
use Rattle.std.specs.Option.{option_map}
use Rattle.fx_values.specs.Parts.{IsValues, text_of}
use Rattle.fx_values.proofs.BlockTextLemmas.{text_accepted}
use Rattle.fx_values.proofs.batches.ValuesBatch.text.Goals as goal

pub returns-in-Some-clause-accepted : goal.returns-in-Some-clause-accepted
returns-in-Some-clause-accepted c =
    text_accepted c.args.self.now c.as_str.result.now (subst IsValues c.self.view_is c.self.invariant.known)
    (ap (λ (v : List ℕ). Some v) c.as_str.ensures.value
    ∙ sym (ap (option_map (λ (t : String Global). string_bytes t)) c.in-Some.is)
    ∙ c.self.invariant.text_is
    ∙ ap text_of c.self.view_is)
