use Rattle.std.proofs.Common.{◌∙◌, ap, ℕ, List, true, false, slice_get}
use Rattle.std.specs.List.{list_any}
use Rattle.fx_flows.specs.Forms.{takes_form}
use Rattle.fx_flows.proofs.FormLemmas.{all_formed}
use Rattle.fx_flows.proofs.forms.Forms.of.Goals as goal

pub invariant_of-result : goal.invariant_of-result
invariant_of-result c = record { rising = c.known_rows.ensures; plain_is = c.in_ok-plain.ensures.batch; block_is = c.in_ok-block.ensures.batch }

pub returns-clause-asked : goal.returns-clause-asked
returns-clause-asked c =
    let es = c.args.endpoints.now in
    all_formed es _ c.args.unit.now.members c.requires.within
    (c.in_ok-plain.ensures.wanted ∙ c.is_wanted.ensures ∙ ap (λ (ms : List ℕ). list_any (λ at. takes_form false (slice_get es at)) ms) c.as_slice-members.ensures)
    (c.in_ok-block.ensures.wanted ∙ c.is_wanted-2.ensures ∙ ap (λ (ms : List ℕ). list_any (λ at. takes_form true (slice_get es at)) ms) c.as_slice-members.ensures)
