use Rattle.std.proofs.Common.{◌≡◌, drop, slice_get}
use Rattle.std.specs.List.{list_any}
use Rattle.fx_flows.specs.Forms.{takes_form}
use Rattle.fx_flows.proofs.forms.is_wanted.Given as goal

-- what is left decides
abbrev pub invariant-loop-at : goal.invariant-loop-at
invariant-loop-at l =
    list_any (λ at. takes_form l.values (slice_get l.endpoints at)) (drop l.at-index l.members) ≡ list_any (λ at. takes_form l.values (slice_get l.endpoints at)) l.members
