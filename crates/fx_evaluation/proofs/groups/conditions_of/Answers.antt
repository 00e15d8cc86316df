use Rattle.std.proofs.Common.{◌∙◌, ap}
use Rattle.fx_algebra.specs.Conditions.{holds}
use Rattle.fx_evaluation.proofs.groups.conditions_of.Goals as goal

pub returns : goal.returns
returns c = record {
  same = λ graphs down s. c.in_ok-conditions.ensures.same s ∙ ap (λ es. holds es s) (c.as_slice.ensures.value ∙ c.in_ok-filters.ensures.same graphs down);
}
