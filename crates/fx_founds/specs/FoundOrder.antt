-- The order of what was found: by branch, and then as solutions.
use Rattle.std.specs.declared.cmp.Ordering.{Ordering}
use Rattle.std.specs.Cmp.{IsTotalOrder}
use Rattle.std.specs.Ordering.{nat_cmp, on, then_cmp}
use Rattle.std.proofs.lemmas.Cmp.{then_total, on_total, nat_cmp_total}
use Rattle.fx_algebra.specs.Solutions.{solution_cmp, solutions_total}
use Rattle.fx_founds.specs.declared.founds.Found.{Found}

abbrev pub found_cmp : Found → Found → Ordering
found_cmp = then_cmp (on (λ f. f.branch) nat_cmp) (on (λ f. f.solution) solution_cmp)

pub founds_total : IsTotalOrder found_cmp
founds_total = then_total (on_total (λ f. f.branch) nat_cmp_total) (on_total (λ f. f.solution) solutions_total)
