use Rattle.std.proofs.Common.{◌≡◌, true}
use Rattle.fx_algebra.specs.Worths.{is_good_form}
use Rattle.fx_expr.proofs.NumberLemmas.{form_of_good}
use Rattle.fx_expr.proofs.worths.integer_truth.Goals as goal

pub number_in_range-requires : goal.number_in_range-requires
number_in_range-requires c =
    let good : is_good_form c.args.kind c.args.form.now ≡ true = cc in
    form_of_good c.args.kind c.args.form.now good
