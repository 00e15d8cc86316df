use Rattle.std.proofs.Common.{IsTrue, subst, sym, ◌∙◌, ap}
use Rattle.fx_algebra.specs.Solutions.{Bindings, rises}
use Rattle.fx_values.specs.Sent.{with_told}
use Rattle.fx_values.proofs.SentLemmas.{sent_rises}
use Rattle.fx_values.proofs.tellings.with_told.Goals as goal

pub of_rising-requires : goal.of_rising-requires
of_rising-requires c =
    subst (λ (s : Bindings). IsTrue (rises s)) (ap (λ (row : Bindings). with_told c.args.sent.now row c.args.told.now) (sym c.pairs.ensures.all) ∙ sym c.in_ok-pairs.ensures)
    (sent_rises c.args.sent.now c.args.row.now c.args.told.now c.pairs.ensures.rises)
