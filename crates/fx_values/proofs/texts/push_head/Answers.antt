use Rattle.std.proofs.Common.{◌≡◌, ℕ, List, OnOk, string_bytes, subst}
use Rattle.fx_values.specs.Sent.{column_words}
use Rattle.fx_values.proofs.BlockTextLemmas.{head}
use Rattle.fx_values.proofs.texts.push_head.Goals as goal

pub returns : goal.returns
returns c =
    subst (λ (w : List ℕ). OnOk c.push_fixed-4.result (string_bytes c.push_fixed-4.new.text ≡ w))
    (head (string_bytes c.args.text.now) (string_bytes c.push_fixed.new.text) (string_bytes c.push_columns.new.text) (string_bytes c.push_fixed-2.new.text) (string_bytes c.push_fixed-3.new.text) (column_words c.args.columns.now)
    c.in_ok-push_fixed.ensures c.in_ok-push_columns.ensures c.in_ok-push_fixed-2.ensures c.in_ok-push_fixed-3.ensures)
    c.push_fixed-4.ensures
