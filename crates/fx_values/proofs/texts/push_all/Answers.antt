use Rattle.std.proofs.Common.{◌≡◌, ℕ, List, [], ◌∷◌, OnOk, codes, string_bytes, subst}
use Rattle.fx_algebra.specs.Printed.{fixed}
use Rattle.fx_values.specs.Sent.{block_words, head_words}
use Rattle.fx_values.specs.Texts.{unit_words}
use Rattle.fx_values.proofs.BlockTextLemmas.{four}
use Rattle.fx_values.proofs.texts.push_all.Goals as goal

pub returns : goal.returns
returns c =
    subst (λ (w : List ℕ). OnOk c.push_fixed.result (string_bytes c.push_fixed.new.text ≡ w))
    (four (string_bytes c.args.text.now) (string_bytes c.push_head.new.text) (string_bytes c.push_block.new.text) (string_bytes c.push_unit.new.text) (head_words c.args.columns.now) (block_words c.args.names.now c.args.columns.now c.args.rows.now) (unit_words c.args.names.now c.args.unit.now) (fixed (codes "}") ∷ [])
    c.in_ok-push_head.ensures c.in_ok-push_block.ensures c.in_ok-push_unit.ensures)
    c.push_fixed.ensures
