use Rattle.std.proofs.Common.{◌≡◌, ℕ, List, OnOk, string_bytes, subst}
use Rattle.std.specs.List.{flat_map}
use Rattle.fx_algebra.specs.Printed.{pattern_words}
use Rattle.fx_renaming.specs.Branches.{bound_pattern}
use Rattle.fx_bound.specs.Reading.{named}
use Rattle.fx_bound.specs.Sent.{check_words, filter_words}
use Rattle.fx_bound.proofs.BatchTextLemmas.{three}
use Rattle.fx_bound.proofs.texts.push_elements.Goals as goal

pub returns : goal.returns
returns c =
    let b = c.args.branch.now in
    let rename : List ℕ → List ℕ = named c.args.names.now b.number in
    let patterns = flat_map (λ p. pattern_words (bound_pattern rename b.row.solution p)) c.args.unit.now.patterns in
    subst (λ (w : List ℕ). OnOk c.push_check.result (string_bytes c.push_check.new.text ≡ w))
    (three (string_bytes c.args.text.now) (string_bytes c.push_patterns.new.text) (string_bytes c.push_filters.new.text) patterns (filter_words rename b.row.solution c.args.unit.now.filters) (check_words b.checked)
    (rw (← c.as_slice.ensures) c.in_ok-push_patterns.ensures) (rw (← c.as_slice-2.ensures) c.in_ok-push_filters.ensures))
    c.push_check.ensures
