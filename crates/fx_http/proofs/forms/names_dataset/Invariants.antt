use Rattle.std.proofs.Common.{◌≡◌, ℕ, List}
use Rattle.std.specs.List.{list_any}
use Rattle.form_urlencoded.specs.Form.{raw_pairs}
use Rattle.form_urlencoded.specs.Parse.{raw_pairs_left}
use Rattle.fx_http.specs.Forms.{is_dataset_name}
use Rattle.fx_http.proofs.forms.names_dataset.Given as goal

-- what is left decides
abbrev pub invariant-loop-name : goal.invariant-loop-name
invariant-loop-name l = record {
  next : (goal.iterator-loop-name).can_next l.name-iterator;
  finite : (goal.iterator-loop-name).is_finite l.name-iterator;
  left : list_any (λ (pair : List ℕ × List ℕ). is_dataset_name pair.0) (raw_pairs_left l.name-iterator) ≡ list_any (λ (pair : List ℕ × List ℕ). is_dataset_name pair.0) (raw_pairs l.form);
}
