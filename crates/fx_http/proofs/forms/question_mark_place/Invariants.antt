use Rattle.std.proofs.Common.{◌≡◌, ◌+◌, drop}
use Rattle.std.specs.List.{position_or_len}
use Rattle.fx_http.specs.Forms.{is_question_mark}
use Rattle.fx_http.proofs.forms.question_mark_place.Given as goal

abbrev pub invariant-loop-b : goal.invariant-loop-b
invariant-loop-b l = record {
  here : l.place ≡ l.b-index;
  left : l.place + position_or_len is_question_mark (drop l.b-index l.target) ≡ position_or_len is_question_mark l.target;
}
