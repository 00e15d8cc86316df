use Rattle.std.proofs.Common.{◌≡◌}
use Rattle.std.specs.Option.{option_copied}
use Rattle.form_urlencoded.specs.Form.{raw_pairs}
use Rattle.form_urlencoded.specs.Parse.{raw_pairs_left}
use Rattle.fx_http.specs.Requests as request
use Rattle.fx_http.proofs.FormLemmas.{onward, query_values}
use Rattle.fx_http.proofs.forms.only_query.Given as goal

-- the value so far and what is left decide
abbrev pub invariant-loop-name : goal.invariant-loop-name
invariant-loop-name l = record {
  next : (goal.iterator-loop-name).can_next l.name-iterator;
  finite : (goal.iterator-loop-name).is_finite l.name-iterator;
  left : request.only_query (onward (option_copied l.found) (query_values (raw_pairs_left l.name-iterator))) ≡ request.only_query (query_values (raw_pairs l.form));
}
