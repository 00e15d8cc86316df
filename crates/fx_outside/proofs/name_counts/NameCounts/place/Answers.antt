use Rattle.std.proofs.Common.{◌≡◌, ◌∙◌, ℕ, List, String, length, sym, arith, rules, lit<, nat_lt}
use Rattle.std.specs.List.{position_or_len}
use Rattle.std.specs.declared.alloc.Global.{Global}
use Rattle.std.proofs.lemmas.Option.{slice_get_read}
use Rattle.std.proofs.lemmas.Slice.Eq.{bytes_eq-Decides}
use Rattle.fx_outside.specs.NameCounts.{has_name}
use Rattle.fx_outside.proofs.CountLemmas.{found_at, none_found, count_in-push, place-push, get-last}
use Rattle.fx_outside.proofs.name_counts.NameCounts.place.Goals as goal

pub returns-in-Some-clause-found : goal.returns-in-Some-clause-found
returns-in-Some-clause-found c = (
  found_at (nat_lt (position_or_len (has_name c.args.name.now) c.args.self.now.counts.items) (length c.args.self.now.counts.items)) _ c.in-Some.place (sym (rw c.as_slice.ensures.value at c.first_place.ensures) ∙ c.in-Some.is),
  (c.index.result.now, search (rules, slice_get_read), omega arith),
)

pub returns-clause-same : goal.returns-clause-same
returns-clause-same c = λ other. rw c.in_ok-push.ensures.items (count_in-push c.args.self.now.counts.items c.in_ok-name.name other)

pub returns-clause-found : goal.returns-clause-found
returns-clause-found c =
    let items : List (String Global × ℕ) = c.args.self.now.counts.items in
    let last : c.len-place.result ≡ length items = search rules in
    let none : position_or_len (has_name c.args.name.now) items ≡ length items = none_found (has_name c.args.name.now) items (sym (rw c.as_slice.ensures.value at c.first_place.ensures) ∙ c.in_default.is) in
    rw (c.in_ok-push.ensures.items, last) (
      place-push items (c.in_ok-name.name, 0) c.args.name.now none ((bytes_eq-Decides _ _).1 c.in_ok-name.ensures.ok),
      ((c.in_ok-name.name, 0), get-last items (c.in_ok-name.name, 0), lit< tt),
    )
