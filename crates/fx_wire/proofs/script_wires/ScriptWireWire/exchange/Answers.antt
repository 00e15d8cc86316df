use Rattle.std.proofs.Common.{◌≡◌, ◌∙◌, ◌+◌, List, ℕ, take, None, Some, position, option_map, ap, sym, refl, arith, subst}
use Rattle.std.proofs.lemmas.Option.{slice_get_read}
use Rattle.fx_outside.specs.Faults.{IsOneMoreAt}
use Rattle.fx_outside.specs.NameCounts.{IsPlaceOf, count_of}
use Rattle.fx_outside.proofs.CountLemmas.{one_more_at}
use Rattle.fx_wire.specs.Scripts.{is_for}
use Rattle.fx_wire.proofs.ScriptLemmas.{take_least, none_left, next_left, rest_left, others_left}
use Rattle.fx_wire.proofs.script_wires.ScriptWireWire.exchange.Goals as goal

pub returns-in_default-clause-counted : goal.returns-in_default-clause-counted
returns-in_default-clause-counted c =
    λ _.
    let P : List ℕ → Type 0 = IsPlaceOf c.place.new.self c.in_ok-place.place in
    let address : c.text.result.now ≡ c.args.at.now.iri = c.text.ensures.value ∙ c.iri.ensures in
    let more : IsOneMoreAt c.args.at.now.iri (count_of c.args.self.now.faults) (count_of c.raise.new.self) =
    one_more_at _ _ _ (λ other. omega (arith, c.in_ok-place.ensures.same other, c.raise.ensures.raised c.args.at.now.iri (subst P address c.in_ok-place.ensures.found) other)) in
    more.here

pub returns-in_default-clause-others : goal.returns-in_default-clause-others
returns-in_default-clause-others c =
    let P : List ℕ → Type 0 = IsPlaceOf c.place.new.self c.in_ok-place.place in
    let address : c.text.result.now ≡ c.args.at.now.iri = c.text.ensures.value ∙ c.iri.ensures in
    let more : IsOneMoreAt c.args.at.now.iri (count_of c.args.self.now.faults) (count_of c.raise.new.self) =
    one_more_at _ _ _ (λ other. omega (arith, c.in_ok-place.ensures.same other, c.raise.ensures.raised c.args.at.now.iri (subst P address c.in_ok-place.ensures.found) other)) in
    more.elsewhere

pub returns-in_default-clause-kept : goal.returns-in_default-clause-kept
returns-in_default-clause-kept c = λ other. omega (arith, c.in_ok-place.ensures.same other, c.raise.ensures.kept other)

pub returns-in_default-clause-refused : goal.returns-in_default-clause-refused
returns-in_default-clause-refused c =
    λ _.
    let at : position (is_for c.args.at.now.iri) c.args.self.now.replies.items ≡ None = sym (rw (c.as_slice.ensures.value, c.iri-2.ensures) at c.in_default.ensures.place) in
    ap (option_map (take (c.args.limit + 1))) (none_left c.args.self.now.replies.items c.args.at.now.iri at)

pub returns-clause-given : goal.returns-clause-given
returns-clause-given c =
    let replies = c.args.self.now.replies.items in
    let address = c.args.at.now.iri in
    let i = c.in-Some.next in
    let at : position (is_for address) replies ≡ Some i = sym (rw (c.as_slice.ensures.value, c.iri-2.ensures) at c.in-Some.ensures.place) in
    let within = rw c.as_slice.ensures.value at c.in-Some.ensures.within in
    let found = slice_get_read replies _ i c.index.result.now refl within c.index.ensures in
    let front : c.in_ok-reply.reply.items ≡ take (c.args.limit + 1) c.index.result.now.1.items = c.in_ok-reply.ensures.items ∙ take_least _ _ c.as_slice-whole.result.now c.min.ensures ∙ ap (take (c.args.limit + 1)) c.as_slice-whole.ensures.value in
    ap (option_map (take (c.args.limit + 1))) (next_left replies address i at within c.index.result.now found) ∙ ap Some (sym front)

pub returns-clause-taken : goal.returns-clause-taken
returns-clause-taken c =
    let replies = c.args.self.now.replies.items in
    let address = c.args.at.now.iri in
    let i = c.in-Some.next in
    let at : position (is_for address) replies ≡ Some i = sym (rw (c.as_slice.ensures.value, c.iri-2.ensures) at c.in-Some.ensures.place) in
    let within = rw c.as_slice.ensures.value at c.in-Some.ensures.within in
    let taken = rest_left replies address i at within in
    let others = others_left replies address i at within in
    record { taken = rw c.remove.ensures.items taken; others = λ other apart. rw c.remove.ensures.items (others other apart); faultless = c.in_ok-place.ensures.same }
