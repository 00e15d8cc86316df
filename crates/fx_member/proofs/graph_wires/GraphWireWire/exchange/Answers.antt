use Rattle.std.proofs.Common.{◌≡◌, ◌∙◌, ◌+◌, ◌≤◌, ℕ, List, length, Option, Some, arith, subst}
use Rattle.std.specs.Prelude.{IfSome}
use Rattle.fx_terms.specs.Graphs.{IsGraph}
use Rattle.fx_terms.specs.declared.triples.Triple.{Triple}
use Rattle.fx_outside.specs.Faults.{IsOneMoreAt}
use Rattle.fx_outside.specs.NameCounts.{IsPlaceOf, count_of}
use Rattle.fx_outside.proofs.CountLemmas.{one_more_at}
use Rattle.fx_wire.specs.Honest.{IsHonest}
use Rattle.fx_member.specs.GraphWires.{graph_in, IsFrontServed}
use Rattle.fx_member.proofs.graph_wires.GraphWireWire.exchange.Goals as goal

pub returns-in_ok-keep-in-Ok-clause-honest : goal.returns-in_ok-keep-in-Ok-clause-honest
returns-in_ok-keep-in-Ok-clause-honest c =
    let reply = c.in-Ok.reply.items in
    let told : Some c.in-Some.store.now ≡ graph_in c.args.self.now c.args.at.now.iri = rw (c.as_slice.ensures.value, c.iri-2.ensures) at c.in-Some.ensures in
    let P : Option (List Triple) → Type 0 = λ o. IfSome o (λ graph. IsGraph graph × (length reply ≤ c.args.limit → IsHonest graph c.args.request.now reply)) in
    subst P told (c.in-Ok.ensures.graph, λ short. c.in-Ok.ensures.honest (omega arith))

pub returns-in_ok-keep-in-Ok-clause-given : goal.returns-in_ok-keep-in-Ok-clause-given
returns-in_ok-keep-in-Ok-clause-given c =
    let told : Some c.in-Some.store.now ≡ graph_in c.args.self.now c.args.at.now.iri = rw (c.as_slice.ensures.value, c.iri-2.ensures) at c.in-Some.ensures in
    let P : Option (List Triple) → Type 0 = λ o. IsFrontServed o c.args.request.now (c.args.limit + 1) c.in-Ok.reply.items in
    subst P told c.in-Ok.ensures.served

pub returns-in_default-clause-counted : goal.returns-in_default-clause-counted
returns-in_default-clause-counted c =
    λ _.
    let P : List ℕ → Type 0 = IsPlaceOf c.place.new.self c.in_ok-place.place in
    let address : c.text.result.now ≡ c.args.at.now.iri = c.text.ensures.value ∙ c.iri.ensures in
    let more : IsOneMoreAt c.args.at.now.iri (count_of c.args.self.now.faults) (count_of c.raise.new.self) =
    one_more_at _ _ _ (λ other. omega (arith, c.in_ok-place.ensures.same other, c.raise.ensures.raised c.args.at.now.iri (subst P address c.in_ok-place.ensures.found) other)) in
    more.here

pub returns-in_default-clause-others : goal.returns-in_default-clause-others
returns-in_default-clause-others c =
    let P : List ℕ → Type 0 = IsPlaceOf c.place.new.self c.in_ok-place.place in
    let address : c.text.result.now ≡ c.args.at.now.iri = c.text.ensures.value ∙ c.iri.ensures in
    let more : IsOneMoreAt c.args.at.now.iri (count_of c.args.self.now.faults) (count_of c.raise.new.self) =
    one_more_at _ _ _ (λ other. omega (arith, c.in_ok-place.ensures.same other, c.raise.ensures.raised c.args.at.now.iri (subst P address c.in_ok-place.ensures.found) other)) in
    more.elsewhere
