use Rattle.std.proofs.Common.{◌≡◌, ◌∙◌, ◌+◌, ◌≤◌, ℕ, List, length, arith, ap, sym, subst}
use Rattle.std.specs.Prelude.{IfOk, IfSome}
use Rattle.fx_outside.specs.Faults.{IsOneMoreAt}
use Rattle.fx_outside.specs.NameCounts.{IsPlaceOf, count_of}
use Rattle.fx_outside.specs.declared.name_counts.NameCounts.{NameCounts}
use Rattle.fx_outside.proofs.CountLemmas.{one_more_at}
use Rattle.fx_terms.specs.Graphs.{IsGraph}
use Rattle.fx_wire.specs.Honest.{IsHonest}
use Rattle.fx_member.specs.GraphWires.{graph_in, faults_in}
use Rattle.fx_member.specs.declared.graph_wires.GraphWire.{GraphWire}
use Rattle.fx_member.proofs.fault_wires.FaultWireWire.exchange.Goals as goal

pub raise-requires : goal.raise-requires
raise-requires c =
    let P : NameCounts → Type 0 = λ counts. IsPlaceOf counts c.in_ok-place.place c.text.result.now in
    (c.text.result.now, subst P (sym c.counts_a_failure.ensures.faults) c.in_ok-place.ensures.found)

pub returns-clause-honest : goal.returns-clause-honest
returns-clause-honest c =
    let P : GraphWire → Type 0 = λ wire. IfOk c.exchange.result (λ reply. IfSome (graph_in wire c.args.at.now.iri) (λ told. IsGraph told × (length reply.items ≤ c.args.limit → IsHonest told c.args.request.now reply.items))) in
    subst P c.counts_a_failure.ensures.wire c.exchange.ensures.honest

pub returns-then-branch-clause-counted : goal.returns-then-branch-clause-counted
returns-then-branch-clause-counted c =
    λ _.
    let address = c.args.at.now.iri in
    let P : NameCounts → Type 0 = λ counts. IsPlaceOf counts c.in_ok-place.place address in
    let Q : List ℕ → Type 0 = IsPlaceOf c.place.new.self c.in_ok-place.place in
    let named : c.text.result.now ≡ address = c.text.ensures.value ∙ c.iri.ensures in
    let found = subst P (sym c.counts_a_failure.ensures.faults) (subst Q named c.in_ok-place.ensures.found) in
    let before : List ℕ → ℕ = λ other. count_of c.args.self.now.faults other + faults_in c.args.self.now.wire other in
    let after : List ℕ → ℕ = λ other. count_of c.raise.new.self other + faults_in c.counts_a_failure.new.self.wire other in
    let more : IsOneMoreAt address before after =
    one_more_at address before after
    (λ other.
    let own = ap (λ (counts : NameCounts). count_of counts other) c.counts_a_failure.ensures.faults in
    let inner = ap (λ (wire : GraphWire). faults_in wire other) c.counts_a_failure.ensures.wire in
    omega (arith, c.in_ok-place.ensures.same other, own, inner, c.raise.ensures.raised address found other)) in
    more.here

pub returns-then-branch-clause-others : goal.returns-then-branch-clause-others
returns-then-branch-clause-others c =
    let address = c.args.at.now.iri in
    let P : NameCounts → Type 0 = λ counts. IsPlaceOf counts c.in_ok-place.place address in
    let Q : List ℕ → Type 0 = IsPlaceOf c.place.new.self c.in_ok-place.place in
    let named : c.text.result.now ≡ address = c.text.ensures.value ∙ c.iri.ensures in
    let found = subst P (sym c.counts_a_failure.ensures.faults) (subst Q named c.in_ok-place.ensures.found) in
    let before : List ℕ → ℕ = λ other. count_of c.args.self.now.faults other + faults_in c.args.self.now.wire other in
    let after : List ℕ → ℕ = λ other. count_of c.raise.new.self other + faults_in c.counts_a_failure.new.self.wire other in
    let more : IsOneMoreAt address before after =
    one_more_at address before after
    (λ other.
    let own = ap (λ (counts : NameCounts). count_of counts other) c.counts_a_failure.ensures.faults in
    let inner = ap (λ (wire : GraphWire). faults_in wire other) c.counts_a_failure.ensures.wire in
    omega (arith, c.in_ok-place.ensures.same other, own, inner, c.raise.ensures.raised address found other)) in
    more.elsewhere
