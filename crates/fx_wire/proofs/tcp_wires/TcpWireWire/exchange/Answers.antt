use Rattle.std.proofs.Common.{◌≡◌, ◌∙◌, List, ℕ, arith, subst}
use Rattle.fx_outside.specs.Faults.{IsOneMoreAt}
use Rattle.fx_outside.specs.NameCounts.{IsPlaceOf, count_of}
use Rattle.fx_outside.proofs.CountLemmas.{one_more_at}
use Rattle.fx_wire.proofs.tcp_wires.TcpWireWire.exchange.Goals as goal

pub returns-in-Err-Failed-clause-counted : goal.returns-in-Err-Failed-clause-counted
returns-in-Err-Failed-clause-counted g c =
    λ _.
    let P : List ℕ → Type 0 = IsPlaceOf c.place.new.self c.in_ok-place.place in
    let address : c.text.result.now ≡ c.args.at.now.iri = c.text.ensures.value ∙ c.iri.ensures in
    let more : IsOneMoreAt c.args.at.now.iri (count_of c.args.self.now.faults) (count_of c.raise.new.self) =
    one_more_at _ _ _ (λ other. omega (arith, c.in_ok-place.ensures.same other, c.raise.ensures.raised c.args.at.now.iri (subst P address c.in_ok-place.ensures.found) other)) in
    more.here

pub returns-in-Err-Failed-clause-others : goal.returns-in-Err-Failed-clause-others
returns-in-Err-Failed-clause-others g c =
    let P : List ℕ → Type 0 = IsPlaceOf c.place.new.self c.in_ok-place.place in
    let address : c.text.result.now ≡ c.args.at.now.iri = c.text.ensures.value ∙ c.iri.ensures in
    let more : IsOneMoreAt c.args.at.now.iri (count_of c.args.self.now.faults) (count_of c.raise.new.self) =
    one_more_at _ _ _ (λ other. omega (arith, c.in_ok-place.ensures.same other, c.raise.ensures.raised c.args.at.now.iri (subst P address c.in_ok-place.ensures.found) other)) in
    more.elsewhere

pub returns-in-Err-Failed-clause-kept : goal.returns-in-Err-Failed-clause-kept
returns-in-Err-Failed-clause-kept g c = λ other. omega (arith, c.in_ok-place.ensures.same other, c.raise.ensures.kept other)
