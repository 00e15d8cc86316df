use Rattle.std.proofs.Common.{refl, sym, subst, List, ℕ}
use Rattle.fx_wire.specs.Honest.{IsHonest}
use Rattle.fx_member.specs.Served.{IsServed}
use Rattle.fx_member.proofs.graph_wires.front_of_reply.Goals as goal

pub returns-clause-honest : goal.returns-clause-honest
returns-clause-honest c =
    let graph = c.args.store.now in
    let front = c.in_ok-front.front.items in
    λ short. subst (λ (bytes : List ℕ). IsHonest graph c.args.request.now bytes) (sym (c.in_ok-front.ensures.whole short))
    (subst (λ (request : List ℕ). IsHonest graph request c.in_ok-whole.whole.bytes.items) c.in_ok-link.ensures (c.in_ok-whole.ensures.honest refl))

pub returns-clause-served : goal.returns-clause-served
returns-clause-served c =
    let whole = c.in_ok-whole.whole in
    record {
      graph = c.args.store.now;
      is_told = refl;
      status = whole.status;
      whole = whole.bytes.items;
      served = subst (λ (request : List ℕ). IsServed c.args.store.now request whole.status whole.bytes.items) c.in_ok-link.ensures (c.in_ok-whole.ensures.served refl);
      front = c.in_ok-front.ensures.front;
    }
