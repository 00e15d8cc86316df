use Rattle.std.proofs.Common.{◌≡◌, ◌∙◌, [], map, refl, sym, subst, arith}
use Rattle.std.proofs.lemmas.List.Elements.{All-nil}
use Rattle.fx_flows.specs.Followed.{WireFlowed}
use Rattle.fx_flows.specs.Parcels.{IsParcelOf}
use Rattle.fx_flows.proofs.FollowLemmas.{at_rest, its_parcel, same_pass, unmoved, worked_on, worked_until}
use Rattle.fx_flows.proofs.following.work.Goals as goal

pub loop-init : goal.loop-init
loop-init g c =
    let view = c.args.me.now.me.view.client in
    let units = map g.U.Step.unit c.args.run.now.units.now in
    let see = g.W.Wire.seen c.args.wire.now in
    record {
      pass = c.requires.pass.0;
      same = (refl, refl);
      some_part = c.requires.pass.1;
      flowed =
          subst (WireFlowed g.W.Wire.counts_alone see see c.args.run.now.endpoints.now units c.args.run.now.shape view view [] [] []) (sym c.new-made.ensures.items)
          (at_rest g.W.Wire.counts_alone c.args.run.now.endpoints.now units c.args.run.now.shape see view view [] [] (unmoved g.W.Wire.counts_alone c.args.run.now.endpoints.now units c.args.run.now.shape view view [] refl));
      of_run = All-nil (IsParcelOf c.args.run.now.shape);
    }

pub follow-requires-clause-parcel : goal.follow-requires-clause-parcel
follow-requires-clause-parcel g c =
    let i = c.loop.invariant in
    its_parcel c.args.run.now.shape c.loop.in_hand c.args.waits c.loop.me.me.view.client c.next-in-loop.new.me.me.view.client c.in-Some-next.parcel
    (i.same.1 ∙ c.requires.shape) i.of_run c.in-Some-next.ensures.next

pub loop-preserved : goal.loop-preserved
loop-preserved g c =
    let i = c.loop.invariant in
    let see = g.W.Wire.seen in
    let units = map g.U.Step.unit c.args.run.now.units.now in
    let next = same_pass c.loop.in_hand c.args.waits c.loop.me.me.view.client c.next-in-loop.new.me.me.view.client c.in-Some-next.parcel c.in-Some-next.ensures.next in
    let then = c.in-Ok.ensures.pass.1 in
    let parts : c.follow.new.me.me.view.client.parts ≡ c.args.me.now.me.view.client.parts = then.0 ∙ next.0 ∙ i.same.0 in
    record {
      pass = c.in-Ok.ensures.pass.0;
      same = (parts, then.1 ∙ next.1 ∙ i.same.1);
      some_part = (let some = c.requires.pass.1 in omega (arith, parts, some));
      flowed =
          worked_on g.W.Wire.counts_alone c.args.run.now.endpoints.now units c.args.run.now.shape (see c.args.wire.now) (see c.loop.wire) (see c.follow.new.wire)
          c.args.me.now.me.view.client c.loop.me.me.view.client c.next-in-loop.new.me.me.view.client c.follow.new.me.me.view.client
          c.loop.in_hand c.args.waits c.loop.made.items c.follow.new.made.items c.in-Some-next.parcel i.flowed c.in-Some-next.ensures.next c.in-Ok.next c.in-Ok.ensures.followed;
      of_run = c.in-Ok.ensures.followed.ended.3;
    }

pub returns-in-Err-clause-flowed : goal.returns-in-Err-clause-flowed
returns-in-Err-clause-flowed g c =
    let i = c.loop.invariant in
    let see = g.W.Wire.seen in
    let units = map g.U.Step.unit c.args.run.now.units.now in
    worked_until g.W.Wire.counts_alone c.args.run.now.endpoints.now units c.args.run.now.shape (see c.args.wire.now) (see c.loop.wire) (see c.follow.new.wire)
    c.args.me.now.me.view.client c.loop.me.me.view.client c.next-in-loop.new.me.me.view.client c.follow.new.me.me.view.client
    c.loop.in_hand c.args.waits c.loop.made.items c.follow.new.made.items c.in-Some-next.parcel i.flowed c.in-Some-next.ensures.next c.in-Err.error c.in-Err.ensures.followed
