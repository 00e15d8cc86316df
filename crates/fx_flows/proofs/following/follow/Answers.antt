use Rattle.std.proofs.Common.{◌≡◌, ◌<◌, List, Ok, Err, map, length, refl, subst, All, arith}
use Rattle.std.proofs.lemmas.List.{length-map}
use Rattle.std.proofs.lemmas.List.Elements.{All-contains}
use Rattle.fx_terms.proofs.SetLemmas.{contains_from}
use Rattle.fx_algebra.specs.declared.units.Unit as unit
use Rattle.fx_algebra.specs.declared.units.Row.{Row}
use Rattle.fx_spelling.specs.Units.{IsFit}
use Rattle.fx_flows.specs.Flows.{AskedBatch}
use Rattle.fx_flows.specs.declared.parcels.RunShape.{RunShape}
use Rattle.fx_flows.specs.declared.parcels.Parcel.{Parcel}
use Rattle.fx_flows.proofs.FlowLemmas.{its_among}
use Rattle.fx_flows.proofs.FollowLemmas.{followed_lost, followed_on, followed_refused}
use Rattle.fx_pool.proofs.WorkLemmas.{read_made}
use Rattle.fx_flows.proofs.following.follow.Goals as goal

-- the unit of a parcel is one of the run
below : {U : Type 0} (unit_of : U → unit.Unit) (units : List U) (c : RunShape) (p : Parcel) → c.units ≡ length (map unit_of units) → p.step < c.units → p.step < length units
below unit_of units c p long step = let same = length-map units unit_of in omega (arith, long, step, same)

pub ask-requires-clause-fit : goal.ask-requires-clause-fit
ask-requires-clause-fit g c =
    let units = map g.U.Step.unit c.args.run.now.units.now in
    let u = g.U.Step.unit c.index-units-parcel.result in
    let at = read_made g.U.Step.unit c.args.run.now.units.now c.args.parcel.step c.index-units-parcel.result (below g.U.Step.unit c.args.run.now.units.now c.args.run.now.shape c.args.parcel c.requires.run.units c.requires.parcel.below) c.index-units-parcel.is in
    All-contains IsFit units u c.requires.run.fit (contains_from units u (its_among units c.args.parcel.step u at))

pub ask-requires-clause-within : goal.ask-requires-clause-within
ask-requires-clause-within g c =
    let units = map g.U.Step.unit c.args.run.now.units.now in
    let u = g.U.Step.unit c.index-units-parcel.result in
    let at = read_made g.U.Step.unit c.args.run.now.units.now c.args.parcel.step c.index-units-parcel.result (below g.U.Step.unit c.args.run.now.units.now c.args.run.now.shape c.args.parcel c.requires.run.units c.requires.parcel.below) c.index-units-parcel.is in
    All-contains (λ (v : unit.Unit). All (λ at'. at' < length c.args.run.now.endpoints.now) v.members) units u c.requires.run.within (contains_from units u (its_among units c.args.parcel.step u at))

pub returns-in-Err-clause-followed : goal.returns-in-Err-clause-followed
returns-in-Err-clause-followed g c =
    let see = g.W.Wire.seen in
    let units = map g.U.Step.unit c.args.run.now.units.now in
    let u = g.U.Step.unit c.index-units-parcel.result in
    let p = c.args.parcel in
    let at = read_made g.U.Step.unit c.args.run.now.units.now p.step c.index-units-parcel.result (below g.U.Step.unit c.args.run.now.units.now c.args.run.now.shape p c.requires.run.units c.requires.parcel.below) c.index-units-parcel.is in
    let asked = subst (λ (v : List Row). AskedBatch g.W.Wire.counts_alone (see c.args.wire.now) (see c.ask.new.wire) c.args.run.now.endpoints.now (record { unit = u; rows = v }) (Err c.in-Err.error)) c.as_slice.ensures c.in-Err.ensures in
    followed_refused g.W.Wire.counts_alone c.args.run.now.endpoints.now units c.args.run.now.shape (see c.args.wire.now) (see c.ask.new.wire) p c.requires.parcel u at (contains_from units u (its_among units p.step u at))
    c.args.me.now.me.view.client c.args.me.now.me.view.client c.args.made.now.items c.args.made.now.items c.in-Err.error asked refl

pub returns-in-Ok-pass_on-clause-followed : goal.returns-in-Ok-pass_on-clause-followed
returns-in-Ok-pass_on-clause-followed g c =
    let see = g.W.Wire.seen in
    let units = map g.U.Step.unit c.args.run.now.units.now in
    let u = g.U.Step.unit c.index-units-parcel.result in
    let p = c.args.parcel in
    let at = read_made g.U.Step.unit c.args.run.now.units.now p.step c.index-units-parcel.result (below g.U.Step.unit c.args.run.now.units.now c.args.run.now.shape p c.requires.run.units c.requires.parcel.below) c.index-units-parcel.is in
    let asked = subst (λ (v : List Row). AskedBatch g.W.Wire.counts_alone (see c.args.wire.now) (see c.ask.new.wire) c.args.run.now.endpoints.now (record { unit = u; rows = v }) (Ok c.in-Ok.found.items)) c.as_slice.ensures c.in-Ok.ensures in
    followed_on g.W.Wire.counts_alone c.args.run.now.endpoints.now units c.args.run.now.shape (see c.args.wire.now) (see c.ask.new.wire) p c.requires.parcel u at (contains_from units u (its_among units p.step u at))
    c.args.me.now.me.view.client c.pass_on.new.me.me.view.client c.args.made.now.items c.pass_on.new.made.items c.in-Ok.found.items c.in-Ok-pass_on.next asked c.in-Ok-pass_on.ensures.passed

pub returns-clause-followed : goal.returns-clause-followed
returns-clause-followed g c =
    let see = g.W.Wire.seen in
    let units = map g.U.Step.unit c.args.run.now.units.now in
    let u = g.U.Step.unit c.index-units-parcel.result in
    let p = c.args.parcel in
    let at = read_made g.U.Step.unit c.args.run.now.units.now p.step c.index-units-parcel.result (below g.U.Step.unit c.args.run.now.units.now c.args.run.now.shape p c.requires.run.units c.requires.parcel.below) c.index-units-parcel.is in
    let asked = subst (λ (v : List Row). AskedBatch g.W.Wire.counts_alone (see c.args.wire.now) (see c.ask.new.wire) c.args.run.now.endpoints.now (record { unit = u; rows = v }) (Ok c.in-Ok.found.items)) c.as_slice.ensures c.in-Ok.ensures in
    followed_lost g.W.Wire.counts_alone c.args.run.now.endpoints.now units c.args.run.now.shape (see c.args.wire.now) (see c.ask.new.wire) p c.requires.parcel u at (contains_from units u (its_among units p.step u at))
    c.args.me.now.me.view.client c.pass_on.new.me.me.view.client c.args.made.now.items c.pass_on.new.made.items c.in-Ok.found.items c.in-Err-pass_on.field-0 asked c.in-Err-pass_on.ensures.passed

pub ask-requires-clause-sendable : goal.ask-requires-clause-sendable
ask-requires-clause-sendable g c = c.requires.run.sendable
