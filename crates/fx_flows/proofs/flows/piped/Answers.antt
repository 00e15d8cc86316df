use Rattle.std.proofs.Common.{◌≡◌, ◌<◌, ap, sym, subst, map, length, List, All}
use Rattle.std.proofs.lemmas.List.{map-id}
use Rattle.fx_algebra.specs.declared.units.Unit as unit
use Rattle.fx_spelling.specs.Units.{IsFit}
use Rattle.fx_flows.specs.Flows.{rows_in}
use Rattle.fx_flows.specs.Followed.{CanFollow}
use Rattle.fx_flows.specs.RunFlows.{RunFlowed}
use Rattle.fx_flows.proofs.FlowLemmas.{not_flowed}
use Rattle.fx_flows.proofs.flows.piped.Goals as goal

pub returns-in_default : goal.returns-in_default
returns-in_default g c = λ rows cut. not_flowed g.W.Wire.tells_log g.W.Wire.counts_alone (map g.W.Wire.seen c.args.wires.now) c.args.endpoints.now c.args.units.now c.args.block rows

-- the units of the run are its steps
pub all_rows-found-requires-clause-run : goal.all_rows-found-requires-clause-run
all_rows-found-requires-clause-run g c =
    let units = c.args.units.now in
    let same : map (λ (u : unit.Unit). u) units ≡ units = map-id units in
    let run : CanFollow c.args.endpoints.now (map (λ (u : unit.Unit). u) units) (record { units = length units; block = c.args.block }) = record {
      units = sym (ap length same);
      positive = c.requires.block.0;
      most = c.requires.block.1;
      sendable = c.requires.sendable;
      fit = subst (All IsFit) (sym same) c.requires.fit;
      within = subst (All (λ (u : unit.Unit). All (λ at. at < length c.args.endpoints.now) u.members)) (sym same) c.requires.within;
    } in
    λ κs within. run

pub returns : goal.returns
returns g c = λ rows cut.
    subst (λ (us : List unit.Unit). RunFlowed g.W.Wire.tells_log g.W.Wire.counts_alone (map g.W.Wire.seen c.args.wires.now) (map g.W.Wire.seen c.all_rows-found.new.wires) c.args.endpoints.now us c.args.block rows (rows_in c.all_rows-found.result))
    (map-id c.args.units.now) (c.all_rows-found.ensures rows cut)
