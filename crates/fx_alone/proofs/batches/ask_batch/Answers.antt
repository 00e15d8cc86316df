use Rattle.std.proofs.Common.{◌<◌, ℕ, map, subst, sym}
use Rattle.std.proofs.lemmas.List.{length-map}
use Rattle.fx_bound.specs.Parts.{Parts}
use Rattle.fx_flows.specs.Flows.{rows_in}
use Rattle.fx_flows.proofs.TeamStepLemmas.{step_of_one}
use Rattle.fx_alone.proofs.BatchLemmas.{first_batch}
use Rattle.fx_alone.proofs.batches.ask_batch.Goals as goal

pub returns : goal.returns
returns g c =
    let see = g.W.Wire.seen in
    let wires = c.args.wires.now in
    let p : Parts = record { unit = c.args.unit.now; rows = c.args.rows.now } in
    let r = rows_in c.ask.result in
    let asked = first_batch see g.W.Wire.tells_log g.W.Wire.counts_alone wires c.index-wires-0.result c.ask.new.wire c.args.endpoints.now p r g.met.W.Wire.told c.requires.wired c.ask.ensures in
    let some = subst (λ (n : ℕ). 0 < n) (sym (length-map wires see)) c.requires.wired in
    step_of_one g.W.Wire.tells_log g.W.Wire.counts_alone (map see wires) _ c.args.endpoints.now c.args.unit.now c.args.rows.now r some asked
