use Rattle.std.proofs.Common.{◌≡◌, ◌∙◌, sym, subst, List, length, map, Result, Err, All}
use Rattle.std.proofs.lemmas.List.Elements.{All-from_recursion, recursion_from_All}
use Rattle.fx_algebra.specs.declared.units.Row.{Row}
use Rattle.fx_algebra.specs.declared.units.Unit as unit
use Rattle.fx_flows.specs.declared.flows.FlowError.{FlowError}
use Rattle.fx_flows.specs.declared.flows.FlowError.TheVariants as flow
use Rattle.fx_side_by_side.specs.SideBySide.{CanAsk, RunsFlowed}
use Rattle.fx_engine.specs.RowsAsked.{CanBeAsked}
use Rattle.fx_engine.specs.Together.{TasksDue, TasksGiven, founds_by, founds_in, runs_in}
use Rattle.fx_engine.specs.declared.rows.RowsError.TheVariants as rows_error
use Rattle.fx_engine.proofs.AskedLemmas.{unasked}
use Rattle.fx_engine.proofs.FoundLemmas.{lacking}
use Rattle.fx_engine.proofs.SharedLemmas.{all_can, asked_together, nothing_due}
use Rattle.fx_engine.proofs.together.rows_together.Goals as goal

pub returns-in-Err : goal.returns-in-Err
returns-in-Err g c = λ tasks front.
    unasked g.W.Wire.tells_log g.W.Wire.counts_alone c.args.walk.now.endpoints.now tasks c.args.walk.now.block (TasksGiven c.args.walk.now.endpoints.now c.args.walk.now.block c.args.its.now) (TasksDue c.args.walk.now.endpoints.now c.args.walk.now.block c.args.its.now) (map g.W.Wire.seen c.args.wires.now)
    (λ graphs. nothing_due c.args.walk.now.endpoints.now c.args.walk.now.block graphs c.args.its.now)

pub run_side_by_side-requires-clause-runs : goal.run_side_by_side-requires-clause-runs
run_side_by_side-requires-clause-runs g c =
    let count = length c.args.walk.now.endpoints.now in
    let its = c.args.its.now in
    let all : All (CanAsk count) (runs_in its) = All-from_recursion (CanAsk count) (runs_in its) (all_can count its (recursion_from_All (CanBeAsked count) its c.requires.asked)) in
    subst (All (CanAsk count)) (sym (c.as_slice.ensures.value ∙ c.in-Ok.ensures)) all

pub returns-in-Err-run_side_by_side : goal.returns-in-Err-run_side_by_side
returns-in-Err-run_side_by_side g c = λ tasks front.
    let its = c.args.its.now in
    let results = c.run_side_by_side.ensures.results in
    let s = map g.W.Wire.seen c.args.wires.now in
    let t = map g.W.Wire.seen c.run_side_by_side.new.wires in
    let flowed : RunsFlowed g.W.Wire.tells_log g.W.Wire.counts_alone s t c.args.walk.now.endpoints.now (runs_in its) c.args.walk.now.block results =
    subst (λ (v : List (List unit.Unit)). RunsFlowed g.W.Wire.tells_log g.W.Wire.counts_alone s t c.args.walk.now.endpoints.now v c.args.walk.now.block results) (c.as_slice.ensures.value ∙ c.in-Ok.ensures) c.run_side_by_side.ensures.flowed in
    asked_together g.W.Wire.tells_log g.W.Wire.counts_alone s t c.args.walk.now.endpoints.now c.args.walk.now.block tasks its c.requires.asked front results flowed (Err (rows_error.Flow flow.Memory)) (lacking (founds_by its results))

pub returns : goal.returns
returns g c = λ tasks front.
    let its = c.args.its.now in
    let results = c.run_side_by_side.ensures.results in
    let s = map g.W.Wire.seen c.args.wires.now in
    let t = map g.W.Wire.seen c.run_side_by_side.new.wires in
    let flowed : RunsFlowed g.W.Wire.tells_log g.W.Wire.counts_alone s t c.args.walk.now.endpoints.now (runs_in its) c.args.walk.now.block results =
    subst (λ (v : List (List unit.Unit)). RunsFlowed g.W.Wire.tells_log g.W.Wire.counts_alone s t c.args.walk.now.endpoints.now v c.args.walk.now.block results) (c.as_slice.ensures.value ∙ c.in-Ok.ensures) c.run_side_by_side.ensures.flowed in
    let same : c.in-Ok-run_side_by_side.results.items ≡ c.in-Ok-run_side_by_side.ensures.results = c.in-Ok-run_side_by_side.ensures.given in
    let own : RunsFlowed g.W.Wire.tells_log g.W.Wire.counts_alone s t c.args.walk.now.endpoints.now (runs_in its) c.args.walk.now.block c.in-Ok-run_side_by_side.results.items =
    subst (λ (v : List (Result (List Row) FlowError)). RunsFlowed g.W.Wire.tells_log g.W.Wire.counts_alone s t c.args.walk.now.endpoints.now (runs_in its) c.args.walk.now.block v) (sym same)
    (subst (λ (v : List (List unit.Unit)). RunsFlowed g.W.Wire.tells_log g.W.Wire.counts_alone s t c.args.walk.now.endpoints.now v c.args.walk.now.block c.in-Ok-run_side_by_side.ensures.results) (c.as_slice.ensures.value ∙ c.in-Ok.ensures) c.in-Ok-run_side_by_side.ensures.flowed) in
    asked_together g.W.Wire.tells_log g.W.Wire.counts_alone s t c.args.walk.now.endpoints.now c.args.walk.now.block tasks its c.requires.asked front c.in-Ok-run_side_by_side.results.items own (founds_in c.founds_of.result) c.founds_of.ensures
