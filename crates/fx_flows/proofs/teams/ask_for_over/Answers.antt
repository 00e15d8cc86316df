use denote.Param.Send.{sendable}
use Rattle.std.proofs.Common.{map, sym, subst, ℕ, List, Ok, Err, All, Contains, IfOk, IsPermutation}
use Rattle.fx_terms.specs.declared.triples.Triple.{Triple}
use Rattle.fx_algebra.specs.Graphs.{union}
use Rattle.fx_algebra.specs.Units.{step}
use Rattle.fx_spelling.specs.Units.{IsSound}
use Rattle.fx_bound.specs.Answers.{numbers}
use Rattle.fx_founds.specs.declared.founds.Found.{Found}
use Rattle.fx_flows.specs.Flows.{AreToldOf}
use Rattle.fx_flows.specs.Teams.{MembersAsked}
use Rattle.fx_flows.proofs.ShareLemmas.{forms_are_shared}
use Rattle.fx_flows.proofs.TeamLemmas.{batch_given, batch_refused}
use Rattle.fx_flows.proofs.teams.ask_for_over.Goals as goal

pub united-requires : goal.united-requires
united-requires g c =
    subst (λ (v : List (List Found)). All (λ list. All (λ (f : Found). Contains (numbers c.args.forms.now.parts) f.branch) list) v) (sym c.as_slice.ensures.value) c.in-Ok.ensures.numbered

pub returns-in-Err : goal.returns-in-Err
returns-in-Err g c =
    let tells = g.W.Wire.tells_log in
    let alone = g.W.Wire.counts_alone in
    let s = map g.W.Wire.seen c.args.wires.now in
    let t = map g.W.Wire.seen c.ask_over.new.wires in
    let p = c.args.forms.now.parts in
    batch_refused tells alone s t c.args.endpoints.now p c.in-Err.error
    (subst (λ (ms : List ℕ). MembersAsked tells alone s t c.args.endpoints.now p ms (Err c.in-Err.error)) c.requires.all c.in-Err.ensures)

pub returns-in-Ok : goal.returns-in-Ok
returns-in-Ok g c =
    let tells = g.W.Wire.tells_log in
    let alone = g.W.Wire.counts_alone in
    let s = map g.W.Wire.seen c.args.wires.now in
    let t = map g.W.Wire.seen c.ask_over.new.wires in
    let es = c.args.endpoints.now in
    let p = c.args.forms.now.parts in
    let lists = c.in-Ok.lists.items in
    batch_given tells alone s t es p lists c.united.result
    (subst (λ (ms : List ℕ). MembersAsked tells alone s t es p ms (Ok lists)) c.requires.all c.in-Ok.ensures)
    (subst (λ (v : List (List Found)). (graphs : List (List Triple)) → IsSound graphs p.unit → AreToldOf graphs p p.unit.members v → IfOk c.united.result (λ rows. IsPermutation rows.items (step (union graphs) p.unit p.rows))) c.as_slice.ensures.value c.united.ensures.step)
    c.united.ensures.memory

pub ask_over-requires-sync-F : goal.ask_over-requires-sync-F
ask_over-requires-sync-F g c κs within = search (sendable, forms_are_shared) depth 20
