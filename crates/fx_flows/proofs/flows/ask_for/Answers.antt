use Rattle.std.proofs.Common.{sym, subst, ℕ, List, Ok, Err, All, Contains, IfOk, IsPermutation}
use Rattle.fx_terms.specs.declared.triples.Triple.{Triple}
use Rattle.fx_algebra.specs.Graphs.{union}
use Rattle.fx_algebra.specs.Units.{step}
use Rattle.fx_spelling.specs.Units.{IsSound}
use Rattle.fx_bound.specs.Answers.{numbers}
use Rattle.fx_founds.specs.declared.founds.Found.{Found}
use Rattle.fx_flows.specs.Flows.{AreToldOf, AskedMembers}
use Rattle.fx_flows.proofs.AskLemmas.{given, refused}
use Rattle.fx_flows.proofs.flows.ask_for.Goals as goal

pub united-requires : goal.united-requires
united-requires g c =
    subst (λ (v : List (List Found)). All (λ list. All (λ (f : Found). Contains (numbers c.args.forms.now.parts) f.branch) list) v) (sym c.as_slice.ensures.value) c.in-Ok.ensures.numbered

pub returns-in-Err : goal.returns-in-Err
returns-in-Err g c =
    let see = g.W.Wire.seen in
    let p = c.args.forms.now.parts in
    refused g.W.Wire.counts_alone (see c.args.wire.now) (see c.ask_members.new.wire) c.args.endpoints.now p c.in-Err.error
    (subst (λ (ms : List ℕ). AskedMembers g.W.Wire.counts_alone (see c.args.wire.now) (see c.ask_members.new.wire) c.args.endpoints.now p ms (Err c.in-Err.error)) c.requires.all c.in-Err.ensures)

pub returns-in-Ok : goal.returns-in-Ok
returns-in-Ok g c =
    let see = g.W.Wire.seen in
    let s = see c.args.wire.now in
    let t = see c.ask_members.new.wire in
    let es = c.args.endpoints.now in
    let p = c.args.forms.now.parts in
    let lists = c.in-Ok.lists.items in
    given g.W.Wire.counts_alone s t es p lists c.united.result
    (subst (λ (ms : List ℕ). AskedMembers g.W.Wire.counts_alone s t es p ms (Ok lists)) c.requires.all c.in-Ok.ensures)
    (subst (λ (v : List (List Found)). (graphs : List (List Triple)) → IsSound graphs p.unit → AreToldOf graphs p p.unit.members v → IfOk c.united.result (λ rows. IsPermutation rows.items (step (union graphs) p.unit p.rows))) c.as_slice.ensures.value c.united.ensures.step)
    c.united.ensures.memory

pub ask_members-requires-clause-sendable : goal.ask_members-requires-clause-sendable
ask_members-requires-clause-sendable g c = c.requires.sendable

pub ask_members-requires-clause-within : goal.ask_members-requires-clause-within
ask_members-requires-clause-within g c = c.requires.within
