use Rattle.std.proofs.Common.{rules, ◌≡◌, ◌∙◌, ◌+◌, ◌++◌, ◌∷◌, [], ap, sym, subst, ℕ, List, Ok, get_or, take, drop, take-append-drop}
use Rattle.std.proofs.lemmas.List.{take_more}
use Rattle.fx_founds.specs.declared.founds.Found.{Found}
use Rattle.fx_flows.specs.Flows.{AskedMembers}
use Rattle.fx_flows.proofs.MembersLemmas.{asked_none, lost, one_more, stopped}
use Rattle.fx_flows.proofs.flows.ask_members.Goals as goal

pub loop-at-init : goal.loop-at-init
loop-at-init g c =
    let see = g.W.Wire.seen c.args.wire.now in
    subst (λ (v : List (List Found)). AskedMembers g.W.Wire.counts_alone see see c.args.endpoints.now c.args.forms.now.parts [] (Ok v)) (sym c.new-lists.ensures.items) (asked_none g.W.Wire.counts_alone see c.args.endpoints.now c.args.forms.now.parts)

pub returns-in-Err : goal.returns-in-Err
returns-in-Err g c =
    let see = g.W.Wire.seen in
    let ms = c.args.members.now in
    let k = c.loop-at.at-index in
    let m = get_or ms k 0 in
    let more : take (k + 1) ms ≡ take k ms ++ m ∷ [] = take_more ms k 0 c.loop-at-test.true in
    let whole : (take k ms ++ m ∷ []) ++ drop (k + 1) ms ≡ ms = ap (λ (v : List ℕ). v ++ drop (k + 1) ms) (sym more) ∙ take-append-drop (k + 1) ms in
    stopped g.W.Wire.counts_alone (see c.args.wire.now) (see c.loop-at.wire) (see c.ask_member.new.wire) c.args.endpoints.now c.args.forms.now.parts (take k ms) c.loop-at.lists.items m c.loop-at.invariant ms (drop (k + 1) ms) whole c.in-Err.error c.in-Err.ensures

pub returns-then-is_err : goal.returns-then-is_err
returns-then-is_err g c =
    let see = g.W.Wire.seen in
    let ms = c.args.members.now in
    let k = c.loop-at.at-index in
    let m = get_or ms k 0 in
    let more : take (k + 1) ms ≡ take k ms ++ m ∷ [] = take_more ms k 0 c.loop-at-test.true in
    let whole : (take k ms ++ m ∷ []) ++ drop (k + 1) ms ≡ ms = ap (λ (v : List ℕ). v ++ drop (k + 1) ms) (sym more) ∙ take-append-drop (k + 1) ms in
    lost g.W.Wire.counts_alone (see c.args.wire.now) (see c.loop-at.wire) (see c.ask_member.new.wire) c.args.endpoints.now c.args.forms.now.parts (take k ms) c.loop-at.lists.items m c.loop-at.invariant ms (drop (k + 1) ms) whole c.in-Ok.founds c.in-Ok.ensures

pub loop-at-preserved : goal.loop-at-preserved
loop-at-preserved g c =
    let see = g.W.Wire.seen in
    let ms = c.args.members.now in
    let k = c.loop-at.at-index in
    let m = get_or ms k 0 in
    let more : take (k + 1) ms ≡ take k ms ++ m ∷ [] = take_more ms k 0 c.loop-at-test.true in
    let pushed : c.push.new.self.items ≡ c.loop-at.lists.items ++ c.in-Ok.founds ∷ [] = search rules in
    subst (λ (v : List (List Found)). AskedMembers g.W.Wire.counts_alone (see c.args.wire.now) (see c.ask_member.new.wire) c.args.endpoints.now c.args.forms.now.parts (take (k + 1) ms) (Ok v)) (sym pushed)
    (subst (λ (v : List ℕ). AskedMembers g.W.Wire.counts_alone (see c.args.wire.now) (see c.ask_member.new.wire) c.args.endpoints.now c.args.forms.now.parts v (Ok (c.loop-at.lists.items ++ c.in-Ok.founds ∷ []))) (sym more)
    (one_more g.W.Wire.counts_alone (see c.args.wire.now) (see c.loop-at.wire) (see c.ask_member.new.wire) c.args.endpoints.now c.args.forms.now.parts (take k ms) c.loop-at.lists.items m c.loop-at.invariant c.in-Ok.founds c.in-Ok.ensures))

pub ask_member-requires-clause-sendable : goal.ask_member-requires-clause-sendable
ask_member-requires-clause-sendable g c = c.requires.sendable

pub ask_member-requires-clause-within : goal.ask_member-requires-clause-within
ask_member-requires-clause-within g c = c.requires.within c.loop-at.at-index 0 c.loop-at-test.true
