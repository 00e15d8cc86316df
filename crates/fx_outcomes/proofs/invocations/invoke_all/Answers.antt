use Rattle.std.proofs.Common.{◌≡◌, ◌∙◌, ◌++◌, ap, sym, subst, List, None, Some, IfOk, length, map}
use Rattle.fx_services.specs.Beside.{AllInvoked, AreServable, AreSettled, Occurrence}
use Rattle.fx_outcomes.specs.Calls.{occurrences}
use Rattle.fx_outcomes.proofs.CallLemmas.{are_many, lost_called}
use Rattle.fx_outcomes.proofs.InvocationLemmas.{invoked_so, not_invoked}
use Rattle.fx_outcomes.proofs.KnownLemmas.{occurrences_servable}
use Rattle.fx_outcomes.proofs.invocations.invoke_all.Goals as goal

pub returns-in-Err : goal.returns-in-Err
returns-in-Err g c = not_invoked g.W.Wire.tells_log g.W.Wire.counts_alone (map g.W.Wire.seen c.args.wires.now) c.args.registry.now (occurrences c.args.query.now)

pub ask_services-requires-clause-servable : goal.ask_services-requires-clause-servable
ask_services-requires-clause-servable g c =
    let q = c.args.query.now in
    let all : c.as_slice.result.now ≡ occurrences q = c.as_slice.ensures.value ∙ c.in-Ok.ensures ∙ ap (λ (v : List Occurrence). v ++ occurrences q) c.new-found.ensures.items in
    subst AreServable (sym all) (occurrences_servable c.requires.spellable.0 q c.requires.spellable.1)

pub returns-in-Err-ask_services : goal.returns-in-Err-ask_services
returns-in-Err-ask_services g c =
    let see = g.W.Wire.seen in
    let q = c.args.query.now in
    let all : c.as_slice.result.now ≡ occurrences q = c.as_slice.ensures.value ∙ c.in-Ok.ensures ∙ ap (λ (v : List Occurrence). v ++ occurrences q) c.new-found.ensures.items in
    lost_called g.W.Wire.tells_log g.W.Wire.counts_alone (map see c.args.wires.now) (map see c.ask_services.new.wires) c.args.registry.now (occurrences q)
    (subst (λ (v : List Occurrence). AllInvoked g.W.Wire.tells_log g.W.Wire.counts_alone (map see c.args.wires.now) (map see c.ask_services.new.wires) c.args.registry.now v None) all c.in-Err-ask_services.ensures)

pub settle-requires : goal.settle-requires
settle-requires g c =
    let see = g.W.Wire.seen in
    let invoked = c.in-Ok-ask_services.ensures in
    are_many (map see c.args.wires.now) (map see c.ask_services.new.wires) c.args.registry.now c.as_slice.result.now c.in-Ok-ask_services.came.items invoked.in_turn invoked.come_to
    ∙ ap length (c.as_slice.ensures.value ∙ sym c.as_slice-in-Ok-ask_services.ensures.value)

pub returns : goal.returns
returns g c =
    let see = g.W.Wire.seen in
    let q = c.args.query.now in
    let all : c.as_slice.result.now ≡ occurrences q = c.as_slice.ensures.value ∙ c.in-Ok.ensures ∙ ap (λ (v : List Occurrence). v ++ occurrences q) c.new-found.ensures.items in
    let same : c.as_slice-in-Ok-ask_services.result.now ≡ occurrences q = c.as_slice-in-Ok-ask_services.ensures.value ∙ c.in-Ok.ensures ∙ ap (λ (v : List Occurrence). v ++ occurrences q) c.new-found.ensures.items in
    invoked_so g.W.Wire.tells_log g.W.Wire.counts_alone (map see c.args.wires.now) (map see c.ask_services.new.wires) c.args.registry.now (occurrences q) c.in-Ok-ask_services.came.items c.settle.result
    (subst (λ (v : List Occurrence). AllInvoked g.W.Wire.tells_log g.W.Wire.counts_alone (map see c.args.wires.now) (map see c.ask_services.new.wires) c.args.registry.now v (Some c.in-Ok-ask_services.came.items)) all c.in-Ok-ask_services.ensures)
    (subst (λ (v : List Occurrence). IfOk c.settle.result (AreSettled v c.in-Ok-ask_services.came.items)) same c.settle.ensures)
