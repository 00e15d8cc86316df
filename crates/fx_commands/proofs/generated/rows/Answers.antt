use Rattle.std.proofs.Common.{true, [], ◌∷◌, refl, subst, sym}
use Rattle.std.specs.Prelude.{All}
use Rattle.fx_member.specs.GraphWires.{faults_in, graph_in, log_in}
use Rattle.fx_member.specs.declared.graph_wires.GraphWire.{GraphWire}
use Rattle.fx_wire.specs.Exchanges.{Seen}
use Rattle.fx_commands.specs.GeneratorSteps.{IsOver}
use Rattle.fx_commands.proofs.GeneratorLemmas.{all_told}
use Rattle.fx_commands.proofs.generated.rows.Goals as goal

pub returns-in-Ok : goal.returns-in-Ok
returns-in-Ok g c = λ first second third is.
    let see : GraphWire → Seen = λ w. record { tells_log = true; log = log_in w; graph = graph_in w; faults = faults_in w } in
    c.in-Ok.ensures.counted (first ∷ second ∷ third ∷ [])
    (all_told see (λ w address. refl) c.args.members.now first second third is c.as_mut_slice.result.now (subst (All (IsOver c.args.members.now)) (sym c.as_mut_slice.ensures.value) c.in_ok-wires.ensures.over))
