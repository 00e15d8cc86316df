use Rattle.std.proofs.Common.{◌∙◌, [], ◌∷◌, ap, arith, length, length-append, subst, sym}
use Rattle.std.specs.Prelude.{All}
use Rattle.std.proofs.lemmas.List.Elements.{All-nil, All-push}
use Rattle.fx_commands.specs.GeneratorSteps.{IsOver}
use Rattle.fx_commands.proofs.generated.wires.Goals as goal

pub loop-number-init : goal.loop-number-init
loop-number-init c = (ap length c.new-wires.ensures.items, subst (All (IsOver c.args.members.now)) (sym c.new-wires.ensures.items) (All-nil (IsOver c.args.members.now)))

pub loop-number-preserved : goal.loop-number-preserved
loop-number-preserved c = (
  ap length c.in_ok-push.ensures.items ∙ omega (arith, length-append c.loop-number.wires.items (c.in_ok-wire.field-0 ∷ []), c.loop-number.invariant.0),
  subst (All (IsOver c.args.members.now)) (sym c.in_ok-push.ensures.items) (All-push (IsOver c.args.members.now) c.loop-number.wires.items c.in_ok-wire.field-0 c.loop-number.invariant.1 c.in_ok-wire.ensures),
)

pub returns-clause-many : goal.returns-clause-many
returns-clause-many c = omega (arith, c.loop-number.invariant.0, c.loop-number-test.false, c.loop-number.auto._number-end)

pub returns-clause-over : goal.returns-clause-over
returns-clause-over c = c.loop-number.invariant.1
