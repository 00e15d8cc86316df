use Rattle.std.proofs.Common.{map, refl, sym, inl, inr, ◌∙◌}
use Rattle.fx_outcomes.specs.declared.federated.FedError.TheVariants as fed
use Rattle.fx_engine.proofs.InRoundsLemmas.{unasked_in_rounds}
use Rattle.fx_engine.proofs.mediator.federate_by.Goals as goal

pub returns-in-Err : goal.returns-in-Err
returns-in-Err g c = unasked_in_rounds g.W.Wire.tells_log g.W.Wire.counts_alone (map g.W.Wire.seen c.args.wires.now) c.args.registry.now c.args.query.now c.args.cache.now c.args.options.block fed.Memory tt (inl refl)

pub returns-in-Ok-Some : goal.returns-in-Ok-Some
returns-in-Ok-Some g c =
    unasked_in_rounds g.W.Wire.tells_log g.W.Wire.counts_alone (map g.W.Wire.seen c.args.wires.now) c.args.registry.now c.args.query.now c.args.cache.now c.args.options.block (fed.UnknownService c.in-Ok-Some.iri)
    (sym c.in-Ok-Some.ensures ∙ c.in-Ok-Some.field-0-is) (inr (c.in-Ok-Some.iri, refl))
