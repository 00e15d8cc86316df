use Rattle.std.proofs.Common.{◌∙◌, map, subst, sym}
use Rattle.fx_algebra.specs.declared.queries.Query.{Query}
use Rattle.fx_grammar.specs.Accepted.{IsSpellable}
use Rattle.fx_pool.proofs.WireLemmas.{after_itself}
use Rattle.fx_traffic.specs.Gains.{wires_seen}
use Rattle.fx_commands.specs.MemberSteps.{IsAnswered}
use Rattle.fx_commands.proofs.CountingLemmas.{query_spellable}
use Rattle.fx_commands.proofs.counting.over.Goals as goal

pub outcome-requires-clause-spellable : goal.outcome-requires-clause-spellable
outcome-requires-clause-spellable g c = λ lifetimes outlive. subst IsSpellable (sym (c.get.ensures ∙ c.in-Ok.ensures)) query_spellable

pub returns-in-Ok-clause-answered : goal.returns-in-Ok-clause-answered
returns-in-Ok-clause-answered g c =
    let w = wires_seen g.W.Wire.tells_log g.W.Wire.counts_alone g.W.Wire.seen c.args.wires.now c.outcome.new.wires in
    subst (λ (q : Query). IsAnswered w c.args.members.now q 15 c.outcome.result) (c.get.ensures ∙ c.in-Ok.ensures) c.outcome.ensures.answered

pub returns-in-Err-clause-wired : goal.returns-in-Err-clause-wired
returns-in-Err-clause-wired g c = after_itself (map g.W.Wire.seen c.args.wires.now)
