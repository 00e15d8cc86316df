use Rattle.std.proofs.Common.{rules, sym, subst, List, Bool, map, refl}
use Rattle.fx_outcomes.specs.Rounds.{AreStillKept}
use Rattle.fx_engine.proofs.AskedLemmas.{all_tell}
use Rattle.fx_engine.proofs.LoopLemmas.{all_left_within, fewer_kept, none_abandoned, one_more, over_abandoned, over_given, over_stopped, still_kept, went_unnoted}
use Rattle.fx_outcomes.specs.InRounds.{plan_over}
use Rattle.fx_engine.proofs.rounds.in_rounds.Goals as goal

pub loop-error-init : goal.loop-error-init
loop-error-init g c =
    let s = map g.W.Wire.seen c.args.wires.now in
    let es = c.args.question.now.registry.now in
    let q = c.args.question.now.query.now in
    record {
      still = λ at m. subst (λ (v : List Bool). AreStillKept v c.args.answers.now.kept.items) (sym c.requires.all) (λ n k. k) at m;
      rounds = none_abandoned g.W.Wire.tells_log g.W.Wire.counts_alone es q (plan_over es q c.args.cache.now c.args.answers.now) c.args.question.now.block s c.args.answers.now.kept.items c.args.kept.items c.new-rounds.result.items c.requires.all c.new-rounds.ensures.items;
    }

pub returns-in-Err : goal.returns-in-Err
returns-in-Err g c =
    let see = g.W.Wire.seen in
    over_stopped g.W.Wire.tells_log g.W.Wire.counts_alone c.args.question.now c.args.cache.now c.args.answers.now (map see c.args.wires.now) (map see c.loop-error.wires) (map see c.round.new.wires) c.args.answers.now.kept.items c.loop-error.kept.items c.as_slice.result.now c.loop-error.rounds.items c.loop-error.invariant.rounds
    c.as_slice.ensures.value (all_tell see g.W.Wire.tells_log g.met.W.Wire.told c.loop-error.wires) c.requires.spellable.0 c.requires.spellable.1 c.in-Err.error c.in-Err.ensures

pub returns-in-Ok-Answered : goal.returns-in-Ok-Answered
returns-in-Ok-Answered g c =
    let see = g.W.Wire.seen in
    over_given g.W.Wire.tells_log g.W.Wire.counts_alone c.args.question.now c.args.cache.now c.args.answers.now (map see c.args.wires.now) (map see c.loop-error.wires) (map see c.round.new.wires) c.args.answers.now.kept.items c.loop-error.kept.items c.as_slice.result.now c.loop-error.rounds.items c.loop-error.invariant.rounds
    c.as_slice.ensures.value c.in-Ok-Answered.field-0 c.in-Ok-Answered.ensures c.in-Ok-Answered.outcome c.in-Ok-Answered.field-0-is _ refl c.from_vec.ensures

pub abandon-requires : goal.abandon-requires
abandon-requires g c =
    let see = g.W.Wire.seen in
    let both =
    over_abandoned g.W.Wire.tells_log g.W.Wire.counts_alone c.args.question.now c.args.cache.now c.args.answers.now (map see c.args.wires.now) (map see c.loop-error.wires) (map see c.round.new.wires) c.args.answers.now.kept.items c.loop-error.kept.items c.as_slice.result.now c.loop-error.rounds.items c.loop-error.invariant.rounds
    c.as_slice.ensures.value c.in-Ok-Abandoned.field-0 c.in-Ok-Abandoned.ensures c.in-Ok-Abandoned.round c.in-Ok-Abandoned.field-0-is in
    all_left_within c.args.question.now.registry.now c.loop-error.kept.items c.in-Ok-Abandoned.round.left both.1

pub returns-then-is_err : goal.returns-then-is_err
returns-then-is_err g c =
    let see = g.W.Wire.seen in
    let es = c.args.question.now.registry.now in
    let q = c.args.question.now.query.now in
    let both =
    over_abandoned g.W.Wire.tells_log g.W.Wire.counts_alone c.args.question.now c.args.cache.now c.args.answers.now (map see c.args.wires.now) (map see c.loop-error.wires) (map see c.round.new.wires) c.args.answers.now.kept.items c.loop-error.kept.items c.as_slice.result.now c.loop-error.rounds.items c.loop-error.invariant.rounds
    c.as_slice.ensures.value c.in-Ok-Abandoned.field-0 c.in-Ok-Abandoned.ensures c.in-Ok-Abandoned.round c.in-Ok-Abandoned.field-0-is in
    went_unnoted g.W.Wire.tells_log g.W.Wire.counts_alone es q (plan_over es q c.args.cache.now c.args.answers.now) c.args.question.now.block (map see c.args.wires.now) (map see c.loop-error.wires) (map see c.round.new.wires) c.args.answers.now.kept.items c.loop-error.kept.items c.loop-error.rounds.items c.loop-error.invariant.rounds
    c.in-Ok-Abandoned.round both.0

pub loop-error-smaller : goal.loop-error-smaller
loop-error-smaller g c =
    let see = g.W.Wire.seen in
    let es = c.args.question.now.registry.now in
    let q = c.args.question.now.query.now in
    let both =
    over_abandoned g.W.Wire.tells_log g.W.Wire.counts_alone c.args.question.now c.args.cache.now c.args.answers.now (map see c.args.wires.now) (map see c.loop-error.wires) (map see c.round.new.wires) c.args.answers.now.kept.items c.loop-error.kept.items c.as_slice.result.now c.loop-error.rounds.items c.loop-error.invariant.rounds
    c.as_slice.ensures.value c.in-Ok-Abandoned.field-0 c.in-Ok-Abandoned.ensures c.in-Ok-Abandoned.round c.in-Ok-Abandoned.field-0-is in
    fewer_kept g.W.Wire.tells_log g.W.Wire.counts_alone (map see c.loop-error.wires) (map see c.round.new.wires) es q (plan_over es q c.args.cache.now c.args.answers.now c.loop-error.kept.items) c.args.question.now.block c.loop-error.kept.items c.abandon.new.kept.items c.in-Ok-Abandoned.round both.0 both.1
    (search rules)

pub loop-error-preserved : goal.loop-error-preserved
loop-error-preserved g c =
    let see = g.W.Wire.seen in
    let es = c.args.question.now.registry.now in
    let q = c.args.question.now.query.now in
    let both =
    over_abandoned g.W.Wire.tells_log g.W.Wire.counts_alone c.args.question.now c.args.cache.now c.args.answers.now (map see c.args.wires.now) (map see c.loop-error.wires) (map see c.round.new.wires) c.args.answers.now.kept.items c.loop-error.kept.items c.as_slice.result.now c.loop-error.rounds.items c.loop-error.invariant.rounds
    c.as_slice.ensures.value c.in-Ok-Abandoned.field-0 c.in-Ok-Abandoned.ensures c.in-Ok-Abandoned.round c.in-Ok-Abandoned.field-0-is in
    record {
      still = still_kept c.in-Ok-Abandoned.round.left c.loop-error.kept.items c.abandon.new.kept.items c.args.answers.now.kept.items (search rules) c.loop-error.invariant.still;
      rounds =
          one_more g.W.Wire.tells_log g.W.Wire.counts_alone es q (plan_over es q c.args.cache.now c.args.answers.now) c.args.question.now.block (map see c.args.wires.now) (map see c.loop-error.wires) (map see c.round.new.wires) c.args.answers.now.kept.items c.loop-error.kept.items c.abandon.new.kept.items c.loop-error.rounds.items
          c.abandon.new.rounds.items c.in-Ok-Abandoned.round c.loop-error.invariant.rounds both.0 both.1 (search rules) (search rules);
    }
