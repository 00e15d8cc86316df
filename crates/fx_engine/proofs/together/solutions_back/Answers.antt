use Rattle.std.proofs.Common.{rules, ◌≡◌, ◌∙◌, ◌+◌, ◌++◌, ◌∷◌, [], ap, length, arith}
use Rattle.std.proofs.lemmas.List.{length-append}
use Rattle.fx_steps.specs.Steps.{solutions_of}
use Rattle.fx_engine.proofs.FoundLemmas.{popped}
use Rattle.fx_engine.proofs.together.solutions_back.Goals as goal

pub loop-preserved : goal.loop-preserved
loop-preserved c =
    let pushed : c.push.new.self.items ≡ c.loop.rows.items ++ c.in-Some.row.solution ∷ [] = search rules in
    let parts : c.loop.left ≡ c.pop.new.self ++ c.in-Some.row ∷ [] = c.in-Some.ensures in
    let long : length c.loop.left ≡ length c.pop.new.self + 1 = ap length parts ∙ length-append c.pop.new.self (c.in-Some.row ∷ []) in
    record {
      same = popped c.loop.rows.items c.push.new.self.items c.loop.left c.pop.new.self c.in-Some.row (solutions_of c.args.found) parts pushed c.loop.invariant.same;
      count = omega (arith, long, c.loop.invariant.count);
    }
