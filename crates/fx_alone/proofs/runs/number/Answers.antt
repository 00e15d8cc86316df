use Rattle.std.proofs.Common.{rules, ◌≡◌, ◌∙◌, ◌+◌, ◌++◌, ◌∷◌, [], ap, sym, ℕ, List, length, take, arith}
use Rattle.std.proofs.lemmas.List.{take_more}
use Rattle.fx_algebra.specs.Solutions.{Bindings}
use Rattle.fx_algebra.specs.Units.{row_of}
use Rattle.fx_algebra.specs.declared.units.Row.{Row}
use Rattle.fx_steps.specs.Steps.{numbered}
use Rattle.fx_flows.proofs.FlowLemmas.{numbered_length, numbered_more}
use Rattle.fx_alone.proofs.runs.number.Goals as goal

pub loop-solution-preserved : goal.loop-solution-preserved
loop-solution-preserved c =
    let ss = c.args.solutions.now in
    let k = c.loop-solution.solution-index in
    let s = c.solution-item.result in
    let rows = c.loop-solution.rows.items in
    let so : rows ≡ numbered 0 (take k ss) = c.loop-solution.invariant in
    let long : length rows ≡ 0 + length (take k ss) = ap length so ∙ numbered_length 0 (take k ss) ∙ omega arith in
    let more : take (k + 1) ss ≡ take k ss ++ s ∷ [] = take_more ss k s c.loop-solution-test.true ∙ ap (λ (v : Bindings). take k ss ++ v ∷ []) (sym c.solution-item.is) in
    let pushed : c.push.new.self.items ≡ rows ++ row_of (length rows) s ∷ [] = search rules in
    pushed ∙ ap (λ (v : List Row). v ++ row_of (length rows) s ∷ []) so ∙ ap (λ (n : ℕ). numbered 0 (take k ss) ++ row_of n s ∷ []) long ∙ sym (numbered_more 0 (take k ss) s) ∙ ap (numbered 0) (sym more)
