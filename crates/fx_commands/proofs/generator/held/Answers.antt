use Rattle.std.proofs.Common.{◌≡◌, ◌∙◌, ◌++◌, ℕ, List, ap, arith, sym}
use Rattle.std.specs.List.{flat_map, range_with_len}
use Rattle.fx_terms.specs.declared.triples.Triple.{Triple}
use Rattle.fx_commands.specs.Generator.{held_of}
use Rattle.fx_commands.proofs.GeneratorLemmas.{held_more}
use Rattle.fx_commands.proofs.generator.held.Goals as goal

pub loop-number-preserved : goal.loop-number-preserved
loop-number-preserved c =
    c.in_ok-push_held.ensures
    ∙ ap (λ (l : List Triple). l ++ held_of c.args.size c.args.member c.loop-number.number) c.loop-number.invariant
    ∙ sym (held_more (held_of c.args.size c.args.member) c.loop-number.number)

pub returns : goal.returns
returns c =
    let end : c.loop-number.number ≡ c.args.size = omega (arith, c.loop-number-test.false, c.loop-number.auto.number-end) in
    c.loop-number.invariant ∙ ap (λ (n : ℕ). flat_map (held_of c.args.size c.args.member) (range_with_len 0 n)) end
