use Rattle.std.proofs.Common.{◌≡◌, ◌∙◌, ap, subst, arith, List, [], ◌∷◌, ◌++◌}
use Rattle.fx_algebra.specs.Solutions.{Bindings}
use Rattle.fx_evaluation.specs.Runs.{IsOneMore}
use Rattle.fx_evaluation.proofs.RunLemmas.{part_first, part_more}
use Rattle.fx_evaluation.proofs.runs.part_at.Goals as goal

pub loop-place-init : goal.loop-place-init
loop-place-init c =
    let start : c.push.new.self.items ≡ [] ∷ [] = c.in_ok-push.ensures.items ∙ ap (λ (v : List Bindings). v ++ c.empty.result ∷ []) c.new-start.ensures.items ∙ ap (λ (s : Bindings). s ∷ []) c.empty.ensures in
    record {
      part =
          part_first c.args.store.now c.args.patterns.items c.in_ok-part.part.left.items c.in_ok-part.part.rows.items
          (subst (λ (v : List Bindings). IsOneMore c.args.store.now v c.args.patterns.items c.in_ok-part.part.rows.items c.in_ok-part.part.left.items) start c.in_ok-part.ensures.more);
      fewer = c.in_ok-part.ensures.fewer;
    }

pub loop-place-preserved : goal.loop-place-preserved
loop-place-preserved c = record {
  part =
      part_more c.args.store.now c.args.patterns.items c.loop-place.part.left.items c.in_ok-part-2.part.left.items c.loop-place.part.rows.items c.in_ok-part-2.part.rows.items
      (rw c.as_slice-in-Some.ensures.value at c.known_to_rise.ensures) c.loop-place.invariant.part c.in_ok-part-2.ensures.more;
  fewer = omega (arith, c.in_ok-part-2.ensures.fewer, c.loop-place.invariant.fewer);
}
