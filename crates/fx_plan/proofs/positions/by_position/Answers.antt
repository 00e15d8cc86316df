use Rattle.std.proofs.Common.{◌∙◌, ap, sym, arith, take, [], ◌∷◌, ◌++◌}
use Rattle.std.specs.List.{zip}
use Rattle.std.proofs.lemmas.List.{take_more}
use Rattle.std.proofs.Math.Seq.{take-length}
use Rattle.std.proofs.lemmas.Slice.Zip.{get_or-zip, length-zip}
use Rattle.fx_plan.specs.Places.{placed}
use Rattle.fx_plan.specs.Plans.{Asked, by_position}
use Rattle.fx_plan.proofs.PlaceLemmas.{placed_snoc}
use Rattle.fx_plan.proofs.positions.by_position.Goals as goal

pub loop-i-preserved : goal.loop-i-preserved
loop-i-preserved c =
    let run = c.args.run.now in
    let sources = c.args.sources.now in
    let i = c.loop-i.i in
    let p = c.index-run-i.result in
    let ms = c.index-sources-i.result in
    let all = zip run sources in
    let within = c.loop-i-test.true in
    let size = length-zip run sources in
    let pair = get_or-zip run sources i (p, ms) (omega (arith, within)) (omega (arith, within, c.requires)) ∙ (λ j. (sym c.index-run-i.is j, sym c.index-sources-i.is j)) in
    let more = take_more all i (p, ms) (omega (arith, within, size, c.requires)) in
    record {
      units =
          c.in_ok-place.ensures.units
          ∙ (λ j. placed (c.loop-i.invariant.units j) (p, c.as_slice.ensures j))
          ∙ sym (placed_snoc (take i all) (p, ms))
          ∙ sym (ap by_position (more ∙ ap (λ (a : Asked). take i all ++ a ∷ []) pair));
      knows = c.in_ok-place.ensures.groups;
    }

pub returns : goal.returns
returns c =
    let all = zip c.args.run.now c.args.sources.now in
    let size = length-zip c.args.run.now c.args.sources.now in
    c.loop-i.invariant.units ∙ ap by_position (ap (λ n. take n all) (omega (arith, size, c.requires, c.loop-i-test.false, c.loop-i.auto.i-end)) ∙ take-length all)
