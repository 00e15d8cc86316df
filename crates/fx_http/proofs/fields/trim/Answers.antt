use Rattle.std.proofs.Common.{◌≡◌, ◌∙◌, ap, sym, length, List, ℕ, reverse, slice_range, arith}
use Rattle.std.proofs.lemmas.List.{reverse-reverse}
use Rattle.httparse.specs.Grammar.{skip_ows, trim_ows}
use Rattle.httparse.proofs.TrimLemmas.{skip_ows_yes, skip_ows_no, slice_first, slice_last, slice_empty}
use Rattle.fx_http.proofs.fields.trim.Goals.{then-loop-start-test+else-is_blank, else-loop-start-test, then-loop-end-test+else-is_blank-2, else-loop-end-test}
use Rattle.fx_http.proofs.fields.trim.Goals as goal

pub loop-end-init : goal.loop-end-init
unfolding trim_ows
loop-end-init c =
    let here = slice_range c.args.bytes.now c.loop-start.start (length c.args.bytes.now) in
    let stays : skip_ows here ≡ here =
    elim c.loop-start-test.branch [
      | then-loop-start-test+else-is_blank w ↦
          skip_ows_no (slice_first c.args.bytes.now c.loop-start.start (length c.args.bytes.now) w.loop-start-test.true (omega arith)) w.if-is_blank.ensures
      | else-loop-start-test w ↦
          let empty = slice_empty c.args.bytes.now c.loop-start.start (length c.args.bytes.now) (omega arith) (omega arith) in
          ap skip_ows empty ∙ sym empty
    ] in record {
      ordered = omega arith;
      within = omega arith;
      left = ap (λ (t : List ℕ). reverse (skip_ows (reverse t))) (c.loop-start.invariant.left ∙ stays);
    }

pub loop-end-preserved : goal.loop-end-preserved
loop-end-preserved c =
    let last = slice_last c.args.bytes.now c.loop-start.start c.loop-end.end c.loop-end-test.true (omega arith) in record {
      ordered = omega arith;
      within = omega arith;
      left = c.loop-end.invariant.left ∙ ap reverse (skip_ows_yes last c.if-is_blank-2.ensures);
    }

pub returns : goal.returns
returns c =
    elim c.loop-end-test.branch [
      | then-loop-end-test+else-is_blank-2 w ↦
          let last = slice_last c.args.bytes.now c.loop-start.start c.loop-end.end w.loop-end-test.true (omega arith) in
          sym (c.loop-end.invariant.left ∙ ap reverse (skip_ows_no last w.if-is_blank-2.ensures) ∙ reverse-reverse _)
      | else-loop-end-test w ↦
          let empty = slice_empty c.args.bytes.now c.loop-start.start c.loop-end.end (omega arith) (omega arith) in
          empty ∙ sym (c.loop-end.invariant.left ∙ ap (λ (t : List ℕ). reverse (skip_ows (reverse t))) empty)
    ]
