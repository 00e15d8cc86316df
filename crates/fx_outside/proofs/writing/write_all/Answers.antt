use Rattle.std.proofs.Common.{◌≡◌, ◌∙◌, ◌-◌, ◌++◌, ℕ, List, length, take, drop, ap, sym, arith, append_assoc}
use Rattle.std.proofs.lemmas.List.{length-drop}
use Rattle.std.proofs.Math.Seq.{take-length}
use Rattle.fx_outside.proofs.PieceLemmas.{take_two}
use Rattle.fx_outside.proofs.writing.write_all.Goals as goal

pub loop-done-preserved : goal.loop-done-preserved
loop-done-preserved g c =
    let i = c.loop-done.invariant in
    let e = c.in_ok-done.ensures in
    let bytes : List ℕ = c.args.bytes.now in
    let done : ℕ = c.loop-done.done in
    let n : ℕ = c.in_ok-done.field-0 in
    let tail : List ℕ = take (length bytes - done) (drop done bytes) in
    let rest : tail ≡ drop done bytes = ap (λ (k : ℕ). take k (drop done bytes)) (sym (length-drop done bytes)) ∙ take-length (drop done bytes) in
    let len : length tail ≡ length bytes - done = ap (λ (l : List ℕ). length l) rest ∙ length-drop done bytes in
    record {
      within = omega (arith, e.within, len, i.within);
      faultless = e.faultless ∙ i.faultless;
      front = λ t.
          e.written t
          ∙ (ap (λ (l : List ℕ). l ++ take n tail) (i.front t)
          ∙ (append_assoc (g.K.Ends.held c.args.sink.now) (take done bytes) (take n tail)
          ∙ ap (λ (l : List ℕ). g.K.Ends.held c.args.sink.now ++ l) (ap (λ (l : List ℕ). take done bytes ++ take n l) rest ∙ sym (take_two done n bytes))));
      left = λ t. e.left t ∙ i.left t;
      reads = e.reads ∙ i.reads;
    }
