use Rattle.std.proofs.Common.{◌≡◌, ◌+◌, ◌-◌, ◌<◌, ◌++◌, ◌∷◌, [], ℕ, List, drop, get_or, length, subst, refl, ap, ◌∙◌, arith}
use Rattle.std.specs.List.{flat_map}
use Rattle.std.specs.String.{string_bytes}
use Rattle.std.proofs.lemmas.Str.{IsCharBoundary-start, IsCharBoundary-after_ascii}
use Rattle.fx_terms.specs.Writing.{written_byte}
use Rattle.fx_terms.proofs.WriteSteps.{plain_more, escape_more}
use Rattle.fx_terms.proofs.writing.write_escaped.Goals as goal
use Rattle.fx_terms.proofs.writing.write_escaped.Goals.{in-Some+in_ok-push_str+in_ok-push_str-2, in_default}

pub loop-i-init : goal.loop-i-init
loop-i-init c = (omega arith, IsCharBoundary-start c.args.form.now c.utf8.form, refl, refl)

pub loop-i-preserved : goal.loop-i-preserved
loop-i-preserved c =
    let inside : c.loop-i.i < length c.args.form.now = omega arith in
    elim c.match-escape_of.branch [
      | in-Some+in_ok-push_str+in_ok-push_str-2 w ↦
          (rw (w.from-is, w.out-is) (
          let fits = subst (λ (b : List ℕ). (written_byte (get_or b c.loop-i.i 0) ≡ w.in-Some.escape.now) × (get_or b c.loop-i.i 0 < 128)) c.as_bytes-b-items.ensures.value w.in-Some.ensures in
          let none : c.loop-i.i + 1 - (c.loop-i.i + 1) ≡ 0 = omega arith in (
            omega arith,
            IsCharBoundary-after_ascii c.args.form.now c.loop-i.i c.utf8.form inside fits.1,
            rw none refl,
            ap (λ t. t ++ flat_map written_byte (drop (c.loop-i.i + 1) c.args.form.now)) (w.in_ok-push_str-2.ensures.bytes ∙ ap (λ t. t ++ w.in-Some.escape.now) (w.in_ok-push_str.ensures.bytes ∙ ap (λ t. string_bytes c.loop-i.out ++ t) w.range.ensures.value))
                ∙ escape_more c.args.form.now (string_bytes c.loop-i.out) w.in-Some.escape.now (string_bytes c.args.out.now ++ flat_map written_byte c.args.form.now) c.loop-i.from c.loop-i.i inside c.loop-i.invariant.0 fits.0 c.loop-i.invariant.2 c.loop-i.invariant.3,
          )))
      | in_default w ↦
          (rw (w.from-is, w.out-is) (
          let itself : written_byte (get_or c.args.form.now c.loop-i.i 0) ≡ get_or c.args.form.now c.loop-i.i 0 ∷ [] = subst (λ (b : List ℕ). written_byte (get_or b c.loop-i.i 0) ≡ get_or b c.loop-i.i 0 ∷ []) c.as_bytes-b-items.ensures.value w.in_default.ensures in
          (omega arith, c.loop-i.invariant.1, plain_more c.args.form.now c.loop-i.from c.loop-i.i inside c.loop-i.invariant.0 itself c.loop-i.invariant.2, c.loop-i.invariant.3)))
    ]
