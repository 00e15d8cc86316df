use Rattle.std.proofs.Common.{◌≡◌, ◌∙◌, ap, sym, fold, ℕ, suc, ◌+◌, List, ◌++◌, ◌∷◌, append_assoc, drop, string_bytes, arith}
use Rattle.std.proofs.Math.Seq.{drop-cons}
use Rattle.fx_algebra.specs.BasicGraphPatterns.{variables}
use Rattle.fx_algebra.specs.Scopes.{once, with_name}
use Rattle.fx_algebra.specs.declared.units.Unit as unit
use Rattle.fx_plan.specs.Explained.{unit_text, unit_texts}
use Rattle.fx_plan.proofs.ExplainLemmas.{same_fold, same_once, texts_same}
use Rattle.fx_plan.proofs.parts.push_units.Goals as goal

more : (n : ℕ) → suc n ≡ n + 1
more n = omega arith

pub loop-unit-init : goal.loop-unit-init
loop-unit-init c =
    let bound = c.args.bound.now in
    let known : c.add_all.new.self ≡ once bound = c.in_ok-add_all.ensures ∙ ap (λ (n : List (List ℕ)). fold with_name n bound) c.new-known.ensures in
    ap (λ (v : List ℕ). string_bytes c.args.text.now ++ v)
    (ap (λ (n : List (List ℕ)). unit_texts c.args.endpoints.now n c.args.units.now) known ∙ texts_same c.args.endpoints.now (once bound) bound (same_once bound) c.args.units.now)

pub loop-unit-preserved : goal.loop-unit-preserved
loop-unit-preserved c =
    let es = c.args.endpoints.now in
    let us = c.args.units.now in
    let i = c.loop-unit.unit-index in
    let u = c.unit-item.result in
    let known = c.loop-unit.known in
    let old = string_bytes c.loop-unit.text in
    let rest = drop (i + 1) us in
    let next : c.add_patterns.new.self ≡ fold with_name known (variables u.patterns) =
    c.in_ok-add_patterns.ensures ∙ ap (λ v. fold with_name known (variables v)) c.as_slice.ensures in
    let cut : drop i us ≡ u ∷ rest = drop-cons us i u c.loop-unit-test.true ∙ (λ j. sym c.unit-item.is j ∷ drop (more i j) us) in
    (λ j. c.in_ok-push_unit.ensures j ++ unit_texts es (next j) rest)
    ∙ ap (λ (v : List ℕ). (old ++ unit_text es known u) ++ v) (texts_same es (fold with_name known (variables u.patterns)) (known ++ variables u.patterns) (same_fold known (variables u.patterns)) rest)
    ∙ append_assoc old (unit_text es known u) (unit_texts es (known ++ variables u.patterns) rest)
    ∙ ap (λ (v : List unit.Unit). old ++ unit_texts es known v) (sym cut)
    ∙ c.loop-unit.invariant
