use Rattle.std.proofs.Common.{◌≡◌, ◌-◌, ◌∷◌, [], List, Ok, Err, length, drop, rules, sym, ap, ◌∙◌, subst, ℕ, arith}
use Rattle.std.specs.Str.{chars, IsUtf8}
use Rattle.std.proofs.lemmas.Str.{scalars-chars}
use Rattle.fx_tokens.specs.Answers.{width}
use Rattle.fx_tokens.specs.Reads.{IsNext}
use Rattle.fx_tokens.specs.Scan.{Barren}
use Rattle.fx_tokens.proofs.Longest.{longest_some}
use Rattle.fx_tokens.proofs.Nexts.{Passed, passed_none, passed_within, passed_on, next_found, behind_token}
use Rattle.fx_tokens.proofs.Runs.{barren_back, comment_front}
use Rattle.fx_tokens.proofs.Turns.{blank_turn, comment_turn, rest_smaller, begins_token, token_within, fault_turn, ends_turn}
use Rattle.fx_tokens.proofs.next_token.Goals as goal

pub each-init : goal.each-init
each-init c =
    let rest : chars (drop c.args.place c.args.text.now) ≡ chars c.range_from-rest.result.now = ap chars (sym c.range_from-rest.ensures.value) in
    record {
      utf8 = search rules;
      passed = subst (λ (v : List ℕ). Passed c.args.text.now c.args.place v) rest (passed_none c.args.text.now c.args.place c.utf8.text c.requires.place);
      barren = subst (λ (v : List ℕ). Barren c.args.barren v) rest c.requires.barren;
    }

pub each-preserved-then-is_white_space : goal.each-preserved-then-is_white_space
each-preserved-then-is_white_space c = record {
  utf8 = search rules;
  passed = passed_on c.args.text.now c.args.place (chars c.each.rest.now) (c.in-Some.first ∷ []) (chars c.in-Some.behind.now) c.each.invariant.passed c.in-Some.ensures
      (λ answer r. blank_turn (length c.args.text.now) (chars c.each.rest.now) c.in-Some.first (chars c.in-Some.behind.now) answer c.in-Some.ensures (sym c.is_white_space.ensures ∙ c.if-is_white_space.true)
      (passed_within c.args.text.now c.args.place (chars c.each.rest.now) c.each.invariant.passed) r);
  barren = barren_back (chars c.each.rest.now) (c.in-Some.first ∷ []) (chars c.in-Some.behind.now) c.args.barren c.in-Some.ensures c.each.invariant.barren;
}

pub each-smaller : goal.each-smaller
each-smaller c = rest_smaller (chars c.each.rest.now) (chars c.in-Some.behind.now) (chars c.skip-rest.result.now) c.in-Some.first c.in-Some.ensures c.skip-rest.ensures

pub each-preserved : goal.each-preserved
each-preserved c =
    let front = comment_front (chars c.each.rest.now) (chars c.in-Some.behind.now) (chars c.skip-rest.result.now) c.in-Some.first c.in-Some.ensures c.skip-rest.ensures in
    record {
      utf8 = search rules;
      passed = passed_on c.args.text.now c.args.place (chars c.each.rest.now) front.0 (chars c.skip-rest.result.now) c.each.invariant.passed front.1
          (λ answer r. comment_turn (length c.args.text.now) (chars c.each.rest.now) (chars c.in-Some.behind.now) (chars c.skip-rest.result.now) answer (c.in-Some.ensures ∙ ap (λ v. v ∷ chars c.in-Some.behind.now) c.if-first-eq35.true) c.skip-rest.ensures
          (passed_within c.args.text.now c.args.place (chars c.each.rest.now) c.each.invariant.passed) r);
      barren = barren_back (chars c.each.rest.now) front.0 (chars c.skip-rest.result.now) c.args.barren front.1 c.each.invariant.barren;
    }

pub overflow_sub-token-in-Some-longest : goal.overflow_sub-token-in-Some-longest
overflow_sub-token-in-Some-longest c =
    let inside = passed_within c.args.text.now c.args.place (chars c.each.rest.now) c.each.invariant.passed in
    omega (arith, inside, c.width-in-Some-longest.ensures, token_within (chars c.each.rest.now) c.in-Some-longest.kind (chars c.in-Some-longest.after.now) (sym c.in-Some-longest.ensures))

pub returns-in-Some-longest-clause-found : goal.returns-in-Some-longest-clause-found
returns-in-Some-longest-clause-found c =
    let begins = begins_token (chars c.each.rest.now) c.in-Some.first (chars c.in-Some.behind.now) c.in-Some.ensures (sym c.is_white_space.ensures ∙ c.if-is_white_space.false) c.if-first-eq35.false in
    let u : IsUtf8 c.each.rest.now = search rules in
    let next = next_found c.args.text.now c.args.place (chars c.each.rest.now) (chars c.in-Some-longest.after.now) c.in-Some-longest.kind c.each.invariant.passed begins (sym c.in-Some-longest.ensures) (scalars-chars c.each.rest.now u) in
    subst (λ (n : ℕ). IsNext c.args.text.now c.args.place (record { kind = c.in-Some-longest.kind; start = length c.args.text.now - c.width.result; end = length c.args.text.now - n })) (sym c.width-in-Some-longest.ensures)
    (subst (λ (n : ℕ). IsNext c.args.text.now c.args.place (record { kind = c.in-Some-longest.kind; start = length c.args.text.now - n; end = length c.args.text.now - width (chars c.in-Some-longest.after.now) })) (sym c.width.ensures) next)

pub returns-in-Some-longest-clause-barren : goal.returns-in-Some-longest-clause-barren
returns-in-Some-longest-clause-barren c =
    let token = longest_some (chars c.each.rest.now) c.in-Some-longest.kind (chars c.in-Some-longest.after.now) (sym c.in-Some-longest.ensures) in
    let u : IsUtf8 c.each.rest.now = search rules in
    let same = behind_token c.args.text.now c.args.place (chars c.each.rest.now) (chars c.in-Some-longest.after.now) c.in-Some-longest.kind c.each.invariant.passed (sym c.in-Some-longest.ensures) (scalars-chars c.each.rest.now u) in
    let behind = barren_back (chars c.each.rest.now) token.0 (chars c.in-Some-longest.after.now) c.barren_behind-barren.result token.1.parts c.barren_behind-barren.ensures in
    subst (λ (n : ℕ). Barren c.barren_behind-barren.result (chars (drop (length c.args.text.now - n) c.args.text.now))) (sym c.width-in-Some-longest.ensures)
    (subst (λ (v : List ℕ). Barren c.barren_behind-barren.result v) (sym same) behind)

pub returns-in_default-longest-clause-refused : goal.returns-in_default-longest-clause-refused
returns-in_default-longest-clause-refused c =
    let begins = begins_token (chars c.each.rest.now) c.in-Some.first (chars c.in-Some.behind.now) c.in-Some.ensures (sym c.is_white_space.ensures ∙ c.if-is_white_space.false) c.if-first-eq35.false in
    c.each.invariant.passed.reads (Err c.fault.result) (fault_turn (length c.args.text.now) (chars c.each.rest.now) c.fault.result begins (sym c.in_default-longest.ensures) c.fault.ensures)

pub returns-clause-found : goal.returns-clause-found
returns-clause-found c = c.each.invariant.passed.reads (Ok []) (ends_turn (length c.args.text.now) (chars c.each.rest.now) c.in_default.ensures)
