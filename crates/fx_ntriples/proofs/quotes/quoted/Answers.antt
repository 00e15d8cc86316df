use Rattle.std.proofs.Common.{◌≡◌, ◌+◌, ◌-◌, ◌<◌, ◌++◌, ◌∙◌, ℕ, List, Ok, Err, ap, sym, subst, drop, get_or, length, arith}
use Rattle.std.specs.List.{prefix_len}
use Rattle.std.specs.String.{string_bytes}
use Rattle.std.specs.Str.{IsCharBoundary}
use Rattle.std.specs.Char.{encode_utf8}
use Rattle.std.proofs.lemmas.Str.{IsCharBoundary-after_ascii}
use Rattle.std.proofs.lemmas.Result.{err_from_is_err_and}
use Rattle.fx_ntriples.specs.declared.faults.Fault.TheVariants.{Bad}
use Rattle.fx_ntriples.specs.Quotes.{got, body, closing, is_plain, escape_at}
use Rattle.fx_ntriples.specs.Answers.{ReadsEscape}
use Rattle.fx_ntriples.proofs.Steps.{stops, at_end, closes, at_other, goes_on, stops_at_escape}
use Rattle.fx_ntriples.proofs.quotes.quoted.Goals as goal

pub returns-then-end-bytes : goal.returns-then-end-bytes
returns-then-end-bytes c =
    let place : c.plain_end-end.result ≡ c.loop-bytes.from + prefix_len (is_plain c.args.quote) (drop c.loop-bytes.from c.args.line.now) = cc in
    let end : c.plain_end-end.result ≡ length c.args.line.now = cc in (
      omega arith,
      stops c.args.quote c.args.line.now (string_bytes c.loop-bytes.decoded) c.loop-bytes.from c.plain_end-end.result (body c.args.quote 0 (drop c.args.at c.args.line.now)) Bad (drop c.plain_end-end.result c.args.line.now) (record { so = c.loop-bytes.invariant.1; place = place })
          (at_end c.args.quote c.args.line.now c.plain_end-end.result end),
    )

pub returns-then-bytes-end : goal.returns-then-bytes-end
returns-then-bytes-end c =
    let place : c.plain_end-end.result ≡ c.loop-bytes.from + prefix_len (is_plain c.args.quote) (drop c.loop-bytes.from c.args.line.now) = cc in
    let inside : c.plain_end-end.result < length c.args.line.now = omega arith in
    let sign : get_or c.args.line.now c.plain_end-end.result 0 ≡ closing c.args.quote = cc in
    let text = c.in_ok-text.ensures in (
      omega arith,
      closes c.args.quote c.args.line.now (string_bytes c.loop-bytes.decoded) c.loop-bytes.from c.plain_end-end.result (body c.args.quote 0 (drop c.args.at c.args.line.now)) (record { so = c.loop-bytes.invariant.1; place = place }) inside sign
          ∙ ap (λ t. got t (drop (c.plain_end-end.result + 1) c.args.line.now)) (sym (c.in_ok-text.ensures ∙ ap (λ t. string_bytes c.loop-bytes.decoded ++ t) c.range.ensures.value)),
    )

pub returns-then-bytes-end-ne92 : goal.returns-then-bytes-end-ne92
returns-then-bytes-end-ne92 c =
    let place : c.plain_end-end.result ≡ c.loop-bytes.from + prefix_len (is_plain c.args.quote) (drop c.loop-bytes.from c.args.line.now) = cc in
    let inside : c.plain_end-end.result < length c.args.line.now = omega arith in
    let other : get_or c.args.line.now c.plain_end-end.result 0 ≡ closing c.args.quote → ⊥ = λ e. c.if-bytes-end.false (cc) in
    let neither : get_or c.args.line.now c.plain_end-end.result 0 ≡ 92 → ⊥ = λ e. c.if-bytes-end-ne92.true (cc) in (
      omega arith,
      stops c.args.quote c.args.line.now (string_bytes c.loop-bytes.decoded) c.loop-bytes.from c.plain_end-end.result (body c.args.quote 0 (drop c.args.at c.args.line.now)) Bad (drop c.plain_end-end.result c.args.line.now) (record { so = c.loop-bytes.invariant.1; place = place })
          (at_other c.args.quote c.args.line.now c.loop-bytes.from c.plain_end-end.result place inside other neither),
    )

pub returns-in_err-c : goal.returns-in_err-c
returns-in_err-c c =
    let place : c.plain_end-end.result ≡ c.loop-bytes.from + prefix_len (is_plain c.args.quote) (drop c.loop-bytes.from c.args.line.now) = cc in
    let inside : c.plain_end-end.result < length c.args.line.now = omega arith in
    let other : get_or c.args.line.now c.plain_end-end.result 0 ≡ closing c.args.quote → ⊥ = λ e. c.if-bytes-end.false (cc) in
    let back : get_or c.args.line.now c.plain_end-end.result 0 ≡ 92 = cc in
    let p = err_from_is_err_and c.from_residual-in_err-c.result c.from_residual-in_err-c.ensures.1 in
    let r = subst (λ (b : List ℕ). ReadsEscape b c.plain_end-end.result (Err c.in_err-c.field-0.0) (escape_at c.args.quote (drop (c.plain_end-end.result + 1) b))) c.as_bytes-bytes.ensures.value c.in_err-c.ensures in
    rw (p.1, p.2) (stops_at_escape c.args.quote c.args.line.now (string_bytes c.loop-bytes.decoded) c.loop-bytes.from c.plain_end-end.result (body c.args.quote 0 (drop c.args.at c.args.line.now)) c.in_err-c.field-0.0 (record { so = c.loop-bytes.invariant.1; place = place }) inside other back r)

pub loop-bytes-preserved : goal.loop-bytes-preserved
loop-bytes-preserved c =
    let place : c.plain_end-end.result ≡ c.loop-bytes.from + prefix_len (is_plain c.args.quote) (drop c.loop-bytes.from c.args.line.now) = cc in
    let inside : c.plain_end-end.result < length c.args.line.now = omega arith in
    let other : get_or c.args.line.now c.plain_end-end.result 0 ≡ closing c.args.quote → ⊥ = λ e. c.if-bytes-end.false (cc) in
    let back : get_or c.args.line.now c.plain_end-end.result 0 ≡ 92 = cc in
    let r = subst (λ (b : List ℕ). ReadsEscape b c.plain_end-end.result (Ok (c.in_ok-c.c, c.in_ok-c.next)) (escape_at c.args.quote (drop (c.plain_end-end.result + 1) b))) c.as_bytes-bytes.ensures.value c.in_ok-c.ensures in
    let before : c.in_ok-c.next - 1 + 1 ≡ c.in_ok-c.next = omega (arith, r.0) in (
      subst (IsCharBoundary c.args.line.now) before (IsCharBoundary-after_ascii c.args.line.now (c.in_ok-c.next - 1) c.utf8.line (omega (arith, r.0, r.1)) r.2),
      rw (c.in_ok-push.ensures.bytes, c.in_ok-push_str.ensures.bytes, c.range-in-loop-bytes.ensures.value)
          (goes_on c.args.quote c.args.line.now (string_bytes c.loop-bytes.decoded) (encode_utf8 c.in_ok-c.c) c.loop-bytes.from c.plain_end-end.result c.in_ok-c.next (body c.args.quote 0 (drop c.args.at c.args.line.now)) (record { so = c.loop-bytes.invariant.1; place = place }) inside other back r.0 r.3),
    )
