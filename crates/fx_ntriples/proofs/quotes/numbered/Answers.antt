use Rattle.std.proofs.Common.{◌≡◌, ◌+◌, ◌-◌, ◌∙◌, ap, sym, refl, take, drop, arith}
use Rattle.std.specs.List.{prefix_len}
use Rattle.std.specs.Char.{is_ascii_hexdigit}
use Rattle.fx_ntriples.specs.Quotes.{hex_value}
use Rattle.fx_ntriples.proofs.Steps.{front_passes, number_misnamed, number_named, last_digit}
use Rattle.fx_ntriples.proofs.quotes.numbered.Goals as goal

pub hex_value-requires-clause-hex : goal.hex_value-requires-clause-hex
hex_value-requires-clause-hex c =
    let n : c.hex_end-end.result - (c.args.at + 2) ≡ prefix_len is_ascii_hexdigit (take c.args.count (drop (c.args.at + 2) c.args.line.now)) = omega arith in
    rw n (front_passes is_ascii_hexdigit c.args.count (drop (c.args.at + 2) c.args.line.now))

pub returns-in-None : goal.returns-in-None
returns-in-None c =
    let digits : prefix_len is_ascii_hexdigit (take c.args.count (drop (c.args.at + 2) c.args.line.now)) ≡ c.args.count = omega arith in
    let n : c.hex_end-end.result - (c.args.at + 2) ≡ c.args.count = omega arith in
    let e = number_misnamed c.args.quote c.args.count c.hex_value.result (drop (c.args.at + 2) c.args.line.now) digits (c.hex_value.ensures ∙ ap (λ k. hex_value 0 (take k (drop (c.args.at + 2) c.args.line.now))) n) (sym c.named.ensures ∙ c.in-None.is) in
    (omega arith, λ more. rw e refl)

pub returns-in-Some : goal.returns-in-Some
returns-in-Some c =
    let digits : prefix_len is_ascii_hexdigit (take c.args.count (drop (c.args.at + 2) c.args.line.now)) ≡ c.args.count = omega arith in
    let n : c.hex_end-end.result - (c.args.at + 2) ≡ c.args.count = omega arith in
    let more : c.hex_end-end.result - (c.args.at + 1) ≡ c.args.count + 1 = omega arith in
    let last : c.args.at + 2 + c.args.count - 1 ≡ c.hex_end-end.result - 1 = omega arith in
    let e = number_named c.args.quote c.args.count c.hex_value.result c.in-Some.c (drop (c.args.at + 2) c.args.line.now) digits (c.hex_value.ensures ∙ ap (λ k. hex_value 0 (take k (drop (c.args.at + 2) c.args.line.now))) n) (sym c.named.ensures ∙ c.in-Some.is) in
    (omega arith, omega arith, rw (← last) (last_digit c.args.line.now (c.args.at + 2) c.args.count (omega arith) (omega arith) digits), rw more e)
