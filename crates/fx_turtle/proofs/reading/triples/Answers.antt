use Rattle.std.proofs.Common.{◌≡◌, ◌∙◌, ◌++◌, ◌==◌, ℕ, List, [], true, ap, arith, length, rules, sym, subst, vec_len}
use Rattle.std.specs.Str.{IsCharBoundary}
use Rattle.std.proofs.lemmas.Bool.{eqb-true}
use Rattle.std.proofs.lemmas.Result.{err_from_is_err_and}
use Rattle.std.proofs.lemmas.Str.{IsCharBoundary-start}
use Rattle.fx_terms.specs.declared.triples.Triple.{Triple}
use Rattle.fx_tokens.specs.declared.Token as read
use Rattle.fx_grammar.specs.Grammar.{Prefixes}
use Rattle.fx_turtle.specs.Answers.{RefusesAt, StandsWithin}
use Rattle.fx_turtle.specs.Symbols.{Symbol}
use Rattle.fx_turtle.specs.Windows.{Filled, StopsFor, rest_of_document}
use Rattle.fx_turtle.proofs.WindowTokens.{Come, come_first, come_on, come_end, come_few, come_stops, come_no_token, none_no_token, source_symbols}
use Rattle.fx_turtle.proofs.reading.triples.Goals as goal

pub next_window-requires-clause-place : goal.next_window-requires-clause-place
next_window-requires-clause-place c = subst (λ (n : ℕ). IsCharBoundary c.args.text.now n) (sym c.start.ensures.place) (IsCharBoundary-start c.args.text.now c.utf8.text)

pub returns-in_err-at-clause-refused : goal.returns-in_err-at-clause-refused
returns-in_err-at-clause-refused c =
    let p = err_from_is_err_and c.from_residual.result c.from_residual.ensures.1 in
    rw (p.1, p.2) (none_no_token c.args.text.now c.utf8.text _ (rw (← c.start.ensures.place) c.in_err-at.ensures.refused))

pub each-init : goal.each-init
each-init c =
    let filled = subst (λ (n : ℕ). Filled c.args.text.now n c.next_window.new.window.items c.in_ok-at.at) c.start.ensures.place c.in_ok-at.ensures.filled in
    subst (λ (ps : Prefixes). Come c.args.text.now ps c.new-triples.result.items c.next_window.new.window.items c.in_ok-at.at) (sym c.new-prefixes.ensures)
    (subst (λ (said : List Triple). Come c.args.text.now [] said c.next_window.new.window.items c.in_ok-at.at) (sym c.new-triples.ensures.items) (come_first c.args.text.now c.next_window.new.window.items c.in_ok-at.at c.utf8.text filled))

pub refusal-requires-clause-within : goal.refusal-requires-clause-within
refusal-requires-clause-within c =
    let same = source_symbols c.of-source.result c.args.text.now c.as_slice.result.now c.each.tokens.items c.of-source.ensures c.as_slice.ensures.value in
    let stops = subst (λ (ts : List Symbol). StopsFor c.each.prefixes c.each.triples.items ts c.in-Err.fault) same c.in-Err.ensures in
    subst (λ (v : List read.Token). StandsWithin (length v) c.in-Err.fault) (sym c.as_slice-in-Err.ensures.value)
    (come_few c.args.text.now c.each.prefixes c.each.triples.items c.each.tokens.items c.each.at c.each.invariant c.in-Err.fault stops)

pub returns-in-Err-clause-refused : goal.returns-in-Err-clause-refused
returns-in-Err-clause-refused c =
    let same = source_symbols c.of-source.result c.args.text.now c.as_slice.result.now c.each.tokens.items c.of-source.ensures c.as_slice.ensures.value in
    let stops = subst (λ (ts : List Symbol). StopsFor c.each.prefixes c.each.triples.items ts c.in-Err.fault) same c.in-Err.ensures in
    let refuses = subst (λ (v : List read.Token). RefusesAt c.args.text.now v c.each.at.place c.in-Err.fault c.refusal.result) c.as_slice-in-Err.ensures.value c.refusal.ensures in
    come_stops c.args.text.now c.each.prefixes c.each.triples.items c.each.tokens.items c.each.at c.each.invariant c.utf8.text c.in-Err.fault c.refusal.result stops refuses

pub returns-in_err-at-2-clause-refused : goal.returns-in_err-at-2-clause-refused
returns-in_err-at-2-clause-refused c =
    let p = err_from_is_err_and c.from_residual-in_err-at-2.result c.from_residual-in_err-at-2.ensures.1 in
    rw (p.1, p.2) (come_no_token c.args.text.now c.each.prefixes c.each.triples.items c.each.tokens.items c.each.at c.each.invariant c.utf8.text _ c.in_err-at-2.ensures.refused)

pub each-preserved : goal.each-preserved
each-preserved c =
    let same = source_symbols c.of-source.result c.args.text.now c.as_slice.result.now c.each.tokens.items c.of-source.ensures c.as_slice.ensures.value in
    come_on c.args.text.now c.each.prefixes c.each.triples.items c.each.tokens.items c.each.at c.each.invariant c.window.new.prefixes c.window.new.triples.items c.next_window-in-each.new.window.items c.in_ok-at-2.at
    (λ rest. c.in_default-window.ensures rest ∙ ap (λ (ts : List Symbol). rest_of_document c.each.prefixes c.each.triples.items (ts ++ rest)) same) c.in_ok-at-2.ensures.filled

pub returns-clause-found : goal.returns-clause-found
returns-clause-found c =
    let empty : (vec_len c.each.tokens == 0) ≡ true = search rules in
    let many : vec_len c.each.tokens ≡ length c.each.tokens.items = search rules in
    come_end c.args.text.now c.each.prefixes c.each.triples.items c.each.tokens.items c.each.at c.each.invariant c.utf8.text (omega (arith, eqb-true (vec_len c.each.tokens) 0 empty, many))
