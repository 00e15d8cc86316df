use Rattle.std.proofs.Common.{◌≡◌, ◌∙◌, ◌+◌, ◌∷◌, drop, sym, ap, arith}
use Rattle.std.proofs.lemmas.List.{drop_more, drop_all}
use Rattle.fx_grammar.specs.Grammar.{declared, if_later}
use Rattle.fx_readers.specs.Prefixes.{found}
use Rattle.fx_readers.proofs.PrefixLaws.{later_found, none_found}
use Rattle.fx_readers.proofs.prefixes.latest.Goals as goal

pub loop-declaration-init : goal.loop-declaration-init
loop-declaration-init c = λ q. rw c.new-latest.ensures.empty (none_found (declared c.args.declared.now q))

pub loop-declaration-preserved : goal.loop-declaration-preserved
loop-declaration-preserved c = λ q.
    let i = c.loop-declaration.declaration-index in
    let xs = c.args.declared.now in
    let x = c.declaration-item.result in
    let rest = drop (i + 1) xs in
    let here : drop i xs ≡ x ∷ rest = drop_more xs i x (omega arith) ∙ ap (λ y. y ∷ rest) (sym c.declaration-item.is) in
    ap (if_later (declared rest q)) (c.in_ok-put.ensures q)
    ∙ later_found rest x.0 x.1 q (found c.loop-declaration.latest.entries q)
    ∙ ap (λ ps. if_later (declared ps q) (found c.loop-declaration.latest.entries q)) (sym here)
    ∙ c.loop-declaration.invariant q

pub returns : goal.returns
returns c = λ q.
    ap (λ ps. if_later (declared ps q) (found c.loop-declaration.latest.entries q)) (sym (drop_all _ _ c.loop-declaration-test.false)) ∙ c.loop-declaration.invariant q
