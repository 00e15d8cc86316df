use Rattle.std.proofs.Common.{◌≡◌, ◌∙◌, ◌+◌, ◌++◌, ◌∷◌, [], ap, sym, subst, refl, ℕ, List, Ok, Err, length, vec_len, drop, append-nil, append_assoc, arith, rules}
use Rattle.std.specs.Vec.Iter.{into_iter_items, into_iter_len}
use Rattle.std.proofs.lemmas.List.{drop_all, drop_more}
use Rattle.fx_algebra.specs.Solutions.{Bindings}
use Rattle.fx_services.specs.Beside.{Came, HavePassed, IsFirstRefusal, Occurrence}
use Rattle.fx_services.specs.Noted.{ComesTo}
use Rattle.fx_services.proofs.ToldLemmas.{none_of, passed_on, refused_here, refused_on}
use Rattle.fx_services.proofs.beside.settle.Goals as goal

pub loop-occurrence-preserved : goal.loop-occurrence-preserved
loop-occurrence-preserved c =
    let i = c.loop-occurrence.invariant in
    let os = c.args.asked.now in
    let k = c.loop-occurrence.occurrence-index in
    let o = c.occurrence-item.result in
    let cs = into_iter_items c.loop-occurrence.came in
    let others = into_iter_items c.next.new.self in
    let taken : cs ≡ c.in-Some.one ∷ others = c.in-Some.ensures.items in
    let less : into_iter_len c.next.new.self + 1 ≡ into_iter_len c.loop-occurrence.came = c.in-Some.ensures.len in
    let shorter : length cs ≡ length others + 1 = ap length taken ∙ (omega arith) in
    let fewer : length (drop k os) ≡ length (drop (k + 1) os) + 1 = ap length (drop_more os k o c.loop-occurrence-test.true) ∙ (omega arith) in
    let pushed : c.push.new.self.items ≡ c.loop-occurrence.rows.items ++ c.in-Ok-Ok.found ∷ [] = search rules in
    let long : vec_len c.loop-occurrence.rows ≡ length c.loop-occurrence.rows.items = search rules in
    let number : c.len-number.result ≡ k = c.len-number.ensures ∙ long ∙ i.place in
    let came : ComesTo k o.silent o.iri c.loop-occurrence.down.items c.come_to.new.down.items c.in-Some.one (Ok c.in-Ok-Ok.found) =
    subst (ComesTo k o.silent o.iri c.loop-occurrence.down.items c.come_to.new.down.items c.in-Some.one) c.in-Ok-Ok.field-0-is
    (subst (λ (n : ℕ). ComesTo n o.silent o.iri c.loop-occurrence.down.items c.come_to.new.down.items c.in-Some.one c.in-Ok-Ok.field-0) number c.in-Ok-Ok.ensures) in
    record {
      len = (let was = i.len in omega (arith, was, less, shorter));
      many = (let was = i.many in omega (arith, was, shorter, fewer));
      place = ap length pushed ∙ (let was = i.place in let more : length (c.loop-occurrence.rows.items ++ c.in-Ok-Ok.found ∷ []) ≡ length c.loop-occurrence.rows.items + 1 = search rules in omega (arith, was, more));
      passed = λ new more h.
          subst (HavePassed 0 os c.args.came.items [] new) (sym (ap (λ (v : List (List Bindings)). v ++ more) pushed ∙ append_assoc c.loop-occurrence.rows.items (c.in-Ok-Ok.found ∷ []) more))
          (i.passed new (c.in-Ok-Ok.found ∷ more)
          (passed_on os k o c.loop-occurrence-test.true c.occurrence-item.is cs c.in-Some.one others taken c.loop-occurrence.down.items c.come_to.new.down.items c.in-Ok-Ok.found came new more h));
      refused = λ new more e h.
          subst (λ (v : List (List Bindings)). IsFirstRefusal 0 os c.args.came.items [] new v e) (sym (ap (λ (v : List (List Bindings)). v ++ more) pushed ∙ append_assoc c.loop-occurrence.rows.items (c.in-Ok-Ok.found ∷ []) more))
          (i.refused new (c.in-Ok-Ok.found ∷ more) e
          (refused_on os k o c.loop-occurrence-test.true c.occurrence-item.is cs c.in-Some.one others taken c.loop-occurrence.down.items c.come_to.new.down.items c.in-Ok-Ok.found came new more e h));
    }

pub returns-in-Ok-Err : goal.returns-in-Ok-Err
returns-in-Ok-Err c =
    let i = c.loop-occurrence.invariant in
    let os = c.args.asked.now in
    let k = c.loop-occurrence.occurrence-index in
    let o = c.occurrence-item.result in
    let cs = into_iter_items c.loop-occurrence.came in
    let old = c.loop-occurrence.down.items in
    let new = c.come_to.new.down.items in
    let error = c.in-Ok-Err.error in
    let long : vec_len c.loop-occurrence.rows ≡ length c.loop-occurrence.rows.items = search rules in
    let number : c.len-number.result ≡ k = c.len-number.ensures ∙ long ∙ i.place in
    let came : ComesTo k o.silent o.iri old new c.in-Some.one (Err error) = subst (ComesTo k o.silent o.iri old new c.in-Some.one) c.in-Ok-Err.field-0-is (subst (λ (n : ℕ). ComesTo n o.silent o.iri old new c.in-Some.one c.in-Ok-Err.field-0) number c.in-Ok-Err.ensures) in
    subst (λ (v : List (List Bindings)). IsFirstRefusal 0 os c.args.came.items [] new v error) (append-nil c.loop-occurrence.rows.items)
    (i.refused new [] error (refused_here os k o c.loop-occurrence-test.true c.occurrence-item.is cs c.in-Some.one (into_iter_items c.next.new.self) c.in-Some.ensures.items old new error came))

pub returns : goal.returns
returns c =
    let i = c.loop-occurrence.invariant in
    let os = c.args.asked.now in
    let k = c.loop-occurrence.occurrence-index in
    let cs = into_iter_items c.loop-occurrence.came in
    let end : drop k os ≡ [] = drop_all k os c.loop-occurrence-test.false in
    let none : cs ≡ [] = none_of cs (i.many ∙ ap length end) in
    let down = c.loop-occurrence.down.items in
    subst (HavePassed 0 os c.args.came.items [] down) (append-nil c.loop-occurrence.rows.items)
    (i.passed down []
    (subst (λ (v : List Occurrence). HavePassed k v cs down down []) (sym end) (subst (λ (v : List Came). HavePassed k [] v down down []) (sym none) refl)))
