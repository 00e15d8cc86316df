use Rattle.std.proofs.Common.{◌≡◌, ◌∙◌, ◌+◌, ◌<◌, ◌++◌, ◌∷◌, [], ap, sym, subst, List, None, Some, length, vec_len, drop, append-nil, arith, rules}
use Rattle.std.specs.Vec.Iter.{into_iter_items, into_iter_len}
use Rattle.std.proofs.lemmas.List.{drop_all}
use Rattle.fx_pool.specs.declared.jobs.JobReply.{JobReply}
use Rattle.fx_sources.specs.Registries.{number_of}
use Rattle.fx_services.specs.Beside.{AreRepliesFor, AreToldOf, Came, Occurrence}
use Rattle.fx_services.proofs.ToldLemmas.{fits_known, fits_unknown, known_reply, one_more, told_known, told_unknown}
use Rattle.fx_services.proofs.beside.told_of.Goals as goal
use Rattle.fx_services.proofs.beside.told_of.Goals.{in-None, in-Some+in-Some-next}

pub loop-occurrence-init : goal.loop-occurrence-init
loop-occurrence-init c =
    let items : into_iter_items c.into_iter-replies.result ≡ c.args.replies.items = search rules in
    record {
      len = (let long : vec_len c.args.replies ≡ length c.args.replies.items = search rules in let is : into_iter_len c.into_iter-replies.result ≡ vec_len c.args.replies = search rules in is ∙ long ∙ sym (ap length items));
      fits = subst (AreRepliesFor c.args.registry.now c.args.asked.now) (sym items) c.requires;
      so_far = λ more t.
          subst (λ (v : List Came). AreToldOf c.args.registry.now c.args.asked.now c.args.replies.items (v ++ more)) (sym c.new-came.ensures.items)
          (subst (λ (v : List JobReply). AreToldOf c.args.registry.now c.args.asked.now v more) items t);
    }

pub unreachable-requires : goal.unreachable-requires
unreachable-requires c =
    let i = c.loop-occurrence.invariant in
    let number : number_of c.occurrence-item.result.iri c.args.registry.now ≡ Some c.in-Some.at = sym c.in-Some.ensures in
    let f = fits_known c.args.registry.now c.args.asked.now c.loop-occurrence.occurrence-index c.occurrence-item.result c.loop-occurrence-test.true c.occurrence-item.is (into_iter_items c.loop-occurrence.replies) c.in-Some.at number i.fits in
    let long : length (into_iter_items c.loop-occurrence.replies) ≡ length f.rest + 1 = ap length f.are ∙ (omega arith) in
    let some : 0 < into_iter_len c.loop-occurrence.replies = (let len = i.len in omega (arith, len, long)) in
    let no = c.in-None-next.ensures.variant.1 some in
    cc

pub rows_in-requires : goal.rows_in-requires
rows_in-requires c =
    let i = c.loop-occurrence.invariant in
    let number : number_of c.occurrence-item.result.iri c.args.registry.now ≡ Some c.in-Some.at = sym c.in-Some.ensures in
    (known_reply c.args.registry.now c.args.asked.now c.loop-occurrence.occurrence-index c.occurrence-item.result c.loop-occurrence-test.true c.occurrence-item.is (into_iter_items c.loop-occurrence.replies) c.in-Some.at
    c.in-Some-next.reply (into_iter_items c.next.new.self) number i.fits c.in-Some-next.ensures.items).0

pub loop-occurrence-preserved : goal.loop-occurrence-preserved
loop-occurrence-preserved c =
    let i = c.loop-occurrence.invariant in
    let es = c.args.registry.now in
    let os = c.args.asked.now in
    let k = c.loop-occurrence.occurrence-index in
    let o = c.occurrence-item.result in
    let old = c.loop-occurrence.came.items in
    let pushed : c.push.new.self.items ≡ old ++ c.match-endpoint_of.one ∷ [] = search rules in
    elim c.match-endpoint_of.branch [
      | in-None w ↦
          (let number : number_of o.iri es ≡ None = sym w.in-None.ensures in
          let same : into_iter_items c.match-endpoint_of.replies ≡ into_iter_items c.loop-occurrence.replies = ap into_iter_items w.replies-is in
          record {
            len = ap into_iter_len w.replies-is ∙ i.len ∙ sym (ap length same);
            fits = subst (AreRepliesFor es (drop (k + 1) os)) (sym same) (fits_unknown es os k o c.loop-occurrence-test.true c.occurrence-item.is (into_iter_items c.loop-occurrence.replies) number i.fits);
            so_far = λ more t.
                subst (λ (v : List Came). AreToldOf es os c.args.replies.items v) (sym (ap (λ (v : List Came). v ++ more) pushed ∙ one_more old c.match-endpoint_of.one more))
                (i.so_far (c.match-endpoint_of.one ∷ more) (told_unknown es os k o c.loop-occurrence-test.true c.occurrence-item.is (into_iter_items c.loop-occurrence.replies) c.match-endpoint_of.one more number w.one-is (subst (λ (v : List JobReply). AreToldOf es (drop (k + 1) os) v more) same t)));
          })
      | in-Some+in-Some-next w ↦
          (let number : number_of o.iri es ≡ Some w.in-Some.at = sym w.in-Some.ensures in
          let rest = into_iter_items w.next.new.self in
          let same : into_iter_items c.match-endpoint_of.replies ≡ rest = ap into_iter_items w.replies-is in
          let taken : into_iter_items c.loop-occurrence.replies ≡ w.in-Some-next.reply ∷ rest = w.in-Some-next.ensures.items in
          let fit = known_reply es os k o c.loop-occurrence-test.true c.occurrence-item.is (into_iter_items c.loop-occurrence.replies) w.in-Some.at w.in-Some-next.reply rest number i.fits taken in
          let less : into_iter_len w.next.new.self + 1 ≡ into_iter_len c.loop-occurrence.replies = w.in-Some-next.ensures.len in
          let shorter : length (into_iter_items c.loop-occurrence.replies) ≡ length rest + 1 = ap length taken ∙ (omega arith) in
          record {
            len = (let was = i.len in let here : into_iter_len w.next.new.self ≡ length rest = omega (arith, was, less, shorter) in ap into_iter_len w.replies-is ∙ here ∙ sym (ap length same));
            fits = subst (AreRepliesFor es (drop (k + 1) os)) (sym same) fit.1;
            so_far = λ more t.
                subst (λ (v : List Came). AreToldOf es os c.args.replies.items v) (sym (ap (λ (v : List Came). v ++ more) pushed ∙ one_more old c.match-endpoint_of.one more))
                (i.so_far (c.match-endpoint_of.one ∷ more)
                (subst (λ (v : List JobReply). AreToldOf es (drop k os) v (c.match-endpoint_of.one ∷ more)) (sym taken)
                (subst (λ (v : Came). AreToldOf es (drop k os) (w.in-Some-next.reply ∷ rest) (v ∷ more)) (sym w.one-is)
                (told_known es os k o c.loop-occurrence-test.true c.occurrence-item.is w.in-Some-next.reply rest w.in-Some.at w.rows_in.result more number w.rows_in.ensures (subst (λ (v : List JobReply). AreToldOf es (drop (k + 1) os) v more) same t)))));
          })
    ]

pub returns : goal.returns
returns c =
    let i = c.loop-occurrence.invariant in
    let es = c.args.registry.now in
    let items = into_iter_items c.loop-occurrence.replies in
    let end : drop c.loop-occurrence.occurrence-index c.args.asked.now ≡ [] = drop_all c.loop-occurrence.occurrence-index c.args.asked.now c.loop-occurrence-test.false in
    let none : items ≡ [] = subst (λ (v : List Occurrence). AreRepliesFor es v items) end i.fits in
    subst (AreToldOf es c.args.asked.now c.args.replies.items) (append-nil c.loop-occurrence.came.items)
    (i.so_far [] (subst (λ (v : List Occurrence). AreToldOf es v items []) (sym end) none))
