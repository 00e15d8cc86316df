use Rattle.std.proofs.Common.{◌≡◌, ◌∙◌, ◌⊎◌, List, [], All, Contains, ap, sym, subst, length, vec_len, inl, inr, arith, rules}
use Rattle.std.specs.Vec.Iter.{into_iter_items, into_iter_len}
use Rattle.std.specs.List.{zip}
use Rattle.fx_sources.specs.Probes as spec
use Rattle.fx_sources.proofs.EntryLemmas.{learning_starts, on_err, learned_one, learning_ends, first_is_new, all_known, no_pair}
use Rattle.fx_sources.proofs.caches.AskCache.learn.Goals as goal

pub loop-probe-init : goal.loop-probe-init
loop-probe-init c =
    let given = c.into_iter-probe-iterator.ensures.into_iter_gives in
    let first = ap (λ z. z.a) given ∙ c.zip-probe-items.ensures.first in
    let items = ap into_iter_items first ∙ c.into_iter.ensures.rest in
    let truths = ap (λ z. z.b.rest.now) given ∙ c.zip-probe-items.ensures.second.0 in
    let long : vec_len c.args.probes ≡ length c.args.probes.items = search rules in
    record {
      next = (tt, tt);
      finite = tt;
      len = ap into_iter_len first ∙ c.into_iter.ensures.len ∙ long ∙ sym (ap length items);
      learning = learning_starts c.args.self.now c.args.probes.items _ c.args.truths.now _ items truths c.len-held.ensures.fits c.requires.distinct c.requires.news;
    }

pub loop-probe-preserved : goal.loop-probe-preserved
loop-probe-preserved c =
    let left = c.in-Some.ensures.steps in
    let here = c.loop-probe.invariant in
    let shorter : into_iter_len c.next.new.self.a ≡ length (into_iter_items c.next.new.self.a) =
    (let was = here.len in let gone = left.0.1 in let less = ap length left.0.0 in omega arith) in
    record {
      next = (tt, tt);
      finite = tt;
      len = shorter;
      learning = learned_one c.args.self.now c.args.probes.items c.args.truths.now c.loop-probe.self c.put.new.self c.in-Some.probe c.in-Some.truth.now _ _ _ _ left.0.0 left.1 c.in_ok-put.ensures.ok here.learning;
    }

pub put-requires : goal.put-requires
put-requires c = first_is_new c.args.self.now c.args.probes.items c.args.truths.now c.loop-probe.self c.in-Some.probe _ _ _ c.in-Some.ensures.steps.0.0 c.loop-probe.invariant.learning

pub returns-in_err-put-clause-kept : goal.returns-in_err-put-clause-kept
returns-in_err-put-clause-kept c =
    let Held : List spec.Entry → Type 0 = λ held. All (λ e. Contains c.args.self.now e ⊎ Contains (zip c.args.probes.items c.args.truths.now) e) held in
    on_err c.from_residual.result (Held c.put.new.self) (subst Held (sym c.in_err-put.ensures.err) (all_known c.args.self.now c.args.probes.items c.args.truths.now c.loop-probe.self _ _ c.loop-probe.invariant.learning))

pub returns-clause-learned : goal.returns-clause-learned
returns-clause-learned c =
    let here = c.loop-probe.invariant in
    let none : zip (into_iter_items c.loop-probe.probe-iterator.a) c.loop-probe.probe-iterator.b.rest.now ≡ [] =
    no_pair _ _ (elim c.in-None.ensures.steps [ inl h ↦ inl (sym here.len ∙ h.1.0) | inr h ↦ inr h.1.0 ]) in
    learning_ends c.args.self.now c.args.probes.items c.args.truths.now c.loop-probe.self _ _ none here.learning
