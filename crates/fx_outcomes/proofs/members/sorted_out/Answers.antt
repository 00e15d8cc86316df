use Rattle.std.proofs.Common.{◌≡◌, ◌∙◌, ◌<◌, ap, sym, subst, List, length, vec_len, inl, inr, arith, rules}
use Rattle.std.specs.List.{zip}
use Rattle.std.specs.Vec.Iter.{into_iter_items, into_iter_len}
use Rattle.std.proofs.lemmas.List.Elements.{recursion_from_All}
use Rattle.fx_keys.specs.declared.probes.Probe.{Probe}
use Rattle.fx_pool.specs.declared.jobs.JobReply.{JobReply}
use Rattle.fx_outcomes.specs.AskSteps.{IsForAsk}
use Rattle.fx_outcomes.proofs.SortingLemmas.{Sorting, all_sorted, marks_of_all, next_pair, one_sorted, one_turned_away, sorting_starts}
use Rattle.fx_outcomes.proofs.members.sorted_out.Goals as goal

pub loop-probe-init : goal.loop-probe-init
loop-probe-init c =
    let given = c.into_iter-probe-iterator.ensures.into_iter_gives in
    let first = ap (λ z. z.a) given ∙ c.zip-probe-items.ensures.first in
    let probes = ap into_iter_items first ∙ c.into_iter.ensures.rest in
    let replies = ap (λ z. into_iter_items z.b) given ∙ c.zip-probe-items.ensures.second.0 in
    let probes_long : vec_len c.args.probes ≡ length c.args.probes.items = search rules in
    let replies_long : vec_len c.args.replies ≡ length c.args.replies.items = search rules in
    let es = c.args.endpoints.now in
    let ps = c.args.probes.items in
    let rs = c.args.replies.items in
    record {
      next = (tt, tt);
      finite = tt;
      probes_len = ap into_iter_len first ∙ c.into_iter.ensures.len ∙ probes_long ∙ sym (ap length probes);
      replies_len = ap (λ z. into_iter_len z.b) given ∙ c.zip-probe-items.ensures.second.1 ∙ replies_long ∙ sym (ap length replies);
      sorting =
          subst (λ (v : List Probe). Sorting es (zip ps rs) c.in-Ok.answers v (into_iter_items c.into_iter-probe-iterator.result.b)) (sym probes)
          (subst (λ (v : List JobReply). Sorting es (zip ps rs) c.in-Ok.answers ps v) (sym replies)
          (sorting_starts es c.in-Ok.answers ps rs c.in-Ok.ensures (recursion_from_All IsForAsk rs c.requires.asked) (recursion_from_All (λ (p : Probe). p.at < length es) ps c.requires.within)));
    }

pub take_in-requires-clause-asked : goal.take_in-requires-clause-asked
take_in-requires-clause-asked c =
    let left = c.in-Some.ensures.steps in
    (next_pair c.args.endpoints.now (zip c.args.probes.items c.args.replies.items) c.loop-probe.answers c.in-Some.probe c.in-Some.reply (into_iter_items c.next.new.self.a) (into_iter_items c.next.new.self.b) _ _ left.0.0 left.1.0 c.loop-probe.invariant.sorting).for_asks.0

pub take_in-requires-clause-within : goal.take_in-requires-clause-within
take_in-requires-clause-within c =
    let left = c.in-Some.ensures.steps in
    (next_pair c.args.endpoints.now (zip c.args.probes.items c.args.replies.items) c.loop-probe.answers c.in-Some.probe c.in-Some.reply (into_iter_items c.next.new.self.a) (into_iter_items c.next.new.self.b) _ _ left.0.0 left.1.0 c.loop-probe.invariant.sorting).within.0

pub take_in-requires-clause-marked : goal.take_in-requires-clause-marked
take_in-requires-clause-marked c =
    let here = c.loop-probe.invariant.sorting in
    marks_of_all c.args.endpoints.now here.done c.loop-probe.answers here.so_far

pub returns-in-Err : goal.returns-in-Err
returns-in-Err c =
    let left = c.in-Some.ensures.steps in
    let es = c.args.endpoints.now in
    let all = zip c.args.probes.items c.args.replies.items in
    let others = into_iter_items c.next.new.self.a in
    let unread = into_iter_items c.next.new.self.b in
    one_turned_away es all c.loop-probe.answers c.in-Some.probe c.in-Some.reply others unread
    (next_pair es all c.loop-probe.answers c.in-Some.probe c.in-Some.reply others unread _ _ left.0.0 left.1.0 c.loop-probe.invariant.sorting)
    c.take_in.new.answers c.in-Err.error c.in-Err.ensures

pub loop-probe-preserved : goal.loop-probe-preserved
loop-probe-preserved c =
    let left = c.in-Some.ensures.steps in
    let here = c.loop-probe.invariant in
    let es = c.args.endpoints.now in
    let all = zip c.args.probes.items c.args.replies.items in
    let others = into_iter_items c.next.new.self.a in
    let unread = into_iter_items c.next.new.self.b in
    let probes_shorter : into_iter_len c.next.new.self.a ≡ length others =
    (let was = here.probes_len in let gone = left.0.1 in let less = ap length left.0.0 in omega arith) in
    let replies_shorter : into_iter_len c.next.new.self.b ≡ length unread =
    (let was = here.replies_len in let gone = left.1.1 in let less = ap length left.1.0 in omega arith) in
    record {
      next = (tt, tt);
      finite = tt;
      probes_len = probes_shorter;
      replies_len = replies_shorter;
      sorting =
          one_sorted es all c.loop-probe.answers c.in-Some.probe c.in-Some.reply others unread
          (next_pair es all c.loop-probe.answers c.in-Some.probe c.in-Some.reply others unread _ _ left.0.0 left.1.0 here.sorting)
          c.take_in.new.answers c.in-Ok-take_in.ensures;
    }

pub returns : goal.returns
returns c =
    let here = c.loop-probe.invariant in
    all_sorted c.args.endpoints.now (zip c.args.probes.items c.args.replies.items) c.loop-probe.answers _ _
    (elim c.in-None.ensures.steps [ inl h ↦ inl (sym here.probes_len ∙ h.1.0) | inr h ↦ inr (sym here.replies_len ∙ h.1.0) ]) here.sorting
