use Rattle.std.proofs.Common.{rules, sym, ◌∙◌}
use Rattle.std.specs.Str.{chars}
use Rattle.fx_tokens.proofs.TextLaws.{prefix_none, prefix_more, prefix_end, written, ended}
use Rattle.fx_tokens.proofs.decoding.prefix.Goals as goal

pub returns-then-first-eq58 : goal.returns-then-first-eq58
returns-then-first-eq58 c =
    let p = prefix_end (chars c.each.rest.now) (chars c.in-Some.behind.now) c.in-Some.first c.in-Some.ensures c.if-first-eq58.true in
    (ended _ _ _ p.0 c.each.invariant.same, sym p.1 ∙ c.each.invariant.behind)

pub each-preserved : goal.each-preserved
each-preserved c =
    let p = prefix_more (chars c.each.rest.now) (chars c.in-Some.behind.now) c.in-Some.first c.in-Some.ensures c.if-first-eq58.false in
    record {
      utf8 = search rules;
      same = written _ _ _ _ _ _ c.in_ok-push.ensures.bytes p.0 c.each.invariant.same;
      behind = sym p.1 ∙ c.each.invariant.behind;
    }

pub returns : goal.returns
returns c =
    let p = prefix_none (chars c.each.rest.now) c.in_default.ensures in
    (ended _ _ _ p.0 c.each.invariant.same, c.in_default.ensures ∙ sym p.1 ∙ c.each.invariant.behind)
