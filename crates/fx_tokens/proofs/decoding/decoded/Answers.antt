use Rattle.std.proofs.Common.{rules, sym, ap, ◌∙◌, ◌∷◌, ◌-◌}
use Rattle.std.specs.Str.{chars}
use Rattle.fx_tokens.specs.Decoding.{unescaped}
use Rattle.fx_tokens.proofs.TextLaws.{unescaped_none, unescaped_last, unescaped_closed, unescaped_more, written, ended}
use Rattle.fx_tokens.proofs.decoding.decoded.Goals as goal

pub returns-then-closes : goal.returns-then-closes
returns-then-closes c = ended _ _ _ (unescaped_closed c.args.closing c.each.left (chars c.each.rest.now) (sym c.closes.ensures ∙ c.if-closes.true)) c.each.invariant.same

pub returns-in_default : goal.returns-in_default
returns-in_default c = ended _ _ _ (unescaped_none c.args.closing c.each.left (chars c.each.rest.now) c.in_default.ensures) c.each.invariant.same

pub each-preserved : goal.each-preserved
each-preserved c = record {
  utf8 = search rules;
  same = written _ _ _ _ _ _ c.in_ok-push.ensures.bytes
      (unescaped_more c.args.closing c.each.left (chars c.each.rest.now) (chars c.in-Some.behind.now) c.in-Some.first c.each-test.true (sym c.closes.ensures ∙ c.if-closes.false) c.in-Some.ensures
      ∙ ap (λ p. p.0 ∷ unescaped c.args.closing (c.each.left - 1) p.1) (sym c.next-named.ensures))
      c.each.invariant.same;
}

pub returns : goal.returns
returns c = ended _ _ _ (unescaped_last c.args.closing c.each.left (chars c.each.rest.now) c.each-test.false) c.each.invariant.same
