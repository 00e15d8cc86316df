use Rattle.std.proofs.Common.{rules, sym, ap, ◌∙◌, ◌++◌}
use Rattle.std.specs.Prelude.{string_bytes}
use Rattle.std.specs.Str.{chars, encode_utf8_all}
use Rattle.fx_tokens.proofs.TextLaws.{local_none, local_more, local_skip, written, ended}
use Rattle.fx_tokens.proofs.decoding.local.Goals as goal

pub each-preserved-in_ok-push : goal.each-preserved-in_ok-push
each-preserved-in_ok-push c = record {
  utf8 = search rules;
  same = written _ _ _ _ _ _ c.in_ok-push.ensures.bytes (local_more (chars c.each.rest.now) (chars c.in-Some.behind.now) c.in-Some.first c.in-Some.ensures c.if-first-ne92.true) c.each.invariant.same;
}

pub each-preserved : goal.each-preserved
each-preserved c = record {
  utf8 = search rules;
  same = ap (λ s. string_bytes c.each.out ++ encode_utf8_all s) (sym (local_skip (chars c.each.rest.now) (chars c.in-Some.behind.now) c.in-Some.first c.in-Some.ensures c.if-first-ne92.false)) ∙ c.each.invariant.same;
}

pub returns : goal.returns
returns c = ended _ _ _ (local_none (chars c.each.rest.now) c.in_default.ensures) c.each.invariant.same
