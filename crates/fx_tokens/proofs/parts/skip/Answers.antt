use Rattle.std.proofs.Common.{rules, sym, ◌∙◌}
use Rattle.std.specs.Str.{chars}
use Rattle.fx_tokens.specs.Classes.{holds}
use Rattle.fx_tokens.specs.Scan.{one}
use Rattle.fx_tokens.proofs.Readers.{step, unit_one, skip_step, skip_end, read_smaller}
use Rattle.fx_tokens.proofs.parts.skip.Goals as goal

pub each-preserved : goal.each-preserved
each-preserved c = record {
  utf8 = search rules;
  same = sym (skip_step (step (unit_one (holds c.args.class))) (chars c.each.rest.now) (chars c.in-Some.more.now) (sym c.in-Some.ensures)) ∙ c.each.invariant.same;
}

pub each-smaller : goal.each-smaller
each-smaller c = read_smaller (step (unit_one (holds c.args.class))) (chars c.each.rest.now) (chars c.in-Some.more.now) (sym c.in-Some.ensures)

pub returns : goal.returns
returns c = sym (skip_end (one (holds c.args.class)) (chars c.each.rest.now) (sym c.in_default.ensures)) ∙ c.each.invariant.same
