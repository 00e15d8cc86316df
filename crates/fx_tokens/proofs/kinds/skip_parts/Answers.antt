use Rattle.std.proofs.Common.{rules, sym, ◌∙◌}
use Rattle.std.specs.Str.{chars}
use Rattle.fx_tokens.specs.Scan.{part_of}
use Rattle.fx_tokens.proofs.KindLaws.{part_step}
use Rattle.fx_tokens.proofs.Readers.{skip_step, skip_end, read_smaller}
use Rattle.fx_tokens.proofs.kinds.skip_parts.Goals as goal

pub each-preserved : goal.each-preserved
each-preserved c = record {
  utf8 = search rules;
  same = sym (skip_step (part_step c.args.part) (chars c.each.rest.now) (chars c.in-Some.more.now) (sym c.in-Some.ensures)) ∙ c.each.invariant.same;
}

pub each-smaller : goal.each-smaller
each-smaller c = read_smaller (part_step c.args.part) (chars c.each.rest.now) (chars c.in-Some.more.now) (sym c.in-Some.ensures)

pub returns : goal.returns
returns c = sym (skip_end (part_of c.args.part) (chars c.each.rest.now) (sym c.in_default.ensures)) ∙ c.each.invariant.same
