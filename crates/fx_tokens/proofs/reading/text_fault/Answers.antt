use Rattle.std.proofs.Common.{arith}
use Rattle.std.specs.Str.{chars}
use Rattle.fx_tokens.proofs.Turns.{text_rest_within, bad_escape, bad_unclosed}
use Rattle.fx_tokens.proofs.reading.text_fault.Goals as goal

pub overflow_sub-result : goal.overflow_sub-result
overflow_sub-result c =
    let h = text_rest_within c.args.quote c.args.place c.args.size (chars c.args.text.now) (chars c.skip_parts-rest.result.now) c.requires c.skip_parts-rest.ensures in
    omega (arith, h, c.width.ensures)

pub returns-in-Some : goal.returns-in-Some
returns-in-Some c =
    bad_escape c.args.quote c.args.place c.args.size c.width.result (chars c.args.text.now) (chars c.skip_parts-rest.result.now) (chars c.in-Some.field-0.now) c.requires c.skip_parts-rest.ensures c.width.ensures c.in-Some.ensures

pub returns-in-None : goal.returns-in-None
returns-in-None c = bad_unclosed c.args.quote c.args.place c.args.size (chars c.args.text.now) (chars c.skip_parts-rest.result.now) c.requires c.skip_parts-rest.ensures c.in-None.ensures
