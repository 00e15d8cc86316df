use Rattle.std.proofs.Common.{◌∙◌, ap, sym}
use Rattle.std.proofs.lemmas.Str.{chars_past_char}
use Rattle.fx_terms.specs.Names.{starts_as_name}
use Rattle.fx_terms.proofs.names.starts_as_name.Goals as goal

pub returns-in-Some : goal.returns-in-Some
returns-in-Some c =
    c.is_name_start.ensures
    ∙ sym (ap starts_as_name (chars_past_char c.args.text.now c.next.new.self.rest.now c.in-Some.first c.utf8.text (sym c.chars.ensures.rest ∙ c.in-Some.ensures.steps.0)))
