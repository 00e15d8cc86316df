use Rattle.std.proofs.Common.{◌∙◌, sym, ap₂, subst, codes, map, drop, option_and_then, string_bytes, Err}
use Rattle.clap.specs.Simple.{matches_of}
use Rattle.clap.specs.Faults.{fault_of}
use Rattle.fx_words.specs.declared.commands.CommandError.{CommandError}
use Rattle.fx_words.specs.Commands.{GivesCommand, member_asked, positionals}
use Rattle.fx_words.specs.Parsed.{member_app, member_read, served_by, two_given}
use Rattle.fx_words.proofs.FormLemmas.{member_meet, member_plain, member_simple}
use Rattle.fx_words.proofs.MeetLemmas.{are_utf8}
use Rattle.fx_words.proofs.ParseLemmas.{asked_of, command_refused, kinds_of, read_of}
use Rattle.fx_words.proofs.parsing.member_of.Goals as goal

pub returns-in-Ok-clause-asked : goal.returns-in-Ok-clause-asked
returns-in-Ok-clause-asked c =
    let words = map (λ w. string_bytes w) c.args.words.now in
    let app = member_app in
    let form_is = c.in_ok-form.ensures in
    let asked = asked_of member_read app c.in_ok-form.form c.in-Ok.found words (option_and_then member_asked (positionals (drop 1 words))) form_is member_simple c.in-Ok.ensures.kinds (member_meet words (are_utf8 c.args.words.now)) in
    let read = read_of app c.in_ok-form.form c.in-Ok.found words in
    let at_0 = c.get_str.ensures ∙ read (codes "GRAPH") form_is member_plain c.in-Ok.ensures.matches in
    let at_1 = c.get_str-in-Ok.ensures ∙ read (codes "ADDRESS") form_is member_plain c.in-Ok.ensures.matches in
    let at_2 = c.get_str-in-Ok-2.ensures ∙ read (codes "COUNT") form_is member_plain c.in-Ok.ensures.matches in
    subst (GivesCommand c.member_parts.result) (ap₂ served_by (ap₂ two_given at_0 at_1) at_2 ∙ sym asked) c.member_parts.ensures.asked

pub returns-in-Err-clause-asked : goal.returns-in-Err-clause-asked
returns-in-Err-clause-asked c =
    let words = map (λ w. string_bytes w) c.args.words.now in
    let app = member_app in
    let wanted = option_and_then member_asked (positionals (drop 1 words)) in
    let kinds = kinds_of app c.in_ok-form.form c.in-Err.error words c.in_ok-form.ensures member_simple c.in-Err.ensures.kinds in
    subst (λ (x : CommandError). GivesCommand (Err x) wanted) (sym c.refusal.ensures)
    (command_refused member_read (fault_of app words) (matches_of app words) c.in-Err.error wanted kinds (member_meet words (are_utf8 c.args.words.now)))
