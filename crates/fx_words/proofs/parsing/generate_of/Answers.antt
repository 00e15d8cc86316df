use Rattle.std.proofs.Common.{◌∙◌, sym, ap, subst, codes, map, drop, option_and_then, string_bytes, Err}
use Rattle.clap.specs.Simple.{matches_of}
use Rattle.clap.specs.Faults.{fault_of}
use Rattle.fx_words.specs.declared.commands.CommandError.{CommandError}
use Rattle.fx_words.specs.Commands.{GivesCommand, generate_asked, positionals}
use Rattle.fx_words.specs.Parsed.{generate_app, generate_read, generate_given}
use Rattle.fx_words.proofs.FormLemmas.{generate_meet, generate_plain, generate_simple}
use Rattle.fx_words.proofs.MeetLemmas.{are_utf8}
use Rattle.fx_words.proofs.ParseLemmas.{asked_of, command_refused, kinds_of, read_of}
use Rattle.fx_words.proofs.parsing.generate_of.Goals as goal

pub returns-in-Ok-clause-asked : goal.returns-in-Ok-clause-asked
returns-in-Ok-clause-asked c =
    let words = map (λ w. string_bytes w) c.args.words.now in
    let app = generate_app in
    let form_is = c.in_ok-form.ensures in
    let asked = asked_of generate_read app c.in_ok-form.form c.in-Ok.found words (option_and_then generate_asked (positionals (drop 1 words))) form_is generate_simple c.in-Ok.ensures.kinds (generate_meet words (are_utf8 c.args.words.now)) in
    let read = read_of app c.in_ok-form.form c.in-Ok.found words in
    let at_0 = c.get_str.ensures ∙ read (codes "N") form_is generate_plain c.in-Ok.ensures.matches in
    subst (GivesCommand c.generate_parts.result) (ap generate_given at_0 ∙ sym asked) c.generate_parts.ensures.asked

pub returns-in-Err-clause-asked : goal.returns-in-Err-clause-asked
returns-in-Err-clause-asked c =
    let words = map (λ w. string_bytes w) c.args.words.now in
    let app = generate_app in
    let wanted = option_and_then generate_asked (positionals (drop 1 words)) in
    let kinds = kinds_of app c.in_ok-form.form c.in-Err.error words c.in_ok-form.ensures generate_simple c.in-Err.ensures.kinds in
    subst (λ (x : CommandError). GivesCommand (Err x) wanted) (sym c.refusal.ensures)
    (command_refused generate_read (fault_of app words) (matches_of app words) c.in-Err.error wanted kinds (generate_meet words (are_utf8 c.args.words.now)))
