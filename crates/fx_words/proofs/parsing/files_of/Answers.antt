use Rattle.std.proofs.Common.{◌∙◌, sym, ap₂, subst, codes, map, drop, option_and_then, string_bytes, Err}
use Rattle.clap.specs.Simple.{matches_of}
use Rattle.clap.specs.Faults.{fault_of}
use Rattle.fx_words.specs.declared.commands.CommandError.{CommandError}
use Rattle.fx_words.specs.Commands.{GivesFiles, two_files, positionals}
use Rattle.fx_words.specs.Parsed.{files_app, files_read, two_given}
use Rattle.fx_words.proofs.FormLemmas.{files_meet, files_plain, files_simple}
use Rattle.fx_words.proofs.MeetLemmas.{are_utf8}
use Rattle.fx_words.proofs.ParseLemmas.{asked_of, files_refused, kinds_of, read_of}
use Rattle.fx_words.proofs.parsing.files_of.Goals as goal

pub returns-in-Ok : goal.returns-in-Ok
returns-in-Ok c =
    let words = map (λ w. string_bytes w) c.args.words.now in
    let app = files_app c.args.name.now in
    let form_is = c.in_ok-form.ensures in
    let asked = asked_of files_read app c.in_ok-form.form c.in-Ok.found words (option_and_then two_files (positionals (drop 1 words))) form_is (files_simple c.args.name.now) c.in-Ok.ensures.kinds (files_meet c.args.name.now words (are_utf8 c.args.words.now)) in
    let read = read_of app c.in_ok-form.form c.in-Ok.found words in
    let at_0 = c.get_str.ensures ∙ read (codes "FILE") form_is (files_plain c.args.name.now) c.in-Ok.ensures.matches in
    let at_1 = c.get_str-in-Ok.ensures ∙ read (codes "QUERY") form_is (files_plain c.args.name.now) c.in-Ok.ensures.matches in
    subst (GivesFiles c.two_files.result) (ap₂ two_given at_0 at_1 ∙ sym asked) c.two_files.ensures

pub returns-in-Err : goal.returns-in-Err
returns-in-Err c =
    let words = map (λ w. string_bytes w) c.args.words.now in
    let app = files_app c.args.name.now in
    let wanted = option_and_then two_files (positionals (drop 1 words)) in
    let kinds = kinds_of app c.in_ok-form.form c.in-Err.error words c.in_ok-form.ensures (files_simple c.args.name.now) c.in-Err.ensures.kinds in
    subst (λ (x : CommandError). GivesFiles (Err x) wanted) (sym c.refusal.ensures)
    (files_refused files_read (fault_of app words) (matches_of app words) c.in-Err.error wanted kinds (files_meet c.args.name.now words (are_utf8 c.args.words.now)))
