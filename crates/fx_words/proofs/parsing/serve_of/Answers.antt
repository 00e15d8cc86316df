use Rattle.std.proofs.Common.{◌∙◌, sym, subst, codes, map, drop, option_and_then, string_bytes, Err}
use Rattle.clap.specs.Simple.{matches_of}
use Rattle.clap.specs.Faults.{fault_of}
use Rattle.fx_words.specs.declared.commands.CommandError.{CommandError}
use Rattle.fx_words.specs.Commands.{GivesCommand, query_words, serve_asked}
use Rattle.fx_words.specs.Parsed.{serve_app, serve_given, serve_read}
use Rattle.fx_words.proofs.QueryLemmas.{serve_meet, serve_plain, serve_simple}
use Rattle.fx_words.proofs.MeetLemmas.{are_utf8}
use Rattle.fx_words.proofs.ParseLemmas.{asked_of, command_refused, kinds_of, read_of}
use Rattle.fx_words.proofs.parsing.serve_of.Goals as goal

pub returns-in-Ok-clause-asked : goal.returns-in-Ok-clause-asked
returns-in-Ok-clause-asked c =
    let words = map (λ w. string_bytes w) c.args.words.now in
    let app = serve_app in
    let form_is = c.in_ok-form.ensures in
    let wanted = option_and_then serve_asked (query_words (drop 1 words)) in
    let meet = serve_meet words (are_utf8 c.args.words.now) in
    let asked = asked_of serve_read app c.in_ok-form.form c.in-Ok.found words wanted form_is serve_simple c.in-Ok.ensures.kinds meet in
    let read = read_of app c.in_ok-form.form c.in-Ok.found words in
    let at_0 = c.get_str.ensures ∙ read (codes "REGISTRY") form_is serve_plain c.in-Ok.ensures.matches in
    let at_1 = c.get_str-in-Ok.ensures ∙ read (codes "ADDRESS") form_is serve_plain c.in-Ok.ensures.matches in
    let at_2 = c.get_str-in-Ok-2.ensures ∙ read (codes "COUNT") form_is serve_plain c.in-Ok.ensures.matches in
    let at_3 = c.get_str-in-Ok-3.ensures ∙ read (codes "workers") form_is serve_plain c.in-Ok.ensures.matches in
    let at_4 = c.get_str-in-Ok-4.ensures ∙ read (codes "block") form_is serve_plain c.in-Ok.ensures.matches in
    subst (GivesCommand c.serve_parts.result) ((λ i. serve_given (at_0 i) (at_1 i) (at_2 i) (at_3 i) (at_4 i)) ∙ sym asked) c.serve_parts.ensures.asked

pub returns-in-Err-clause-asked : goal.returns-in-Err-clause-asked
returns-in-Err-clause-asked c =
    let words = map (λ w. string_bytes w) c.args.words.now in
    let app = serve_app in
    let wanted = option_and_then serve_asked (query_words (drop 1 words)) in
    let kinds = kinds_of app c.in_ok-form.form c.in-Err.error words c.in_ok-form.ensures serve_simple c.in-Err.ensures.kinds in
    subst (λ (x : CommandError). GivesCommand (Err x) wanted) (sym c.refusal.ensures)
    (command_refused serve_read (fault_of app words) (matches_of app words) c.in-Err.error wanted kinds (serve_meet words (are_utf8 c.args.words.now)))
