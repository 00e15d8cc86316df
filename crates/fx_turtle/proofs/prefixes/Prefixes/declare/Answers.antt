use Rattle.std.proofs.Common.{◌∙◌, sym, ap, refl, Some, if◌then◌else◌}
use Rattle.std.specs.Str.{bytes_eq}
use Rattle.fx_grammar.specs.Grammar.{Prefixes, declared}
use Rattle.fx_readers.proofs.PrefixLaws.{found_put}
use Rattle.fx_turtle.proofs.Keeping.{found_kept}
use Rattle.fx_turtle.proofs.prefixes.Prefixes.declare.Goals as goal

pub returns : goal.returns
returns c = λ q.
    found_kept c.insert.new.self.entries q
    ∙ found_put c.self.inside.latest c.insert.new.self c.in_ok-text.text c.args.iri c.args.prefix.now c.args.iri c.in_ok-text.ensures.ok refl c.in_ok-insert.ensures.updates q
    ∙ ap (λ o. if bytes_eq c.args.prefix.now q then Some c.args.iri else o) (sym (found_kept c.self.inside.latest.entries q) ∙ ap (λ (ps : Prefixes). declared ps q) c.self.view_is)
