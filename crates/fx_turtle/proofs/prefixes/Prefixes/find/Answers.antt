use Rattle.std.proofs.Common.{◌∙◌, sym, ap}
use Rattle.fx_grammar.specs.Grammar.{Prefixes, declared}
use Rattle.fx_turtle.proofs.Keeping.{found_kept}
use Rattle.fx_turtle.proofs.prefixes.Prefixes.find.Goals as goal

pub returns : goal.returns
returns c = c.get.ensures.value ∙ sym (found_kept c.self.inside.latest.entries c.args.prefix.now) ∙ ap (λ (ps : Prefixes). declared ps c.args.prefix.now) c.self.view_is
