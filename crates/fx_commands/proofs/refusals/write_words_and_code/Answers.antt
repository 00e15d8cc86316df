use Rattle.std.specs.Prelude.{codes}
use Rattle.std.specs.Fmt.{decimal}
use Rattle.std.proofs.Common.{refl, sym, subst, List, ℕ, [], ◌∷◌, ◌++◌, append_assoc}
use Rattle.fx_local.specs.Lines.{Gains}
use Rattle.fx_local.proofs.GainLemmas.{gains_cut, gains_then}
use Rattle.fx_commands.proofs.refusals.write_words_and_code.Goals as goal

pub returns-in-Ok : goal.returns-in-Ok
returns-in-Ok g c = λ told.
    subst (λ (t : List ℕ). Gains (g.E.Ends.held c.args.err.now) (g.E.Ends.held c.write_words_before_code.new.err) (g.E.Ends.write_faults c.args.err.now) (g.E.Ends.write_faults c.write_words_before_code.new.err) (codes ": " ++ t)) (sym (append_assoc c.args.words.now (32 ∷ decimal c.args.code) (10 ∷ [])))
    (gains_then _ _ _ _ _ _ (codes ": ") _ (c.in-Ok.ensures.whole told) c.in-Ok.ensures.kept (c.write_words_before_code.ensures told))

pub returns-in_default : goal.returns-in_default
returns-in_default g c = λ told. gains_cut _ _ _ _ (codes ": ") _ (c.in_default.ensures.front told) (c.in_default.ensures.failed refl)
