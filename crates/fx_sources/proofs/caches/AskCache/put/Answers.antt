use Rattle.std.proofs.Common.{◌≡◌, ◌∙◌, ◌∷◌, ap, sym, subst, take, false}
use Rattle.fx_sources.specs.Probes.{is_held}
use Rattle.fx_sources.proofs.EntryLemmas.{put_new}
use Rattle.fx_sources.proofs.caches.AskCache.put.Goals as goal

pub returns-clause-ok : goal.returns-clause-ok
returns-clause-ok c =
    let here = c.self.inside.entries in
    let unheld : is_held here.entries c.args.probe ≡ false = subst (λ es. is_held es c.args.probe ≡ false) (sym c.self.view_is) c.requires in
    ap (λ m. m.entries) c.in_ok-put.ensures.entries
    ∙ put_new here c.args.probe c.args.truth c.self.invariant unheld
    ∙ ap (λ es. take 4096 ((c.args.probe, c.args.truth) ∷ es)) c.self.view_is
