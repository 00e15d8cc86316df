use Rattle.std.proofs.Common.{◌∙◌, ◌++◌, ap, sym, subst, All, List, ℕ, drop}
use Rattle.std.proofs.lemmas.List.{take-append-drop}
use Rattle.std.proofs.lemmas.List.Elements.{All-drop, All-take}
use Rattle.fx_flows.specs.Forms.{CanAsk}
use Rattle.fx_flows.proofs.teams.parted.Goals as goal

pub returns-clause-whole : goal.returns-clause-whole
returns-clause-whole g c =
    let at = c.args.at in
    let all = c.args.members.now in
    sym (take-append-drop at all) ∙ ap (λ (v : List ℕ). v ++ drop at all) (sym c.split_at.ensures.front) ∙ ap (λ (v : List ℕ). c.split_at.result.0.now ++ v) (sym c.split_at.ensures.back)

pub returns-clause-first : goal.returns-clause-first
returns-clause-first g c = subst (All (CanAsk c.args._endpoints.now (g.F.AsksMembers.formed c.args._forms.now))) (sym c.split_at.ensures.front) (All-take (CanAsk c.args._endpoints.now (g.F.AsksMembers.formed c.args._forms.now)) c.args.at c.args.members.now c.requires.within)

pub returns-clause-others : goal.returns-clause-others
returns-clause-others g c = subst (All (CanAsk c.args._endpoints.now (g.F.AsksMembers.formed c.args._forms.now))) (sym c.split_at.ensures.back) (All-drop (CanAsk c.args._endpoints.now (g.F.AsksMembers.formed c.args._forms.now)) c.args.at c.args.members.now c.requires.within)
