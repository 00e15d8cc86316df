use Rattle.std.proofs.Common.{◌∙◌, ◌≤◌, ◌++◌, ap, sym, subst, All, List, drop, length}
use Rattle.std.proofs.lemmas.List.{take-append-drop}
use Rattle.std.proofs.lemmas.List.Elements.{All-drop, All-take}
use Rattle.fx_algebra.specs.declared.units.Row.{Row}
use Rattle.fx_flows.proofs.teams.batches_apart.Goals as goal

pub returns-clause-whole : goal.returns-clause-whole
returns-clause-whole c =
    let at = c.args.count in
    let all = c.args.batches.now in
    sym (take-append-drop at all) ∙ ap (λ (v : List (List Row)). v ++ drop at all) (sym c.split_at.ensures.front) ∙ ap (λ (v : List (List Row)). c.split_at.result.0.now ++ v) (sym c.split_at.ensures.back)

pub returns-clause-first : goal.returns-clause-first
returns-clause-first c = subst (All (λ (rows : List Row). length rows ≤ 64)) (sym c.split_at.ensures.front) (All-take (λ (rows : List Row). length rows ≤ 64) c.args.count c.args.batches.now c.requires.few)

pub returns-clause-others : goal.returns-clause-others
returns-clause-others c = subst (All (λ (rows : List Row). length rows ≤ 64)) (sym c.split_at.ensures.back) (All-drop (λ (rows : List Row). length rows ≤ 64) c.args.count c.args.batches.now c.requires.few)
