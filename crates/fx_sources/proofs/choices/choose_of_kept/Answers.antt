use Rattle.std.proofs.Common.{◌≡◌, ◌∙◌, ◌++◌, length, map, ap}
use Rattle.fx_keys.specs.Probes.{key_of}
use Rattle.fx_sources.specs.Probes as spec
use Rattle.fx_sources.specs.Patterns.{patterns}
use Rattle.fx_sources.proofs.EntryLemmas.{known_before, same_choice}
use Rattle.fx_sources.proofs.KeptLemmas.{kept_of_each, kept_choice_within}
use Rattle.fx_sources.proofs.choices.choose_of_kept.Goals as goal

pub returns : goal.returns
returns c =
    let count = length c.args.registry.now in
    let kept = c.args.kept.now in
    let here = c.in_ok-answers.answers.entries in
    let told = spec.told c.args.probes.now c.args.truths.now in
    let same = same_choice (here ++ c.args.cache.now) (told ++ c.args.cache.now) count (patterns c.args.query.now) (λ p. known_before here told c.args.cache.now p (c.in_ok-answers.ensures p)) in
    let found : c.in_ok-members_for_all.field-0 ≡ map (spec.kept_members kept) (spec.chosen c.args.query.now count (told ++ c.args.cache.now)) =
    c.in_ok-members_for_all.ensures
    ∙ ap (λ n. map (λ p. spec.kept_members kept (spec.members_of (here ++ c.args.cache.now) n (key_of p))) c.as_slice.result.now) (ap length c.endpoints.ensures.value)
    ∙ ap (map (λ p. spec.kept_members kept (spec.members_of (here ++ c.args.cache.now) count (key_of p)))) (c.as_slice.ensures.value ∙ c.in_ok-patterns.ensures)
    ∙ kept_of_each kept (here ++ c.args.cache.now) count (patterns c.args.query.now)
    ∙ ap (map (spec.kept_members kept)) same in
    record { chosen = found; within = kept_choice_within c.args.query.now kept count (told ++ c.args.cache.now) _ found }
