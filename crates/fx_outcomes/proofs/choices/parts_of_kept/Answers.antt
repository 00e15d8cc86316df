use Rattle.std.proofs.Common.{◌≡◌, ◌∙◌, ◌++◌, ◌<◌, List, IfOk, ap, sym, subst, length}
use Rattle.std.specs.Prelude.{All}
use Rattle.std.specs.List.{zip}
use Rattle.std.proofs.lemmas.List.{length-map}
use Rattle.fx_plan.specs.declared.parts.Part.{Part}
use Rattle.fx_sources.specs.Probes.{chosen, kept_members, missing, told}
use Rattle.fx_walks.specs.Sections.{parts_by, parts_with, sections}
use Rattle.fx_walks.proofs.PlanLemmas.{as_many_patterns}
use Rattle.fx_outcomes.specs.Choices.{of_members}
use Rattle.fx_outcomes.specs.Rounds.{kept_choice, kept_entries}
use Rattle.fx_outcomes.proofs.KeptLemmas.{AreBySources, all_of_kept, as_many_truths, parts_by_kept, parts_by_sources, those_parts}
use Rattle.fx_outcomes.proofs.choices.parts_of_kept.Goals as goal

pub choose_of_kept-requires-clause-asked : goal.choose_of_kept-requires-clause-asked
choose_of_kept-requires-clause-asked c =
    let es = c.args.registry.now in
    c.as_slice.ensures.value
    ∙ c.in_ok-probes.ensures.probes
    ∙ all_of_kept es (missing c.args.query.now (length es) c.args.cache.now) c.args.answers.now c.args.kept.now c.requires.fit c.requires.still

pub choose_of_kept-requires-clause-lengths : goal.choose_of_kept-requires-clause-lengths
choose_of_kept-requires-clause-lengths c =
    ap length (c.as_slice.ensures.value ∙ c.in_ok-probes.ensures.probes)
    ∙ as_many_truths (of_members c.args.kept.now (zip c.args.answers.now.probes.items c.args.answers.now.truths.items))
    ∙ sym (ap length (c.as_slice-2.ensures.value ∙ c.in_ok-probes.ensures.truths))

pub parts-requires : goal.parts-requires
parts-requires c =
    let q = c.args.query.now in
    let n = length c.args.registry.now in
    let known = told c.as_slice.result.now c.as_slice-2.result.now ++ c.args.cache.now in
    ap length (c.as_slice-3.ensures ∙ c.in_ok-sources.ensures.chosen) ∙ length-map (chosen q n known) (kept_members c.args.kept.now) ∙ as_many_patterns q n known

pub returns-clause-parts : goal.returns-clause-parts
returns-clause-parts c =
    let q = c.args.query.now in
    let n = length c.args.registry.now in
    let answers = zip c.args.answers.now.probes.items c.args.answers.now.truths.items in
    subst (λ (v : List Part). IfOk c.parts.result (λ parts. parts.items ≡ v))
    (ap (parts_by (sections q)) (c.as_slice-3.ensures ∙ c.in_ok-sources.ensures.chosen)
    ∙ parts_by_kept q n c.args.cache.now answers c.args.kept.now c.as_slice.result.now c.as_slice-2.result.now (c.as_slice.ensures.value ∙ c.in_ok-probes.ensures.probes) (c.as_slice-2.ensures.value ∙ c.in_ok-probes.ensures.truths))
    c.parts.ensures.parts

pub returns-clause-within : goal.returns-clause-within
returns-clause-within c =
    let n = length c.args.registry.now in
    c.parts.ensures.within n (subst (All (All (λ at. at < n))) (sym c.as_slice-3.ensures) c.in_ok-sources.ensures.within)

pub returns-clause-sources : goal.returns-clause-sources
returns-clause-sources c =
    let es = c.args.registry.now in
    let q = c.args.query.now in
    let old = c.args.cache.now in
    let a = c.args.answers.now in
    let kept = c.args.kept.now in
    those_parts (parts_with (kept_choice kept (kept_entries kept (zip a.probes.items a.truths.items) old) (length es)) q) (AreBySources es q old a kept)
    (parts_by_sources es q old a kept c.requires.fit c.requires.still) c.parts.result (returns-clause-parts c)
