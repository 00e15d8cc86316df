-- The plan over kept members, by the answers to ASKs, is that by the sources among the graphs of these members.
use Rattle.std.proofs.Common.{◌≡◌, ◌∙◌, ap, sym, subst, refl, ℕ, Bool, true, false, cond, ◌&&◌, List, [], ◌∷◌, ◌++◌, map, length, arith}
use Rattle.std.specs.Prelude.{All, filter, reverse}
use Rattle.std.specs.List.{zip}
use Rattle.std.proofs.lemmas.List.Elements.{All-filter}
use Rattle.fx_terms.specs.declared.triples.Triple.{Triple}
use Rattle.fx_outside.specs.Endpoints.{EndpointParts}
use Rattle.fx_algebra.specs.Units.{is_kept, of_kept, sources}
use Rattle.fx_algebra.specs.declared.queries.Query.{Query}
use Rattle.fx_algebra.proofs.KeptLemmas.{filter_alike, filter_both}
use Rattle.fx_keys.specs.Probes.{key_of}
use Rattle.fx_keys.specs.declared.probes.Probe.{Probe}
use Rattle.fx_sources.specs.Patterns.{patterns}
use Rattle.fx_sources.specs.Probes.{Entry, chosen, kept_members, kept_probes, members_of, missing, told}
use Rattle.fx_sources.specs.Sources as source
use Rattle.fx_sources.proofs.KeptLemmas.{chooses_kept}
use Rattle.fx_traffic.specs.Gains.{TellAll}
use Rattle.fx_walks.specs.Sections.{parts_by, parts_with, sections}
use Rattle.fx_walks.proofs.PartLemmas.{by_function}
use Rattle.fx_walks.proofs.SectionLemmas.{runs_have}
use Rattle.fx_wire.specs.Exchanges.{Seen}
use Rattle.fx_outcomes.specs.InRounds.{plan_over}
use Rattle.fx_outcomes.specs.Rounds.{AreAnswers, AreStillKept, kept_choice, kept_entries}
use Rattle.fx_outcomes.specs.declared.rounds.Answers.{Answers}
use Rattle.fx_outcomes.proofs.ChoiceLemmas.{as_many_graphs}

-- the answers of kept members
abbrev pub kept_answers : List Bool → List Entry → List Entry
kept_answers kept answers = filter (λ e. is_kept kept e.0.at) answers

abbrev pub truths_of : List Entry → List Bool
truths_of answers = map (λ (e : Entry). e.1) answers

-- ---- probes and their truths

zip_if : (b : Bool) (p : Probe) (t : Bool) (ps : List Probe) (es : List Entry) → zip ps (truths_of es) ≡ es → zip (cond b (p ∷ ps) ps) (truths_of (cond b ((p, t) ∷ es) es)) ≡ cond b ((p, t) ∷ es) es
zip_if true p t ps es h = ap (λ (v : List Entry). (p, t) ∷ v) h
zip_if false p t ps es h = h

-- those of kept members, each beside its truth, are the answers of these
pub zip_kept : (kept : List Bool) (ps : List Probe) (ts : List Bool) → length ts ≡ length ps → zip (kept_probes kept ps) (truths_of (kept_answers kept (zip ps ts))) ≡ kept_answers kept (zip ps ts)
zip_kept kept [] [] many = refl
zip_kept kept [] (t ∷ ts) many = absurd (omega (arith, many))
zip_kept kept (p ∷ ps) [] many = absurd (omega (arith, many))
zip_kept kept (p ∷ ps) (t ∷ ts) many = zip_if (is_kept kept p.at) p t (kept_probes kept ps) (kept_answers kept (zip ps ts)) (zip_kept kept ps ts (omega (arith, many)))

many_if : (b : Bool) (p : Probe) (t : Bool) (ps : List Probe) (es : List Entry) → length (truths_of es) ≡ length ps → length (truths_of (cond b ((p, t) ∷ es) es)) ≡ length (cond b (p ∷ ps) ps)
many_if true p t ps es h = omega (arith, h)
many_if false p t ps es h = h

pub many_kept : (kept : List Bool) (ps : List Probe) (ts : List Bool) → length ts ≡ length ps → length (truths_of (kept_answers kept (zip ps ts))) ≡ length (kept_probes kept ps)
many_kept kept [] [] many = refl
many_kept kept [] (t ∷ ts) many = absurd (omega (arith, many))
many_kept kept (p ∷ ps) [] many = absurd (omega (arith, many))
many_kept kept (p ∷ ps) (t ∷ ts) many = many_if (is_kept kept p.at) p t (kept_probes kept ps) (kept_answers kept (zip ps ts)) (many_kept kept ps ts (omega (arith, many)))

-- ---- who is kept of those that are kept

both_kept : (b c : Bool) → (c ≡ true → b ≡ true) → (b && c) ≡ c
both_kept true c h = refl
both_kept false true h = h refl
both_kept false false h = refl

kept_again : (kept before : List Bool) → AreStillKept kept before → (ps : List Probe) → kept_probes kept ps ≡ kept_probes kept (kept_probes before ps)
kept_again kept before still ps =
    filter_alike (λ (p : Probe). is_kept kept p.at) (λ (p : Probe). is_kept before p.at && is_kept kept p.at) (λ p. sym (both_kept (is_kept before p.at) (is_kept kept p.at) (still p.at))) ps
    ∙ filter_both (λ (p : Probe). is_kept before p.at) (λ (p : Probe). is_kept kept p.at) ps

-- so the probes that have an answer are those that were missing, of these members
pub kept_missing : (es : List EndpointParts) (probes : List Probe) (a : Answers) → AreAnswers es probes a → (kept : List Bool) → AreStillKept kept a.kept.items → kept_probes kept a.probes.items ≡ kept_probes kept probes
kept_missing es probes a fit kept still = kept_again kept a.kept.items still a.probes.items ∙ ap (kept_probes kept) fit.of_kept ∙ sym (kept_again kept a.kept.items still probes)

-- ---- the plan

map_both : {X Y Z : Type 0} (f : Y → Z) (g : X → Y) (xs : List X) → map (λ x. f (g x)) xs ≡ map f (map g xs)
map_both f g [] = refl
map_both f g (x ∷ xs) = ap (λ v. f (g x) ∷ v) (map_both f g xs)

-- by lists of members
pub kept_parts : (q : Query) (members : ℕ) (kept : List Bool) (entries : List Entry) → parts_by (sections q) (map (kept_members kept) (chosen q members entries)) ≡ parts_with (kept_choice kept entries members) q
kept_parts q members kept entries =
    let f = kept_choice kept entries members in
    ap (parts_by (sections q)) (sym (map_both (kept_members kept) (λ p. members_of entries members (key_of p)) (patterns q)) ∙ ap (map f) (sym (runs_have q)))
    ∙ by_function f (sections q)

abbrev pub IsByGraphs : Query → List Bool → List Probe → List Bool → List Entry → List (List Triple) → ℕ → Type 0
IsByGraphs q kept ps ts old graphs members =
    kept_probes kept ps ≡ kept_probes kept (missing q members old) → length ts ≡ length ps → parts_with (kept_choice kept (kept_entries kept (zip ps ts) old) members) q ≡ parts_with (sources (of_kept kept graphs)) q

pub by_kept_graphs : (q : Query) (kept : List Bool) (ps : List Probe) (ts : List Bool) (old : List Entry) (graphs : List (List Triple)) → All (source.Tells graphs) old → All (source.Tells graphs) (zip ps ts) → IsByGraphs q kept ps ts old graphs (length graphs)
by_kept_graphs q kept ps ts old graphs held answers same many =
    let n = length graphs in
    let lacked = kept_probes kept (missing q n old) in
    let own = truths_of (kept_answers kept (zip ps ts)) in
    let zipped : zip lacked own ≡ kept_answers kept (zip ps ts) = ap (λ (v : List Probe). zip v own) (sym same) ∙ zip_kept kept ps ts many in
    let as_many : length own ≡ length lacked = many_kept kept ps ts many ∙ ap length same in
    let true_of : All (source.Tells graphs) (zip lacked own) = subst (All (source.Tells graphs)) (sym zipped) (All-filter (λ e. is_kept kept e.0.at) (source.Tells graphs) (zip ps ts) answers) in
    let entries : told lacked own ++ old ≡ kept_entries kept (zip ps ts) old = ap (λ (v : List Entry). reverse v ++ old) zipped in
    sym (kept_parts q n kept (kept_entries kept (zip ps ts) old))
    ∙ ap (λ (v : List Entry). parts_by (sections q) (map (kept_members kept) (chosen q n v))) (sym entries)
    ∙ ap (parts_by (sections q)) (chooses_kept q kept graphs old own as_many held true_of ∙ ap (map (sources (of_kept kept graphs))) (sym (runs_have q)))
    ∙ by_function (sources (of_kept kept graphs)) (sections q)

pub plan_by_kept : (wires : List Seen) (es : List EndpointParts) (q : Query) (old : List Entry) (a : Answers) → AreAnswers es (missing q (length es) old) a → (kept : List Bool) → AreStillKept kept a.kept.items → (graphs : List (List Triple)) → TellAll wires es graphs
    → All (source.Tells graphs) old → All (source.Tells graphs) (zip a.probes.items a.truths.items) → plan_over es q old a kept ≡ parts_with (sources (of_kept kept graphs)) q
plan_by_kept wires es q old a fit kept still graphs tell held answers =
    subst (IsByGraphs q kept a.probes.items a.truths.items old graphs) (as_many_graphs wires es graphs tell)
    (by_kept_graphs q kept a.probes.items a.truths.items old graphs held answers) (kept_missing es (missing q (length es) old) a fit kept still) fit.many
