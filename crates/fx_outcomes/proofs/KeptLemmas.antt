-- The parts of a query over the members that are kept.
use Rattle.std.proofs.Common.{◌≡◌, ◌∙◌, ap, sym, subst, refl, ℕ, Bool, true, false, cond, List, [], ◌∷◌, ◌++◌, map, length, reverse, IfOk, Result, Ok, Err, arith, append-nil, append_assoc, ◌⊎◌}
use Rattle.std.specs.Prelude.{All}
use Rattle.std.specs.List.{zip}
use Rattle.std.proofs.lemmas.List.{length-map}
use Rattle.std.specs.declared.alloc.Global.{Global}
use Rattle.std.specs.declared.vec.Vec.{Vec}
use Rattle.fx_terms.specs.declared.allocation.Memory.{Memory}
use Rattle.fx_terms.specs.declared.triples.Triple.{Triple}
use Rattle.fx_outside.specs.Endpoints.{EndpointParts}
use Rattle.fx_algebra.specs.Units.{is_kept, of_kept, sources}
use Rattle.fx_algebra.specs.declared.queries.Query.{Query}
use Rattle.fx_keys.specs.declared.probes.Probe.{Probe}
use Rattle.fx_plan.specs.declared.parts.Part.{Part}
use Rattle.fx_sources.specs.Probes.{Entry, chosen, kept_members, kept_probes, missing, told}
use Rattle.fx_sources.specs.Sources as source
use Rattle.fx_sources.proofs.EntryLemmas.{no_pair}
use Rattle.fx_walks.specs.Sections.{parts_by, parts_with, sections}
use Rattle.fx_outcomes.specs.Choices.{of_members, probes_in, truths_of}
use Rattle.fx_outcomes.specs.Rounds.{AreAnswers, AreStillKept, kept_choice, kept_entries}
use Rattle.fx_outcomes.specs.declared.rounds.Answers.{Answers}
use Rattle.fx_outcomes.proofs.KeptPlanLemmas.{IsByGraphs, by_kept_graphs, kept_missing, kept_parts}
use Rattle.fx_outcomes.proofs.MembersLemmas.{zip_back}

-- ---- what is known of kept members

probes_if : (b : Bool) (p : Probe) (truth : Bool) (es : List Entry) (ps : List Probe) → probes_in es ≡ ps → probes_in (cond b ((p, truth) ∷ es) es) ≡ cond b (p ∷ ps) ps
probes_if true p truth es ps e = ap (λ (v : List Probe). p ∷ v) e
probes_if false p truth es ps e = e

-- their probes are those of kept members
probes_of_members : (kept : List Bool) (ps : List Probe) (truths : List Bool) → length truths ≡ length ps → probes_in (of_members kept (zip ps truths)) ≡ kept_probes kept ps
probes_of_members kept [] truths h = refl
probes_of_members kept (p ∷ ps) [] h = absurd (omega (arith, h))
probes_of_members kept (p ∷ ps) (truth ∷ truths) h =
    probes_if (is_kept kept p.at) p truth (of_members kept (zip ps truths)) (kept_probes kept ps) (probes_of_members kept ps truths (omega (arith, h)))

-- all that was lacking of kept members has its answer
pub all_of_kept : (es : List EndpointParts) (lacked : List Probe) (a : Answers) (kept : List Bool) → AreAnswers es lacked a → AreStillKept kept a.kept.items
    → probes_in (of_members kept (zip a.probes.items a.truths.items)) ≡ kept_probes kept lacked
all_of_kept es lacked a kept fit still = probes_of_members kept a.probes.items a.truths.items fit.many ∙ kept_missing es lacked a fit kept still

pub as_many_truths : (es : List Entry) → length (probes_in es) ≡ length (truths_of es)
as_many_truths es = length-map es (λ (e : Entry). e.0) ∙ sym (length-map es (λ (e : Entry). e.1))

-- ---- one after the other

-- what is known of those that are left, behind what was put in
pub record Known (kept : List Bool) (all : List Entry) (probes : List Probe) (truths : List Bool) (left : List Entry) : Type 0 where
  pub probes_are : probes ++ probes_in (of_members kept left) ≡ probes_in (of_members kept all)
  pub truths_are : truths ++ truths_of (of_members kept left) ≡ truths_of (of_members kept all)

pub known_starts : (kept : List Bool) (all : List Entry) → Known kept all [] [] all
known_starts kept all = record { probes_are = refl; truths_are = refl }

if_front : {X : Type 0} (f : Entry → X) (b : Bool) (e : Entry) (es : List Entry) → map f (cond b (e ∷ []) []) ++ map f es ≡ map f (cond b (e ∷ es) es)
if_front f true e es = refl
if_front f false e es = refl

module _ (kept : List Bool) (all : List Entry) (probes new_probes : List Probe) (truths new_truths : List Bool) (p : Probe) (truth : Bool) (ps : List Probe) (ts : List Bool) where
  pub known_one : (rest : List Probe) (left : List Bool) → ps ≡ p ∷ rest → ts ≡ truth ∷ left → new_probes ≡ probes ++ probes_in (of_members kept ((p, truth) ∷ [])) → new_truths ≡ truths ++ truths_of (of_members kept ((p, truth) ∷ []))
      → Known kept all probes truths (zip ps ts) → Known kept all new_probes new_truths (zip rest left)
  known_one rest left e f more_probes more_truths h =
      let others = of_members kept (zip rest left) in
      let b = is_kept kept p.at in
      let same : zip ps ts ≡ (p, truth) ∷ zip rest left = ap (λ (v : List Probe). zip v ts) e ∙ ap (λ (v : List Bool). zip (p ∷ rest) v) f in
      record {
        probes_are =
            ap (λ (v : List Probe). v ++ probes_in others) more_probes
            ∙ append_assoc probes (probes_in (of_members kept ((p, truth) ∷ []))) (probes_in others)
            ∙ ap (λ (v : List Probe). probes ++ v) (if_front (λ (x : Entry). x.0) b (p, truth) others)
            ∙ sym (ap (λ (v : List Entry). probes ++ probes_in (of_members kept v)) same)
            ∙ h.probes_are;
        truths_are =
            ap (λ (v : List Bool). v ++ truths_of others) more_truths
            ∙ append_assoc truths (truths_of (of_members kept ((p, truth) ∷ []))) (truths_of others)
            ∙ ap (λ (v : List Bool). truths ++ v) (if_front (λ (x : Entry). x.1) b (p, truth) others)
            ∙ sym (ap (λ (v : List Entry). truths ++ truths_of (of_members kept v)) same)
            ∙ h.truths_are;
      }

pub known_all : (kept : List Bool) (all : List Entry) (probes : List Probe) (truths : List Bool) (ps : List Probe) (ts : List Bool) → (length ps ≡ 0) ⊎ (length ts ≡ 0) → Known kept all probes truths (zip ps ts)
    → (probes ≡ probes_in (of_members kept all)) × (truths ≡ truths_of (of_members kept all))
known_all kept all probes truths ps ts none h =
    let over = no_pair ps ts none in (
      sym (append-nil probes) ∙ sym (ap (λ (v : List Entry). probes ++ probes_in (of_members kept v)) over) ∙ h.probes_are,
      sym (append-nil truths) ∙ sym (ap (λ (v : List Entry). truths ++ truths_of (of_members kept v)) over) ∙ h.truths_are,
    )

-- ---- the parts

-- by what is known of kept members
pub parts_by_kept : (q : Query) (n : ℕ) (old answers : List Entry) (kept : List Bool) (probes : List Probe) (truths : List Bool) → probes ≡ probes_in (of_members kept answers) → truths ≡ truths_of (of_members kept answers)
    → parts_by (sections q) (map (kept_members kept) (chosen q n (told probes truths ++ old))) ≡ parts_with (kept_choice kept (kept_entries kept answers old) n) q
parts_by_kept q n old answers kept probes truths p_is t_is =
    ap (λ (v : List Probe). parts_by (sections q) (map (kept_members kept) (chosen q n (told v truths ++ old)))) p_is
    ∙ ap (λ (v : List Bool). parts_by (sections q) (map (kept_members kept) (chosen q n (told (probes_in (of_members kept answers)) v ++ old)))) t_is
    ∙ ap (λ (v : List Entry). parts_by (sections q) (map (kept_members kept) (chosen q n (reverse v ++ old)))) (zip_back (of_members kept answers))
    ∙ kept_parts q n kept (kept_entries kept answers old)

-- and where the graphs are told, by their sources
pub parts_by_sources : (es : List EndpointParts) (q : Query) (old : List Entry) (a : Answers) (kept : List Bool) → AreAnswers es (missing q (length es) old) a → AreStillKept kept a.kept.items → (graphs : List (List Triple)) → length graphs ≡ length es
    → All (source.Tells graphs) old → All (source.Tells graphs) (zip a.probes.items a.truths.items)
    → parts_with (kept_choice kept (kept_entries kept (zip a.probes.items a.truths.items) old) (length es)) q ≡ parts_with (sources (of_kept kept graphs)) q
parts_by_sources es q old a kept fit still graphs same held answers =
    subst (IsByGraphs q kept a.probes.items a.truths.items old graphs) same
    (by_kept_graphs q kept a.probes.items a.truths.items old graphs held answers) (kept_missing es (missing q (length es) old) a fit kept still) fit.many

abbrev pub AreBySources : List EndpointParts → Query → List Entry → Answers → List Bool → List Part → Type 0
AreBySources es q old a kept parts =
    (graphs : List (List Triple)) → length graphs ≡ length es → All (source.Tells graphs) old → All (source.Tells graphs) (zip a.probes.items a.truths.items) → parts ≡ parts_with (sources (of_kept kept graphs)) q

-- so it is of the parts that there are
pub those_parts : (plan : List Part) (P : List Part → Type 0) → P plan → (r : Result (Vec Part Global) Memory) → IfOk r (λ parts. parts.items ≡ plan) → IfOk r (λ parts. P parts.items)
those_parts plan P yes_so (Ok parts) is = subst P (sym is) yes_so
those_parts plan P yes_so (Err e) is = tt
