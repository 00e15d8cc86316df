-- Who is kept in rounds: each endpoint that queries can't do without, and none that was left out before.
use Rattle.std.proofs.Common.{◌≡◌, ◌∙◌, ap, sym, subst, refl, ℕ, zero, suc, Bool, true, false, Some, slice_get, List, [], ◌∷◌}
use Rattle.fx_outside.specs.Endpoints.{EndpointParts}
use Rattle.fx_algebra.specs.Units.{is_kept}
use Rattle.fx_algebra.specs.declared.queries.Query.{Query}
use Rattle.fx_plan.specs.declared.parts.Part.{Part}
use Rattle.fx_wire.specs.Exchanges.{Seen}
use Rattle.fx_outcomes.specs.RoundEnds.{AreAbandoned}
use Rattle.fx_outcomes.specs.Rounds.{AreStillKept, IsMarked, MayAllLeave, everybody, without, without_all}
use Rattle.fx_outcomes.specs.declared.rounds.Left.{Left}
use Rattle.fx_outcomes.specs.declared.rounds.Round.{Round}
use Rattle.fx_laws_refusals.specs.Refusals.{KeepAllRequired}

-- ---- all at first

is_there : (es : List EndpointParts) (at : ℕ) (e : EndpointParts) → slice_get es at ≡ Some e → is_kept (everybody es) at ≡ true
is_there [] at e h = absurd (cc)
is_there (x ∷ es) zero e h = refl
is_there (x ∷ es) (suc at) e h = is_there es at e h

pub everybody_keeps : (es : List EndpointParts) → KeepAllRequired es (everybody es)
everybody_keeps es at e found required = is_there es at e found

-- ---- without one that may be left out

other_stays : (kept : List Bool) (gone at : ℕ) → (gone ≡ at → ⊥) → is_kept (without gone kept) at ≡ is_kept kept at
other_stays [] gone at apart = refl
other_stays (k ∷ kept) zero zero apart = absurd (apart refl)
other_stays (k ∷ kept) zero (suc at) apart = refl
other_stays (k ∷ kept) (suc gone) zero apart = refl
other_stays (k ∷ kept) (suc gone) (suc at) apart = other_stays kept gone at (λ e. apart (ap suc e))

-- one that may be left out isn't one that queries can't do without
apart_from : (es : List EndpointParts) (gone at : ℕ) (e : EndpointParts) → IsMarked true es gone → slice_get es at ≡ Some e → e.optional ≡ false → gone ≡ at → ⊥
apart_from es gone at e marked found required same =
    let here : Some marked.0 ≡ Some e = sym marked.1 ∙ ap (slice_get es) same ∙ found in
    let one : marked.0 ≡ e = cc in
    let clash : true ≡ false = sym marked.2 ∙ ap (λ (d : EndpointParts). d.optional) one ∙ required in
    cc

keep_without : (es : List EndpointParts) (kept : List Bool) (gone : ℕ) → IsMarked true es gone → KeepAllRequired es kept → KeepAllRequired es (without gone kept)
keep_without es kept gone marked keep at e found required = other_stays kept gone at (apart_from es gone at e marked found required) ∙ keep at e found required

pub keep_without_all : (es : List EndpointParts) (left : List Left) (kept : List Bool) → MayAllLeave es kept left → KeepAllRequired es kept → KeepAllRequired es (without_all left kept)
keep_without_all es [] kept may keep = keep
keep_without_all es (l ∷ left) kept may keep = keep_without_all es left (without l.at kept) may.1 (keep_without es kept l.at may.0.optional keep)

-- ---- who is kept behind was kept before

was_kept : (kept : List Bool) (gone at : ℕ) → is_kept (without gone kept) at ≡ true → is_kept kept at ≡ true
was_kept [] gone at h = h
was_kept (k ∷ kept) zero zero h = absurd (cc)
was_kept (k ∷ kept) zero (suc at) h = h
was_kept (k ∷ kept) (suc gone) zero h = h
was_kept (k ∷ kept) (suc gone) (suc at) h = was_kept kept gone at h

all_were_kept : (left : List Left) (kept : List Bool) (at : ℕ) → is_kept (without_all left kept) at ≡ true → is_kept kept at ≡ true
all_were_kept [] kept at h = h
all_were_kept (l ∷ left) kept at h = was_kept kept l.at at (all_were_kept left (without l.at kept) at h)

-- ---- rounds

module _ (tells alone : Bool) (es : List EndpointParts) (q : Query) (plan : List Bool → List Part) (block : ℕ) where
  pub rounds_keep : (s t : List Seen) (kept last : List Bool) (rounds : List Round) → AreAbandoned tells alone s t es q plan block kept last rounds → KeepAllRequired es kept → KeepAllRequired es last
  rounds_keep s t kept last [] c keep = subst (KeepAllRequired es) (sym c.1) keep
  rounds_keep s t kept last (r ∷ rounds) c keep =
      rounds_keep c.0 t (without_all r.left kept) last rounds c.3 (subst (λ (l : List Left). KeepAllRequired es (without_all l kept)) (sym c.1.left_is) (keep_without es kept c.1.left.at c.1.optional keep))

  pub rounds_still_keep : (s t : List Seen) (kept last : List Bool) (rounds : List Round) → AreAbandoned tells alone s t es q plan block kept last rounds → AreStillKept last kept
  rounds_still_keep s t kept last [] c at h = subst (λ (v : List Bool). is_kept v at ≡ true) c.1 h
  rounds_still_keep s t kept last (r ∷ rounds) c at h = all_were_kept r.left kept at (rounds_still_keep c.0 t (without_all r.left kept) last rounds c.3 at h)
