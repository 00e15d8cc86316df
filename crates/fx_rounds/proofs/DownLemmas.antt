-- What is down of the occurrences of SERVICE SILENT, and for how many of them an exchange failed.
use Rattle.std.proofs.Common.{◌≡◌, ◌∙◌, ap, sym, refl, inl, inr, ℕ, suc, ◌+◌, Bool, true, false, cond, List, [], ◌∷◌, ◌++◌, map, arith, bytes_eq, if◌then◌else◌}
use Rattle.std.specs.List.{AllByRecursion}
use Rattle.fx_outside.specs.Endpoints.{EndpointParts}
use Rattle.fx_services.specs.Beside.{Occurrence}
use Rattle.fx_services.specs.Noted.{places}
use Rattle.fx_services.specs.declared.noted.Down.{Down}
use Rattle.fx_services.specs.declared.noted.DownCause.{DownCause}
use Rattle.fx_services.specs.declared.noted.DownCause.TheVariants as cause
use Rattle.fx_walks.proofs.RegisteredLemmas.{registered_by, unregistered_by}
use Rattle.fx_wire.specs.Exchanges.{Exchange, Seen}
use Rattle.fx_outcomes.specs.Calls.{AreAllOrNone, AreCalls, Call, Came, HasComeTo, HasFirstRefused, IsPassed, Passes, down_from, down_if, failed, failure_of, failures_at, lost, told}
use Rattle.fx_rounds.specs.Down.{unregistered}
use Rattle.fx_rounds.specs.Licences.{down_failure, downs_failed}

-- ---- faults

nothing_of : (b : Bool) → cond {A = ℕ} b 0 0 ≡ 0
nothing_of true = refl
nothing_of false = refl

more_than_nothing : (b : Bool) (m n : ℕ) → m ≡ n → m ≡ cond {A = ℕ} b 0 0 + n
more_than_nothing b m n h = let none : cond {A = ℕ} b 0 0 ≡ 0 = nothing_of b in omega (arith, none, h)

not_silent : false ≡ true → ⊥
not_silent h = cc

-- an occurrence is down since an exchange failed where its exchange failed
pub same_failure : (why : DownCause) → down_failure why ≡ failure_of (failed why)
same_failure cause.Failed = refl
same_failure (cause.Bad bad) = refl
same_failure (cause.TooLong size) = refl
same_failure cause.Unknown = refl

-- as many are down since an exchange failed as exchanges failed
one_alike : (address : List ℕ) (n : ℕ) (silent : Bool) (iri : List ℕ) (came : Came) (cs : List Call) → Passes silent came → downs_failed address (down_from (suc n) cs) ≡ failures_at address cs
    → downs_failed address (down_if n silent iri came ++ down_from (suc n) cs) ≡ cond {A = ℕ} (bytes_eq iri address) (failure_of came) 0 + failures_at address cs
one_alike address n silent iri (told rows) cs passes h = more_than_nothing (bytes_eq iri address) _ _ h
one_alike address n true iri (failed why) cs passes h =
    ap (λ (k : ℕ). cond {A = ℕ} (bytes_eq iri address) (down_failure why) 0 + k) h ∙ ap (λ (k : ℕ). cond {A = ℕ} (bytes_eq iri address) k 0 + failures_at address cs) (same_failure why)
one_alike address n false iri (failed why) cs passes h = absurd (not_silent passes)
one_alike address n silent iri lost cs passes h = absurd passes

pub failed_alike : (address : List ℕ) (n : ℕ) (calls : List Call) → AllByRecursion IsPassed calls → downs_failed address (down_from n calls) ≡ failures_at address calls
failed_alike address n [] passed = refl
failed_alike address n (c ∷ cs) passed = one_alike address n c.of.silent c.of.iri c.came cs passed.0 (failed_alike address (suc n) cs passed.1)

-- ---- where no other reason is there than that no endpoint has the IRI

abbrev pub IsUnknown : Down → Type 0
IsUnknown d = d.why ≡ cause.Unknown

module _ (before : List Seen) (es : List EndpointParts) where
  one_unknown : (n : ℕ) (silent : Bool) (o : Occurrence) (came : Came) (cs : List Call) (own : List Exchange) → HasComeTo before es o.iri o.group came own → Passes silent came → AllByRecursion IsUnknown (down_if n silent o.iri came ++ down_from (suc n) cs)
      → (AllByRecursion IsUnknown (down_from (suc n) cs) → places (down_from (suc n) cs) ≡ unregistered es (suc n) (map (λ c. c.of) cs))
      → places (down_if n silent o.iri came ++ down_from (suc n) cs) ≡ unregistered es n (o ∷ map (λ c. c.of) cs)
  one_unknown n silent o (told rows) cs own h passes all rest =
      let others = unregistered es (suc n) (map (λ c. c.of) cs) in
      rest all ∙ sym (ap (λ (b : Bool). if b then others else n ∷ others) (registered_by es o.iri h.0 h.1 h.2))
  one_unknown n true o (failed cause.Unknown) cs own h passes all rest =
      let others = unregistered es (suc n) (map (λ c. c.of) cs) in
      ap (λ (l : List ℕ). n ∷ l) (rest all.1) ∙ sym (ap (λ (b : Bool). if b then others else n ∷ others) (unregistered_by es o.iri h.0))
  one_unknown n true o (failed cause.Failed) cs own h passes all rest = absurd (other all.0)
    where
      other : cause.Failed ≡ cause.Unknown → ⊥
      other is = cc
  one_unknown n true o (failed (cause.Bad bad)) cs own h passes all rest = absurd (other all.0)
    where
      other : cause.Bad bad ≡ cause.Unknown → ⊥
      other is = cc
  one_unknown n true o (failed (cause.TooLong size)) cs own h passes all rest = absurd (other all.0)
    where
      other : cause.TooLong size ≡ cause.Unknown → ⊥
      other is = cc
  one_unknown n false o (failed why) cs own h passes all rest = absurd (not_silent passes)
  one_unknown n silent o lost cs own h passes all rest = absurd passes

  -- those are down that name no endpoint
  pub are_unregistered : (n : ℕ) (calls : List Call) (xs : List Exchange) → AreCalls before es calls xs → AllByRecursion IsPassed calls → AllByRecursion IsUnknown (down_from n calls) → places (down_from n calls) ≡ unregistered es n (map (λ c. c.of) calls)
  are_unregistered n [] xs h passed all = refl
  are_unregistered n (c ∷ cs) xs h passed all = one_unknown n c.of.silent c.of c.came cs h.0 h.3 passed.0 all (λ rest. are_unregistered (suc n) cs h.1 h.5 passed.1 rest)

-- ---- where one was refused

pub no_refused : (calls : List Call) (why : DownCause) (iri : List ℕ) → calls ≡ [] → HasFirstRefused calls why iri → ⊥
no_refused calls why iri none h = not_empty h.before (sym none ∙ h.are)
  where
    not_empty : (before : List Call) → [] ≡ before ++ h.refused ∷ h.behind → ⊥
    not_empty [] e = cc
    not_empty (c ∷ before) e = cc

-- all were invoked
pub all_of : (calls : List Call) (os : List Occurrence) (why : DownCause) (iri : List ℕ) → AreAllOrNone calls os → HasFirstRefused calls why iri → map (λ c. c.of) calls ≡ os
all_of calls os why iri (inl none) h = absurd (no_refused calls why iri none h)
all_of calls os why iri (inr are) h = are
