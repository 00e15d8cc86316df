-- An occurrence of SERVICE, plain or silent: its rows, what is noted down of it, or the refusal.
use Rattle.std.specs.Prelude.{◌≡◌, ◌<◌, ◌≤◌, ℕ, Bool, true, false, List, [], ◌∷◌, ◌++◌, map, Result, Ok, Err}
use Rattle.std.proofs.Common.{suc}
use Rattle.fx_algebra.specs.Groups.{is_down, one_empty}
use Rattle.fx_algebra.specs.Solutions.{Bindings}
use Rattle.fx_services.specs.declared.noted.Down.{Down}
use Rattle.fx_services.specs.declared.noted.DownCause.{DownCause}
use Rattle.fx_services.specs.declared.noted.DownCause.TheVariants as cause
use Rattle.fx_services.specs.declared.services.ServiceError.{ServiceError}
use Rattle.fx_services.specs.declared.services.ServiceError.TheVariants as error

-- why an occurrence is down that has no rows for a reason
abbrev pub cause_of : ServiceError → DownCause
cause_of error.Unknown = cause.Unknown
cause_of (error.Failed at) = cause.Failed
cause_of (error.Bad at bad) = cause.Bad bad
cause_of (error.TooLong at size) = cause.TooLong size

-- what is noted of an occurrence
abbrev pub down_of : ℕ → List ℕ → DownCause → Down
down_of number iri why = record { place = number; iri = iri; why = why }

-- it is the next that is down, and gives the one empty solution
abbrev pub IsNoted : ℕ → List ℕ → DownCause → List Down → List Down → List Bindings → Type 0
IsNoted number iri why old new rows = (new ≡ old ++ down_of number iri why ∷ []) × (rows ≡ one_empty)

-- what an occurrence comes to: its rows; or where it has none, the one empty solution, if it is silent, which is noted of it, and the refusal, if it is plain
abbrev pub ComesTo : ℕ → Bool → List ℕ → List Down → List Down → Result (List Bindings) ServiceError → Result (List Bindings) ServiceError → Type 0
ComesTo number silent iri old new (Ok rows) result = (new ≡ old) × (result ≡ Ok rows)
ComesTo number true iri old new (Err why) (Ok rows) = IsNoted number iri (cause_of why) old new rows
ComesTo number true iri old new (Err why) (Err e) = ⊥
ComesTo number false iri old new (Err why) result = (new ≡ old) × (result ≡ Err why)

-- ---- several

-- the numbers of what is noted
abbrev pub places : List Down → List ℕ
places noted = map (λ d. d.place) noted

-- what is noted has numbers that rise, from a first on and below a last
abbrev pub RiseWithin : ℕ → ℕ → List Down → Type 0
RiseWithin first last [] = first ≤ last
RiseWithin first last (d ∷ ds) = (first ≤ d.place) × RiseWithin (suc d.place) last ds

-- of the numbers from a first on and below a last, those are down that are noted
abbrev pub AgreesOn : List ℕ → ℕ → ℕ → List Down → Type 0
AgreesOn down first last noted = (k : ℕ) → first ≤ k → k < last → is_down down k ≡ is_down (places noted) k
