-- How many members are left out, and how many occurrences of SERVICE are down, at an address, since an exchange failed or a reply was bad.
use Rattle.std.specs.Prelude.{◌≡◌, ◌≤◌, ◌+◌, ◌&&◌, ◌∷◌, ℕ, Bool, false, List, [], Option, None, Some, length, slice_get, bytes_eq, cond, nat_le}
use Rattle.std.specs.List.{list_any}
use Rattle.fx_outside.specs.Endpoints.{EndpointParts}
use Rattle.fx_algebra.specs.declared.queries.Query.{Query}
use Rattle.fx_plan.specs.declared.parts.Part.{Part}
use Rattle.fx_services.specs.Beside.{Occurrence}
use Rattle.fx_services.specs.ServicesAsked.{service_text}
use Rattle.fx_services.specs.declared.noted.Down.{Down}
use Rattle.fx_services.specs.declared.noted.DownCause.{DownCause}
use Rattle.fx_services.specs.declared.noted.DownCause.TheVariants as down_cause
use Rattle.fx_wire.specs.Exchanges.{Exchange, Seen}
use Rattle.fx_outcomes.specs.Calls.{down_in, occurrences}
use Rattle.fx_outcomes.specs.RoundEnds.{IsAbandoned}
use Rattle.fx_outcomes.specs.declared.rounds.Left.{Left}
use Rattle.fx_outcomes.specs.declared.rounds.LeftCause.{LeftCause}
use Rattle.fx_outcomes.specs.declared.rounds.LeftCause.TheVariants as left_cause
use Rattle.fx_outcomes.specs.declared.rounds.Round.{Round}
use Rattle.fx_rounds.specs.Licences.{Licence, downs_failed, left_address, lefts_failed}

abbrev pub left_event : LeftCause → ℕ
left_event left_cause.Failed = 1
left_event (left_cause.Bad bad) = 1
left_event (left_cause.TooLong size) = 0

abbrev pub down_event : DownCause → ℕ
down_event down_cause.Failed = 1
down_event (down_cause.Bad bad) = 1
down_event (down_cause.TooLong size) = 0
down_event down_cause.Unknown = 0

abbrev pub lefts_told : List EndpointParts → List ℕ → List Left → ℕ
lefts_told endpoints address [] = 0
lefts_told endpoints address (l ∷ left) = cond {A = ℕ} (bytes_eq (left_address endpoints l) address) (left_event l.why) 0 + lefts_told endpoints address left

abbrev pub downs_told : List ℕ → List Down → ℕ
downs_told address [] = 0
downs_told address (d ∷ down) = cond {A = ℕ} (bytes_eq d.iri address) (down_event d.why) 0 + downs_told address down

-- how many of these exchanges are with the address
abbrev pub exchanges_at : List ℕ → List Exchange → ℕ
exchanges_at address [] = 0
exchanges_at address (x ∷ xs) = cond {A = ℕ} (bytes_eq x.at.iri address) 1 0 + exchanges_at address xs

-- of those that a licence is for they are as many as exchanges that failed and exchanges with a bad reply
abbrev pub LicencesCount : Type 0
LicencesCount = (endpoints : List EndpointParts) (q : Query) (before after : List Seen) (xs : List Exchange) (left : List Left) (down : List Down) → (it : Licence endpoints q before after xs left down) → (address : List ℕ)
    → lefts_told endpoints address left + downs_told address down ≡ (lefts_failed endpoints address left + downs_failed address down) + exchanges_at address it.refused

-- ---- by numbers

-- the occurrence asks an endpoint at the address for a text that is no longer than one may be
abbrev pub may_fail : List EndpointParts → List ℕ → Option Occurrence → Bool
may_fail endpoints address None = false
may_fail endpoints address (Some o) = bytes_eq o.iri address && (list_any (λ e. bytes_eq e.iri o.iri) endpoints && nat_le (length (service_text o.group)) 67108864)

-- how many of the occurrences with these numbers do
abbrev pub numbers_at : List EndpointParts → Query → List ℕ → List ℕ → ℕ
numbers_at endpoints q address [] = 0
numbers_at endpoints q address (k ∷ ks) = cond {A = ℕ} (may_fail endpoints address (slice_get (occurrences q) k)) 1 0 + numbers_at endpoints q address ks

-- each of those that were down in a round which was abandoned was so since its exchange failed or its reply was bad
abbrev pub NumbersAreTold : Type 0
NumbersAreTold = (tells alone : Bool) (before after : List Seen) (endpoints : List EndpointParts) (q : Query) (plan : List Part) (block : ℕ) (r : Round)
    → (h : IsAbandoned tells alone before after endpoints q plan block r) → (address : List ℕ) → numbers_at endpoints q address r.down ≤ downs_told address (down_in h.went.calls)
