-- The occurrences of SERVICE of a query, and what each of them came to when it was invoked (SPARQL 1.1 Federated Query, sections 2 and 4).
use Rattle.std.specs.Prelude.{◌≡◌, ◌≢◌, ◌<◌, ◌≤◌, ◌+◌, ◌⊎◌, ℕ, Bool, true, false, List, [], ◌∷◌, ◌++◌, map, All, Contains, length, take, bytes_eq, cond, Some, slice_get}
use Rattle.std.proofs.Common.{suc}
use Rattle.std.specs.List.{flat_map}
use Rattle.fx_terms.specs.declared.triples.Triple.{Triple}
use Rattle.fx_outside.specs.Endpoints.{EndpointParts}
use Rattle.fx_algebra.specs.Cuts.{stations}
use Rattle.fx_algebra.specs.Groups.{is_down, one_empty}
use Rattle.fx_algebra.specs.Solutions.{Bindings}
use Rattle.fx_algebra.specs.Stations.{Station}
use Rattle.fx_algebra.specs.Stations as station
use Rattle.fx_algebra.specs.declared.queries.Group.{Group}
use Rattle.fx_algebra.specs.declared.queries.Query.{Query}
use Rattle.fx_traffic.specs.Gains.{Tell}
use Rattle.fx_wire.specs.Exchanges.{Exchange, Seen}
use Rattle.fx_services.specs.Beside.{IsSentFor, Occurrence}
use Rattle.fx_services.specs.Noted.{down_of, places}
use Rattle.fx_services.specs.ServicesAsked.{AreRowsOver, IsBadService, IsToldBy, service_text}
use Rattle.fx_services.specs.declared.noted.Down.{Down}
use Rattle.fx_services.specs.declared.noted.DownCause.{DownCause}
use Rattle.fx_services.specs.declared.noted.DownCause.TheVariants as cause

-- ---- occurrences

abbrev pub occurrence_in : Station → List Occurrence
occurrence_in (station.run ps filters before) = []
occurrence_in (station.service number silent iri g) = record { silent = silent; iri = iri; group = g } ∷ []

-- those of a query, in text order: the number of one is its place in this list
abbrev pub occurrences : Query → List Occurrence
occurrences q = flat_map occurrence_in (stations q)

-- ---- what they came to

-- What an occurrence came to: the rows that its reply told; the reason why there are none; or memory ran out.
pub data Came : Type 0 where
  told : List Bindings → Came
  failed : DownCause → Came
  lost : Came

-- an occurrence that was invoked, and what it came to
pub record Call : Type 0 where
  pub of : Occurrence
  pub came : Came

-- the query goes on behind it: it has rows, or it is silent and memory didn't run out
abbrev pub Passes : Bool → Came → Type 0
Passes silent (told rows) = Unit {0}
Passes silent (failed why) = silent ≡ true
Passes silent lost = ⊥

abbrev pub IsPassed : Call → Type 0
IsPassed c = Passes c.of.silent c.came

-- it has rows, or there is a reason why it has none
abbrev pub HasEnded : Came → Type 0
HasEnded (told rows) = Unit {0}
HasEnded (failed why) = Unit {0}
HasEnded lost = ⊥

-- it was refused: it isn't silent, and there is a reason why it has no rows
abbrev pub IsRefused : Call → Type 0
IsRefused c = (c.of.silent ≡ false) × ((why : DownCause) × (c.came ≡ failed why))

-- what it came to is known: memory didn't run out
abbrev pub IsKnown : Call → Type 0
IsKnown c = HasEnded c.came

-- the rows of an occurrence behind which the query goes on: the one empty solution where there is a reason why there are none
abbrev pub came_rows : Came → List Bindings
came_rows (told rows) = rows
came_rows (failed why) = one_empty
came_rows lost = []

abbrev pub rows_of : Call → List Bindings
rows_of c = came_rows c.came

-- what is down of it, under its number: it is silent, and has no rows for a reason
abbrev pub down_if : ℕ → Bool → List ℕ → Came → List Down
down_if number silent iri (told rows) = []
down_if number true iri (failed why) = down_of number iri why ∷ []
down_if number false iri (failed why) = []
down_if number silent iri lost = []

-- what is down of occurrences, where the first has this number
abbrev pub down_from : ℕ → List Call → List Down
down_from number [] = []
down_from number (c ∷ cs) = down_if number c.of.silent c.of.iri c.came ++ down_from (suc number) cs

-- of the occurrences of a query
abbrev pub down_in : List Call → List Down
down_in calls = down_from 0 calls

-- Of the occurrences that passed, with all before them, the numbers have those that are down, and no other. Of the other occurrences, which were refused, stand behind one
-- that was, or weren't invoked, any may be among them.
abbrev pub AgreesWith : List ℕ → List Call → Type 0
AgreesWith down calls = (k : ℕ) (c : Call) → slice_get calls k ≡ Some c → IsPassed c → All IsPassed (take k calls) → is_down down k ≡ is_down (places (down_in calls)) k

-- The first of them that was refused: all before it passed, and it isn't silent, has this IRI, and has no rows for this reason.
pub record HasFirstRefused (calls : List Call) (why : DownCause) (iri : List ℕ) : Type 0 where
  pub before : List Call
  pub refused : Call
  pub behind : List Call
  pub are : calls ≡ before ++ refused ∷ behind
  pub passed : All IsPassed before
  pub plain : refused.of.silent ≡ false
  pub came : refused.came ≡ failed why
  pub at : refused.of.iri ≡ iri

-- ---- faults

-- an exchange failed
abbrev pub failure_of : Came → ℕ
failure_of (told rows) = 0
failure_of (failed cause.Failed) = 1
failure_of (failed (cause.Bad bad)) = 0
failure_of (failed (cause.TooLong size)) = 0
failure_of (failed cause.Unknown) = 0
failure_of lost = 0

-- how many exchanges at an address failed
abbrev pub failures_at : List ℕ → List Call → ℕ
failures_at address [] = 0
failures_at address (c ∷ cs) = cond {A = ℕ} (bytes_eq c.of.iri address) (failure_of c.came) 0 + failures_at address cs

-- ---- exchanges

-- one of the endpoints has the address, and this
abbrev pub AtOne : List EndpointParts → List ℕ → (EndpointParts → Type 0) → Type 0
AtOne endpoints iri P = (e : EndpointParts) × Contains endpoints e × (e.iri ≡ iri) × P e

-- What an occurrence came to, by its own exchanges. Rows: the one exchange has its text, and a reply that reads as them; where the graph at the address is told
-- they are the group's over it. No endpoint of the registry has the address; the exchange with the one that has it failed; its reply is bad, which is in the one
-- exchange; or the text is too long. Each reason comes only so, and where the text is too long or the address unknown no other does.
abbrev pub HasComeTo : List Seen → List EndpointParts → List ℕ → Group → Came → List Exchange → Type 0
HasComeTo before endpoints iri g (told rows) own = AtOne endpoints iri (λ e. IsToldBy e g own rows × ((graph : List Triple) → Tell before iri graph → AreRowsOver graph g rows))
HasComeTo before endpoints iri g (failed cause.Failed) own = AtOne endpoints iri (λ e. (own ≡ []) × (length (service_text g) ≤ 67108864))
HasComeTo before endpoints iri g (failed (cause.Bad bad)) own = AtOne endpoints iri (λ e. IsBadService (Tell before iri) e g own bad)
HasComeTo before endpoints iri g (failed (cause.TooLong size)) own = AtOne endpoints iri (λ e. (own ≡ []) × (size ≡ length (service_text g)) × (67108864 < size))
HasComeTo before endpoints iri g (failed cause.Unknown) own = All (λ (e : EndpointParts). e.iri ≢ iri) endpoints × (own ≡ [])
HasComeTo before endpoints iri g lost own = Unit {0}

-- occurrences that were invoked, each with its own exchanges
abbrev pub AreCalls : List Seen → List EndpointParts → List Call → List Exchange → Type 0
AreCalls before endpoints [] xs = xs ≡ []
AreCalls before endpoints (c ∷ cs) xs =
    (own : List Exchange) × (rest : List Exchange) × (xs ≡ own ++ rest) × HasComeTo before endpoints c.of.iri c.of.group c.came own × IsSentFor endpoints c.of own × AreCalls before endpoints cs rest

-- all of these occurrences were invoked, in their order, and of each it is known what it came to
pub record AreAllKnown (calls : List Call) (all : List Occurrence) : Type 0 where
  pub are : map (λ c. c.of) calls ≡ all
  pub known : All IsKnown calls

-- all of these occurrences were invoked, in their order, or none was
abbrev pub AreAllOrNone : List Call → List Occurrence → Type 0
AreAllOrNone calls all = (calls ≡ []) ⊎ (map (λ c. c.of) calls ≡ all)
