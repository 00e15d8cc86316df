-- What a query goes on with behind its occurrences of SERVICE, by what these came to.
use Rattle.std.proofs.Common.{◌≡◌, ◌∙◌, ap, sym, subst, refl, inl, ℕ, suc, ◌+◌, Bool, true, false, List, [], ◌∷◌, ◌++◌, map, Option, None, Some, All, IfErr, IfOk, Result, Ok, Err, append-nil, append_assoc}
use Rattle.std.specs.List.{AllByRecursion}
use Rattle.std.proofs.lemmas.List.Elements.{All-from_recursion}
use Rattle.fx_terms.specs.declared.allocation.Memory.{Memory}
use Rattle.fx_outside.specs.Endpoints.{EndpointParts}
use Rattle.fx_algebra.specs.Solutions.{Bindings}
use Rattle.fx_traffic.specs.Gains.{faults_at}
use Rattle.fx_wire.specs.Exchanges.{Seen}
use Rattle.fx_services.specs.Beside.{AllInvoked, AreSettled, AreSettledBy, Came, HavePassed, IsFirstRefusal, Occurrence}
use Rattle.fx_services.specs.Noted.{ComesTo, cause_of}
use Rattle.fx_services.specs.declared.beside.Settled.{Settled}
use Rattle.fx_services.specs.declared.noted.Down.{Down}
use Rattle.fx_services.specs.declared.services.ServiceError.{ServiceError}
use Rattle.fx_services.proofs.PieceLemmas.{forgotten}
use Rattle.fx_outcomes.specs.Calls.{Call, IsKnown, IsPassed, Passes, came_rows, down_from, down_if, failed, failures_at, rows_of}
use Rattle.fx_outcomes.specs.Invocations.{AreLost, Calling, Invoked, InvokedBy, IsAt}
use Rattle.fx_outcomes.proofs.CallLemmas.{AreAt, all_called, are_at, are_of, call_of, calls_of, came_by, counted_so, known_so, lost_called, none_called}

-- ---- one that passes

record HasPassed (number : ℕ) (silent : Bool) (iri : List ℕ) (old new : List Down) (c : Came) (rows : List Bindings) : Type 0 where
  passes : Passes silent (came_by c)
  down : new ≡ old ++ down_if number silent iri (came_by c)
  rows_are : rows ≡ came_rows (came_by c)

has_passed : (number : ℕ) (silent : Bool) (iri : List ℕ) (old new : List Down) (c : Came) (rows : List Bindings) → ComesTo number silent iri old new c (Ok rows) → HasPassed number silent iri old new c rows
has_passed number silent iri old new (Ok told) rows h = let is : rows ≡ told = (let same = h.1 in cc) in record { passes = tt; down = h.0 ∙ sym (append-nil old); rows_are = is }
has_passed number true iri old new (Err why) rows h = record { passes = refl; down = h.0; rows_are = h.1 }
has_passed number false iri old new (Err why) rows h = absurd (let same = h.1 in cc)

-- ---- all of them

abbrev pub ArePassed : ℕ → List Occurrence → List Came → List Down → List Down → List (List Bindings) → Type 0
ArePassed number os cs old new rows = AllByRecursion IsPassed (calls_of os cs) × (new ≡ old ++ down_from number (calls_of os cs)) × (rows ≡ map rows_of (calls_of os cs))

pub are_passed : (number : ℕ) (os : List Occurrence) (cs : List Came) (old new : List Down) (rows : List (List Bindings)) → HavePassed number os cs old new rows → ArePassed number os cs old new rows
are_passed number [] [] old new [] h = (tt, h ∙ sym (append-nil old), refl)
are_passed number [] [] old new (r ∷ rows) h = absurd h
are_passed number [] (c ∷ cs) old new rows h = absurd h
are_passed number (o ∷ os) [] old new rows h = absurd h
are_passed number (o ∷ os) (c ∷ cs) old new [] h = absurd h
are_passed number (o ∷ os) (c ∷ cs) old new (r ∷ rows) h =
    let one = has_passed number o.silent o.iri old h.0 c r h.1 in
    let rest = are_passed (suc number) os cs h.0 new rows h.2 in
    let own = down_if number o.silent o.iri (came_by c) in (
      (one.passes, rest.0),
      rest.1 ∙ ap (λ (v : List Down). v ++ down_from (suc number) (calls_of os cs)) one.down ∙ append_assoc old own (down_from (suc number) (calls_of os cs)),
      ap (λ (v : List Bindings). v ∷ rows) one.rows_are ∙ ap (λ (v : List (List Bindings)). came_rows (came_by c) ∷ v) rest.2,
    )

-- ---- one was refused

pub record AreStopped (es : List EndpointParts) (all : List Call) (rows : List (List Bindings)) (why : ServiceError) : Type 0 where
  pub front : List Call
  pub refused : Call
  pub behind : List Call
  pub are : all ≡ front ++ refused ∷ behind
  pub passed : AllByRecursion IsPassed front
  pub rows_are : rows ≡ map rows_of front
  pub plain : refused.of.silent ≡ false
  pub came : refused.came ≡ failed (cause_of why)
  pub at : IsAt es refused.of.iri why

pub are_stopped : (es : List EndpointParts) (number : ℕ) (os : List Occurrence) (cs : List Came) (old new : List Down) (rows : List (List Bindings)) (why : ServiceError) → AreAt es os cs → IsFirstRefusal number os cs old new rows why → AreStopped es (calls_of os cs) rows why
are_stopped es number [] cs old new rows why at h = absurd h
are_stopped es number (o ∷ os) [] old new rows why at h = absurd h
are_stopped es number (o ∷ os) (c ∷ cs) old new [] why at h = record {
  front = [];
  refused = call_of o c;
  behind = calls_of os cs;
  are = refl;
  passed = tt;
  rows_are = refl;
  plain = h.0;
  came = ap came_by h.1;
  at = subst (λ (r : Came). IfErr r (IsAt es o.iri)) h.1 at.0;
}
are_stopped es number (o ∷ os) (c ∷ cs) old new (r ∷ rows) why at h =
    let one = has_passed number o.silent o.iri old h.0 c r h.1 in
    let rest = are_stopped es (suc number) os cs h.0 new rows why at.1 h.2 in
    record {
      front = call_of o c ∷ rest.front;
      refused = rest.refused;
      behind = rest.behind;
      are = ap (λ (v : List Call). call_of o c ∷ v) rest.are;
      passed = (one.passes, rest.passed);
      rows_are = ap (λ (v : List Bindings). v ∷ rows) one.rows_are ∙ ap (λ (v : List (List Bindings)). came_rows (came_by c) ∷ v) rest.rows_are;
      plain = rest.plain;
      came = rest.came;
      at = rest.at;
    }

-- ---- the call

module _ (tells alone : Bool) (before after : List Seen) (es : List EndpointParts) (os : List Occurrence) where
  pub settled_so : (cs : List Came) (down : List Down) (rows : List (List Bindings)) (refused : Option ServiceError) → AllInvoked tells alone before after es os (Some cs) → AreSettledBy os cs down rows refused → InvokedBy tells alone before after es os down rows refused
  settled_so cs down rows None h s =
      let all = are_passed 0 os cs [] down rows s in
      record {
        calls = calls_of os cs;
        are = are_of before after es os cs h.in_turn h.come_to;
        passed = All-from_recursion IsPassed (calls_of os cs) all.0;
        down_are = all.1;
        rows_are = all.2;
        calling = all_called before after es tells alone os cs h;
        exact = counted_so before after es tells alone os cs h;
      }
  settled_so cs down rows (Some why) h s =
      let one = are_stopped es 0 os cs [] down rows why (are_at before after es os cs h.in_turn h.come_to) s in
      record {
        front = one.front;
        refused = one.refused;
        behind = one.behind;
        are = ap (map (λ (c : Call). c.of)) (sym one.are) ∙ are_of before after es os cs h.in_turn h.come_to;
        passed = All-from_recursion IsPassed one.front one.passed;
        rows_are = one.rows_are;
        plain = one.plain;
        came = one.came;
        at = one.at;
        known = subst (All IsKnown) one.are (All-from_recursion IsKnown (calls_of os cs) (known_so before after es os cs));
        calling = subst (Calling tells alone before after es) one.are (all_called before after es tells alone os cs h);
        exact = λ is address. subst (λ (v : List Call). faults_at after address ≡ faults_at before address + failures_at address v) one.are (counted_so before after es tells alone os cs h is address);
      }

  pub invoked_so : (cs : List Came) (r : Result Settled Memory) → AllInvoked tells alone before after es os (Some cs) → IfOk r (AreSettled os cs) → Invoked tells alone before after es os r
  invoked_so cs (Ok s) h k = settled_so cs s.down.items s.rows.items s.refused h k
  invoked_so cs (Err e) h k = lost_called tells alone before after es os (forgotten tells alone es before after os cs h)

-- nothing was asked
pub not_invoked : (tells alone : Bool) (wires : List Seen) (es : List EndpointParts) (os : List Occurrence) → AreLost tells alone wires wires es os
not_invoked tells alone wires es os = record { calls = []; called = inl refl; calling = none_called tells alone wires es }
