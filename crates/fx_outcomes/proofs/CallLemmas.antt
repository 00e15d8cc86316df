-- What invoking occurrences of SERVICE side by side leaves of wires, call by call.
use Rattle.std.proofs.Common.{◌≡◌, ◌∙◌, ap, subst, refl, inl, inr, ℕ, suc, ◌+◌, ◌≤◌, Bool, true, false, cond, List, [], ◌∷◌, ◌++◌, map, length, None, Some, All, IfErr, IsTrue, Result, Ok, Err, append-nil, arith, bytes_eq}
use Rattle.std.specs.List.{AllByRecursion}
use Rattle.std.proofs.lemmas.List.Elements.{All-weaker}
use Rattle.std.proofs.lemmas.List.Sorted.{IsPermutation-refl}
use Rattle.fx_outside.specs.Endpoints.{EndpointParts}
use Rattle.fx_algebra.specs.Solutions.{Bindings}
use Rattle.fx_algebra.specs.declared.queries.Group.{Group}
use Rattle.fx_traffic.specs.Gains.{AreAfter, faults_at}
use Rattle.fx_traffic.proofs.GainLemmas.{gain_laws}
use Rattle.fx_wire.specs.Exchanges.{Exchange, Seen}
use Rattle.fx_pool.proofs.WireLemmas.{after_itself}
use Rattle.fx_pool.proofs.WiresLemmas.{still_tell}
use Rattle.fx_services.specs.Beside.{AllInvoked, AreInvoked, AreSentFor, IsInvoked, Occurrence, failure_in, failures_in}
use Rattle.fx_services.specs.Noted.{cause_of}
use Rattle.fx_services.specs.declared.noted.DownCause.TheVariants as cause
use Rattle.fx_services.specs.declared.services.ServiceError.{ServiceError}
use Rattle.fx_services.specs.declared.services.ServiceError.TheVariants as error
use Rattle.fx_services.proofs.WentLemmas.{found_here}
use Rattle.fx_outcomes.specs.Calls.{AreAllOrNone, AreCalls, Call, Came, HasComeTo, HasEnded, IsKnown, IsPassed, Passes, failed, failure_of, failures_at, lost, told}
use Rattle.fx_outcomes.specs.Invocations.{AreLost, Calling, IsAt}

-- ---- none

pub none_called : (tells alone : Bool) (wires : List Seen) (es : List EndpointParts) → Calling tells alone wires wires es []
none_called tells alone wires es = record {
  exchanges = [];
  gained = λ is. gain_laws.nothing wires;
  after_all = after_itself wires;
  counted = λ address. omega arith;
  in_turn = [];
  same = IsPermutation-refl [];
  are_calls = refl;
}

-- ---- by what they came to

-- what an occurrence came to, by the result of invoking it
abbrev pub came_by : Result (List Bindings) ServiceError → Came
came_by (Ok rows) = told rows
came_by (Err why) = failed (cause_of why)

abbrev Reached : Type 0
Reached = Result (List Bindings) ServiceError

abbrev pub call_of : Occurrence → Result (List Bindings) ServiceError → Call
call_of o r = record { of = o; came = came_by r }

abbrev pub calls_of : List Occurrence → List Reached → List Call
calls_of [] cs = []
calls_of (o ∷ os) [] = []
calls_of (o ∷ os) (c ∷ cs) = call_of o c ∷ calls_of os cs

-- each has the endpoint that its reason names
abbrev pub AreAt : List EndpointParts → List Occurrence → List Reached → Type 0
AreAt es [] cs = Unit {0}
AreAt es (o ∷ os) [] = Unit {0}
AreAt es (o ∷ os) (c ∷ cs) = IfErr c (IsAt es o.iri) × AreAt es os cs

module _ (before after : List Seen) (es : List EndpointParts) where
  came_so : (o : Occurrence) (own : List Exchange) (r : Reached) → IsInvoked before after es o own r → HasComeTo before es o.iri o.group (came_by r) own
  came_so o own (Ok rows) h = (h.told.0, h.told.1, h.told.2, (h.told.3, h.rows))
  came_so o own (Err error.Unknown) h = h.cause
  came_so o own (Err (error.Failed at)) h = (h.cause.0, found_here es at h.cause.0 h.cause.1, h.cause.2, (h.cause.3.0, h.cause.3.1))
  came_so o own (Err (error.Bad at bad)) h = (h.cause.0, found_here es at h.cause.0 h.cause.1, h.cause.2, h.cause.3)
  came_so o own (Err (error.TooLong at size)) h = (h.cause.0, found_here es at h.cause.0 h.cause.1, h.cause.2, h.cause.3)

  at_so : (o : Occurrence) (own : List Exchange) (r : Reached) → IsInvoked before after es o own r → IfErr r (IsAt es o.iri)
  at_so o own (Ok rows) h = tt
  at_so o own (Err error.Unknown) h = h.cause.0
  at_so o own (Err (error.Failed at)) h = (h.cause.0, h.cause.1, h.cause.2)
  at_so o own (Err (error.Bad at bad)) h = (h.cause.0, h.cause.1, h.cause.2)
  at_so o own (Err (error.TooLong at size)) h = (h.cause.0, h.cause.1, h.cause.2)

  failure_so : (r : Reached) → failure_in r ≡ failure_of (came_by r)
  failure_so (Ok rows) = refl
  failure_so (Err error.Unknown) = refl
  failure_so (Err (error.Failed at)) = refl
  failure_so (Err (error.Bad at bad)) = refl
  failure_so (Err (error.TooLong at size)) = refl

  pub are_of : (os : List Occurrence) (cs : List Reached) (xs : List Exchange) → AreInvoked before after es os cs xs → map (λ (c : Call). c.of) (calls_of os cs) ≡ os
  are_of [] cs xs h = refl
  are_of (o ∷ os) [] xs h = absurd h
  are_of (o ∷ os) (c ∷ cs) xs h = ap (λ (v : List Occurrence). o ∷ v) (are_of os cs h.1 h.4)

  pub are_many : (os : List Occurrence) (cs : List Reached) (xs : List Exchange) → AreInvoked before after es os cs xs → length cs ≡ length os
  are_many [] [] xs h = refl
  are_many [] (c ∷ cs) xs h = absurd h
  are_many (o ∷ os) [] xs h = absurd h
  are_many (o ∷ os) (c ∷ cs) xs h = ap suc (are_many os cs h.1 h.4)

  pub are_at : (os : List Occurrence) (cs : List Reached) (xs : List Exchange) → AreInvoked before after es os cs xs → AreAt es os cs
  are_at [] cs xs h = tt
  are_at (o ∷ os) [] xs h = absurd h
  are_at (o ∷ os) (c ∷ cs) xs h = (at_so o h.0 c h.3, are_at os cs h.1 h.4)

  calls_so : (os : List Occurrence) (cs : List Reached) (xs : List Exchange) → AreInvoked before after es os cs xs → AreCalls before es (calls_of os cs) xs
  calls_so [] [] xs h = h
  calls_so [] (c ∷ cs) xs h = absurd h
  calls_so (o ∷ os) [] xs h = absurd h
  calls_so (o ∷ os) (c ∷ cs) xs h = (h.0, h.1, h.2, came_so o h.0 c h.3, h.3.sent_so, calls_so os cs h.1 h.4)

  pub known_so : (os : List Occurrence) (cs : List Reached) → AllByRecursion IsKnown (calls_of os cs)
  known_so [] cs = tt
  known_so (o ∷ os) [] = tt
  known_so (o ∷ os) (c ∷ cs) = (ended c, known_so os cs)
    where
      ended : (r : Reached) → HasEnded (came_by r)
      ended (Ok rows) = tt
      ended (Err why) = tt

  failures_so : (address : List ℕ) (os : List Occurrence) (cs : List Reached) → failures_in address os cs ≡ failures_at address (calls_of os cs)
  failures_so address [] cs = refl
  failures_so address (o ∷ os) [] = refl
  failures_so address (o ∷ os) (c ∷ cs) =
      ap (λ (n : ℕ). cond {A = ℕ} (bytes_eq o.iri address) n 0 + failures_in address os cs) (failure_so c)
      ∙ ap (λ (n : ℕ). cond {A = ℕ} (bytes_eq o.iri address) (failure_of (came_by c)) 0 + n) (failures_so address os cs)

  pub all_called : (tells alone : Bool) (os : List Occurrence) (cs : List Reached) → AllInvoked tells alone before after es os (Some cs) → Calling tells alone before after es (calls_of os cs)
  all_called tells alone os cs h = record {
    exchanges = h.exchanges;
    gained = h.gained;
    after_all = h.after_all;
    counted = λ address. subst (λ (n : ℕ). faults_at before address + n ≤ faults_at after address) (failures_so address os cs) (h.counted address);
    in_turn = h.in_turn;
    same = h.same;
    are_calls = calls_so os cs h.in_turn h.come_to;
  }

  pub counted_so : (tells alone : Bool) (os : List Occurrence) (cs : List Reached) → AllInvoked tells alone before after es os (Some cs) → IsTrue alone → (address : List ℕ) → faults_at after address ≡ faults_at before address + failures_at address (calls_of os cs)
  counted_so tells alone os cs h is address = h.exact is address ∙ ap (λ (n : ℕ). faults_at before address + n) (failures_so address os cs)

-- of what passed it is known what it came to
pub passed_known : (calls : List Call) → All IsPassed calls → All IsKnown calls
passed_known calls h = All-weaker IsPassed IsKnown (λ c p. ended c.of.silent c.came p) calls h
  where
    ended : (silent : Bool) (came : Came) → Passes silent came → HasEnded came
    ended silent (told rows) p = tt
    ended silent (failed why) p = tt
    ended silent lost p = absurd p

-- ---- memory ran out

abbrev lost_of : Occurrence → Call
lost_of o = record { of = o; came = lost }

lost_are : (os : List Occurrence) → map (λ (c : Call). c.of) (map lost_of os) ≡ os
lost_are [] = refl
lost_are (o ∷ os) = ap (λ (v : List Occurrence). o ∷ v) (lost_are os)

lost_calls : (before : List Seen) (es : List EndpointParts) (os : List Occurrence) (xs : List Exchange) → AreSentFor es os xs → AreCalls before es (map lost_of os) xs
lost_calls before es [] xs h = h
lost_calls before es (o ∷ os) xs h = (h.0, h.1, h.2, tt, h.3, lost_calls before es os h.1 h.4)

no_failures : (address : List ℕ) (os : List Occurrence) → failures_at address (map lost_of os) ≡ 0
no_failures address [] = refl
no_failures address (o ∷ os) = none (bytes_eq o.iri address) ∙ no_failures address os
  where
    none : (b : Bool) → cond {A = ℕ} b 0 0 + failures_at address (map lost_of os) ≡ failures_at address (map lost_of os)
    none true = omega arith
    none false = omega arith

pub lost_called : (tells alone : Bool) (before after : List Seen) (es : List EndpointParts) (os : List Occurrence) → AllInvoked tells alone before after es os None → AreLost tells alone before after es os
lost_called tells alone before after es os h = record {
  calls = map lost_of os;
  called = inr (lost_are os);
  calling = record {
    exchanges = h.exchanges;
    gained = h.gained;
    after_all = h.after_all;
    counted = λ address.
        let low : faults_at before address ≤ faults_at after address = gain_laws.never_fall before after address h.after_all in
        omega (arith, low, no_failures address os);
    in_turn = h.in_turn;
    same = h.same;
    are_calls = lost_calls before es os h.in_turn h.come_to;
  };
}

-- ---- from before

module _ (before between : List Seen) (left : AreAfter before between) (es : List EndpointParts) where
  -- what is told of graphs was told before, too
  earlier : (iri : List ℕ) (g : Group) (came : Came) (own : List Exchange) → HasComeTo between es iri g came own → HasComeTo before es iri g came own
  earlier iri g (told rows) own h = (h.0, h.1, h.2, (h.3.0, λ graph tell. h.3.1 graph (still_tell before between iri graph left tell)))
  earlier iri g (failed cause.Failed) own h = h
  earlier iri g (failed (cause.Bad bad)) own h = (
    h.0,
    h.1,
    h.2,
    record {
      of_kind = h.3.of_kind;
      posts = h.3.posts;
      short = h.3.short;
      alone = h.3.alone;
      fault = h.3.fault;
      long = λ graph tell. h.3.long graph (still_tell before between iri graph left tell);
    },
  )
  earlier iri g (failed (cause.TooLong size)) own h = h
  earlier iri g (failed cause.Unknown) own h = h
  earlier iri g lost own h = tt

  pub calls_earlier : (calls : List Call) (xs : List Exchange) → AreCalls between es calls xs → AreCalls before es calls xs
  calls_earlier [] xs h = h
  calls_earlier (c ∷ cs) xs h = (h.0, h.1, h.2, earlier c.of.iri c.of.group c.came h.0 h.3, h.4, calls_earlier cs h.1 h.5)

pub failures_behind : (address : List ℕ) (calls more : List Call) → failures_at address (calls ++ more) ≡ failures_at address calls + failures_at address more
failures_behind address [] more = omega arith
failures_behind address (c ∷ cs) more =
    let rest : failures_at address (cs ++ more) ≡ failures_at address cs + failures_at address more = failures_behind address cs more in
    let own : ℕ = cond {A = ℕ} (bytes_eq c.of.iri address) (failure_of c.came) 0 in
    ap (λ (n : ℕ). own + n) rest ∙ omega arith

-- ---- all or none

-- they are the first of these occurrences
pub record AreFirst (calls : List Call) (all : List Occurrence) : Type 0 where
  pub others : List Occurrence
  pub are : map (λ c. c.of) calls ++ others ≡ all

pub first_of : (calls : List Call) (all : List Occurrence) → AreAllOrNone calls all → AreFirst calls all
first_of calls all (inl none) = record { others = all; are = ap (λ (v : List Call). map (λ (c : Call). c.of) v ++ all) none }
first_of calls all (inr are) = record { others = []; are = append-nil (map (λ (c : Call). c.of) calls) ∙ are }
