-- What workers with two halves of the wires did is what workers with all of them did.
use Rattle.std.proofs.Common.{◌≡◌, ◌∙◌, ap, sym, subst, refl, ℕ, ◌+◌, ◌-◌, ◌/◌, ◌≤◌, Bool, List, [], ◌∷◌, ◌++◌, map, All, IfOk, IfSome, IsOkAnd, Option, Some, None, Ok, Err, Result, Vec, length, ltb, slice_get, arith, append-nil}
use Rattle.std.specs.List.{AllByRecursion}
use Rattle.std.specs.declared.alloc.Global.{Global}
use Rattle.std.proofs.lemmas.Grind.{flat_map-append}
use Rattle.std.proofs.lemmas.List.{map-append}
use Rattle.std.proofs.lemmas.List.Elements.{All-append, All-from_recursion, All-weaker, filter-append, recursion_from_All}
use Rattle.std.proofs.lemmas.List.Sorted.{IsPermutation-append, IsPermutation-refl}
use Rattle.fx_terms.specs.declared.allocation.Memory.{Memory}
use Rattle.fx_outside.specs.Endpoints.{EndpointParts}
use Rattle.fx_traffic.specs.Gains.{AreAfter, faults_at}
use Rattle.fx_traffic.proofs.GainLemmas.{gain_laws}
use Rattle.fx_wire.specs.Exchanges.{Seen}
use Rattle.fx_pool.specs.Claims.{hand}
use Rattle.fx_pool.specs.Jobs.{failures_at}
use Rattle.fx_pool.specs.Runs.{AreDoneInSome, IsHonestOver, WiresDid}
use Rattle.fx_pool.specs.Sharing.{HaveWorked, at_most_one, below, jobs_of, number_of, replies_in, reply_of}
use Rattle.fx_pool.specs.declared.claims.Drawn.{Drawn}
use Rattle.fx_pool.specs.declared.jobs.Done.{Done}
use Rattle.fx_pool.specs.declared.jobs.Job.{Job}
use Rattle.fx_pool.specs.declared.jobs.JobReply.{JobReply}
use Rattle.fx_pool.proofs.WireLemmas.{after_itself}
use Rattle.fx_pool.proofs.RunLemmas.{done_both, failures_both, jobs_both, of_both}

-- ---- wires beside wires

module _ {X : Type 0} (P : X → Type 0) where
  of_front : (xs ys : List X) → AllByRecursion P (xs ++ ys) → AllByRecursion P xs
  of_front [] ys h = tt
  of_front (x ∷ xs) ys h = (h.0, of_front xs ys h.1)

  of_back : (xs ys : List X) → AllByRecursion P (xs ++ ys) → AllByRecursion P ys
  of_back [] ys h = h
  of_back (x ∷ xs) ys h = of_back xs ys h.1

  pub front_all : (xs ys : List X) → All P (xs ++ ys) → All P xs
  front_all xs ys h = All-from_recursion P xs (of_front xs ys (recursion_from_All P (xs ++ ys) h))

  pub back_all : (xs ys : List X) → All P (xs ++ ys) → All P ys
  back_all xs ys h = All-from_recursion P ys (of_back xs ys (recursion_from_All P (xs ++ ys) h))

pub after_beside : (s t u v : List Seen) → AreAfter s t → AreAfter u v → AreAfter (s ++ u) (t ++ v)
after_beside [] [] u v h k = k
after_beside [] (y ∷ t) u v h k = absurd h
after_beside (x ∷ s) [] u v h k = absurd h
after_beside (x ∷ s) (y ∷ t) u v h k = (h.0, after_beside s t u v h.1 k)

-- the replies of both, where both have any
abbrev pub AreBoth : Option (List JobReply) → Option (List JobReply) → Option (List JobReply) → Type 0
AreBoth o p None = Unit {0}
AreBoth (Some rs) (Some qs) (Some all) = all ≡ rs ++ qs
AreBoth (Some rs) None (Some all) = ⊥
AreBoth None p (Some all) = ⊥

module _ (tells alone : Bool) (es : List EndpointParts) (s t u v : List Seen) (js ks : List Job) where
  pub beside : (o p c : Option (List JobReply)) → AreBoth o p c → WiresDid tells alone s t es js o → WiresDid tells alone u v es ks p → WiresDid tells alone (s ++ u) (t ++ v) es (js ++ ks) c
  beside o p c both h k = record {
    exchanges = h.exchanges ++ k.exchanges;
    gained = λ told. gain_laws.beside s t u v h.exchanges k.exchanges (h.gained told) (k.gained told);
    honest =
        All-append (IsHonestOver (s ++ u)) h.exchanges k.exchanges
        (All-weaker (IsHonestOver s) (IsHonestOver (s ++ u)) (λ x honest graph tell. honest graph (front_all (λ (w : Seen). w.graph x.at.iri ≡ Some graph) s u tell)) h.exchanges h.honest)
        (All-weaker (IsHonestOver u) (IsHonestOver (s ++ u)) (λ x honest graph tell. honest graph (back_all (λ (w : Seen). w.graph x.at.iri ≡ Some graph) s u tell)) k.exchanges k.honest);
    left = after_beside s t u v h.left k.left;
    of_jobs = of_both es js ks h.exchanges k.exchanges h.of_jobs k.of_jobs;
    done = done o p c both h.done k.done;
    counted = counted o p c both h.done h.counted k.counted;
    few = λ is address. omega (arith, h.few is address, k.few is address, before address, after address, jobs_both es address js ks);
    exact = λ is. exact o p c both h.done (h.exact is) (k.exact is);
  }
    where
      before : (address : List ℕ) → faults_at (s ++ u) address ≡ faults_at s address + faults_at u address
      before address = gain_laws.add_up s u address

      after : (address : List ℕ) → faults_at (t ++ v) address ≡ faults_at t address + faults_at v address
      after address = gain_laws.add_up t v address

      done : (o p c : Option (List JobReply)) → AreBoth o p c → IfSome o (λ rs. AreDoneInSome es js rs h.exchanges) → IfSome p (λ qs. AreDoneInSome es ks qs k.exchanges)
          → IfSome c (λ all. AreDoneInSome es (js ++ ks) all (h.exchanges ++ k.exchanges))
      done o p None b d e = tt
      done (Some rs) (Some qs) (Some all) b d e =
          subst (λ (v : List JobReply). AreDoneInSome es (js ++ ks) v (h.exchanges ++ k.exchanges)) (sym b)
          (d.0 ++ e.0, done_both es js ks rs qs d.0 e.0 d.1 e.1, IsPermutation-append d.0 h.exchanges e.0 k.exchanges d.2 e.2)
      done (Some rs) None (Some all) b d e = absurd b
      done None p (Some all) b d e = absurd b

      failures : (rs qs all : List JobReply) → all ≡ rs ++ qs → AreDoneInSome es js rs h.exchanges → (address : List ℕ)
          → failures_at es address (js ++ ks) all ≡ failures_at es address js rs + failures_at es address ks qs
      failures rs qs all b d address = ap (failures_at es address (js ++ ks)) b ∙ failures_both es address js ks rs qs d.0 d.1

      counted : (o p c : Option (List JobReply)) → AreBoth o p c → IfSome o (λ rs. AreDoneInSome es js rs h.exchanges)
          → IfSome o (λ rs. (address : List ℕ) → faults_at s address + failures_at es address js rs ≤ faults_at t address)
          → IfSome p (λ qs. (address : List ℕ) → faults_at u address + failures_at es address ks qs ≤ faults_at v address)
          → IfSome c (λ all. (address : List ℕ) → faults_at (s ++ u) address + failures_at es address (js ++ ks) all ≤ faults_at (t ++ v) address)
      counted o p None b d f g = tt
      counted (Some rs) (Some qs) (Some all) b d f g = λ address.
          let one : faults_at s address + failures_at es address js rs ≤ faults_at t address = f address in
          let two : faults_at u address + failures_at es address ks qs ≤ faults_at v address = g address in
          omega (arith, one, two, before address, after address, failures rs qs all b d address)
      counted (Some rs) None (Some all) b d f g = absurd b
      counted None p (Some all) b d f g = absurd b

      exact : (o p c : Option (List JobReply)) → AreBoth o p c → IfSome o (λ rs. AreDoneInSome es js rs h.exchanges)
          → IfSome o (λ rs. (address : List ℕ) → faults_at t address ≡ faults_at s address + failures_at es address js rs)
          → IfSome p (λ qs. (address : List ℕ) → faults_at v address ≡ faults_at u address + failures_at es address ks qs)
          → IfSome c (λ all. (address : List ℕ) → faults_at (t ++ v) address ≡ faults_at (s ++ u) address + failures_at es address (js ++ ks) all)
      exact o p None b d f g = tt
      exact (Some rs) (Some qs) (Some all) b d f g = λ address.
          let one : faults_at t address ≡ faults_at s address + failures_at es address js rs = f address in
          let two : faults_at v address ≡ faults_at u address + failures_at es address ks qs = g address in
          omega (arith, one, two, before address, after address, failures rs qs all b d address)
      exact (Some rs) None (Some all) b d f g = absurd b
      exact None p (Some all) b d f g = absurd b

-- ---- workers beside workers

abbrev DoneList : Type 0
DoneList = Vec Done Global

abbrev SeatView : Type 0
SeatView = Drawn × List (ℕ × ℕ)

both_in : (a b c : Result DoneList Memory) → IfOk c (λ all. IsOkAnd a (λ x. IsOkAnd b (λ y. all.items ≡ x.items ++ y.items))) → AreBoth (replies_in a) (replies_in b) (replies_in c)
both_in a b (Err e) h = tt
both_in (Ok x) (Ok y) (Ok all) h = ap (map reply_of) h ∙ map-append reply_of x.items y.items
both_in (Err e) b (Ok all) h = absurd h
both_in (Ok x) (Err e) (Ok all) h = absurd h

ok_both : (a b c : Result DoneList Memory) (P Q R : DoneList → Type 0) → IfOk c (λ all. IsOkAnd a (λ x. IsOkAnd b (λ y. all.items ≡ x.items ++ y.items)))
    → IfOk a P → IfOk b Q → ((x y all : DoneList) → all.items ≡ x.items ++ y.items → P x → Q y → R all) → IfOk c R
ok_both a b (Err e) P Q R h p q f = tt
ok_both (Ok x) (Ok y) (Ok all) P Q R h p q f = f x y all h p q
ok_both (Err e) b (Ok all) P Q R h p q f = absurd h
ok_both (Ok x) (Err e) (Ok all) P Q R h p q f = absurd h

halves : (n : ℕ) → (n - n / 2) + n / 2 ≡ n
halves n = grind arith

pub both_worked : {W : Type 0} (see : W → Seen) (tells alone : Bool) (es : List EndpointParts) (jobs : List Job) (v l m r s j : SeatView) (whole ws vs xs ys : List W) (a b c : Result DoneList Memory)
    → whole ≡ ws ++ xs
    → l ≡ (hand (v.0.parts - v.0.parts / 2) v.0.jobs 0 [], []) → r ≡ (hand (v.0.parts / 2) v.0.jobs 0 [], [])
    → j ≡ (hand (m.0.parts + s.0.parts) m.0.jobs (m.0.past + s.0.past) (m.0.numbers ++ s.0.numbers), [])
    → HaveWorked tells alone (map see ws) (map see vs) es jobs l m a → HaveWorked tells alone (map see xs) (map see ys) es jobs r s b
    → IfOk c (λ all. IsOkAnd a (λ x. IsOkAnd b (λ y. all.items ≡ x.items ++ y.items)))
    → HaveWorked tells alone (map see whole) (map see (vs ++ ys)) es jobs v j c
both_worked see tells alone es jobs v l m r s j whole ws vs xs ys a b c parts left right both h k ok =
    let numbers : j.0.numbers ≡ m.0.numbers ++ s.0.numbers = ap (λ (u : SeatView). u.0.numbers) both in
    let past : j.0.past ≡ m.0.past + s.0.past = ap (λ (u : SeatView). u.0.past) both in
    let l_parts : l.0.parts ≡ v.0.parts - v.0.parts / 2 = ap (λ (u : SeatView). u.0.parts) left in
    let r_parts : r.0.parts ≡ v.0.parts / 2 = ap (λ (u : SeatView). u.0.parts) right in
    let j_parts : j.0.parts ≡ m.0.parts + s.0.parts = ap (λ (u : SeatView). u.0.parts) both in
    let before : map see whole ≡ map see ws ++ map see xs = ap (map see) parts ∙ map-append see ws xs in
    let after : map see (vs ++ ys) ≡ map see vs ++ map see ys = map-append see vs ys in
    let drawn : jobs_of jobs j.0.numbers ≡ jobs_of jobs m.0.numbers ++ jobs_of jobs s.0.numbers = ap (jobs_of jobs) numbers ∙ flat_map-append (λ n. at_most_one (slice_get jobs n)) m.0.numbers s.0.numbers in
    let did = beside tells alone es (map see ws) (map see vs) (map see xs) (map see ys) (jobs_of jobs m.0.numbers) (jobs_of jobs s.0.numbers) (replies_in a) (replies_in b) (replies_in c) (both_in a b c ok) h.did k.did in
    record {
      seat = (ap (λ (u : SeatView). u.1) both, omega (arith, j_parts, l_parts, r_parts, h.seat.1, k.seat.1, halves v.0.parts), ap (λ (u : SeatView). u.0.jobs) both ∙ (h.seat.2 ∙ ap (λ (u : SeatView). u.0.jobs) left));
      did =
          subst (λ (w : List Seen). WiresDid tells alone w (map see (vs ++ ys)) es (jobs_of jobs j.0.numbers) (replies_in c)) (sym before)
          (subst (λ (w : List Seen). WiresDid tells alone (map see ws ++ map see xs) w es (jobs_of jobs j.0.numbers) (replies_in c)) (sym after)
          (subst (λ (w : List Job). WiresDid tells alone (map see ws ++ map see xs) (map see vs ++ map see ys) es w (replies_in c)) (sym drawn) did));
      all = ok_both a b c _ _ _ ok h.all k.all (λ x y all items p q. (
        omega (arith, past, p.0),
        ap (map number_of) items
            ∙ map-append number_of x.items y.items
            ∙ ap (λ (w : List ℕ). w ++ map number_of y.items) p.1
            ∙ ap (λ (w : List ℕ). below (length jobs) m.0.numbers ++ w) q.1
            ∙ sym (filter-append (λ n. ltb n (length jobs)) m.0.numbers s.0.numbers)
            ∙ ap (below (length jobs)) (sym numbers),
      ));
    }

-- wires that did nothing
idle_did : (tells alone : Bool) (es : List EndpointParts) (wires : List Seen) → WiresDid tells alone wires wires es [] (Some [])
idle_did tells alone es wires = record {
  exchanges = [];
  gained = λ told. gain_laws.nothing wires;
  honest = All-from_recursion (IsHonestOver wires) [] tt;
  left = after_itself wires;
  of_jobs = record { wanted = []; of_jobs = refl; left = []; sent = IsPermutation-refl [] };
  done = ([], refl, IsPermutation-refl []);
  counted = λ address. let none : failures_at es address [] [] ≡ 0 = refl in omega (arith, none);
  few = λ is address. omega arith;
  exact = λ is address. let none : failures_at es address [] [] ≡ 0 = refl in omega (arith, none);
}

-- some of the wires were worked with
pub beside_idle : {W : Type 0} (see : W → Seen) (tells alone : Bool) (es : List EndpointParts) (jobs : List Job) (v j : SeatView) (whole used later idle : List W) (r : Result DoneList Memory)
    → whole ≡ used ++ idle → HaveWorked tells alone (map see used) (map see later) es jobs v j r → HaveWorked tells alone (map see whole) (map see (later ++ idle)) es jobs v j r
beside_idle see tells alone es jobs v j whole used later idle r parts h =
    let before : map see whole ≡ map see used ++ map see idle = ap (map see) parts ∙ map-append see used idle in
    let after : map see (later ++ idle) ≡ map see later ++ map see idle = map-append see later idle in
    let drawn = jobs_of jobs j.0.numbers in
    let did = beside tells alone es (map see used) (map see later) (map see idle) (map see idle) drawn [] (replies_in r) (Some []) (replies_in r) (with_none (replies_in r)) h.did (idle_did tells alone es (map see idle)) in
    record {
      seat = h.seat;
      did =
          subst (λ (w : List Seen). WiresDid tells alone w (map see (later ++ idle)) es drawn (replies_in r)) (sym before)
          (subst (λ (w : List Seen). WiresDid tells alone (map see used ++ map see idle) w es drawn (replies_in r)) (sym after)
          (subst (λ (w : List Job). WiresDid tells alone (map see used ++ map see idle) (map see later ++ map see idle) es w (replies_in r)) (append-nil drawn) did));
      all = h.all;
    }
  where
    with_none : (o : Option (List JobReply)) → AreBoth o (Some []) o
    with_none None = tt
    with_none (Some rs) = sym (append-nil rs)
