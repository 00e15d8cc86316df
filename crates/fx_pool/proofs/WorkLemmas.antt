-- What one worker did, job after job.
use Rattle.std.proofs.Common.{◌≡◌, ◌∙◌, ap, sym, subst, ℕ, zero, suc, ◌+◌, ◌<◌, ◌≤◌, ◌++◌, Bool, List, [], ◌∷◌, map, Option, Some, None, Ok, Vec, cond, get_or, length, ltb, slice_get, arith, append-nil}
use Rattle.std.specs.List.{AllByRecursion}
use Rattle.std.specs.declared.alloc.Global.{Global}
use Rattle.std.proofs.lemmas.Bool.Decides.{nat_tests}
use Rattle.std.proofs.lemmas.Grind.{flat_map-append}
use Rattle.std.proofs.lemmas.List.{map-append}
use Rattle.std.proofs.lemmas.Option.{slice_get_past}
use Rattle.fx_outside.specs.Endpoints.{EndpointParts}
use Rattle.fx_wire.specs.Exchanges.{Seen}
use Rattle.fx_pool.specs.Claims.{IsFresh, IsSameSeat, with_drawn}
use Rattle.fx_pool.specs.Runs.{WireDid}
use Rattle.fx_pool.specs.Sharing.{HasWorked, at_most_one, below, jobs_of, number_of, reply_of}
use Rattle.fx_pool.specs.declared.claims.Drawn.{Drawn}
use Rattle.fx_pool.specs.declared.jobs.Done.{Done}
use Rattle.fx_pool.specs.declared.jobs.Job.{Job}
use Rattle.fx_pool.specs.declared.jobs.JobReply.{JobReply}
use Rattle.fx_pool.proofs.NumberLemmas.{below_past, below_push}
use Rattle.fx_pool.proofs.RunLemmas.{did_both, replies_lost}

-- a number more was drawn
pub jobs_more : (jobs : List Job) (ns : List ℕ) (n : ℕ) (j : Job) → slice_get jobs n ≡ Some j → jobs_of jobs (ns ++ n ∷ []) ≡ jobs_of jobs ns ++ j ∷ []
jobs_more jobs ns n j at = flat_map-append (λ m. at_most_one (slice_get jobs m)) ns (n ∷ []) ∙ ap (λ (o : Option Job). jobs_of jobs ns ++ (at_most_one o ++ [])) at

-- a number past the jobs
pub jobs_past : (jobs : List Job) (ns : List ℕ) (n : ℕ) → length jobs ≤ n → jobs_of jobs (ns ++ n ∷ []) ≡ jobs_of jobs ns
jobs_past jobs ns n high =
    flat_map-append (λ m. at_most_one (slice_get jobs m)) ns (n ∷ []) ∙ ap (λ (o : Option Job). jobs_of jobs ns ++ (at_most_one o ++ [])) (slice_get_past jobs n high) ∙ append-nil (jobs_of jobs ns)

module _ (alone : Bool) (s t : Seen) (es : List EndpointParts) (jobs : List Job) (ns : List ℕ) (n : ℕ) (j : Job) (at : slice_get jobs n ≡ Some j) (rs : List JobReply) (h : WireDid alone s t es (jobs_of jobs ns) (Some rs)) where
  -- its job was done
  pub worked_on : (u : Seen) (r : JobReply) → WireDid alone t u es (j ∷ []) (Some (r ∷ [])) → WireDid alone s u es (jobs_of jobs (ns ++ n ∷ [])) (Some (rs ++ r ∷ []))
  worked_on u r d = subst (λ (v : List Job). WireDid alone s u es v (Some (rs ++ r ∷ []))) (sym (jobs_more jobs ns n j at)) (did_both alone s t u es (jobs_of jobs ns) (j ∷ []) rs h (Some (r ∷ [])) d)

module _ (alone : Bool) (s t u : Seen) (es : List EndpointParts) (jobs : List Job) (ns ms : List ℕ) (n : ℕ) (drawn : ms ≡ ns ++ n ∷ []) (j : Job) (at : slice_get jobs n ≡ Some j) (rs : List JobReply) (h : WireDid alone s t es (jobs_of jobs ns) (Some rs)) where
  -- memory ran out while it was
  pub ended_at : WireDid alone t u es (j ∷ []) None → WireDid alone s u es (jobs_of jobs ms) None
  ended_at d =
      subst (λ (v : List ℕ). WireDid alone s u es (jobs_of jobs v) None) (sym drawn)
      (subst (λ (v : List Job). WireDid alone s u es v None) (sym (jobs_more jobs ns n j at)) (did_both alone s t u es (jobs_of jobs ns) (j ∷ []) rs h None d))

  -- or for its reply
  pub lost_at : (r : JobReply) → WireDid alone t u es (j ∷ []) (Some (r ∷ [])) → WireDid alone s u es (jobs_of jobs ms) None
  lost_at r d = ended_at (replies_lost alone t u es (j ∷ []) (r ∷ []) d)

-- the seat is as before, but for the number that it drew
pub drew : (v w u : Drawn × List (ℕ × ℕ)) (n count : ℕ) → w ≡ (with_drawn v.0 n, []) → (v.1 ≡ []) × (v.0.parts ≡ u.0.parts) × (0 < v.0.parts) × (v.0.jobs ≡ count) × (v.0.past ≡ 0) → IsFresh count u → IsSameSeat u w
drew v w u n count drawn seat fresh = (
  ap (λ (m : Drawn × List (ℕ × ℕ)). m.1) drawn,
  ap (λ (m : Drawn × List (ℕ × ℕ)). m.0.parts) drawn ∙ seat.1,
  ap (λ (m : Drawn × List (ℕ × ℕ)). m.0.jobs) drawn ∙ seat.3 ∙ sym fresh.2,
)

-- ---- lists that grow by one

-- what is known once a number was drawn and its job done
module _ (alone : Bool) (s t u : Seen) (es : List EndpointParts) (jobs : List Job) (ns ms : List ℕ) (n : ℕ) (drawn : ms ≡ ns ++ n ∷ []) (j : Job) (at : slice_get jobs n ≡ Some j) (ds more : List Done) (r : JobReply)
    (grown : more ≡ ds ++ record { number = n; reply = r } ∷ []) where
  pub did_more : WireDid alone s t es (jobs_of jobs ns) (Some (map reply_of ds)) → WireDid alone t u es (j ∷ []) (Some (r ∷ [])) → WireDid alone s u es (jobs_of jobs ms) (Some (map reply_of more))
  did_more h d =
      let replies : map reply_of more ≡ map reply_of ds ++ r ∷ [] = ap (map reply_of) grown ∙ map-append reply_of ds (record { number = n; reply = r } ∷ []) in
      subst (λ (v : List JobReply). WireDid alone s u es (jobs_of jobs ms) (Some v)) (sym replies)
      (subst (λ (v : List ℕ). WireDid alone s u es (jobs_of jobs v) (Some (map reply_of ds ++ r ∷ []))) (sym drawn) (worked_on alone s t es jobs ns n j at (map reply_of ds) h u r d))

  pub numbers_more : n < length jobs → map number_of ds ≡ below (length jobs) ns → map number_of more ≡ below (length jobs) ms
  numbers_more low h =
      ap (map number_of) grown
      ∙ map-append number_of ds (record { number = n; reply = r } ∷ [])
      ∙ ap (λ (v : List ℕ). v ++ n ∷ []) h
      ∙ sym (below_push (length jobs) n ns low)
      ∙ ap (below (length jobs)) (sym drawn)

-- ---- what is made of a list, read at a number

pub read_made : {X Y : Type 0} (f : X → Y) (xs : List X) (n : ℕ) (x : X) → n < length xs → x ≡ get_or xs n x → slice_get (map f xs) n ≡ Some (f x)
read_made f [] n x low is = absurd (omega (arith, low))
read_made f (y ∷ xs) zero x low is = ap (λ v. Some (f v)) (sym is)
read_made f (y ∷ xs) (suc n) x low is = read_made f xs n x (omega (arith, low)) is

some_same : {X : Type 0} (x y : X) → Some x ≡ Some y → x ≡ y
some_same x y e = cc

pub held_at : {X : Type 0} (P : X → Type 0) (xs : List X) (n : ℕ) (x : X) → AllByRecursion P xs → slice_get xs n ≡ Some x → P x
held_at P [] n x h is = absurd (cc)
held_at P (y ∷ xs) zero x h is = subst P (some_same y x is) h.0
held_at P (y ∷ xs) (suc n) x h is = held_at P xs n x h.1 is

-- ---- a number past the jobs ends it

over : (n jobs past : ℕ) → jobs ≤ n → past ≡ 0 → 0 < cond {A = ℕ} (ltb n jobs) past (past + 1)
over n jobs past high none = grind (arith, nat_tests)

pub finished : (alone : Bool) (s t : Seen) (es : List EndpointParts) (jobs : List Job) (u v w : Drawn × List (ℕ × ℕ)) (n : ℕ) → w ≡ (with_drawn v.0 n, []) → IsFresh (length jobs) u
    → (v.1 ≡ []) × (v.0.parts ≡ u.0.parts) × (0 < v.0.parts) × (v.0.jobs ≡ length jobs) × (v.0.past ≡ 0) → length jobs ≤ n → (done : Vec Done Global)
    → WireDid alone s t es (jobs_of jobs v.0.numbers) (Some (map reply_of done.items)) → map number_of done.items ≡ below (length jobs) v.0.numbers → HasWorked alone s t es jobs u w (Ok done)
finished alone s t es jobs u v w n drawn fresh seat high done did all =
    let numbers : w.0.numbers ≡ v.0.numbers ++ n ∷ [] = ap (λ (m : Drawn × List (ℕ × ℕ)). m.0.numbers) drawn in
    let past : w.0.past ≡ cond {A = ℕ} (ltb n v.0.jobs) v.0.past (v.0.past + 1) = ap (λ (m : Drawn × List (ℕ × ℕ)). m.0.past) drawn in
    let jobs_is : v.0.jobs ≡ length jobs = seat.3 in
    let none : v.0.past ≡ 0 = seat.4 in
    let some : 0 < cond {A = ℕ} (ltb n v.0.jobs) v.0.past (v.0.past + 1) = over n v.0.jobs v.0.past (omega (arith, jobs_is, high)) none in
    record {
      seat = drew v w u n (length jobs) drawn seat fresh;
      did =
          subst (λ (m : List ℕ). WireDid alone s t es (jobs_of jobs m) (Some (map reply_of done.items))) (sym numbers)
          (subst (λ (m : List Job). WireDid alone s t es m (Some (map reply_of done.items))) (sym (jobs_past jobs v.0.numbers n high)) did);
      all = (omega (arith, past, some), all ∙ sym (below_past (length jobs) n v.0.numbers high) ∙ ap (below (length jobs)) (sym numbers));
    }
