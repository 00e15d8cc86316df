-- Each step keeps the rule of the word.
use Rattle.std.proofs.Common.{◌≡◌, ◌≢◌, ℕ, ◌+◌, ◌-◌, ◌/◌, ◌%◌, ◌^◌, ◌<◌, ◌≤◌, cond, eqb, ltb, List, [], ◌∷◌, ◌++◌, set, get_or, sum_by, sym, refl, ap, ◌∙◌, subst, ⊎_elim, arith, slice_index}
use mathlib.Core.Option.{some}
use lib.ListN.{get_elem?}
use Rattle.std.proofs.lemmas.List.{get_or-set_same}
use Rattle.std.proofs.Math.ListN.{length-set}
use Rattle.std.proofs.lemmas.List.Sums.{sum_by_push, sum_by-append}
use Rattle.std.proofs.lemmas.Bool.Decides.{nat_tests}
use Rattle.atomic_table.proofs.Lists.{at_set, at_snoc}
use Rattle.atomic_table.specs.Table.{Allows, Splits, Joins, keeps}
use Rattle.fx_pool.specs.declared.claims.Drawn.{Drawn}
use Rattle.fx_pool.specs.Claims.{hand, times, once_below, with_drawn, IsFair, IsClaimed}
use Rattle.fx_pool.proofs.ViewLemmas.{sum_set, sum_le, sum_none}

-- what all seats drew, of one number
abbrev drawn_in : ℕ → Drawn → ℕ
drawn_in x v = times x v.numbers

abbrev parts_of : Drawn → ℕ
parts_of v = v.parts

abbrev past_of : Drawn → ℕ
past_of v = v.past

-- after a step of one seat
moved : (jobs : ℕ) (words : List ℕ) (views : List Drawn) (seat n : ℕ) (v w : Drawn) → IsClaimed jobs words views → get_elem? views seat ≡ some v
    → w.parts ≡ v.parts → IsFair jobs w
    → ((x : ℕ) → once_below x n + times x v.numbers ≡ once_below x (slice_index words 0) + times x w.numbers)
    → n + v.past ≤ jobs + sum_by past_of views + w.past
    → (0 < sum_by past_of views + w.past → jobs < n)
    → IsClaimed jobs (set words 0 n) (set views seat w)
moved jobs words views seat n v w h at same fair once near reached =
    let word : get_or (set words 0 n) 0 0 ≡ n = get_or-set_same words 0 n 0 (omega (arith, h.one)) in
    record {
      one = length-set words 0 n ∙ h.one;
      few = h.few;
      whole = (let s = sum_set parts_of views seat v w at in omega (arith, s, h.whole));
      once = λ x. (let s = sum_set (drawn_in x) views seat v w at in
          let P : ℕ → Type 0 = λ m. sum_by (drawn_in x) (set views seat w) ≡ once_below x m in
          subst P (sym word) (omega (arith, s, h.once x, once x)));
      near = (let s = sum_set past_of views seat v w at in omega (arith, s, near, word));
      reached = λ some_past. (let s = sum_set past_of views seat v w at in let r = reached (omega (arith, s)) in omega (arith, word, r));
      fair = λ j u e. ⊎_elim (λ (t : (j ≡ seat) × (w ≡ u)). subst (IsFair jobs) t.1 fair) (λ (t : (j ≢ seat) × (get_elem? views j ≡ some u)). h.fair j u t.1) (at_set views seat j w u e);
    }

-- the word stays near the number of jobs
low : (jobs : ℕ) (words : List ℕ) (views : List Drawn) → IsClaimed jobs words views → slice_index words 0 ≤ jobs + 16
low jobs words views h = let le = sum_le past_of parts_of views (λ j u e. (h.fair j u e).within) in omega (arith, le, h.whole, h.near)

one_more : (x n : ℕ) (ns : List ℕ) → once_below x (n + 1) + times x ns ≡ once_below x n + times x (ns ++ n ∷ [])
one_more x n ns =
    let push : times x (ns ++ n ∷ []) ≡ times x ns + cond {A = ℕ} (eqb n x) 1 0 = sum_by_push (λ (m : ℕ). cond {A = ℕ} (eqb m x) 1 0) ns n in
    let step : cond {A = ℕ} (ltb x (n + 1)) 1 0 ≡ cond {A = ℕ} (ltb x n) 1 0 + cond {A = ℕ} (eqb n x) 1 0 = grind (arith, nat_tests) in
    omega (arith, push, step)

near_after : (n jobs sum past : ℕ) → n ≤ jobs + sum → (n + 1) + past ≤ jobs + sum + cond {A = ℕ} (ltb n jobs) past (past + 1)
near_after n jobs sum past near = grind (arith, nat_tests)

fits_after : (n jobs past parts : ℕ) → past < parts → cond {A = ℕ} (ltb n jobs) past (past + 1) ≤ parts
fits_after n jobs past parts lt = grind (arith, nat_tests)

-- what one seat drew past the jobs, all did
one_of : (views : List Drawn) (seat : ℕ) (v : Drawn) → get_elem? views seat ≡ some v → v.past ≤ sum_by past_of views
one_of views seat v at = let s = sum_set past_of views seat v (hand 0 0 0 []) at in omega (arith, s)

reached_after : (n jobs sum past : ℕ) → (0 < sum → jobs < n) → past ≤ sum → 0 < sum + cond {A = ℕ} (ltb n jobs) past (past + 1) → jobs < n + 1
reached_after n jobs sum past before le any = grind (arith, nat_tests)

wraps : (n jobs : ℕ) → jobs < 4294967296 → n ≤ jobs + 16 → (n + 1) % 2 ^ 64 ≡ n + 1
wraps n jobs few near = grind arith

pub draws : (jobs slots seat : ℕ) (v : Drawn) → v.past < v.parts
    → Allows {S = ℕ} {V = Drawn} (λ s. IsClaimed jobs s.words s.views) slots seat (v, []) 0 (λ n. (n + 1) % 2 ^ 64) (λ found after. after ≡ (with_drawn v found, []))
draws jobs slots seat v may s h len at fits =
    let n : ℕ = slice_index s.words 0 in
    let w : Drawn = with_drawn v n in
    let same = (h.fair seat v at).same (omega arith) in
    let next = wraps n jobs h.few (low jobs s.words s.views h) in
    let fair : IsFair jobs w = record { within = rw same (fits_after n jobs v.past v.parts may); idle = λ none. absurd (omega arith); same = λ _. same } in
    let near : (n + 1) + v.past ≤ jobs + sum_by past_of s.views + w.past = rw same (near_after n jobs (sum_by past_of s.views) v.past h.near) in
    let reached : 0 < sum_by past_of s.views + w.past → jobs < n + 1 = rw same (reached_after n jobs (sum_by past_of s.views) v.past h.reached (one_of s.views seat v at)) in
    let P : ℕ → Type 0 = λ m. IsClaimed jobs (set s.words 0 m) (set s.views seat w) in
    (w, keeps, tt, subst P (sym next) (moved jobs s.words s.views seat (n + 1) v w h at refl fair (λ x. one_more x n v.numbers) near reached), refl)

pub knows : (jobs slots seat : ℕ) (v : Drawn) → v.parts ≡ 16
    → Allows {S = ℕ} {V = Drawn} (λ s. IsClaimed jobs s.words s.views) slots seat (v, []) 0 (λ n. n) (λ found after. (after ≡ (v, [])) × ((x : ℕ) → times x v.numbers ≡ once_below x found) × (0 < v.past → v.jobs < found))
knows jobs slots seat v whole s h len at fits =
    let n : ℕ = slice_index s.words 0 in
    let none : Drawn = hand 0 0 0 [] in
    let zero_parts : sum_by parts_of (set s.views seat none) ≡ 0 = (let t = sum_set parts_of s.views seat v none at in omega (arith, t, h.whole, whole)) in
    let others : (x : ℕ) → sum_by (drawn_in x) (set s.views seat none) ≡ 0 = λ x.
    sum_none (drawn_in x) parts_of (set s.views seat none)
    (λ j u e idle. ⊎_elim (λ (t : (j ≡ seat) × (none ≡ u)). subst (λ (y : Drawn). drawn_in x y ≡ 0) t.1 refl)
    (λ (t : (j ≢ seat) × (get_elem? s.views j ≡ some u)). ap (times x) ((h.fair j u t.1).idle idle)) (at_set s.views seat j none u e))
    zero_parts in
    let once : (x : ℕ) → times x v.numbers ≡ once_below x n = λ x. (let t = sum_set (drawn_in x) s.views seat v none at in omega (arith, t, others x, h.once x)) in
    let mine = one_of s.views seat v at in
    let same = (h.fair seat v at).same (omega arith) in
    let reached : 0 < v.past → v.jobs < n = λ some_past. (let r = h.reached (omega (arith, mine)) in omega (arith, r, same)) in
    (v, keeps, tt, moved jobs s.words s.views seat n v v h at refl (h.fair seat v at) (λ x. refl) (omega (arith, h.near)) (λ some_past. h.reached (omega (arith, mine))), (refl, once, reached))

half_le : (n : ℕ) → n / 2 ≤ n
half_le n = grind arith

pub splits : (jobs seat : ℕ) (v : Drawn) → 2 ≤ v.parts → v.past ≡ 0 → v.numbers ≡ []
    → Splits {S = ℕ} {V = Drawn} (λ s. IsClaimed jobs s.words s.views) seat v (hand (v.parts - v.parts / 2) v.jobs v.past v.numbers) (hand (v.parts / 2) v.jobs 0 [])
splits jobs seat v two past empty s h at =
    let l : Drawn = hand (v.parts - v.parts / 2) v.jobs v.past v.numbers in
    let r : Drawn = hand (v.parts / 2) v.jobs 0 [] in
    let half : (1 ≤ v.parts / 2) × (v.parts / 2 < v.parts) = (grind arith, grind arith) in
    let same = (h.fair seat v at).same (omega arith) in
    let fair_l : IsFair jobs l = record { within = omega arith; idle = λ none. absurd (omega arith); same = λ _. same } in
    let fair_r : IsFair jobs r = record { within = omega arith; idle = λ _. refl; same = λ _. same } in
    let vs : List Drawn = set s.views seat l in
    record {
      one = h.one;
      few = h.few;
      whole = (let t = sum_set parts_of s.views seat v l at in let p = sum_by_push parts_of vs r in omega (arith, t, p, h.whole, half.1));
      once = λ x. (let t = sum_set (drawn_in x) s.views seat v l at in let p = sum_by_push (drawn_in x) vs r in omega (arith, t, p, h.once x));
      near = (let t = sum_set past_of s.views seat v l at in let p = sum_by_push past_of vs r in omega (arith, t, p, h.near));
      reached = λ some_past. (let t = sum_set past_of s.views seat v l at in let p = sum_by_push past_of vs r in h.reached (omega (arith, t, p)));
      fair = λ j u e. ⊎_elim
          (λ (o : get_elem? vs j ≡ some u). ⊎_elim (λ (t : (j ≡ seat) × (l ≡ u)). subst (IsFair jobs) t.1 fair_l) (λ (t : (j ≢ seat) × (get_elem? s.views j ≡ some u)). h.fair j u t.1) (at_set s.views seat j l u o))
          (λ (t : r ≡ u). subst (IsFair jobs) t fair_r) (at_snoc vs r u j e);
    }

pub joins : (jobs seat other : ℕ) (v w : Drawn) → 0 < v.parts → 0 < w.parts
    → Joins {S = ℕ} {V = Drawn} (λ s. IsClaimed jobs s.words s.views) seat v other w (hand (v.parts + w.parts) v.jobs (v.past + w.past) (v.numbers ++ w.numbers)) (hand 0 0 0 [])
joins jobs seat other v w some_v some_w s h at apart at' =
    let both : Drawn = hand (v.parts + w.parts) v.jobs (v.past + w.past) (v.numbers ++ w.numbers) in
    let none : Drawn = hand 0 0 0 [] in
    let vs : List Drawn = set s.views seat both in
    let was : get_elem? s.views other ≡ some w = ⊎_elim (λ (t : (other ≡ seat) × (both ≡ w)). absurd (apart t.0)) (λ (t : (other ≢ seat) × (get_elem? s.views other ≡ some w)). t.1) (at_set s.views seat other both w at') in
    let a = h.fair seat v at in
    let b = h.fair other w was in
    let same = a.same some_v in
    let fair : IsFair jobs both = record { within = omega (arith, a.within, b.within); idle = λ none. absurd (omega arith); same = λ _. same } in
    let fair_none : IsFair jobs none = record { within = omega arith; idle = λ _. refl; same = λ t. absurd (omega arith) } in
    record {
      one = h.one;
      few = h.few;
      whole = (let t = sum_set parts_of s.views seat v both at in let u = sum_set parts_of vs other w none at' in omega (arith, t, u, h.whole));
      once = λ x. (let t = sum_set (drawn_in x) s.views seat v both at in let u = sum_set (drawn_in x) vs other w none at' in
          let p = sum_by-append (λ (m : ℕ). cond {A = ℕ} (eqb m x) 1 0) v.numbers w.numbers in omega (arith, t, u, p, h.once x));
      near = (let t = sum_set past_of s.views seat v both at in let u = sum_set past_of vs other w none at' in omega (arith, t, u, h.near));
      reached = λ some_past. (let t = sum_set past_of s.views seat v both at in let u = sum_set past_of vs other w none at' in h.reached (omega (arith, t, u)));
      fair = λ j u e. ⊎_elim (λ (t : (j ≡ other) × (none ≡ u)). subst (IsFair jobs) t.1 fair_none)
          (λ (o : (j ≢ other) × (get_elem? vs j ≡ some u)). ⊎_elim (λ (t : (j ≡ seat) × (both ≡ u)). subst (IsFair jobs) t.1 fair) (λ (t : (j ≢ seat) × (get_elem? s.views j ≡ some u)). h.fair j u t.1) (at_set s.views seat j both u o.1))
          (at_set vs other j none u e);
    }
