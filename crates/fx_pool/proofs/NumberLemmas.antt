-- Numbers that were drawn, how often each was, and those up from one.
use Rattle.std.proofs.Common.{◌≡◌, ◌∙◌, ap, sym, subst, refl, ℕ, zero, suc, ◌+◌, ◌<◌, ◌≤◌, Bool, true, false, cond, eqb, ltb, List, [], ◌∷◌, ◌++◌, map, filter, IsPermutation, get_or, length, arith, append_assoc}
use Rattle.std.specs.List.{AllByRecursion, flat_map}
use Rattle.std.specs.List.Sorted.{IsNonDecreasingBy}
use Rattle.std.proofs.lemmas.Bool.Decides.{nat_tests}
use Rattle.std.proofs.lemmas.Grind.{flat_map-append}
use Rattle.std.proofs.lemmas.List.Sums.{sum_by-append, sum_by-cons}
use Rattle.std.proofs.lemmas.List.Sorted.{IsNonDecreasingBy-drop, IsPermutation-append, IsPermutation-append_comm, IsPermutation-append_left, IsPermutation-refl, IsPermutation-trans, sum_by-IsPermutation}
use Rattle.fx_pool.specs.Claims.{once_below, times}
use Rattle.fx_pool.specs.Sharing.{below}

abbrev is_it : ℕ → ℕ → ℕ
is_it x n = cond {A = ℕ} (eqb n x) 1 0

-- ---- how often

pub times_cons : (x n : ℕ) (ns : List ℕ) → times x (n ∷ ns) ≡ is_it x n + times x ns
times_cons x n ns = sum_by-cons (is_it x) n ns

pub times_both : (x : ℕ) (ms ns : List ℕ) → times x (ms ++ ns) ≡ times x ms + times x ns
times_both x ms ns = sum_by-append (is_it x) ms ns

pub times_moved : (x : ℕ) (ms ns : List ℕ) → IsPermutation ms ns → times x ns ≡ times x ms
times_moved x ms ns p = sum_by-IsPermutation (is_it x) ms ns p

kept_one : (t : ℕ → Bool) (x n rest left : ℕ) (b : Bool) → t n ≡ b → left ≡ cond {A = ℕ} (t x) rest 0 → cond {A = ℕ} b (is_it x n + left) left ≡ cond {A = ℕ} (t x) (is_it x n + rest) 0
kept_one t x n rest left b e h = by (eqb n x) refl
  where
    same : eqb n x ≡ true → n ≡ x
    same is = grind (arith, nat_tests)

    met : (c d : Bool) → c ≡ d → left ≡ cond {A = ℕ} d rest 0 → cond {A = ℕ} c (1 + left) left ≡ cond {A = ℕ} d (1 + rest) 0
    met true true f k = omega (arith, k)
    met false false f k = k
    met true false f k = cc
    met false true f k = cc

    none : (m : ℕ) → 0 + m ≡ m
    none m = omega arith

    apart : (c d : Bool) → left ≡ cond {A = ℕ} d rest 0 → cond {A = ℕ} c (0 + left) left ≡ cond {A = ℕ} d (0 + rest) 0
    apart true d k = none left ∙ k ∙ ap (λ (m : ℕ). cond {A = ℕ} d m 0) (sym (none rest))
    apart false d k = k ∙ ap (λ (m : ℕ). cond {A = ℕ} d m 0) (sym (none rest))

    by : (i : Bool) → eqb n x ≡ i → cond {A = ℕ} b (is_it x n + left) left ≡ cond {A = ℕ} (t x) (is_it x n + rest) 0
    by true is = subst (λ (v : Bool). cond {A = ℕ} b (cond {A = ℕ} v 1 0 + left) left ≡ cond {A = ℕ} (t x) (cond {A = ℕ} v 1 0 + rest) 0) (sym is) (met b (t x) (sym e ∙ ap t (same is)) h)
    by false is = subst (λ (v : Bool). cond {A = ℕ} b (cond {A = ℕ} v 1 0 + left) left ≡ cond {A = ℕ} (t x) (cond {A = ℕ} v 1 0 + rest) 0) (sym is) (apart b (t x) h)

-- of those that a test keeps
pub times_kept : (t : ℕ → Bool) (x : ℕ) (ns : List ℕ) → times x (filter t ns) ≡ cond {A = ℕ} (t x) (times x ns) 0
times_kept t x [] = by (t x)
  where
    by : (b : Bool) → 0 ≡ cond {A = ℕ} b 0 0
    by true = refl
    by false = refl
times_kept t x (n ∷ ns) =
    split (t n)
    ∙ kept_one t x n (times x ns) (times x (filter t ns)) (t n) refl (times_kept t x ns)
    ∙ ap (λ (m : ℕ). cond {A = ℕ} (t x) m 0) (sym (times_cons x n ns))
  where
    split : (b : Bool) → times x (cond b (n ∷ filter t ns) (filter t ns)) ≡ cond {A = ℕ} b (is_it x n + times x (filter t ns)) (times x (filter t ns))
    split true = times_cons x n (filter t ns)
    split false = refl

-- ---- up from one

abbrev pub counted : ℕ → ℕ → List ℕ
counted a zero = []
counted a (suc n) = a ∷ counted (a + 1) n

-- 1 from a on, n numbers long
abbrev pub once_from : ℕ → ℕ → ℕ → ℕ
once_from a n x = cond {A = ℕ} (ltb x a) 0 (cond {A = ℕ} (ltb x (a + n)) 1 0)

none_from : (a x : ℕ) → 0 ≡ once_from a 0 x
none_from a x = grind (arith, nat_tests)

more_from : (a n x : ℕ) → is_it x a + once_from (a + 1) n x ≡ once_from a (n + 1) x
more_from a n x = grind (arith, nat_tests)

pub times_counted : (x a n : ℕ) → times x (counted a n) ≡ once_from a n x
times_counted x a zero = none_from a x
times_counted x a (suc n) =
    let rest : times x (counted (a + 1) n) ≡ once_from (a + 1) n x = times_counted x (a + 1) n in
    let head : times x (a ∷ counted (a + 1) n) ≡ is_it x a + times x (counted (a + 1) n) = times_cons x a (counted (a + 1) n) in
    let more : is_it x a + once_from (a + 1) n x ≡ once_from a (suc n) x = more_from a n x ∙ ap (λ (m : ℕ). once_from a m x) (one_up n) in
    omega (arith, rest, head, more)
  where
    one_up : (m : ℕ) → m + 1 ≡ suc m
    one_up m = omega arith

pub counted_below : (x n : ℕ) → times x (counted 0 n) ≡ once_below x n
counted_below x n = times_counted x 0 n ∙ grind (arith, nat_tests)

-- ---- where it stands

pub record Stands (x : ℕ) (ns : List ℕ) : Type 0 where
  pub front : List ℕ
  pub back : List ℕ
  pub is : ns ≡ front ++ x ∷ back

same_number : (n x : ℕ) → eqb n x ≡ true → n ≡ x
same_number n x is = grind (arith, nat_tests)

pub stands : (x : ℕ) (ns : List ℕ) → 0 < times x ns → Stands x ns
stands x [] h = absurd (omega arith)
stands x (n ∷ ns) h = by (eqb n x) refl (stands x ns)
  where
    by : (b : Bool) → eqb n x ≡ b → (0 < times x ns → Stands x ns) → Stands x (n ∷ ns)
    by true e rest = record { front = []; back = ns; is = ap (λ (m : ℕ). m ∷ ns) (same_number n x e) }
    by false e rest =
        let none : is_it x n ≡ 0 = ap (λ (b : Bool). cond {A = ℕ} b 1 0) e in
        let all : times x (n ∷ ns) ≡ is_it x n + times x ns = times_cons x n ns in
        let s = rest (omega (arith, h, none, all)) in
        record { front = n ∷ s.front; back = s.back; is = ap (λ (v : List ℕ). n ∷ v) s.is }

itself : (x : ℕ) → is_it x x ≡ 1
itself x = grind (arith, nat_tests)

-- ---- lists that have each number as often

module _ {Y : Type 0} (f : ℕ → List Y) where
  in_front : (a b c : List Y) → IsPermutation (a ++ (b ++ c)) (b ++ (a ++ c))
  in_front a b c =
      subst (λ (v : List Y). IsPermutation v (b ++ (a ++ c))) (append_assoc a b c)
      (subst (λ (v : List Y). IsPermutation ((a ++ b) ++ c) v) (append_assoc b a c) (IsPermutation-append_left c (a ++ b) (b ++ a) (IsPermutation-append_comm a b)))

  pub all_moved : (ms ns : List ℕ) → ((x : ℕ) → times x ms ≡ times x ns) → IsPermutation (flat_map f ms) (flat_map f ns)
  all_moved [] [] same = IsPermutation-refl []
  all_moved [] (n ∷ ns) same = absurd (omega (arith, same n, times_cons n n ns, itself n))
  all_moved (m ∷ ms) ns same =
      let here : 0 < times m ns = omega (arith, same m, times_cons m m ms, itself m) in
      let s = stands m ns here in
      let left : (x : ℕ) → times x ms ≡ times x (s.front ++ s.back) = λ x.
      (let whole : times x ns ≡ times x (s.front ++ m ∷ s.back) = ap (times x) s.is in
      omega (arith, whole, same x, times_cons x m ms, times_both x s.front (m ∷ s.back), times_cons x m s.back, times_both x s.front s.back)) in
      let rest : IsPermutation (flat_map f ms) (flat_map f s.front ++ flat_map f s.back) = subst (IsPermutation (flat_map f ms)) (flat_map-append f s.front s.back) (all_moved ms (s.front ++ s.back) left) in
      let moved : IsPermutation (f m ++ flat_map f ms) (flat_map f s.front ++ (f m ++ flat_map f s.back)) =
      IsPermutation-trans (f m ++ flat_map f ms) (f m ++ (flat_map f s.front ++ flat_map f s.back)) (flat_map f s.front ++ (f m ++ flat_map f s.back))
      (IsPermutation-append (f m) (f m) (flat_map f ms) (flat_map f s.front ++ flat_map f s.back) (IsPermutation-refl (f m)) rest)
      (in_front (f m) (flat_map f s.front) (flat_map f s.back)) in
      let back : flat_map f ns ≡ flat_map f s.front ++ (f m ++ flat_map f s.back) = ap (flat_map f) s.is ∙ flat_map-append f s.front (m ∷ s.back) in
      subst (IsPermutation (f m ++ flat_map f ms)) (sym back) moved

-- ---- in order

module _ {X : Type 0} (number : X → ℕ) where
  -- the place of a number
  pub place : (x : ℕ) (xs : List X) → 0 < times x (map number xs) → (k : ℕ) × (k < length xs) × ((d : X) → number (get_or xs k d) ≡ x)
  place x [] h = absurd (omega arith)
  place x (y ∷ ys) h = by (eqb (number y) x) refl (place x ys)
    where
      Place : List X → Type 0
      Place zs = (k : ℕ) × (k < length zs) × ((d : X) → number (get_or zs k d) ≡ x)

      by : (b : Bool) → eqb (number y) x ≡ b → (0 < times x (map number ys) → Place ys) → (k : ℕ) × (k < length (y ∷ ys)) × ((d : X) → number (get_or (y ∷ ys) k d) ≡ x)
      by true e rest = (0, omega arith, λ d. same_number (number y) x e)
      by false e rest =
          let none : is_it x (number y) ≡ 0 = ap (λ (b : Bool). cond {A = ℕ} b 1 0) e in
          let all : times x (number y ∷ map number ys) ≡ is_it x (number y) + times x (map number ys) = times_cons x (number y) (map number ys) in
          let s = rest (omega (arith, h, none, all)) in
          let low : s.0 < length ys = s.1 in
          (suc s.0, omega (arith, low), λ d. s.2 d)

  some_low : (a n x : ℕ) → 1 ≤ once_from a n x → a ≤ x
  some_low a n x h = grind (arith, nat_tests)

  first_in : (a n : ℕ) → once_from a (suc n) a ≡ 1
  first_in a n = by (suc n) (omega arith)
    where
      by : (m : ℕ) → 0 < m → once_from a m a ≡ 1
      by m some = grind (arith, nat_tests)

  nothing_in : (a x : ℕ) → once_from a 0 x ≡ 0
  nothing_in a x = grind (arith, nat_tests)

  -- those that don't fall, and are the numbers from a on, stand in this order
  pub risen : (a n : ℕ) (xs : List X) → IsNonDecreasingBy number xs → ((x : ℕ) → times x (map number xs) ≡ times x (counted a n)) → map number xs ≡ counted a n
  risen a zero [] rising same = refl
  risen a (suc n) [] rising same =
      let one : times a (counted a (suc n)) ≡ 1 = times_counted a a (suc n) ∙ first_in a n in
      absurd (omega (arith, same a, one))
  risen a zero (y ∷ ys) rising same =
      let none : times (number y) (counted a 0) ≡ 0 = times_counted (number y) a 0 ∙ nothing_in a (number y) in
      absurd (omega (arith, same (number y), none, times_cons (number y) (number y) (map number ys), itself (number y)))
  risen a (suc n) (y ∷ ys) rising same =
      let some : 1 ≤ times (number y) (map number (y ∷ ys)) = omega (arith, times_cons (number y) (number y) (map number ys), itself (number y)) in
      let low : a ≤ number y = some_low a (suc n) (number y) (omega (arith, some, same (number y), times_counted (number y) a (suc n))) in
      let one : times a (counted a (suc n)) ≡ 1 = times_counted a a (suc n) ∙ first_in a n in
      let at = place a (y ∷ ys) (omega (arith, same a, one)) in
      let up : number y ≤ number (get_or (y ∷ ys) at.0 y) = rising 0 at.0 y (omega arith) at.1 in
      let there : number (get_or (y ∷ ys) at.0 y) ≡ a = at.2 y in
      let head : number y ≡ a = omega (arith, low, up, there) in
      let left : (x : ℕ) → times x (map number ys) ≡ times x (counted (a + 1) n) = λ x.
      (let first : is_it x (number y) ≡ is_it x a = ap (is_it x) head in
      omega (arith, same x, first, times_cons x (number y) (map number ys), times_cons x a (counted (a + 1) n))) in
      let rest : map number ys ≡ counted (a + 1) n = risen (a + 1) n ys (IsNonDecreasingBy-drop number 1 (y ∷ ys) rising) left in
      ap (λ (m : ℕ). m ∷ map number ys) head ∙ ap (λ (v : List ℕ). a ∷ v) rest

-- ---- those below a count

pub below_push : (count n : ℕ) (ns : List ℕ) → n < count → below count (ns ++ n ∷ []) ≡ below count ns ++ n ∷ []
below_push count n [] low = ap (λ (b : Bool). cond b (n ∷ []) []) yes
  where
    yes : ltb n count ≡ true
    yes = grind (arith, nat_tests)
below_push count n (m ∷ ns) low = by (ltb m count) (below_push count n ns low)
  where
    by : (b : Bool) → below count (ns ++ n ∷ []) ≡ below count ns ++ n ∷ [] → cond b (m ∷ below count (ns ++ n ∷ [])) (below count (ns ++ n ∷ [])) ≡ cond b (m ∷ below count ns) (below count ns) ++ n ∷ []
    by true e = ap (λ (v : List ℕ). m ∷ v) e
    by false e = e

pub below_past : (count n : ℕ) (ns : List ℕ) → count ≤ n → below count (ns ++ n ∷ []) ≡ below count ns
below_past count n [] high = ap (λ (b : Bool). cond b (n ∷ []) []) no
  where
    no : ltb n count ≡ false
    no = grind (arith, nat_tests)
below_past count n (m ∷ ns) high = ap (λ (v : List ℕ). cond (ltb m count) (m ∷ v) v) (below_past count n ns high)

pub are_below : (count : ℕ) (ns : List ℕ) → AllByRecursion (λ n. n < count) (below count ns)
are_below count [] = tt
are_below count (n ∷ ns) = by (ltb n count) refl (are_below count ns)
  where
    low : ltb n count ≡ true → n < count
    low is = grind (arith, nat_tests)

    by : (b : Bool) → ltb n count ≡ b → AllByRecursion (λ m. m < count) (below count ns) → AllByRecursion (λ m. m < count) (cond b (n ∷ below count ns) (below count ns))
    by true e rest = (low e, rest)
    by false e rest = rest
