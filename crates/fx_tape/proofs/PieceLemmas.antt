-- Words, numbers and blocks: what is read of them, and where they stop.
use Rattle.std.proofs.Common.{◌≡◌, ◌≢◌, ◌∙◌, ap, sym, subst, refl, ℕ, zero, suc, ◌<◌, ◌≤◌, ◌+◌, ◌*◌, ◌-◌, inl, inr, Bool, true, false, not, ◌&&◌, ◌==◌, cond, leb, List, [], ◌∷◌, ◌++◌, length, take, drop, get_or, arith, rules, tests, append_assoc, append-nil, length-append, length-drop, drop-cons, add-one}
use Rattle.std.specs.Fmt.{decimal}
use Rattle.std.proofs.lemmas.Bool.{le-leb, leb-true}
use Rattle.std.proofs.lemmas.Fmt.{decimal_injective}
use Rattle.std.proofs.lemmas.List.{append_cancel_left, length-take-le, take-append-drop, take_all}
use Rattle.fx_tape.specs.Pieces.{word, number, block, IsNumber, IsBlock, goes_on}
use Rattle.fx_tape.specs.Spellings.{EndsAt, Stops, Begins, IsClear}
use Rattle.fx_tape.proofs.Fronts.{fronts, same_front}
use Rattle.fx_tape.proofs.NumberLemmas.{digits_of}

-- a list, cut at one of its places
pub cut : (bytes : List ℕ) (place : ℕ) → place < length bytes → bytes ≡ take place bytes ++ get_or bytes place 0 ∷ drop (place + 1) bytes
cut bytes place h = sym (take-append-drop place bytes) ∙ ap (λ (z : List ℕ). take place bytes ++ z) (rw add-one (drop-cons bytes place 0 h))

pub left_behind : (bytes : List ℕ) (place : ℕ) → place < length bytes → length bytes - place ≡ length (get_or bytes place 0 ∷ drop (place + 1) bytes)
left_behind bytes place h = omega (arith, length-drop (place + 1) bytes)

none_behind : (u w : List ℕ) (b : ℕ) → [] ≡ u ++ b ∷ w → ⊥
none_behind [] w b e = cc
none_behind (x ∷ u) w b e = cc

-- ---- words

word_ends : (front more rest : List ℕ) (n : ℕ) → ((b : ℕ) (others : List ℕ) → rest ≡ b ∷ others → b ≢ n) → EndsAt (word (front ++ n ∷ more)) front rest
word_ends front more [] n other = tt
word_ends front more (b ∷ rest) n other = λ m u h.
    let back : b ∷ m ≡ n ∷ more = append_cancel_left front (b ∷ m) (n ∷ more) h in
    let same : b ≡ n = cc (back) in
    other b rest refl same

word_stops_at : (front more rest : List ℕ) (n : ℕ) → ((b : ℕ) (others : List ℕ) → rest ≡ b ∷ others → b ≢ n) → Stops (word (front ++ n ∷ more)) (front ++ rest) (length rest)
word_stops_at front more rest n other = record { front = front; rest = rest; split = refl; place = refl; next = n; more = more; value = tt; goes_on = refl; ends = word_ends front more rest n other }

-- the bytes end inside a word
pub word_short : (text bytes : List ℕ) (place : ℕ) → place < length text → take place bytes ≡ take place text → place ≡ length bytes → Stops (word text) bytes (length bytes - place)
word_short text bytes place within same end =
    let front : bytes ≡ take place text = sym (take_all place bytes (omega arith)) ∙ same in
    let none : length bytes - place ≡ 0 = omega arith in
    rw (cut text place within, none) (subst (λ (z : List ℕ). Stops (word (take place text ++ get_or text place 0 ∷ drop (place + 1) text)) z 0) (append-nil (take place text) ∙ sym front)
    (word_stops_at (take place text) (drop (place + 1) text) [] (get_or text place 0) (λ b others e. absurd (cc (e)))))

-- another byte stands there
pub word_other : (text bytes : List ℕ) (place : ℕ) → place < length text → take place bytes ≡ take place text → place < length bytes → get_or bytes place 0 ≢ get_or text place 0 → Stops (word text) bytes (length bytes - place)
word_other text bytes place within same inside other =
    let split : take place text ++ get_or bytes place 0 ∷ drop (place + 1) bytes ≡ bytes = ap (λ (z : List ℕ). z ++ get_or bytes place 0 ∷ drop (place + 1) bytes) (sym same) ∙ sym (cut bytes place inside) in
    subst (λ (z : ℕ). Stops (word text) bytes z) (sym (left_behind bytes place inside))
    (subst (λ (z : List ℕ). Stops (word text) z (length (get_or bytes place 0 ∷ drop (place + 1) bytes))) split
    (subst (λ (z : List ℕ). Stops (word z) (take place text ++ get_or bytes place 0 ∷ drop (place + 1) bytes) (length (get_or bytes place 0 ∷ drop (place + 1) bytes))) (sym (cut text place within))
    (word_stops_at (take place text) (drop (place + 1) text) (get_or bytes place 0 ∷ drop (place + 1) bytes) (get_or text place 0)
    (λ b others e. let first : get_or bytes place 0 ≡ b = cc (e) in λ is. other (first ∙ is)))))

pub word_begins : (text bytes : List ℕ) (place : ℕ) → length text ≤ place → place ≤ length text → take place bytes ≡ take place text → Begins (word text) bytes tt (drop place bytes)
word_begins text bytes place low high same = record {
  front = text;
  split = sym (take-append-drop place bytes) ∙ ap (λ (z : List ℕ). z ++ drop place bytes) (same ∙ take_all place text low);
  spelled = refl;
}

pub clear_word : (b : ℕ) (more : List ℕ) → IsClear (word (b ∷ more))
clear_word b more = record { first = b; others = more; value = tt; some = refl; same = λ u v r t x y h k e. (h ∙ sym k, refl) }

-- ---- numbers

bits : (p q first r s t w : Bool) → cond (p && q) (cond first (r && s) (not t && w)) false ≡ true
    → (p ≡ true) × (q ≡ true) × (first ≡ true → (r ≡ true) × (s ≡ true)) × (first ≡ false → (t ≡ false) × (w ≡ true))
bits true true true true true t w e = (refl, refl, λ k. (refl, refl), λ k. absurd (cc (k)))
bits true true true true false t w e = absurd (cc (e))
bits true true true false s t w e = absurd (cc (e))
bits true true false r s false true e = (refl, refl, λ k. absurd (cc (k)), λ k. (refl, refl))
bits true true false r s false false e = absurd (cc (e))
bits true true false r s true w e = absurd (cc (e))
bits true false first r s t w e = absurd (cc (e))
bits false q first r s t w e = absurd (cc (e))

positive : (n : ℕ) → (n == 0) ≡ false → 0 < n
positive zero e = absurd (cc (e))
positive (suc n) e = omega arith

not_zero : (n : ℕ) → 0 < n → (n == 0) ≡ false
not_zero zero h = absurd (omega arith)
not_zero (suc n) h = search (rules, tests)

-- a further digit of a number of the range
pub record Further (least most : ℕ) (first : Bool) (value b : ℕ) : Type 0 where
  pub digit : ℕ
  pub is : b ≡ 48 + digit
  pub low : digit < 10
  pub begins : first ≡ true → (least ≤ digit) × (digit ≤ most)
  pub goes : first ≡ false → (0 < value) × (value * 10 + digit ≤ most)

pub further : (least most : ℕ) (first : Bool) (value b : ℕ) → goes_on least most first value b ≡ true → Further least most first value b
further least most first value b e =
    let p = bits (leb 48 b) (leb b 57) first (leb least (b - 48)) (leb (b - 48) most) (value == 0) (leb (value * 10 + (b - 48)) most) e in
    let low : 48 ≤ b = leb-true 48 b p.0 in
    let high : b ≤ 57 = leb-true b 57 p.1 in
    record {
      digit = b - 48;
      is = omega arith;
      low = omega arith;
      begins = λ k. let q = p.2 k in (leb-true least (b - 48) q.0, leb-true (b - 48) most q.1);
      goes = λ k. let q = p.3 k in (positive value q.0, leb-true (value * 10 + (b - 48)) most q.1);
    }

goes_first : (least most value d : ℕ) → d < 10 → least ≤ d → d ≤ most → goes_on least most true value (48 + d) ≡ true
goes_first least most value d low a b =
    let back : 48 + d - 48 ≡ d = omega arith in
    rw (le-leb 48 (48 + d) (omega arith), le-leb (48 + d) 57 (omega arith), back, le-leb least d a, le-leb d most b) refl

goes_behind : (least most value d : ℕ) → d < 10 → 0 < value → value * 10 + d ≤ most → goes_on least most false value (48 + d) ≡ true
goes_behind least most value d low a b =
    let back : 48 + d - 48 ≡ d = omega arith in
    rw (le-leb 48 (48 + d) (omega arith), le-leb (48 + d) 57 (omega arith), back, not_zero value a, le-leb (value * 10 + d) most b) refl

module _ (least most end : ℕ) (low : least ≤ 1) (some : 1 ≤ most) (short : most ≤ 67174400) (ends : end < 48) where
  first_ends : (rest : List ℕ) → ((b : ℕ) (others : List ℕ) → rest ≡ b ∷ others → goes_on least most true 0 b ≡ false) → EndsAt (number least most end) [] rest
  first_ends [] none = tt
  first_ends (b ∷ rest) none = λ m n h.
      let a = h.low in
      let c = h.high in
      let f = (digits_of n (omega arith)).first in
      let front : b ∷ m ≡ (48 + f.digit) ∷ (f.rest ++ end ∷ []) = h.text ∙ ap (λ (z : List ℕ). z ++ end ∷ []) f.is in
      let same : b ≡ 48 + f.digit = cc (front) in
      let digit = f.low in
      let small = f.small in
      let is_some = f.some in
      let least_is : least ≤ f.digit = at_least n f.digit a small is_some in
      let yes : goes_on least most true 0 (48 + f.digit) ≡ true = goes_first least most 0 f.digit digit least_is (omega arith) in
      let no : goes_on least most true 0 b ≡ false = none b rest refl in
      let both : true ≡ false = sym yes ∙ ap (λ (z : ℕ). goes_on least most true 0 z) (sym same) ∙ no in
      cc (both)
    where
      at_least : (n d : ℕ) → least ≤ n → d ≤ n → (0 < n → 0 < d) → least ≤ d
      at_least zero d a s t = omega arith
      at_least (suc n) d a s t = let p : 0 < d = t (omega arith) in omega arith

  -- no digit stands at its beginning
  pub number_none : (bytes : List ℕ) → ((b : ℕ) (others : List ℕ) → bytes ≡ b ∷ others → goes_on least most true 0 b ≡ false) → Stops (number least most end) bytes (length bytes)
  number_none bytes none =
      let f = (digits_of least (omega arith)).first in
      record {
        front = [];
        rest = bytes;
        split = refl;
        place = refl;
        next = 48 + f.digit;
        more = f.rest ++ end ∷ [];
        value = least;
        goes_on = record { low = omega arith; high = omega arith; text = ap (λ (z : List ℕ). z ++ end ∷ []) (sym f.is) };
        ends = first_ends bytes none;
      }

  module _ (value : ℕ) (from : least ≤ value) (to : value ≤ most) where
    behind_ends : (rest : List ℕ) → ((b : ℕ) (others : List ℕ) → rest ≡ b ∷ others → (b ≢ end) × (goes_on least most false value b ≡ false)) → EndsAt (number least most end) (decimal value) rest
    behind_ends [] none = tt
    behind_ends (b ∷ rest) none = λ m n h.
        let c = h.high in
        elim (fronts (decimal value) (b ∷ m) (decimal n) (end ∷ []) h.text) [
          | inl p ↦ further_at m n c p.0 p.1 p.2
          | inr p ↦ (let nothing : [] ≡ p.1 ++ b ∷ m = cc (p.3) in none_behind p.1 m b nothing)
        ]
      where
        further_at : (m : List ℕ) (n : ℕ) → n ≤ most → (w : List ℕ) → decimal n ≡ decimal value ++ w → b ∷ m ≡ w ++ end ∷ [] → ⊥
        further_at m n c [] a e = (none b rest refl).0 (cc (e))
        further_at m n c (d ∷ w) a e =
            let same : b ≡ d = cc (e) in
            let f = (digits_of value (omega arith)).first in
            let split : decimal n ≡ ((48 + f.digit) ∷ f.rest) ++ b ∷ w = a ∙ ap (λ (z : ℕ). decimal value ++ z ∷ w) (sym same) ∙ ap (λ (z : List ℕ). z ++ b ∷ w) f.is in
            let k = (digits_of n (omega arith)).before (48 + f.digit) f.rest b w split in
            let front : decimal value ≡ decimal k.value = f.is ∙ k.front (omega arith) in
            let small = k.small in
            let value_is : value ≡ k.value = decimal_injective value k.value (omega arith) (omega arith) front in
            let is_some = k.some in
            let yes : goes_on least most false value (48 + k.digit) ≡ true = goes_behind least most value k.digit k.low (omega arith) (omega arith) in
            let no : goes_on least most false value b ≡ false = (none b rest refl).1 in
            let both : true ≡ false = sym yes ∙ ap (λ (z : ℕ). goes_on least most false value z) (sym k.is) ∙ no in
            cc (both)

    -- something else stands behind digits
    pub number_other : (bytes rest : List ℕ) → bytes ≡ decimal value ++ rest → ((b : ℕ) (others : List ℕ) → rest ≡ b ∷ others → (b ≢ end) × (goes_on least most false value b ≡ false)) → Stops (number least most end) bytes (length rest)
    number_other bytes rest split none = record {
      front = decimal value;
      rest = rest;
      split = split;
      place = refl;
      next = end;
      more = [];
      value = value;
      goes_on = record { low = from; high = to; text = refl };
      ends = behind_ends rest none;
    }

    pub number_begins : (bytes rest : List ℕ) → bytes ≡ decimal value ++ end ∷ rest → Begins (number least most end) bytes value rest
    number_begins bytes rest split = record {
      front = decimal value ++ end ∷ [];
      split = split ∙ sym (append_assoc (decimal value) (end ∷ []) rest);
      spelled = record { low = from; high = to; text = refl };
    }

  number_same : (u v r t : List ℕ) (x y : ℕ) → IsNumber least most end u x → IsNumber least most end v y → u ++ r ≡ v ++ t → (u ≡ v) × (x ≡ y)
  number_same u v r t x y h k e =
      let a = h.high in
      let b = k.high in
      let all : decimal x ++ end ∷ r ≡ decimal y ++ end ∷ t =
      sym (append_assoc (decimal x) (end ∷ []) r) ∙ ap (λ (z : List ℕ). z ++ r) (sym h.text) ∙ e ∙ ap (λ (z : List ℕ). z ++ t) k.text ∙ append_assoc (decimal y) (end ∷ []) t in
      elim (fronts (decimal x) (end ∷ r) (decimal y) (end ∷ t) all) [
        | inl p ↦ same_at a b p.0 p.1 p.2
        | inr p ↦ (let same : end ≡ p.0 = cc (p.3) in absurd ((digits_of x (omega arith)).none_else (decimal y) p.1 end (inl ends) (p.2 ∙ ap (λ (z : ℕ). decimal y ++ z ∷ p.1) (sym same))))
      ]
    where
      same_at : x ≤ most → y ≤ most → (w : List ℕ) → decimal y ≡ decimal x ++ w → end ∷ r ≡ w ++ end ∷ t → (u ≡ v) × (x ≡ y)
      same_at a b [] f g =
          let value : x ≡ y = decimal_injective x y (omega arith) (omega arith) (sym (f ∙ append-nil (decimal x))) in
          (h.text ∙ ap (λ (z : ℕ). decimal z ++ end ∷ []) value ∙ sym k.text, value)
      same_at a b (d ∷ w) f g =
          let same : end ≡ d = cc (g) in
          absurd ((digits_of y (omega arith)).none_else (decimal x) w end (inl ends) (f ∙ ap (λ (z : ℕ). decimal x ++ z ∷ w) (sym same)))

  pub clear_number : IsClear (number least most end)
  clear_number =
      let f = (digits_of least (omega arith)).first in
      record {
        first = 48 + f.digit;
        others = f.rest ++ end ∷ [];
        value = least;
        some = record { low = omega arith; high = omega arith; text = ap (λ (z : List ℕ). z ++ end ∷ []) (sym f.is) };
        same = number_same;
      }

-- ---- blocks

zeros : ℕ → List ℕ
zeros zero = []
zeros (suc n) = 0 ∷ zeros n

length_zeros : (n : ℕ) → length (zeros n) ≡ n
unfolding zeros
length_zeros zero = refl
length_zeros (suc n) = ap suc (length_zeros n)

-- what is lacking of a block
filling : (n : ℕ) → (b : ℕ) × (more : List ℕ) × (b ∷ more ≡ zeros n ++ 10 ∷ [])
unfolding zeros
filling zero = (10, [], refl)
filling (suc n) = (0, zeros n ++ 10 ∷ [], refl)

pub block_short : (size : ℕ) (bytes : List ℕ) → length bytes ≤ size → Stops (block size) bytes 0
block_short size bytes h =
    let f = filling (size - length bytes) in
    record {
      front = bytes;
      rest = [];
      split = sym (append-nil bytes);
      place = refl;
      next = f.0;
      more = f.1;
      value = bytes ++ zeros (size - length bytes);
      goes_on = record {
        long = omega (arith, length-append bytes (zeros (size - length bytes)), length_zeros (size - length bytes));
        text = ap (λ (z : List ℕ). bytes ++ z) f.2 ∙ sym (append_assoc bytes (zeros (size - length bytes)) (10 ∷ []));
      };
      ends = tt;
    }

pub block_other : (u rest : List ℕ) (b : ℕ) → b ≢ 10 → Stops (block (length u)) (u ++ b ∷ rest) (length (b ∷ rest))
block_other u rest b other = record {
  front = u;
  rest = b ∷ rest;
  split = refl;
  place = refl;
  next = 10;
  more = [];
  value = u;
  goes_on = record { long = refl; text = refl };
  ends = λ m x h.
      let same : u ≡ x = same_front u (b ∷ m) x (10 ∷ []) (sym h.long) h.text in
      let back : b ∷ m ≡ 10 ∷ [] = append_cancel_left u (b ∷ m) (10 ∷ []) (h.text ∙ ap (λ (z : List ℕ). z ++ 10 ∷ []) (sym same)) in
      other (cc (back));
}

pub block_begins : (u rest : List ℕ) → Begins (block (length u)) (u ++ 10 ∷ rest) u rest
block_begins u rest = record { front = u ++ 10 ∷ []; split = sym (append_assoc u (10 ∷ []) rest); spelled = record { long = refl; text = refl } }

block_same : (size : ℕ) (u v r t x y : List ℕ) → IsBlock size u x → IsBlock size v y → u ++ r ≡ v ++ t → (u ≡ v) × (x ≡ y)
block_same size u v r t x y h k e =
    let all : x ++ 10 ∷ r ≡ y ++ 10 ∷ t = sym (append_assoc x (10 ∷ []) r) ∙ ap (λ (z : List ℕ). z ++ r) (sym h.text) ∙ e ∙ ap (λ (z : List ℕ). z ++ t) k.text ∙ append_assoc y (10 ∷ []) t in
    let value : x ≡ y = same_front x (10 ∷ r) y (10 ∷ t) (h.long ∙ sym k.long) all in
    (h.text ∙ ap (λ (z : List ℕ). z ++ 10 ∷ []) value ∙ sym k.text, value)

pub clear_block : (size : ℕ) → IsClear (block size)
clear_block size =
    let f = filling size in
    record {
      first = f.0;
      others = f.1;
      value = zeros size;
      some = record { long = length_zeros size; text = f.2 };
      same = block_same size;
    }

-- another byte stands where the LF would
pub block_there : (size : ℕ) (bytes : List ℕ) → size < length bytes → get_or bytes size 0 ≢ 10 → Stops (block size) bytes (length bytes - size)
block_there size bytes inside other =
    let long : length (take size bytes) ≡ size = length-take-le size bytes (omega arith) in
    subst (λ (z : ℕ). Stops (block size) bytes z) (sym (left_behind bytes size inside))
    (subst (λ (z : List ℕ). Stops (block size) z (length (get_or bytes size 0 ∷ drop (size + 1) bytes))) (sym (cut bytes size inside))
    (subst (λ (z : ℕ). Stops (block z) (take size bytes ++ get_or bytes size 0 ∷ drop (size + 1) bytes) (length (get_or bytes size 0 ∷ drop (size + 1) bytes))) long
    (block_other (take size bytes) (drop (size + 1) bytes) (get_or bytes size 0) other)))

pub block_read : (size : ℕ) (bytes : List ℕ) → size < length bytes → get_or bytes size 0 ≡ 10 → Begins (block size) bytes (take size bytes) (drop (size + 1) bytes)
block_read size bytes inside is =
    let long : length (take size bytes) ≡ size = length-take-le size bytes (omega arith) in
    subst (λ (z : List ℕ). Begins (block size) z (take size bytes) (drop (size + 1) bytes)) (ap (λ (z : ℕ). take size bytes ++ z ∷ drop (size + 1) bytes) (sym is) ∙ sym (cut bytes size inside))
    (subst (λ (z : ℕ). Begins (block z) (take size bytes ++ 10 ∷ drop (size + 1) bytes) (take size bytes) (drop (size + 1) bytes)) long
    (block_begins (take size bytes) (drop (size + 1) bytes)))
