-- The steps along what stands between signs.
use Rattle.std.proofs.Common.{◌≡◌, ℕ, zero, suc, ◌+◌, ◌*◌, ◌^◌, ◌-◌, ◌<◌, ◌≤◌, ◌==◌, Bool, true, false, cond, List, [], ◌∷◌, ◌++◌, Some, None, Ok, Err, length, take, drop, get_or, refl, sym, ap, ◌∙◌, arith, add-one, drop-cons, append_assoc, append-nil, length-drop}
use Rattle.std.proofs.lemmas.List.{get_or-drop, get_or-take, drop-drop, drop_all}
use Rattle.std.proofs.lemmas.List.Sums.{prefix_len_stops, prefix_len_passes}
use Rattle.std.specs.List.{list_all, prefix_len}
use Rattle.std.specs.Char.{is_ascii_hexdigit, encode_utf8}
use Rattle.std.proofs.lemmas.Bool.Decides.{nat_tests}
use Rattle.std.proofs.Math.Nat.{pow-le-pow_right}
use Rattle.fx_ntriples.specs.declared.faults.Fault.{Fault}
use Rattle.fx_ntriples.specs.declared.faults.Fault.TheVariants.{Bad}
use Rattle.fx_ntriples.specs.declared.quotes.Quote.{Quote}
use Rattle.fx_ntriples.specs.declared.quotes.Quote.TheVariants.{Iri, Text}
use Rattle.fx_ntriples.specs.declared.faults.Stop.{Stop}
use Rattle.fx_ntriples.specs.declared.faults.Stop.TheVariants.{At, Memory}
use Rattle.fx_ntriples.specs.Answers.{ReadsText, ReadsEscape}
use Rattle.fx_ntriples.specs.Quotes.{Got, got, stop, in_front, names, misnames, breaks, escaped, escape_at, body, is_plain, closing, hex_value, numbered, naming, short, may_name}

-- eight hexadecimal digits fit 32 bits
pub sixteen_fits : (v i n : ℕ) → v < 16 ^ i → i < n → n ≤ 8 → v * 16 + 16 ≤ 2 ^ 32
sixteen_fits v i n h l m =
    let few : i ≤ 7 = omega arith in
    let most : 16 ^ i ≤ 16 ^ 7 = pow-le-pow_right {n = 16} (omega arith) few in
    omega arith

pub in_front-nil : (g : Got (List ℕ)) → in_front [] g ≡ g
in_front-nil (Ok p) = refl
in_front-nil (Err f) = refl

pub in_front-in_front : (a b : List ℕ) (g : Got (List ℕ)) → in_front a (in_front b g) ≡ in_front (a ++ b) g
in_front-in_front a b (Ok p) = ap (λ x. got x p.1) (sym (append_assoc a b p.0))
in_front-in_front a b (Err f) = refl

-- what stands for itself is read as it is
plain_test : (q : Quote) (b : ℕ) (s : List ℕ) (v : Bool) → is_plain q b ≡ v → body q 0 s ≡ in_front (take (prefix_len (is_plain q) s) s) (body q 0 (drop (prefix_len (is_plain q) s) s)) →
    body q 0 (b ∷ s) ≡ in_front (take (cond v (1 + prefix_len (is_plain q) s) 0) (b ∷ s)) (body q 0 (drop (cond v (1 + prefix_len (is_plain q) s) 0) (b ∷ s)))
unfolding body
plain_test q b s true e ih =
    let more : 1 + prefix_len (is_plain q) s ≡ suc (prefix_len (is_plain q) s) = omega arith in
    rw (more, e) (ap (in_front (b ∷ [])) ih ∙ in_front-in_front (b ∷ []) (take (prefix_len (is_plain q) s) s) (body q 0 (drop (prefix_len (is_plain q) s) s)))
plain_test q b s false e ih = sym (in_front-nil (body q 0 (b ∷ s)))

plain_run : (q : Quote) (s : List ℕ) → body q 0 s ≡ in_front (take (prefix_len (is_plain q) s) s) (body q 0 (drop (prefix_len (is_plain q) s) s))
plain_run q [] = sym (in_front-nil (body q 0 []))
plain_run q (b ∷ s) = plain_test q b s (is_plain q b) refl (plain_run q s)

-- so many bytes are passed over
pub passed_over : (q : Quote) (n : ℕ) (s : List ℕ) → body q n s ≡ body q 0 (drop n s)
unfolding body
passed_over q zero s = refl
passed_over q (suc n) [] = refl
passed_over q (suc n) (b ∷ s) = passed_over q n s

-- ---- one turn of the reading: d is decoded, and what follows begins at from; plain bytes go up to end

pub record Turn (q : Quote) (line d : List ℕ) (from end : ℕ) (whole : Got (List ℕ)) : Type 0 where
  pub so : in_front d (body q 0 (drop from line)) ≡ whole
  pub place : end ≡ from + prefix_len (is_plain q) (drop from line)

run_of : (q : Quote) (line d : List ℕ) (from end : ℕ) (whole : Got (List ℕ)) → Turn q line d from end whole → whole ≡ in_front (d ++ take (end - from) (drop from line)) (body q 0 (drop end line))
run_of q line d from end whole h =
    let n : end - from ≡ prefix_len (is_plain q) (drop from line) = omega (arith, h.place) in
    let e : drop (prefix_len (is_plain q) (drop from line)) (drop from line) ≡ drop end line = drop-drop (prefix_len (is_plain q) (drop from line)) from line ∙ ap (λ k. drop k line) (sym h.place) in
    rw n (sym h.so ∙ ap (in_front d) (plain_run q (drop from line) ∙ ap (λ r. in_front (take (prefix_len (is_plain q) (drop from line)) (drop from line)) (body q 0 r)) e)
    ∙ in_front-in_front d (take (prefix_len (is_plain q) (drop from line)) (drop from line)) (body q 0 (drop end line)))

-- the reading stops
pub stops : (q : Quote) (line d : List ℕ) (from end : ℕ) (whole : Got (List ℕ)) (k : Fault) (r : List ℕ) → Turn q line d from end whole → body q 0 (drop end line) ≡ stop k r → whole ≡ stop k r
stops q line d from end whole k r h e = run_of q line d from end whole h ∙ ap (in_front (d ++ take (end - from) (drop from line))) e

-- the line's end
pub at_end : (q : Quote) (line : List ℕ) (end : ℕ) → end ≡ length line → body q 0 (drop end line) ≡ stop Bad (drop end line)
unfolding body
at_end q line end e = rw (drop_all end line (omega arith)) refl

closing_test : (q : Quote) → is_plain q (closing q) ≡ false
closing_test Iri = refl
closing_test Text = refl

same_test : (n : ℕ) → (n == n) ≡ true
same_test n = grind (arith, nat_tests)

-- the closing sign
pub closes : (q : Quote) (line d : List ℕ) (from end : ℕ) (whole : Got (List ℕ)) → Turn q line d from end whole → end < length line → get_or line end 0 ≡ closing q →
    whole ≡ got (d ++ take (end - from) (drop from line)) (drop (end + 1) line)
unfolding body
closes q line d from end whole h l e =
    let here : body q 0 (drop end line) ≡ got [] (drop (end + 1) line) = rw (drop-cons line end 0 l, add-one end, e, closing_test q, same_test (closing q)) refl in
    run_of q line d from end whole h ∙ ap (in_front (d ++ take (end - from) (drop from line))) here ∙ ap (λ t. got t (drop (end + 1) line)) (append-nil (d ++ take (end - from) (drop from line)))

-- what stands at the end of plain bytes isn't plain
not_plain : (q : Quote) (line : List ℕ) (from end : ℕ) → end ≡ from + prefix_len (is_plain q) (drop from line) → end < length line → is_plain q (get_or line end 0) ≡ false
not_plain q line from end e l =
    let short : prefix_len (is_plain q) (drop from line) < length (drop from line) = omega (arith, length-drop from line) in
    rw (e, ← get_or-drop from line (prefix_len (is_plain q) (drop from line)) 0) (prefix_len_stops (is_plain q) (drop from line) 0 short)

-- neither a closing sign nor a backslash
pub at_other : (q : Quote) (line : List ℕ) (from end : ℕ) → end ≡ from + prefix_len (is_plain q) (drop from line) → end < length line → (get_or line end 0 ≡ closing q → ⊥) → (get_or line end 0 ≡ 92 → ⊥) →
    body q 0 (drop end line) ≡ stop Bad (drop end line)
unfolding body
at_other q line from end e l f g =
    let a : (get_or line end 0 == closing q) ≡ false = grind (arith, nat_tests) in
    let b : (get_or line end 0 == 92) ≡ false = grind (arith, nat_tests) in
    rw (drop-cons line end 0 l, not_plain q line from end e l, a, b) refl

-- a backslash
pub at_backslash : (q : Quote) (line : List ℕ) (from end : ℕ) → end ≡ from + prefix_len (is_plain q) (drop from line) → end < length line → (get_or line end 0 ≡ closing q → ⊥) → get_or line end 0 ≡ 92 →
    body q 0 (drop end line) ≡ escaped (escape_at q (drop (end + 1) line)) (drop end line) (λ n. body q n (drop (end + 1) line))
unfolding body
at_backslash q line from end e l f g =
    let a : (get_or line end 0 == closing q) ≡ false = grind (arith, nat_tests) in
    let b : (get_or line end 0 == 92) ≡ true = grind (arith, nat_tests) in
    rw (drop-cons line end 0 l, add-one end, not_plain q line from end e l, a, b) refl

-- an escape, which ends at next
pub goes_on : (q : Quote) (line d c : List ℕ) (from end next : ℕ) (whole : Got (List ℕ)) → Turn q line d from end whole → end < length line → (get_or line end 0 ≡ closing q → ⊥) → get_or line end 0 ≡ 92 →
    end + 1 < next → escape_at q (drop (end + 1) line) ≡ names c (next - (end + 1)) → in_front ((d ++ take (end - from) (drop from line)) ++ c) (body q 0 (drop next line)) ≡ whole
goes_on q line d c from end next whole h l f g m e =
    let n : (next - (end + 1)) + (end + 1) ≡ next = omega arith in
    let at : drop (next - (end + 1)) (drop (end + 1) line) ≡ drop next line = drop-drop (next - (end + 1)) (end + 1) line ∙ ap (λ k. drop k line) (omega arith) in
    let here : body q 0 (drop end line) ≡ in_front c (body q 0 (drop next line)) =
    at_backslash q line from end h.place l f g ∙ rw e (ap (in_front c) (passed_over q (next - (end + 1)) (drop (end + 1) line) ∙ ap (body q 0) at)) in
    sym (run_of q line d from end whole h ∙ ap (in_front (d ++ take (end - from) (drop from line))) here ∙ in_front-in_front (d ++ take (end - from) (drop from line)) c (body q 0 (drop next line)))

-- ---- digits of an escape

digits_test : (p : ℕ → Bool) (b : ℕ) (s : List ℕ) (k : ℕ) (v : Bool) → p b ≡ v → list_all p (take k s) ≡ true → list_all p (take (cond v (1 + k) 0) (b ∷ s)) ≡ true
digits_test p b s k true e h = let more : 1 + k ≡ suc k = omega arith in rw (more, e) h
digits_test p b s k false e h = refl

-- the bytes in front that pass, of so many
pub front_passes : (p : ℕ → Bool) (n : ℕ) (s : List ℕ) → list_all p (take (prefix_len p (take n s)) s) ≡ true
front_passes p zero s = refl
front_passes p (suc n) [] = refl
front_passes p (suc n) (b ∷ s) = digits_test p b s (prefix_len p (take n s)) (p b) refl (front_passes p n s)

-- one more digit, of n, or m behind it
pub digit_here : (p : ℕ → Bool) (line : List ℕ) (at n m : ℕ) → at < length line → p (get_or line at 0) ≡ true → n ≡ suc m → prefix_len p (take n (drop at line)) ≡ 1 + prefix_len p (take m (drop (at + 1) line))
digit_here p line at n m l e f = rw (f, drop-cons line at 0 l, add-one at, e) refl

pub no_digit_here : (p : ℕ → Bool) (line : List ℕ) (at n m : ℕ) → at < length line → p (get_or line at 0) ≡ false → n ≡ suc m → prefix_len p (take n (drop at line)) ≡ 0
no_digit_here p line at n m l e f = rw (f, drop-cons line at 0 l, e) refl

pub whole_number : (q : Quote) (n : ℕ) (s : List ℕ) → prefix_len is_ascii_hexdigit (take n s) ≡ n → numbered q n s ≡ naming q (hex_value 0 (take n s)) (n + 1)
whole_number q n s e = rw (e, same_test n) refl

pub broken_number : (q : Quote) (n : ℕ) (s : List ℕ) → (prefix_len is_ascii_hexdigit (take n s) ≡ n → ⊥) → numbered q n s ≡ breaks (drop (prefix_len is_ascii_hexdigit (take n s)) s)
broken_number q n s f =
    let b : (prefix_len is_ascii_hexdigit (take n s) == n) ≡ false = grind (arith, nat_tests) in
    rw b refl

misnamed : (v : Bool) (code n : ℕ) → cond v (Some code) None ≡ None → cond v (names (encode_utf8 code) n) misnames ≡ misnames
misnamed true code n h = cc
misnamed false code n h = refl

well_named : (v : Bool) (code c n : ℕ) → cond v (Some code) None ≡ Some c → cond v (names (encode_utf8 code) n) misnames ≡ names (encode_utf8 c) n
well_named true code c n h = let e : code ≡ c = cc in rw e refl
well_named false code c n h = cc

pub number_misnamed : (q : Quote) (n code : ℕ) (s : List ℕ) → prefix_len is_ascii_hexdigit (take n s) ≡ n → code ≡ hex_value 0 (take n s) → cond (may_name q code) (Some code) None ≡ None → numbered q n s ≡ misnames
number_misnamed q n code s e f g = whole_number q n s e ∙ ap (λ k. naming q k (n + 1)) (sym f) ∙ misnamed (may_name q code) code (n + 1) g

pub number_named : (q : Quote) (n code c : ℕ) (s : List ℕ) → prefix_len is_ascii_hexdigit (take n s) ≡ n → code ≡ hex_value 0 (take n s) → cond (may_name q code) (Some code) None ≡ Some c → numbered q n s ≡ names (encode_utf8 c) (n + 1)
number_named q n code c s e f g = whole_number q n s e ∙ ap (λ k. naming q k (n + 1)) (sym f) ∙ well_named (may_name q code) code c (n + 1) g

-- a hexadecimal digit, and a letter of an escape, is ASCII
pub hex_ascii : (b : ℕ) → is_ascii_hexdigit b ≡ true → b < 128
hex_ascii b h = grind (arith, nat_tests)

pub last_digit : (line : List ℕ) (at n : ℕ) → 0 < n → at + n ≤ length line → prefix_len is_ascii_hexdigit (take n (drop at line)) ≡ n → get_or line (at + n - 1) 0 < 128
last_digit line at n l f e =
    let k : n - 1 < prefix_len is_ascii_hexdigit (take n (drop at line)) = omega arith in
    let last : n - 1 < n = omega arith in
    let h = prefix_len_passes is_ascii_hexdigit (take n (drop at line)) (n - 1) 0 k in
    let here : get_or (take n (drop at line)) (n - 1) 0 ≡ get_or line (at + n - 1) 0 = get_or-take n (drop at line) (n - 1) 0 last ∙ get_or-drop at line (n - 1) 0 ∙ ap (λ j. get_or line j 0) (omega arith) in
    hex_ascii _ (ap is_ascii_hexdigit (sym here) ∙ h)

pub four_digits : (q : Quote) (line : List ℕ) (at next : ℕ) → next ≡ at + 1 → at < length line → get_or line at 0 ≡ 117 → escape_at q (drop at line) ≡ numbered q 4 (drop next line)
unfolding escape_at
four_digits q line at next n l e = rw (n, drop-cons line at 0 l, add-one at, e) refl

pub eight_digits : (q : Quote) (line : List ℕ) (at next : ℕ) → next ≡ at + 1 → at < length line → get_or line at 0 ≡ 85 → escape_at q (drop at line) ≡ numbered q 8 (drop next line)
unfolding escape_at
eight_digits q line at next n l e = rw (n, drop-cons line at 0 l, add-one at, e) refl

pub short_ascii : (q : Quote) (b c : ℕ) → short q b ≡ Some c → b < 128
short_ascii Iri b c h = cc
short_ascii Text b c h = grind (arith, nat_tests)

-- a refused escape ends the reading
pub stops_at_escape : (q : Quote) (line d : List ℕ) (from end : ℕ) (whole : Got (List ℕ)) (e : Stop) → Turn q line d from end whole → end < length line → (get_or line end 0 ≡ closing q → ⊥) → get_or line end 0 ≡ 92 →
    ReadsEscape line end (Err e) (escape_at q (drop (end + 1) line)) → ReadsText line (Err e) whole
stops_at_escape q line d from end whole (At k place) h l f g r =
    (r.0, stops q line d from end whole k (drop place line) h (at_backslash q line from end h.place l f g ∙ r.1 (λ n. body q n (drop (end + 1) line))))
stops_at_escape q line d from end whole Memory h l f g r = tt
