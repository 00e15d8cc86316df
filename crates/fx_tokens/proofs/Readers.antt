-- Readers of forms find the longest front that is of the form.
use Rattle.std.proofs.Common.{◌≡◌, ℕ, zero, suc, ◌+◌, ◌<◌, ◌≤◌, Bool, true, false, cond, List, [], ◌∷◌, ◌++◌, length, Option, Some, None, refl, sym, ap, ◌∙◌, subst, arith, append_assoc, append-nil, inl, inr, ◌⊎◌, ltb, length-append}
use Rattle.std.specs.Str.{encode_utf8_all}
use Rattle.std.proofs.lemmas.Str.{encodes-append}
use Rattle.std.proofs.lemmas.Bool.{ltb-true, ltb-false}
use Rattle.fx_tokens.specs.Answers.{width}
use Rattle.fx_tokens.specs.Forms.{One, Then, Repeat, none, more, Either, Maybe}
use Rattle.fx_tokens.specs.Scan.{and_then, or_else, and_or, longer, or_here, one, again, skip_within, skip}

abbrev pub Form : Type 1
Form = List ℕ → Type 0

abbrev pub Reader : Type 0
Reader = List ℕ → Option (List ℕ)

abbrev pub Found : Form → List ℕ → Option (List ℕ) → Type 0
Found a text None = Unit {0}
Found a text (Some rest) = (front : List ℕ) × (text ≡ front ++ rest) × a front

abbrev pub Reaches : Option (List ℕ) → List ℕ → Type 0
Reaches None back = ⊥
Reaches (Some rest) back = width rest ≤ width back

-- what a reader gives is the longest front of the form
pub record Best (a : List ℕ → Type 0) (text : List ℕ) (rest : Option (List ℕ)) : Type 0 where
  pub found : Found a text rest
  pub most : (front back : List ℕ) → text ≡ front ++ back → a front → Reaches rest back

-- a form whose texts are read the same whatever stands behind them
pub record IsUnit (a : List ℕ → Type 0) (read : List ℕ → Option (List ℕ)) : Type 0 where
  pub found : (text : List ℕ) → Found a text (read text)
  pub whole : (front back : List ℕ) → a front → read (front ++ back) ≡ Some back
  pub some : (front : List ℕ) → a front → 0 < length front

-- a form of one character or more
pub record IsStep (a : List ℕ → Type 0) (read : List ℕ → Option (List ℕ)) : Type 0 where
  pub found : (text : List ℕ) → Found a text (read text)
  pub some : (front : List ℕ) → a front → 0 < length front

pub step : {a : List ℕ → Type 0} {read : List ℕ → Option (List ℕ)} → IsUnit a read → IsStep a read
step u = record { found = u.found; some = u.some }

-- ---- widths

pub width_append : (xs ys : List ℕ) → width (xs ++ ys) ≡ width xs + width ys
width_append xs ys = ap (λ (s : List ℕ). length s) (encodes-append xs ys) ∙ length-append (encode_utf8_all xs) (encode_utf8_all ys)

pub width_behind : (text front back : List ℕ) → text ≡ front ++ back → width back ≤ width text
width_behind text front back e = omega (arith, ap width e, width_append front back)

pub reaches_less : (rest : Option (List ℕ)) (near far : List ℕ) → width near ≤ width far → Reaches rest near → Reaches rest far
reaches_less None near far h r = r
reaches_less (Some rest) near far h r = omega (arith, h, r)

-- ---- characters

one_front : (p : ℕ → Bool) (c : ℕ) (text : List ℕ) (b : Bool) → p c ≡ b → Found (One p) (c ∷ text) (cond b (Some text) None)
one_front p c text true e = (c ∷ [], refl, record { character = c; alone = refl; holds = e })
one_front p c text false e = tt

found_one : (p : ℕ → Bool) (text : List ℕ) → Found (One p) text (one p text)
unfolding one
found_one p [] = tt
found_one p (c ∷ text) = one_front p c text (p c) refl

pub unit_one : (p : ℕ → Bool) → IsUnit (One p) (one p)
unfolding one
unit_one p = record {
  found = found_one p;
  whole = λ front back h. ap (λ v. one p (v ++ back)) h.alone ∙ rw h.holds refl;
  some = λ front h. omega (arith, ap (λ (s : List ℕ). length s) h.alone);
}

-- ---- one form, and then another

joined : (text x y rest : List ℕ) (mid : List ℕ) → text ≡ x ++ mid → mid ≡ y ++ rest → text ≡ (x ++ y) ++ rest
joined text x y rest mid e f = e ∙ ap (λ v. x ++ v) f ∙ sym (append_assoc x y rest)

found_then : (a b : Form) (read : Reader) (text : List ℕ) (mid : Option (List ℕ)) → Found a text mid → ((rest : List ℕ) → Found b rest (read rest)) → Found (Then a b) text (and_then mid read)
found_then a b read text None f g = tt
found_then a b read text (Some mid) f g = go (read mid) (g mid)
  where
    go : (rest : Option (List ℕ)) → Found b mid rest → Found (Then a b) text rest
    go None h = tt
    go (Some rest) h = (f.0 ++ h.0, joined text f.0 h.0 rest mid f.1 h.1, record { front = f.0; back = h.0; joined = refl; first = f.2; second = h.2 })

-- what is left behind the first of two forms
pub behind_first : (a b : Form) (read : Reader) (front back : List ℕ) → IsUnit a read → (h : Then a b front) → read (front ++ back) ≡ Some (h.back ++ back)
behind_first a b read front back u h =
    ap (λ v. read (v ++ back)) h.joined ∙ ap read (append_assoc h.front h.back back) ∙ u.whole h.front (h.back ++ back) h.first

pub unit_then : {a b : List ℕ → Type 0} {first second : List ℕ → Option (List ℕ)} → IsUnit a first → IsUnit b second → IsUnit (Then a b) (λ text. and_then (first text) second)
unit_then {a} {b} {first} {second} u w = record {
  found = λ text. found_then a b second text (first text) (u.found text) w.found;
  whole = λ front back h. ap (λ v. and_then v second) (behind_first a b first front back u h) ∙ w.whole h.back back h.second;
  some = λ front h. omega (arith, u.some h.front h.first, ap (λ (s : List ℕ). length s) h.joined, length-append h.front h.back);
}

pub best_then : {a b : List ℕ → Type 0} {first second : List ℕ → Option (List ℕ)} → IsUnit a first → ((text : List ℕ) → Best b text (second text)) → (text : List ℕ) → Best (Then a b) text (and_then (first text) second)
best_then {a} {b} {first} {second} u w text = record {
  found = found_then a b second text (first text) (u.found text) (λ rest. (w rest).found);
  most = λ front back e h. subst (λ (v : Option (List ℕ)). Reaches (and_then v second) back) (sym (ap first e ∙ behind_first a b first front back u h)) ((w (h.back ++ back)).most h.back back refl h.second);
}

pub best_unit : {a : List ℕ → Type 0} {read : List ℕ → Option (List ℕ)} → IsUnit a read → (text : List ℕ) → Best a text (read text)
best_unit {a} {read} u text = record {
  found = u.found text;
  most = λ front back e h. subst (λ (v : Option (List ℕ)). Reaches v back) (sym (ap read e ∙ u.whole front back h)) (omega arith);
}

-- ---- one form or the other

pub unit_either : {a b : List ℕ → Type 0} {first second : List ℕ → Option (List ℕ)} → IsUnit a first → IsUnit b second → ((front back : List ℕ) → b front → first (front ++ back) ≡ None) → IsUnit (Either a b) (λ text. or_else (first text) (second text))
unit_either {a} {b} {first} {second} u w apart = record {
  found = λ text. go text (first text) (second text) (u.found text) (w.found text);
  whole = λ front back h. elim h [ inl x ↦ ap (λ v. or_else v (second (front ++ back))) (u.whole front back x) | inr y ↦ ap (λ v. or_else v (second (front ++ back))) (apart front back y) ∙ w.whole front back y ];
  some = λ front h. elim h [ inl x ↦ u.some front x | inr y ↦ w.some front y ];
}
  where
    go : (text : List ℕ) (x y : Option (List ℕ)) → Found a text x → Found b text y → Found (Either a b) text (or_else x y)
    go text None None f g = tt
    go text None (Some rest) f g = (g.0, g.1, inr g.2)
    go text (Some rest) y f g = (f.0, f.1, inl f.2)

-- where the first form's first character decides
pub unit_or : {a b : List ℕ → Type 0} {first second : List ℕ → Option (List ℕ)} (p : ℕ → Bool) → IsUnit a first → IsUnit b second → ((front back : List ℕ) → b front → one p (front ++ back) ≡ None)
    → IsUnit (Either (Then (One p) a) b) (λ text. and_or (one p text) first (second text))
unit_or {a} {b} {first} {second} p u w apart = record {
  found = λ text. go text (one p text) (second text) ((unit_one p).found text) (w.found text);
  whole = λ front back h. elim h [
    | inl x ↦ ap (λ v. and_or v first (second (front ++ back))) (behind_first (One p) a (one p) front back (unit_one p) x) ∙ u.whole x.back back x.second
    | inr y ↦ ap (λ v. and_or v first (second (front ++ back))) (apart front back y) ∙ w.whole front back y
  ];
  some = λ front h. elim h [ inl x ↦ (unit_then (unit_one p) u).some front x | inr y ↦ w.some front y ];
}
  where
    left : (text : List ℕ) (x : Option (List ℕ)) → Found (Then (One p) a) text x → Found (Either (Then (One p) a) b) text x
    left text None f = tt
    left text (Some rest) f = (f.0, f.1, inl f.2)

    right : (text : List ℕ) (y : Option (List ℕ)) → Found b text y → Found (Either (Then (One p) a) b) text y
    right text None f = tt
    right text (Some rest) f = (f.0, f.1, inr f.2)

    go : (text : List ℕ) (x y : Option (List ℕ)) → Found (One p) text x → Found b text y → Found (Either (Then (One p) a) b) text (and_or x first y)
    go text None y f g = right text y g
    go text (Some rest) y f g = left text (first rest) (found_then (One p) a first text (Some rest) f u.found)

reaches_longer_left : (x y : Option (List ℕ)) (back : List ℕ) → Reaches x back → Reaches (longer x y) back
reaches_longer_left None y back r = absurd r
reaches_longer_left (Some a) None back r = r
reaches_longer_left (Some a) (Some b) back r = go (ltb (width b) (width a)) refl
  where
    go : (t : Bool) → ltb (width b) (width a) ≡ t → Reaches (cond t (Some b) (Some a)) back
    go true e = omega (arith, r, ltb-true (width b) (width a) e)
    go false e = r

reaches_longer_right : (x y : Option (List ℕ)) (back : List ℕ) → Reaches y back → Reaches (longer x y) back
reaches_longer_right None y back r = r
reaches_longer_right (Some a) None back r = absurd r
reaches_longer_right (Some a) (Some b) back r = go (ltb (width b) (width a)) refl
  where
    go : (t : Bool) → ltb (width b) (width a) ≡ t → Reaches (cond t (Some b) (Some a)) back
    go true e = r
    go false e = omega (arith, r, ltb-false (width b) (width a) e)

pub best_either : {a b : List ℕ → Type 0} {text : List ℕ} {x y : Option (List ℕ)} → Best a text x → Best b text y → Best (Either a b) text (longer x y)
best_either {a} {b} {text} {x} {y} u w = record {
  found = go x y u.found w.found;
  most = λ front back e h. elim h [ inl l ↦ reaches_longer_left x y back (u.most front back e l) | inr r ↦ reaches_longer_right x y back (w.most front back e r) ];
}
  where
    pick : (m n : List ℕ) (t : Bool) → Found a text (Some m) → Found b text (Some n) → Found (Either a b) text (cond t (Some n) (Some m))
    pick m n true f g = (g.0, g.1, inr g.2)
    pick m n false f g = (f.0, f.1, inl f.2)

    go : (x y : Option (List ℕ)) → Found a text x → Found b text y → Found (Either a b) text (longer x y)
    go None None f g = tt
    go None (Some n) f g = (g.0, g.1, inr g.2)
    go (Some m) None f g = (f.0, f.1, inl f.2)
    go (Some m) (Some n) f g = pick m n (ltb (width n) (width m)) f g

pub best_maybe : {a : List ℕ → Type 0} {text : List ℕ} {x : Option (List ℕ)} → Best a text x → Best (Maybe a) text (Some (or_here x text))
best_maybe {a} {text} {x} u = record {
  found = go x u.found;
  most = λ front back e h. elim h [ inl l ↦ here x back u.found (e ∙ ap (λ v. v ++ back) l) | inr r ↦ there x back (u.most front back e r) ];
}
  where
    go : (x : Option (List ℕ)) → Found a text x → Found (Maybe a) text (Some (or_here x text))
    go None f = ([], refl, inl refl)
    go (Some rest) f = (f.0, f.1, inr f.2)

    here : (x : Option (List ℕ)) (back : List ℕ) → Found a text x → text ≡ back → width (or_here x text) ≤ width back
    here None back f e = omega (arith, ap width e)
    here (Some rest) back f e = omega (arith, ap width e, width_behind text f.0 rest f.1)

    there : (x : Option (List ℕ)) (back : List ℕ) → Reaches x back → width (or_here x text) ≤ width back
    there None back r = absurd r
    there (Some rest) back r = r

-- ---- any number of a form

no_front : (front rest : List ℕ) → [] ≡ front ++ rest → 0 < length front → ⊥
no_front [] rest e h = omega (arith, h)
no_front (c ∷ front) rest e h = absurd (cc)

shorter : (text front rest : List ℕ) → text ≡ front ++ rest → 0 < length front → length rest < length text
shorter text front rest e h = omega (arith, ap (λ (s : List ℕ). length s) e, length-append front rest, h)

pub none_in_nothing : {a : List ℕ → Type 0} {read : List ℕ → Option (List ℕ)} → IsStep a read → read [] ≡ None
none_in_nothing {a} {read} u = go (read []) refl (u.found [])
  where
    go : (x : Option (List ℕ)) → read [] ≡ x → Found a [] x → x ≡ None
    go None e f = refl
    go (Some rest) e f = absurd (no_front f.0 rest f.1 (u.some f.0 f.2))

same_turn : (a : Form) (read : Reader) → IsStep a read → (text : List ℕ) (f g : List ℕ → List ℕ) → ((rest : List ℕ) → length rest < length text → f rest ≡ g rest) → again f text (read text) ≡ again g text (read text)
same_turn a read u text f g same = go (read text) (u.found text)
  where
    go : (x : Option (List ℕ)) → Found a text x → again f text x ≡ again g text x
    go None h = refl
    go (Some rest) h = same rest (shorter text h.0 rest h.1 (u.some h.0 h.2))

same_within : (a : Form) (read : Reader) → IsStep a read → (n m : ℕ) (text : List ℕ) → length text ≤ n → length text ≤ m → skip_within n read text ≡ skip_within m read text
same_within a read u zero zero text h k = refl
same_within a read u zero (suc m) [] h k = ap (again (skip_within m read) []) (sym (none_in_nothing u))
same_within a read u zero (suc m) (c ∷ text) h k = absurd (omega (arith, h))
same_within a read u (suc n) zero [] h k = ap (again (skip_within n read) []) (none_in_nothing u)
same_within a read u (suc n) zero (c ∷ text) h k = absurd (omega (arith, k))
same_within a read u (suc n) (suc m) text h k = same_turn a read u text (skip_within n read) (skip_within m read) (λ rest less. same_within a read u n m rest (omega (arith, h, less)) (omega (arith, k, less)))

pub skip_step : {a : List ℕ → Type 0} {read : List ℕ → Option (List ℕ)} → IsStep a read → (text rest : List ℕ) → read text ≡ Some rest → skip read text ≡ skip read rest
unfolding skip
skip_step {a} {read} u [] rest e = absurd (let n = none_in_nothing u in cc)
skip_step {a} {read} u (c ∷ text) rest e =
    let f = subst (λ (v : Option (List ℕ)). Found a (c ∷ text) v) e (u.found (c ∷ text)) in
    let less : length rest < length (c ∷ text) = shorter (c ∷ text) f.0 rest f.1 (u.some f.0 f.2) in
    ap (again (skip_within (length text) read) (c ∷ text)) e ∙ same_within a read u (length text) (length rest) rest (omega (arith, less)) (omega arith)

pub skip_end : (read : List ℕ → Option (List ℕ)) (text : List ℕ) → read text ≡ None → skip read text ≡ text
unfolding skip
skip_end read [] e = refl
skip_end read (c ∷ text) e = ap (again (skip_within (length text) read) (c ∷ text)) e

found_turn : (a : Form) (read : Reader) → IsStep a read → (text : List ℕ) (f : List ℕ → List ℕ) → ((rest : List ℕ) → (front : List ℕ) × (rest ≡ front ++ f rest) × Repeat a front) → (front : List ℕ) × (text ≡ front ++ again f text (read text)) × Repeat a front
found_turn a read u text f further = go (read text) (u.found text)
  where
    go : (x : Option (List ℕ)) → Found a text x → (front : List ℕ) × (text ≡ front ++ again f text x) × Repeat a front
    go None h = ([], refl, none refl)
    go (Some rest) h = let g = further rest in (h.0 ++ g.0, joined text h.0 g.0 (f rest) rest h.1 g.1, more h.0 g.0 refl h.2 g.2)

skip_found_within : (a : Form) (read : Reader) → IsStep a read → (n : ℕ) (text : List ℕ) → (front : List ℕ) × (text ≡ front ++ skip_within n read text) × Repeat a front
skip_found_within a read u zero text = ([], refl, none refl)
skip_found_within a read u (suc n) text = found_turn a read u text (skip_within n read) (skip_found_within a read u n)

pub skip_found : {a : List ℕ → Type 0} {read : List ℕ → Option (List ℕ)} → IsStep a read → (text : List ℕ) → (front : List ℕ) × (text ≡ front ++ skip read text) × Repeat a front
unfolding skip
skip_found {a} {read} u text = skip_found_within a read u (length text) text

stops_turn : (a : Form) (read : Reader) → IsStep a read → (text : List ℕ) (f : List ℕ → List ℕ) → ((rest : List ℕ) → length rest < length text → read (f rest) ≡ None) → read (again f text (read text)) ≡ None
stops_turn a read u text f further = go (read text) refl (u.found text)
  where
    go : (x : Option (List ℕ)) → read text ≡ x → Found a text x → read (again f text x) ≡ None
    go None e h = e
    go (Some rest) e h = further rest (shorter text h.0 rest h.1 (u.some h.0 h.2))

skip_stops_within : (a : Form) (read : Reader) → IsStep a read → (n : ℕ) (text : List ℕ) → length text ≤ n → read (skip_within n read text) ≡ None
skip_stops_within a read u zero [] h = none_in_nothing u
skip_stops_within a read u zero (c ∷ text) h = absurd (omega (arith, h))
skip_stops_within a read u (suc n) text h = stops_turn a read u text (skip_within n read) (λ rest less. skip_stops_within a read u n rest (omega (arith, h, less)))

-- no more of the form stands where a reader of any number stops
pub skip_stops : {a : List ℕ → Type 0} {read : List ℕ → Option (List ℕ)} → IsStep a read → (text : List ℕ) → read (skip read text) ≡ None
unfolding skip
skip_stops {a} {read} u text = skip_stops_within a read u (length text) text (omega arith)

pub skip_most : {a : List ℕ → Type 0} {read : List ℕ → Option (List ℕ)} → IsUnit a read → (front back : List ℕ) → Repeat a front → width (skip read (front ++ back)) ≤ width back
skip_most {a} {read} u front back (none e) =
    let f = skip_found (step u) back in
    let same : skip read (front ++ back) ≡ skip read back = ap (λ v. skip read (v ++ back)) e in
    omega (arith, ap width same, width_behind back f.0 (skip read back) f.1)
skip_most {a} {read} u front back (more x y e h rest) =
    let step : skip read (front ++ back) ≡ skip read (y ++ back) = ap (λ v. skip read (v ++ back)) e ∙ ap (λ v. skip read v) (append_assoc x y back) ∙ skip_step (step u) (x ++ (y ++ back)) (y ++ back) (u.whole x (y ++ back) h) in
    omega (arith, ap width step, skip_most u y back rest)

pub skip_exact : {a : List ℕ → Type 0} {read : List ℕ → Option (List ℕ)} → IsUnit a read → (front back : List ℕ) → Repeat a front → read back ≡ None → skip read (front ++ back) ≡ back
skip_exact {a} {read} u front back (none e) stop = ap (λ v. skip read (v ++ back)) e ∙ skip_end read back stop
skip_exact {a} {read} u front back (more x y e h rest) stop =
    ap (λ v. skip read (v ++ back)) e ∙ ap (λ v. skip read v) (append_assoc x y back) ∙ skip_step (step u) (x ++ (y ++ back)) (y ++ back) (u.whole x (y ++ back) h) ∙ skip_exact u y back rest stop

pub best_repeat : {a : List ℕ → Type 0} {read : List ℕ → Option (List ℕ)} → IsUnit a read → (text : List ℕ) → Best (Repeat a) text (Some (skip read text))
best_repeat {a} {read} u text = record {
  found = skip_found (step u) text;
  most = λ front back e h. omega (arith, ap (λ v. width (skip read v)) e, skip_most u front back h);
}

-- the next form doesn't begin as the repeated one, unless it is empty
abbrev pub Ends : (List ℕ → Type 0) → (List ℕ → Option (List ℕ)) → Type 0
Ends b read = (front back : List ℕ) → b front → (front ≡ []) ⊎ (read (front ++ back) ≡ None)

pub best_repeat_then : {a b : List ℕ → Type 0} {read second : List ℕ → Option (List ℕ)} → IsUnit a read → Ends b read → ((text : List ℕ) → Best b text (second text)) → (text : List ℕ) → Best (Then (Repeat a) b) text (second (skip read text))
best_repeat_then {a} {b} {read} {second} u ends w text = record {
  found = let f = skip_found (step u) text in found_then (Repeat a) b second text (Some (skip read text)) f (λ rest. (w rest).found);
  most = λ front back e h. go front back e h (ends h.back back h.second);
}
  where
    go : (front back : List ℕ) → text ≡ front ++ back → (h : Then (Repeat a) b front) → (h.back ≡ []) ⊎ (read (h.back ++ back) ≡ None) → Reaches (second (skip read text)) back
    go front back e h (inl empty) =
        let here : b [] = subst b empty h.second in
        let near : width (skip read text) ≤ width back = omega (arith, ap (λ v. width (skip read v)) (e ∙ ap (λ v. v ++ back) (h.joined ∙ ap (λ v. h.front ++ v) empty ∙ append-nil h.front)), skip_most u h.front back h.first) in
        reaches_less (second (skip read text)) (skip read text) back near ((w (skip read text)).most [] (skip read text) refl here)
    go front back e h (inr stop) =
        let at : skip read text ≡ h.back ++ back = ap (skip read) (e ∙ ap (λ v. v ++ back) h.joined ∙ append_assoc h.front h.back back) ∙ skip_exact u h.front (h.back ++ back) h.first stop in
        subst (λ v. Reaches (second v) back) (sym at) ((w (h.back ++ back)).most h.back back refl h.second)

pub unit_repeat_then : {a b : List ℕ → Type 0} {read second : List ℕ → Option (List ℕ)} → IsUnit a read → IsUnit b second → ((front back : List ℕ) → b front → read (front ++ back) ≡ None) → IsUnit (Then (Repeat a) b) (λ text. second (skip read text))
unit_repeat_then {a} {b} {read} {second} u w stops = record {
  found = λ text. let f = skip_found (step u) text in found_then (Repeat a) b second text (Some (skip read text)) f w.found;
  whole = λ front back h.
      ap (λ v. second (skip read (v ++ back))) h.joined ∙ ap (λ v. second (skip read v)) (append_assoc h.front h.back back)
      ∙ ap second (skip_exact u h.front (h.back ++ back) h.first (stops h.back back h.second)) ∙ w.whole h.back back h.second;
  some = λ front h. omega (arith, w.some h.back h.second, ap (λ (s : List ℕ). length s) h.joined, length-append h.front h.back);
}

-- ---- where a form can't begin

pub apart_one : (p q : ℕ → Bool) → ((c : ℕ) → q c ≡ true → p c ≡ false) → (front back : List ℕ) → One q front → one p (front ++ back) ≡ None
unfolding one
apart_one p q apart front back h = ap (λ v. one p (v ++ back)) h.alone ∙ rw (apart h.character h.holds) refl

pub apart_then : (p q : ℕ → Bool) (b : List ℕ → Type 0) → ((c : ℕ) → q c ≡ true → p c ≡ false) → (front back : List ℕ) → Then (One q) b front → one p (front ++ back) ≡ None
apart_then p q b apart front back h = ap (λ v. one p (v ++ back)) h.joined ∙ ap (one p) (append_assoc h.front h.back back) ∙ apart_one p q apart h.front (h.back ++ back) h.first

pub read_smaller : {a : List ℕ → Type 0} {read : List ℕ → Option (List ℕ)} → IsStep a read → (text rest : List ℕ) → read text ≡ Some rest → length rest < length text
read_smaller {a} {read} u text rest e =
    let f = subst (λ (v : Option (List ℕ)). Found a text v) e (u.found text) in
    shorter text f.0 rest f.1 (u.some f.0 f.2)
