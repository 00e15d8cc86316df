-- Counts of names: what one more changes, and what a new entry changes.
use Rattle.std.proofs.Common.{◌≡◌, ◌≢◌, ◌∙◌, ◌+◌, ℕ, zero, suc, List, [], ◌∷◌, ◌++◌, Bool, true, false, not, String, string_bytes, bytes_eq, cond, position, slice_get, set, Some, None, length, nat_lt, ◌≤◌, refl, sym, ap, subst, arith, tests}
use Rattle.std.specs.List.{position_or_len}
use Rattle.std.specs.declared.alloc.Global.{Global}
use Rattle.std.proofs.lemmas.Slice.Eq.{bytes_eq-Decides}
use Rattle.fx_outside.specs.Faults.{HaveStayed, IsOneMoreAt}
use Rattle.fx_outside.specs.NameCounts.{count_in, has_name}

-- ---- numbers, and an entry that is told

same_entry : (x entry : String Global × ℕ) → Some x ≡ Some entry → x ≡ entry
same_entry x entry e = cc

no_suc : (i : ℕ) → 0 ≡ suc i → ⊥
no_suc i e = cc

no_zero : (n : ℕ) → 1 + n ≡ 0 → ⊥
no_zero n e = omega arith

one_less : (n i : ℕ) → 1 + n ≡ suc i → n ≡ i
one_less n i e = omega arith

one_further : (n i : ℕ) → n ≡ i → 1 + n ≡ suc i
one_further n i e = omega arith

-- ---- one more for a name

one_more : (b : Bool) (n rest : ℕ) → cond b (n + 1) rest ≡ cond b n rest + cond b 1 0
one_more true n rest = refl
one_more false n rest = omega arith

-- one more for a name changes an entry of that name alone
raised_here : (entry : String Global × ℕ) (rest : List (String Global × ℕ)) (name other : List ℕ) → bytes_eq (string_bytes entry.0) name ≡ true
    → count_in ((entry.0, entry.1 + 1) ∷ rest) other ≡ count_in (entry ∷ rest) other + cond {A = ℕ} (bytes_eq name other) 1 0
raised_here entry rest name other is =
    let same : string_bytes entry.0 ≡ name = (bytes_eq-Decides _ _).0 is in
    let more : cond {A = ℕ} (bytes_eq name other) 1 0 ≡ cond {A = ℕ} (bytes_eq (string_bytes entry.0) other) 1 0 = ap (λ (k : List ℕ). cond {A = ℕ} (bytes_eq k other) 1 0) (sym same) in
    rw more (one_more (bytes_eq (string_bytes entry.0) other) entry.1 (count_in rest other))

other_name : (b : Bool) (key name other : List ℕ) → bytes_eq name other ≡ b → bytes_eq key name ≡ false → bytes_eq key other ≡ true → cond {A = ℕ} b 1 0 ≡ 0
other_name false key name other same isnt is = refl
other_name true key name other same isnt is =
    let to_other : key ≡ other = (bytes_eq-Decides _ _).0 is in
    let from_name : name ≡ other = (bytes_eq-Decides _ _).0 same in
    let yes_name : bytes_eq key name ≡ true = (bytes_eq-Decides _ _).1 (to_other ∙ sym from_name) in
    cc

later : (b : Bool) (n rest new more : ℕ) → (b ≡ true → more ≡ 0) → new ≡ rest + more → cond b n new ≡ cond b n rest + more
later true n rest new more none e = let z = none refl in omega arith
later false n rest new more none e = e

raised_by : (b : Bool) (x : String Global × ℕ) (xs : List (String Global × ℕ)) (i : ℕ) (entry : String Global × ℕ) (name other : List ℕ) → bytes_eq (string_bytes x.0) name ≡ b
    → ((j : ℕ) → position_or_len (has_name name) xs ≡ j → slice_get xs j ≡ Some entry → count_in (set xs j (entry.0, entry.1 + 1)) other ≡ count_in xs other + cond {A = ℕ} (bytes_eq name other) 1 0)
    → cond (not b) (1 + position_or_len (has_name name) xs) 0 ≡ i → slice_get (x ∷ xs) i ≡ Some entry
    → count_in (set (x ∷ xs) i (entry.0, entry.1 + 1)) other ≡ count_in (x ∷ xs) other + cond {A = ℕ} (bytes_eq name other) 1 0
raised_by true x xs zero entry name other is rest at here =
    let same : x ≡ entry = same_entry x entry here in
    let P : String Global × ℕ → Type 0 = λ e. count_in ((e.0, e.1 + 1) ∷ xs) other ≡ count_in (x ∷ xs) other + cond {A = ℕ} (bytes_eq name other) 1 0 in
    subst P same (raised_here x xs name other is)
raised_by true x xs (suc i) entry name other is rest at here = absurd (no_suc i at)
raised_by false x xs zero entry name other is rest at here = absurd (no_zero (position_or_len (has_name name) xs) at)
raised_by false x xs (suc i) entry name other is rest at here =
    later (bytes_eq (string_bytes x.0) other) x.1 (count_in xs other) _ _ (other_name (bytes_eq name other) (string_bytes x.0) name other refl is) (rest i (one_less (position_or_len (has_name name) xs) i at) here)

pub raised : (xs : List (String Global × ℕ)) (i : ℕ) (entry : String Global × ℕ) (name other : List ℕ) → position_or_len (has_name name) xs ≡ i → slice_get xs i ≡ Some entry
    → count_in (set xs i (entry.0, entry.1 + 1)) other ≡ count_in xs other + cond {A = ℕ} (bytes_eq name other) 1 0
raised [] i entry name other at here = cc
raised (x ∷ xs) i entry name other at here = raised_by (bytes_eq (string_bytes x.0) name) x xs i entry name other refl (λ j. raised xs j entry name other) at here

counted_by : (b : Bool) (x : String Global × ℕ) (xs : List (String Global × ℕ)) (i : ℕ) (entry : String Global × ℕ) (name : List ℕ)
    → ((j : ℕ) → position_or_len (has_name name) xs ≡ j → slice_get xs j ≡ Some entry → entry.1 ≡ count_in xs name)
    → cond (not b) (1 + position_or_len (has_name name) xs) 0 ≡ i → slice_get (x ∷ xs) i ≡ Some entry → entry.1 ≡ cond b x.1 (count_in xs name)
counted_by true x xs zero entry name rest at here = ap (λ (e : String Global × ℕ). e.1) (sym (same_entry x entry here))
counted_by true x xs (suc i) entry name rest at here = absurd (no_suc i at)
counted_by false x xs zero entry name rest at here = absurd (no_zero (position_or_len (has_name name) xs) at)
counted_by false x xs (suc i) entry name rest at here = rest i (one_less (position_or_len (has_name name) xs) i at) here

-- the entry at the first place of a name counts it
pub counted : (xs : List (String Global × ℕ)) (i : ℕ) (entry : String Global × ℕ) (name : List ℕ) → position_or_len (has_name name) xs ≡ i → slice_get xs i ≡ Some entry → entry.1 ≡ count_in xs name
counted [] i entry name at here = cc
counted (x ∷ xs) i entry name at here = counted_by (bytes_eq (string_bytes x.0) name) x xs i entry name (λ j. counted xs j entry name) at here

none_yet : (b : Bool) → cond {A = ℕ} b 0 0 ≡ 0
none_yet true = refl
none_yet false = refl

-- a new entry that counts nothing changes no count
pub count_in-push : (xs : List (String Global × ℕ)) (key : String Global) (other : List ℕ) → count_in (xs ++ (key, 0) ∷ []) other ≡ count_in xs other
count_in-push [] key other = none_yet (bytes_eq (string_bytes key) other)
count_in-push (x ∷ xs) key other = ap (λ (n : ℕ). cond {A = ℕ} (bytes_eq (string_bytes x.0) other) x.1 n) (count_in-push xs key other)

pushed_by : (b : Bool) (n m k : ℕ) → (n ≡ m → k ≡ m) → cond (not b) (1 + n) 0 ≡ suc m → cond (not b) (1 + k) 0 ≡ suc m
pushed_by true n m k rest e = absurd (no_suc m e)
pushed_by false n m k rest e = one_further k m (rest (one_less n m e))

push_here : (b : Bool) → b ≡ true → cond {A = ℕ} (not b) (1 + 0) 0 ≡ 0
push_here true e = refl
push_here false e = cc

-- where no entry has the name, a new one of it stands in the last place
pub place-push : (xs : List (String Global × ℕ)) (entry : String Global × ℕ) (name : List ℕ) → position_or_len (has_name name) xs ≡ length xs → has_name name entry ≡ true
    → position_or_len (has_name name) (xs ++ entry ∷ []) ≡ length xs
place-push [] entry name none is = push_here (has_name name entry) is
place-push (x ∷ xs) entry name none is = pushed_by (has_name name x) _ (length xs) _ (λ e. place-push xs entry name e is) none

pub get-last : {X : Type 0} (xs : List X) (x : X) → slice_get (xs ++ x ∷ []) (length xs) ≡ Some x
get-last [] x = refl
get-last (y ∷ ys) x = get-last ys x

pub found_at : (b : Bool) (n i : ℕ) → cond b (Some n) None ≡ Some i → n ≡ i
found_at true n i e = cc
found_at false n i e = cc

none_by : (b : Bool) (n l : ℕ) → nat_lt n l ≡ b → n ≤ l → cond b (Some n) None ≡ None → n ≡ l
none_by true n l test le e = cc
none_by false n l test le e = grind (arith, tests)

within_by : (b : Bool) (n l : ℕ) → n ≤ l → cond (not b) (1 + n) 0 ≤ suc l
within_by true n l le = omega arith
within_by false n l le = omega arith

place_within : (p : String Global × ℕ → Bool) (xs : List (String Global × ℕ)) → position_or_len p xs ≤ length xs
place_within p [] = omega arith
place_within p (x ∷ xs) = within_by (p x) _ (length xs) (place_within p xs)

pub none_found : (p : String Global × ℕ → Bool) (xs : List (String Global × ℕ)) → position p xs ≡ None → position_or_len p xs ≡ length xs
none_found p xs e = none_by (nat_lt (position_or_len p xs) (length xs)) (position_or_len p xs) (length xs) refl (place_within p xs) e

-- ---- what is said of all counts

nothing_by : (b : Bool) (n : ℕ) → (b ≡ true → ⊥) → n + cond {A = ℕ} b 1 0 ≡ n
nothing_by true n apart = absurd (apart refl)
nothing_by false n apart = omega arith

-- one more where the names are equal is one more at the name
pub one_more_at : (name : List ℕ) (before after : List ℕ → ℕ) → ((other : List ℕ) → after other ≡ before other + cond {A = ℕ} (bytes_eq name other) 1 0) → IsOneMoreAt name before after
one_more_at name before after counts = record {
  here = counts name ∙ ap (λ (b : Bool). before name + cond {A = ℕ} b 1 0) ((bytes_eq-Decides name name).1 refl);
  elsewhere = λ other apart. counts other ∙ nothing_by (bytes_eq name other) (before other) (λ is. apart (sym ((bytes_eq-Decides name other).0 is)));
}

-- where nothing is counted at a name, and nothing at the others, nothing is
pub stayed_by : (name : List ℕ) (before after : List ℕ → ℕ) → after name ≡ before name → ((other : List ℕ) → other ≢ name → after other ≡ before other) → HaveStayed before after
stayed_by name before after here elsewhere = λ other. decide other (bytes_eq other name) refl
  where
    decide : (other : List ℕ) (b : Bool) → bytes_eq other name ≡ b → after other ≡ before other
    decide other true is = subst (λ (v : List ℕ). after v ≡ before v) (sym ((bytes_eq-Decides other name).0 is)) here
    decide other false isnt = elsewhere other (λ same. let is : bytes_eq other name ≡ true = (bytes_eq-Decides other name).1 same in cc)

-- ---- one call after another

pub stayed_both : (a b c : List ℕ → ℕ) → HaveStayed a b → HaveStayed b c → HaveStayed a c
stayed_both a b c h k = λ name. k name ∙ h name

pub one_more_later : (name : List ℕ) (a b c : List ℕ → ℕ) → HaveStayed a b → IsOneMoreAt name b c → IsOneMoreAt name a c
one_more_later name a b c h k = record {
  here = k.here ∙ ap (λ (n : ℕ). n + 1) (h name);
  elsewhere = λ other apart. k.elsewhere other apart ∙ h other;
}
