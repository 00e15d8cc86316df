-- Columns, a name at a time.
use Rattle.std.proofs.Common.{◌≡◌, ◌∙◌, ℕ, Bool, true, false, not, ◌&&◌, ◌||◌, List, [], ◌∷◌, ◌++◌, Option, Some, None, Ok, String, Global, string_bytes, option_and_then, is_some, refl, sym, ap, append_assoc, append-nil, cond}
use Rattle.std.specs.declared.cmp.Ordering.{Ordering}
use Rattle.std.specs.declared.cmp.Ordering.TheVariants.{Less, Equal, Greater}
use Rattle.std.specs.Option.{ok_or}
use Rattle.std.specs.Ordering.{is_eq, ordering_reverse}
use Rattle.std.specs.Str.{bytes_eq}
use Rattle.std.specs.String.{string_eq}
use Rattle.std.specs.HashMap.{HashMap}
use Rattle.std.specs.HashMap as hash
use Rattle.std.proofs.lemmas.Cmp.{nat_list_cmp_total, tied_itself}
use Rattle.std.proofs.lemmas.Slice.Eq.{bytes_eq-Decides}
use Rattle.std.proofs.lemmas.Map.Text.{is_eq-slice_cmp, hash_map_updates_text}
use Rattle.fx_terms.specs.Texts.{text_cmp}
use Rattle.fx_algebra.specs.Scopes.{is_among}
use Rattle.fx_results.specs.Columns.{IsIndex}
use Rattle.serde_json.specs.Data.{Data, Items, item}
use Rattle.fx_results.specs.declared.faults.ResultsError.{ResultsError}
use Rattle.fx_results.specs.Reading.{in_front, are_distinct, if_distinct, name_in, names_in}

-- distinct names, with those behind them
abbrev pub once_behind : List (List ℕ) → Option (List (List ℕ)) → Option (List (List ℕ))
once_behind done left = option_and_then (λ more. if_distinct (done ++ more)) left

pub once_behind_one : (done : List (List ℕ)) (name : List ℕ) (left : Option (List (List ℕ))) → once_behind (done ++ name ∷ []) left ≡ once_behind done (in_front (Some name) left)
once_behind_one done name None = refl
once_behind_one done name (Some more) = ap if_distinct (append_assoc done (name ∷ []) more)

pub once_behind_end : (done : List (List ℕ)) → are_distinct done ≡ true → once_behind done (Some []) ≡ Some done
once_behind_end done distinct = ap if_distinct (append-nil done) ∙ rw distinct refl

-- ---- names

same_from_tie : (a b : List ℕ) → is_eq (text_cmp a b) ≡ true → a ≡ b
same_from_tie a b h = (bytes_eq-Decides a b).0 (sym (is_eq-slice_cmp a b) ∙ h)

tied : (a : List ℕ) → is_eq (text_cmp a a) ≡ true
tied a = ap is_eq (tied_itself nat_list_cmp_total a)

is_eq-turned : (o : Ordering) → is_eq (ordering_reverse o) ≡ is_eq o
is_eq-turned Less = refl
is_eq-turned Equal = refl
is_eq-turned Greater = refl

tie-turned : (a b : List ℕ) → is_eq (text_cmp a b) ≡ is_eq (text_cmp b a)
tie-turned a b = ap is_eq (nat_list_cmp_total.antisymm a b) ∙ is_eq-turned (text_cmp b a)

or_assoc : (a b c : Bool) → ((a || b) || c) ≡ (a || (b || c))
or_assoc true b c = refl
or_assoc false b c = refl

or_false : (b : Bool) → (b || false) ≡ b
or_false true = refl
or_false false = refl

and_false : (b : Bool) → (b && false) ≡ false
and_false true = refl
and_false false = refl

both : (a b : Bool) → (a && b) ≡ true → (a ≡ true) × (b ≡ true)
both true b h = (refl, h)
both false b h = cc

neither : (a b : Bool) → (a || b) ≡ false → (a ≡ false) × (b ≡ false)
neither true b h = cc
neither false b h = (refl, h)

unless : (b : Bool) → not b ≡ true → b ≡ false
unless true h = cc
unless false h = refl

pub stands_so : (b : Bool) → false ≡ not b → b ≡ true
stands_so true h = refl
stands_so false h = cc

pub absent_so : (b : Bool) → true ≡ not b → b ≡ false
absent_so true h = cc
absent_so false h = refl

pub is_among-append : (xs ys : List (List ℕ)) (name : List ℕ) → is_among (xs ++ ys) name ≡ (is_among xs name || is_among ys name)
is_among-append [] ys name = refl
is_among-append (x ∷ xs) ys name = ap (λ b. is_eq (text_cmp x name) || b) (is_among-append xs ys name) ∙ sym (or_assoc (is_eq (text_cmp x name)) (is_among xs name) (is_among ys name))

or_true : (b : Bool) → (b || true) ≡ true
or_true true = refl
or_true false = refl

stands_within : (xs ys : List (List ℕ)) (name : List ℕ) → is_among (xs ++ name ∷ ys) name ≡ true
stands_within xs ys name = is_among-append xs (name ∷ ys) name ∙ ap (λ b. is_among xs name || (b || is_among ys name)) (tied name) ∙ or_true (is_among xs name)

-- a name that stands before is there twice
repeated_by : (b : Bool) (n : List ℕ) (ns : List (List ℕ)) (name : List ℕ) (more : List (List ℕ)) → is_eq (text_cmp n name) ≡ b → (b || is_among ns name) ≡ true → (is_among ns name ≡ true → are_distinct (ns ++ name ∷ more) ≡ false) → are_distinct (n ∷ (ns ++ name ∷ more)) ≡ false
repeated_by true n ns name more e h later = rw (same_from_tie n name e) (rw (stands_within ns more name) refl)
repeated_by false n ns name more e h later = rw (later h) (and_false _)

repeated : (done : List (List ℕ)) (name : List ℕ) (more : List (List ℕ)) → is_among done name ≡ true → are_distinct (done ++ name ∷ more) ≡ false
repeated [] name more h = cc
repeated (n ∷ ns) name more h = repeated_by _ n ns name more refl h (repeated ns name more)

pub once_behind_repeated : (done : List (List ℕ)) (name : List ℕ) (left : Option (List (List ℕ))) → is_among done name ≡ true → once_behind done (in_front (Some name) left) ≡ None
once_behind_repeated done name None h = refl
once_behind_repeated done name (Some more) h = rw (repeated done name more h) refl

-- a name that is new is there once
pub are_distinct-one : (done : List (List ℕ)) (name : List ℕ) → are_distinct done ≡ true → is_among done name ≡ false → are_distinct (done ++ name ∷ []) ≡ true
are_distinct-one [] name h new = refl
are_distinct-one (n ∷ ns) name h new =
    let t = both (not (is_among ns n)) (are_distinct ns) h in
    let u = neither (is_eq (text_cmp n name)) (is_among ns name) new in
    let absent : is_among (ns ++ name ∷ []) n ≡ false = is_among-append ns (name ∷ []) n ∙ rw (unless _ t.0, tie-turned name n, u.0) refl in
    rw (absent, are_distinct-one ns name t.1 u.1) refl

-- ---- the index

pub IsIndex-none : IsIndex [] []
IsIndex-none q = refl

found_by : (b : Bool) (done : List (List ℕ)) (name q : List ℕ) → bytes_eq name q ≡ b → cond b (Some name) (cond (is_among done q) (Some q) None) ≡ cond (is_among done q || (b || false)) (Some q) None
found_by true done name q e = ap Some ((bytes_eq-Decides name q).0 e) ∙ rw (or_true (is_among done q)) refl
found_by false done name q e = rw (or_false (is_among done q)) refl

-- one more name, at its own text
pub IsIndex-one : {S : Type 0} (m n : HashMap (String Global) (List ℕ) S) (key : String Global) (value name : List ℕ) (done : List (List ℕ)) → string_bytes key ≡ name → value ≡ name → IsIndex m.entries done → hash.Updates string_eq m n key (Some value) → IsIndex n.entries (done ++ name ∷ [])
IsIndex-one m n key value name done named same index updates q =
    hash_map_updates_text (string_bytes key) m n (Some value) updates q
    ∙ (λ j. cond (bytes_eq (named j) q) (Some (same j)) (index q j))
    ∙ found_by (bytes_eq name q) done name q refl
    ∙ ap (λ b. cond (is_among done q || (b || false)) (Some q) None) (sym (is_eq-slice_cmp name q))
    ∙ ap (λ b. cond b (Some q) None) (sym (is_among-append done (name ∷ []) q))

is_some-cond : (b : Bool) (q : List ℕ) → is_some (cond b (Some q) None) ≡ b
is_some-cond true q = refl
is_some-cond false q = refl

-- what an insert finds at a name
pub is_some-found : {S : Type 0} (m : HashMap (String Global) (List ℕ) S) (names : List (List ℕ)) (key : String Global) (name : List ℕ) (old : Option (List ℕ)) → string_bytes key ≡ name → IsIndex m.entries names → old ≡ hash.get string_eq m key → is_some old ≡ is_among names name
is_some-found m names key name old named index e = ap is_some (e ∙ index (string_bytes key)) ∙ is_some-cond (is_among names (string_bytes key)) (string_bytes key) ∙ ap (is_among names) named

-- what is found at a text is the text
pub found_is : (b : Bool) (q x : List ℕ) → Some x ≡ cond b (Some q) None → x ≡ q
found_is true q x h = cc
found_is false q x h = cc

-- ---- a turn

named_from : (o : Option (List ℕ)) (e : ResultsError) (name : List ℕ) → ok_or o e ≡ Ok name → o ≡ Some name
named_from None e name h = cc
named_from (Some x) e name h = cc

pub item_named : (d : Data) (rest : Items) (e : ResultsError) (name : List ℕ) → ok_or (name_in d) e ≡ Ok name → names_in (item d rest) ≡ in_front (Some name) (names_in rest)
item_named d rest e name h = ap (λ o. in_front o (names_in rest)) (named_from (name_in d) e name h)
