-- A branch as it stands in a text has the columns that its row and its unit give it, and a row of the answer tells of it what it tells of these.
use Rattle.std.proofs.Common.{◌≡◌, ◌∙◌, ap, sym, subst, refl, inl, inr, ℕ, ◌+◌, get_or, take, ◌<◌, Bool, true, false, not, ◌&&◌, T, cond, List, [], ◌∷◌, ◌++◌, map, filter, length, Option, Some, None, is_some, is_none, Ok, Err, IsTrue}
use Rattle.std.specs.Prelude.{Result, MatchResult}
use Rattle.std.specs.List.{list_all, list_any}
use Rattle.std.specs.FinMap.Entries.{same_entries}
use Rattle.std.specs.Option.{option_or}
use Rattle.std.specs.Ordering.{eq_by_cmp, is_eq}
use Rattle.std.proofs.lemmas.List.{map-append, take_more}
use Rattle.std.proofs.lemmas.List.Elements.{recursion_from_All}
use Rattle.std.proofs.lemmas.Map.Lookups.{exact_bytes}
use Rattle.fx_terms.specs.Texts.{one_text, text_cmp, texts_total}
use Rattle.fx_terms.specs.declared.terms.Term.{Term}
use Rattle.fx_terms.proofs.SetLemmas.{Among, among_from}
use Rattle.fx_algebra.specs.Operators.{with_value}
use Rattle.fx_algebra.specs.Scopes.{is_among}
use Rattle.fx_algebra.specs.Solutions.{Bindings, rises, term_of}
use Rattle.fx_algebra.specs.declared.units.Row.{Row}
use Rattle.fx_algebra.specs.declared.units.Unit as unit
use Rattle.fx_algebra.proofs.ForcedLemmas.{name_from}
use Rattle.fx_algebra.proofs.MemberLemmas.{among_from_map, among_map}
use Rattle.fx_renaming.specs.Branches.{told}
use Rattle.fx_bound.specs.Parts.{IsBatch, IsKnown, Parts, branch_of, branches_of, checked_when, places}
use Rattle.fx_bound.specs.Reading as reading
use Rattle.fx_bound.specs.Reading.{binds_all, binds_one, columns_of, free_among, free_names, named, read_bound, read_row, renamed, unit_names}
use Rattle.fx_bound.specs.Sent.{IsOf, binds_just, bound_ones, branch_bound, branch_in, columns, columns_by, columns_of_all, found_by, has_columns, others, with_told}
use Rattle.fx_founds.specs.Uniting.{Place, is_worth_asking, places_from}
use Rattle.fx_bound.specs.declared.branches.Branch.{Branch}
use Rattle.fx_bound.specs.declared.faults.RowFault.{RowFault}
use Rattle.fx_bound.specs.declared.faults.RowFault.TheVariants.{Foreign, Partial}
use Rattle.fx_founds.specs.declared.founds.Found.{Found}
use Rattle.fx_renaming.proofs.BranchLemmas.{told_rises, told_term, value_rises}
use Rattle.fx_bound.proofs.NamingLemmas.{among_from_test, test_from}
use Rattle.fx_bound.proofs.ReadingLemmas.{BindsJust, all_pass, found_some, row_read}
use Rattle.fx_founds.proofs.UnionLemmas.{in_kept, kept_in}
use Rattle.fx_founds.proofs.UniteLemmas.{its_row}

to_T : (b : Bool) → b ≡ true → T b
to_T true h = tt
to_T false h = cc

-- ---- columns

firsts : (rename : List ℕ → List ℕ) (names : List (List ℕ)) → map (λ (e : List ℕ × List ℕ). e.0) (map (λ n. (rename n, n)) names) ≡ map rename names
firsts rename [] = refl
firsts rename (n ∷ ns) = ap (λ (v : List (List ℕ)). rename n ∷ v) (firsts rename ns)

columns_sent : (number : ℕ) (rename : List ℕ → List ℕ) (free : List (List ℕ))
    → columns_by (map (λ n. (rename n, n)) free) (checked_when number (map (λ n. (rename n, n)) free)) ≡ reading.columns_by number (map rename free)
columns_sent number rename [] = refl
columns_sent number rename (n ∷ ns) = ap (λ (v : List (List ℕ)). rename n ∷ v) (firsts rename ns)

pub columns_are : (u : unit.Unit) (b : Place) → columns (branch_of u b) ≡ columns_of u b
columns_are u b = columns_sent b.number (renamed u b.number) (free_names u b.row.solution)

pub all_columns_are : (u : unit.Unit) (bs : List Place) → columns_of_all (map (branch_of u) bs) ≡ reading.all_columns u bs
all_columns_are u [] = refl
all_columns_are u (b ∷ bs) = λ i. columns_are u b i ++ all_columns_are u bs i

pub columns_sent_are : (p : Parts) (bs : List Branch) → bs ≡ branches_of p → columns_of_all bs ≡ reading.all_columns p.unit (places p)
columns_sent_are p bs e = ap columns_of_all e ∙ all_columns_are p.unit (places p)

-- ---- what a row tells

told_sent : (rename : List ℕ → List ℕ) (free : List (List ℕ)) (row t : Bindings) → with_told (map (λ n. (rename n, n)) free) row t ≡ told rename free row t
told_sent rename [] row t = refl
told_sent rename (n ∷ ns) row t = told_sent rename ns (with_value row n (term_of t (rename n))) t

pub sent_rises : (sent : List (List ℕ × List ℕ)) (row t : Bindings) → IsTrue (rises row) → IsTrue (rises (with_told sent row t))
sent_rises [] row t up = up
sent_rises (e ∷ es) row t up = sent_rises es (with_value row e.1 (term_of t e.0)) t (value_rises row e.1 (term_of t e.0) up)

-- a name that the row leaves free is among all names as it is among the free ones
among_free : (names : List (List ℕ)) (row : Bindings) (n : List ℕ) → is_none (term_of row n) ≡ true → is_among (free_among names row) n ≡ is_among names n
among_free names row n h = by (is_among names n) refl
  where
    no : (b : Bool) → is_among (free_among names row) n ≡ b → is_among names n ≡ false → b ≡ false
    no true e f = let m = in_kept (λ k. is_none (term_of row k)) n names (among_from_test (free_among names row) n e) in let two : true ≡ false = sym (test_from names n m.0) ∙ f in two
    no false e f = refl

    by : (b : Bool) → is_among names n ≡ b → is_among (free_among names row) n ≡ b
    by true e = test_from (free_among names row) n (kept_in (λ k. is_none (term_of row k)) n names (among_from_test names n e) h)
    by false e = no (is_among (free_among names row) n) refl e

-- names that the row binds tell nothing
pub told_free : (rename : List ℕ → List ℕ) (names : List (List ℕ)) (row t : Bindings) → IsTrue (rises row) → told rename names row t ≡ told rename (free_among names row) row t
told_free rename names row t up =
    same_entries text_cmp texts_total exact_bytes (told rename names row t) (told rename (free_among names row) row t)
    (to_T (rises (told rename names row t)) (told_rises rename names row t up)) (to_T (rises (told rename (free_among names row) row t)) (told_rises rename (free_among names row) row t up))
    (λ n. told_term rename names row t n ∙ by n (term_of row n) refl ∙ sym (told_term rename (free_among names row) row t n))
  where
    bound : (v : Term) (o : Option Term) (b c : Bool) → cond b (option_or (Some v) o) (Some v) ≡ cond c (option_or (Some v) o) (Some v)
    bound v o true true = refl
    bound v o true false = refl
    bound v o false true = refl
    bound v o false false = refl

    by : (n : List ℕ) (o : Option Term) → term_of row n ≡ o
        → cond (is_among names n) (option_or (term_of row n) (term_of t (rename n))) (term_of row n) ≡ cond (is_among (free_among names row) n) (option_or (term_of row n) (term_of t (rename n))) (term_of row n)
    by n None e = ap (λ (b : Bool). cond b (option_or (term_of row n) (term_of t (rename n))) (term_of row n)) (sym (among_free names row n (ap is_none e)))
    by n (Some v) e =
        ap (λ (o : Option Term). cond (is_among names n) (option_or o (term_of t (rename n))) o) e
        ∙ bound v (term_of t (rename n)) (is_among names n) (is_among (free_among names row) n)
        ∙ sym (ap (λ (o : Option Term). cond (is_among (free_among names row) n) (option_or o (term_of t (rename n))) o) e)

-- what a row tells of a branch, by its row and its unit
abbrev pub found_of : unit.Unit → Bindings → Place → Found
found_of u t b = record { branch = b.number; solution = told (renamed u b.number) (unit_names u) b.row.solution t }

pub found_is : (u : unit.Unit) (t : Bindings) (b : Place) → IsTrue (rises b.row.solution) → found_by t (branch_of u b) ≡ found_of u t b
found_is u t b up =
    ap (λ (s : Bindings). record { branch = b.number; solution = s })
    (told_sent (renamed u b.number) (free_names u b.row.solution) b.row.solution t ∙ sym (told_free (renamed u b.number) (unit_names u) b.row.solution t up))

-- ---- the branch of a row

abbrev pub as_found : Bindings → Result Branch RowFault → Result Found RowFault
as_found t (Ok b) = Ok (found_by t b)
as_found t (Err e) = Err e

bound_are : (u : unit.Unit) (t : Bindings) (bs : List Place) → bound_ones t (map (branch_of u) bs) ≡ map (branch_of u) (filter (λ b. binds_one (columns_of u b) t) bs)
bound_are u t [] = refl
bound_are u t (b ∷ bs) =
    ap (λ (v : List (List ℕ)). cond (binds_one v t) (branch_of u b ∷ bound_ones t (map (branch_of u) bs)) (bound_ones t (map (branch_of u) bs))) (columns_are u b)
    ∙ by (bound_are u t bs) (binds_one (columns_of u b) t)
  where
    by : bound_ones t (map (branch_of u) bs) ≡ map (branch_of u) (filter (λ d. binds_one (columns_of u d) t) bs)
        → (c : Bool) → cond c (branch_of u b ∷ bound_ones t (map (branch_of u) bs)) (bound_ones t (map (branch_of u) bs)) ≡ map (branch_of u) (cond c (b ∷ filter (λ d. binds_one (columns_of u d) t) bs) (filter (λ d. binds_one (columns_of u d) t) bs))
    by rest true = ap (λ (v : List Branch). branch_of u b ∷ v) rest
    by rest false = rest

whole_is : (u : unit.Unit) (t : Bindings) (bs : List Place) → ((b : Place) → Among b bs → IsTrue (rises b.row.solution)) → read_bound u t bs ≡ as_found t (branch_bound t (map (branch_of u) bs))
whole_is u t [] up = refl
whole_is u t (b ∷ []) up =
    by (binds_all (columns_of u b) t)
    ∙ ap (λ (v : List (List ℕ)). as_found t (cond (binds_all v t) (Ok (branch_of u b)) (Err Partial))) (sym (columns_are u b))
  where
    by : (c : Bool) → cond c (Ok (found_of u t b)) (Err Partial) ≡ as_found t (cond c (Ok (branch_of u b)) (Err Partial))
    by true = ap (λ (f : Found). Ok f) (sym (found_is u t b (up b (inl refl))))
    by false = refl
whole_is u t (b ∷ c ∷ bs) up = refl

abbrev mine : unit.Unit → Bindings → List Place → List Place
mine u t bs = filter (λ b. binds_one (columns_of u b) t) bs

pub row_is : (u : unit.Unit) (t : Bindings) (bs : List Place) → ((b : Place) → Among b bs → IsTrue (rises b.row.solution)) → read_row u bs t ≡ as_found t (branch_in (map (branch_of u) bs) t)
row_is u t bs up =
    by (list_any (λ (e : List ℕ × Term). not (is_among (reading.all_columns u bs) e.0)) t)
    ∙ ap (λ (v : List (List ℕ)). as_found t (cond (list_any (λ (e : List ℕ × Term). not (is_among v e.0)) t) (Err Foreign) (branch_bound t (bound_ones t (map (branch_of u) bs))))) (sym (all_columns_are u bs))
  where
    by : (c : Bool) → cond c (Err Foreign) (read_bound u t (mine u t bs)) ≡ as_found t (cond c (Err Foreign) (branch_bound t (bound_ones t (map (branch_of u) bs))))
    by true = refl
    by false =
        whole_is u t (mine u t bs) (λ b m. up b (in_kept (λ (d : Place). binds_one (columns_of u d) t) b bs m).0)
        ∙ ap (λ (v : List Branch). as_found t (branch_bound t v)) (sym (bound_are u t bs))

-- ---- a row that binds just the columns of a branch

entry_of : (t : Bindings) (n : List ℕ) → is_some (term_of t n) ≡ true → (e : List ℕ × Term) × Among e t × (n ≡ e.0)
entry_of [] n h = absurd (cc)
entry_of (e ∷ es) n h = by (is_eq (text_cmp n e.0)) refl h (entry_of es n)
  where
    by : (b : Bool) → is_eq (text_cmp n e.0) ≡ b → is_some (cond b (Some e.1) (term_of es n)) ≡ true → (is_some (term_of es n) ≡ true → (f : List ℕ × Term) × Among f es × (n ≡ f.0)) → (f : List ℕ × Term) × Among f (e ∷ es) × (n ≡ f.0)
    by true g k later = (e, inl refl, name_from n e.0 g)
    by false g k later = let x = later k in (x.0, inr x.1, x.2)

all_of_list : {X : Type 0} (p : X → Bool) (xs : List X) (x : X) → list_all p xs ≡ true → Among x xs → p x ≡ true
all_of_list p [] x h m = absurd m
all_of_list p (y ∷ ys) x h m = by (p y) refl h m (all_of_list p ys x)
  where
    by : (b : Bool) → p y ≡ b → (b && list_all p ys) ≡ true → Among x (y ∷ ys) → (list_all p ys ≡ true → Among x ys → p x ≡ true) → p x ≡ true
    by true e k (inl same) later = ap p (sym same) ∙ e
    by true e k (inr m) later = later k m
    by false e k m later = absurd (cc)

two : (a b : Bool) → (a && b) ≡ true → (a ≡ true) × (b ≡ true)
two true b h = (refl, h)
two false b h = absurd (cc)

just_is : (names : List (List ℕ)) (t : Bindings) → binds_just names t ≡ true → BindsJust names t
just_is names t h n = by (is_some (term_of t n)) refl (is_among names n) refl
  where
    by : (b : Bool) → is_some (term_of t n) ≡ b → (c : Bool) → is_among names n ≡ c → b ≡ c
    by true e true f = refl
    by true e false f =
        let x = entry_of t n e in
        let there : is_among names x.0.0 ≡ true = all_of_list (λ (d : List ℕ × Term). is_among names d.0) t x.0 (two (has_columns names t) (binds_all names t) h).0 x.1 in
        let clash : true ≡ false = sym there ∙ ap (is_among names) (sym x.2) ∙ f in
        clash
    by false e true f =
        let there : is_some (term_of t n) ≡ true = all_of_list (λ k. is_some (term_of t k)) names n (two (has_columns names t) (binds_all names t) h).1 (among_from_test names n f) in
        let clash : false ≡ true = sym e ∙ there in
        clash
    by false e false f = refl

-- names in the order in which they were sent
pub in_order : (sent : List (List ℕ × List ℕ)) (t : Bindings) → map (λ (e : List ℕ × Term). e.0) t ≡ map (λ (e : List ℕ × List ℕ). e.0) sent → binds_just (map (λ (e : List ℕ × List ℕ). e.0) sent) t ≡ true
in_order sent t same =
    let names = others sent in
    both (has_columns names t) (binds_all names t)
    (all_pass (λ (e : List ℕ × Term). is_among names e.0) t (λ e m. test_from names e.0 (subst (λ (v : List (List ℕ)). Among e.0 v) same (among_map (λ (d : List ℕ × Term). d.0) e t m))))
    (all_pass (λ n. is_some (term_of t n)) names (λ n m.
    let e = among_from_map (λ (d : List ℕ × Term). d.0) n t (subst (λ (v : List (List ℕ)). Among n v) (sym same) m) in
    ap (λ v. is_some (term_of t v)) (sym e.2) ∙ found_some t e.0 e.1))
  where
    both : (a b : Bool) → a ≡ true → b ≡ true → (a && b) ≡ true
    both true b h k = k
    both false b h k = cc

pub in_order_just : (b : Branch) (t : Bindings) → is_none b.checked ≡ true → map (λ (e : List ℕ × Term). e.0) t ≡ map (λ (e : List ℕ × List ℕ). e.0) b.sent → binds_just (columns b) t ≡ true
in_order_just b t none same = by b.checked none
  where
    by : (o : Option (List ℕ)) → is_none o ≡ true → binds_just (columns_by b.sent o) t ≡ true
    by None e = in_order b.sent t same
    by (Some n) e = absurd (cc)

pub same_name : (a b : List ℕ) → not (eq_by_cmp text_cmp a b) ≡ false → a ≡ b
same_name a b h = by (eq_by_cmp text_cmp a b) refl h
  where
    by : (c : Bool) → eq_by_cmp text_cmp a b ≡ c → not c ≡ false → a ≡ b
    by true e k = one_text a b e
    by false e k = absurd (cc)

-- one more pair under the name that was sent
pub same_more : (xs : List (List ℕ × Term)) (ys : List (List ℕ × List ℕ)) (i : ℕ) (x : List ℕ × Term) (y : List ℕ × List ℕ) → i < length xs → i < length ys → x ≡ get_or xs i x → y ≡ get_or ys i y → x.0 ≡ y.0
    → map (λ (e : List ℕ × Term). e.0) (take i xs) ≡ map (λ (e : List ℕ × List ℕ). e.0) (take i ys) → map (λ (e : List ℕ × Term). e.0) (take (i + 1) xs) ≡ map (λ (e : List ℕ × List ℕ). e.0) (take (i + 1) ys)
same_more xs ys i x y h k e f same before =
    ap (map (λ (p : List ℕ × Term). p.0)) (take_more xs i x h ∙ ap (λ (p : List ℕ × Term). take i xs ++ p ∷ []) (sym e))
    ∙ map-append (λ (p : List ℕ × Term). p.0) (take i xs) (x ∷ [])
    ∙ (λ j. before j ++ same j ∷ [])
    ∙ sym (map-append (λ (p : List ℕ × List ℕ). p.0) (take i ys) (y ∷ []))
    ∙ sym (ap (map (λ (p : List ℕ × List ℕ). p.0)) (take_more ys i y k ∙ ap (λ (p : List ℕ × List ℕ). take i ys ++ p ∷ []) (sym f)))

-- ---- a batch

pub place_rises : (p : Parts) → IsBatch p → (b : Place) → Among b (places p) → IsTrue (rises b.row.solution)
place_rises p known b m = (its_row (λ r. IsKnown r.solution) 0 p.rows (recursion_from_All (λ (r : Row). IsKnown r.solution) p.rows known.known) b (in_kept (is_worth_asking p.unit) b (places_from 0 p.rows) m).0).rising

-- where the branch of a row is known, so is what the row tells, or its fault
pub row_by_branch : (p : Parts) (t : Bindings) → IsBatch p → read_row p.unit (places p) t ≡ as_found t (branch_in (branches_of p) t)
row_by_branch p t known = row_is p.unit t (places p) (place_rises p known)

pub row_of_branch : (p : Parts) (b : Branch) (t : Bindings) → IsBatch p → IsOf (branches_of p) b t → read_row p.unit (places p) t ≡ Ok (found_by t b)
row_of_branch p b t known of =
    let m = among_from_map (branch_of p.unit) b (places p) (among_from (branches_of p) b of.among) in
    let just : binds_just (columns_of p.unit m.0) t ≡ true = ap (λ (v : List (List ℕ)). binds_just v t) (sym (columns_are p.unit m.0)) ∙ ap (λ (d : Branch). binds_just (columns d) t) m.2 ∙ of.just in
    row_read p.unit p.rows known.few known.named m.0 t m.1 (just_is (columns_of p.unit m.0) t just)
    ∙ ap (λ (f : Found). Ok f) (sym (found_is p.unit t m.0 (place_rises p known m.0 m.1)))
    ∙ ap (λ (d : Branch). Ok (found_by t d)) m.2

pub row_of_branches : {B : Type 0} (now : B → Branch) (p : Parts) (bs : List Branch) (t : Bindings) (result : Result B RowFault) → IsBatch p → bs ≡ branches_of p
    → MatchResult result (λ b. branch_in bs t ≡ Ok (now b)) (λ e. branch_in bs t ≡ Err e)
    → MatchResult result (λ b. read_row p.unit (places p) t ≡ Ok (found_by t (now b))) (λ e. read_row p.unit (places p) t ≡ Err e)
row_of_branches now p bs t (Ok b) known same h = row_by_branch p t known ∙ ap (λ (v : List Branch). as_found t (branch_in v t)) (sym same) ∙ ap (as_found t) h
row_of_branches now p bs t (Err e) known same h = row_by_branch p t known ∙ ap (λ (v : List Branch). as_found t (branch_in v t)) (sym same) ∙ ap (as_found t) h
