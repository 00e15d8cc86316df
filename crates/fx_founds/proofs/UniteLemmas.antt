-- What the members of a sound unit have for the branches of rows unites to the unit's step.
use Rattle.std.proofs.Common.{◌≡◌, ◌∙◌, ap, sym, subst, refl, inl, inr, ◌⊎◌, ℕ, suc, ◌≤◌, Bool, true, false, not, cond, List, [], ◌∷◌, ◌++◌, map, filter, IsTrue, IsPermutation, Contains, arith}
use Rattle.std.specs.Prelude.{◌==◌}
use Rattle.std.specs.List.{AllByRecursion, flat_map}
use Rattle.std.proofs.lemmas.Bool.Decides.{nat_tests}
use Rattle.std.proofs.lemmas.List.Elements.{recursion_from_All, All-from_recursion}
use Rattle.std.proofs.lemmas.List.Sorted.{IsPermutation-append, IsPermutation-map, IsPermutation-refl, IsPermutation-sym, All-permutation}
use Rattle.fx_terms.specs.Graphs.{set_of}
use Rattle.fx_terms.specs.declared.triples.Triple.{Triple}
use Rattle.fx_terms.specs.declared.patterns.Pattern.{Pattern}
use Rattle.fx_terms.proofs.SetLemmas.{Among, among_from, among_from_set, among_set, contains_from, one_rising, rises_set}
use Rattle.fx_algebra.specs.Graphs.{union}
use Rattle.fx_algebra.specs.Solutions.{Bindings, rises, solution_cmp, solutions_total}
use Rattle.fx_algebra.specs.Units.{graph_of, is_covered, row_of, row_step, step}
use Rattle.fx_algebra.specs.declared.expressions.Expr.{Expr}
use Rattle.fx_algebra.specs.declared.units.Row.{Row}
use Rattle.fx_algebra.specs.declared.units.Unit as unit
use Rattle.fx_algebra.proofs.JoinLemmas.{exact_solutions}
use Rattle.fx_algebra.proofs.MemberLemmas.{among_cases, among_flat_map, among_from_flat_map, among_left, among_right, among_from_map, among_map}
use Rattle.fx_spelling.specs.Units.{IsPushed}
use Rattle.fx_renaming.specs.Branches.{bound_pattern, is_hopeless}
use Rattle.fx_founds.specs.Unions.{beside, of_members}
use Rattle.fx_founds.specs.Uniting.{AreAll, AreToldBy, Place, UnitedIsTheStep, branches, found_for, is_worth_asking, places_from, tells, united}
use Rattle.fx_founds.specs.declared.founds.Found.{Found}
use Rattle.fx_renaming.proofs.BranchLemmas.{hopeless_branch_has_none}
use Rattle.fx_founds.proofs.UnionLemmas.{each_of, in_kept, kept_in, members_have_the_union}

-- ---- lists

own_elements : {X : Type 0} (all ys : List X) → ((y : X) → Among y ys → Among y all) → AllByRecursion (Contains all) ys
own_elements all [] f = tt
own_elements all (y ∷ ys) f = (contains_from all y (f y (inl refl)), own_elements all ys (λ z n. f z (inr n)))

pub permuted : {X : Type 0} (x : X) (xs ys : List X) → IsPermutation xs ys → Among x xs → Among x ys
permuted x xs ys h m =
    among_from ys x
    (each_of (Contains ys) xs (recursion_from_All (Contains ys) xs (All-permutation (Contains ys) ys xs (IsPermutation-sym xs ys h) (All-from_recursion (Contains ys) ys (own_elements ys ys (λ y n. n))))) x m)

each_moves : {X Y : Type 0} (f g : X → List Y) (xs : List X) → ((x : X) → Among x xs → IsPermutation (f x) (g x)) → IsPermutation (flat_map f xs) (flat_map g xs)
each_moves f g [] h = IsPermutation-refl []
each_moves f g (x ∷ xs) h = IsPermutation-append (f x) (g x) (flat_map f xs) (flat_map g xs) (h x (inl refl)) (each_moves f g xs (λ y m. h y (inr m)))

-- what gives nothing may be left out
left_out : {X Y : Type 0} (f : X → List Y) (p : X → Bool) (xs : List X) → ((x : X) → Among x xs → p x ≡ false → f x ≡ []) → flat_map f (filter p xs) ≡ flat_map f xs
left_out f p [] h = refl
left_out f p (x ∷ xs) h = by (p x) refl (left_out f p xs (λ y m. h y (inr m)))
  where
    by : (b : Bool) → p x ≡ b → flat_map f (filter p xs) ≡ flat_map f xs → flat_map f (cond b (x ∷ filter p xs) (filter p xs)) ≡ f x ++ flat_map f xs
    by true e k = ap (λ v. f x ++ v) k
    by false e k = k ∙ ap (λ v. v ++ flat_map f xs) (sym (h x (inl refl) e))

equal_numbers : (m n : ℕ) → (m == n) ≡ true → m ≡ n
equal_numbers m n h = grind (arith, nat_tests)

itself : (n : ℕ) → (n == n) ≡ true
itself n = grind (arith, nat_tests)

-- ---- places

pub number_above : (n : ℕ) (rows : List Row) (b : Place) → Among b (places_from n rows) → n ≤ b.number
number_above n [] b m = absurd m
number_above n (r ∷ rows) b (inl e) = let same : n ≡ b.number = ap (λ (v : Place). v.number) e in omega (arith, same)
number_above n (r ∷ rows) b (inr m) = let low = number_above (suc n) rows b m in omega (arith, low)

-- a number has one place
pub one_place : (n : ℕ) (rows : List Row) (a b : Place) → Among a (places_from n rows) → Among b (places_from n rows) → a.number ≡ b.number → a ≡ b
one_place n [] a b k m same = absurd k
one_place n (r ∷ rows) a b (inl e) (inl f) same = sym e ∙ f
one_place n (r ∷ rows) a b (inl e) (inr m) same =
    let here : n ≡ a.number = ap (λ (v : Place). v.number) e in
    let low = number_above (suc n) rows b m in
    absurd (omega (arith, here, low, same))
one_place n (r ∷ rows) a b (inr k) (inl f) same =
    let here : n ≡ b.number = ap (λ (v : Place). v.number) f in
    let low = number_above (suc n) rows a k in
    absurd (omega (arith, here, low, same))
one_place n (r ∷ rows) a b (inr k) (inr m) same = one_place (suc n) rows a b k m same

pub its_row : (P : Row → Type 0) (n : ℕ) (rows : List Row) → AllByRecursion P rows → (b : Place) → Among b (places_from n rows) → P b.row
its_row P n [] h b m = absurd m
its_row P n (r ∷ rows) h b (inl e) = subst (λ (v : Place). P v.row) e h.0
its_row P n (r ∷ rows) h b (inr m) = its_row P (suc n) rows h.1 b m

-- the rows of all places
over_rows : (f : Row → List Row) (n : ℕ) (rows : List Row) → flat_map (λ b. f b.row) (places_from n rows) ≡ flat_map f rows
over_rows f n [] = refl
over_rows f n (r ∷ rows) = ap (λ (v : List Row). f r ++ v) (over_rows f (suc n) rows)

-- ---- what is told of one branch

module _ (graphs : List (List Triple)) (u : unit.Unit) (rows : List Row) where
  abbrev bs : List Place
  bs = branches u rows

  -- a list tells of a branch what its member has
  of_list : (at : ℕ) (list : List Found) (b : Place) (f : Found) → IsPermutation list (flat_map (tells (graph_of graphs at) u) bs) → Among b bs → Among f list → f.branch ≡ b.number → Among f.solution (beside (graph_of graphs at) u b.row.solution)
  of_list at list b f told here m same =
      let c = among_from_flat_map (tells (graph_of graphs at) u) f bs (permuted f list (flat_map (tells (graph_of graphs at) u) bs) told m) in
      let s = among_from_map (λ (t : Bindings). record { branch = c.0.number; solution = t }) f (beside (graph_of graphs at) u c.0.row.solution) c.2 in
      let number : c.0.number ≡ b.number = ap (λ (v : Found). v.branch) s.2 ∙ same in
      let one : c.0 ≡ b = one_place 0 rows c.0 b (in_kept (is_worth_asking u) c.0 (places_from 0 rows) c.1).0 (in_kept (is_worth_asking u) b (places_from 0 rows) here).0 number in
      subst (λ (v : Place). Among f.solution (beside (graph_of graphs at) u v.row.solution)) one (subst (λ (v : Bindings). Among v (beside (graph_of graphs at) u c.0.row.solution)) (ap (λ (v : Found). v.solution) s.2) s.1)

  from_lists : (members : List ℕ) (lists : List (List Found)) (b : Place) (f : Found) → AreToldBy graphs u bs members lists → AreAll members lists → Among b bs → Among f (flat_map (λ list. list) lists) → f.branch ≡ b.number
      → Among f.solution (flat_map (λ at. beside (graph_of graphs at) u b.row.solution) members)
  from_lists [] [] b f told all here m same = absurd m
  from_lists [] (list ∷ lists) b f told all here m same = absurd all
  from_lists (at ∷ members) [] b f told all here m same = absurd all
  from_lists (at ∷ members) (list ∷ lists) b f told all here m same = by (among_cases f list (flat_map (λ l. l) lists) m) (from_lists members lists b f told.1 all here)
    where
      by : Among f list ⊎ Among f (flat_map (λ l. l) lists) → (Among f (flat_map (λ l. l) lists) → f.branch ≡ b.number → Among f.solution (flat_map (λ k. beside (graph_of graphs k) u b.row.solution) members))
          → Among f.solution (flat_map (λ k. beside (graph_of graphs k) u b.row.solution) (at ∷ members))
      by (inl n) k = among_left f.solution (beside (graph_of graphs at) u b.row.solution) (flat_map (λ k. beside (graph_of graphs k) u b.row.solution) members) (of_list at list b f told.0 here n same)
      by (inr n) k = among_right f.solution (beside (graph_of graphs at) u b.row.solution) (flat_map (λ k. beside (graph_of graphs k) u b.row.solution) members) (k n same)

  abbrev found : Place → Bindings → Found
  found b s = record { branch = b.number; solution = s }

  into_lists : (members : List ℕ) (lists : List (List Found)) (b : Place) (s : Bindings) → AreToldBy graphs u bs members lists → AreAll members lists → Among b bs → Among s (flat_map (λ at. beside (graph_of graphs at) u b.row.solution) members)
      → Among (found b s) (flat_map (λ list. list) lists)
  into_lists [] [] b s told all here m = absurd m
  into_lists [] (list ∷ lists) b s told all here m = absurd all
  into_lists (at ∷ members) [] b s told all here m = absurd all
  into_lists (at ∷ members) (list ∷ lists) b s told all here m = by (among_cases s (beside (graph_of graphs at) u b.row.solution) (flat_map (λ k. beside (graph_of graphs k) u b.row.solution) members) m) (into_lists members lists b s told.1 all here)
    where
      by : Among s (beside (graph_of graphs at) u b.row.solution) ⊎ Among s (flat_map (λ k. beside (graph_of graphs k) u b.row.solution) members)
          → (Among s (flat_map (λ k. beside (graph_of graphs k) u b.row.solution) members) → Among (record { branch = b.number; solution = s }) (flat_map (λ l. l) lists)) → Among (record { branch = b.number; solution = s }) (list ++ flat_map (λ l. l) lists)
      by (inl n) k =
          let f : Found = record { branch = b.number; solution = s } in
          let all_told = flat_map (tells (graph_of graphs at) u) (branches u rows) in
          among_left f list (flat_map (λ l. l) lists)
          (permuted f all_told list (IsPermutation-sym list all_told told.0)
          (among_flat_map (tells (graph_of graphs at) u) b f (branches u rows) here (among_map (λ (t : Bindings). record { branch = b.number; solution = t }) s (beside (graph_of graphs at) u b.row.solution) n)))
      by (inr n) k = among_right (record { branch = b.number; solution = s }) list (flat_map (λ l. l) lists) (k n)

  -- what was found for a branch is what the members have
  one_branch : (lists : List (List Found)) (b : Place) → AreToldBy graphs u bs u.members lists → AreAll u.members lists → Among b bs
      → set_of solution_cmp (found_for b.number (flat_map (λ list. list) lists)) ≡ set_of solution_cmp (of_members graphs u b.row.solution)
  one_branch lists b told all here =
      let founds = flat_map (λ list. list) lists in
      let mine = found_for b.number founds in
      let theirs = of_members graphs u b.row.solution in
      one_rising solution_cmp solutions_total exact_solutions (set_of solution_cmp mine) (set_of solution_cmp theirs) (rises_set solution_cmp solutions_total exact_solutions mine) (rises_set solution_cmp solutions_total exact_solutions theirs)
      (λ s m.
      let a = among_from_map (λ (f : Found). f.solution) s (filter (λ f. f.branch == b.number) founds) (among_from_set solution_cmp solutions_total exact_solutions s mine m) in
      let k = in_kept (λ (f : Found). f.branch == b.number) a.0 founds a.1 in
      among_set solution_cmp solutions_total exact_solutions s theirs (subst (λ (v : Bindings). Among v theirs) a.2 (from_lists u.members lists b a.0 told all here k.0 (equal_numbers a.0.branch b.number k.1))))
      (λ s m.
      let n = into_lists u.members lists b s told all here (among_from_set solution_cmp solutions_total exact_solutions s theirs m) in
      among_set solution_cmp solutions_total exact_solutions s mine (among_map (λ (f : Found). f.solution) (found b s) (filter (λ f. f.branch == b.number) founds) (kept_in (λ (f : Found). f.branch == b.number) (found b s) founds n (itself b.number))))

-- ---- the law

pub all_covered : (ps : List Pattern) (es : List Expr) → AllByRecursion (IsPushed ps) es → AllByRecursion (λ e. is_covered ps e ≡ true) es
all_covered ps [] h = tt
all_covered ps (e ∷ es) h = (h.0.covered, all_covered ps es h.1)

not_true : (b : Bool) → not b ≡ false → b ≡ true
not_true true h = refl
not_true false h = cc

pub united_is_the_step : UnitedIsTheStep
united_is_the_step graphs u rows lists sound up told all =
    let bs = branches u rows in
    let each = recursion_from_All (λ (r : Row). IsTrue (rises r.solution)) rows up in
    let covered = All-from_recursion (λ e. is_covered u.patterns e ≡ true) u.filters (all_covered u.patterns u.filters (recursion_from_All (IsPushed u.patterns) u.filters sound.fit.filters)) in
    let rising : (b : Place) → Among b (places_from 0 rows) → IsTrue (rises b.row.solution) = its_row (λ r. IsTrue (rises r.solution)) 0 rows each in
    let steps : flat_map (λ (b : Place). row_step (union graphs) u b.row) bs ≡ step (union graphs) u rows =
    left_out (λ (b : Place). row_step (union graphs) u b.row) (is_worth_asking u) (places_from 0 rows)
    (λ b m e. ap (map (row_of b.row.origin)) (hopeless_branch_has_none (union graphs) u.patterns u.filters b.row.solution (λ name. name) (rising b m) (λ x y k l same. same) covered (not_true (is_hopeless (map (bound_pattern (λ name. name) b.row.solution) u.patterns)) e)))
    ∙ over_rows (row_step (union graphs) u) 0 rows in
    subst (λ (v : List Row). IsPermutation (united bs lists) v) steps
    (each_moves (λ (b : Place). map (row_of b.row.origin) (set_of solution_cmp (found_for b.number (flat_map (λ list. list) lists)))) (λ (b : Place). row_step (union graphs) u b.row) bs
    (λ b m.
    let whole = beside (union graphs) u b.row.solution in
    let moved = members_have_the_union graphs u b.row.solution (rising b (in_kept (is_worth_asking u) b (places_from 0 rows) m).0) sound in
    let set = set_of solution_cmp (of_members graphs u b.row.solution) in
    subst (λ (v : List Bindings). IsPermutation (map (row_of b.row.origin) v) (map (row_of b.row.origin) whole)) (sym (one_branch graphs u rows lists b told all m))
    (IsPermutation-map (row_of b.row.origin) set whole (IsPermutation-sym whole set moved))))
