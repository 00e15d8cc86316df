-- Rows that are gone stay gone behind the rest of a group, and change nothing where its filters are applied.
use Rattle.std.proofs.Common.{◌≡◌, ◌∙◌, ap, sym, subst, refl, inl, inr, ℕ, ◌+◌, Bool, true, false, not, ◌&&◌, ◌||◌, cond, List, [], ◌∷◌, ◌++◌, map, filter, Option, is_some, IsTrue, IsPermutation, append-nil, append_assoc}
use Rattle.std.specs.Prelude.{All}
use Rattle.std.specs.List.{AllByRecursion, list_all, list_any}
use Rattle.std.proofs.lemmas.Grind.{flat_map-append}
use Rattle.std.proofs.lemmas.List.{map-append}
use Rattle.std.proofs.lemmas.List.Elements.{All-append, All-from_recursion, filter-append, recursion_from_All}
use Rattle.std.proofs.lemmas.List.Folds.{list_any-append}
use Rattle.std.proofs.lemmas.List.Sorted.{IsPermutation-refl, IsPermutation-sym, IsPermutation-trans, IsPermutation-append_left}
use Rattle.fx_terms.specs.declared.terms.Term.{Term}
use Rattle.fx_terms.specs.declared.triples.Triple.{Triple}
use Rattle.fx_terms.specs.declared.patterns.Pattern.{Pattern}
use Rattle.fx_terms.proofs.SetLemmas.{Among, among_from}
use Rattle.fx_algebra.specs.BasicGraphPatterns.{bgp, variables}
use Rattle.fx_algebra.specs.Conditions.{holds, is_so}
use Rattle.fx_algebra.specs.Groups.{Step, run, apply, after, meaning}
use Rattle.fx_algebra.specs.Operators.{diff, filtered, join, left_join, merges}
use Rattle.fx_algebra.specs.Scopes.{is_among}
use Rattle.fx_algebra.specs.Solutions.{Bindings, agree, merge, term_of}
use Rattle.fx_algebra.specs.Units.{expr_names}
use Rattle.fx_algebra.specs.Values.{is_true, truth_of}
use Rattle.fx_algebra.specs.declared.expressions.Expr.{Expr}
use Rattle.fx_algebra.proofs.ForcedLemmas.{Extends}
use Rattle.fx_algebra.proofs.JoinLemmas.{merge_extends_right, same_join}
use Rattle.fx_algebra.proofs.MoveLemmas.{Moves, PartMoves, StepMoves, element_moves, part_moves, steps_move}
use Rattle.fx_algebra.proofs.OperatorLemmas.{filtered_moves, left_join_moves}
use Rattle.fx_steps.specs.Fewer.{AreFewer, FewerAtTheEnd, FewerBehindALayer, FewerBehindARun, FewerBehindAnOperator, FewerBehindTheSteps, FewerInAnyOrder, FewerInTurn, FewerLaws, FewerOnTheRight, IsGone, NoneIsGone}
use Rattle.fx_steps.specs.Groups.{ComesOut, FiltersHoldAtTheEnd, IsPushed, steps_in}
use Rattle.fx_steps.proofs.FilterLemmas.{Binds}
use Rattle.fx_steps.proofs.GroupLemmas.{GoesByRows, PartGoes, StepGoes, binds_run, both_true, element_goes, join_grows, kept_term, none_stay, not_false, one_holds, part_goes, split_rows, steps_go}
use Rattle.fx_steps.proofs.StepLemmas.{in_filter}
use Rattle.fx_steps.proofs.ValueLemmas.{AreBoundAlike, value_alike}

-- ---- lists

all_among : {X : Type 0} (P : X → Type 0) (xs : List X) → ((x : X) → Among x xs → P x) → AllByRecursion P xs
all_among P [] f = tt
all_among P (x ∷ xs) f = (f x (inl refl), all_among P xs (λ y m. f y (inr m)))

among_its : {X : Type 0} (P : X → Type 0) (xs : List X) → AllByRecursion P xs → (x : X) → Among x xs → P x
among_its P [] h x m = absurd m
among_its P (y ∷ ys) h x (inl e) = subst P e h.0
among_its P (y ∷ ys) h x (inr m) = among_its P ys h.1 x m

-- ---- a row that is gone

abbrev IsBoundIn : Bindings → List ℕ → Type 0
IsBoundIn s name = IsTrue (is_some (term_of s name))

bound_alike : (r s : Bindings) → Extends r s → (names : List (List ℕ)) → AllByRecursion (IsBoundIn r) names → AreBoundAlike r s names
bound_alike r s x [] h = tt
bound_alike r s x (n ∷ ns) h = (kept_term r s n (term_of r n) x refl h.0, bound_alike r s x ns h.1)

bound_still : (r s : Bindings) (names : List (List ℕ)) → AreBoundAlike r s names → AllByRecursion (IsBoundIn r) names → AllByRecursion (IsBoundIn s) names
bound_still r s [] same h = tt
bound_still r s (n ∷ ns) same h = (ap is_some (sym same.0) ∙ h.0, bound_still r s ns same.1 h.1)

-- it is gone however it grows
gone_grows : (conditions : List Expr) (r s : Bindings) → Extends r s → IsGone conditions r → IsGone conditions s
gone_grows conditions r s x h =
    let names = expr_names h.refusing in
    let before = recursion_from_All (IsBoundIn r) names h.bound in
    let same = bound_alike r s x names before in
    record {
      refusing = h.refusing;
      own = h.own;
      bound = All-from_recursion (IsBoundIn s) names (bound_still r s names same before);
      fails = ap (λ (v : Option Term). is_true (truth_of v)) (sym (value_alike r s h.refusing same)) ∙ h.fails;
    }

-- the filters don't hold of it
gone_fails : (conditions : List Expr) (s : Bindings) → IsGone conditions s → holds conditions s ≡ false
unfolding holds
gone_fails conditions s h = by (list_all (is_so s) conditions) refl
  where
    by : (b : Bool) → list_all (is_so s) conditions ≡ b → list_all (is_so s) conditions ≡ false
    by true e = let yes : is_so s h.refusing ≡ true = one_holds conditions s h.refusing e (among_from conditions h.refusing h.own) in let no : is_so s h.refusing ≡ false = h.fails in absurd (cc)
    by false e = e

none_held : (conditions : List Expr) (gone : List Bindings) → All (IsGone conditions) gone → filtered conditions gone ≡ []
none_held conditions gone all =
    let each = recursion_from_All (IsGone conditions) gone all in
    none_stay (holds conditions) gone (λ s m. gone_fails conditions s (among_its (IsGone conditions) gone each s m))

-- ---- what is gone of a run

some_fails : (es : List Expr) (s : Bindings) → list_all (is_so s) es ≡ false → (e : Expr) × Among e es × (is_so s e ≡ false)
some_fails [] s h = absurd (cc)
some_fails (e ∷ es) s h = by (is_so s e) refl h (some_fails es s)
  where
    by : (b : Bool) → is_so s e ≡ b → (b && list_all (is_so s) es) ≡ false → (list_all (is_so s) es ≡ false → (d : Expr) × Among d es × (is_so s d ≡ false)) → (d : Expr) × Among d (e ∷ es) × (is_so s d ≡ false)
    by true k h more = let t = more h in (t.0, inr t.1, t.2)
    by false k h more = (e, inl refl, k)

names_bound : (ps : List Pattern) (s : Bindings) → Binds ps s → (names : List (List ℕ)) → list_all (is_among (variables ps)) names ≡ true → AllByRecursion (IsBoundIn s) names
names_bound ps s h [] c = tt
names_bound ps s h (n ∷ ns) c = let t = both_true (is_among (variables ps) n) (list_all (is_among (variables ps)) ns) c in (h n t.0, names_bound ps s h ns t.1)

refused : (conditions : List Expr) (ps : List Pattern) (es : List Expr) → AllByRecursion (IsPushed conditions ps) es → (s : Bindings) → Binds ps s → holds es s ≡ false → IsGone conditions s
unfolding holds
refused conditions ps es pushed s binds failed =
    let t = some_fails es s failed in
    let p = among_its (IsPushed conditions ps) es pushed t.0 t.1 in
    record { refusing = t.0; own = p.own; bound = All-from_recursion (IsBoundIn s) (expr_names t.0) (names_bound ps s binds (expr_names t.0) p.covered); fails = t.2 }

-- ---- the laws

none_is_gone : NoneIsGone
none_is_gone conditions found rows h = record {
  gone = [];
  rows_are = subst (λ (v : List Bindings). IsPermutation v rows) (sym (append-nil found)) h;
  are_gone = All-from_recursion (IsGone conditions) [] tt;
}

fewer_in_any_order : FewerInAnyOrder
fewer_in_any_order conditions found others rows more h k fewer = record {
  gone = fewer.gone;
  rows_are =
      IsPermutation-trans (others ++ fewer.gone) (found ++ fewer.gone) more (IsPermutation-append_left fewer.gone others found (IsPermutation-sym found others h)) (IsPermutation-trans (found ++ fewer.gone) rows more fewer.rows_are k);
  are_gone = fewer.are_gone;
}

fewer_in_turn : FewerInTurn
fewer_in_turn conditions found between rows h k = record {
  gone = h.gone ++ k.gone;
  rows_are =
      subst (λ (v : List Bindings). IsPermutation v rows) (append_assoc found h.gone k.gone)
      (IsPermutation-trans ((found ++ h.gone) ++ k.gone) (between ++ k.gone) rows (IsPermutation-append_left k.gone (found ++ h.gone) between h.rows_are) k.rows_are);
  are_gone = All-append (IsGone conditions) h.gone k.gone h.are_gone k.are_gone;
}

-- what grows of rows that are gone is gone
all_grow : (conditions : List Expr) (gone next : List Bindings) → All (IsGone conditions) gone → ((s : Bindings) → Among s next → (r : Bindings) × Among r gone × Extends r s) → All (IsGone conditions) next
all_grow conditions gone next all f =
    let each = recursion_from_All (IsGone conditions) gone all in
    All-from_recursion (IsGone conditions) next
    (all_among (IsGone conditions) next (λ s m. let a = f s m in gone_grows conditions a.0 s a.2 (among_its (IsGone conditions) gone each a.0 a.1)))

fewer_behind_a_run : FewerBehindARun
fewer_behind_a_run conditions graph ps found rows next h out =
    let others = bgp graph ps in
    let all = join found others in
    let held = filtered out.filters all in
    let left = filter (λ s. not (holds out.filters s)) all in
    let more = join h.gone others in
    let pushed = recursion_from_All (IsPushed conditions ps) out.filters out.pushed in
    let split : IsPermutation (held ++ left) all = IsPermutation-sym all (held ++ left) (split_rows (holds out.filters) all) in
    let behind : IsPermutation ((held ++ left) ++ more) (join rows others) =
    IsPermutation-trans ((held ++ left) ++ more) (all ++ more) (join rows others) (IsPermutation-append_left more (held ++ left) all split)
    (subst (λ (v : List Bindings). IsPermutation v (join rows others)) (flat_map-append (merges others) found h.gone) (same_join (found ++ h.gone) rows others others h.rows_are (IsPermutation-refl others))) in
    record {
      gone = left ++ more;
      rows_are =
          IsPermutation-trans (next ++ (left ++ more)) (held ++ (left ++ more)) (join rows others) (IsPermutation-append_left (left ++ more) next held out.rows_are)
          (subst (λ (v : List Bindings). IsPermutation v (join rows others)) (append_assoc held left more) behind);
      are_gone =
          All-append (IsGone conditions) left more
          (All-from_recursion (IsGone conditions) left
          (all_among (IsGone conditions) left
          (λ s m.
          let k = in_filter (λ s. not (holds out.filters s)) s all m in
          refused conditions ps out.filters pushed s (binds_run graph ps found s k.0) (not_false (holds out.filters s) k.1))))
          (all_grow conditions h.gone more h.are_gone (join_grows h.gone others));
    }

fewer_behind : (conditions : List Expr) (f : List Triple → ℕ → List Bindings → List Bindings) → GoesByRows f → Moves f → (graph : List Triple) (number : ℕ) (found rows next : List Bindings)
    → AreFewer conditions found rows → IsPermutation next (f graph number found) → AreFewer conditions next (f graph number rows)
fewer_behind conditions f go move graph number found rows next h k =
    let own = f graph number found in
    let more = f graph number h.gone in
    record {
      gone = more;
      rows_are =
          IsPermutation-trans (next ++ more) (own ++ more) (f graph number rows) (IsPermutation-append_left more next own k)
          (IsPermutation-trans (own ++ more) (f graph number (found ++ h.gone)) (f graph number rows) (IsPermutation-sym (f graph number (found ++ h.gone)) (own ++ more) (go.splits graph number found h.gone))
          (move graph number (found ++ h.gone) rows h.rows_are));
      are_gone = all_grow conditions h.gone more h.are_gone (go.grows graph number h.gone);
    }

fewer_behind_a_layer : FewerBehindALayer
fewer_behind_a_layer conditions graphs down layer o is graph number found rows next h k =
    fewer_behind conditions o.rows (subst PartGoes is (element_goes graphs down layer)) (subst PartMoves is (element_moves graphs down layer)) graph number found rows next h k

fewer_behind_an_operator : FewerBehindAnOperator
fewer_behind_an_operator conditions graphs down e o is graph number found rows next h k =
    fewer_behind conditions o.rows (subst PartGoes is (part_goes graphs down e)) (subst PartMoves is (part_moves graphs down e)) graph number found rows next h k

all_steps : (conditions : List Expr) (graph : List Triple) (steps : List Step) → AllByRecursion StepGoes steps → AllByRecursion StepMoves steps → (number : ℕ) (found rows last : List Bindings)
    → AreFewer conditions found rows → ComesOut conditions graph number found steps last → AreFewer conditions last (after graph number rows steps)
all_steps conditions graph [] go move number found rows last h k = fewer_in_any_order conditions found last rows rows (IsPermutation-sym last found k) (IsPermutation-refl rows) h
all_steps conditions graph (run ps ∷ steps) go move number found rows last h k =
    all_steps conditions graph steps go.1 move.1 number k.0 (join rows (bgp graph ps)) last (fewer_behind_a_run conditions graph ps found rows k.0 h k.1) k.2
all_steps conditions graph (apply o ∷ steps) go move number found rows last h k =
    all_steps conditions graph steps go.1 move.1 (number + o.services) k.0 (o.rows graph number rows) last (fewer_behind conditions o.rows go.0 move.0 graph number found rows k.0 h k.1) k.2

fewer_behind_the_steps : FewerBehindTheSteps
fewer_behind_the_steps g graphs down conditions graph number found rows last h k =
    all_steps conditions graph _ (steps_go graphs down g.elements) (steps_move graphs down g.elements) number found rows last h k

fewer_at_the_end : FewerAtTheEnd
fewer_at_the_end conditions found rows h =
    subst (λ (v : List Bindings). IsPermutation v (filtered conditions rows))
    (filter-append (holds conditions) found h.gone ∙ ap (λ (v : List Bindings). filtered conditions found ++ v) (none_held conditions h.gone h.are_gone) ∙ append-nil (filtered conditions found))
    (filtered_moves conditions (found ++ h.gone) rows h.rows_are)

-- so filters that were applied to runs of a group change nothing where all its filters are applied at its end
pub filters_hold_at_the_end : FiltersHoldAtTheEnd
filters_hold_at_the_end g graphs down graph number rows found h =
    let conditions = (meaning graphs down g).filters in
    fewer_at_the_end conditions found (after graph number rows (steps_in graphs down g))
    (fewer_behind_the_steps g graphs down conditions graph number rows rows found (none_is_gone conditions rows rows (IsPermutation-refl rows)) h)

-- ---- the right of a left join

module _ (conditions : List Expr) (gone : List Bindings) (all : AllByRecursion (IsGone conditions) gone) where
  abbrev meets : Bindings → Bindings → Bool
  meets a b = agree a b && holds conditions (merge a b)

  never_meets : (a b : Bindings) → Among b gone → (c : Bool) → agree a b ≡ c → meets a b ≡ false
  never_meets a b m true e = ap (λ (c : Bool). c && holds conditions (merge a b)) e ∙ gone_fails conditions (merge a b) (gone_grows conditions b (merge a b) (merge_extends_right a b e) (among_its (IsGone conditions) gone all b m))
  never_meets a b m false e = ap (λ (c : Bool). c && holds conditions (merge a b)) e

  none_meets : (a : Bindings) (bs : List Bindings) → ((b : Bindings) → Among b bs → Among b gone) → list_any (meets a) bs ≡ false
  none_meets a [] f = refl
  none_meets a (b ∷ bs) f = ap (λ (c : Bool). c || list_any (meets a) bs) (never_meets a b (f b (inl refl)) (agree a b) refl) ∙ none_meets a bs (λ c m. f c (inr m))

  none_matches : (a : Bindings) (bs : List Bindings) → ((b : Bindings) → Among b bs → Among b gone) → filtered conditions (merges bs a) ≡ []
  none_matches a [] f = refl
  none_matches a (b ∷ bs) f = by (agree a b) refl (none_matches a bs (λ c m. f c (inr m)))
    where
      by : (c : Bool) → agree a b ≡ c → filtered conditions (merges bs a) ≡ [] → filtered conditions (map (merge a) (cond c (b ∷ filter (agree a) bs) (filter (agree a) bs))) ≡ []
      by true e rest =
          ap (λ (d : Bool). cond d (merge a b ∷ filtered conditions (merges bs a)) (filtered conditions (merges bs a)))
          (gone_fails conditions (merge a b) (gone_grows conditions b (merge a b) (merge_extends_right a b e) (among_its (IsGone conditions) gone all b (f b (inl refl)))))
          ∙ rest
      by false e rest = rest

  matches_same : (found : List Bindings) (a : Bindings) → filtered conditions (merges (found ++ gone) a) ≡ filtered conditions (merges found a)
  matches_same found a =
      ap (λ (v : List Bindings). filtered conditions (map (merge a) v)) (filter-append (agree a) found gone)
      ∙ ap (filtered conditions) (map-append (merge a) (filter (agree a) found) (filter (agree a) gone))
      ∙ filter-append (holds conditions) (merges found a) (merges gone a)
      ∙ ap (λ (v : List Bindings). filtered conditions (merges found a) ++ v) (none_matches a gone (λ b m. m))
      ∙ append-nil (filtered conditions (merges found a))

  join_same : (found left : List Bindings) → filtered conditions (join left (found ++ gone)) ≡ filtered conditions (join left found)
  join_same found [] = refl
  join_same found (a ∷ left) =
      filter-append (holds conditions) (merges (found ++ gone) a) (join left (found ++ gone))
      ∙ ap (λ (v : List Bindings). v ++ filtered conditions (join left (found ++ gone))) (matches_same found a)
      ∙ ap (λ (v : List Bindings). filtered conditions (merges found a) ++ v) (join_same found left)
      ∙ sym (filter-append (holds conditions) (merges found a) (join left found))

  or_false : (b c : Bool) → c ≡ false → (b || c) ≡ b
  or_false true c e = refl
  or_false false c e = e

  diff_same : (found left : List Bindings) → diff left (found ++ gone) conditions ≡ diff left found conditions
  diff_same found left =
      ap (λ (p : Bindings → Bool). filter p left)
      (λ i a. not ((list_any-append (meets a) found gone ∙ or_false (list_any (meets a) found) (list_any (meets a) gone) (none_meets a gone (λ b m. m))) i))

fewer_on_the_right : FewerOnTheRight
fewer_on_the_right conditions left found rows h =
    let all = recursion_from_All (IsGone conditions) h.gone h.are_gone in
    let same : left_join left (found ++ h.gone) conditions ≡ left_join left found conditions =
    ap (λ (v : List Bindings). v ++ diff left (found ++ h.gone) conditions) (join_same conditions h.gone all found left) ∙ ap (λ (v : List Bindings). filtered conditions (join left found) ++ v) (diff_same conditions h.gone all found left) in
    subst (λ (v : List Bindings). IsPermutation v (left_join left rows conditions)) same (left_join_moves left left (found ++ h.gone) rows conditions (IsPermutation-refl left) h.rows_are)

pub fewer_laws : FewerLaws
fewer_laws = record {
  none = none_is_gone;
  any_order = fewer_in_any_order;
  in_turn = fewer_in_turn;
  run = fewer_behind_a_run;
  layer = fewer_behind_a_layer;
  operator = fewer_behind_an_operator;
  steps = fewer_behind_the_steps;
  at_the_end = fewer_at_the_end;
  on_the_right = fewer_on_the_right;
}
