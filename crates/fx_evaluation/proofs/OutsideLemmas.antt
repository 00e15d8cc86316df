-- Conditions from outside of a group: what they refuse of its rows agrees with nothing that these are joined with, or is refused later.
use Rattle.std.proofs.Common.{◌≡◌, ◌∙◌, ap, sym, subst, refl, inl, inr, ◌⊎◌, ℕ, Bool, true, false, not, ◌&&◌, ◌||◌, cond, List, [], ◌∷◌, ◌++◌, map, filter, Option, Some, None, is_some, IsTrue, IsPermutation, append-nil, append_assoc}
use Rattle.std.specs.Prelude.{All}
use Rattle.std.specs.List.{AllByRecursion, list_all, list_any}
use Rattle.std.proofs.lemmas.Grind.{flat_map-append}
use Rattle.std.proofs.lemmas.List.{map-append}
use Rattle.std.proofs.lemmas.List.Elements.{All-append, All-from_recursion, filter-append, recursion_from_All}
use Rattle.std.proofs.lemmas.List.Folds.{list_any-append}
use Rattle.std.proofs.lemmas.List.Sorted.{IsPermutation-refl, IsPermutation-sym, IsPermutation-trans, IsPermutation-append, IsPermutation-append_comm}
use Rattle.fx_terms.specs.declared.terms.Term.{Term}
use Rattle.fx_terms.specs.declared.terms.Term.TheVariants.{Iri}
use Rattle.fx_terms.proofs.SetLemmas.{Among, among_from, contains_from}
use Rattle.fx_algebra.specs.Conditions.{holds, is_so}
use Rattle.fx_algebra.specs.Operators.{diff, filtered, join, left_join, merges, minus, shares, stays}
use Rattle.fx_algebra.specs.Solutions.{Bindings, agree, merge, term_of}
use Rattle.fx_algebra.specs.Units.{expr_names}
use Rattle.fx_algebra.specs.Values.{is_true, truth_of}
use Rattle.fx_algebra.specs.declared.expressions.Expr.{Expr}
use Rattle.fx_algebra.specs.declared.expressions.Expr.TheVariants.{Variable, Constant}
use Rattle.fx_algebra.proofs.ForcedLemmas.{Extends}
use Rattle.fx_algebra.proofs.JoinLemmas.{agree_has, merge_extends_left, merge_extends_right, same_join}
use Rattle.fx_algebra.proofs.MemberLemmas.{among_cases, among_from_flat_map, among_from_map}
use Rattle.fx_algebra.proofs.OperatorLemmas.{filtered_moves, minus_moves}
use Rattle.fx_steps.specs.Fewer.{AreFewer, IsGone}
use Rattle.fx_steps.proofs.FewerLemmas.{fewer_laws}
use Rattle.fx_steps.proofs.GroupLemmas.{kept_term, none_stay, not_false, one_holds, split_rows}
use Rattle.fx_steps.proofs.PlanLemmas.{swap_fronts}
use Rattle.fx_steps.proofs.StepLemmas.{in_filter}
use Rattle.fx_steps.proofs.ValueLemmas.{AreBoundAlike, value_alike}
use Rattle.fx_evaluation.specs.GroupRows.{AreKnown}
use Rattle.fx_evaluation.specs.Known.{IsSaidBy, IsSaying}
use Rattle.fx_evaluation.proofs.KnownLemmas.{known_equal, said_is_so}

-- ---- lists

all_among : {X : Type 0} (P : X → Type 0) (xs : List X) → ((x : X) → Among x xs → P x) → AllByRecursion P xs
all_among P [] f = tt
all_among P (x ∷ xs) f = (f x (inl refl), all_among P xs (λ y m. f y (inr m)))

among_its : {X : Type 0} (P : X → Type 0) (xs : List X) → AllByRecursion P xs → (x : X) → Among x xs → P x
among_its P [] h x m = absurd m
among_its P (y ∷ ys) h x (inl e) = subst P e h.0
among_its P (y ∷ ys) h x (inr m) = among_its P ys h.1 x m

exchange : (vs ws xs ys : List Bindings) → IsPermutation ((vs ++ ws) ++ (xs ++ ys)) ((vs ++ xs) ++ (ws ++ ys))
exchange vs ws xs ys =
    subst (λ (v : List Bindings). IsPermutation v ((vs ++ xs) ++ (ws ++ ys))) (sym (append_assoc vs ws (xs ++ ys)))
    (subst (λ (v : List Bindings). IsPermutation (vs ++ (ws ++ (xs ++ ys))) v) (sym (append_assoc vs xs (ws ++ ys)))
    (IsPermutation-append vs vs (ws ++ (xs ++ ys)) (xs ++ (ws ++ ys)) (IsPermutation-refl vs) (swap_fronts ws xs ys)))

same_filter : (p q : Bindings → Bool) (xs : List Bindings) → ((x : Bindings) → Among x xs → p x ≡ q x) → filter p xs ≡ filter q xs
same_filter p q [] f = refl
same_filter p q (x ∷ xs) f = ap (λ (b : Bool). cond b (x ∷ filter p xs) (filter p xs)) (f x (inl refl)) ∙ ap (λ (v : List Bindings). cond (q x) (x ∷ v) v) (same_filter p q xs (λ y m. f y (inr m)))

or_false : (b c : Bool) → c ≡ false → (b || c) ≡ b
or_false true c e = refl
or_false false c e = e

none_any : (p : Bindings → Bool) (xs : List Bindings) → ((x : Bindings) → Among x xs → p x ≡ false) → list_any p xs ≡ false
none_any p [] f = refl
none_any p (x ∷ xs) f = ap (λ (b : Bool). b || list_any p xs) (f x (inl refl)) ∙ none_any p xs (λ y m. f y (inr m))

any_false : (p : Bindings → Bool) (xs : List Bindings) (x : Bindings) → list_any p xs ≡ false → Among x xs → p x ≡ false
any_false p [] x e m = absurd m
any_false p (y ∷ ys) x e m = by (p y) refl e m (any_false p ys x)
  where
    by : (b : Bool) → p y ≡ b → (b || list_any p ys) ≡ false → Among x (y ∷ ys) → (list_any p ys ≡ false → Among x ys → p x ≡ false) → p x ≡ false
    by true k h n more = absurd (cc)
    by false k h (inl same) more = ap p (sym same) ∙ k
    by false k h (inr n) more = more h n

-- ---- a row that is gone, as it is in fx_steps

abbrev IsBoundIn : Bindings → List ℕ → Type 0
IsBoundIn s name = IsTrue (is_some (term_of s name))

bound_alike : (r s : Bindings) → Extends r s → (names : List (List ℕ)) → AllByRecursion (IsBoundIn r) names → AreBoundAlike r s names
bound_alike r s x [] h = tt
bound_alike r s x (n ∷ ns) h = (kept_term r s n (term_of r n) x refl h.0, bound_alike r s x ns h.1)

bound_still : (r s : Bindings) (names : List (List ℕ)) → AreBoundAlike r s names → AllByRecursion (IsBoundIn r) names → AllByRecursion (IsBoundIn s) names
bound_still r s [] same h = tt
bound_still r s (n ∷ ns) same h = (ap is_some (sym same.0) ∙ h.0, bound_still r s ns same.1 h.1)

gone_grows : (conditions : List Expr) (r s : Bindings) → Extends r s → IsGone conditions r → IsGone conditions s
gone_grows conditions r s x h =
    let names = expr_names h.refusing in
    let before = recursion_from_All (IsBoundIn r) names h.bound in
    let same = bound_alike r s x names before in
    record {
      refusing = h.refusing;
      own = h.own;
      bound = All-from_recursion (IsBoundIn s) names (bound_still r s names same before);
      fails = ap (λ (v : Option Term). is_true (truth_of v)) (sym (value_alike r s h.refusing same)) ∙ h.fails;
    }

gone_fails : (conditions : List Expr) (s : Bindings) → IsGone conditions s → holds conditions s ≡ false
unfolding holds
gone_fails conditions s h = by (list_all (is_so s) conditions) refl
  where
    by : (b : Bool) → list_all (is_so s) conditions ≡ b → list_all (is_so s) conditions ≡ false
    by true e = let told : is_so s h.refusing ≡ true = one_holds conditions s h.refusing e (among_from conditions h.refusing h.own) in let no : is_so s h.refusing ≡ false = h.fails in absurd (cc)
    by false e = e

-- what both refuse the one refuses, or the others
gone_cases : (own outside : List Expr) (s : Bindings) → IsGone (own ++ outside) s → IsGone own s ⊎ IsGone outside s
gone_cases own outside s h = by (among_cases h.refusing own outside (among_from (own ++ outside) h.refusing h.own))
  where
    by : Among h.refusing own ⊎ Among h.refusing outside → IsGone own s ⊎ IsGone outside s
    by (inl m) = inl (record { refusing = h.refusing; own = contains_from own h.refusing m; bound = h.bound; fails = h.fails })
    by (inr m) = inr (record { refusing = h.refusing; own = contains_from outside h.refusing m; bound = h.bound; fails = h.fails })

-- ---- fewer rows on the right of a join, of filters, and one after the other

join_halves : (before xs ys : List Bindings) → IsPermutation (join before xs ++ join before ys) (join before (xs ++ ys))
join_halves [] xs ys = IsPermutation-refl []
join_halves (a ∷ before) xs ys =
    let both : merges (xs ++ ys) a ≡ merges xs a ++ merges ys a = ap (map (merge a)) (filter-append (agree a) xs ys) ∙ map-append (merge a) (filter (agree a) xs) (filter (agree a) ys) in
    subst (λ (v : List Bindings). IsPermutation (join (a ∷ before) xs ++ join (a ∷ before) ys) (v ++ join before (xs ++ ys))) (sym both)
    (IsPermutation-trans (join (a ∷ before) xs ++ join (a ∷ before) ys) ((merges xs a ++ merges ys a) ++ (join before xs ++ join before ys)) ((merges xs a ++ merges ys a) ++ join before (xs ++ ys))
    (exchange (merges xs a) (join before xs) (merges ys a) (join before ys))
    (IsPermutation-append (merges xs a ++ merges ys a) (merges xs a ++ merges ys a) (join before xs ++ join before ys) (join before (xs ++ ys)) (IsPermutation-refl (merges xs a ++ merges ys a)) (join_halves before xs ys)))

pub fewer_joined : (conditions : List Expr) (before found rows : List Bindings) → AreFewer conditions found rows → AreFewer conditions (join before found) (join before rows)
fewer_joined conditions before found rows h =
    let gone = join before h.gone in
    let each = recursion_from_All (IsGone conditions) h.gone h.are_gone in
    record {
      gone = gone;
      rows_are = IsPermutation-trans (join before found ++ gone) (join before (found ++ h.gone)) (join before rows) (join_halves before found h.gone) (same_join before before (found ++ h.gone) rows (IsPermutation-refl before) h.rows_are);
      are_gone =
          All-from_recursion (IsGone conditions) gone
          (all_among (IsGone conditions) gone
          (λ s m.
          let a = among_from_flat_map (merges h.gone) s before m in
          let b = among_from_map (merge a.0) s (filter (agree a.0) h.gone) a.2 in
          let k = in_filter (agree a.0) b.0 h.gone b.1 in
          subst (IsGone conditions) b.2 (gone_grows conditions b.0 (merge a.0 b.0) (merge_extends_right a.0 b.0 k.1) (among_its (IsGone conditions) h.gone each b.0 k.0))));
    }

-- fewer rows on its left
pub fewer_on_the_left : (conditions : List Expr) (found rows table : List Bindings) → AreFewer conditions found rows → AreFewer conditions (join found table) (join rows table)
fewer_on_the_left conditions found rows table h =
    let gone = join h.gone table in
    let each = recursion_from_All (IsGone conditions) h.gone h.are_gone in
    record {
      gone = gone;
      rows_are =
          subst (λ (v : List Bindings). IsPermutation v (join rows table)) (flat_map-append (merges table) found h.gone) (same_join (found ++ h.gone) rows table table h.rows_are (IsPermutation-refl table));
      are_gone =
          All-from_recursion (IsGone conditions) gone
          (all_among (IsGone conditions) gone
          (λ s m.
          let a = among_from_flat_map (merges table) s h.gone m in
          let b = among_from_map (merge a.0) s (filter (agree a.0) table) a.2 in
          subst (IsGone conditions) b.2 (gone_grows conditions a.0 (merge a.0 b.0) (merge_extends_left a.0 b.0) (among_its (IsGone conditions) h.gone each a.0 a.1))));
    }

pub fewer_appended : (conditions : List Expr) (found rows more others : List Bindings) → AreFewer conditions found rows → AreFewer conditions more others → AreFewer conditions (found ++ more) (rows ++ others)
fewer_appended conditions found rows more others h k = record {
  gone = h.gone ++ k.gone;
  rows_are =
      IsPermutation-trans ((found ++ more) ++ (h.gone ++ k.gone)) ((found ++ h.gone) ++ (more ++ k.gone)) (rows ++ others) (exchange found more h.gone k.gone)
      (IsPermutation-append (found ++ h.gone) rows (more ++ k.gone) others h.rows_are k.rows_are);
  are_gone = All-append (IsGone conditions) h.gone k.gone h.are_gone k.are_gone;
}

-- where its own filters are applied, what they refuse is gone, and the rest is refused outside
pub fewer_filtered : (own outside : List Expr) (found rows : List Bindings) → AreFewer (own ++ outside) found rows → AreFewer outside (filtered own found) (filtered own rows)
fewer_filtered own outside found rows h =
    let gone = filtered own h.gone in
    let each = recursion_from_All (IsGone (own ++ outside)) h.gone h.are_gone in
    record {
      gone = gone;
      rows_are = subst (λ (v : List Bindings). IsPermutation v (filtered own rows)) (filter-append (holds own) found h.gone) (filtered_moves own (found ++ h.gone) rows h.rows_are);
      are_gone =
          All-from_recursion (IsGone outside) gone
          (all_among (IsGone outside) gone
          (λ s m. let k = in_filter (holds own) s h.gone m in by s k.1 (gone_cases own outside s (among_its (IsGone (own ++ outside)) h.gone each s k.0))));
    }
  where
    by : (s : Bindings) → holds own s ≡ true → IsGone own s ⊎ IsGone outside s → IsGone outside s
    by s so (inl g) = let no : holds own s ≡ false = gone_fails own s g in absurd (cc)
    by s so (inr g) = g

-- ---- rows that agree with none

abbrev AreApart : List Bindings → List Bindings → Type 0
AreApart before gone = (a : Bindings) → Among a before → (b : Bindings) → Among b gone → agree a b ≡ false

merges_without : (a : Bindings) (found gone : List Bindings) → ((b : Bindings) → Among b gone → agree a b ≡ false) → merges (found ++ gone) a ≡ merges found a
merges_without a found gone f =
    ap (map (merge a)) (filter-append (agree a) found gone ∙ ap (λ (v : List Bindings). filter (agree a) found ++ v) (none_stay (agree a) gone f) ∙ append-nil (filter (agree a) found))

join_without : (before found gone : List Bindings) → AreApart before gone → join before (found ++ gone) ≡ join before found
join_without [] found gone f = refl
join_without (a ∷ before) found gone f =
    ap (λ (v : List Bindings). v ++ join before (found ++ gone)) (merges_without a found gone (f a (inl refl))) ∙ ap (λ (v : List Bindings). merges found a ++ v) (join_without before found gone (λ c m. f c (inr m)))

any_without : (h : Bindings → Bool) (a : Bindings) (found gone : List Bindings) → ((b : Bindings) → Among b gone → agree a b ≡ false) → list_any (λ b. agree a b && h b) (found ++ gone) ≡ list_any (λ b. agree a b && h b) found
any_without h a found gone f =
    let p : Bindings → Bool = λ b. agree a b && h b in
    list_any-append p found gone ∙ or_false (list_any p found) (list_any p gone) (none_any p gone (λ b m. ap (λ (c : Bool). c && h b) (f b m)))

minus_without : (before found gone : List Bindings) → AreApart before gone → minus before (found ++ gone) ≡ minus before found
unfolding stays
minus_without before found gone f = same_filter (stays (found ++ gone)) (stays found) before (λ a m. ap not (any_without (shares a) a found gone (f a m)))

left_join_without : (own : List Expr) (before found gone : List Bindings) → AreApart before gone → left_join before (found ++ gone) own ≡ left_join before found own
left_join_without own before found gone f =
    ap (λ (v : List Bindings). filtered own v ++ diff before (found ++ gone) own) (join_without before found gone f)
    ∙ ap (λ (v : List Bindings). filtered own (join before found) ++ v)
    (same_filter (λ a. not (list_any (λ b. agree a b && holds own (merge a b)) (found ++ gone))) (λ a. not (list_any (λ b. agree a b && holds own (merge a b)) found)) before
    (λ a m. ap not (any_without (λ b. holds own (merge a b)) a found gone (f a m))))

-- ---- what is known of the rows on the left

known_apart : (known : List Expr) (before found rows : List Bindings) → AreKnown known before → (h : AreFewer known found rows) → AreApart before h.gone
known_apart known before found rows k h a m b n =
    let each = recursion_from_All (IsGone known) h.gone h.are_gone in
    among_its (λ c. agree c b ≡ false) before (recursion_from_All (λ c. agree c b ≡ false) before (k.apart b (among_its (IsGone known) h.gone each b n))) a m

pub join_known : (known : List Expr) (before found rows : List Bindings) → AreKnown known before → AreFewer known found rows → IsPermutation (join before rows) (join before found)
join_known known before found rows k h =
    subst (λ (v : List Bindings). IsPermutation (join before rows) v) (join_without before found h.gone (known_apart known before found rows k h))
    (IsPermutation-sym (join before (found ++ h.gone)) (join before rows) (same_join before before (found ++ h.gone) rows (IsPermutation-refl before) h.rows_are))

pub minus_known : (known : List Expr) (before found rows : List Bindings) → AreKnown known before → AreFewer known found rows → IsPermutation (minus before rows) (minus before found)
minus_known known before found rows k h =
    subst (λ (v : List Bindings). IsPermutation (minus before rows) v) (minus_without before found h.gone (known_apart known before found rows k h))
    (IsPermutation-sym (minus before (found ++ h.gone)) (minus before rows) (minus_moves before before (found ++ h.gone) rows (IsPermutation-refl before) h.rows_are))

pub left_join_known : (own known : List Expr) (before found rows : List Bindings) → AreKnown known before → AreFewer (own ++ known) found rows → IsPermutation (left_join before rows own) (left_join before found own)
left_join_known own known before found rows k h =
    let meets : Bindings → Bool = λ b. list_any (λ a. agree a b) before in
    let near = filter meets h.gone in
    let far = filter (λ b. not (meets b)) h.gone in
    let each = recursion_from_All (IsGone (own ++ known)) h.gone h.are_gone in
    let parts : IsPermutation (far ++ near) h.gone = IsPermutation-trans (far ++ near) (near ++ far) h.gone (IsPermutation-append_comm far near) (IsPermutation-sym h.gone (near ++ far) (split_rows meets h.gone)) in
    let own_gone : AreFewer own (found ++ far) rows = record {
      gone = near;
      rows_are =
          subst (λ (v : List Bindings). IsPermutation v rows) (sym (append_assoc found far near))
          (IsPermutation-trans (found ++ (far ++ near)) (found ++ h.gone) rows (IsPermutation-append found found (far ++ near) h.gone (IsPermutation-refl found) parts) h.rows_are);
      are_gone =
          All-from_recursion (IsGone own) near
          (all_among (IsGone own) near (λ s m. let n = in_filter meets s h.gone m in by s n.1 (gone_cases own known s (among_its (IsGone (own ++ known)) h.gone each s n.0))));
    } in
    let apart : AreApart before far = λ a m b n. any_false (λ c. agree c b) before a (not_false (meets b) (in_filter (λ c. not (meets c)) b h.gone n).1) m in
    IsPermutation-sym (left_join before found own) (left_join before rows own)
    (subst (λ (v : List Bindings). IsPermutation v (left_join before rows own)) (left_join_without own before found far apart) (fewer_laws.on_the_right own before (found ++ far) rows own_gone))
  where
    by : (s : Bindings) → list_any (λ a. agree a s) before ≡ true → IsGone own s ⊎ IsGone known s → IsGone own s
    by s so (inl g) = g
    by s so (inr g) =
        let none : list_any (λ a. agree a s) before ≡ false = none_any (λ a. agree a s) before (among_its (λ a. agree a s ≡ false) before (recursion_from_All (λ a. agree a s ≡ false) before (k.apart s g))) in
        absurd (cc)

-- nothing is known of rows
pub nothing_known : (rows : List Bindings) → AreKnown [] rows
nothing_known rows = record { apart = λ s h. absurd (among_from [] h.refusing h.own) }

-- what a row says of its variables
said_apart : (row s : Bindings) (e : Expr) (name iri : List ℕ) → IsSaying e name iri → term_of row name ≡ Some (Iri iri) → is_some (term_of s name) ≡ true → is_so s e ≡ false → agree row s ≡ false
said_apart row s e name iri says bound here fails = by (agree row s) refl (term_of s name) refl here
  where
    by : (b : Bool) → agree row s ≡ b → (o : Option Term) → term_of s name ≡ o → is_some o ≡ true → agree row s ≡ false
    by false k o its some = k
    by true k None its some = absurd (cc)
    by true k (Some t) its some =
        let same : Iri iri ≡ t = agree_has row s name (Iri iri) t k bound its in
        let told : is_so s e ≡ true = said_is_so e name iri s says (its ∙ ap Some (sym same)) in
        absurd (cc)

pub said_known : (row : Bindings) (known : List Expr) → All (IsSaidBy row) known → AreKnown known (row ∷ [])
said_known row known all = record {
  apart = λ s h.
      let e = h.refusing in
      let told = among_its (IsSaidBy row) known (recursion_from_All (IsSaidBy row) known all) e (among_from known e h.own) in
      let names = (known_equal e (Variable told.name) (Constant (Iri told.iri)) told.name told.iri told.says refl refl).names in
      let bound = subst (λ (v : List (List ℕ)). AllByRecursion (IsBoundIn s) v) names (recursion_from_All (IsBoundIn s) (expr_names e) h.bound) in
      All-from_recursion (λ a. agree a s ≡ false) (row ∷ []) (said_apart row s e told.name told.iri told.says told.bound bound.0 h.fails, tt);
}

-- nothing is refused by no conditions
none_gone : (gone : List Bindings) → AllByRecursion (IsGone []) gone → gone ≡ []
none_gone [] h = refl
none_gone (s ∷ gone) h = absurd (among_from [] h.0.refusing h.0.own)

pub all_there : (found rows : List Bindings) → AreFewer [] found rows → IsPermutation rows found
all_there found rows h =
    let gone = none_gone h.gone (recursion_from_All (IsGone []) h.gone h.are_gone) in
    IsPermutation-sym found rows (subst (λ (v : List Bindings). IsPermutation v rows) (ap (λ (v : List Bindings). found ++ v) gone ∙ append-nil found) h.rows_are)
