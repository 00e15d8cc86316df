-- A pattern fits a graph exactly where its key does: the key's names tell the pattern's variables apart.
use Rattle.std.proofs.Common.{◌≡◌, ◌∙◌, ap, sym, subst, refl, ℕ, zero, suc, ◌+◌, ◌<◌, ◌≤◌, Bool, true, false, cond, ◌||◌, List, [], ◌∷◌, ◌++◌, length, get_or, arith, Option, Some, None, is_some, option_and_then}
use Rattle.std.specs.Prelude.{fold}
use Rattle.std.specs.List.{filter_map, list_any, cons_option}
use Rattle.std.specs.Ordering.{is_eq}
use Rattle.std.proofs.lemmas.Cmp.{tied_itself}
use Rattle.std.proofs.lemmas.List.{length-append}
use Rattle.std.proofs.lemmas.List.Folds.{list_any-append}
use Rattle.fx_terms.specs.Texts.{text_cmp, texts_total}
use Rattle.fx_terms.specs.declared.terms.Term.{Term}
use Rattle.fx_terms.specs.declared.triples.Triple.{Triple}
use Rattle.fx_terms.specs.declared.patterns.Pattern.{Pattern}
use Rattle.fx_terms.specs.declared.patterns.PatternTerm.{PatternTerm}
use Rattle.fx_terms.specs.declared.patterns.PatternTerm.TheVariants.{Variable, Constant}
use Rattle.fx_algebra.specs.Answers.{has_rows}
use Rattle.fx_algebra.specs.BasicGraphPatterns.{forced, parts_of, with_part, bound_to}
use Rattle.fx_algebra.specs.Scopes.{is_among, once, part_names, pattern_names, with_name}
use Rattle.fx_algebra.specs.Solutions.{Bindings, term_of, with_pair, same_term}
use Rattle.fx_algebra.proofs.BgpLemmas.{rows_from-bgp}
use Rattle.fx_algebra.proofs.ForcedLemmas.{name_from, with_pair_has}
use Rattle.fx_keys.specs.Keys.{name_among, numbered, place, renamed, renamed_part}
use Rattle.fx_algebra.specs.Units.{fits}
use Rattle.fx_sources.specs.Sources.{KeyFitsAlike}

same_bool : (a b : Bool) → (a ≡ true → b ≡ true) → (b ≡ true → a ≡ true) → a ≡ b
same_bool true b f g = sym (f refl)
same_bool false true f g = g refl
same_bool false false f g = refl

-- ---- a pattern fits where it forces a solution with some triple

some_row : (o : Option Bindings) (rest : List Bindings) (b : Bool) → has_rows (rest ++ []) ≡ b → has_rows (cons_option o rest ++ []) ≡ (is_some o || b)
some_row None rest b h = h
some_row (Some s) rest b h = refl

some_rows : (p : Pattern) (ts : List Triple) → has_rows (filter_map (λ t. forced [] (parts_of p t)) ts ++ []) ≡ list_any (λ t. is_some (forced [] (parts_of p t))) ts
some_rows p [] = refl
some_rows p (t ∷ ts) = some_row (forced [] (parts_of p t)) (filter_map (λ u. forced [] (parts_of p u)) ts) _ (some_rows p ts)

fits_some : (p : Pattern) (graph : List Triple) → fits p graph ≡ list_any (λ t. is_some (forced [] (parts_of p t))) graph
fits_some p graph = ap has_rows (sym (rows_from-bgp graph (p ∷ []))) ∙ some_rows p graph

any_same : (f g : Triple → Bool) → ((t : Triple) → f t ≡ g t) → (ts : List Triple) → list_any f ts ≡ list_any g ts
any_same f g same [] = refl
any_same f g same (t ∷ ts) = λ i. same t i || any_same f g same ts i

-- ---- other names that tell the names apart

module _ (f : List ℕ → List ℕ) (names : List (List ℕ)) where
  -- two of the names that become one are one
  record TellsApart : Type 0 where
    one : (a b : List ℕ) → is_among names a ≡ true → is_among names b ≡ true → f a ≡ f b → a ≡ b

  -- the second binds under the other names what the first binds
  record BindsAlike (s t : Bindings) : Type 0 where
    alike : (name : List ℕ) → is_among names name ≡ true → term_of t (f name) ≡ term_of s name

  IsNamed : PatternTerm → Type 0
  IsNamed (Variable name) = is_among names name ≡ true
  IsNamed (Constant term) = Unit {0}

  renamed_parts : List (PatternTerm × Term) → List (PatternTerm × Term)
  renamed_parts [] = []
  renamed_parts (c ∷ cs) = (renamed_part f c.0, c.1) ∷ renamed_parts cs

  AreNamed : List (PatternTerm × Term) → Type 0
  AreNamed [] = Unit {0}
  AreNamed (c ∷ cs) = IsNamed c.0 × AreNamed cs

  -- two outcomes that bind alike, or none
  AreAlike : Option Bindings → Option Bindings → Type 0
  AreAlike None None = Unit {0}
  AreAlike None (Some t) = ⊥
  AreAlike (Some s) None = ⊥
  AreAlike (Some s) (Some t) = BindsAlike s t

  module _ (apart : TellsApart) where
    same_test : (a b : List ℕ) → is_among names a ≡ true → is_among names b ≡ true → is_eq (text_cmp (f a) (f b)) ≡ is_eq (text_cmp a b)
    same_test a b m n =
        same_bool (is_eq (text_cmp (f a) (f b))) (is_eq (text_cmp a b))
        (λ e. ap (λ v. is_eq (text_cmp a v)) (sym (apart.one a b m n (name_from (f a) (f b) e))) ∙ ap is_eq (tied_itself texts_total a))
        (λ e. ap (λ v. is_eq (text_cmp (f a) (f v))) (sym (name_from a b e)) ∙ ap is_eq (tied_itself texts_total (f a)))

    with_both : (s t : Bindings) (name : List ℕ) (term : Term) → is_among names name ≡ true → BindsAlike s t → BindsAlike (with_pair s name term) (with_pair t (f name) term)
    with_both s t name term m h = record {
      alike = λ other n.
          with_pair_has t (f name) term (f other)
          ∙ (λ i. cond (same_test other name n m i) (Some term) (h.alike other n i))
          ∙ sym (with_pair_has s name term other);
    }

    if_alike : (s t : Bindings) (b : Bool) → BindsAlike s t → AreAlike (cond b (Some s) None) (cond b (Some t) None)
    unfolding AreAlike
    if_alike s t true h = h
    if_alike s t false h = tt

    bound_alike : (s t : Bindings) (name : List ℕ) (term : Term) (o : Option Term) → is_among names name ≡ true → BindsAlike s t → AreAlike (bound_to s name term o) (bound_to t (f name) term o)
    unfolding AreAlike
    bound_alike s t name term None m h = with_both s t name term m h
    bound_alike s t name term (Some other) m h = if_alike s t (same_term other term) h

    part_alike : (s t : Bindings) (part : PatternTerm) (term : Term) → IsNamed part → BindsAlike s t → AreAlike (with_part s part term) (with_part t (renamed_part f part) term)
    unfolding IsNamed
    part_alike s t (Constant constant) term m h = if_alike s t (same_term constant term) h
    part_alike s t (Variable name) term m h = subst (λ o. AreAlike (bound_to s name term (term_of s name)) (bound_to t (f name) term o)) (sym (h.alike name m)) (bound_alike s t name term (term_of s name) m h)

    then_alike : (o p : Option Bindings) (cs : List (PatternTerm × Term)) → AreAlike o p → ((s t : Bindings) → BindsAlike s t → is_some (forced t (renamed_parts cs)) ≡ is_some (forced s cs))
        → is_some (option_and_then (λ r. forced r (renamed_parts cs)) p) ≡ is_some (option_and_then (λ r. forced r cs) o)
    unfolding AreAlike
    then_alike None None cs h rest = refl
    then_alike None (Some t) cs h rest = absurd h
    then_alike (Some s) None cs h rest = absurd h
    then_alike (Some s) (Some t) cs h rest = rest s t h

    forced_alike : (cs : List (PatternTerm × Term)) → AreNamed cs → (s t : Bindings) → BindsAlike s t → is_some (forced t (renamed_parts cs)) ≡ is_some (forced s cs)
    unfolding AreNamed renamed_parts
    forced_alike [] n s t h = refl
    forced_alike (c ∷ cs) n s t h = then_alike (with_part s c.0 c.1) (with_part t (renamed_part f c.0) c.1) cs (part_alike s t c.0 c.1 n.0 h) (forced_alike cs n.1)

    nothing_alike : BindsAlike [] []
    nothing_alike = record { alike = λ name m. refl }

    triple_alike : (p : Pattern) (t : Triple) → IsNamed p.subject → IsNamed p.predicate → IsNamed p.object → is_some (forced [] (parts_of (renamed f p) t)) ≡ is_some (forced [] (parts_of p t))
    unfolding AreNamed renamed_parts
    triple_alike p t a b c = forced_alike (parts_of p t) (a, (b, (c, tt))) [] [] nothing_alike

    renamed_fits : (p : Pattern) (graph : List Triple) → IsNamed p.subject → IsNamed p.predicate → IsNamed p.object → fits (renamed f p) graph ≡ fits p graph
    renamed_fits p graph a b c =
        fits_some (renamed f p) graph
        ∙ any_same (λ t. is_some (forced [] (parts_of (renamed f p) t))) (λ t. is_some (forced [] (parts_of p t))) (λ t. triple_alike p t a b c) graph
        ∙ sym (fits_some p graph)

-- ---- the names of a key

or_left : (a b : Bool) → a ≡ true → (a || b) ≡ true
or_left true b h = refl
or_left false b h = cc

or_right : (a b : Bool) → b ≡ true → (a || b) ≡ true
or_right true b h = refl
or_right false b h = h

among_left : (xs ys : List (List ℕ)) (name : List ℕ) → is_among xs name ≡ true → is_among (xs ++ ys) name ≡ true
among_left xs ys name h = list_any-append (λ n. is_eq (text_cmp n name)) xs ys ∙ or_left (is_among xs name) (is_among ys name) h

among_right : (xs ys : List (List ℕ)) (name : List ℕ) → is_among ys name ≡ true → is_among (xs ++ ys) name ≡ true
among_right xs ys name h = list_any-append (λ n. is_eq (text_cmp n name)) xs ys ∙ or_right (is_among xs name) (is_among ys name) h

itself : (n : List ℕ) (ns : List (List ℕ)) → is_among (n ∷ ns) n ≡ true
itself n ns = ap (λ o. is_eq o || is_among ns n) (tied_itself texts_total n)

-- a name stays when others are added
stays_with : (names : List (List ℕ)) (n name : List ℕ) (b : Bool) → is_among names name ≡ true → is_among (cond b names (names ++ n ∷ [])) name ≡ true
stays_with names n name true h = h
stays_with names n name false h = among_left names (n ∷ []) name h

stays : (all names : List (List ℕ)) (name : List ℕ) → is_among names name ≡ true → is_among (fold with_name names all) name ≡ true
unfolding with_name
stays [] names name h = h
stays (n ∷ ns) names name h = stays ns (cond (is_among names n) names (names ++ n ∷ [])) name (stays_with names n name (is_among names n) h)

-- a name that is added is there
is_there : (names : List (List ℕ)) (n : List ℕ) (b : Bool) → is_among names n ≡ b → is_among (cond b names (names ++ n ∷ [])) n ≡ true
is_there names n true e = e
is_there names n false e = among_right names (n ∷ []) n (itself n [])

is_added_at : (ns names : List (List ℕ)) (n name : List ℕ) (b : Bool) → is_eq (text_cmp n name) ≡ b → (b || is_among ns name) ≡ true → (is_among ns name ≡ true → is_among (fold with_name (with_name names n) ns) name ≡ true) → is_among (fold with_name (with_name names n) ns) name ≡ true
unfolding with_name
is_added_at ns names n name true e h rest = stays ns (cond (is_among names n) names (names ++ n ∷ [])) name (ap (is_among (cond (is_among names n) names (names ++ n ∷ []))) (sym (name_from n name e)) ∙ is_there names n (is_among names n) refl)
is_added_at ns names n name false e h rest = rest h

is_added : (all names : List (List ℕ)) (name : List ℕ) → is_among all name ≡ true → is_among (fold with_name names all) name ≡ true
is_added [] names name h = cc
is_added (n ∷ ns) names name h = is_added_at ns names n name (is_eq (text_cmp n name)) refl h (is_added ns (with_name names n) name)

is_in_once : (all : List (List ℕ)) (name : List ℕ) → is_among all name ≡ true → is_among (once all) name ≡ true
is_in_once all name h = is_added all [] name h

-- there are no more names than were given
longer : (names : List (List ℕ)) (n : List ℕ) (b : Bool) → length (cond b names (names ++ n ∷ [])) ≤ length names + 1
longer names n true = omega arith
longer names n false = omega (arith, length-append names (n ∷ []))

no_more : (all names : List (List ℕ)) → length (fold with_name names all) ≤ length names + length all
unfolding with_name
no_more [] names = omega arith
no_more (n ∷ ns) names = let next = no_more ns (cond (is_among names n) names (names ++ n ∷ [])) in let one = longer names n (is_among names n) in omega arith

part_short : (part : PatternTerm) → length (part_names part) ≤ 1
part_short (Variable name) = omega arith
part_short (Constant term) = omega arith

three_at_most : (p : Pattern) → length (once (pattern_names p)) ≤ 3
three_at_most p =
    let all = no_more (pattern_names p) [] in
    let s = part_short p.subject in
    let r = part_short p.predicate in
    let o = part_short p.object in
    omega (arith, length-append (part_names p.subject) (part_names p.predicate ++ part_names p.object), length-append (part_names p.predicate) (part_names p.object))

-- a name among the names has a place
place_below_at : (ns : List (List ℕ)) (name : List ℕ) (b : Bool) → (b || is_among ns name) ≡ true → (is_among ns name ≡ true → place ns name < length ns) → cond b 0 (suc (place ns name)) < suc (length ns)
place_below_at ns name true h rest = omega arith
place_below_at ns name false h rest = let r = rest h in omega arith

place_below : (names : List (List ℕ)) (name : List ℕ) → is_among names name ≡ true → place names name < length names
place_below [] name h = cc
place_below (n ∷ ns) name h = place_below_at ns name (is_eq (text_cmp n name)) h (place_below ns name)

-- and names with one place are one
one_place_at : (ns : List (List ℕ)) (n a b : List ℕ) (u v : Bool) → is_eq (text_cmp n a) ≡ u → is_eq (text_cmp n b) ≡ v → (u || is_among ns a) ≡ true → (v || is_among ns b) ≡ true
    → cond u 0 (suc (place ns a)) ≡ cond v 0 (suc (place ns b)) → (is_among ns a ≡ true → is_among ns b ≡ true → place ns a ≡ place ns b → a ≡ b) → a ≡ b
one_place_at ns n a b true true d e h k same rest = sym (name_from n a d) ∙ name_from n b e
one_place_at ns n a b true false d e h k same rest = absurd (omega arith)
one_place_at ns n a b false true d e h k same rest = absurd (omega arith)
one_place_at ns n a b false false d e h k same rest = rest h k (omega arith)

one_place : (names : List (List ℕ)) (a b : List ℕ) → is_among names a ≡ true → is_among names b ≡ true → place names a ≡ place names b → a ≡ b
one_place [] a b h k same = cc
one_place (n ∷ ns) a b h k same = one_place_at ns n a b (is_eq (text_cmp n a)) (is_eq (text_cmp n b)) refl refl h k same (one_place ns a b)

-- the numbers' names differ
digit : List ℕ → ℕ
digit text = get_or text 1 0

one_number : (i j : ℕ) → i < 3 → j < 3 → numbered i ≡ numbered j → i ≡ j
unfolding digit
one_number zero zero h k e = refl
one_number zero (suc zero) h k e = let d = ap digit e in absurd (omega arith)
one_number zero (suc (suc j)) h k e = let d = ap digit e in absurd (omega arith)
one_number (suc zero) zero h k e = let d = ap digit e in absurd (omega arith)
one_number (suc zero) (suc zero) h k e = refl
one_number (suc zero) (suc (suc j)) h k e = let d = ap digit e in absurd (omega arith)
one_number (suc (suc i)) zero h k e = let d = ap digit e in absurd (omega arith)
one_number (suc (suc i)) (suc zero) h k e = let d = ap digit e in absurd (omega arith)
one_number (suc (suc i)) (suc (suc j)) h k e = omega arith

names_tell : (names : List (List ℕ)) → length names ≤ 3 → TellsApart (name_among names) names
names_tell names few = record {
  one = λ a b m n e.
      let i = place_below names a m in
      let j = place_below names b n in
      one_place names a b m n (one_number (place names a) (place names b) (omega arith) (omega arith) e);
}

part_is_named : (names : List (List ℕ)) (part : PatternTerm) → ((name : List ℕ) → is_among (part_names part) name ≡ true → is_among names name ≡ true) → IsNamed (name_among names) names part
unfolding IsNamed
part_is_named names (Variable name) h = h name (itself name [])
part_is_named names (Constant term) h = tt

-- a pattern fits exactly where its key does
pub key_fits : KeyFitsAlike
key_fits p graph =
    let all = pattern_names p in
    let names = once all in
    renamed_fits (name_among names) names (names_tell names (three_at_most p)) p graph
    (part_is_named names p.subject (λ name h. is_in_once all name (among_left (part_names p.subject) (part_names p.predicate ++ part_names p.object) name h)))
    (part_is_named names p.predicate (λ name h. is_in_once all name (among_right (part_names p.subject) (part_names p.predicate ++ part_names p.object) name (among_left (part_names p.predicate) (part_names p.object) name h))))
    (part_is_named names p.object (λ name h. is_in_once all name (among_right (part_names p.subject) (part_names p.predicate ++ part_names p.object) name (among_right (part_names p.predicate) (part_names p.object) name h))))
