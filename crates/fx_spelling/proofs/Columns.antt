-- The columns of a printed query.
use Rattle.std.proofs.Common.{◌≡◌, ℕ, Bool, true, false, cond, List, [], ◌∷◌, ◌++◌, map, Option, Some, None, refl, sym, ap, ◌∙◌, subst, inl, inr}
use Rattle.std.specs.Prelude.{fold}
use Rattle.std.specs.List.{flat_map, list_all}
use Rattle.fx_terms.specs.Names.{IsName}
use Rattle.fx_algebra.specs.Printed.{variable, column_words}
use Rattle.fx_algebra.specs.Scopes.{is_among, with_name, once, scope}
use Rattle.fx_algebra.specs.declared.queries.Group.{Group}
use Rattle.fx_algebra.specs.declared.queries.Inline.{Inline}
use Rattle.fx_grammar.specs.Grammar as grammar
use Rattle.fx_spelling.specs.Printable.{AreFine, AreNames, said}
use Rattle.fx_grammar.specs.declared.kinds.Kind.TheVariants as k
use Rattle.fx_grammar.specs.declared.kinds.Token.{Token}
use Rattle.fx_grammar.specs.declared.kinds.Token.TheVariants as token
use Rattle.fx_spelling.proofs.Spelling.{mark_said, many_said}
use Rattle.fx_spelling.proofs.Placing.{is_calm}

-- ---- each name once

-- a list of names that with_name made is made of it again
kept_name : (names : List (List ℕ)) (name : List ℕ) → once names ≡ names → once (with_name names name) ≡ with_name names name
unfolding with_name
kept_name names name h = go (is_among names name) refl
  where
    last : (start xs : List (List ℕ)) → fold with_name start (xs ++ name ∷ []) ≡ with_name (fold with_name start xs) name
    last start [] = refl
    last start (x ∷ xs) = last (with_name start x) xs

    go : (b : Bool) → is_among names name ≡ b → once (cond b names (names ++ name ∷ [])) ≡ cond b names (names ++ name ∷ [])
    go true e = h
    go false e = last [] names ∙ ap (λ (v : List (List ℕ)). with_name v name) h ∙ ap (λ (b : Bool). cond b names (names ++ name ∷ [])) e

kept_names : (front names : List (List ℕ)) → once front ≡ front → once (fold with_name front names) ≡ fold with_name front names
kept_names front [] h = h
kept_names front (n ∷ names) h = kept_names (with_name front n) names (kept_name front n h)

pub once_once : (names : List (List ℕ)) → once (once names) ≡ once names
once_once names = kept_names [] names refl

pub names_both : (xs ys : List (List ℕ)) → AreNames xs → AreNames ys → AreNames (xs ++ ys)
names_both [] ys h g = g
names_both (x ∷ xs) ys h g = (h.0, names_both xs ys h.1 g)

one_more_name : (names : List (List ℕ)) (name : List ℕ) → AreNames names → IsName name → AreNames (with_name names name)
unfolding with_name
one_more_name names name h g = go (is_among names name)
  where
    go : (b : Bool) → AreNames (cond b names (names ++ name ∷ []))
    go true = h
    go false = names_both names (name ∷ []) h (g, tt)

all_names : (front names : List (List ℕ)) → AreNames front → AreNames names → AreNames (fold with_name front names)
all_names front [] h g = h
all_names front (n ∷ names) h g = all_names (with_name front n) names (one_more_name front n h g.0) g.1

pub once_names : (names : List (List ℕ)) → AreNames names → AreNames (once names)
once_names names h = all_names [] names tt h

-- ---- as words and tokens

pub fine_names : (names : List (List ℕ)) → AreNames names → AreFine (map (λ n. variable n) names)
fine_names [] h = tt
fine_names (n ∷ names) h = (h.0, fine_names names h.1)

pub names_said : (names : List (List ℕ)) → said (map (λ n. variable n) names) ≡ flat_map (λ n. token.Variable n ∷ []) names
names_said [] = refl
names_said (n ∷ names) = ap (λ (v : List Token). token.Variable n ∷ v) (names_said names)

pub calm_names : (names : List (List ℕ)) → list_all is_calm (said (map (λ n. variable n) names)) ≡ true
calm_names [] = refl
calm_names (n ∷ names) = calm_names names

pub fine_columns : (names : List (List ℕ)) → AreNames names → AreFine (column_words names)
fine_columns [] h = (inl refl, tt)
fine_columns (n ∷ names) h = fine_names (n ∷ names) h

pub calm_columns : (names : List (List ℕ)) → list_all is_calm (said (column_words names)) ≡ true
calm_columns [] = refl
calm_columns (n ∷ names) = calm_names (n ∷ names)

-- the columns that are named, or all
abbrev pub named : List (List ℕ) → Option (List (List ℕ))
named [] = None
named (n ∷ names) = Some (n ∷ names)

column_said : (name : List ℕ) → grammar.column.spells (token.Variable name ∷ []) name
unfolding grammar.column grammar.variable
column_said name = inl (token.Variable name, refl, refl, refl)

pub selected_said : (names : List (List ℕ)) → grammar.selected.spells (said (column_words names)) (named names)
unfolding grammar.selected
selected_said [] = inl (tt, mark_said k.Star, refl)
selected_said (n ∷ names) =
    subst (λ (v : List Token). grammar.selected.spells (token.Variable n ∷ v) (Some (n ∷ names))) (sym (names_said names))
    (inr (n ∷ names, ((n, names), (token.Variable n ∷ [], flat_map (λ n. token.Variable n ∷ []) names, refl, column_said n, many_said grammar.column (λ n. token.Variable n ∷ []) names column_said), refl), refl))

-- the columns that are read of them
pub columns_read : (names : List (List ℕ)) (g : Group) (inline : Option Inline) → once names ≡ names → (names ≡ [] → once (scope g ++ grammar.inline_columns inline) ≡ []) → grammar.columns_of (named names) g inline ≡ names
columns_read [] g inline h none = none refl
columns_read (n ∷ names) g inline h none = h
