-- What a batch is made with holds of it, and its text is accepted.
use Rattle.std.proofs.Common.{◌≡◌, ◌∙◌, ap, sym, subst, refl, ℕ, ◌<◌, ◌≤◌, ◌^◌, List, [], ◌∷◌, ◌++◌, map, length, Option, Some, append_assoc}
use Rattle.std.specs.Prelude.{All, codes}
use Rattle.std.specs.List.{AllByRecursion, flat_map}
use Rattle.std.proofs.lemmas.List.Concat.{flat_map-append}
use Rattle.std.proofs.lemmas.List.Elements.{All-from_recursion, recursion_from_All}
use Rattle.fx_algebra.specs.Printed.{Word, fixed, variable, joined, printed_query, row_words, spaced, spelling}
use Rattle.fx_algebra.specs.declared.units.Row.{Row}
use Rattle.fx_algebra.specs.declared.units.Unit as unit
use Rattle.fx_grammar.specs.Accepted.{Accepted}
use Rattle.fx_spelling.specs.Units.{IsFit}
use Rattle.fx_founds.specs.Uniting.{Place, branches}
use Rattle.fx_values.specs.Parts.{AreKnown, IsKnown, IsMade, IsValues, Parts, columns_by, place_by, printed_by, printed_words, query_of, text_of}
use Rattle.fx_values.specs.Sent as sent
use Rattle.fx_values.specs.Texts.{HasTerms, unit_words, values_words}
use Rattle.fx_values.specs.Values as values
use Rattle.fx_values.specs.Values.{named, number_name, renamed, unit_names, values_query}
use Rattle.fx_values.specs.declared.columns.Columns.{Columns}
use Rattle.fx_values.proofs.AcceptLemmas.{values_have_the_words, values_is_accepted}

-- ---- words, one list after another

both_spaced : (xs ys : List Word) → spaced (xs ++ ys) ≡ spaced xs ++ spaced ys
both_spaced xs ys = flat_map-append (λ (word : Word). 32 ∷ spelling word) xs ys

pub one_more : (start before : List ℕ) (xs ys : List Word) → before ≡ start ++ spaced xs → before ++ spaced ys ≡ start ++ spaced (xs ++ ys)
one_more start before xs ys e =
    ap (λ (v : List ℕ). v ++ spaced ys) e ∙ append_assoc start (spaced xs) (spaced ys) ∙ ap (λ (v : List ℕ). start ++ v) (sym (both_spaced xs ys))

pub four : (start a b c : List ℕ) (xs ys zs ws : List Word) → a ≡ start ++ spaced xs → b ≡ a ++ spaced ys → c ≡ b ++ spaced zs → c ++ spaced ws ≡ start ++ spaced (xs ++ (ys ++ (zs ++ ws)))
four start a b c xs ys zs ws e f g =
    one_more b c zs ws g
    ∙ one_more a b ys (zs ++ ws) f
    ∙ one_more start a xs (ys ++ (zs ++ ws)) e

-- ---- the words of a block are those of its query

others_are : (rename : List ℕ → List ℕ) (names : List (List ℕ)) → sent.others (map (λ n. (rename n, n)) names) ≡ map rename names
others_are rename [] = refl
others_are rename (n ∷ ns) = ap (λ (v : List (List ℕ)). rename n ∷ v) (others_are rename ns)

pub all_columns_are : (u : unit.Unit) → sent.all (columns_by (renamed u) (unit_names u)) ≡ values.columns u
all_columns_are u = ap (λ (v : List (List ℕ)). number_name ∷ v) (others_are (renamed u) (unit_names u))

rows_are : (u : unit.Unit) (rows : List (ℕ × Row)) → sent.rows_words (unit_names u) rows ≡ flat_map row_words (map (values.cells u) (map place_by rows))
rows_are u [] = refl
rows_are u (r ∷ rows) = ap (λ (v : List Word). row_words (values.cells u (place_by r)) ++ v) (rows_are u rows)

words_are : (u : unit.Unit) (rows : List (ℕ × Row)) → sent.all_words u (unit_names u) (columns_by (renamed u) (unit_names u)) rows ≡ values_words u (map place_by rows)
words_are u rows =
    let columns = all_columns_are u in
    let behind = λ (cs : List (List ℕ)) (ws : List Word). (fixed (codes "(") ∷ (map (λ n. variable n) cs ++ fixed (codes ")") ∷ [])) ++ (fixed (codes "{") ∷ (ws ++ fixed (codes "}") ∷ [])) in
    (λ i. (fixed (codes "SELECT") ∷ (map (λ n. variable n) (columns i) ++ fixed (codes "WHERE") ∷ fixed (codes "{") ∷ fixed (codes "VALUES") ∷ [])) ++ (behind (columns i) (rows_are u rows i) ++ (unit_words (unit_names u) u ++ fixed (codes "}") ∷ [])))
    ∙ ap (λ (v : List Word). fixed (codes "SELECT") ∷ v)
    (append_assoc (map (λ n. variable n) (values.columns u)) (fixed (codes "WHERE") ∷ fixed (codes "{") ∷ fixed (codes "VALUES") ∷ [])
    (behind (values.columns u) (flat_map row_words (map (values.cells u) (map place_by rows))) ++ (unit_words (unit_names u) u ++ fixed (codes "}") ∷ [])))

text_is : (u : unit.Unit) (rows : List (ℕ × Row)) → printed_words (sent.all_words u (unit_names u) (columns_by (renamed u) (unit_names u)) rows) rows ≡ text_of (record { unit = u; places = map place_by rows })
text_is u [] = refl
text_is u (r ∷ rows) = ap (λ (v : List Word). Some (joined v)) (words_are u (r ∷ rows) ∙ sym (values_have_the_words u (map place_by (r ∷ rows))))

-- ---- a batch

pub made : (u v : unit.Unit) (rows : List Row) (names kept : List (List ℕ)) (columns : Columns) (asked asked_too : List (ℕ × Row)) (text : Option (List ℕ))
    → IsFit u → length rows ≤ 64 → AreKnown rows → names ≡ unit_names u → length names < 2 ^ 64 → columns ≡ columns_by (named names) names
    → map place_by asked ≡ branches u rows → asked_too ≡ asked → text ≡ printed_words (sent.all_words u names columns asked_too) asked_too → kept ≡ names → v ≡ u
    → IsMade (record { unit = v; places = map place_by asked }) kept columns text
made u v rows names kept columns asked asked_too text fit few known is short cols there same t listed copied =
    subst (λ (w : unit.Unit). IsMade (record { unit = w; places = map place_by asked }) kept columns text) (sym copied)
    (record {
      known = record { fit = fit; named = subst (λ (ns : List (List ℕ)). length ns < 2 ^ 64) is short; rows = rows; few = few; known = known; asked = there };
      names_are = listed ∙ is;
      columns_are = cols_are;
      text_is =
          t
          ∙ ap (λ (rs : List (ℕ × Row)). printed_words (sent.all_words u names columns rs) rs) same
          ∙ (λ i. printed_words (sent.all_words u (is i) (cols_are i) asked) asked)
          ∙ text_is u asked;
    })
  where
    cols_are : columns ≡ columns_by (renamed u) (unit_names u)
    cols_are = cols ∙ ap (λ (ns : List (List ℕ)). columns_by (named ns) ns) is

terms_known : (rows : List Row) → AllByRecursion (λ r. IsKnown r.solution) rows → AllByRecursion (λ r. HasTerms r.solution) rows
terms_known [] h = tt
terms_known (r ∷ rows) h = (h.0.terms, terms_known rows h.1)

one_text : (x y : List ℕ) → Some x ≡ Some y → x ≡ y
one_text x y e = cc

its_text : (u : unit.Unit) (bs : List Place) (text : List ℕ) → Some text ≡ printed_by (values_query u bs) bs → text ≡ printed_query (values_query u bs)
its_text u [] text e = absurd (cc)
its_text u (b ∷ bs) text e = one_text text (printed_query (values_query u (b ∷ bs))) e

pub text_accepted : (p : Parts) (text : List ℕ) → IsValues p → Some text ≡ text_of p → Accepted text (query_of p)
text_accepted p text known e =
    subst (λ (t : List ℕ). Accepted t (query_of p)) (sym (its_text p.unit p.places text e)) (subst (λ (bs : List Place). Accepted (printed_query (values_query p.unit bs)) (values_query p.unit bs)) (sym known.asked) whole)
  where
    terms : All (λ (r : Row). HasTerms r.solution) known.rows
    terms = All-from_recursion (λ (r : Row). HasTerms r.solution) known.rows (terms_known known.rows (recursion_from_All (λ (r : Row). IsKnown r.solution) known.rows known.known))

    whole : Accepted (printed_query (values_query p.unit (branches p.unit known.rows))) (values_query p.unit (branches p.unit known.rows))
    whole = values_is_accepted p.unit known.rows known.fit terms known.few known.named

-- what stands before the block
pub head : (start a b c d : List ℕ) (cs : List Word) → a ≡ start ++ spaced (fixed (codes "SELECT") ∷ []) → b ≡ a ++ spaced cs → c ≡ b ++ spaced (fixed (codes "WHERE") ∷ []) → d ≡ c ++ spaced (fixed (codes "{") ∷ [])
    → d ++ spaced (fixed (codes "VALUES") ∷ []) ≡ start ++ spaced (fixed (codes "SELECT") ∷ (cs ++ fixed (codes "WHERE") ∷ fixed (codes "{") ∷ fixed (codes "VALUES") ∷ []))
head start a b c d cs e f g h =
    one_more c d (fixed (codes "{") ∷ []) (fixed (codes "VALUES") ∷ []) h
    ∙ one_more b c (fixed (codes "WHERE") ∷ []) (fixed (codes "{") ∷ fixed (codes "VALUES") ∷ []) g
    ∙ one_more a b cs (fixed (codes "WHERE") ∷ fixed (codes "{") ∷ fixed (codes "VALUES") ∷ []) f
    ∙ one_more start a (fixed (codes "SELECT") ∷ []) (cs ++ fixed (codes "WHERE") ∷ fixed (codes "{") ∷ fixed (codes "VALUES") ∷ []) e
