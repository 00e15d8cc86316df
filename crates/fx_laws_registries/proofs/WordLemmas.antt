-- The words of a line.
use Rattle.std.proofs.Common.{◌≡◌, ◌∙◌, ap, sym, subst, refl, ℕ, ◌<◌, Bool, true, false, not, cond, ◌&&◌, ◌||◌, List, [], ◌∷◌, ◌++◌, filter, length, arith}
use Rattle.std.specs.List.{list_all, list_any, onto_first, slice_split}
use Rattle.std.proofs.lemmas.Bool.{ne_eqb}
use Rattle.fx_terms.specs.Blanks.{is_blank}
use Rattle.fx_sources.specs.Lines.{is_word, words}
use Rattle.fx_laws_registries.specs.Lines.{AreBlanks, EndsWord, IsOfWords, IsWord, WordsStandBetweenBlanks}

and_both : (b c : Bool) → (b && c) ≡ true → (b ≡ true) × (c ≡ true)
and_both true c e = (refl, e)
and_both false c e = absurd (cc)

or_both : (b c : Bool) → (b || c) ≡ false → (b ≡ false) × (c ≡ false)
or_both true c e = absurd (cc)
or_both false c e = (refl, e)

-- ---- from words to what is read

skipped : (b : ℕ) (line : List ℕ) → is_blank b ≡ true → words (b ∷ line) ≡ words line
skipped b line h = ap (λ (x : Bool). filter is_word (cond x ([] ∷ slice_split is_blank line) (onto_first b (slice_split is_blank line)))) h

blanks_skipped : (gap line : List ℕ) → AreBlanks gap → words (gap ++ line) ≡ words line
blanks_skipped [] line h = refl
blanks_skipped (b ∷ bs) line h = let t = and_both (is_blank b) (list_all is_blank bs) h in skipped b (bs ++ line) t.0 ∙ blanks_skipped bs line t.1

-- the parts behind a word
abbrev behind : List ℕ → List (List ℕ)
behind [] = []
behind (b ∷ rest) = slice_split is_blank rest

word_first : (word rest : List ℕ) → list_any is_blank word ≡ false → EndsWord rest → slice_split is_blank (word ++ rest) ≡ word ∷ behind rest
word_first [] [] h e = refl
word_first [] (b ∷ rest) h e = ap (λ (x : Bool). cond x ([] ∷ slice_split is_blank rest) (onto_first b (slice_split is_blank rest))) e
word_first (c ∷ cs) rest h e =
    let t = or_both (is_blank c) (list_any is_blank cs) h in
    ap (λ (x : Bool). cond x ([] ∷ slice_split is_blank (cs ++ rest)) (onto_first c (slice_split is_blank (cs ++ rest)))) t.0
    ∙ ap (onto_first c) (word_first cs rest t.1 e)

words_behind : (rest : List ℕ) → EndsWord rest → filter is_word (behind rest) ≡ words rest
words_behind [] e = refl
words_behind (b ∷ rest) e = sym (skipped b rest e)

is_filled : (word : List ℕ) → 0 < length word → is_word word ≡ true
is_filled word h = ap not (ne_eqb (length word) 0 (λ e. omega (arith, h, e)))

word_taken : (word rest : List ℕ) → IsWord word → EndsWord rest → words (word ++ rest) ≡ word ∷ words rest
word_taken word rest w e =
    ap (filter is_word) (word_first word rest w.1 e)
    ∙ (ap (λ (b : Bool). cond b (word ∷ filter is_word (behind rest)) (filter is_word (behind rest))) (is_filled word w.0)
    ∙ ap (λ (v : List (List ℕ)). word ∷ v) (words_behind rest e))

append_none : (xs : List ℕ) → xs ≡ xs ++ []
append_none [] = refl
append_none (x ∷ xs) = ap (λ (v : List ℕ). x ∷ v) (append_none xs)

pub words_are : (those : List (List ℕ)) (line : List ℕ) → IsOfWords those line → words line ≡ those
words_are [] line h = ap words (append_none line) ∙ blanks_skipped line [] h
words_are (word ∷ others) line h =
    ap words h.2
    ∙ (blanks_skipped h.0 (word ++ h.1) h.3
    ∙ (word_taken word h.1 h.4 h.5 ∙ ap (λ (v : List (List ℕ)). word ∷ v) (words_are others h.1 h.6)))

-- ---- each line is of words

blanks_end : (gap : List ℕ) → AreBlanks gap → EndsWord gap
blanks_end [] h = tt
blanks_end (b ∷ bs) h = (and_both (is_blank b) (list_all is_blank bs) h).0

one_byte : (b : ℕ) → is_blank b ≡ false → IsWord (b ∷ [])
one_byte b h = (omega arith, ap (λ (x : Bool). x || false) h)

with_blank : (b : ℕ) (line : List ℕ) (those : List (List ℕ)) → is_blank b ≡ true → IsOfWords those line → IsOfWords those (b ∷ line)
with_blank b line [] h k = ap (λ (x : Bool). x && list_all is_blank line) h ∙ k
with_blank b line (word ∷ others) h k = (b ∷ k.0, k.1, ap (λ (v : List ℕ). b ∷ v) k.2, ap (λ (x : Bool). x && list_all is_blank k.0) h ∙ k.3, k.4, k.5, k.6)

with_byte : (b : ℕ) (line : List ℕ) (those : List (List ℕ)) → is_blank b ≡ false → IsOfWords those line → (more : List (List ℕ)) × IsOfWords more (b ∷ line)
with_byte b line [] h k = ((b ∷ []) ∷ [], ([], line, refl, refl, one_byte b h, blanks_end line k, k))
with_byte b line (word ∷ others) h k = by k.0 k.2 k.3
  where
    by : (gap : List ℕ) → line ≡ gap ++ (word ++ k.1) → AreBlanks gap → (more : List (List ℕ)) × IsOfWords more (b ∷ line)
    by [] e g = (
      (b ∷ word) ∷ others,
      ([], k.1, ap (λ (v : List ℕ). b ∷ v) e, refl, (omega arith, ap (λ (x : Bool). x || list_any is_blank word) h ∙ k.4.1), k.5, k.6),
    )
    by (g ∷ gs) e a = (
      (b ∷ []) ∷ word ∷ others,
      ([], line, refl, refl, one_byte b h, subst EndsWord (sym e) (and_both (is_blank g) (list_all is_blank gs) a).0, (g ∷ gs, k.1, e, a, k.4, k.5, k.6)),
    )

some_words : (line : List ℕ) → (those : List (List ℕ)) × IsOfWords those line
some_words [] = ([], refl)
some_words (b ∷ line) = by (is_blank b) refl (some_words line)
  where
    by : (c : Bool) → is_blank b ≡ c → (those : List (List ℕ)) × IsOfWords those line → (more : List (List ℕ)) × IsOfWords more (b ∷ line)
    by true h t = (t.0, with_blank b line t.0 h t.1)
    by false h t = with_byte b line t.0 h t.1

pub of_its_words : (line : List ℕ) (those : List (List ℕ)) → words line ≡ those → IsOfWords those line
of_its_words line those e = let t = some_words line in subst (λ (v : List (List ℕ)). IsOfWords v line) (sym (words_are t.0 line t.1) ∙ e) t.1

pub words_stand_between_blanks : WordsStandBetweenBlanks
words_stand_between_blanks line those = (of_its_words line those, words_are those line)
