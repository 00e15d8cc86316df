-- The longest of what the kinds' readers find is the longest token.
use Rattle.std.proofs.Common.{◌≡◌, ℕ, suc, ◌<◌, ◌≤◌, Bool, true, false, cond, List, [], ◌∷◌, ◌++◌, length, get_or, Option, Some, None, refl, sym, ap, ◌∙◌, subst, arith, inl, inr, ◌⊎◌, ltb}
use Rattle.std.proofs.lemmas.Bool.{ltb-true, ltb-false, cases_lt}
use Rattle.std.proofs.lemmas.Str.{length-le-encodes}
use Rattle.fx_tokens.specs.declared.TokenKind.{TokenKind}
use Rattle.fx_tokens.specs.declared.TokenKind.TheVariants as kind
use Rattle.fx_tokens.specs.Answers.{width}
use Rattle.fx_tokens.specs.Kinds.{IsToken}
use Rattle.fx_tokens.specs.Reads.{Longest, NoToken}
use Rattle.fx_tokens.specs.Scan as scan
use Rattle.fx_tokens.proofs.Readers.{Best, Found, Reaches, width_append}
use Rattle.fx_tokens.proofs.KindLaws.{iri_best, prefix_name_best, variable_best, blank_best, tag_best, integer_best, signed_best, decimal_best, text_best, word_best, mark_best}

-- ---- the kinds by number, in the order in which they are tried

abbrev number : TokenKind → ℕ
number kind.Iri = 0
number kind.PrefixName = 1
number kind.Variable = 2
number kind.Blank = 3
number kind.Tag = 4
number kind.Integer = 5
number kind.Signed = 6
number kind.Decimal = 7
number kind.Text = 8
number kind.Word = 9
number kind.Mark = 10

abbrev kinds : List TokenKind
kinds = kind.Iri ∷ kind.PrefixName ∷ kind.Variable ∷ kind.Blank ∷ kind.Tag ∷ kind.Integer ∷ kind.Signed ∷ kind.Decimal ∷ kind.Text ∷ kind.Word ∷ kind.Mark ∷ []

at_number : (k : TokenKind) → get_or kinds (number k) kind.Mark ≡ k
at_number kind.Iri = refl
at_number _ = refl

in_kinds : (k : TokenKind) → number k < 11
in_kinds kind.Iri = omega arith
in_kinds _ = omega arith

same_number : (a b : TokenKind) → number a ≡ number b → a ≡ b
same_number a b e = sym (at_number a) ∙ ap (λ n. get_or kinds n kind.Mark) e ∙ at_number b

-- ---- the best of the first kinds

abbrev KindFound : List ℕ → Option (TokenKind × List ℕ) → Type 0
KindFound text None = Unit {0}
KindFound text (Some best) = (front : List ℕ) × (text ≡ front ++ best.1) × IsToken best.0 front

abbrev KindReaches : Option (TokenKind × List ℕ) → List ℕ → Type 0
KindReaches None back = ⊥
KindReaches (Some best) back = width best.1 ≤ width back

record Among (n : ℕ) (text : List ℕ) (best : Option (TokenKind × List ℕ)) : Type 0 where
  found : KindFound text best
  most : (other : TokenKind) → number other < n → (front back : List ℕ) → text ≡ front ++ back → IsToken other front → KindReaches best back

among_none : (text : List ℕ) → Among 0 text None
among_none text = record { found = tt; most = λ other h. absurd (omega (arith, h)) }

one_more : (n : ℕ) (k other : TokenKind) → number k ≡ n → number other < suc n → (number other < n) ⊎ (other ≡ k)
one_more n k other e h = elim (cases_lt (number other) n) [ inl l ↦ inl l | inr r ↦ inr (same_number other k (omega (arith, e, h, r))) ]

better_found : (text : List ℕ) (best : Option (TokenKind × List ℕ)) (k : TokenKind) (rest : Option (List ℕ)) → KindFound text best → Found (IsToken k) text rest → KindFound text (scan.better best k rest)
better_found text None k None f g = tt
better_found text None k (Some rest) f g = g
better_found text (Some best) k None f g = f
better_found text (Some best) k (Some rest) f g = go (ltb (width rest) (width best.1))
  where
    go : (t : Bool) → KindFound text (cond t (Some (k, rest)) (Some best))
    go true = g
    go false = f

reaches_old : (best : Option (TokenKind × List ℕ)) (k : TokenKind) (rest : Option (List ℕ)) (back : List ℕ) → KindReaches best back → KindReaches (scan.better best k rest) back
reaches_old None k rest back h = absurd h
reaches_old (Some best) k None back h = h
reaches_old (Some best) k (Some rest) back h = go (ltb (width rest) (width best.1)) refl
  where
    go : (t : Bool) → ltb (width rest) (width best.1) ≡ t → KindReaches (cond t (Some (k, rest)) (Some best)) back
    go true e = omega (arith, h, ltb-true (width rest) (width best.1) e)
    go false e = h

reaches_new : (best : Option (TokenKind × List ℕ)) (k : TokenKind) (rest : Option (List ℕ)) (back : List ℕ) → Reaches rest back → KindReaches (scan.better best k rest) back
reaches_new best k None back h = absurd h
reaches_new None k (Some rest) back h = h
reaches_new (Some best) k (Some rest) back h = go (ltb (width rest) (width best.1)) refl
  where
    go : (t : Bool) → ltb (width rest) (width best.1) ≡ t → KindReaches (cond t (Some (k, rest)) (Some best)) back
    go true e = h
    go false e = omega (arith, h, ltb-false (width rest) (width best.1) e)

among_more : (n : ℕ) (text : List ℕ) (best : Option (TokenKind × List ℕ)) (k : TokenKind) (rest : Option (List ℕ)) → number k ≡ n → Among n text best → Best (IsToken k) text rest → Among (suc n) text (scan.better best k rest)
among_more n text best k rest e a b = record {
  found = better_found text best k rest a.found b.found;
  most = λ other h front back same t. elim (one_more n k other e h) [ inl l ↦ reaches_old best k rest back (a.most other l front back same t) | inr r ↦ reaches_new best k rest back (b.most front back same (subst (λ (j : TokenKind). IsToken j front) r t)) ];
}

early_among : (text : List ℕ) → Among 6 text (scan.early text)
unfolding scan.early
early_among text =
    let none = among_none text in
    let iri = among_more 0 text None kind.Iri (scan.iri text) refl none (iri_best text) in
    let prefixed = among_more 1 text _ kind.PrefixName (scan.prefix_name text) refl iri (prefix_name_best text) in
    let variable = among_more 2 text _ kind.Variable (scan.variable text) refl prefixed (variable_best text) in
    let blank = among_more 3 text _ kind.Blank (scan.blank text) refl variable (blank_best text) in
    let tag = among_more 4 text _ kind.Tag (scan.tag text) refl blank (tag_best text) in
    among_more 5 text _ kind.Integer (scan.integer text) refl tag (integer_best text)

all_among : (text : List ℕ) → Among 11 text (scan.longest text)
unfolding scan.longest
all_among text =
    let signed = among_more 6 text (scan.early text) kind.Signed (scan.signed text) refl (early_among text) (signed_best text) in
    let decimal = among_more 7 text _ kind.Decimal (scan.decimal text) refl signed (decimal_best text) in
    let string = among_more 8 text _ kind.Text (scan.string text) refl decimal (text_best text) in
    let word = among_more 9 text _ kind.Word (scan.word text) refl string (word_best text) in
    among_more 10 text _ kind.Mark (scan.mark text) refl word (mark_best text)

-- ---- in characters

-- of two fronts of a text, the one that leaves no more is no shorter
no_longer : (token rest front back : List ℕ) → token ++ rest ≡ front ++ back → width rest ≤ width back → length front ≤ length token
no_longer token rest [] back e h = omega arith
no_longer [] rest (c ∷ front) back e h = absurd (omega (arith, h, ap width e, width_append (c ∷ front) back, length-le-encodes (c ∷ front)))
no_longer (d ∷ token) rest (c ∷ front) back e h = let shorter : length front ≤ length token = no_longer token rest front back (cc (e)) h in omega (arith, shorter)

pub longest_some : (text : List ℕ) (k : TokenKind) (rest : List ℕ) → scan.longest text ≡ Some (k, rest) → (token : List ℕ) × Longest k token rest text
longest_some text k rest e =
    let a = subst (λ (v : Option (TokenKind × List ℕ)). Among 11 text v) e (all_among text) in
    let f = a.found in (
      f.0,
      record {
        parts = f.1;
        is = f.2;
        no_longer = λ other front back same t. no_longer f.0 rest front back (sym f.1 ∙ same) (a.most other (in_kinds other) front back same t);
      },
    )

pub longest_none : (text : List ℕ) → scan.longest text ≡ None → NoToken text
longest_none text e =
    let a = subst (λ (v : Option (TokenKind × List ℕ)). Among 11 text v) e (all_among text) in
    λ other front back same t. a.most other (in_kinds other) front back same t
