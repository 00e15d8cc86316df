-- What is read is what the forms say.
use Rattle.std.proofs.Common.{◌≡◌, ℕ, zero, suc, ◌+◌, ◌≤◌, ◌==◌, Bool, true, false, cond, ◌&&◌, Option, Some, None, Result, Ok, Err, List, [], ◌∷◌, ◌++◌, length, take, drop, refl, sym, ap, ◌∙◌, subst, arith, append_assoc, length-take}
use Rattle.std.specs.List.{list_all, prefix_len, slice_split, position}
use Rattle.std.specs.Char.{is_ascii_hexdigit, encode_utf8}
use Rattle.std.specs.Str.{is_utf8}
use Rattle.std.proofs.lemmas.Bool.{eqb-true}
use Rattle.std.proofs.lemmas.Str.{IsUtf8-from_is_utf8}
use Rattle.std.proofs.lemmas.List.{take-append-drop}
use Rattle.std.proofs.lemmas.List.Sums.{prefix_len-le-length}
use Rattle.std.proofs.lemmas.List.Folds.{list_all-append}
use Rattle.fx_terms.specs.declared.terms.Term.{Term}
use Rattle.fx_terms.specs.declared.terms.Term.TheVariants as term
use Rattle.fx_terms.specs.declared.triples.Triple.{Triple}
use Rattle.fx_terms.specs.declared.iris.TermError.{TermError}
use Rattle.fx_terms.specs.declared.literals.LiteralError.{LiteralError}
use Rattle.fx_terms.specs.Graphs.{graph_of}
use Rattle.fx_terms.specs.Iris.{read_iri, iri_after, iri_with_scheme, has_scheme, is_forbidden}
use Rattle.fx_terms.specs.Literals.{LiteralParts, plain, typed, tagged}
use Rattle.fx_ntriples.specs.declared.faults.Fault.TheVariants.{Bad, Blank}
use Rattle.fx_ntriples.specs.declared.faults.NtError.{NtError}
use Rattle.fx_ntriples.specs.declared.quotes.Quote.{Quote}
use Rattle.fx_ntriples.specs.declared.quotes.Quote.TheVariants.{Iri, Text}
use Rattle.fx_rules.specs.Rule.{and_then}
use Rattle.fx_ntriples.specs.Quotes.{Got, got, stop, in_front, Escape, names, misnames, breaks, escaped, escape_at, lettered, body, is_plain, closing, hex_value, numbered, naming, short, may_name, IsEscape, letter, four, eight, IsBody, nothing, itself, escape}
use Rattle.fx_ntriples.specs.Reading.{is_blank, is_line_end, unblanked, iri, tag_len, if_absolute, if_literal, with_tag, with_datatype, untagged, literal, subject, object, dotted, triple, ended, said, line, Lines, all, fault, also, followed, read_lines, answered, read_document}
use Rattle.fx_ntriples.specs.Forms as form
use Rattle.fx_ntriples.proofs.Outcomes.{same_value, same_rest}

pub and_then_got : {A B : Type 0} (g : Got A) (f : A → List ℕ → Got B) (b : B) (r : List ℕ) → and_then g f ≡ got b r → (a : A) × (s : List ℕ) × (g ≡ got a s) × (f a s ≡ got b r)
and_then_got (Ok p) f b r h = (p.0, p.1, refl, h)
and_then_got (Err k) f b r h = absurd (cc)

in_front_got : (c : List ℕ) (g : Got (List ℕ)) (t r : List ℕ) → in_front c g ≡ got t r → (u : List ℕ) × (g ≡ got u r) × (c ++ u ≡ t)
in_front_got c (Ok p) t r h = (p.0, ap (got p.0) (same_rest h), same_value h)
in_front_got c (Err k) t r h = absurd (cc)

-- ---- what stands between signs

pub passes_all : (p : ℕ → Bool) (xs : List ℕ) → prefix_len p xs ≡ length xs → list_all p xs ≡ true
passes_all p [] h = refl
passes_all p (x ∷ xs) h = passes_step p x xs (p x) refl h (passes_all p xs)
  where
    passes_step : (p : ℕ → Bool) (x : ℕ) (xs : List ℕ) (v : Bool) → p x ≡ v → cond v (1 + prefix_len p xs) 0 ≡ suc (length xs) → (prefix_len p xs ≡ length xs → list_all p xs ≡ true) → (v && list_all p xs) ≡ true
    passes_step p x xs true e h ih = ih (omega arith)
    passes_step p x xs false e h ih = absurd (omega arith)

record IsNumber (q : Quote) (k : ℕ) (s c : List ℕ) (n : ℕ) : Type 0 where
  size : length (take k s) ≡ k
  within : k ≤ length s
  digits : list_all is_ascii_hexdigit (take k s) ≡ true
  allowed : may_name q (hex_value 0 (take k s)) ≡ true
  names_it : encode_utf8 (hex_value 0 (take k s)) ≡ c
  long : n ≡ k + 1

named_test : (q : Quote) (k code : ℕ) (c : List ℕ) (n : ℕ) (v : Bool) → cond v (names (encode_utf8 code) (k + 1)) misnames ≡ names c n → (v ≡ true) × (encode_utf8 code ≡ c) × (n ≡ k + 1)
named_test q k code c n true h = (refl, cc, cc)
named_test q k code c n false h = absurd (cc)

number_test : (q : Quote) (k : ℕ) (s c : List ℕ) (n : ℕ) (v : Bool) → (prefix_len is_ascii_hexdigit (take k s) == k) ≡ v →
    cond v (naming q (hex_value 0 (take k s)) (k + 1)) (breaks (drop (prefix_len is_ascii_hexdigit (take k s)) s)) ≡ names c n → IsNumber q k s c n
number_test q k s c n true e h =
    let count : prefix_len is_ascii_hexdigit (take k s) ≡ k = eqb-true _ k e in
    let few = prefix_len-le-length is_ascii_hexdigit (take k s) in
    let size : length (take k s) ≡ k = omega (arith, length-take k s) in
    let t = named_test q k (hex_value 0 (take k s)) c n (may_name q (hex_value 0 (take k s))) h in
    record { size = size; within = omega (arith, length-take k s); digits = passes_all is_ascii_hexdigit (take k s) (count ∙ sym size); allowed = t.0; names_it = t.1; long = t.2 }
number_test q k s c n false e h = absurd (cc)

number_spelled : (q : Quote) (k : ℕ) (s c : List ℕ) (n : ℕ) → numbered q k s ≡ names c n → IsNumber q k s c n
number_spelled q k s c n h = number_test q k s c n (prefix_len is_ascii_hexdigit (take k s) == k) refl h

Spelled : Quote → List ℕ → List ℕ → ℕ → Type 0
Spelled q s c n = IsEscape q (take n s) c × (n ≤ length s)

letter_test : (q : Quote) (b : ℕ) (s c : List ℕ) (n : ℕ) (o : Option ℕ) → short q b ≡ o → lettered o (b ∷ s) ≡ names c n → Spelled q (b ∷ s) c n
unfolding Spelled
letter_test q b s c n None e h = absurd (cc)
letter_test q b s c n (Some x) e h =
    let one : 1 ≡ n = cc in
    let is : x ∷ [] ≡ c = cc in
    (subst (λ (m : ℕ). IsEscape q (take m (b ∷ s)) c) one (subst (IsEscape q (b ∷ [])) is (letter e)), omega arith)

escape_test : (q : Quote) (b : ℕ) (s c : List ℕ) (n : ℕ) (v w : Bool) → (b == 117) ≡ v → (b == 85) ≡ w → cond v (numbered q 4 s) (cond w (numbered q 8 s) (lettered (short q b) (b ∷ s))) ≡ names c n → Spelled q (b ∷ s) c n
unfolding Spelled
escape_test q b s c n true w e f h =
    let m = number_spelled q 4 s c n h in
    let five : suc 4 ≡ n = omega (arith, m.long) in
    (subst (λ (k : ℕ). IsEscape q (take k (b ∷ s)) c) five (subst (λ (x : ℕ). IsEscape q (x ∷ take 4 s) c) (sym (eqb-true b 117 e)) (subst (IsEscape q (117 ∷ take 4 s)) m.names_it (four m.size m.digits m.allowed))), omega (arith, m.within, m.long))
escape_test q b s c n false true e f h =
    let m = number_spelled q 8 s c n h in
    let nine : suc 8 ≡ n = omega (arith, m.long) in
    (subst (λ (k : ℕ). IsEscape q (take k (b ∷ s)) c) nine (subst (λ (x : ℕ). IsEscape q (x ∷ take 8 s) c) (sym (eqb-true b 85 f)) (subst (IsEscape q (85 ∷ take 8 s)) m.names_it (eight m.size m.digits m.allowed))), omega (arith, m.within, m.long))
escape_test q b s c n false false e f h = letter_test q b s c n (short q b) refl h

escape_spelled : (q : Quote) (s c : List ℕ) (n : ℕ) → escape_at q s ≡ names c n → Spelled q s c n
unfolding escape_at
escape_spelled q [] c n h = absurd (cc)
escape_spelled q (b ∷ s) c n h = escape_test q b s c n (b == 117) (b == 85) refl refl h

pub escape_is : (q : Quote) (s c : List ℕ) (n : ℕ) → escape_at q s ≡ names c n → IsEscape q (take n s) c × (n ≤ length s)
unfolding Spelled
escape_is q s c n h = escape_spelled q s c n h

-- a text is spelled up to the closing sign
pub record SpellsBody (q : Quote) (s t r : List ℕ) : Type 0 where
  pub raw : List ℕ
  pub spelled : IsBody q raw t
  pub is : s ≡ raw ++ closing q ∷ r

escape_in : (q : Quote) (s t r : List ℕ) (e : Escape) → escape_at q s ≡ e → ((n : ℕ) (u : List ℕ) → body q n s ≡ got u r → SpellsBody q (drop n s) u r) →
    escaped e (92 ∷ s) (λ n. body q n s) ≡ got t r → SpellsBody q (92 ∷ s) t r
unfolding Spelled
escape_in q s t r (names c n) e ih h =
    let p = in_front_got c (body q n s) t r h in
    let x = escape_spelled q s c n e in
    let m = ih n p.0 p.1 in
    record {
      raw = 92 ∷ (take n s ++ m.raw);
      spelled = subst (IsBody q (92 ∷ (take n s ++ m.raw))) p.2 (escape x.0 m.spelled);
      is = ap (λ y. 92 ∷ y) (sym (take-append-drop n s) ∙ ap (λ y. take n s ++ y) m.is ∙ sym (append_assoc (take n s) m.raw (closing q ∷ r)));
    }
escape_in q s t r misnames e ih h = absurd (cc)
escape_in q s t r (breaks x) e ih h = absurd (cc)

body_test : (q : Quote) (b : ℕ) (s t r : List ℕ) (v w x : Bool) → is_plain q b ≡ v → (b == closing q) ≡ w → (b == 92) ≡ x → ((n : ℕ) (u : List ℕ) → body q n s ≡ got u r → SpellsBody q (drop n s) u r) →
    cond v (in_front (b ∷ []) (body q 0 s)) (cond w (got [] s) (cond x (escaped (escape_at q s) (b ∷ s) (λ n. body q n s)) (stop Bad (b ∷ s)))) ≡ got t r → SpellsBody q (b ∷ s) t r
body_test q b s t r true w x e f g ih h =
    let p = in_front_got (b ∷ []) (body q 0 s) t r h in
    let m = ih 0 p.0 p.1 in
    record { raw = b ∷ m.raw; spelled = subst (IsBody q (b ∷ m.raw)) p.2 (itself e m.spelled); is = ap (λ y. b ∷ y) m.is }
body_test q b s t r false true x e f g ih h =
    let none : [] ≡ t = same_value h in
    let rest : s ≡ r = same_rest h in
    record { raw = []; spelled = subst (IsBody q []) none nothing; is = ap (λ y. y ∷ s) (eqb-true b (closing q) f) ∙ ap (λ y. closing q ∷ y) rest }
body_test q b s t r false false true e f g ih h =
    let back : b ≡ 92 = eqb-true b 92 g in
    subst (λ (y : ℕ). SpellsBody q (y ∷ s) t r) (sym back) (escape_in q s t r (escape_at q s) refl ih (subst (λ (y : ℕ). escaped (escape_at q s) (y ∷ s) (λ n. body q n s) ≡ got t r) back h))
body_test q b s t r false false false e f g ih h = absurd (cc)

pub body_spelled : (q : Quote) (n : ℕ) (s t r : List ℕ) → body q n s ≡ got t r → SpellsBody q (drop n s) t r
unfolding body
body_spelled q n [] t r h = absurd (cc)
body_spelled q zero (b ∷ s) t r h = body_test q b s t r (is_plain q b) (b == closing q) (b == 92) refl refl refl (λ n u k. body_spelled q n s u r k) h
body_spelled q (suc n) (b ∷ s) t r h = body_spelled q n s t r h

-- ---- terms

pub record SpellsIri (s t r : List ℕ) : Type 0 where
  pub raw : List ℕ
  pub ref : form.IsIriRef raw t
  pub is : s ≡ raw ++ r

scheme_same : (text t : List ℕ) (v : Bool) → iri_with_scheme text v ≡ Ok t → text ≡ t
scheme_same text t true h = cc
scheme_same text t false h = absurd (cc)

after_same : (text t : List ℕ) (o : Option ℕ) → iri_after text o ≡ Ok t → text ≡ t
after_same text t (Some place) h = absurd (cc)
after_same text t None h = scheme_same text t (has_scheme text) h

pub same_text : (text t : List ℕ) → read_iri text ≡ Ok t → text ≡ t
same_text text t h = after_same text t (position is_forbidden text) h

iri_is : (here x t r u : List ℕ) (a : Result (List ℕ) TermError) → read_iri u ≡ a → if_absolute here x a ≡ got t r → (read_iri u ≡ Ok t) × (u ≡ t) × (x ≡ r)
iri_is here x t r u (Ok w) e h =
    let same : w ≡ t = same_value h in
    (e ∙ ap (λ y. Ok y) same, after_same u w (position is_forbidden u) e ∙ same, same_rest h)
iri_is here x t r u (Err y) e h = absurd (cc)

iri_test : (b : ℕ) (s t r : List ℕ) (v : Bool) → (b == 60) ≡ v → cond v (and_then (body Iri 0 s) (λ t r. if_absolute (b ∷ s) r (read_iri t))) (stop Bad (b ∷ s)) ≡ got t r → SpellsIri (b ∷ s) t r
iri_test b s t r true e h =
    let p = and_then_got (body Iri 0 s) (λ t r. if_absolute (b ∷ s) r (read_iri t)) t r h in
    let m = body_spelled Iri 0 s p.0 p.1 p.2 in
    let i = iri_is (b ∷ s) p.1 t r p.0 (read_iri p.0) refl p.3 in
    record {
      raw = 60 ∷ (m.raw ++ 62 ∷ []);
      ref = form.iriref (subst (IsBody Iri m.raw) i.1 m.spelled) (subst (λ (y : List ℕ). read_iri y ≡ Ok t) i.1 i.0);
      is = ap (λ y. y ∷ s) (eqb-true b 60 e) ∙ ap (λ y. 60 ∷ y) (m.is ∙ ap (λ y. m.raw ++ 62 ∷ y) i.2 ∙ sym (append_assoc m.raw (62 ∷ []) r));
    }
iri_test b s t r false e h = absurd (cc)

pub iri_spelled : (s t r : List ℕ) → iri s ≡ got t r → SpellsIri s t r
iri_spelled [] t r h = absurd (cc)
iri_spelled (b ∷ s) t r h = iri_test b s t r (b == 60) refl h

pub record SpellsBlanks (s : List ℕ) : Type 0 where
  pub raw : List ℕ
  pub blanks : form.AreBlanks raw
  pub is : s ≡ raw ++ unblanked s

blank_test : (b : ℕ) (s : List ℕ) (v : Bool) → is_blank b ≡ v → SpellsBlanks s → (a : List ℕ) × form.AreBlanks a × (b ∷ s ≡ a ++ cond v (unblanked s) (b ∷ s))
blank_test b s true e m = (b ∷ m.raw, rw e m.blanks, ap (λ y. b ∷ y) m.is)
blank_test b s false e m = ([], refl, refl)

pub blanks_spelled : (s : List ℕ) → SpellsBlanks s
blanks_spelled [] = record { raw = []; blanks = refl; is = refl }
blanks_spelled (b ∷ s) = let t = blank_test b s (is_blank b) refl (blanks_spelled s) in record { raw = t.0; blanks = t.1; is = t.2 }

record SpellsObject (s : List ℕ) (obj : Term) (r : List ℕ) : Type 0 where
  pub raw : List ℕ
  blanks : List ℕ
  object : form.IsObject raw obj
  are : form.AreBlanks blanks
  pub is : s ≡ raw ++ (blanks ++ r)

made_of : (here x r : List ℕ) (obj : Term) (a : Result LiteralParts LiteralError) → if_literal here x a ≡ got obj r → (l : LiteralParts) × (a ≡ Ok l) × (term.Literal l ≡ obj) × (x ≡ r)
made_of here x r obj (Ok l) h = (l, refl, same_value h, same_rest h)
made_of here x r obj (Err e) h = absurd (cc)

-- a string alone, and then blanks
alone_spelled : (str f a x r : List ℕ) (obj : Term) → form.IsString str f → form.AreBlanks a → got (term.Literal (plain f)) x ≡ got obj r → SpellsObject (str ++ (a ++ x)) obj r
alone_spelled str f a x r obj h k e =
    let same : term.Literal (plain f) ≡ obj = same_value e in
    let rest : x ≡ r = same_rest e in
    record { raw = str; blanks = a; object = subst (form.IsObject str) same (form.alone h); are = k; is = ap (λ y. str ++ (a ++ y)) rest }

tag_spelled : (str f y r : List ℕ) (obj : Term) → form.IsString str f → with_tag f y ≡ got obj r → SpellsObject (str ++ (64 ∷ y)) obj r
tag_spelled str f y r obj h e =
    let n = tag_len true true y in
    let m = made_of (drop n y) (drop n y) r obj (tagged f (take n y)) e in
    record {
      raw = str ++ 64 ∷ take n y;
      blanks = [];
      object = subst (form.IsObject (str ++ 64 ∷ take n y)) m.2 (form.with_tag (take n y) h m.1);
      are = refl;
      is = ap (λ z. str ++ 64 ∷ z) (sym (take-append-drop n y) ∙ ap (λ z. take n y ++ z) m.3) ∙ sym (append_assoc str (64 ∷ take n y) r);
    }

datatype_test : (str f a y r : List ℕ) (d : ℕ) (obj : Term) (v : Bool) → (d == 94) ≡ v → form.IsString str f → form.AreBlanks a →
    cond v (and_then (iri (unblanked y)) (λ datatype r. if_literal (unblanked y) r (typed f datatype))) (stop Bad (d ∷ y)) ≡ got obj r → SpellsObject (str ++ (a ++ 94 ∷ d ∷ y)) obj r
datatype_test str f a y r d obj true e h k g =
    let p = and_then_got (iri (unblanked y)) (λ datatype r. if_literal (unblanked y) r (typed f datatype)) obj r g in
    let i = iri_spelled (unblanked y) p.0 p.1 p.2 in
    let b = blanks_spelled y in
    let m = made_of (unblanked y) p.1 r obj (typed f p.0) p.3 in
    record {
      raw = str ++ (a ++ 94 ∷ 94 ∷ (b.raw ++ i.raw));
      blanks = [];
      object = subst (form.IsObject (str ++ (a ++ 94 ∷ 94 ∷ (b.raw ++ i.raw)))) m.2 (form.with_datatype a b.raw i.raw h k b.blanks i.ref m.1);
      are = refl;
      is = ap (λ z. str ++ (a ++ 94 ∷ z)) (ap (λ z. z ∷ y) (eqb-true d 94 e) ∙ ap (λ z. 94 ∷ z) (b.is ∙ ap (λ z. b.raw ++ z) (i.is ∙ ap (λ z. i.raw ++ z) m.3) ∙ sym (append_assoc b.raw i.raw r)))
          ∙ ap (λ z. str ++ z) (sym (append_assoc a (94 ∷ 94 ∷ (b.raw ++ i.raw)) r)) ∙ sym (append_assoc str (a ++ 94 ∷ 94 ∷ (b.raw ++ i.raw)) r);
    }
datatype_test str f a y r d obj false e h k g = absurd (cc)

datatype_spelled : (str f a y r : List ℕ) (obj : Term) → form.IsString str f → form.AreBlanks a → with_datatype f y ≡ got obj r → SpellsObject (str ++ (a ++ 94 ∷ y)) obj r
datatype_spelled str f a [] r obj h k g = absurd (cc)
datatype_spelled str f a (d ∷ y) r obj h k g = datatype_test str f a y r d obj (d == 94) refl h k g

untagged_test : (str f a y r : List ℕ) (c : ℕ) (obj : Term) (v : Bool) → (c == 94) ≡ v → form.IsString str f → form.AreBlanks a →
    cond v (with_datatype f y) (got (term.Literal (plain f)) (c ∷ y)) ≡ got obj r → SpellsObject (str ++ (a ++ c ∷ y)) obj r
untagged_test str f a y r c obj true e h k g = subst (λ (z : ℕ). SpellsObject (str ++ (a ++ z ∷ y)) obj r) (sym (eqb-true c 94 e)) (datatype_spelled str f a y r obj h k g)
untagged_test str f a y r c obj false e h k g = alone_spelled str f a (c ∷ y) r obj h k g

untagged_spelled : (str f a u r : List ℕ) (obj : Term) → form.IsString str f → form.AreBlanks a → untagged f u ≡ got obj r → SpellsObject (str ++ (a ++ u)) obj r
untagged_spelled str f a [] r obj h k g = alone_spelled str f a [] r obj h k g
untagged_spelled str f a (c ∷ y) r obj h k g = untagged_test str f a y r c obj (c == 94) refl h k g

literal_test : (str f y r : List ℕ) (b : ℕ) (obj : Term) (v : Bool) → (b == 64) ≡ v → form.IsString str f → cond v (with_tag f y) (untagged f (unblanked (b ∷ y))) ≡ got obj r → SpellsObject (str ++ (b ∷ y)) obj r
literal_test str f y r b obj true e h g = subst (λ (z : ℕ). SpellsObject (str ++ (z ∷ y)) obj r) (sym (eqb-true b 64 e)) (tag_spelled str f y r obj h g)
literal_test str f y r b obj false e h g =
    let m = blanks_spelled (b ∷ y) in
    subst (λ (z : List ℕ). SpellsObject (str ++ z) obj r) (sym m.is) (untagged_spelled str f m.raw (unblanked (b ∷ y)) r obj h m.blanks g)

literal_spelled : (str f x r : List ℕ) (obj : Term) → form.IsString str f → literal f x ≡ got obj r → SpellsObject (str ++ x) obj r
literal_spelled str f [] r obj h g = alone_spelled str f [] [] r obj h refl g
literal_spelled str f (b ∷ y) r obj h g = literal_test str f y r b obj (b == 64) refl h g

object_test : (b : ℕ) (s r : List ℕ) (obj : Term) (v w : Bool) → (b == 95) ≡ v → (b == 34) ≡ w →
    cond v (stop Blank (b ∷ s)) (cond w (and_then (body Text 0 s) literal) (and_then (iri (b ∷ s)) (λ t r. got (term.Iri t) r))) ≡ got obj r → SpellsObject (b ∷ s) obj r
object_test b s r obj true w e f h = absurd (cc)
object_test b s r obj false true e f h =
    let p = and_then_got (body Text 0 s) literal obj r h in
    let m = body_spelled Text 0 s p.0 p.1 p.2 in
    let is : b ∷ s ≡ (34 ∷ (m.raw ++ 34 ∷ [])) ++ p.1 = ap (λ y. y ∷ s) (eqb-true b 34 f) ∙ ap (λ y. 34 ∷ y) (m.is ∙ sym (append_assoc m.raw (34 ∷ []) p.1)) in
    subst (λ (z : List ℕ). SpellsObject z obj r) (sym is) (literal_spelled (34 ∷ (m.raw ++ 34 ∷ [])) p.0 p.1 r obj (form.quoted m.spelled) p.3)
object_test b s r obj false false e f h =
    let p = and_then_got (iri (b ∷ s)) (λ t r. got (term.Iri t) r) obj r h in
    let m = iri_spelled (b ∷ s) p.0 p.1 p.2 in
    let same : term.Iri p.0 ≡ obj = same_value p.3 in
    let rest : p.1 ≡ r = same_rest p.3 in
    record { raw = m.raw; blanks = []; object = subst (form.IsObject m.raw) same (form.reference m.ref); are = refl; is = m.is ∙ ap (λ y. m.raw ++ y) rest }

object_spelled : (s r : List ℕ) (obj : Term) → object s ≡ got obj r → SpellsObject s obj r
object_spelled [] r obj h = absurd (cc)
object_spelled (b ∷ s) r obj h = object_test b s r obj (b == 95) (b == 34) refl refl h

subject_test : (b : ℕ) (s t r : List ℕ) (v : Bool) → (b == 95) ≡ v → cond v (stop Blank (b ∷ s)) (iri (b ∷ s)) ≡ got t r → SpellsIri (b ∷ s) t r
subject_test b s t r true e h = absurd (cc)
subject_test b s t r false e h = iri_spelled (b ∷ s) t r h

pub subject_spelled : (s t r : List ℕ) → subject s ≡ got t r → SpellsIri s t r
subject_spelled [] t r h = absurd (cc)
subject_spelled (b ∷ s) t r h = subject_test b s t r (b == 95) refl h

-- ---- lines

dotted_test : (t u : Triple) (b : ℕ) (s r : List ℕ) (v : Bool) → (b == 46) ≡ v → cond v (got t s) (stop Bad (b ∷ s)) ≡ got u r → (t ≡ u) × (b ∷ s ≡ 46 ∷ r)
dotted_test t u b s r true e h = let rest : s ≡ r = same_rest h in (same_value h, ap (λ y. y ∷ s) (eqb-true b 46 e) ∙ ap (λ y. 46 ∷ y) rest)
dotted_test t u b s r false e h = absurd (cc)

dotted_spelled : (t u : Triple) (s r : List ℕ) → dotted t s ≡ got u r → (t ≡ u) × (s ≡ 46 ∷ r)
dotted_spelled t u [] r h = absurd (cc)
dotted_spelled t u (b ∷ s) r h = dotted_test t u b s r (b == 46) refl h

pub record SpellsTriple (l : List ℕ) (t : Triple) (r : List ℕ) : Type 0 where
  pub b : List ℕ
  pub c : List ℕ
  pub d : List ℕ
  pub s : List ℕ
  pub p : List ℕ
  pub o : List ℕ
  pub hb : form.AreBlanks b
  pub hc : form.AreBlanks c
  pub hd : form.AreBlanks d
  pub hs : form.IsIriRef s t.subject
  pub hp : form.IsIriRef p t.predicate
  pub ho : form.IsObject o t.object
  pub is : l ≡ s ++ (b ++ (p ++ (c ++ (o ++ (d ++ 46 ∷ r)))))

join_blanks : (a b : List ℕ) → form.AreBlanks a → form.AreBlanks b → form.AreBlanks (a ++ b)
join_blanks a b h k = list_all-append is_blank a b ∙ rw (h, k) refl

pub triple_spelled : (l : List ℕ) (t : Triple) (r : List ℕ) → triple l ≡ got t r → SpellsTriple l t r
triple_spelled l t r h =
    let f2 = λ (s : List ℕ) (p : List ℕ) (q : List ℕ). and_then (object (unblanked q)) (λ o e. dotted (record { subject = s; predicate = p; object = o }) (unblanked e)) in
    let f1 = λ (s : List ℕ) (r : List ℕ). and_then (iri (unblanked r)) (f2 s) in
    let x = and_then_got (subject l) f1 t r h in
    let y = and_then_got (iri (unblanked x.1)) (f2 x.0) t r x.3 in
    let z = and_then_got (object (unblanked y.1)) (λ o e. dotted (record { subject = x.0; predicate = y.0; object = o }) (unblanked e)) t r y.3 in
    let w = dotted_spelled (record { subject = x.0; predicate = y.0; object = z.0 }) t (unblanked z.1) r z.3 in
    let si = subject_spelled l x.0 x.1 x.2 in
    let pi = iri_spelled (unblanked x.1) y.0 y.1 y.2 in
    let oi = object_spelled (unblanked y.1) z.1 z.0 z.2 in
    let b1 = blanks_spelled x.1 in
    let b2 = blanks_spelled y.1 in
    let b3 = blanks_spelled z.1 in
    record {
      b = b1.raw;
      c = b2.raw;
      d = oi.blanks ++ b3.raw;
      s = si.raw;
      p = pi.raw;
      o = oi.raw;
      hb = b1.blanks;
      hc = b2.blanks;
      hd = join_blanks oi.blanks b3.raw oi.are b3.blanks;
      hs = subst (λ (u : Triple). form.IsIriRef si.raw u.subject) w.0 si.ref;
      hp = subst (λ (u : Triple). form.IsIriRef pi.raw u.predicate) w.0 pi.ref;
      ho = subst (λ (u : Triple). form.IsObject oi.raw u.object) w.0 oi.object;
      is = si.is ∙ ap (λ y. si.raw ++ y) (b1.is ∙ ap (λ y. b1.raw ++ y) (pi.is ∙ ap (λ y. pi.raw ++ y) (b2.is ∙ ap (λ y. b2.raw ++ y) (oi.is ∙ ap (λ y. oi.raw ++ y) (ap (λ y. oi.blanks ++ y) (b3.is ∙ ap (λ y. b3.raw ++ y) w.1) ∙ sym (append_assoc oi.blanks b3.raw (46 ∷ r)))))));
    }

ended_test : (t u : Option Triple) (b : ℕ) (s r : List ℕ) (v : Bool) → (b == 35) ≡ v → cond v (got t []) (stop Bad (b ∷ s)) ≡ got u r → (t ≡ u) × form.IsComment (b ∷ s)
ended_test t u b s r true e h = (same_value h, eqb-true b 35 e)
ended_test t u b s r false e h = absurd (cc)

ended_spelled : (t u : Option Triple) (s r : List ℕ) → ended t s ≡ got u r → (t ≡ u) × form.IsComment s
ended_spelled t u [] r h = (same_value h, tt)
ended_spelled t u (b ∷ s) r h = ended_test t u b s r (b == 35) refl h

triple_line : (a l : List ℕ) (u : Option Triple) (r : List ℕ) → form.AreBlanks a → and_then (triple l) (λ t r. ended (Some t) (unblanked r)) ≡ got u r → form.IsLine (a ++ l) u
triple_line a l u r k h =
    let x = and_then_got (triple l) (λ t r. ended (Some t) (unblanked r)) u r h in
    let m = triple_spelled l x.0 x.1 x.2 in
    let e = blanks_spelled x.1 in
    let w = ended_spelled (Some x.0) u (unblanked x.1) r x.3 in
    let is : a ++ l ≡ a ++ (m.s ++ (m.b ++ (m.p ++ (m.c ++ (m.o ++ (m.d ++ 46 ∷ (e.raw ++ unblanked x.1))))))) =
    ap (λ y. a ++ y) (m.is ∙ ap (λ y. m.s ++ (m.b ++ (m.p ++ (m.c ++ (m.o ++ (m.d ++ 46 ∷ y)))))) e.is) in
    subst (λ (y : List ℕ). form.IsLine y u) (sym is) (subst (form.IsLine (a ++ (m.s ++ (m.b ++ (m.p ++ (m.c ++ (m.o ++ (m.d ++ 46 ∷ (e.raw ++ unblanked x.1))))))))) w.0
    (form.says a m.b m.c m.d e.raw (unblanked x.1) m.s m.p m.o k m.hb m.hc m.hd e.blanks w.1 m.hs m.hp m.ho))

said_test : (a : List ℕ) (b : ℕ) (s : List ℕ) (u : Option Triple) (r : List ℕ) (v : Bool) → (b == 35) ≡ v → form.AreBlanks a → cond v (got None []) (and_then (triple (b ∷ s)) (λ t r. ended (Some t) (unblanked r))) ≡ got u r → form.IsLine (a ++ b ∷ s) u
said_test a b s u r true e k h = let same : None ≡ u = same_value h in subst (form.IsLine (a ++ b ∷ s)) same (form.empty a (b ∷ s) k (eqb-true b 35 e))
said_test a b s u r false e k h = triple_line a (b ∷ s) u r k h

said_spelled : (a s : List ℕ) (u : Option Triple) (r : List ℕ) → form.AreBlanks a → said s ≡ got u r → form.IsLine (a ++ s) u
said_spelled a [] u r k h = let same : None ≡ u = same_value h in subst (form.IsLine (a ++ [])) same (form.empty a [] k tt)
said_spelled a (b ∷ s) u r k h = said_test a b s u r (b == 35) refl k h

pub line_spelled : (l : List ℕ) (u : Option Triple) (r : List ℕ) → line l ≡ got u r → form.IsLine l u
unfolding line
line_spelled l u r h = let m = blanks_spelled l in subst (λ (y : List ℕ). form.IsLine y u) (sym m.is) (said_spelled m.raw (unblanked l) u r m.blanks h)

-- ---- documents

also_all : (t : Triple) (more : Lines) (ts : List Triple) → also (Some t) more ≡ all ts → (us : List Triple) × (more ≡ all us) × (t ∷ us ≡ ts)
also_all t (all us) ts h = (us, refl, cc)
also_all t (fault k start place) ts h = absurd (cc)

line_then : (start : ℕ) (l : List ℕ) (ls : List (List ℕ)) (ts : List Triple) (g : Got (Option Triple)) (more : Lines) → line l ≡ g → followed start (length l) g more ≡ all ts →
    ((us : List Triple) → more ≡ all us → form.AreLines ls us) → form.AreLines (l ∷ ls) ts
line_then start l ls ts (Ok p) more e h ih = go p.0 p.1 e h
  where
    go : (o : Option Triple) (s : List ℕ) → line l ≡ got o s → also o more ≡ all ts → form.AreLines (l ∷ ls) ts
    go None s e h = form.silent (line_spelled l None s e) (ih ts h)
    go (Some t) s e h =
        let q = also_all t more ts h in
        subst (form.AreLines (l ∷ ls)) q.2 (form.more (line_spelled l (Some t) s e) (ih q.0 q.1))
line_then start l ls ts (Err f) more e h ih = absurd (cc)

lines_spelled : (start : ℕ) (ls : List (List ℕ)) (ts : List Triple) → read_lines start ls ≡ all ts → form.AreLines ls ts
lines_spelled start [] ts h = let none : [] ≡ ts = cc in subst (form.AreLines []) none form.none
lines_spelled start (l ∷ ls) ts h = line_then start l ls ts (line l) (read_lines (start + length l + 1) ls) refl h (λ us k. lines_spelled (start + length l + 1) ls us k)

answered_ok : (bytes : List ℕ) (ls : Lines) (g : List Triple) → answered bytes ls ≡ Ok g → (ts : List Triple) × (ls ≡ all ts) × (graph_of ts ≡ g)
answered_ok bytes (all ts) g h = (ts, refl, cc)
answered_ok bytes (fault k start place) g h = absurd (cc)

document_test : (bytes : List ℕ) (g : List Triple) (v : Bool) (e : NtError) → is_utf8 bytes ≡ v → cond v (answered bytes (read_lines 0 (slice_split is_line_end bytes))) (Err e) ≡ Ok g → form.IsDocument bytes g
document_test bytes g true e u h =
    let p = answered_ok bytes (read_lines 0 (slice_split is_line_end bytes)) g h in
    record { utf8 = IsUtf8-from_is_utf8 bytes u; triples = p.0; lines = lines_spelled 0 (slice_split is_line_end bytes) p.0 p.1; holds = sym p.2 }
document_test bytes g false e u h = absurd (cc)

pub document_spelled : (bytes : List ℕ) (g : List Triple) → read_document bytes ≡ Ok g → form.IsDocument bytes g
document_spelled bytes g h = document_test bytes g (is_utf8 bytes) _ refl h
