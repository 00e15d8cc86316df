-- What is refused, and where: a line that has the beginnings of a refusal is read up to it.
use Rattle.std.proofs.Common.{◌≡◌, ◌≢◌, ℕ, ◌+◌, ◌==◌, true, false, Some, Result, Ok, Err, List, [], ◌∷◌, ◌++◌, length, refl, sym, ap, ◌∙◌, append_assoc}
use Rattle.std.specs.List.{list_all, prefix_len}
use Rattle.std.specs.Char.{is_ascii_hexdigit}
use Rattle.fx_terms.specs.declared.terms.Term.TheVariants as term
use Rattle.fx_terms.specs.declared.triples.Triple.{Triple}
use Rattle.fx_terms.specs.declared.iris.TermError.{TermError}
use Rattle.fx_terms.specs.Iris.{read_iri}
use Rattle.fx_terms.specs.Datatypes.{lang_string as rdf_lang_string}
use Rattle.fx_terms.specs.Literals.{typed}
use Rattle.fx_ntriples.specs.declared.faults.Fault.{Fault}
use Rattle.fx_ntriples.specs.declared.faults.Fault.TheVariants.{Bad, Blank, Relative}
use Rattle.fx_ntriples.specs.declared.quotes.Quote.{Quote}
use Rattle.fx_ntriples.specs.declared.quotes.Quote.TheVariants.{Iri, Text}
use Rattle.fx_ntriples.specs.Quotes as strict
use Rattle.fx_rules.specs.Rule.{and_then}
use Rattle.fx_ntriples.specs.Quotes.{Got, got, stop, in_front, names, misnames, escape_at, body, is_plain, closing, hex_value, numbered, naming}
use Rattle.fx_ntriples.specs.Reading.{is_blank, unblanked, iri, if_absolute, if_literal, literal, subject, object, dotted, triple, ended, said, line}
use Rattle.fx_ntriples.specs.Forms as form
use Rattle.fx_ntriples.specs.Refusals as what
use Rattle.fx_ntriples.proofs.Steps.{whole_number}
use Rattle.fx_ntriples.proofs.Sound.{same_text}
use Rattle.fx_ntriples.proofs.Complete.{front_of, back_of, body_reads, iri_reads, blanks_read, iri_unblanked, escape_reads, not_at, string_object, all_pass, body_plain, body_escapes, backslash_plain, backslash_closing}

-- ---- a part at which the reading stops

abbrev Pair : List ℕ → List ℕ → List ℕ → Got Triple
Pair s p q = and_then (object (unblanked q)) (λ o e. dotted (record { subject = s; predicate = p; object = o }) (unblanked e))

abbrev Stops : what.Part → List ℕ → Fault → List ℕ → Type 0
Stops what.subject u k r = (b : ℕ) × (s : List ℕ) × (u ≡ b ∷ s) × (is_blank b ≡ false) × ((b == 35) ≡ false) × (triple u ≡ stop k r)
Stops what.predicate u k r = (s : List ℕ) → and_then (iri (unblanked u)) (Pair s) ≡ stop k r
Stops what.object u k r = (s p : List ℕ) → Pair s p u ≡ stop k r
Stops what.datatype u k r = (f : List ℕ) → and_then (iri (unblanked u)) (λ datatype y. if_literal (unblanked u) y (typed f datatype)) ≡ stop k r

said_stops : (b : ℕ) (s r : List ℕ) (k : Fault) → (b == 35) ≡ false → triple (b ∷ s) ≡ stop k r → said (b ∷ s) ≡ stop k r
said_stops b s r k e h = rw e (ap (λ g. and_then g (λ t r. ended (Some t) (unblanked r))) h)

unblanked_here : (b : ℕ) (s : List ℕ) → is_blank b ≡ false → unblanked (b ∷ s) ≡ b ∷ s
unblanked_here b s h = rw h refl

line_stops : (a u r : List ℕ) (k : Fault) → form.AreBlanks a → Stops what.subject u k r → line (a ++ u) ≡ stop k r
unfolding line
line_stops a u r k h t =
    ap said (blanks_read a u h ∙ ap unblanked t.2 ∙ unblanked_here t.0 t.1 t.3) ∙ said_stops t.0 t.1 r k t.4 (ap triple (sym t.2) ∙ t.5)

iri_subject : (s t a u : List ℕ) → form.IsIriRef s t → form.AreBlanks a → (f : List ℕ → List ℕ → Got Triple) → and_then (subject (s ++ (a ++ u))) f ≡ f t (a ++ u)
iri_subject _ _ a u (form.iriref {s} {t} h e) k f = ap (λ g. and_then g f) (iri_reads (60 ∷ (s ++ 62 ∷ [])) t (a ++ u) (form.iriref h e))

iri_head : (s t : List ℕ) → form.IsIriRef s t → (x : List ℕ) × (s ≡ 60 ∷ x)
iri_head _ _ (form.iriref {s} {t} h e) = (s ++ 62 ∷ [], refl)

literal_hats : (f a b u r : List ℕ) (k : Fault) → form.AreBlanks a → form.AreBlanks b → Stops what.datatype u k r → literal f (a ++ 94 ∷ 94 ∷ (b ++ u)) ≡ stop k r
literal_hats f a b u r k x y h =
    not_at f a 94 (94 ∷ (b ++ u)) x refl refl ∙ ap (λ s. and_then (iri s) (λ datatype z. if_literal s z (typed f datatype))) (blanks_read b u y) ∙ h f

pub before_stops : (x : what.Part) (p u r : List ℕ) (k : Fault) → what.Before x p → Stops x u k r → line (p ++ u) ≡ stop k r
before_stops x _ u r k (what.first {a} h) t = line_stops a u r k h t
before_stops x _ u r k (what.second p s a {t} before i h) g =
    let w = iri_head s t i in
    ap line (append_assoc p (s ++ a) u ∙ ap (λ z. p ++ z) (append_assoc s a u))
    ∙ before_stops what.subject p (s ++ (a ++ u)) r k before (
      60,
      w.0 ++ (a ++ u),
      ap (λ z. z ++ (a ++ u)) w.1,
      refl,
      refl,
      iri_subject s t a u i h (λ s r. and_then (iri (unblanked r)) (Pair s)) ∙ ap (λ z. and_then (iri z) (Pair t)) (blanks_read a u h) ∙ g t,
    )
before_stops x _ u r k (what.third p s a {t} before i h) g =
    ap line (append_assoc p (s ++ a) u ∙ ap (λ z. p ++ z) (append_assoc s a u))
    ∙ before_stops what.predicate p (s ++ (a ++ u)) r k before (λ sub.
    ap (λ z. and_then (iri z) (Pair sub)) (iri_unblanked s t (a ++ u) i) ∙ ap (λ z. and_then z (Pair sub)) (iri_reads s t (a ++ u) i)
    ∙ ap (λ z. and_then (object z) (λ o e. dotted (record { subject = sub; predicate = t; object = o }) (unblanked e))) (blanks_read a u h) ∙ g sub t)
before_stops x _ u r k (what.fourth p s a b {t} before i h j) g =
    ap line (append_assoc p (s ++ (a ++ 94 ∷ 94 ∷ b)) u ∙ ap (λ z. p ++ z) (append_assoc s (a ++ 94 ∷ 94 ∷ b) u ∙ ap (λ z. s ++ z) (append_assoc a (94 ∷ 94 ∷ b) u)))
    ∙ before_stops what.object p (s ++ (a ++ 94 ∷ 94 ∷ (b ++ u))) r k before (λ sub pre.
    ap (λ z. and_then (object z) (λ o e. dotted (record { subject = sub; predicate = pre; object = o }) (unblanked e))) (string_unblanked s t (a ++ 94 ∷ 94 ∷ (b ++ u)) i)
    ∙ ap (λ z. and_then z (λ o e. dotted (record { subject = sub; predicate = pre; object = o }) (unblanked e))) (string_object s t (a ++ 94 ∷ 94 ∷ (b ++ u)) i ∙ literal_hats t a b u r k h j g))
  where
    string_unblanked : (s t u : List ℕ) → form.IsString s t → unblanked (s ++ u) ≡ s ++ u
    string_unblanked _ _ u (form.quoted {s} {t} h) = refl

-- ---- Blank

pub blank_refused : (p r : List ℕ) → what.BlankStands p r → line (p ++ r) ≡ stop Blank r
blank_refused p _ (what.as_subject r h) = before_stops what.subject p (95 ∷ r) (95 ∷ r) Blank h (95, r, refl, refl, refl, refl)
blank_refused p _ (what.as_object r h) = before_stops what.object p (95 ∷ r) (95 ∷ r) Blank h (λ s t. refl)

-- ---- an IRIREF at which the reading stops

iri_stops : (x : what.Part) (s r : List ℕ) (k : Fault) → iri (60 ∷ s) ≡ stop k r → Stops x (60 ∷ s) k r
iri_stops what.subject s r k h = (60, s, refl, refl, refl, ap (λ g. and_then g (λ s r. and_then (iri (unblanked r)) (Pair s))) h)
iri_stops what.predicate s r k h = λ sub. ap (λ g. and_then g (Pair sub)) h
iri_stops what.object s r k h = λ sub pre. ap (λ g. and_then (and_then g (λ t r. got (term.Iri t) r)) (λ o e. dotted (record { subject = sub; predicate = pre; object = o }) (unblanked e))) h
iri_stops what.datatype s r k h = λ f. ap (λ g. and_then g (λ datatype z. if_literal (60 ∷ s) z (typed f datatype))) h

not_absolute : (here x t : List ℕ) (a : Result (List ℕ) TermError) → read_iri t ≡ a → read_iri t ≢ Ok t → if_absolute here x a ≡ stop Relative here
not_absolute here x t (Ok y) e h = absurd (h (e ∙ ap (λ z. Ok z) (sym (same_text t y e))))
not_absolute here x t (Err y) e h = refl

pub relative_refused : (p r : List ℕ) → what.RelativeStands p r → line (p ++ r) ≡ stop Relative r
relative_refused p _ (what.as_part {x} {s} {t} r h b n) =
    let here = 60 ∷ (s ++ 62 ∷ r) in
    before_stops x p here here Relative h (iri_stops x (s ++ 62 ∷ r) here Relative (ap (λ g. and_then g (λ t r. if_absolute here r (read_iri t))) (body_reads Iri s t r b) ∙ not_absolute here r t (read_iri t) refl n))

-- ---- escapes

misnumber : (q : Quote) (ds rest : List ℕ) (n : ℕ) → length ds ≡ n → list_all is_ascii_hexdigit ds ≡ true → strict.may_name q (hex_value 0 ds) ≡ false → numbered q n (ds ++ rest) ≡ misnames
misnumber q ds rest n e h m =
    let front = front_of ds rest n e in
    whole_number q n (ds ++ rest) (ap (prefix_len is_ascii_hexdigit) front ∙ all_pass is_ascii_hexdigit ds h ∙ e) ∙ ap (λ t. naming q (hex_value 0 t) (n + 1)) front ∙ rw m refl

escape_refused : (q : Quote) (e r : List ℕ) → what.IsMisnamed q e → escape_at q (e ++ r) ≡ misnames
unfolding escape_at
escape_refused q _ r (what.four {q = x} {ds} e h m) = misnumber x ds r 4 e h m
escape_refused q _ r (what.eight {q = x} {ds} e h m) = misnumber x ds r 8 e h m

backslash_stops : (q : Quote) (s : List ℕ) → escape_at q s ≡ misnames → body q 0 (92 ∷ s) ≡ stop Bad (92 ∷ s)
unfolding body
backslash_stops q s e = rw (backslash_plain q, backslash_closing q, e) refl

body_refused : (q : Quote) (s t e r : List ℕ) → strict.IsBody q s t → what.IsMisnamed q e → body q 0 (s ++ 92 ∷ (e ++ r)) ≡ stop Bad (92 ∷ (e ++ r))
body_refused q _ _ e r (strict.nothing {q = x}) m = backslash_stops x (e ++ r) (escape_refused x e r m)
body_refused q _ _ e r (strict.itself {q = x} {b} {s} {t} h more) m = body_plain x b (s ++ 92 ∷ (e ++ r)) h ∙ ap (in_front (b ∷ [])) (body_refused x s t e r more m)
body_refused q _ _ e r (strict.escape {q = x} {e = d} {c} {s} {t} h more) m =
    ap (λ z. body x 0 (92 ∷ z)) (append_assoc d s (92 ∷ (e ++ r))) ∙ body_escapes x (d ++ (s ++ 92 ∷ (e ++ r))) c (length d) (escape_reads x d c (s ++ 92 ∷ (e ++ r)) h)
    ∙ ap (λ z. in_front c (body x 0 z)) (back_of d (s ++ 92 ∷ (e ++ r)) (length d) refl) ∙ ap (in_front c) (body_refused x s t e r more m)

pub misnamed_refused : (p r : List ℕ) → what.MisnamedStands p r → line (p ++ r) ≡ stop Bad r
misnamed_refused _ _ (what.in_iri {x} {p} {s} {t} {e} r h b m) =
    let rest = 92 ∷ (e ++ r) in
    ap line (append_assoc p (60 ∷ s) rest)
    ∙ before_stops x p (60 ∷ (s ++ rest)) rest Bad h (iri_stops x (s ++ rest) rest Bad (ap (λ g. and_then g (λ t r. if_absolute (60 ∷ (s ++ rest)) r (read_iri t))) (body_refused Iri s t e r b m)))
misnamed_refused _ _ (what.in_string {p} {s} {t} {e} r h b m) =
    let rest = 92 ∷ (e ++ r) in
    ap line (append_assoc p (34 ∷ s) rest)
    ∙ before_stops what.object p (34 ∷ (s ++ rest)) rest Bad h (λ sub pre. ap (λ g. and_then (and_then g literal) (λ o e. dotted (record { subject = sub; predicate = pre; object = o }) (unblanked e))) (body_refused Text s t e r b m))

-- ---- rdf:langString

lang_is_refused : (here x f : List ℕ) → if_literal here x (typed f rdf_lang_string) ≡ stop Bad here
lang_is_refused here x f = refl

pub lang_refused : (p r : List ℕ) → what.LangStringStands p r → line (p ++ r) ≡ stop Bad r
lang_refused p _ (what.as_datatype {s} r h i) =
    before_stops what.datatype p (s ++ r) (s ++ r) Bad h (λ f.
    ap (λ z. and_then (iri z) (λ datatype y. if_literal z y (typed f datatype))) (iri_unblanked s rdf_lang_string r i)
    ∙ ap (λ g. and_then g (λ datatype y. if_literal (s ++ r) y (typed f datatype))) (iri_reads s rdf_lang_string r i) ∙ lang_is_refused (s ++ r) r f)
