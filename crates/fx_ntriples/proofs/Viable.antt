-- Which lines begin with what stands before a place.
use Rattle.std.proofs.Common.{◌≡◌, ℕ, Bool, true, false, cond, Ok, Err, List, [], ◌∷◌, ◌++◌, refl, sym, ap, ◌∙◌, subst, append_assoc}
use Rattle.fx_terms.specs.Literals.{is_tag}
use Rattle.fx_terms.specs.declared.terms.Term.{Term}
use Rattle.fx_ntriples.specs.declared.quotes.Quote.{Quote}
use Rattle.fx_ntriples.specs.declared.quotes.Quote.TheVariants.{Iri, Text}
use Rattle.fx_ntriples.specs.Quotes as strict
use Rattle.fx_ntriples.specs.Forms as form
use Rattle.fx_ntriples.specs.Loose as loose
use Rattle.fx_ntriples.specs.Refusals.{Part, subject, predicate, object, datatype, Before, first, second, third, fourth}
use Rattle.fx_ntriples.proofs.States.{start, next, Goes, goes_then, goes_blanks, at, blank_at, iri_goes, hats_go}

-- ---- what is of the forms is of the loose ones

pub loose_escape : (q : Quote) (e c : List ℕ) → strict.IsEscape q e c → loose.IsEscape q e
loose_escape q _ _ (strict.letter h) = loose.letter h
loose_escape q _ _ (strict.four e h m) = loose.four e h
loose_escape q _ _ (strict.eight e h m) = loose.eight e h

pub loose_body : (q : Quote) (s t : List ℕ) → strict.IsBody q s t → loose.IsBody q s
loose_body q _ _ strict.nothing = loose.nothing
loose_body q _ _ (strict.itself {q = r} {b} {s} {t} h more) = loose.itself h (loose_body r s t more)
loose_body q _ _ (strict.escape {q = r} {e} {c} {s} {t} h more) = loose.escape (loose_escape r e c h) (loose_body r s t more)

pub loose_iri : (s t : List ℕ) → form.IsIriRef s t → loose.IsIriRef s
loose_iri _ _ (form.iriref {s} {t} h e) = loose.iriref (loose_body Iri s t h)

pub loose_string : (s t : List ℕ) → form.IsString s t → loose.IsString s
loose_string _ _ (form.quoted {s} {t} h) = loose.quoted (loose_body Text s t h)

is_a_tag : (v : Bool) {A B : Type 0} (a x : A) (b : B) → cond v (Ok a) (Err b) ≡ Ok x → v ≡ true
is_a_tag true a x b h = refl
is_a_tag false a x b h = absurd (cc)

pub loose_object : (s : List ℕ) (o : Term) → form.IsObject s o → loose.IsObject s
loose_object _ _ (form.reference {s} {t} h) = loose.reference (loose_iri s t h)
loose_object _ _ (form.alone {s} {form = f} h) = loose.alone (loose_string s f h)
loose_object _ _ (form.with_tag {s} {form = f} t {l} h e) = loose.with_tag t (loose_string s f h) (is_a_tag (is_tag t) _ _ _ e)
loose_object _ _ (form.with_datatype {s} {form = f} {datatype} a b d {l} h x y i e) = loose.with_datatype a b d (loose_string s f h) x y (loose_iri d datatype i)

-- ---- what completes a line behind a part's beginning: that part, those behind it, and a dot

abbrev pub Rest : Part → List ℕ → Type 0
Rest subject u = (s b p c o d : List ℕ) × loose.IsIriRef s × form.AreBlanks b × loose.IsIriRef p × form.AreBlanks c × loose.IsObject o × form.AreBlanks d × (u ≡ s ++ (b ++ (p ++ (c ++ (o ++ (d ++ 46 ∷ []))))))
Rest predicate u = (p c o d : List ℕ) × loose.IsIriRef p × form.AreBlanks c × loose.IsObject o × form.AreBlanks d × (u ≡ p ++ (c ++ (o ++ (d ++ 46 ∷ []))))
Rest object u = (o d : List ℕ) × loose.IsObject o × form.AreBlanks d × (u ≡ o ++ (d ++ 46 ∷ []))
Rest datatype u = (d : List ℕ) × loose.IsIriRef d × (u ≡ d ++ 46 ∷ [])

pub line_from : (x : Part) (p u : List ℕ) → Before x p → Rest x u → loose.IsLine (p ++ u)
line_from x _ u (first {a} h) r =
    subst (λ z. loose.IsLine (a ++ z)) (sym r.12) (loose.says a r.1 r.3 r.5 [] [] r.0 r.2 r.4 h r.7 r.9 r.11 refl tt r.6 r.8 r.10)
line_from x _ u (second p s a {t} before i h) r =
    subst loose.IsLine (ap (λ z. p ++ z) (sym (append_assoc s a u)) ∙ sym (append_assoc p (s ++ a) u))
    (line_from subject p (s ++ (a ++ u)) before (s, a, r.0, r.1, r.2, r.3, loose_iri s t i, h, r.4, r.5, r.6, r.7, ap (λ z. s ++ (a ++ z)) r.8))
line_from x _ u (third p s a {t} before i h) r =
    subst loose.IsLine (ap (λ z. p ++ z) (sym (append_assoc s a u)) ∙ sym (append_assoc p (s ++ a) u))
    (line_from predicate p (s ++ (a ++ u)) before (s, a, r.0, r.1, loose_iri s t i, h, r.2, r.3, ap (λ z. s ++ (a ++ z)) r.4))
line_from x _ u (fourth p s a b {t} before i h k) r =
    let o = s ++ (a ++ 94 ∷ 94 ∷ (b ++ r.0)) in
    let shape : (s ++ (a ++ 94 ∷ 94 ∷ b)) ++ u ≡ o ++ 46 ∷ [] =
    append_assoc s (a ++ 94 ∷ 94 ∷ b) u
    ∙ ap (λ z. s ++ z) (append_assoc a (94 ∷ 94 ∷ b) u ∙ ap (λ z. a ++ 94 ∷ 94 ∷ z) (ap (λ z. b ++ z) r.2 ∙ sym (append_assoc b r.0 (46 ∷ []))) ∙ sym (append_assoc a (94 ∷ 94 ∷ (b ++ r.0)) (46 ∷ [])))
    ∙ sym (append_assoc s (a ++ 94 ∷ 94 ∷ (b ++ r.0)) (46 ∷ [])) in
    subst loose.IsLine (sym (append_assoc p (s ++ (a ++ 94 ∷ 94 ∷ b)) u))
    (line_from object p ((s ++ (a ++ 94 ∷ 94 ∷ b)) ++ u) before (o, [], loose.with_datatype a b r.0 (loose_string s t i) h k r.1, refl, shape))

-- the shortest IRIREF
pub empty_iri : loose.IsIriRef (60 ∷ 62 ∷ [])
empty_iri = loose.iriref loose.nothing

-- from an IRIREF on
pub rest_of : (x : Part) (s : List ℕ) → loose.IsIriRef s → (w : List ℕ) × Rest x (s ++ w)
rest_of subject s h = (60 ∷ 62 ∷ 60 ∷ 62 ∷ 46 ∷ [], (s, [], 60 ∷ 62 ∷ [], [], 60 ∷ 62 ∷ [], [], h, refl, empty_iri, refl, loose.reference empty_iri, refl, refl))
rest_of predicate s h = (60 ∷ 62 ∷ 46 ∷ [], (s, [], 60 ∷ 62 ∷ [], [], h, refl, loose.reference empty_iri, refl, refl))
rest_of object s h = (46 ∷ [], (s, [], loose.reference h, refl, refl))
rest_of datatype s h = (46 ∷ [], (s, h, refl))

-- ---- states before a part

pub before_goes : (x : Part) (p : List ℕ) → Before x p → Goes start p (at x)
before_goes x _ (first {a} h) = goes_blanks start a (blank_at subject) h
before_goes x _ (second p s a {t} before i h) =
    goes_then start start (next predicate) p (s ++ a) (before_goes subject p before) (goes_then start (next predicate) (next predicate) s a (iri_goes subject s (loose_iri s t i)) (goes_blanks (next predicate) a (blank_at predicate) h))
before_goes x _ (third p s a {t} before i h) =
    goes_then start (next predicate) (next object) p (s ++ a) (before_goes predicate p before) (goes_then (next predicate) (next object) (next object) s a (iri_goes predicate s (loose_iri s t i)) (goes_blanks (next object) a (blank_at object) h))
before_goes x _ (fourth p s a b {t} before i h k) =
    goes_then start (next object) (next datatype) p (s ++ (a ++ 94 ∷ 94 ∷ b)) (before_goes object p before) (hats_go s a b (loose_string s t i) h k)
