-- What stands where the reading stops.
use Rattle.std.proofs.Common.{◌≡◌, ◌≢◌, ℕ, zero, suc, ◌==◌, ◌⊎◌, inl, inr, Bool, true, false, cond, Option, Some, None, Result, Ok, Err, List, [], ◌∷◌, ◌++◌, take, refl, sym, ap, ◌∙◌, subst, append_assoc}
use Rattle.std.proofs.lemmas.Bool.{eqb-true}
use Rattle.fx_terms.specs.declared.terms.Term.TheVariants as term
use Rattle.fx_terms.specs.declared.triples.Triple.{Triple}
use Rattle.fx_terms.specs.declared.iris.TermError.{TermError}
use Rattle.fx_terms.specs.declared.literals.LiteralError.{LiteralError}
use Rattle.fx_terms.specs.Iris.{read_iri}
use Rattle.fx_terms.specs.Literals.{LiteralParts, plain, typed, tagged}
use Rattle.fx_ntriples.specs.declared.faults.Fault.{Fault}
use Rattle.fx_ntriples.specs.declared.faults.Fault.TheVariants.{Bad, Blank, Relative}
use Rattle.fx_ntriples.specs.declared.quotes.Quote.{Quote}
use Rattle.fx_ntriples.specs.declared.quotes.Quote.TheVariants.{Iri, Text}
use Rattle.fx_rules.specs.Rule.{and_then}
use Rattle.fx_ntriples.specs.Quotes.{Got, got, stop, in_front, Escape, names, misnames, breaks, escaped, escape_at, body, is_plain, closing}
use Rattle.fx_ntriples.specs.Reading.{unblanked, iri, tag_len, if_absolute, if_literal, with_tag, with_datatype, untagged, literal, subject, object, dotted, triple, ended, said, line}
use Rattle.fx_ntriples.specs.Forms as form
use Rattle.fx_ntriples.specs.Refusals as what
use Rattle.fx_ntriples.proofs.Outcomes.{same_fault, same_place}
use Rattle.fx_ntriples.proofs.Sound.{body_spelled, subject_spelled, iri_spelled, blanks_spelled}

pub in_front_stop : (c : List ℕ) (g : Got (List ℕ)) (k : Fault) (r : List ℕ) → in_front c g ≡ stop k r → g ≡ stop k r
in_front_stop c (Ok p) k r h = absurd (cc)
in_front_stop c (Err f) k r h = h

-- a reading after another stops: the first stops, or it gives something behind which the other stops
pub and_then_stop : {A B : Type 0} (g : Got A) (f : A → List ℕ → Got B) (k : Fault) (r : List ℕ) → and_then g f ≡ stop k r → (g ≡ stop k r) ⊎ ((a : A) × (s : List ℕ) × (g ≡ got a s) × (f a s ≡ stop k r))
and_then_stop (Ok p) f k r h = inr (p.0, p.1, refl, h)
and_then_stop (Err j) f k r h = inl (let same : j ≡ (k, r) = cc in ap Err same)

-- ---- between signs nothing but Bad stands

escape_stop : (q : Quote) (s r : List ℕ) (here : List ℕ) (k : Fault) (e : Escape) → ((n : ℕ) → body q n s ≡ stop k r → k ≡ Bad) → escaped e here (λ n. body q n s) ≡ stop k r → k ≡ Bad
escape_stop q s r here k (names c n) ih h = ih n (in_front_stop c (body q n s) k r h)
escape_stop q s r here k misnames ih h = sym (same_fault h)
escape_stop q s r here k (breaks x) ih h = sym (same_fault h)

body_test : (q : Quote) (b : ℕ) (s r : List ℕ) (k : Fault) (v w x : Bool) → ((n : ℕ) → body q n s ≡ stop k r → k ≡ Bad) →
    cond v (in_front (b ∷ []) (body q 0 s)) (cond w (got [] s) (cond x (escaped (escape_at q s) (b ∷ s) (λ n. body q n s)) (stop Bad (b ∷ s)))) ≡ stop k r → k ≡ Bad
body_test q b s r k true w x ih h = ih 0 (in_front_stop (b ∷ []) (body q 0 s) k r h)
body_test q b s r k false true x ih h = absurd (cc)
body_test q b s r k false false true ih h = escape_stop q s r (b ∷ s) k (escape_at q s) ih h
body_test q b s r k false false false ih h = sym (same_fault h)

body_stop : (q : Quote) (n : ℕ) (s r : List ℕ) (k : Fault) → body q n s ≡ stop k r → k ≡ Bad
unfolding body
body_stop q n [] r k h = sym (same_fault h)
body_stop q zero (b ∷ s) r k h = body_test q b s r k (is_plain q b) (b == closing q) (b == 92) (λ n g. body_stop q n s r k g) h
body_stop q (suc n) (b ∷ s) r k h = body_stop q n s r k h

-- ---- terms: a fault and what stands at it, behind p

unfoldable pub Stands : Fault → List ℕ → List ℕ → Type 0
Stands Bad p r = Unit {0}
Stands Blank p r = what.BlankStands p r
Stands Relative p r = what.RelativeStands p r

-- a text is p and the place of the fault; or the fault is Bad
pub record Stopped (k : Fault) (l r : List ℕ) : Type 0 where
  pub front : List ℕ
  pub is : l ≡ front ++ r
  pub stands : Stands k front r

unfoldable pub Ends : Fault → List ℕ → List ℕ → Type 0
Ends k l r = (k ≡ Bad) ⊎ Stopped k l r

absolute_stop : (here x r u : List ℕ) (k : Fault) (a : Result (List ℕ) TermError) → read_iri u ≡ a → if_absolute here x a ≡ stop k r → (k ≡ Relative) × (here ≡ r) × (read_iri u ≢ Ok u)
absolute_stop here x r u k (Ok t) e h = absurd (cc)
absolute_stop here x r u k (Err y) e h = (sym (same_fault h), same_place h, λ f. absurd (cc))

iri_test : (y : what.Part) (p : List ℕ) (b : ℕ) (s r : List ℕ) (k : Fault) (v : Bool) → what.Before y p → (b == 60) ≡ v →
    cond v (and_then (body Iri 0 s) (λ t r. if_absolute (b ∷ s) r (read_iri t))) (stop Bad (b ∷ s)) ≡ stop k r → Ends k (p ++ b ∷ s) r
unfolding Ends Stands
iri_test y p b s r k true at e h =
    elim (and_then_stop (body Iri 0 s) (λ t r. if_absolute (b ∷ s) r (read_iri t)) k r h) [
      | inl g ↦ inl (body_stop Iri 0 s r k g)
      | inr g ↦ inr (
          let m = body_spelled Iri 0 s g.0 g.1 g.2 in
          let a = absolute_stop (b ∷ s) g.1 r g.0 k (read_iri g.0) refl g.3 in
          let shape : 60 ∷ (m.raw ++ 62 ∷ g.1) ≡ r = ap (λ z. 60 ∷ z) (sym m.is) ∙ ap (λ z. z ∷ s) (sym (eqb-true b 60 e)) ∙ a.1 in
          let there : what.RelativeStands p r = subst (what.RelativeStands p) shape (what.as_part g.1 at m.spelled a.2) in
          subst (λ (j : Fault). Stopped j (p ++ b ∷ s) r) (sym a.0) (record { front = p; is = ap (λ z. p ++ z) a.1; stands = there }))
    ]
iri_test y p b s r k false at e h = inl (sym (same_fault h))

iri_stop : (y : what.Part) (p s r : List ℕ) (k : Fault) → what.Before y p → iri s ≡ stop k r → Ends k (p ++ s) r
unfolding Ends
iri_stop y p [] r k at h = inl (sym (same_fault h))
iri_stop y p (b ∷ s) r k at h = iri_test y p b s r k (b == 60) at refl h

abbrev halted : {A : Type 0} → Fault → List ℕ → Got A
halted k r = stop k r

blank_stop : {A : Type 0} (p s r : List ℕ) (b : ℕ) (k : Fault) → ((x : List ℕ) → what.BlankStands p (95 ∷ x)) → (b == 95) ≡ true → halted {A = A} Blank (b ∷ s) ≡ stop k r → Ends k (p ++ b ∷ s) r
unfolding Ends Stands
blank_stop p s r b k at e h =
    let kind : Blank ≡ k = same_fault h in
    let rest : b ∷ s ≡ r = same_place h in
    inr (subst (λ (j : Fault). Stopped j (p ++ b ∷ s) r) kind (record { front = p; is = ap (λ z. p ++ z) rest; stands = subst (what.BlankStands p) (ap (λ z. z ∷ s) (sym (eqb-true b 95 e)) ∙ rest) (at s) }))

subject_test : (p s r : List ℕ) (b : ℕ) (k : Fault) (v : Bool) → what.Before what.subject p → (b == 95) ≡ v → cond v (stop Blank (b ∷ s)) (iri (b ∷ s)) ≡ stop k r → Ends k (p ++ b ∷ s) r
subject_test p s r b k true at e h = blank_stop p s r b k (λ x. what.as_subject x at) e h
subject_test p s r b k false at e h = iri_stop what.subject p (b ∷ s) r k at h

subject_stop : (p s r : List ℕ) (k : Fault) → what.Before what.subject p → subject s ≡ stop k r → Ends k (p ++ s) r
unfolding Ends
subject_stop p [] r k at h = inl (sym (same_fault h))
subject_stop p (b ∷ s) r k at h = subject_test p s r b k (b == 95) at refl h

made_stop : (here x r : List ℕ) (k : Fault) (a : Result LiteralParts LiteralError) → if_literal here x a ≡ stop k r → k ≡ Bad
made_stop here x r k (Ok l) h = absurd (cc)
made_stop here x r k (Err e) h = sym (same_fault h)

datatype_test : (p str f a z r : List ℕ) (d : ℕ) (k : Fault) (v : Bool) → (d == 94) ≡ v → what.Before what.object p → form.IsString str f → form.AreBlanks a →
    cond v (and_then (iri (unblanked z)) (λ datatype r. if_literal (unblanked z) r (typed f datatype))) (stop Bad (d ∷ z)) ≡ stop k r → Ends k (p ++ (str ++ (a ++ 94 ∷ d ∷ z))) r
unfolding Ends
datatype_test p str f a z r d k true e at h ha g =
    let b = blanks_spelled z in
    let start = p ++ (str ++ (a ++ 94 ∷ 94 ∷ b.raw)) in
    let whole : start ++ unblanked z ≡ p ++ (str ++ (a ++ 94 ∷ d ∷ z)) =
    append_assoc p (str ++ (a ++ 94 ∷ 94 ∷ b.raw)) (unblanked z) ∙ ap (λ y. p ++ y) (append_assoc str (a ++ 94 ∷ 94 ∷ b.raw) (unblanked z) ∙ ap (λ y. str ++ y) (append_assoc a (94 ∷ 94 ∷ b.raw) (unblanked z) ∙ ap (λ y. a ++ 94 ∷ y) (ap (λ y. 94 ∷ y) (sym b.is) ∙ ap (λ y. y ∷ z) (sym (eqb-true d 94 e))))) in
    elim (and_then_stop (iri (unblanked z)) (λ datatype r. if_literal (unblanked z) r (typed f datatype)) k r g) [
      | inl x ↦ subst (λ (l : List ℕ). Ends k l r) whole (iri_stop what.datatype start (unblanked z) r k (what.fourth p str a b.raw at h ha b.blanks) x)
      | inr x ↦ inl (made_stop (unblanked z) x.1 r k (typed f x.0) x.3)
    ]
datatype_test p str f a z r d k false e at h ha g = inl (sym (same_fault g))

datatype_stop : (p str f a y r : List ℕ) (k : Fault) → what.Before what.object p → form.IsString str f → form.AreBlanks a → with_datatype f y ≡ stop k r → Ends k (p ++ (str ++ (a ++ 94 ∷ y))) r
unfolding Ends
datatype_stop p str f a [] r k at h ha g = inl (sym (same_fault g))
datatype_stop p str f a (d ∷ z) r k at h ha g = datatype_test p str f a z r d k (d == 94) refl at h ha g

untagged_test : (p str f a y r : List ℕ) (c : ℕ) (k : Fault) (v : Bool) → (c == 94) ≡ v → what.Before what.object p → form.IsString str f → form.AreBlanks a →
    cond v (with_datatype f y) (got (term.Literal (plain f)) (c ∷ y)) ≡ stop k r → Ends k (p ++ (str ++ (a ++ c ∷ y))) r
untagged_test p str f a y r c k true e at h ha g = subst (λ (z : ℕ). Ends k (p ++ (str ++ (a ++ z ∷ y))) r) (sym (eqb-true c 94 e)) (datatype_stop p str f a y r k at h ha g)
untagged_test p str f a y r c k false e at h ha g = absurd (cc)

untagged_stop : (p str f a u r : List ℕ) (k : Fault) → what.Before what.object p → form.IsString str f → form.AreBlanks a → untagged f u ≡ stop k r → Ends k (p ++ (str ++ (a ++ u))) r
untagged_stop p str f a [] r k at h ha g = absurd (cc)
untagged_stop p str f a (c ∷ y) r k at h ha g = untagged_test p str f a y r c k (c == 94) refl at h ha g

literal_test : (p str f y r : List ℕ) (b : ℕ) (k : Fault) (v : Bool) → what.Before what.object p → form.IsString str f → cond v (with_tag f y) (untagged f (unblanked (b ∷ y))) ≡ stop k r → Ends k (p ++ (str ++ (b ∷ y))) r
unfolding Ends
literal_test p str f y r b k true at h g = inl (made_stop _ _ r k (tagged f (take (tag_len true true y) y)) g)
literal_test p str f y r b k false at h g =
    let m = blanks_spelled (b ∷ y) in
    subst (λ (z : List ℕ). Ends k (p ++ (str ++ z)) r) (sym m.is) (untagged_stop p str f m.raw (unblanked (b ∷ y)) r k at h m.blanks g)

literal_stop : (p str f x r : List ℕ) (k : Fault) → what.Before what.object p → form.IsString str f → literal f x ≡ stop k r → Ends k (p ++ (str ++ x)) r
literal_stop p str f [] r k at h g = absurd (cc)
literal_stop p str f (b ∷ y) r k at h g = literal_test p str f y r b k (b == 64) at h g

object_test : (p s r : List ℕ) (b : ℕ) (k : Fault) (v w : Bool) → (b == 95) ≡ v → (b == 34) ≡ w → what.Before what.object p →
    cond v (stop Blank (b ∷ s)) (cond w (and_then (body Text 0 s) literal) (and_then (iri (b ∷ s)) (λ t r. got (term.Iri t) r))) ≡ stop k r → Ends k (p ++ b ∷ s) r
unfolding Ends
object_test p s r b k true w e f at h = blank_stop p s r b k (λ x. what.as_object x at) e h
object_test p s r b k false true e f at h =
    elim (and_then_stop (body Text 0 s) literal k r h) [
      | inl x ↦ inl (body_stop Text 0 s r k x)
      | inr x ↦
          let m = body_spelled Text 0 s x.0 x.1 x.2 in
          let is : b ∷ s ≡ (34 ∷ (m.raw ++ 34 ∷ [])) ++ x.1 = ap (λ y. y ∷ s) (eqb-true b 34 f) ∙ ap (λ y. 34 ∷ y) (m.is ∙ sym (append_assoc m.raw (34 ∷ []) x.1)) in
          subst (λ (z : List ℕ). Ends k (p ++ z) r) (sym is) (literal_stop p (34 ∷ (m.raw ++ 34 ∷ [])) x.0 x.1 r k at (form.quoted m.spelled) x.3)
    ]
object_test p s r b k false false e f at h =
    elim (and_then_stop (iri (b ∷ s)) (λ t r. got (term.Iri t) r) k r h) [
      | inl x ↦ iri_stop what.object p (b ∷ s) r k at x
      | inr x ↦ absurd (let g = x.3 in cc)
    ]

object_stop : (p s r : List ℕ) (k : Fault) → what.Before what.object p → object s ≡ stop k r → Ends k (p ++ s) r
unfolding Ends
object_stop p [] r k at h = inl (sym (same_fault h))
object_stop p (b ∷ s) r k at h = object_test p s r b k (b == 95) (b == 34) refl refl at h

-- ---- lines

dotted_test : (t : Triple) (b : ℕ) (s r : List ℕ) (k : Fault) (v : Bool) → cond v (got t s) (stop Bad (b ∷ s)) ≡ stop k r → k ≡ Bad
dotted_test t b s r k true h = absurd (cc)
dotted_test t b s r k false h = sym (same_fault h)

dotted_stop : (t : Triple) (s r : List ℕ) (k : Fault) → dotted t s ≡ stop k r → k ≡ Bad
dotted_stop t [] r k h = sym (same_fault h)
dotted_stop t (b ∷ s) r k h = dotted_test t b s r k (b == 46) h

-- a part and its blanks are behind us
pub moved : (k : Fault) (p s a l u v r : List ℕ) → l ≡ s ++ u → u ≡ a ++ v → Ends k ((p ++ (s ++ a)) ++ v) r → Ends k (p ++ l) r
moved k p s a l u v r e f h = subst (λ (z : List ℕ). Ends k z r) (append_assoc p (s ++ a) v ∙ ap (λ y. p ++ y) (append_assoc s a v ∙ ap (λ y. s ++ y) (sym f) ∙ sym e)) h

pub triple_stop : (a l r : List ℕ) (k : Fault) → form.AreBlanks a → triple l ≡ stop k r → Ends k (a ++ l) r
unfolding Ends
triple_stop a l r k ha h =
    let f2 = λ (s : List ℕ) (p : List ℕ) (q : List ℕ). and_then (object (unblanked q)) (λ o e. dotted (record { subject = s; predicate = p; object = o }) (unblanked e)) in
    let f1 = λ (s : List ℕ) (r : List ℕ). and_then (iri (unblanked r)) (f2 s) in
    elim (and_then_stop (subject l) f1 k r h) [
      | inl x ↦ subject_stop a l r k (what.first ha) x
      | inr x ↦
          let si = subject_spelled l x.0 x.1 x.2 in
          let b1 = blanks_spelled x.1 in
          let p1 = a ++ (si.raw ++ b1.raw) in
          let at1 : what.Before what.predicate p1 = what.second a si.raw b1.raw (what.first ha) si.ref b1.blanks in
          moved k a si.raw b1.raw l x.1 (unblanked x.1) r si.is b1.is (
          elim (and_then_stop (iri (unblanked x.1)) (f2 x.0) k r x.3) [
            | inl y ↦ iri_stop what.predicate p1 (unblanked x.1) r k at1 y
            | inr y ↦
                let pi = iri_spelled (unblanked x.1) y.0 y.1 y.2 in
                let b2 = blanks_spelled y.1 in
                let p2 = p1 ++ (pi.raw ++ b2.raw) in
                let at2 : what.Before what.object p2 = what.third p1 pi.raw b2.raw at1 pi.ref b2.blanks in
                moved k p1 pi.raw b2.raw (unblanked x.1) y.1 (unblanked y.1) r pi.is b2.is (
                elim (and_then_stop (object (unblanked y.1)) (λ o e. dotted (record { subject = x.0; predicate = y.0; object = o }) (unblanked e)) k r y.3) [
                  | inl z ↦ object_stop p2 (unblanked y.1) r k at2 z
                  | inr z ↦ inl (dotted_stop (record { subject = x.0; predicate = y.0; object = z.0 }) (unblanked z.1) r k z.3)
                ])
          ])
    ]

ended_test : (t : Option Triple) (b : ℕ) (s r : List ℕ) (k : Fault) (v : Bool) → cond v (got t []) (stop Bad (b ∷ s)) ≡ stop k r → k ≡ Bad
ended_test t b s r k true h = absurd (cc)
ended_test t b s r k false h = sym (same_fault h)

ended_stop : (t : Option Triple) (s r : List ℕ) (k : Fault) → ended t s ≡ stop k r → k ≡ Bad
ended_stop t [] r k h = absurd (cc)
ended_stop t (b ∷ s) r k h = ended_test t b s r k (b == 35) h

said_test : (a : List ℕ) (b : ℕ) (s r : List ℕ) (k : Fault) (v : Bool) → form.AreBlanks a → cond v (got None []) (and_then (triple (b ∷ s)) (λ t r. ended (Some t) (unblanked r))) ≡ stop k r → Ends k (a ++ b ∷ s) r
unfolding Ends
said_test a b s r k true ha h = absurd (cc)
said_test a b s r k false ha h =
    elim (and_then_stop (triple (b ∷ s)) (λ t r. ended (Some t) (unblanked r)) k r h) [
      | inl x ↦ triple_stop a (b ∷ s) r k ha x
      | inr x ↦ inl (ended_stop (Some x.0) (unblanked x.1) r k x.3)
    ]

said_stop : (a s r : List ℕ) (k : Fault) → form.AreBlanks a → said s ≡ stop k r → Ends k (a ++ s) r
said_stop a [] r k ha h = absurd (cc)
said_stop a (b ∷ s) r k ha h = said_test a b s r k (b == 35) ha h

pub line_stop : (l r : List ℕ) (k : Fault) → line l ≡ stop k r → Ends k l r
unfolding line
line_stop l r k h = let m = blanks_spelled l in subst (λ (z : List ℕ). Ends k z r) (sym m.is) (said_stop m.raw (unblanked l) r k m.blanks h)
