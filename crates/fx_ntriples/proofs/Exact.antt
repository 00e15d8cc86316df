-- A line is refused with Bad exactly where Bad stands.
use Rattle.std.proofs.Common.{◌≡◌, ◌≢◌, ℕ, ◌<◌, ◌⊎◌, inl, inr, Option, Ok, Err, List, [], ◌∷◌, ◌++◌, length, refl, sym, ap, ◌∙◌, subst, arith, append_assoc, append-nil, length-append}
use Rattle.fx_terms.specs.declared.triples.Triple.{Triple}
use Rattle.fx_ntriples.specs.declared.faults.Fault.{Fault}
use Rattle.fx_ntriples.specs.declared.faults.Fault.TheVariants.{Bad, Blank, Relative}
use Rattle.fx_ntriples.specs.declared.quotes.Quote.{Quote}
use Rattle.fx_ntriples.specs.declared.quotes.Quote.TheVariants.{Iri, Text}
use Rattle.fx_ntriples.specs.Quotes.{Got, stop}
use Rattle.fx_ntriples.specs.Reading.{line}
use Rattle.fx_ntriples.specs.Forms as form
use Rattle.fx_ntriples.specs.Loose as loose
use Rattle.fx_ntriples.specs.Refusals as what
use Rattle.fx_ntriples.proofs.Outcomes.{same_fault, same_place}
use Rattle.fx_ntriples.proofs.Sound.{line_spelled}
use Rattle.fx_ntriples.proofs.Stops.{Ends, Stands, line_stop}
use Rattle.fx_ntriples.proofs.States as state
use Rattle.fx_ntriples.proofs.Viable.{loose_body, loose_iri, loose_object, line_from, empty_iri, rest_of, before_goes}
use Rattle.fx_ntriples.proofs.Halts.{Sticks, Bads, misnamed, lang_string, otherwise, none_goes_on, line_halt}
use Rattle.fx_ntriples.proofs.Refused.{blank_refused, relative_refused, misnamed_refused, lang_refused}

-- ---- nothing that is refused stands complete before

relative_longer : (p r y : List ℕ) → what.RelativeStands p r → what.RelativeStands p (r ++ y)
relative_longer p _ y (what.as_part {x} {s} {t} r h b n) = subst (what.RelativeStands p) (ap (λ z. 60 ∷ z) (sym (append_assoc s (62 ∷ r) y))) (what.as_part (r ++ y) h b n)

misnamed_longer : (p r y : List ℕ) → what.MisnamedStands p r → what.MisnamedStands p (r ++ y)
misnamed_longer _ _ y (what.in_iri {x} {p} {s} {t} {e} r h b m) = subst (what.MisnamedStands (p ++ 60 ∷ s)) (ap (λ z. 92 ∷ z) (sym (append_assoc e r y))) (what.in_iri (r ++ y) h b m)
misnamed_longer _ _ y (what.in_string {p} {s} {t} {e} r h b m) = subst (what.MisnamedStands (p ++ 34 ∷ s)) (ap (λ z. 92 ∷ z) (sym (append_assoc e r y))) (what.in_string (r ++ y) h b m)

lang_longer : (p r y : List ℕ) → what.LangStringStands p r → what.LangStringStands p (r ++ y)
lang_longer p _ y (what.as_datatype {s} r h i) = subst (what.LangStringStands p) (sym (append_assoc s r y)) (what.as_datatype (r ++ y) h i)

misnamed_some : (p r : List ℕ) → what.MisnamedStands p r → 0 < length r
misnamed_some _ _ (what.in_iri r h b m) = omega arith
misnamed_some _ _ (what.in_string r h b m) = omega arith

iri_some : (s t : List ℕ) → form.IsIriRef s t → 0 < length s
iri_some _ _ (form.iriref h e) = omega arith

lang_some : (p r : List ℕ) → what.LangStringStands p r → 0 < length r
lang_some p _ (what.as_datatype {s} r h i) = omega (arith, length-append s r, iri_some s _ i)

abbrev stopped : {A : Type 0} → Fault → List ℕ → Got A
stopped k r = stop k r

too_long : (r y : List ℕ) → 0 < length r → r ++ y ≡ y → ⊥
too_long r y some e = omega (arith, some, ap length e, length-append r y)

complete_before : (front rest p r : List ℕ) → line (front ++ rest) ≡ stop Bad rest → p ++ r ≡ front → what.Complete p r → ⊥
complete_before front rest p r h e (what.relative k) =
    let there : line (p ++ (r ++ rest)) ≡ stop Relative (r ++ rest) = relative_refused p (r ++ rest) (relative_longer p r rest k) in
    let same : line (p ++ (r ++ rest)) ≡ stop Bad rest = ap line (sym (append_assoc p r rest) ∙ ap (λ z. z ++ rest) e) ∙ h in
    let other : Relative ≡ Bad = same_fault (sym there ∙ same) in
    cc
complete_before front rest p r h e (what.misnaming k) =
    let there : line (p ++ (r ++ rest)) ≡ stop Bad (r ++ rest) = misnamed_refused p (r ++ rest) (misnamed_longer p r rest k) in
    let same : line (p ++ (r ++ rest)) ≡ stop Bad rest = ap line (sym (append_assoc p r rest) ∙ ap (λ z. z ++ rest) e) ∙ h in
    too_long r rest (misnamed_some p r k) (same_place (sym there ∙ same))
complete_before front rest p r h e (what.tagless k) =
    let there : line (p ++ (r ++ rest)) ≡ stop Bad (r ++ rest) = lang_refused p (r ++ rest) (lang_longer p r rest k) in
    let same : line (p ++ (r ++ rest)) ≡ stop Bad rest = ap line (sym (append_assoc p r rest) ∙ ap (λ z. z ++ rest) e) ∙ h in
    too_long r rest (lang_some p r k) (same_place (sym there ∙ same))

no_blank : (front rest : List ℕ) → line (front ++ rest) ≡ stop Bad rest → what.BlankStands front rest → ⊥
no_blank front rest h b = let there = blank_refused front rest b in let other : Blank ≡ Bad = same_fault (sym there ∙ h) in cc

pub record Refusal (l r : List ℕ) : Type 0 where
  pub front : List ℕ
  pub is : l ≡ front ++ r
  pub bad : what.BadStands front r

bad_is : (front r : List ℕ) → line (front ++ r) ≡ stop Bad r → Bads front r → what.BadStands front r
bad_is front r h (misnamed k) = what.misnamed k
bad_is front r h (lang_string k) = what.lang_string k
bad_is front r h (otherwise k) = what.otherwise (record { begins = k.begins; stops = k.stops; before = λ p s e c. complete_before front r p s h e c; named = no_blank front r h })

-- where the reading stops at Bad, Bad stands
pub line_bad : (l r : List ℕ) → line l ≡ stop Bad r → Refusal l r
line_bad l r h = let x = line_halt l r h in record { front = x.front; is = x.is; bad = bad_is x.front r (ap line (sym x.is) ∙ h) x.bad }

-- ---- the other way round

-- of two fronts of a text one begins with the other
fronts : (a x f r : List ℕ) → a ++ x ≡ f ++ r → ((y : List ℕ) × (f ≡ a ++ y)) ⊎ ((b : ℕ) × (z : List ℕ) × (a ≡ f ++ b ∷ z) × (r ≡ b ∷ (z ++ x)))
fronts [] x f r e = inl (f, refl)
fronts (b ∷ a) x [] r e = inr (b, a, refl, sym e)
fronts (b ∷ a) x (c ∷ f) r e =
    let head : b ≡ c = cc in
    let tail : a ++ x ≡ f ++ r = cc in
    elim (fronts a x f r tail) [
      | inl m ↦ inl (m.0, (λ i. sym head i ∷ m.1 i))
      | inr m ↦ inr (m.0, m.1, (λ i. head i ∷ m.2 i), m.3)
    ]

-- what a loose line begins with doesn't go on over a place where none goes on
within : (front rest a x : List ℕ) → what.NoneGoesOn front rest → a ++ x ≡ front ++ rest → (w : List ℕ) → loose.IsLine (a ++ w) → (y : List ℕ) × (front ≡ a ++ y)
within front rest a x stops e w l =
    elim (fronts a x front rest e) [
      | inl m ↦ m
      | inr m ↦ absurd (
          let none : what.NoneGoesOn front (m.0 ∷ (m.1 ++ x)) = subst (what.NoneGoesOn front) m.3 stops in
          none (m.1 ++ w) (subst loose.IsLine (ap (λ z. z ++ w) m.2 ∙ append_assoc front (m.0 ∷ m.1) w) l))
    ]

nothing_left : (f y z : List ℕ) → f ≡ (f ++ y) ++ z → y ≡ []
nothing_left f [] z e = refl
nothing_left f (b ∷ y) z e = absurd (omega (arith, ap length e, length-append (f ++ b ∷ y) z, length-append f (b ∷ y)))

one_front : (f r g s : List ℕ) → Sticks f r → Sticks g s → f ++ r ≡ g ++ s → g ≡ f
one_front f r g s h k e =
    let m = within g s f r k.stops e h.begins.0 h.begins.1 in
    let n = within f r g s h.stops (sym e) k.begins.0 k.begins.1 in
    m.1 ∙ ap (λ z. f ++ z) (nothing_left f m.0 n.0 (n.1 ∙ ap (λ z. z ++ n.0) m.1)) ∙ append-nil f

loose_line : (l : List ℕ) (t : Option Triple) → form.IsLine l t → loose.IsLine l
loose_line _ _ (form.empty a c h k) = loose.empty a c h k
loose_line _ _ (form.says a b c d e f s p o {subject} {predicate} {object} ha hb hc hd he hf hs hp ho) = loose.says a b c d e f s p o ha hb hc hd he hf (loose_iri s subject hs) (loose_iri p predicate hp) (loose_object o object ho)

not_read : (front rest : List ℕ) → what.NoneGoesOn front rest → loose.IsLine (front ++ rest) → ⊥
not_read front [] stops l = stops (subst loose.IsLine (append-nil front) l)
not_read front (b ∷ s) stops l = stops s l

rest_is : (f r g s : List ℕ) → f ++ r ≡ g ++ s → g ≡ f → r ≡ s
rest_is f r g s e h = same_tail f r s (e ∙ ap (λ z. z ++ s) h)
  where
    same_tail : (f r s : List ℕ) → f ++ r ≡ f ++ s → r ≡ s
    same_tail [] r s e = e
    same_tail (b ∷ f) r s e = same_tail f r s (let t : f ++ r ≡ f ++ s = cc in t)

-- ---- what stands complete begins a loose line

loose_append : (q : Quote) (s c : List ℕ) → loose.IsBody q s → loose.IsBody q c → loose.IsBody q (s ++ c)
loose_append q _ c loose.nothing k = k
loose_append q _ c (loose.itself h more) k = loose.itself h (loose_append q _ c more k)
loose_append q _ c (loose.escape {e} {s} h more) k = subst (loose.IsBody q) (ap (λ z. 92 ∷ z) (sym (append_assoc e s c))) (loose.escape h (loose_append q s c more k))

loose_misnamed : (q : Quote) (e : List ℕ) → what.IsMisnamed q e → loose.IsEscape q e
loose_misnamed q _ (what.four e h m) = loose.four e h
loose_misnamed q _ (what.eight e h m) = loose.eight e h

-- a token that is complete behind p, and what completes the line
iri_begins : (x : what.Part) (p s : List ℕ) → what.Before x p → loose.IsIriRef s → (w : List ℕ) × loose.IsLine ((p ++ s) ++ w)
iri_begins x p s h k = let m = rest_of x s k in (m.0, subst loose.IsLine (sym (append_assoc p s m.0)) (line_from x p (s ++ m.0) h m.1))

string_begins : (p s : List ℕ) → what.Before what.object p → loose.IsString s → (w : List ℕ) × loose.IsLine ((p ++ s) ++ w)
string_begins p s h k = (46 ∷ [], subst loose.IsLine (sym (append_assoc p s (46 ∷ []))) (line_from what.object p (s ++ 46 ∷ []) h (s, [], loose.alone k, refl, refl)))

between : (p s e : List ℕ) (o c : ℕ) (w : List ℕ) → (p ++ o ∷ ((s ++ 92 ∷ (e ++ [])) ++ c ∷ [])) ++ w ≡ ((p ++ o ∷ s) ++ 92 ∷ e) ++ (c ∷ w)
between p s e o c w =
    append_assoc p (o ∷ ((s ++ 92 ∷ (e ++ [])) ++ c ∷ [])) w
    ∙ ap (λ z. p ++ o ∷ z) (append_assoc (s ++ 92 ∷ (e ++ [])) (c ∷ []) w ∙ append_assoc s (92 ∷ (e ++ [])) (c ∷ w) ∙ ap (λ z. s ++ 92 ∷ (z ++ c ∷ w)) (append-nil e))
    ∙ sym (append_assoc p (o ∷ s) (92 ∷ (e ++ c ∷ w))) ∙ sym (append_assoc (p ++ o ∷ s) (92 ∷ e) (c ∷ w))

-- a refusal that is complete can't stand behind a place where no line goes on, and must stand before it
complete_refused : (front rest p a x : List ℕ) → what.NoneGoesOn front rest → ((q r : List ℕ) → q ++ r ≡ front → what.Complete q r → ⊥) → (w : List ℕ) → loose.IsLine ((p ++ a) ++ w) → p ++ (a ++ x) ≡ front ++ rest →
    ((y : List ℕ) → what.Complete p (a ++ y)) → ⊥
complete_refused front rest p a x stops before w l e c =
    let m = within front rest (p ++ a) x stops (append_assoc p a x ∙ e) w l in
    before p (a ++ m.0) (sym (append_assoc p a m.0) ∙ sym m.1) (c m.0)

relative_elsewhere : (front rest p r : List ℕ) → what.NoneGoesOn front rest → ((q r : List ℕ) → q ++ r ≡ front → what.Complete q r → ⊥) → p ++ r ≡ front ++ rest → what.RelativeStands p r → ⊥
relative_elsewhere front rest p _ stops before e (what.as_part {x} {s} {t} r h b n) =
    let a = 60 ∷ (s ++ 62 ∷ []) in
    let l = iri_begins x p a h (loose.iriref (loose_body Iri s t b)) in
    complete_refused front rest p a r stops before l.0 l.1 (ap (λ z. p ++ 60 ∷ z) (append_assoc s (62 ∷ []) r) ∙ e)
    (λ y. what.relative (subst (what.RelativeStands p) (ap (λ z. 60 ∷ z) (sym (append_assoc s (62 ∷ []) y))) (what.as_part y h b n)))

misnamed_elsewhere : (front rest p r : List ℕ) → what.NoneGoesOn front rest → ((q r : List ℕ) → q ++ r ≡ front → what.Complete q r → ⊥) → p ++ r ≡ front ++ rest → what.MisnamedStands p r → ⊥
misnamed_elsewhere front rest _ _ stops before e (what.in_iri {x} {p} {s} {t} {e = d} r h b m) =
    let l = iri_begins x p (60 ∷ ((s ++ 92 ∷ (d ++ [])) ++ 62 ∷ [])) h (loose.iriref (loose_append Iri s (92 ∷ (d ++ [])) (loose_body Iri s t b) (loose.escape (loose_misnamed Iri d m) loose.nothing))) in
    complete_refused front rest (p ++ 60 ∷ s) (92 ∷ d) r stops before (62 ∷ l.0) (subst loose.IsLine (between p s d 60 62 l.0) l.1) e (λ y. what.misnaming (what.in_iri y h b m))
misnamed_elsewhere front rest _ _ stops before e (what.in_string {p} {s} {t} {e = d} r h b m) =
    let l = string_begins p (34 ∷ ((s ++ 92 ∷ (d ++ [])) ++ 34 ∷ [])) h (loose.quoted (loose_append Text s (92 ∷ (d ++ [])) (loose_body Text s t b) (loose.escape (loose_misnamed Text d m) loose.nothing))) in
    complete_refused front rest (p ++ 34 ∷ s) (92 ∷ d) r stops before (34 ∷ l.0) (subst loose.IsLine (between p s d 34 34 l.0) l.1) e (λ y. what.misnaming (what.in_string y h b m))

lang_elsewhere : (front rest p r : List ℕ) → what.NoneGoesOn front rest → ((q r : List ℕ) → q ++ r ≡ front → what.Complete q r → ⊥) → p ++ r ≡ front ++ rest → what.LangStringStands p r → ⊥
lang_elsewhere front rest p _ stops before e (what.as_datatype {s} r h i) =
    let l = iri_begins what.datatype p s h (loose_iri s _ i) in
    complete_refused front rest p s r stops before l.0 l.1 e (λ y. what.tagless (what.as_datatype y h i))

-- at a blank node no line goes on
blank_sticks : (p r : List ℕ) → what.BlankStands p r → Sticks p r
blank_sticks p _ (what.as_subject r h) =
    let m = rest_of what.subject (60 ∷ 62 ∷ []) empty_iri in
    record { begins = (60 ∷ 62 ∷ m.0, line_from what.subject p (60 ∷ 62 ∷ m.0) h m.1); stops = none_goes_on p (95 ∷ r) state.start (before_goes what.subject p h) refl }
blank_sticks p _ (what.as_object r h) =
    let m = rest_of what.object (60 ∷ 62 ∷ []) empty_iri in
    record { begins = (60 ∷ 62 ∷ m.0, line_from what.object p (60 ∷ 62 ∷ m.0) h m.1); stops = none_goes_on p (95 ∷ r) (state.next what.object) (before_goes what.object p h) refl }

sticks : (front rest : List ℕ) → what.OtherwiseStands front rest → Sticks front rest
sticks front rest h = record { begins = h.begins; stops = h.stops }

bad_elsewhere : (front rest g s : List ℕ) → what.OtherwiseStands front rest → g ++ s ≡ front ++ rest → Bads g s → s ≡ rest
bad_elsewhere front rest g s h e (misnamed k) = absurd (misnamed_elsewhere front rest g s h.stops h.before e k)
bad_elsewhere front rest g s h e (lang_string k) = absurd (lang_elsewhere front rest g s h.stops h.before e k)
bad_elsewhere front rest g s h e (otherwise k) = sym (rest_is front rest g s (sym e) (one_front front rest g s (sticks front rest h) k (sym e)))

other_fault : (front rest g s : List ℕ) (k : Fault) → (k ≢ Bad) → what.OtherwiseStands front rest → g ++ s ≡ front ++ rest → Stands k g s → ⊥
unfolding Stands
other_fault front rest g s Bad n h e t = n refl
other_fault front rest g s Blank n h e t =
    let k = blank_sticks g s t in
    let same = one_front front rest g s (sticks front rest h) k (sym e) in
    h.named (subst (λ z. what.BlankStands z rest) same (subst (what.BlankStands g) (sym (rest_is front rest g s (sym e) same)) t))
other_fault front rest g s Relative n h e t = relative_elsewhere front rest g s h.stops h.before e t

stop_same : (front rest r : List ℕ) (k : Fault) → what.OtherwiseStands front rest → line (front ++ rest) ≡ stop k r → stopped {A = Option Triple} k r ≡ stop Bad rest
unfolding Ends
stop_same front rest r Bad h e =
    let x = line_halt (front ++ rest) r e in
    ap (stopped Bad) (bad_elsewhere front rest x.front r h (sym x.is) x.bad)
stop_same front rest r Blank h e =
    elim (line_stop (front ++ rest) r Blank e) [ inl b ↦ absurd (cc) | inr x ↦ absurd (other_fault front rest x.front r Blank (λ b. cc) h (sym x.is) x.stands) ]
stop_same front rest r Relative h e =
    elim (line_stop (front ++ rest) r Relative e) [ inl b ↦ absurd (cc) | inr x ↦ absurd (other_fault front rest x.front r Relative (λ b. cc) h (sym x.is) x.stands) ]

otherwise_refused : (front rest : List ℕ) (g : Got (Option Triple)) → what.OtherwiseStands front rest → line (front ++ rest) ≡ g → g ≡ stop Bad rest
otherwise_refused front rest (Ok p) h e = absurd (not_read front rest h.stops (loose_line (front ++ rest) p.0 (line_spelled (front ++ rest) p.0 p.1 e)))
otherwise_refused front rest (Err f) h e = stop_same front rest f.1 f.0 h e

-- where Bad stands, the reading stops at Bad
pub bad_refused : (front rest : List ℕ) → what.BadStands front rest → line (front ++ rest) ≡ stop Bad rest
bad_refused front rest (what.misnamed k) = misnamed_refused front rest k
bad_refused front rest (what.lang_string k) = lang_refused front rest k
bad_refused front rest (what.otherwise k) = otherwise_refused front rest (line (front ++ rest)) k refl
