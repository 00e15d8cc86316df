-- A run that no colon follows holds no name with a prefix.
use Rattle.std.proofs.Common.{◌≡◌, ℕ, ◌+◌, ◌<◌, ◌≤◌, Bool, true, false, cond, List, [], ◌∷◌, ◌++◌, length, Option, Some, None, refl, sym, ap, ◌∙◌, subst, arith, append_assoc, inl, inr, ◌⊎◌, length-append}
use Rattle.fx_terms.specs.Names.{is_base_char}
use Rattle.fx_tokens.specs.Answers.{width}
use Rattle.fx_tokens.specs.Classes as class
use Rattle.fx_tokens.specs.Forms.{One, Then, Repeat, none, more}
use Rattle.fx_tokens.specs.Kinds as kind
use Rattle.fx_tokens.specs.Scan as scan
use Rattle.fx_tokens.proofs.Readers.{Found, unit_one, step, skip_found, skip_stops, skip_exact, width_behind}
use Rattle.fx_tokens.proofs.KindLaws.{name_part_unit}

-- ---- two ways to cut a text

Cut : (x r y s : List ℕ) → Type 0
Cut x r y s = ((mid : List ℕ) × (y ≡ x ++ mid) × (r ≡ mid ++ s)) ⊎ ((mid : List ℕ) × (x ≡ y ++ mid) × (s ≡ mid ++ r))

cut : (x r y s : List ℕ) → x ++ r ≡ y ++ s → Cut x r y s
unfolding Cut
cut [] r y s e = inl (y, refl, e)
cut (c ∷ x) r [] s e = inr (c ∷ x, refl, sym e)
cut (c ∷ x) r (d ∷ y) s e =
    let same : c ≡ d = cc (e) in
    let rest : x ++ r ≡ y ++ s = cc (e) in
    elim (cut x r y s rest) [ inl h ↦ inl (h.0, ap (λ v. v ∷ y) (sym same) ∙ ap (λ v. c ∷ v) h.1, h.2) | inr h ↦ inr (h.0, ap (λ v. v ∷ x) same ∙ ap (λ v. d ∷ v) h.1, h.2) ]

-- ---- the back of a run is a run

one_back : (p : ℕ → Bool) (x y z : List ℕ) → x ≡ y ++ z → Repeat (One p) x → Repeat (One p) z
one_back p x [] z e h = subst (Repeat (One p)) e h
one_back p x (c ∷ y) z e (none f) = absurd (cc (e, f))
one_back p x (c ∷ y) z e (more u w f h rest) =
    let same : w ≡ y ++ z = let k : h.character ∷ w ≡ c ∷ (y ++ z) = sym (ap (λ v. v ++ w) h.alone) ∙ sym f ∙ e in cc (k) in
    one_back p w y z same rest

abbrev NamePart : List ℕ → Type 0
NamePart = Then (Repeat (kind.Is 46)) (One class.is_part_char)

part_back : (x y z : List ℕ) (d : ℕ) → x ≡ y ++ d ∷ z → NamePart x → NamePart (d ∷ z)
unfolding Cut
part_back x y z d e h = elim (cut h.front h.back y (d ∷ z) (sym h.joined ∙ e)) [ inl k ↦ last k.0 k.2 | inr k ↦ record { front = k.0; back = h.back; joined = k.2; first = one_back (class.is 46) h.front y k.0 k.1 h.first; second = h.second } ]
  where
    last : (mid : List ℕ) → h.back ≡ mid ++ d ∷ z → NamePart (d ∷ z)
    last [] f = record { front = []; back = d ∷ z; joined = refl; first = none refl; second = subst (One class.is_part_char) f h.second }
    last (c ∷ mid) f = absurd (let one : 1 ≡ length (c ∷ mid) + length (d ∷ z) = sym (ap (λ (v : List ℕ). length v) h.second.alone) ∙ ap (λ (v : List ℕ). length v) f ∙ length-append (c ∷ mid) (d ∷ z) in omega (arith, one))

run_turn : (u w y z : List ℕ) → NamePart u → Repeat NamePart w → ((mid : List ℕ) → w ≡ mid ++ z → Repeat NamePart z) → Cut u w y z → Repeat NamePart z
unfolding Cut
run_turn u w y z h rest back (inl k) = back k.0 k.2
run_turn u w y z h rest back (inr k) = inside k.0 k.1 k.2
  where
    inside : (mid : List ℕ) → u ≡ y ++ mid → z ≡ mid ++ w → Repeat NamePart z
    inside [] e f = subst (Repeat NamePart) (sym f) rest
    inside (d ∷ mid) e f = more (d ∷ mid) w f (part_back u y mid d e h) rest

run_back : (x y z : List ℕ) → x ≡ y ++ z → Repeat NamePart x → Repeat NamePart z
run_back x y z e (none f) = nothing y z (sym e ∙ f)
  where
    nothing : (y z : List ℕ) → y ++ z ≡ [] → Repeat NamePart z
    nothing [] z g = none g
    nothing (c ∷ y) z g = absurd (cc (g))
run_back x y z e (more u w f h rest) = run_turn u w y z h rest (λ mid g. run_back w mid z g rest) (cut u w y z (sym f ∙ e))

-- ---- so no name with a prefix begins in it

no_colon : (text : List ℕ) → scan.one (class.is 58) text ≡ None → scan.colon_local text ≡ None
unfolding scan.colon_local
no_colon text e = ap (λ (v : Option (List ℕ)). scan.and_then v (λ rest. Some (scan.or_here (scan.local rest) rest))) e

no_prefix : (d : ℕ) (b : List ℕ) → scan.colon_local (scan.skip scan.name_part b) ≡ None → scan.long_prefix (d ∷ b) ≡ None
unfolding scan.long_prefix scan.one
no_prefix d b e = go (is_base_char d)
  where
    go : (t : Bool) → scan.and_then (cond t (Some b) None) (λ rest. scan.colon_local (scan.skip scan.name_part rest)) ≡ None
    go true = e
    go false = refl

inside_run : (x end front b : List ℕ) (d : ℕ) → Repeat NamePart x → scan.name_part end ≡ None → x ++ end ≡ front ++ d ∷ b → width end < width (d ∷ b) → scan.skip scan.name_part b ≡ end
unfolding Cut
inside_run x end front b d run stops e less = elim (cut x end front (d ∷ b) e) [ inl k ↦ absurd (omega (arith, less, width_behind end k.0 (d ∷ b) k.2)) | inr k ↦ go k.0 k.1 k.2 ]
  where
    go : (mid : List ℕ) → x ≡ front ++ mid → d ∷ b ≡ mid ++ end → scan.skip scan.name_part b ≡ end
    go [] f g = absurd (omega (arith, less, ap width g))
    go (c ∷ mid) f g =
        let same : b ≡ mid ++ end = cc (g) in
        let whole : x ≡ (front ++ c ∷ []) ++ mid = f ∙ sym (append_assoc front (c ∷ []) mid) in
        ap (scan.skip scan.name_part) same ∙ skip_exact name_part_unit mid end (run_back x (front ++ c ∷ []) mid whole run) stops

pub barren_run : (text : List ℕ) (c : ℕ) (rest end : List ℕ) → text ≡ c ∷ rest → end ≡ scan.skip scan.name_part rest → scan.one (class.is 58) end ≡ None → scan.Barren (width end) text
barren_run text c rest end e f colon front [] h less = absurd (omega (arith, less))
barren_run text c rest end e f colon front (d ∷ b) h less = no_prefix d b (ap scan.colon_local (at front (sym e ∙ h)) ∙ no_colon end colon)
  where
    at : (front : List ℕ) → c ∷ rest ≡ front ++ d ∷ b → scan.skip scan.name_part b ≡ end
    at [] g = let same : b ≡ rest = cc (g) in ap (scan.skip scan.name_part) same ∙ sym f
    at (a ∷ front) g =
        let found = skip_found (step name_part_unit) rest in
        let stops : scan.name_part end ≡ None = ap scan.name_part f ∙ skip_stops (step name_part_unit) rest in
        let parts : found.0 ++ end ≡ front ++ d ∷ b = let k : rest ≡ front ++ d ∷ b = cc (g) in ap (λ v. found.0 ++ v) f ∙ sym found.1 ∙ k in
        inside_run found.0 end front b d found.2 stops parts less

pub barren_whole : (text : List ℕ) (n : ℕ) → width text ≤ n → scan.Barren n text
barren_whole text n h front back e less = absurd (omega (arith, h, less, width_behind text front back e))

pub barren_back : (text front back : List ℕ) (n : ℕ) → text ≡ front ++ back → scan.Barren n text → scan.Barren n back
barren_back text front back n e b x y f less = b (front ++ x) y (e ∙ ap (λ v. front ++ v) f ∙ sym (append_assoc front x y)) less

-- the text that a class leaves
pub one_rest : (p : ℕ → Bool) (text rest : List ℕ) → Some rest ≡ scan.one p text → (c : ℕ) × (text ≡ c ∷ rest)
one_rest p text rest e = let f = subst (λ (v : Option (List ℕ)). Found (One p) text v) (sym e) ((unit_one p).found text) in (f.2.character, f.1 ∙ ap (λ v. v ++ rest) f.2.alone)

pub longer_none : (x y : Option (List ℕ)) → y ≡ None → x ≡ scan.longer x y
longer_none None y e = sym e
longer_none (Some rest) y e = ap (scan.longer (Some rest)) (sym e)

pub comment_front : (text behind rest : List ℕ) (c : ℕ) → text ≡ c ∷ behind → rest ≡ scan.skip (scan.one class.is_in_line) behind → (front : List ℕ) × (text ≡ front ++ rest)
comment_front text behind rest c e f = let g = skip_found (step (unit_one class.is_in_line)) behind in (c ∷ g.0, e ∙ ap (λ v. c ∷ v) (g.1 ∙ ap (λ v. g.0 ++ v) (sym f)))
