-- What stands where the reading of a line stops at Bad.
use Rattle.std.proofs.Common.{◌≡◌, ℕ, zero, suc, ◌+◌, ◌==◌, inl, inr, Bool, true, false, cond, Option, Some, None, option_and_then, Result, Ok, Err, List, [], ◌∷◌, ◌++◌, length, take, drop, refl, sym, ap, ◌∙◌, subst, arith, append_assoc, append-nil, length-take, take-append-drop}
use Rattle.std.specs.List.{list_all, prefix_len, slice_split}
use Rattle.std.specs.Char.{is_ascii_hexdigit, encode_utf8}
use Rattle.std.specs.Str.{bytes_eq}
use Rattle.std.proofs.lemmas.Bool.{eqb-true}
use Rattle.std.proofs.lemmas.Bool.Decides.{nat_tests}
use Rattle.std.proofs.lemmas.Slice.Eq.{bytes_eq-Decides}
use Rattle.std.proofs.lemmas.List.Sums.{prefix_len-le-length}
use Rattle.fx_terms.specs.declared.terms.Term.{Term}
use Rattle.fx_terms.specs.declared.terms.Term.TheVariants as term
use Rattle.fx_terms.specs.declared.triples.Triple.{Triple}
use Rattle.fx_terms.specs.declared.iris.TermError.{TermError}
use Rattle.fx_terms.specs.declared.literals.LiteralError.{LiteralError}
use Rattle.fx_terms.specs.Iris.{read_iri}
use Rattle.fx_terms.specs.Datatypes.{lang_string as rdf_lang_string}
use Rattle.fx_terms.specs.Literals.{LiteralParts, plain, typed, tagged, is_tag, is_dash}
use Rattle.fx_ntriples.specs.declared.faults.Fault.TheVariants.{Bad, Blank, Relative}
use Rattle.fx_ntriples.specs.declared.quotes.Quote.{Quote}
use Rattle.fx_ntriples.specs.declared.quotes.Quote.TheVariants.{Iri, Text}
use Rattle.fx_ntriples.specs.Quotes as strict
use Rattle.fx_rules.specs.Rule.{and_then}
use Rattle.fx_ntriples.specs.Quotes.{Got, got, stop, in_front, Escape, names, misnames, breaks, escaped, escape_at, lettered, naming, numbered, short, may_name, hex_value, body, is_plain, closing}
use Rattle.fx_ntriples.specs.Reading.{is_blank, unblanked, iri, tag_len, if_absolute, if_literal, with_tag, with_datatype, untagged, literal, subject, object, dotted, triple, ended, said, line}
use Rattle.fx_ntriples.specs.Forms as form
use Rattle.fx_ntriples.specs.Loose as loose
use Rattle.fx_ntriples.specs.Refusals as what
use Rattle.fx_ntriples.proofs.Sound.{passes_all, escape_is, body_spelled, subject_spelled, iri_spelled, blanks_spelled, triple_spelled, and_then_got}
use Rattle.fx_ntriples.proofs.Complete.{both}
use Rattle.fx_ntriples.proofs.Stops.{in_front_stop, and_then_stop}
use Rattle.fx_ntriples.proofs.Outcomes.{same_rest, same_fault, same_place}
use Rattle.fx_ntriples.proofs.States as state
use Rattle.fx_ntriples.proofs.States.{State, inside, slash, digits, step, go, accepts, final, Goes, goes_nothing, goes_first, goes_one, goes_then, goes_blanks, at, leads, opens_at, blank_at, escape_goes, slash_step, plain_step, string_goes, scan, is_tag_test, parts_test, closed_hat, line_accepted}
use Rattle.fx_ntriples.proofs.Viable.{loose_escape, loose_iri, loose_string, loose_object, line_from, empty_iri, rest_of, before_goes}

-- the next byte leads nowhere, or a line may not end
abbrev pub Stuck : State → List ℕ → Type 0
Stuck q [] = accepts q ≡ false
Stuck q (b ∷ s) = step q b ≡ None

pub none_goes_on : (front r : List ℕ) (q : State) → Goes state.start front q → Stuck q r → what.NoneGoesOn front r
none_goes_on front [] q g h = λ l. let yes = line_accepted front l in let there = ap final (ap (go state.start) (sym (append-nil front)) ∙ g []) in cc
none_goes_on front (b ∷ s) q g h = λ w l.
    let yes = line_accepted (front ++ b ∷ w) l in
    let there : final (go state.start (front ++ b ∷ w)) ≡ false = ap final (g (b ∷ w) ∙ ap (option_and_then (λ x. go x w)) h) in
    cc

-- a loose line begins with the bytes, and none goes on as the text does
pub record Sticks (front rest : List ℕ) : Type 0 where
  pub begins : (w : List ℕ) × loose.IsLine (front ++ w)
  pub stops : what.NoneGoesOn front rest

pub data Bads : List ℕ → List ℕ → Type 0 where
  misnamed : {p r : List ℕ} → what.MisnamedStands p r → Bads p r
  lang_string : {p r : List ℕ} → what.LangStringStands p r → Bads p r
  otherwise : {p r : List ℕ} → Sticks p r → Bads p r

-- a text is what stands before, and then the rest, at which the reading stops
pub record Halt (l r : List ℕ) : Type 0 where
  pub front : List ℕ
  pub is : l ≡ front ++ r
  pub bad : Bads front r

nothing_on : (front r w : List ℕ) (q : State) → Goes state.start front q → Stuck q r → loose.IsLine (front ++ w) → Halt (front ++ r) r
nothing_on front r w q g h l = record { front = front; is = refl; bad = otherwise (record { begins = (w, l); stops = none_goes_on front r q g h }) }

moved : (l m r : List ℕ) → l ≡ m → Halt l r → Halt m r
moved l m r e h = subst (λ (x : List ℕ). Halt x r) e h

-- ---- escapes

abbrev zeros : ℕ → List ℕ
zeros zero = []
zeros (suc n) = 48 ∷ zeros n

zeros_size : (n : ℕ) → length (zeros n) ≡ n
zeros_size zero = refl
zeros_size (suc n) = ap suc (zeros_size n)

zeros_hex : (n : ℕ) → list_all is_ascii_hexdigit (zeros n) ≡ true
zeros_hex zero = refl
zeros_hex (suc n) = zeros_hex n

-- digits that break off
record DigitsBreak (n : ℕ) (q : Quote) (s y : List ℕ) : Type 0 where
  raw : List ℕ
  c : List ℕ
  to : State → State
  goes : (k : State) → Goes (digits n q k) raw (to k)
  stuck : (k : State) → Stuck (to k) y
  size : length (raw ++ c) ≡ suc n
  hex : list_all is_ascii_hexdigit (raw ++ c) ≡ true
  is : s ≡ raw ++ y

no_digit : (n : ℕ) (q : Quote) (k : State) (b : ℕ) → is_ascii_hexdigit b ≡ false → step (digits n q k) b ≡ None
no_digit zero q k b h = rw h refl
no_digit (suc n) q k b h = rw h refl

less : (a m : ℕ) → (1 + a == suc m) ≡ false → (a == m) ≡ false
less a m h = grind (arith, nat_tests)

digit_test : (n : ℕ) (q : Quote) (b : ℕ) (s : List ℕ) (v : Bool) → is_ascii_hexdigit b ≡ v → (cond v (1 + prefix_len is_ascii_hexdigit (take n s)) 0 == suc n) ≡ false →
    ((m : ℕ) → n ≡ suc m → (prefix_len is_ascii_hexdigit (take (suc m) s) == suc m) ≡ false → DigitsBreak m q s (drop (prefix_len is_ascii_hexdigit (take (suc m) s)) s)) →
    DigitsBreak n q (b ∷ s) (drop (cond v (1 + prefix_len is_ascii_hexdigit (take n s)) 0) (b ∷ s))
digit_test n q b s false e h ih = record {
  raw = [];
  c = zeros (suc n);
  to = digits n q;
  goes = λ k. goes_nothing (digits n q k);
  stuck = λ k. no_digit n q k b e;
  size = zeros_size (suc n);
  hex = zeros_hex (suc n);
  is = refl;
}
digit_test zero q b s true e h ih = absurd (cc)
digit_test (suc m) q b s true e h ih =
    let d = ih m refl (less (prefix_len is_ascii_hexdigit (take (suc m) s)) (suc m) h) in
    let more : 1 + prefix_len is_ascii_hexdigit (take (suc m) s) ≡ suc (prefix_len is_ascii_hexdigit (take (suc m) s)) = omega arith in
    rw more (record {
      raw = b ∷ d.raw;
      c = d.c;
      to = d.to;
      goes = λ k. goes_first (digits (suc m) q k) (digits m q k) (d.to k) b d.raw (rw e refl) (d.goes k);
      stuck = d.stuck;
      size = ap suc d.size;
      hex = rw e d.hex;
      is = ap (λ z. b ∷ z) d.is;
    })

digits_break : (n : ℕ) (q : Quote) (s : List ℕ) → (prefix_len is_ascii_hexdigit (take (suc n) s) == suc n) ≡ false → DigitsBreak n q s (drop (prefix_len is_ascii_hexdigit (take (suc n) s)) s)
digits_break n q [] h = record {
  raw = [];
  c = zeros (suc n);
  to = digits n q;
  goes = λ k. goes_nothing (digits n q k);
  stuck = λ k. refl;
  size = zeros_size (suc n);
  hex = zeros_hex (suc n);
  is = refl;
}
digits_break n q (b ∷ s) h = digit_test n q b s (is_ascii_hexdigit b) refl h (λ m e g. digits_break m q s g)

naming_breaks : (q : Quote) (code n : ℕ) (y : List ℕ) (v : Bool) → cond v (names (encode_utf8 code) n) misnames ≡ breaks y → ⊥
naming_breaks q code n y true h = cc
naming_breaks q code n y false h = cc

number_test : (q : Quote) (n : ℕ) (s y : List ℕ) (v : Bool) → (prefix_len is_ascii_hexdigit (take (suc n) s) == suc n) ≡ v →
    cond v (naming q (hex_value 0 (take (suc n) s)) (suc n + 1)) (breaks (drop (prefix_len is_ascii_hexdigit (take (suc n) s)) s)) ≡ breaks y → DigitsBreak n q s y
number_test q n s y true e h = absurd (naming_breaks q (hex_value 0 (take (suc n) s)) (suc n + 1) y (may_name q (hex_value 0 (take (suc n) s))) h)
number_test q n s y false e h = let same : drop (prefix_len is_ascii_hexdigit (take (suc n) s)) s ≡ y = cc in subst (DigitsBreak n q s) same (digits_break n q s e)

-- an escape that breaks off
record Broken (q : Quote) (s y : List ℕ) : Type 0 where
  raw : List ℕ
  c : List ℕ
  to : State → State
  goes : (k : State) → Goes (slash q k) raw (to k)
  stuck : (k : State) → Stuck (to k) y
  whole : loose.IsEscape q (raw ++ c)
  is : s ≡ raw ++ y

numbered_broken : (q : Quote) (s y : List ℕ) (n b : ℕ) → ((k : State) → step (slash q k) b ≡ Some (digits n q k)) → ((ds : List ℕ) → length ds ≡ suc n → list_all is_ascii_hexdigit ds ≡ true → loose.IsEscape q (b ∷ ds)) →
    DigitsBreak n q s y → Broken q (b ∷ s) y
numbered_broken q s y n b h f d = record {
  raw = b ∷ d.raw;
  c = d.c;
  to = d.to;
  goes = λ k. goes_first (slash q k) (digits n q k) (d.to k) b d.raw (h k) (d.goes k);
  stuck = d.stuck;
  whole = f (d.raw ++ d.c) d.size d.hex;
  is = ap (λ z. b ∷ z) d.is;
}

null_escape : (q : Quote) → loose.IsEscape q (117 ∷ 48 ∷ 48 ∷ 48 ∷ 48 ∷ [])
null_escape q = loose.four refl refl

letter_broken : (q : Quote) (b : ℕ) (s y : List ℕ) (o : Option ℕ) → (b == 117) ≡ false → (b == 85) ≡ false → short q b ≡ o → lettered o (b ∷ s) ≡ breaks y → Broken q (b ∷ s) y
letter_broken q b s y (Some c) e f g h = absurd (cc)
letter_broken q b s y None e f g h =
    let same : b ∷ s ≡ y = cc in
    subst (Broken q (b ∷ s)) same (record {
      raw = [];
      c = 117 ∷ 48 ∷ 48 ∷ 48 ∷ 48 ∷ [];
      to = slash q;
      goes = λ k. goes_nothing (slash q k);
      stuck = λ k. rw (e, f, g) refl;
      whole = null_escape q;
      is = refl;
    })

break_test : (q : Quote) (b : ℕ) (s y : List ℕ) (v w : Bool) → (b == 117) ≡ v → (b == 85) ≡ w → cond v (numbered q 4 s) (cond w (numbered q 8 s) (lettered (short q b) (b ∷ s))) ≡ breaks y → Broken q (b ∷ s) y
break_test q b s y true w e f h =
    subst (λ (x : ℕ). Broken q (x ∷ s) y) (sym (eqb-true b 117 e)) (numbered_broken q s y 3 117 (λ k. refl) (λ ds i j. loose.four i j) (number_test q 3 s y (prefix_len is_ascii_hexdigit (take 4 s) == 4) refl h))
break_test q b s y false true e f h =
    subst (λ (x : ℕ). Broken q (x ∷ s) y) (sym (eqb-true b 85 f)) (numbered_broken q s y 7 85 (λ k. refl) (λ ds i j. loose.eight i j) (number_test q 7 s y (prefix_len is_ascii_hexdigit (take 8 s) == 8) refl h))
break_test q b s y false false e f h = letter_broken q b s y (short q b) e f refl h

broken : (q : Quote) (s y : List ℕ) → escape_at q s ≡ breaks y → Broken q s y
unfolding escape_at
broken q [] y h =
    let same : [] ≡ y = cc in
    subst (Broken q []) same (record {
      raw = [];
      c = 117 ∷ 48 ∷ 48 ∷ 48 ∷ 48 ∷ [];
      to = slash q;
      goes = λ k. goes_nothing (slash q k);
      stuck = λ k. refl;
      whole = null_escape q;
      is = refl;
    })
broken q (b ∷ s) y h = break_test q b s y (b == 117) (b == 85) refl refl h

-- a whole escape that names a character that isn't allowed
abbrev Misnames : Quote → List ℕ → Type 0
Misnames q s = (e x : List ℕ) × what.IsMisnamed q e × (s ≡ e ++ x)

misnaming : (q : Quote) (code n : ℕ) (v : Bool) → cond v (names (encode_utf8 code) n) misnames ≡ misnames → v ≡ false
misnaming q code n true h = cc
misnaming q code n false h = refl

misnumber_test : (q : Quote) (n : ℕ) (s : List ℕ) (v : Bool) → (prefix_len is_ascii_hexdigit (take n s) == n) ≡ v →
    cond v (naming q (hex_value 0 (take n s)) (n + 1)) (breaks (drop (prefix_len is_ascii_hexdigit (take n s)) s)) ≡ misnames →
    (length (take n s) ≡ n) × (list_all is_ascii_hexdigit (take n s) ≡ true) × (may_name q (hex_value 0 (take n s)) ≡ false)
misnumber_test q n s true e h =
    let count : prefix_len is_ascii_hexdigit (take n s) ≡ n = eqb-true _ n e in
    let few = prefix_len-le-length is_ascii_hexdigit (take n s) in
    let size : length (take n s) ≡ n = omega (arith, length-take n s) in
    (size, passes_all is_ascii_hexdigit (take n s) (count ∙ sym size), misnaming q (hex_value 0 (take n s)) (n + 1) (may_name q (hex_value 0 (take n s))) h)
misnumber_test q n s false e h = absurd (cc)

letter_names : (o : Option ℕ) (s : List ℕ) → lettered o s ≡ misnames → ⊥
letter_names (Some c) s h = cc
letter_names None s h = cc

misname_test : (q : Quote) (b : ℕ) (s : List ℕ) (v w : Bool) → (b == 117) ≡ v → (b == 85) ≡ w → cond v (numbered q 4 s) (cond w (numbered q 8 s) (lettered (short q b) (b ∷ s))) ≡ misnames → Misnames q (b ∷ s)
misname_test q b s true w e f h =
    let t = misnumber_test q 4 s (prefix_len is_ascii_hexdigit (take 4 s) == 4) refl h in
    (117 ∷ take 4 s, drop 4 s, what.four t.0 t.1 t.2, ap (λ z. z ∷ s) (eqb-true b 117 e) ∙ ap (λ z. 117 ∷ z) (sym (take-append-drop 4 s)))
misname_test q b s false true e f h =
    let t = misnumber_test q 8 s (prefix_len is_ascii_hexdigit (take 8 s) == 8) refl h in
    (85 ∷ take 8 s, drop 8 s, what.eight t.0 t.1 t.2, ap (λ z. z ∷ s) (eqb-true b 85 f) ∙ ap (λ z. 85 ∷ z) (sym (take-append-drop 8 s)))
misname_test q b s false false e f h = absurd (letter_names (short q b) (b ∷ s) h)

misnamed_is : (q : Quote) (s : List ℕ) → escape_at q s ≡ misnames → Misnames q s
unfolding escape_at
misnamed_is q [] h = absurd (cc)
misnamed_is q (b ∷ s) h = misname_test q b s (b == 117) (b == 85) refl refl h

-- ---- between signs

data BodyHalt (q : Quote) (s r : List ℕ) : Type 0 where
  wrong : (raw t e x : List ℕ) → strict.IsBody q raw t → what.IsMisnamed q e → s ≡ raw ++ (92 ∷ (e ++ x)) → 92 ∷ (e ++ x) ≡ r → BodyHalt q s r
  halts : (raw c : List ℕ) (to : State → State) → ((k : State) → Goes (inside q k) raw (to k)) → ((k : State) → Stuck (to k) r) → loose.IsBody q (raw ++ c) → s ≡ raw ++ r → BodyHalt q s r

plain_more : (q : Quote) (b : ℕ) (s r : List ℕ) → is_plain q b ≡ true → BodyHalt q s r → BodyHalt q (b ∷ s) r
plain_more q b s r h (wrong raw t e x i m f g) = wrong (b ∷ raw) (b ∷ t) e x (strict.itself h i) m (ap (λ z. b ∷ z) f) g
plain_more q b s r h (halts raw c to g k l f) = halts (b ∷ raw) c to (λ n. goes_first (inside q n) (inside q n) (to n) b raw (plain_step q n b h) (g n)) k (loose.itself h l) (ap (λ z. b ∷ z) f)

escape_more : (q : Quote) (d y s r : List ℕ) → strict.IsEscape q d y → BodyHalt q s r → BodyHalt q (92 ∷ (d ++ s)) r
escape_more q d y s r h (wrong raw t e x i m f g) =
    wrong (92 ∷ (d ++ raw)) (y ++ t) e x (strict.escape h i) m (ap (λ z. 92 ∷ z) (ap (λ z. d ++ z) f ∙ sym (append_assoc d raw (92 ∷ (e ++ x))))) g
escape_more q d y s r h (halts raw c to g k l f) =
    let esc = loose_escape q d y h in
    halts (92 ∷ (d ++ raw)) c to
    (λ n. goes_first (inside q n) (slash q n) (to n) 92 (d ++ raw) (slash_step q n) (goes_then (slash q n) (inside q n) (to n) d raw (escape_goes q n d esc) (g n)))
    k
    (subst (loose.IsBody q) (ap (λ z. 92 ∷ z) (sym (append_assoc d raw c))) (loose.escape esc l))
    (ap (λ z. 92 ∷ z) (ap (λ z. d ++ z) f ∙ sym (append_assoc d raw r)))

escape_in : (q : Quote) (s r : List ℕ) (e : Escape) → escape_at q s ≡ e → ((n : ℕ) → body q n s ≡ stop Bad r → BodyHalt q (drop n s) r) → escaped e (92 ∷ s) (λ n. body q n s) ≡ stop Bad r → BodyHalt q (92 ∷ s) r
escape_in q s r (names c n) e ih h =
    let x = escape_is q s c n e in
    subst (λ z. BodyHalt q (92 ∷ z) r) (take-append-drop n s) (escape_more q (take n s) c (drop n s) r x.0 (ih n (in_front_stop c (body q n s) Bad r h)))
escape_in q s r misnames e ih h =
    let m = misnamed_is q s e in
    let same : 92 ∷ s ≡ r = same_place h in
    wrong [] [] m.0 m.1 strict.nothing m.2 (ap (λ z. 92 ∷ z) m.3) (ap (λ z. 92 ∷ z) (sym m.3) ∙ same)
escape_in q s r (breaks y) e ih h =
    let same : y ≡ r = same_place h in
    let b = broken q s y e in
    halts (92 ∷ b.raw) b.c b.to (λ n. goes_first (inside q n) (slash q n) (b.to n) 92 b.raw (slash_step q n) (b.goes n)) (λ n. subst (Stuck (b.to n)) same (b.stuck n))
    (subst (λ z. loose.IsBody q (92 ∷ z)) (append-nil (b.raw ++ b.c)) (loose.escape b.whole loose.nothing))
    (ap (λ z. 92 ∷ z) (b.is ∙ ap (λ z. b.raw ++ z) same))

body_test : (q : Quote) (b : ℕ) (s r : List ℕ) (v w x : Bool) → is_plain q b ≡ v → (b == closing q) ≡ w → (b == 92) ≡ x → ((n : ℕ) → body q n s ≡ stop Bad r → BodyHalt q (drop n s) r) →
    cond v (in_front (b ∷ []) (body q 0 s)) (cond w (got [] s) (cond x (escaped (escape_at q s) (b ∷ s) (λ n. body q n s)) (stop Bad (b ∷ s)))) ≡ stop Bad r → BodyHalt q (b ∷ s) r
body_test q b s r true w x e f g ih h = plain_more q b s r e (ih 0 (in_front_stop (b ∷ []) (body q 0 s) Bad r h))
body_test q b s r false true x e f g ih h = absurd (cc)
body_test q b s r false false true e f g ih h =
    let back : b ≡ 92 = eqb-true b 92 g in
    subst (λ (y : ℕ). BodyHalt q (y ∷ s) r) (sym back) (escape_in q s r (escape_at q s) refl ih (subst (λ (y : ℕ). escaped (escape_at q s) (y ∷ s) (λ n. body q n s) ≡ stop Bad r) back h))
body_test q b s r false false false e f g ih h =
    let same : b ∷ s ≡ r = same_place h in
    subst (BodyHalt q (b ∷ s)) same (halts [] [] (inside q) (λ k. goes_nothing (inside q k)) (λ k. rw (e, f, g) refl) loose.nothing refl)

body_halt : (q : Quote) (n : ℕ) (s r : List ℕ) → body q n s ≡ stop Bad r → BodyHalt q (drop n s) r
unfolding body
body_halt q n [] r h = nil_halt n
  where
    nil_halt : (m : ℕ) → BodyHalt q (drop m []) r
    nil_halt zero = let same : [] ≡ r = same_place h in subst (BodyHalt q []) same (halts [] [] (inside q) (λ k. goes_nothing (inside q k)) (λ k. refl) loose.nothing refl)
    nil_halt (suc m) = let same : [] ≡ r = same_place h in subst (BodyHalt q []) same (halts [] [] (inside q) (λ k. goes_nothing (inside q k)) (λ k. refl) loose.nothing refl)
body_halt q zero (b ∷ s) r h = body_test q b s r (is_plain q b) (b == closing q) (b == 92) refl refl refl (λ n k. body_halt q n s r k) h
body_halt q (suc n) (b ∷ s) r h = body_halt q n s r h

-- ---- terms, behind p

iri_front : (x : what.Part) (p raw : List ℕ) (q : State) → what.Before x p → Goes (inside Iri (leads x)) raw q → Goes state.start (p ++ 60 ∷ raw) q
iri_front x p raw q h g = goes_then state.start (at x) q p (60 ∷ raw) (before_goes x p h) (goes_first (at x) (inside Iri (leads x)) q 60 raw (opens_at x) g)

iri_body : (x : what.Part) (p s r : List ℕ) → what.Before x p → BodyHalt Iri s r → Halt (p ++ 60 ∷ s) r
iri_body x p s r h (wrong raw t e y i m f g) = record {
  front = p ++ 60 ∷ raw;
  is = ap (λ z. p ++ 60 ∷ z) (f ∙ ap (λ z. raw ++ z) g) ∙ sym (append_assoc p (60 ∷ raw) r);
  bad = misnamed (subst (what.MisnamedStands (p ++ 60 ∷ raw)) g (what.in_iri y h i m));
}
iri_body x p s r h (halts raw c to g k l f) =
    let ref = 60 ∷ ((raw ++ c) ++ 62 ∷ []) in
    let more = rest_of x ref (loose.iriref l) in
    let shape : p ++ (ref ++ more.0) ≡ (p ++ 60 ∷ raw) ++ (c ++ 62 ∷ more.0) =
    ap (λ z. p ++ 60 ∷ z) (append_assoc (raw ++ c) (62 ∷ []) more.0 ∙ append_assoc raw c (62 ∷ more.0)) ∙ sym (append_assoc p (60 ∷ raw) (c ++ 62 ∷ more.0)) in
    moved ((p ++ 60 ∷ raw) ++ r) (p ++ 60 ∷ s) r (append_assoc p (60 ∷ raw) r ∙ ap (λ z. p ++ 60 ∷ z) (sym f))
    (nothing_on (p ++ 60 ∷ raw) r (c ++ 62 ∷ more.0) (to (leads x)) (iri_front x p raw (to (leads x)) h (g (leads x))) (k (leads x)) (subst loose.IsLine shape (line_from x p (ref ++ more.0) h more.1)))

relative_halt : (here y r u : List ℕ) (a : Result (List ℕ) TermError) → if_absolute here y a ≡ stop Bad r → ⊥
relative_halt here y r u (Ok t) h = cc
relative_halt here y r u (Err e) h = let other : Relative ≡ Bad = same_fault h in cc

part_missing : (x : what.Part) (p r : List ℕ) → what.Before x p → Stuck (at x) r → Halt (p ++ r) r
part_missing x p r h k = let more = rest_of x (60 ∷ 62 ∷ []) empty_iri in nothing_on p r (60 ∷ 62 ∷ more.0) (at x) (before_goes x p h) k (line_from x p (60 ∷ 62 ∷ more.0) h more.1)

iri_test : (x : what.Part) (p : List ℕ) (b : ℕ) (s r : List ℕ) (v : Bool) → what.Before x p → ((b == 60) ≡ false → step (at x) b ≡ None) → (b == 60) ≡ v →
    cond v (and_then (body Iri 0 s) (λ t r. if_absolute (b ∷ s) r (read_iri t))) (stop Bad (b ∷ s)) ≡ stop Bad r → Halt (p ++ b ∷ s) r
iri_test x p b s r true h other e g =
    elim (and_then_stop (body Iri 0 s) (λ t r. if_absolute (b ∷ s) r (read_iri t)) Bad r g) [
      | inl y ↦ subst (λ (z : ℕ). Halt (p ++ z ∷ s) r) (sym (eqb-true b 60 e)) (iri_body x p s r h (body_halt Iri 0 s r y))
      | inr y ↦ absurd (relative_halt (b ∷ s) y.1 r y.0 (read_iri y.0) y.3)
    ]
iri_test x p b s r false h other e g =
    let same : b ∷ s ≡ r = same_place g in
    subst (Halt (p ++ b ∷ s)) same (part_missing x p (b ∷ s) h (other e))

iri_halt : (x : what.Part) (p : List ℕ) (b : ℕ) (s r : List ℕ) → what.Before x p → ((b == 60) ≡ false → step (at x) b ≡ None) → iri (b ∷ s) ≡ stop Bad r → Halt (p ++ b ∷ s) r
iri_halt x p b s r h other g = iri_test x p b s r (b == 60) h other refl g

-- what stands behind blanks
unblanked_test : (b : ℕ) (s u : List ℕ) (c : ℕ) (v : Bool) → is_blank b ≡ v → cond v (unblanked s) (b ∷ s) ≡ c ∷ u → (unblanked s ≡ c ∷ u → is_blank c ≡ false) → is_blank c ≡ false
unblanked_test b s u c true e h ih = ih h
unblanked_test b s u c false e h ih = let same : b ≡ c = cc in subst (λ (z : ℕ). is_blank z ≡ false) same e

unblanked_head : (s u : List ℕ) (c : ℕ) → unblanked s ≡ c ∷ u → is_blank c ≡ false
unblanked_head [] u c h = absurd (cc)
unblanked_head (b ∷ s) u c h = unblanked_test b s u c (is_blank b) refl h (λ k. unblanked_head s u c k)

-- a predicate and a datatype
iri_due : (x : what.Part) (p z l r : List ℕ) → ((b : ℕ) → is_blank b ≡ false → (b == 60) ≡ false → step (at x) b ≡ None) → accepts (at x) ≡ false → what.Before x p → unblanked z ≡ l → iri l ≡ stop Bad r → Halt (p ++ l) r
iri_due x p z [] r other last h e g = let same : [] ≡ r = same_place g in subst (Halt (p ++ [])) same (part_missing x p [] h last)
iri_due x p z (b ∷ s) r other last h e g = iri_halt x p b s r h (other b (unblanked_head z s b e)) g

predicate_other : (b : ℕ) → is_blank b ≡ false → (b == 60) ≡ false → step (state.next what.predicate) b ≡ None
predicate_other b h k = rw (h, k) refl

datatype_other : (b : ℕ) → is_blank b ≡ false → (b == 60) ≡ false → step (state.next what.datatype) b ≡ None
datatype_other b h k = rw (h, k) refl

-- ---- strings

text_body : (p s r : List ℕ) → what.Before what.object p → BodyHalt Text s r → Halt (p ++ 34 ∷ s) r
text_body p s r h (wrong raw t e y i m f g) = record {
  front = p ++ 34 ∷ raw;
  is = ap (λ z. p ++ 34 ∷ z) (f ∙ ap (λ z. raw ++ z) g) ∙ sym (append_assoc p (34 ∷ raw) r);
  bad = misnamed (subst (what.MisnamedStands (p ++ 34 ∷ raw)) g (what.in_string y h i m));
}
text_body p s r h (halts raw c to g k l f) =
    let str = 34 ∷ ((raw ++ c) ++ 34 ∷ []) in
    let shape : p ++ (str ++ 46 ∷ []) ≡ (p ++ 34 ∷ raw) ++ (c ++ 34 ∷ 46 ∷ []) =
    ap (λ z. p ++ 34 ∷ z) (append_assoc (raw ++ c) (34 ∷ []) (46 ∷ []) ∙ append_assoc raw c (34 ∷ 46 ∷ [])) ∙ sym (append_assoc p (34 ∷ raw) (c ++ 34 ∷ 46 ∷ [])) in
    moved ((p ++ 34 ∷ raw) ++ r) (p ++ 34 ∷ s) r (append_assoc p (34 ∷ raw) r ∙ ap (λ z. p ++ 34 ∷ z) (sym f))
    (nothing_on (p ++ 34 ∷ raw) r (c ++ 34 ∷ 46 ∷ []) (to state.closed)
    (goes_then state.start (state.next what.object) (to state.closed) p (34 ∷ raw) (before_goes what.object p h) (goes_first (state.next what.object) (inside Text state.closed) (to state.closed) 34 raw refl (g state.closed)))
    (k state.closed)
    (subst loose.IsLine shape (line_from what.object p (str ++ 46 ∷ []) h (str, [], loose.alone (loose.quoted l), refl, refl))))

-- behind a string
string_front : (p str f a : List ℕ) (q : State) → what.Before what.object p → form.IsString str f → Goes state.closed a q → Goes state.start (p ++ (str ++ a)) q
string_front p str f a q h k g =
    goes_then state.start (state.next what.object) q p (str ++ a) (before_goes what.object p h) (goes_then (state.next what.object) state.closed q str a (string_goes str (loose_string str f k)) g)

object_line : (p o d : List ℕ) → what.Before what.object p → loose.IsObject o → form.AreBlanks d → loose.IsLine (p ++ (o ++ (d ++ 46 ∷ [])))
object_line p o d h k e = line_from what.object p (o ++ (d ++ 46 ∷ [])) h (o, d, k, e, refl)

-- ---- tags

made_halt : (here x r : List ℕ) (a : Result LiteralParts LiteralError) → if_literal here x a ≡ stop Bad r → (e : LiteralError) × (a ≡ Err e) × (here ≡ r)
made_halt here x r (Ok l) h = absurd (cc)
made_halt here x r (Err e) h = (e, refl, same_place h)

refused : {A B : Type 0} (v : Bool) (a : A) (b e : B) → cond v (Ok a) (Err b) ≡ Err e → v ≡ false
refused true a b e h = absurd (cc)
refused false a b e h = refl

chosen : {A B : Type 0} (v : Bool) (a : A) (b e : B) → cond v (Err b) (Ok a) ≡ Err e → v ≡ true
chosen true a b e h = refl
chosen false a b e h = absurd (cc)

no_part : (f e : Bool) → parts_test f e ([] ∷ []) ≡ false → e ≡ true
no_part f true h = refl
no_part f false h = cc

one_letter : (f : Bool) → parts_test f true (slice_split is_dash (97 ∷ [])) ≡ true
one_letter true = refl
one_letter false = refl

stuck_tag : (f : Bool) (r : List ℕ) → state.TagEnds f true r → Stuck (state.tag f true) r
stuck_tag f [] h = refl
stuck_tag f (b ∷ s) h = rw (h.0, h.1) refl

tag_halt : (p str f y r : List ℕ) → what.Before what.object p → form.IsString str f → with_tag f y ≡ stop Bad r → Halt (p ++ (str ++ 64 ∷ y)) r
tag_halt p str f y r h k g =
    let n = tag_len true true y in
    let t = take n y in
    let m = made_halt (drop n y) (drop n y) r (tagged f t) g in
    let bad : is_tag t ≡ false = refused (is_tag t) _ _ m.0 m.1 in
    let z = scan true true y in
    let none : parts_test z.f z.e ([] ∷ []) ≡ false = sym (z.same []) ∙ ap (λ x. parts_test true true (slice_split is_dash x)) (append-nil t) ∙ sym (is_tag_test t) ∙ bad in
    let due : z.e ≡ true = no_part z.f z.e none in
    let good : is_tag (t ++ 97 ∷ []) ≡ true = is_tag_test (t ++ 97 ∷ []) ∙ z.same (97 ∷ []) ∙ ap (λ v. parts_test z.f v (slice_split is_dash (97 ∷ []))) due ∙ one_letter z.f in
    let goes : Goes (state.tag true true) t (state.tag z.f true) = subst (λ (v : Bool). Goes (state.tag true true) t (state.tag z.f v)) due z.goes in
    let front = p ++ (str ++ 64 ∷ t) in
    let o = str ++ 64 ∷ (t ++ 97 ∷ []) in
    let shape : p ++ (o ++ ([] ++ 46 ∷ [])) ≡ front ++ (97 ∷ 46 ∷ []) =
    ap (λ x. p ++ x) (append_assoc str (64 ∷ (t ++ 97 ∷ [])) (46 ∷ []) ∙ ap (λ x. str ++ 64 ∷ x) (append_assoc t (97 ∷ []) (46 ∷ [])) ∙ sym (append_assoc str (64 ∷ t) (97 ∷ 46 ∷ []))) ∙ sym (append_assoc p (str ++ 64 ∷ t) (97 ∷ 46 ∷ [])) in
    let whole : front ++ drop n y ≡ p ++ (str ++ 64 ∷ y) =
    append_assoc p (str ++ 64 ∷ t) (drop n y) ∙ ap (λ x. p ++ x) (append_assoc str (64 ∷ t) (drop n y) ∙ ap (λ x. str ++ 64 ∷ x) (take-append-drop n y)) in
    subst (Halt (p ++ (str ++ 64 ∷ y))) m.2
    (moved (front ++ drop n y) (p ++ (str ++ 64 ∷ y)) (drop n y) whole
    (nothing_on front (drop n y) (97 ∷ 46 ∷ []) (state.tag z.f true)
    (string_front p str f (64 ∷ t) (state.tag z.f true) h k (goes_first state.closed (state.tag true true) (state.tag z.f true) 64 t refl goes))
    (stuck_tag z.f (drop n y) (subst (λ (v : Bool). state.TagEnds z.f v (drop n y)) due z.ends))
    (subst loose.IsLine shape (object_line p o [] h (loose.with_tag (t ++ 97 ∷ []) (loose_string str f k) good) refl))))

-- ---- datatypes

hat_halt : (p str f a r : List ℕ) → what.Before what.object p → form.IsString str f → form.AreBlanks a → Stuck state.hat r → Halt (p ++ (str ++ (a ++ 94 ∷ r))) r
hat_halt p str f a r h k ha st =
    let front = p ++ (str ++ (a ++ 94 ∷ [])) in
    let o = str ++ (a ++ 94 ∷ 94 ∷ ([] ++ 60 ∷ 62 ∷ [])) in
    let joined = λ (u : List ℕ). append_assoc p (str ++ (a ++ 94 ∷ [])) u ∙ ap (λ x. p ++ x) (append_assoc str (a ++ 94 ∷ []) u ∙ ap (λ x. str ++ x) (append_assoc a (94 ∷ []) u)) in
    let shape : p ++ (o ++ ([] ++ 46 ∷ [])) ≡ front ++ (94 ∷ 60 ∷ 62 ∷ 46 ∷ []) =
    ap (λ x. p ++ x) (append_assoc str (a ++ 94 ∷ 94 ∷ 60 ∷ 62 ∷ []) (46 ∷ []) ∙ ap (λ x. str ++ x) (append_assoc a (94 ∷ 94 ∷ 60 ∷ 62 ∷ []) (46 ∷ []))) ∙ sym (joined (94 ∷ 60 ∷ 62 ∷ 46 ∷ [])) in
    moved (front ++ r) (p ++ (str ++ (a ++ 94 ∷ r))) r (joined r)
    (nothing_on front r (94 ∷ 60 ∷ 62 ∷ 46 ∷ []) state.hat (string_front p str f (a ++ 94 ∷ []) state.hat h k (closed_hat a ha)) st
    (subst loose.IsLine shape (object_line p o [] h (loose.with_datatype a [] (60 ∷ 62 ∷ []) (loose_string str f k) ha refl empty_iri) refl)))

lang_halt : (p str f a b y t z r : List ℕ) → what.Before what.datatype (p ++ (str ++ (a ++ 94 ∷ 94 ∷ b))) → iri (unblanked y) ≡ got t z → if_literal (unblanked y) z (typed f t) ≡ stop Bad r →
    Halt ((p ++ (str ++ (a ++ 94 ∷ 94 ∷ b))) ++ unblanked y) r
lang_halt p str f a b y t z r h g e =
    let m = made_halt (unblanked y) z r (typed f t) e in
    let i = iri_spelled (unblanked y) t z g in
    let lang : t ≡ rdf_lang_string = (bytes_eq-Decides t rdf_lang_string).0 (chosen (bytes_eq t rdf_lang_string) _ _ m.0 m.1) in
    let front = p ++ (str ++ (a ++ 94 ∷ 94 ∷ b)) in
    record {
      front = front;
      is = ap (λ x. front ++ x) m.2;
      bad = lang_string (subst (what.LangStringStands front) (sym i.is ∙ m.2) (what.as_datatype z h (subst (form.IsIriRef i.raw) lang i.ref)));
    }

datatype_test : (p str f a z r : List ℕ) (d : ℕ) (v : Bool) → (d == 94) ≡ v → what.Before what.object p → form.IsString str f → form.AreBlanks a →
    cond v (and_then (iri (unblanked z)) (λ datatype r. if_literal (unblanked z) r (typed f datatype))) (stop Bad (d ∷ z)) ≡ stop Bad r → Halt (p ++ (str ++ (a ++ 94 ∷ d ∷ z))) r
datatype_test p str f a z r d true e h k ha g =
    let b = blanks_spelled z in
    let front = p ++ (str ++ (a ++ 94 ∷ 94 ∷ b.raw)) in
    let before : what.Before what.datatype front = what.fourth p str a b.raw h k ha b.blanks in
    let whole : front ++ unblanked z ≡ p ++ (str ++ (a ++ 94 ∷ d ∷ z)) =
    append_assoc p (str ++ (a ++ 94 ∷ 94 ∷ b.raw)) (unblanked z) ∙ ap (λ y. p ++ y) (append_assoc str (a ++ 94 ∷ 94 ∷ b.raw) (unblanked z) ∙ ap (λ y. str ++ y) (append_assoc a (94 ∷ 94 ∷ b.raw) (unblanked z) ∙ ap (λ y. a ++ 94 ∷ y) (ap (λ y. 94 ∷ y) (sym b.is) ∙ ap (λ y. y ∷ z) (sym (eqb-true d 94 e))))) in
    moved (front ++ unblanked z) (p ++ (str ++ (a ++ 94 ∷ d ∷ z))) r whole
    (elim (and_then_stop (iri (unblanked z)) (λ datatype r. if_literal (unblanked z) r (typed f datatype)) Bad r g) [
      | inl x ↦ iri_due what.datatype front z (unblanked z) r datatype_other refl before refl x
      | inr x ↦ lang_halt p str f a b.raw z x.0 x.1 r before x.2 x.3
    ])
datatype_test p str f a z r d false e h k ha g =
    let same : d ∷ z ≡ r = same_place g in
    subst (Halt (p ++ (str ++ (a ++ 94 ∷ d ∷ z)))) same (hat_halt p str f a (d ∷ z) h k ha (rw e refl))

datatype_halt : (p str f a y r : List ℕ) → what.Before what.object p → form.IsString str f → form.AreBlanks a → with_datatype f y ≡ stop Bad r → Halt (p ++ (str ++ (a ++ 94 ∷ y))) r
datatype_halt p str f a [] r h k ha g = let same : [] ≡ r = same_place g in subst (Halt (p ++ (str ++ (a ++ 94 ∷ [])))) same (hat_halt p str f a [] h k ha refl)
datatype_halt p str f a (d ∷ z) r h k ha g = datatype_test p str f a z r d (d == 94) refl h k ha g

untagged_test : (p str f a y r : List ℕ) (c : ℕ) (v : Bool) → (c == 94) ≡ v → what.Before what.object p → form.IsString str f → form.AreBlanks a →
    cond v (with_datatype f y) (got (term.Literal (plain f)) (c ∷ y)) ≡ stop Bad r → Halt (p ++ (str ++ (a ++ c ∷ y))) r
untagged_test p str f a y r c true e h k ha g = subst (λ (z : ℕ). Halt (p ++ (str ++ (a ++ z ∷ y))) r) (sym (eqb-true c 94 e)) (datatype_halt p str f a y r h k ha g)
untagged_test p str f a y r c false e h k ha g = absurd (cc)

untagged_halt : (p str f a u r : List ℕ) → what.Before what.object p → form.IsString str f → form.AreBlanks a → untagged f u ≡ stop Bad r → Halt (p ++ (str ++ (a ++ u))) r
untagged_halt p str f a [] r h k ha g = absurd (cc)
untagged_halt p str f a (c ∷ y) r h k ha g = untagged_test p str f a y r c (c == 94) refl h k ha g

literal_test : (p str f y r : List ℕ) (b : ℕ) (v : Bool) → (b == 64) ≡ v → what.Before what.object p → form.IsString str f → cond v (with_tag f y) (untagged f (unblanked (b ∷ y))) ≡ stop Bad r → Halt (p ++ (str ++ (b ∷ y))) r
literal_test p str f y r b true e h k g = subst (λ (z : ℕ). Halt (p ++ (str ++ (z ∷ y))) r) (sym (eqb-true b 64 e)) (tag_halt p str f y r h k g)
literal_test p str f y r b false e h k g =
    let m = blanks_spelled (b ∷ y) in
    subst (λ (z : List ℕ). Halt (p ++ (str ++ z)) r) (sym m.is) (untagged_halt p str f m.raw (unblanked (b ∷ y)) r h k m.blanks g)

literal_halt : (p str f x r : List ℕ) → what.Before what.object p → form.IsString str f → literal f x ≡ stop Bad r → Halt (p ++ (str ++ x)) r
literal_halt p str f [] r h k g = absurd (cc)
literal_halt p str f (b ∷ y) r h k g = literal_test p str f y r b (b == 64) refl h k g

-- ---- objects

abbrev blanked : {A : Type 0} → List ℕ → Got A
blanked s = stop Blank s

abbrev bad_at : {A : Type 0} → List ℕ → Got A
bad_at s = stop Bad s

blank_not_bad : {A : Type 0} (s r : List ℕ) → blanked {A = A} s ≡ bad_at r → ⊥
blank_not_bad s r h = let other : Blank ≡ Bad = same_fault h in cc

object_test : (p s r : List ℕ) (b : ℕ) (v w : Bool) → (b == 95) ≡ v → (b == 34) ≡ w → is_blank b ≡ false → what.Before what.object p →
    cond v (stop Blank (b ∷ s)) (cond w (and_then (body Text 0 s) literal) (and_then (iri (b ∷ s)) (λ t r. got (term.Iri t) r))) ≡ stop Bad r → Halt (p ++ b ∷ s) r
object_test p s r b true w e f n h g = absurd (blank_not_bad (b ∷ s) r g)
object_test p s r b false true e f n h g =
    subst (λ (z : ℕ). Halt (p ++ z ∷ s) r) (sym (eqb-true b 34 f))
    (elim (and_then_stop (body Text 0 s) literal Bad r g) [
      | inl x ↦ text_body p s r h (body_halt Text 0 s r x)
      | inr x ↦
          let m = body_spelled Text 0 s x.0 x.1 x.2 in
          let is : 34 ∷ s ≡ (34 ∷ (m.raw ++ 34 ∷ [])) ++ x.1 = ap (λ y. 34 ∷ y) (m.is ∙ sym (append_assoc m.raw (34 ∷ []) x.1)) in
          subst (λ (z : List ℕ). Halt (p ++ z) r) (sym is) (literal_halt p (34 ∷ (m.raw ++ 34 ∷ [])) x.0 x.1 r h (form.quoted m.spelled) x.3)
    ])
object_test p s r b false false e f n h g =
    elim (and_then_stop (iri (b ∷ s)) (λ t r. got (term.Iri t) r) Bad r g) [
      | inl x ↦ iri_halt what.object p b s r h (λ k. rw (n, k, f) refl) x
      | inr x ↦ absurd (let y = x.3 in cc)
    ]

object_halt : (p z l r : List ℕ) → what.Before what.object p → unblanked z ≡ l → object l ≡ stop Bad r → Halt (p ++ l) r
object_halt p z [] r h e g = let same : [] ≡ r = same_place g in subst (Halt (p ++ [])) same (part_missing what.object p [] h refl)
object_halt p z (b ∷ s) r h e g = object_test p s r b (b == 95) (b == 34) refl refl (unblanked_head z s b e) h g

-- ---- behind an object

abbrev StuckButDot : State → List ℕ → Type 0
StuckButDot q [] = accepts q ≡ false
StuckButDot q (b ∷ s) = (b == 46) ≡ false → step q b ≡ None

record Exit (s r : List ℕ) : Type 0 where
  raw : List ℕ
  blanks : List ℕ
  to : State
  object : loose.IsObject raw
  are : form.AreBlanks blanks
  goes : Goes (state.next what.object) (raw ++ blanks) to
  is : s ≡ (raw ++ blanks) ++ unblanked r
  stuck : StuckButDot to (unblanked r)

exit_with : (o r a : List ℕ) (q to : State) → loose.IsObject o → Goes (state.next what.object) o q → form.AreBlanks a → Goes q a to → r ≡ a ++ unblanked r → StuckButDot to (unblanked r) → Exit (o ++ r) r
exit_with o r a q to h g k j e s = record {
  raw = o;
  blanks = a;
  to = to;
  object = h;
  are = k;
  goes = goes_then (state.next what.object) q to o a g j;
  is = ap (λ x. o ++ x) e ∙ sym (append_assoc o a (unblanked r));
  stuck = s;
}

stuck_after : (z l : List ℕ) → unblanked z ≡ l → StuckButDot state.after l
stuck_after z [] e = refl
stuck_after z (b ∷ s) e = λ k. rw (unblanked_head z s b e, k) refl

exit_after : (o r : List ℕ) → loose.IsObject o → Goes (state.next what.object) o state.after → Exit (o ++ r) r
exit_after o r h g =
    let m = blanks_spelled r in
    exit_with o r m.raw state.after state.after h g m.blanks (goes_blanks state.after m.raw (λ b k. rw k refl) m.blanks) m.is (stuck_after r (unblanked r) refl)

stuck_tag_dot : (f : Bool) (z l : List ℕ) → unblanked z ≡ l → state.TagEnds f false l → StuckButDot (state.tag f false) l
stuck_tag_dot f z [] e h = refl
stuck_tag_dot f z (b ∷ s) e h = λ k. rw (h.0, h.1, unblanked_head z s b e, k) refl

exit_tag_by : (o r a : List ℕ) (f : Bool) → loose.IsObject o → Goes (state.next what.object) o (state.tag f false) → state.TagEnds f false r → form.AreBlanks a → r ≡ a ++ unblanked r → Exit (o ++ r) r
exit_tag_by o r [] f h g t k e =
    exit_with o r [] (state.tag f false) (state.tag f false) h g k (goes_nothing (state.tag f false)) e (stuck_tag_dot f r (unblanked r) refl (subst (state.TagEnds f false) e t))
exit_tag_by o r (c ∷ a) f h g t k e =
    let x = both (is_blank c) (list_all is_blank a) k in
    exit_with o r (c ∷ a) (state.tag f false) state.after h g k (goes_first (state.tag f false) state.after state.after c a (state.blank_tag f c x.0) (goes_blanks state.after a (λ b j. rw j refl) x.1)) e (stuck_after r (unblanked r) refl)

made_of : (here x r : List ℕ) (obj : Term) (a : Result LiteralParts LiteralError) → if_literal here x a ≡ got obj r → (l : LiteralParts) × (a ≡ Ok l) × (x ≡ r)
made_of here x r obj (Ok l) h = (l, refl, same_rest h)
made_of here x r obj (Err e) h = absurd (cc)

accepted : {A B : Type 0} (v : Bool) (a x : A) (b : B) → cond v (Ok a) (Err b) ≡ Ok x → v ≡ true
accepted true a x b h = refl
accepted false a x b h = absurd (cc)

a_part : (f e : Bool) → parts_test f e ([] ∷ []) ≡ true → e ≡ false
a_part f true h = cc
a_part f false h = refl

tag_exit : (str f y r : List ℕ) (obj : Term) → form.IsString str f → with_tag f y ≡ got obj r → Exit (str ++ 64 ∷ y) r
tag_exit str f y r obj k g =
    let n = tag_len true true y in
    let t = take n y in
    let m = made_of (drop n y) (drop n y) r obj (tagged f t) g in
    let good : is_tag t ≡ true = accepted (is_tag t) _ _ _ m.1 in
    let z = scan true true y in
    let some : parts_test z.f z.e ([] ∷ []) ≡ true = sym (z.same []) ∙ ap (λ x. parts_test true true (slice_split is_dash x)) (append-nil t) ∙ sym (is_tag_test t) ∙ good in
    let full : z.e ≡ false = a_part z.f z.e some in
    let goes : Goes (state.tag true true) t (state.tag z.f false) = subst (λ (v : Bool). Goes (state.tag true true) t (state.tag z.f v)) full z.goes in
    let o = str ++ 64 ∷ t in
    let rest = blanks_spelled r in
    subst (λ x. Exit x r) (append_assoc str (64 ∷ t) r ∙ ap (λ x. str ++ 64 ∷ x) (ap (λ x. t ++ x) (sym m.2) ∙ take-append-drop n y))
    (exit_tag_by o r rest.raw z.f (loose.with_tag t (loose_string str f k) good)
    (goes_then (state.next what.object) state.closed (state.tag z.f false) str (64 ∷ t) (string_goes str (loose_string str f k)) (goes_first state.closed (state.tag true true) (state.tag z.f false) 64 t refl goes))
    (subst (state.TagEnds z.f false) m.2 (subst (λ (v : Bool). state.TagEnds z.f v (drop n y)) full z.ends))
    rest.blanks rest.is)

abbrev Begins : ℕ → List ℕ → Bool
Begins c [] = false
Begins c (b ∷ s) = b == c

stuck_spaced : (l : List ℕ) → unblanked l ≡ l → Begins 94 l ≡ false → StuckButDot state.spaced l
stuck_spaced [] e h = refl
stuck_spaced (b ∷ s) e h = λ k. rw (unblanked_head (b ∷ s) s b e, h, k) refl

stuck_closed : (l : List ℕ) → unblanked l ≡ l → Begins 94 l ≡ false → Begins 64 l ≡ false → StuckButDot state.closed l
stuck_closed [] e h j = refl
stuck_closed (b ∷ s) e h j = λ k. rw (j, unblanked_head (b ∷ s) s b e, h, k) refl

alone_exit : (str f a x : List ℕ) → form.IsString str f → form.AreBlanks a → unblanked x ≡ x → Begins 94 x ≡ false → (a ≡ [] → Begins 64 x ≡ false) → Exit (str ++ (a ++ x)) x
alone_exit str f [] x k ha e h j = record {
  raw = str;
  blanks = [];
  to = state.closed;
  object = loose.alone (loose_string str f k);
  are = refl;
  goes = goes_then (state.next what.object) state.closed state.closed str [] (string_goes str (loose_string str f k)) (goes_nothing state.closed);
  is = ap (λ z. str ++ z) (sym e) ∙ ap (λ z. z ++ unblanked x) (sym (append-nil str));
  stuck = subst (StuckButDot state.closed) (sym e) (stuck_closed x e h (j refl));
}
alone_exit str f (c ∷ a) x k ha e h j =
    let t = both (is_blank c) (list_all is_blank a) ha in
    record {
      raw = str;
      blanks = c ∷ a;
      to = state.spaced;
      object = loose.alone (loose_string str f k);
      are = ha;
      goes = goes_then (state.next what.object) state.closed state.spaced str (c ∷ a) (string_goes str (loose_string str f k)) (goes_first state.closed state.spaced state.spaced c a (state.blank_closed c t.0) (goes_blanks state.spaced a (λ b i. rw i refl) t.1));
      is = sym (append_assoc str (c ∷ a) x) ∙ ap (λ z. (str ++ c ∷ a) ++ z) (sym e);
      stuck = subst (StuckButDot state.spaced) (sym e) (stuck_spaced x e h);
    }

datatype_exit_test : (str f a y r : List ℕ) (d : ℕ) (obj : Term) (v : Bool) → (d == 94) ≡ v → form.IsString str f → form.AreBlanks a →
    cond v (and_then (iri (unblanked y)) (λ datatype r. if_literal (unblanked y) r (typed f datatype))) (stop Bad (d ∷ y)) ≡ got obj r → Exit (str ++ (a ++ 94 ∷ d ∷ y)) r
datatype_exit_test str f a y r d obj true e h k g =
    let p = and_then_got (iri (unblanked y)) (λ datatype r. if_literal (unblanked y) r (typed f datatype)) obj r g in
    let i = iri_spelled (unblanked y) p.0 p.1 p.2 in
    let b = blanks_spelled y in
    let m = made_of (unblanked y) p.1 r obj (typed f p.0) p.3 in
    let o = str ++ (a ++ 94 ∷ 94 ∷ (b.raw ++ i.raw)) in
    let ref = loose_iri i.raw p.0 i.ref in
    let is : str ++ (a ++ 94 ∷ d ∷ y) ≡ o ++ r =
    ap (λ z. str ++ (a ++ 94 ∷ z)) (ap (λ z. z ∷ y) (eqb-true d 94 e) ∙ ap (λ z. 94 ∷ z) (b.is ∙ ap (λ z. b.raw ++ z) (i.is ∙ ap (λ z. i.raw ++ z) m.2) ∙ sym (append_assoc b.raw i.raw r)))
    ∙ ap (λ z. str ++ z) (sym (append_assoc a (94 ∷ 94 ∷ (b.raw ++ i.raw)) r)) ∙ sym (append_assoc str (a ++ 94 ∷ 94 ∷ (b.raw ++ i.raw)) r) in
    let split : o ≡ (str ++ (a ++ 94 ∷ 94 ∷ b.raw)) ++ i.raw = ap (λ z. str ++ z) (sym (append_assoc a (94 ∷ 94 ∷ b.raw) i.raw)) ∙ sym (append_assoc str (a ++ 94 ∷ 94 ∷ b.raw) i.raw) in
    subst (λ z. Exit z r) (sym is)
    (exit_after o r (loose.with_datatype a b.raw i.raw (loose_string str f h) k b.blanks ref)
    (subst (λ z. Goes (state.next what.object) z state.after) (sym split)
    (goes_then (state.next what.object) (state.next what.datatype) state.after (str ++ (a ++ 94 ∷ 94 ∷ b.raw)) i.raw (state.hats_go str a b.raw (loose_string str f h) k b.blanks) (state.iri_goes what.datatype i.raw ref))))
datatype_exit_test str f a y r d obj false e h k g = absurd (cc)

datatype_exit : (str f a y r : List ℕ) (obj : Term) → form.IsString str f → form.AreBlanks a → with_datatype f y ≡ got obj r → Exit (str ++ (a ++ 94 ∷ y)) r
datatype_exit str f a [] r obj h k g = absurd (cc)
datatype_exit str f a (d ∷ y) r obj h k g = datatype_exit_test str f a y r d obj (d == 94) refl h k g

untagged_exit_test : (str f a y r : List ℕ) (c : ℕ) (obj : Term) (v : Bool) → (c == 94) ≡ v → form.IsString str f → form.AreBlanks a → unblanked (c ∷ y) ≡ c ∷ y → (a ≡ [] → Begins 64 (c ∷ y) ≡ false) →
    cond v (with_datatype f y) (got (term.Literal (plain f)) (c ∷ y)) ≡ got obj r → Exit (str ++ (a ++ c ∷ y)) r
untagged_exit_test str f a y r c obj true e h k u j g = subst (λ (z : ℕ). Exit (str ++ (a ++ z ∷ y)) r) (sym (eqb-true c 94 e)) (datatype_exit str f a y r obj h k g)
untagged_exit_test str f a y r c obj false e h k u j g = let same : c ∷ y ≡ r = same_rest g in subst (Exit (str ++ (a ++ c ∷ y))) same (alone_exit str f a (c ∷ y) h k u e j)

untagged_exit : (str f a u r : List ℕ) (obj : Term) → form.IsString str f → form.AreBlanks a → unblanked u ≡ u → (a ≡ [] → Begins 64 u ≡ false) → untagged f u ≡ got obj r → Exit (str ++ (a ++ u)) r
untagged_exit str f a [] r obj h k u j g = let same : [] ≡ r = same_rest g in subst (Exit (str ++ (a ++ []))) same (alone_exit str f a [] h k u refl j)
untagged_exit str f a (c ∷ y) r obj h k u j g = untagged_exit_test str f a y r c obj (c == 94) refl h k u j g

unblanked_twice : (s : List ℕ) → unblanked (unblanked s) ≡ unblanked s
unblanked_twice [] = refl
unblanked_twice (b ∷ s) = by_test (is_blank b) refl (unblanked_twice s)
  where
    by_test : (v : Bool) → is_blank b ≡ v → unblanked (unblanked s) ≡ unblanked s → unblanked (cond v (unblanked s) (b ∷ s)) ≡ cond v (unblanked s) (b ∷ s)
    by_test true e ih = ih
    by_test false e ih = rw e refl

literal_exit_test : (str f y r : List ℕ) (b : ℕ) (obj : Term) (v : Bool) → (b == 64) ≡ v → form.IsString str f → cond v (with_tag f y) (untagged f (unblanked (b ∷ y))) ≡ got obj r → Exit (str ++ (b ∷ y)) r
literal_exit_test str f y r b obj true e h g = subst (λ (z : ℕ). Exit (str ++ (z ∷ y)) r) (sym (eqb-true b 64 e)) (tag_exit str f y r obj h g)
literal_exit_test str f y r b obj false e h g =
    let m = blanks_spelled (b ∷ y) in
    subst (λ (z : List ℕ). Exit (str ++ z) r) (sym m.is)
    (untagged_exit str f m.raw (unblanked (b ∷ y)) r obj h m.blanks (unblanked_twice (b ∷ y)) (λ n. subst (λ (z : List ℕ). Begins 64 z ≡ false) (m.is ∙ ap (λ z. z ++ unblanked (b ∷ y)) n) e) g)

literal_exit : (str f x r : List ℕ) (obj : Term) → form.IsString str f → literal f x ≡ got obj r → Exit (str ++ x) r
literal_exit str f [] r obj h g = let same : [] ≡ r = same_rest g in subst (Exit (str ++ [])) same (alone_exit str f [] [] h refl refl refl (λ n. refl))
literal_exit str f (b ∷ y) r obj h g = literal_exit_test str f y r b obj (b == 64) refl h g

object_exit_test : (b : ℕ) (s r : List ℕ) (obj : Term) (v w : Bool) → (b == 95) ≡ v → (b == 34) ≡ w →
    cond v (stop Blank (b ∷ s)) (cond w (and_then (body Text 0 s) literal) (and_then (iri (b ∷ s)) (λ t r. got (term.Iri t) r))) ≡ got obj r → Exit (b ∷ s) r
object_exit_test b s r obj true w e f h = absurd (cc)
object_exit_test b s r obj false true e f h =
    let p = and_then_got (body Text 0 s) literal obj r h in
    let m = body_spelled Text 0 s p.0 p.1 p.2 in
    let is : b ∷ s ≡ (34 ∷ (m.raw ++ 34 ∷ [])) ++ p.1 = ap (λ y. y ∷ s) (eqb-true b 34 f) ∙ ap (λ y. 34 ∷ y) (m.is ∙ sym (append_assoc m.raw (34 ∷ []) p.1)) in
    subst (λ (z : List ℕ). Exit z r) (sym is) (literal_exit (34 ∷ (m.raw ++ 34 ∷ [])) p.0 p.1 r obj (form.quoted m.spelled) p.3)
object_exit_test b s r obj false false e f h =
    let p = and_then_got (iri (b ∷ s)) (λ t r. got (term.Iri t) r) obj r h in
    let m = iri_spelled (b ∷ s) p.0 p.1 p.2 in
    let rest : p.1 ≡ r = same_rest p.3 in
    let ref = loose_iri m.raw p.0 m.ref in
    subst (λ z. Exit z r) (ap (λ y. m.raw ++ y) (sym rest) ∙ sym m.is) (exit_after m.raw r (loose.reference ref) (state.iri_goes what.object m.raw ref))

object_exit : (s r : List ℕ) (obj : Term) → object s ≡ got obj r → Exit s r
object_exit [] r obj h = absurd (cc)
object_exit (b ∷ s) r obj h = object_exit_test b s r obj (b == 95) (b == 34) refl refl h

exit_halt : (p s e r : List ℕ) (x : Exit s e) → what.Before what.object p → unblanked e ≡ r → Stuck x.to r → Halt (p ++ s) r
exit_halt p s e r x h u k =
    let front = p ++ (x.raw ++ x.blanks) in
    moved (front ++ r) (p ++ s) r (append_assoc p (x.raw ++ x.blanks) r ∙ ap (λ z. p ++ z) (ap (λ z. (x.raw ++ x.blanks) ++ z) (sym u) ∙ sym x.is))
    (nothing_on front r (46 ∷ []) x.to (goes_then state.start (state.next what.object) x.to p (x.raw ++ x.blanks) (before_goes what.object p h) x.goes) k
    (subst loose.IsLine (ap (λ z. p ++ z) (sym (append_assoc x.raw x.blanks (46 ∷ []))) ∙ sym (append_assoc p (x.raw ++ x.blanks) (46 ∷ []))) (object_line p x.raw x.blanks h x.object x.are)))

dot_test : (p s e r u : List ℕ) (b : ℕ) (t : Triple) (v : Bool) (x : Exit s e) → what.Before what.object p → unblanked e ≡ b ∷ u → (b == 46) ≡ v → cond v (got t u) (stop Bad (b ∷ u)) ≡ stop Bad r → Halt (p ++ s) r
dot_test p s e r u b t true x h j i g = absurd (cc)
dot_test p s e r u b t false x h j i g =
    let same : b ∷ u ≡ r = same_place g in
    subst (Halt (p ++ s)) same (exit_halt p s e (b ∷ u) x h j (subst (StuckButDot x.to) j x.stuck i))

dot_halt : (p s e l r : List ℕ) (t : Triple) (x : Exit s e) → what.Before what.object p → unblanked e ≡ l → dotted t l ≡ stop Bad r → Halt (p ++ s) r
dot_halt p s e [] r t x h j g = let same : [] ≡ r = same_place g in subst (Halt (p ++ s)) same (exit_halt p s e [] x h j (subst (StuckButDot x.to) j x.stuck))
dot_halt p s e (b ∷ u) r t x h j g = dot_test p s e r u b t (b == 46) x h j refl g

-- ---- lines

subject_test : (a : List ℕ) (b : ℕ) (s r : List ℕ) (v : Bool) → form.AreBlanks a → is_blank b ≡ false → (b == 35) ≡ false → cond v (stop Blank (b ∷ s)) (iri (b ∷ s)) ≡ stop Bad r → Halt (a ++ b ∷ s) r
subject_test a b s r true h n m g = absurd (blank_not_bad (b ∷ s) r g)
subject_test a b s r false h n m g = iri_halt what.subject a b s r (what.first h) (λ k. rw (n, m, k) refl) g

-- a part and its blanks are behind us
passed : (p s a l u v r : List ℕ) → l ≡ s ++ u → u ≡ a ++ v → Halt ((p ++ (s ++ a)) ++ v) r → Halt (p ++ l) r
passed p s a l u v r e f h = subst (λ (z : List ℕ). Halt z r) (append_assoc p (s ++ a) v ∙ ap (λ y. p ++ y) (append_assoc s a v ∙ ap (λ y. s ++ y) (sym f) ∙ sym e)) h

triple_halt : (a : List ℕ) (b : ℕ) (s r : List ℕ) → form.AreBlanks a → is_blank b ≡ false → (b == 35) ≡ false → triple (b ∷ s) ≡ stop Bad r → Halt (a ++ b ∷ s) r
triple_halt a b s r ha n m h =
    let l = b ∷ s in
    let f2 = λ (s : List ℕ) (p : List ℕ) (q : List ℕ). and_then (object (unblanked q)) (λ o e. dotted (record { subject = s; predicate = p; object = o }) (unblanked e)) in
    let f1 = λ (s : List ℕ) (r : List ℕ). and_then (iri (unblanked r)) (f2 s) in
    elim (and_then_stop (subject l) f1 Bad r h) [
      | inl x ↦ subject_test a b s r (b == 95) ha n m x
      | inr x ↦
          let si = subject_spelled l x.0 x.1 x.2 in
          let b1 = blanks_spelled x.1 in
          let p1 = a ++ (si.raw ++ b1.raw) in
          let at1 : what.Before what.predicate p1 = what.second a si.raw b1.raw (what.first ha) si.ref b1.blanks in
          passed a si.raw b1.raw l x.1 (unblanked x.1) r si.is b1.is (
          elim (and_then_stop (iri (unblanked x.1)) (f2 x.0) Bad r x.3) [
            | inl y ↦ iri_due what.predicate p1 x.1 (unblanked x.1) r predicate_other refl at1 refl y
            | inr y ↦
                let pi = iri_spelled (unblanked x.1) y.0 y.1 y.2 in
                let b2 = blanks_spelled y.1 in
                let p2 = p1 ++ (pi.raw ++ b2.raw) in
                let at2 : what.Before what.object p2 = what.third p1 pi.raw b2.raw at1 pi.ref b2.blanks in
                passed p1 pi.raw b2.raw (unblanked x.1) y.1 (unblanked y.1) r pi.is b2.is (
                elim (and_then_stop (object (unblanked y.1)) (λ o e. dotted (record { subject = x.0; predicate = y.0; object = o }) (unblanked e)) Bad r y.3) [
                  | inl z ↦ object_halt p2 y.1 (unblanked y.1) r at2 refl z
                  | inr z ↦ dot_halt p2 (unblanked y.1) z.1 (unblanked z.1) r (record { subject = x.0; predicate = y.0; object = z.0 }) (object_exit (unblanked y.1) z.1 z.0 z.2) at2 refl z.3
                ])
          ])
    ]

-- behind the dot
dot_goes : (o d e : List ℕ) → loose.IsObject o → form.AreBlanks d → form.AreBlanks e → Goes (state.next what.object) (o ++ (d ++ 46 ∷ e)) state.ended
dot_goes o d e ho hd he u =
    let g = state.object_goes o ho in
    ap (go (state.next what.object)) (append_assoc o (d ++ 46 ∷ e) u ∙ ap (λ z. o ++ z) (append_assoc d (46 ∷ e) u))
    ∙ g.1 (d ++ 46 ∷ (e ++ u)) ∙ g.2 d (e ++ u) hd ∙ goes_blanks state.ended e (λ b k. rw k refl) he u

nested : (a s b p c x : List ℕ) → ((a ++ (s ++ b)) ++ (p ++ c)) ++ x ≡ a ++ (s ++ (b ++ (p ++ (c ++ x))))
nested a s b p c x = append_assoc (a ++ (s ++ b)) (p ++ c) x ∙ append_assoc a (s ++ b) ((p ++ c) ++ x) ∙ ap (λ z. a ++ z) (append_assoc s b ((p ++ c) ++ x) ∙ ap (λ z. s ++ (b ++ z)) (append_assoc p c x))

ended_halt : (a l u : List ℕ) (t : Triple) (z : List ℕ) (c : ℕ) → form.AreBlanks a → triple l ≡ got t z → unblanked z ≡ c ∷ u → (c == 35) ≡ false → Halt (a ++ l) (c ∷ u)
ended_halt a l u t z c ha h e n =
    let m = triple_spelled l t z h in
    let k = blanks_spelled z in
    let before = (a ++ (m.s ++ m.b)) ++ (m.p ++ m.c) in
    let at : what.Before what.object before = what.third (a ++ (m.s ++ m.b)) m.p m.c (what.second a m.s m.b (what.first ha) m.hs m.hb) m.hp m.hc in
    let o = loose_object m.o t.object m.ho in
    let tail = m.o ++ (m.d ++ 46 ∷ k.raw) in
    let front = before ++ tail in
    let rest = c ∷ u in
    let text : front ++ rest ≡ a ++ l =
    append_assoc before tail rest ∙ nested a m.s m.b m.p m.c (tail ++ rest)
    ∙ ap (λ x. a ++ x) (ap (λ x. m.s ++ (m.b ++ (m.p ++ (m.c ++ x)))) (append_assoc m.o (m.d ++ 46 ∷ k.raw) rest ∙ ap (λ x. m.o ++ x) (append_assoc m.d (46 ∷ k.raw) rest ∙ ap (λ x. m.d ++ 46 ∷ x) (ap (λ x. k.raw ++ x) (sym e) ∙ sym k.is))) ∙ sym m.is) in
    let whole : loose.IsLine (front ++ []) =
    subst loose.IsLine (ap (λ x. a ++ (m.s ++ (m.b ++ (m.p ++ (m.c ++ (m.o ++ (m.d ++ 46 ∷ x))))))) (append-nil k.raw) ∙ sym (nested a m.s m.b m.p m.c tail) ∙ sym (append-nil front))
    (loose.says a m.b m.c m.d k.raw [] m.s m.p m.o ha m.hb m.hc m.hd k.blanks tt (loose_iri m.s t.subject m.hs) (loose_iri m.p t.predicate m.hp) o) in
    moved (front ++ rest) (a ++ l) rest text
    (nothing_on front rest [] state.ended (goes_then state.start (state.next what.object) state.ended before tail (before_goes what.object before at) (dot_goes m.o m.d k.raw o m.hd k.blanks)) (rw (unblanked_head z u c e, n) refl) whole)

end_test : (a l u r : List ℕ) (t : Triple) (z : List ℕ) (c : ℕ) (v : Bool) → form.AreBlanks a → triple l ≡ got t z → unblanked z ≡ c ∷ u → (c == 35) ≡ v → cond v (got (Some t) []) (stop Bad (c ∷ u)) ≡ stop Bad r → Halt (a ++ l) r
end_test a l u r t z c true ha h e n g = absurd (cc)
end_test a l u r t z c false ha h e n g = let same : c ∷ u ≡ r = same_place g in subst (Halt (a ++ l)) same (ended_halt a l u t z c ha h e n)

end_halt : (a l y r : List ℕ) (t : Triple) (z : List ℕ) → form.AreBlanks a → triple l ≡ got t z → unblanked z ≡ y → ended (Some t) y ≡ stop Bad r → Halt (a ++ l) r
end_halt a l [] r t z ha h e g = absurd (cc)
end_halt a l (c ∷ u) r t z ha h e g = end_test a l u r t z c (c == 35) ha h e refl g

said_test : (a : List ℕ) (b : ℕ) (s r : List ℕ) (v : Bool) → form.AreBlanks a → is_blank b ≡ false → (b == 35) ≡ v → cond v (got None []) (and_then (triple (b ∷ s)) (λ t r. ended (Some t) (unblanked r))) ≡ stop Bad r → Halt (a ++ b ∷ s) r
said_test a b s r true ha n e h = absurd (cc)
said_test a b s r false ha n e h =
    elim (and_then_stop (triple (b ∷ s)) (λ t r. ended (Some t) (unblanked r)) Bad r h) [
      | inl x ↦ triple_halt a b s r ha n e x
      | inr x ↦ end_halt a (b ∷ s) (unblanked x.1) r x.0 x.1 ha x.2 refl x.3
    ]

said_halt : (a z l r : List ℕ) → form.AreBlanks a → unblanked z ≡ l → said l ≡ stop Bad r → Halt (a ++ l) r
said_halt a z [] r ha e h = absurd (cc)
said_halt a z (b ∷ s) r ha e h = said_test a b s r (b == 35) ha (unblanked_head z s b e) refl h

pub line_halt : (l r : List ℕ) → line l ≡ stop Bad r → Halt l r
unfolding line
line_halt l r h = let m = blanks_spelled l in subst (λ (z : List ℕ). Halt z r) (sym m.is) (said_halt m.raw l (unblanked l) r m.blanks refl h)
