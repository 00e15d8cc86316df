-- Which line a refusal stands in, and where.
use Rattle.std.proofs.Common.{◌≡◌, ◌≢◌, ℕ, zero, suc, ◌+◌, ◌-◌, inl, inr, Bool, true, false, cond, Option, Some, None, Result, Ok, Err, List, [], ◌∷◌, ◌++◌, length, take, drop, refl, sym, ap, ◌∙◌, subst, arith, append_assoc, length-append}
use Rattle.std.specs.List.{slice_split, onto_first}
use Rattle.std.specs.Str.{is_utf8, IsUtf8}
use Rattle.std.proofs.lemmas.Str.{is_utf8-from_IsUtf8}
use Rattle.std.proofs.lemmas.List.{drop-drop}
use Rattle.fx_terms.specs.declared.triples.Triple.{Triple}
use Rattle.fx_ntriples.specs.declared.faults.Fault.{Fault}
use Rattle.fx_ntriples.specs.declared.faults.Fault.TheVariants as fault_is
use Rattle.fx_ntriples.specs.declared.faults.NtError.{NtError}
use Rattle.fx_ntriples.specs.declared.faults.NtError.TheVariants as error
use Rattle.fx_ntriples.specs.Quotes.{Got, got, stop}
use Rattle.fx_terms.specs.Utf8.{utf8_fault}
use Rattle.fx_ntriples.specs.Places.{line_ends, char_count, at_place}
use Rattle.fx_ntriples.specs.Reading.{is_line_end, line, Lines, all, fault, also, followed, read_lines, answered, read_document}
use Rattle.fx_ntriples.specs.Forms as form
use Rattle.fx_ntriples.specs.Refusals.{StandsAt, BlankStands, RelativeStands, BadStands, span}
use Rattle.fx_ntriples.specs.Answers.{Answers}
use Rattle.fx_ntriples.proofs.Sound.{line_spelled}
use Rattle.fx_ntriples.proofs.Stops.{Ends, Stands, line_stop}
use Rattle.fx_ntriples.proofs.Complete.{line_reads}
use Rattle.fx_ntriples.proofs.Exact.{line_bad, bad_refused}
use Rattle.fx_ntriples.proofs.Refused.{blank_refused, relative_refused}

-- ---- lines of a text, by places

first_test : (p : ℕ → Bool) (b : ℕ) (s l : List ℕ) (parts after : List (List ℕ)) (v : Bool) → cond v ([] ∷ parts) (onto_first b parts) ≡ l ∷ after →
    ((q : List ℕ) (qs : List (List ℕ)) → parts ≡ q ∷ qs → (r : List ℕ) × (s ≡ q ++ r)) → (r : List ℕ) × (b ∷ s ≡ l ++ r)
first_test p b s l parts after true h ih = let none : [] ≡ l = cc in (b ∷ s, ap (λ z. z ++ b ∷ s) none)
first_test p b s l [] after false h ih = let one : b ∷ [] ≡ l = cc in (s, ap (λ z. z ++ s) one)
first_test p b s l (q ∷ qs) after false h ih = let one : b ∷ q ≡ l = cc in let m = ih q qs refl in (m.0, ap (λ z. b ∷ z) m.1 ∙ ap (λ z. z ++ m.0) one)

-- a text begins with its first part
first_part : (p : ℕ → Bool) (s l : List ℕ) (after : List (List ℕ)) → slice_split p s ≡ l ∷ after → (r : List ℕ) × (s ≡ l ++ r)
first_part p [] l after h = let none : [] ≡ l = cc in ([], ap (λ z. z ++ []) none)
first_part p (b ∷ s) l after h = first_test p b s l (slice_split p s) after (p b) h (λ q qs e. first_part p s q qs e)

later_test : (p : ℕ → Bool) (b : ℕ) (s m x : List ℕ) (parts xs : List (List ℕ)) (v : Bool) → slice_split p s ≡ parts → cond v ([] ∷ parts) (onto_first b parts) ≡ m ∷ x ∷ xs →
    ((q : List ℕ) → slice_split p s ≡ q ∷ x ∷ xs → slice_split p (drop (length q + 1) s) ≡ x ∷ xs) → slice_split p (drop (length m + 1) (b ∷ s)) ≡ x ∷ xs
later_test p b s m x parts xs true e h ih =
    let none : [] ≡ m = cc in
    let rest : parts ≡ x ∷ xs = cc in
    subst (λ (y : List ℕ). slice_split p (drop (length y + 1) (b ∷ s)) ≡ x ∷ xs) none (e ∙ rest)
later_test p b s m x [] xs false e h ih = absurd (cc)
later_test p b s m x (q ∷ qs) xs false e h ih =
    let one : b ∷ q ≡ m = cc in
    let rest : qs ≡ x ∷ xs = cc in
    let n : suc (length q) + 1 ≡ suc (length q + 1) = omega arith in
    subst (λ (y : List ℕ). slice_split p (drop (length y + 1) (b ∷ s)) ≡ x ∷ xs) one (rw n (ih q (e ∙ ap (λ z. q ∷ z) rest)))

-- what follows the first part
later_parts : (p : ℕ → Bool) (s m x : List ℕ) (xs : List (List ℕ)) → slice_split p s ≡ m ∷ x ∷ xs → slice_split p (drop (length m + 1) s) ≡ x ∷ xs
later_parts p [] m x xs h = absurd (cc)
later_parts p (b ∷ s) m x xs h = later_test p b s m x (slice_split p s) xs (p b) refl h (λ q e. later_parts p s q x xs e)

-- behind the lines before it, a line begins
begins : (p : ℕ → Bool) (s l : List ℕ) (before after : List (List ℕ)) → slice_split p s ≡ before ++ l ∷ after → (r : List ℕ) × (drop (span before) s ≡ l ++ r)
begins p s l [] after h = first_part p s l after h
begins p s l (m ∷ []) after h =
    let t = first_part p (drop (length m + 1) s) l after (later_parts p s m l after h) in
    (t.0, ap (λ n. drop n s) (add_zero (length m + 1)) ∙ t.1)
  where
    add_zero : (n : ℕ) → n + 0 ≡ n
    add_zero n = omega arith
begins p s l (m ∷ x ∷ ms) after h =
    let t = begins p (drop (length m + 1) s) l (x ∷ ms) after (later_parts p s m x (ms ++ l ∷ after) h) in
    (t.0, sym (drop-drop (span (x ∷ ms)) (length m + 1) s) ∙ t.1)

-- ---- the line that stops the reading

record StopsIn (start : ℕ) (ls : List (List ℕ)) (k : Fault) (at place : ℕ) : Type 0 where
  pub before : List (List ℕ)
  pub triples : List Triple
  pub read : form.AreLines before triples
  pub text : List ℕ
  pub rest : List ℕ
  pub after : List (List ℕ)
  pub lines : ls ≡ before ++ text ∷ after
  pub stops : line text ≡ stop k rest
  pub at_is : at ≡ start + span before
  pub place_is : place ≡ length text - length rest

also_fault : (t : Triple) (more : Lines) (k : Fault) (at place : ℕ) → also (Some t) more ≡ fault k at place → more ≡ fault k at place
also_fault t (all us) k at place h = absurd (cc)
also_fault t (fault j s p) k at place h = h

line_then : (start : ℕ) (l : List ℕ) (ls : List (List ℕ)) (k : Fault) (at place : ℕ) (g : Got (Option Triple)) (more : Lines) → line l ≡ g → followed start (length l) g more ≡ fault k at place →
    (more ≡ fault k at place → StopsIn (start + length l + 1) ls k at place) → StopsIn start (l ∷ ls) k at place
line_then start l ls k at place (Ok p) more e h ih = go p.0 p.1 e h
  where
    go : (o : Option Triple) (s : List ℕ) → line l ≡ got o s → also o more ≡ fault k at place → StopsIn start (l ∷ ls) k at place
    go None s e h =
        let m = ih h in
        record {
          before = l ∷ m.before;
          triples = m.triples;
          read = form.silent (line_spelled l None s e) m.read;
          text = m.text;
          rest = m.rest;
          after = m.after;
          lines = ap (λ z. l ∷ z) m.lines;
          stops = m.stops;
          at_is = omega (arith, m.at_is);
          place_is = m.place_is;
        }
    go (Some t) s e h =
        let m = ih (also_fault t more k at place h) in
        record {
          before = l ∷ m.before;
          triples = t ∷ m.triples;
          read = form.more (line_spelled l (Some t) s e) m.read;
          text = m.text;
          rest = m.rest;
          after = m.after;
          lines = ap (λ z. l ∷ z) m.lines;
          stops = m.stops;
          at_is = omega (arith, m.at_is);
          place_is = m.place_is;
        }
line_then start l ls k at place (Err f) more e h ih =
    let kind : f.0 ≡ k = cc in
    let begin : start ≡ at = cc in
    let here : length l - length f.1 ≡ place = cc in
    record { before = []; triples = []; read = form.none; text = l; rest = f.1; after = ls; lines = refl; stops = e ∙ ap (λ z. stop z f.1) kind; at_is = omega arith; place_is = sym here }

lines_stop : (start : ℕ) (ls : List (List ℕ)) (k : Fault) (at place : ℕ) → read_lines start ls ≡ fault k at place → StopsIn start ls k at place
lines_stop start [] k at place h = absurd (cc)
lines_stop start (l ∷ ls) k at place h = line_then start l ls k at place (line l) (read_lines (start + length l + 1) ls) refl h (λ e. lines_stop (start + length l + 1) ls k at place e)

front_is : (xs ys : List ℕ) (n : ℕ) → n ≡ length xs → take n (xs ++ ys) ≡ xs
front_is [] ys zero e = refl
front_is [] ys (suc n) e = absurd (cc)
front_is (x ∷ xs) ys zero e = absurd (cc)
front_is (x ∷ xs) ys (suc n) e = ap (λ t. x ∷ t) (front_is xs ys n (omega arith))

-- Bad
placed_bad : (bytes : List ℕ) (at place line column : ℕ) → StopsIn 0 (slice_split is_line_end bytes) fault_is.Bad at place →
    line ≡ line_ends (take at bytes) + 1 → column ≡ char_count (take place (drop at bytes)) + 1 → StandsAt BadStands bytes line column
placed_bad bytes at place line column m e g =
    let x = line_bad m.text m.rest m.stops in
    let start : at ≡ span m.before = omega (arith, m.at_is) in
    let b = begins is_line_end bytes m.text m.before m.after m.lines in
    let behind : drop (span m.before) bytes ≡ x.front ++ (m.rest ++ b.0) = b.1 ∙ ap (λ z. z ++ b.0) x.is ∙ append_assoc x.front m.rest b.0 in
    let size : place ≡ length x.front = omega (arith, m.place_is, ap length x.is, length-append x.front m.rest) in
    let front : take place (drop at bytes) ≡ x.front = ap (λ n. take place (drop n bytes)) start ∙ ap (take place) behind ∙ front_is x.front (m.rest ++ b.0) place size in
    record {
      before = m.before;
      triples = m.triples;
      read = m.read;
      front = x.front;
      rest = m.rest;
      after = m.after;
      lines = m.lines ∙ ap (λ z. m.before ++ z ∷ m.after) x.is;
      stands = x.bad;
      line_is = e ∙ ap (λ n. line_ends (take n bytes) + 1) start;
      column_is = g ∙ ap (λ z. char_count z + 1) front;
    }

-- a fault of a kind other than Bad
placed : (What : List ℕ → List ℕ → Type 0) (bytes : List ℕ) (k : Fault) (at place line column : ℕ) → (k ≢ fault_is.Bad) → ((p r : List ℕ) → Stands k p r → What p r) → StopsIn 0 (slice_split is_line_end bytes) k at place →
    line ≡ line_ends (take at bytes) + 1 → column ≡ char_count (take place (drop at bytes)) + 1 → StandsAt What bytes line column
unfolding Ends
placed What bytes k at place line column other f m e g =
    elim (line_stop m.text m.rest k m.stops) [
      | inl x ↦ absurd (other x)
      | inr x ↦
          let start : at ≡ span m.before = omega (arith, m.at_is) in
          let b = begins is_line_end bytes m.text m.before m.after m.lines in
          let behind : drop (span m.before) bytes ≡ x.front ++ (m.rest ++ b.0) = b.1 ∙ ap (λ z. z ++ b.0) x.is ∙ append_assoc x.front m.rest b.0 in
          let size : place ≡ length x.front = omega (arith, m.place_is, ap length x.is, length-append x.front m.rest) in
          let front : take place (drop at bytes) ≡ x.front = ap (λ n. take place (drop n bytes)) start ∙ ap (take place) behind ∙ front_is x.front (m.rest ++ b.0) place size in
          record {
            before = m.before;
            triples = m.triples;
            read = m.read;
            front = x.front;
            rest = m.rest;
            after = m.after;
            lines = m.lines ∙ ap (λ z. m.before ++ z ∷ m.after) x.is;
            stands = f x.front m.rest x.stands;
            line_is = e ∙ ap (λ n. line_ends (take n bytes) + 1) start;
            column_is = g ∙ ap (λ z. char_count z + 1) front;
          }
    ]

blank_answer : (bytes : List ℕ) (ls : Lines) (l c : ℕ) → answered bytes ls ≡ Err (error.Blank l c) → (at : ℕ) × (place : ℕ) × (ls ≡ fault fault_is.Blank at place) × (l ≡ line_ends (take at bytes) + 1) × (c ≡ char_count (take place (drop at bytes)) + 1)
blank_answer bytes (all ts) l c h = absurd (cc)
blank_answer bytes (fault fault_is.Bad at place) l c h = absurd (cc)
blank_answer bytes (fault fault_is.Relative at place) l c h = absurd (cc)
blank_answer bytes (fault fault_is.Blank at place) l c h = (at, place, refl, cc, cc)

bad_answer : (bytes : List ℕ) (ls : Lines) (l c : ℕ) → answered bytes ls ≡ Err (error.Bad l c) → (at : ℕ) × (place : ℕ) × (ls ≡ fault fault_is.Bad at place) × (l ≡ line_ends (take at bytes) + 1) × (c ≡ char_count (take place (drop at bytes)) + 1)
bad_answer bytes (all ts) l c h = absurd (cc)
bad_answer bytes (fault fault_is.Blank at place) l c h = absurd (cc)
bad_answer bytes (fault fault_is.Relative at place) l c h = absurd (cc)
bad_answer bytes (fault fault_is.Bad at place) l c h = (at, place, refl, cc, cc)

relative_answer : (bytes : List ℕ) (ls : Lines) (l c : ℕ) → answered bytes ls ≡ Err (error.Relative l c) → (at : ℕ) × (place : ℕ) × (ls ≡ fault fault_is.Relative at place) × (l ≡ line_ends (take at bytes) + 1) × (c ≡ char_count (take place (drop at bytes)) + 1)
relative_answer bytes (all ts) l c h = absurd (cc)
relative_answer bytes (fault fault_is.Bad at place) l c h = absurd (cc)
relative_answer bytes (fault fault_is.Blank at place) l c h = absurd (cc)
relative_answer bytes (fault fault_is.Relative at place) l c h = (at, place, refl, cc, cc)

blank_test : (bytes : List ℕ) (l c n : ℕ) (v : Bool) → cond v (answered bytes (read_lines 0 (slice_split is_line_end bytes))) (Err (error.BadUtf8 n)) ≡ Err (error.Blank l c) → StandsAt BlankStands bytes l c
unfolding Stands
blank_test bytes l c n true h =
    let a = blank_answer bytes (read_lines 0 (slice_split is_line_end bytes)) l c h in
    placed BlankStands bytes fault_is.Blank a.0 a.1 l c (λ e. cc) (λ p r s. s) (lines_stop 0 (slice_split is_line_end bytes) fault_is.Blank a.0 a.1 a.2) a.3 a.4
blank_test bytes l c n false h = absurd (cc)

relative_test : (bytes : List ℕ) (l c n : ℕ) (v : Bool) → cond v (answered bytes (read_lines 0 (slice_split is_line_end bytes))) (Err (error.BadUtf8 n)) ≡ Err (error.Relative l c) → StandsAt RelativeStands bytes l c
unfolding Stands
relative_test bytes l c n true h =
    let a = relative_answer bytes (read_lines 0 (slice_split is_line_end bytes)) l c h in
    placed RelativeStands bytes fault_is.Relative a.0 a.1 l c (λ e. cc) (λ p r s. s) (lines_stop 0 (slice_split is_line_end bytes) fault_is.Relative a.0 a.1 a.2) a.3 a.4
relative_test bytes l c n false h = absurd (cc)

bad_test : (bytes : List ℕ) (l c n : ℕ) (v : Bool) → cond v (answered bytes (read_lines 0 (slice_split is_line_end bytes))) (Err (error.BadUtf8 n)) ≡ Err (error.Bad l c) → StandsAt BadStands bytes l c
bad_test bytes l c n true h =
    let a = bad_answer bytes (read_lines 0 (slice_split is_line_end bytes)) l c h in
    placed_bad bytes a.0 a.1 l c (lines_stop 0 (slice_split is_line_end bytes) fault_is.Bad a.0 a.1 a.2) a.3 a.4
bad_test bytes l c n false h = absurd (cc)

pub bad_stands : (bytes : List ℕ) (l c : ℕ) → read_document bytes ≡ Err (error.Bad l c) → StandsAt BadStands bytes l c
bad_stands bytes l c h = bad_test bytes l c (utf8_fault bytes) (is_utf8 bytes) h

pub told_bad : {X : Type 0} (r : Result X NtError) (wanted : Result X NtError) (l c : ℕ) → Answers r wanted → r ≡ Err (error.Bad l c) → wanted ≡ Err (error.Bad l c)
told_bad (Ok x) wanted l c a h = absurd (cc)
told_bad (Err error.Memory) wanted l c a h = absurd (cc)
told_bad (Err (error.BadUtf8 p)) wanted l c a h = absurd (cc)
told_bad (Err (error.Bad m d)) wanted l c a h = cc
told_bad (Err (error.Blank m d)) wanted l c a h = absurd (cc)
told_bad (Err (error.Relative m d)) wanted l c a h = absurd (cc)

pub blank_stands : (bytes : List ℕ) (l c : ℕ) → read_document bytes ≡ Err (error.Blank l c) → StandsAt BlankStands bytes l c
blank_stands bytes l c h = blank_test bytes l c (utf8_fault bytes) (is_utf8 bytes) h

pub relative_stands : (bytes : List ℕ) (l c : ℕ) → read_document bytes ≡ Err (error.Relative l c) → StandsAt RelativeStands bytes l c
relative_stands bytes l c h = relative_test bytes l c (utf8_fault bytes) (is_utf8 bytes) h

pub told_blank : {X : Type 0} (r : Result X NtError) (wanted : Result X NtError) (l c : ℕ) → Answers r wanted → r ≡ Err (error.Blank l c) → wanted ≡ Err (error.Blank l c)
told_blank (Ok x) wanted l c a h = absurd (cc)
told_blank (Err error.Memory) wanted l c a h = absurd (cc)
told_blank (Err (error.BadUtf8 p)) wanted l c a h = absurd (cc)
told_blank (Err (error.Bad m d)) wanted l c a h = absurd (cc)
told_blank (Err (error.Blank m d)) wanted l c a h = cc
told_blank (Err (error.Relative m d)) wanted l c a h = absurd (cc)

pub told_relative : {X : Type 0} (r : Result X NtError) (wanted : Result X NtError) (l c : ℕ) → Answers r wanted → r ≡ Err (error.Relative l c) → wanted ≡ Err (error.Relative l c)
told_relative (Ok x) wanted l c a h = absurd (cc)
told_relative (Err error.Memory) wanted l c a h = absurd (cc)
told_relative (Err (error.BadUtf8 p)) wanted l c a h = absurd (cc)
told_relative (Err (error.Bad m d)) wanted l c a h = absurd (cc)
told_relative (Err (error.Blank m d)) wanted l c a h = absurd (cc)
told_relative (Err (error.Relative m d)) wanted l c a h = cc

-- ---- the other way round

abbrev refusal : Fault → ℕ → ℕ → NtError
refusal fault_is.Bad l c = error.Bad l c
refusal fault_is.Blank l c = error.Blank l c
refusal fault_is.Relative l c = error.Relative l c

placed_is : (bytes : List ℕ) (k : Fault) (start place : ℕ) → at_place bytes k start place ≡ refusal k (line_ends (take start bytes) + 1) (char_count (take place (drop start bytes)) + 1)
placed_is bytes fault_is.Bad start place = refl
placed_is bytes fault_is.Blank start place = refl
placed_is bytes fault_is.Relative start place = refl

-- behind lines that are read, a line stops the reading
lines_halt : (start : ℕ) (before after : List (List ℕ)) (ts : List Triple) (text rest : List ℕ) (k : Fault) → form.AreLines before ts → line text ≡ stop k rest →
    read_lines start (before ++ text ∷ after) ≡ fault k (start + span before) (length text - length rest)
lines_halt start _ after ts text rest k form.none h =
    let same : start ≡ start + 0 = omega arith in
    ap (λ g. followed start (length text) g (read_lines (start + length text + 1) after)) h ∙ ap (λ n. fault k n (length text - length rest)) same
lines_halt start _ after ts text rest k (form.silent {l} {ls} {ts = us} m others) h =
    let same : start + length l + 1 + span ls ≡ start + (length l + 1 + span ls) = omega arith in
    ap (λ g. followed start (length l) g (read_lines (start + length l + 1) (ls ++ text ∷ after))) (line_reads l None m)
    ∙ lines_halt (start + length l + 1) ls after us text rest k others h ∙ ap (λ n. fault k n (length text - length rest)) same
lines_halt start _ after ts text rest k (form.more {l} {ls} {t} {ts = us} m others) h =
    let same : start + length l + 1 + span ls ≡ start + (length l + 1 + span ls) = omega arith in
    ap (λ g. followed start (length l) g (read_lines (start + length l + 1) (ls ++ text ∷ after))) (line_reads l (Some t) m)
    ∙ ap (also (Some t)) (lines_halt (start + length l + 1) ls after us text rest k others h ∙ ap (λ n. fault k n (length text - length rest)) same)

stands_read : (What : List ℕ → List ℕ → Type 0) (k : Fault) (bytes : List ℕ) (l c : ℕ) → ((p r : List ℕ) → What p r → line (p ++ r) ≡ stop k r) → IsUtf8 bytes → StandsAt What bytes l c → read_document bytes ≡ Err (refusal k l c)
stands_read What k bytes l c f u h =
    let text = h.front ++ h.rest in
    let place = length text - length h.rest in
    let size : place ≡ length h.front = omega (arith, length-append h.front h.rest) in
    let b = begins is_line_end bytes text h.before h.after h.lines in
    let behind : drop (span h.before) bytes ≡ h.front ++ (h.rest ++ b.0) = b.1 ∙ append_assoc h.front h.rest b.0 in
    let front : take place (drop (span h.before) bytes) ≡ h.front = ap (take place) behind ∙ front_is h.front (h.rest ++ b.0) place size in
    let halt : read_lines 0 (slice_split is_line_end bytes) ≡ fault k (0 + span h.before) place = ap (read_lines 0) h.lines ∙ lines_halt 0 h.before h.after h.triples text h.rest k h.read (f h.front h.rest h.stands) in
    let zero_plus : 0 + span h.before ≡ span h.before = omega arith in
    rw (is_utf8-from_IsUtf8 bytes u)
    (ap (answered bytes) (halt ∙ ap (λ n. fault k n place) zero_plus)
    ∙ ap (λ e. Err e) (placed_is bytes k (span h.before) place ∙ (λ i. refusal k (sym h.line_is i) (char_count (front i) + 1)) ∙ ap (refusal k l) (sym h.column_is)))

pub bad_only : (bytes : List ℕ) (l c : ℕ) → IsUtf8 bytes → StandsAt BadStands bytes l c → read_document bytes ≡ Err (error.Bad l c)
bad_only bytes l c u h = stands_read BadStands fault_is.Bad bytes l c bad_refused u h

pub blank_only : (bytes : List ℕ) (l c : ℕ) → IsUtf8 bytes → StandsAt BlankStands bytes l c → read_document bytes ≡ Err (error.Blank l c)
blank_only bytes l c u h = stands_read BlankStands fault_is.Blank bytes l c blank_refused u h

pub relative_only : (bytes : List ℕ) (l c : ℕ) → IsUtf8 bytes → StandsAt RelativeStands bytes l c → read_document bytes ≡ Err (error.Relative l c)
relative_only bytes l c u h = stands_read RelativeStands fault_is.Relative bytes l c relative_refused u h
