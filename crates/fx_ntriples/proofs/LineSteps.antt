-- The steps along the lines of a text.
use Rattle.std.proofs.Common.{◌≡◌, ℕ, suc, ◌+◌, ◌-◌, ◌<◌, ◌≤◌, Bool, true, false, cond, not, ◌==◌, Option, Some, None, Ok, Err, get_or, List, [], ◌∷◌, ◌++◌, length, take, drop, refl, sym, ap, ◌∙◌, arith, append_assoc, append-nil, length-drop, length-take}
use Rattle.std.specs.List.{position_or_len, slice_split, onto_first}
use Rattle.std.proofs.lemmas.List.{drop-drop, take_all, get_or-drop}
use Rattle.std.proofs.lemmas.List.Splits.{slice_split_first}
use Rattle.fx_terms.specs.declared.triples.Triple.{Triple}
use Rattle.fx_ntriples.specs.Quotes.{got}
use Rattle.std.proofs.lemmas.Bool.Decides.{nat_tests}
use Rattle.std.proofs.lemmas.List.Sums.{passes_at_first}
use Rattle.fx_ntriples.specs.declared.faults.Stop.{Stop}
use Rattle.fx_ntriples.specs.declared.faults.Stop.TheVariants.{At, Memory}
use Rattle.fx_ntriples.specs.Answers.{Pushes, AnswersLines, stopped_at, triples_of}
use Rattle.fx_ntriples.specs.Reading.{Lines, all, fault, also, followed, read_lines, line, is_line_end}

-- lines behind some triples
abbrev pub behind : List Triple → Lines → Lines
behind ts (all us) = all (ts ++ us)
behind ts (fault k start place) = fault k start place

pub behind-also : (ts : List Triple) (t : Triple) (ls : Lines) → behind ts (also (Some t) ls) ≡ behind (ts ++ t ∷ []) ls
behind-also ts t (all us) = ap all (sym (append_assoc ts (t ∷ []) us))
behind-also ts t (fault k start place) = refl

-- where no element passes, the list is the one part
alone_test : {X : Type 0} (p : X → Bool) (x : X) (xs : List X) (v : Bool) → p x ≡ v → cond (not v) (1 + position_or_len p xs) 0 ≡ suc (length xs) → (position_or_len p xs ≡ length xs → slice_split p xs ≡ xs ∷ []) →
    cond v ([] ∷ slice_split p xs) (onto_first x (slice_split p xs)) ≡ (x ∷ xs) ∷ []
alone_test p x xs true e h ih = absurd (omega arith)
alone_test p x xs false e h ih = let n : position_or_len p xs ≡ length xs = omega arith in rw (ih n) refl

alone : {X : Type 0} (p : X → Bool) (xs : List X) → position_or_len p xs ≡ length xs → slice_split p xs ≡ xs ∷ []
alone p [] h = refl
alone p (x ∷ xs) h = alone_test p x xs (p x) refl h (alone p xs)

-- the line that begins at start ends at end
pub record Cut (text : List ℕ) (start end : ℕ) : Type 0 where
  pub place : end ≡ start + position_or_len is_line_end (drop start text)
  pub within : end ≤ length text

pub last_line : (text : List ℕ) (start end : ℕ) → Cut text start end → end ≡ length text →
    read_lines start (slice_split is_line_end (drop start text)) ≡ followed start (end - start) (line (take (end - start) (drop start text))) (all [])
last_line text start end h e =
    let n : position_or_len is_line_end (drop start text) ≡ length (drop start text) = omega (arith, length-drop start text, h.place) in
    let m : length (drop start text) ≡ end - start = omega (arith, length-drop start text) in
    let whole : take (end - start) (drop start text) ≡ drop start text = take_all (end - start) (drop start text) (omega arith) in
    rw (alone is_line_end (drop start text) n, whole, m) refl

pub one_line : (text : List ℕ) (start end : ℕ) → Cut text start end → end < length text →
    read_lines start (slice_split is_line_end (drop start text)) ≡ followed start (end - start) (line (take (end - start) (drop start text))) (read_lines (end + 1) (slice_split is_line_end (drop (end + 1) text)))
one_line text start end h l =
    let few : position_or_len is_line_end (drop start text) < length (drop start text) = omega (arith, length-drop start text, h.place) in
    let n : end - start ≡ position_or_len is_line_end (drop start text) = omega (arith, h.place) in
    let long : length (take (end - start) (drop start text)) ≡ end - start = omega (arith, length-take (end - start) (drop start text), length-drop start text) in
    let next : start + (end - start) + 1 ≡ end + 1 = omega (arith, h.place) in
    let after : drop (position_or_len is_line_end (drop start text) + 1) (drop start text) ≡ drop (end + 1) text = drop-drop (position_or_len is_line_end (drop start text) + 1) start text ∙ ap (λ k. drop k text) (omega (arith, h.place)) in
    rw (slice_split_first is_line_end (drop start text) 0 few, after, ← n, long, next) refl

pub behind-nil : (ls : Lines) → behind [] ls ≡ ls
behind-nil (all us) = refl
behind-nil (fault k start place) = refl

-- ---- one line after another

by_end : (text : List ℕ) (start end : ℕ) (v : Bool) → (end == length text) ≡ v → Cut text start end →
    (more : Lines) × (read_lines start (slice_split is_line_end (drop start text)) ≡ followed start (end - start) (line (take (end - start) (drop start text))) more)
by_end text start end true e h = (all [], last_line text start end h (grind (arith, nat_tests)))
by_end text start end false e h = (read_lines (end + 1) (slice_split is_line_end (drop (end + 1) text)), one_line text start end h (let apart : end ≡ length text → ⊥ = grind (arith, nat_tests) in omega (arith, h.within)))

-- a line with a fault
pub stops_at : (text : List ℕ) (start end : ℕ) (ts new : List Triple) (e : Stop) (whole : Lines) → Cut text start end → behind ts (read_lines start (slice_split is_line_end (drop start text))) ≡ whole →
    Pushes (take (end - start) (drop start text)) (Err e) ts new (line (take (end - start) (drop start text))) → AnswersLines text (Err (stopped_at e start)) whole
stops_at text start end ts new (At k place) whole h so p =
    let long : length (take (end - start) (drop start text)) ≡ end - start = omega (arith, length-take (end - start) (drop start text), length-drop start text, h.within) in
    let left : end - start - length (drop place (take (end - start) (drop start text))) ≡ place = omega (arith, length-drop place (take (end - start) (drop start text)), p.0) in
    let g = by_end text start end (end == length text) refl h in (
      omega (arith, h.place, h.within),
      omega (arith, length-drop start text, p.0, h.within),
      sym so ∙ ap (behind ts) (g.1 ∙ ap (λ r. followed start (end - start) r g.0) p.1 ∙ ap (fault k start) left),
    )
stops_at text start end ts new Memory whole h so p = tt

followed_said : (start size : ℕ) (t : Option Triple) (rest : List ℕ) (ts : List Triple) (more : Lines) → behind ts (followed start size (got t rest) more) ≡ behind (ts ++ triples_of t) more
followed_said start size None rest ts more = ap (λ us. behind us more) (sym (append-nil ts))
followed_said start size (Some t) rest ts more = behind-also ts t more

-- the last line
pub ends_with : (text : List ℕ) (start end : ℕ) (ts new : List Triple) (whole : Lines) → Cut text start end → end ≡ length text → behind ts (read_lines start (slice_split is_line_end (drop start text))) ≡ whole →
    Pushes (take (end - start) (drop start text)) (Ok tt) ts new (line (take (end - start) (drop start text))) → whole ≡ all new
ends_with text start end ts new whole h e so p =
    sym so ∙ ap (behind ts) (last_line text start end h e ∙ ap (λ r. followed start (end - start) r (all [])) p.2) ∙ followed_said start (end - start) p.0 p.1 ts (all []) ∙ ap all (append-nil (ts ++ triples_of p.0) ∙ sym p.3)

-- a line before others
pub goes_on : (text : List ℕ) (start end : ℕ) (ts new : List Triple) (whole : Lines) → Cut text start end → end < length text → behind ts (read_lines start (slice_split is_line_end (drop start text))) ≡ whole →
    Pushes (take (end - start) (drop start text)) (Ok tt) ts new (line (take (end - start) (drop start text))) → behind new (read_lines (end + 1) (slice_split is_line_end (drop (end + 1) text))) ≡ whole
goes_on text start end ts new whole h l so p =
    let more = read_lines (end + 1) (slice_split is_line_end (drop (end + 1) text)) in
    ap (λ us. behind us more) p.3 ∙ sym (followed_said start (end - start) p.0 p.1 ts more) ∙ ap (behind ts) (sym (one_line text start end h l ∙ ap (λ r. followed start (end - start) r more) p.2)) ∙ so

-- a line end is ASCII
line_end_ascii : (b : ℕ) → is_line_end b ≡ true → b < 128
line_end_ascii b h = grind (arith, nat_tests)

pub end_passes : (text : List ℕ) (start end : ℕ) → Cut text start end → end < length text → get_or text end 0 < 128
end_passes text start end h l =
    let few : position_or_len is_line_end (drop start text) < length (drop start text) = omega (arith, length-drop start text, h.place) in
    let here : get_or (drop start text) (position_or_len is_line_end (drop start text)) 0 ≡ get_or text end 0 = get_or-drop start text (position_or_len is_line_end (drop start text)) 0 ∙ ap (λ k. get_or text k 0) (sym h.place) in
    line_end_ascii _ (ap is_line_end (sym here) ∙ passes_at_first is_line_end (drop start text) 0 few)
