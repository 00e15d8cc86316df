-- The steps of the reader of tokens.
use Rattle.std.proofs.Common.{◌≡◌, ℕ, ◌+◌, ◌-◌, ◌<◌, ◌≤◌, Bool, true, false, cond, ◌||◌, List, [], ◌∷◌, ◌++◌, length, Some, None, Result, Ok, Err, refl, sym, ap, ◌∙◌, subst, arith, append_assoc, append-nil, length-append}
use Rattle.std.specs.Prelude.{◌==◌}
use Rattle.std.proofs.lemmas.Bool.{eqb-true}
use Rattle.fx_tokens.specs.Answers.{width, UnlessMemory}
use Rattle.fx_tokens.specs.Classes as class
use Rattle.fx_tokens.specs.Reads.{EndsLine, BeginsToken, begins_backslash, BadText, FaultyAt, Faulty, with_front, Reads, ends, blank, comment, token, fault}
use Rattle.fx_tokens.specs.Scan as scan
use Rattle.fx_tokens.specs.declared.Token.{Token}
use Rattle.fx_tokens.specs.declared.TokenKind.{TokenKind}
use Rattle.fx_tokens.specs.declared.TokenError.{TokenError}
use Rattle.fx_tokens.specs.declared.TokenError.TheVariants.{Bad, Memory}
use Rattle.fx_tokens.specs.declared.TokenFault.TheVariants.{Character, Escape, Unclosed}
use Rattle.fx_tokens.specs.declared.classes.QuoteMark.{QuoteMark}
use Rattle.fx_tokens.proofs.Readers.{unit_one, step, skip_found, skip_stops, width_append, width_behind}
use Rattle.fx_tokens.proofs.KindLaws.{text_unit}
use Rattle.fx_tokens.proofs.Longest.{longest_some, longest_none}
use Rattle.fx_tokens.proofs.KindLaws.{token_some}

-- ---- faults

found_backslash : (p : ℕ → Bool) (c : ℕ) (text rest : List ℕ) (b : Bool) → p c ≡ b → cond b (Some text) None ≡ Some rest → p c ≡ true
found_backslash p c text rest true e f = e
found_backslash p c text rest false e f = absurd (cc)

no_backslash : (p : ℕ → Bool) (c : ℕ) (text : List ℕ) (b : Bool) → p c ≡ b → cond b (Some text) None ≡ None → p c ≡ false
no_backslash p c text true e f = absurd (cc)
no_backslash p c text false e f = e

pub backslash_some : (text rest : List ℕ) → scan.one (class.is 92) text ≡ Some rest → begins_backslash text ≡ true
unfolding scan.one
backslash_some [] rest e = absurd (cc)
backslash_some (c ∷ text) rest e = found_backslash (class.is 92) c text rest (class.is 92 c) refl e

pub backslash_none : (text : List ℕ) → scan.one (class.is 92) text ≡ None → begins_backslash text ≡ false
unfolding scan.one
backslash_none [] e = refl
backslash_none (c ∷ text) e = no_backslash (class.is 92) c text (class.is 92 c) refl e

pub text_rest_within : (q : QuoteMark) (place size : ℕ) (text rest : List ℕ) → place + width (class.quote q ∷ text) ≡ size → rest ≡ scan.skip (scan.text_part (class.quote q)) text → width rest ≤ size
text_rest_within q place size text rest e f =
    let g = skip_found (step (text_unit q)) text in
    omega (arith, e, ap width f, width_behind text g.0 (scan.skip (scan.text_part (class.quote q)) text) g.1, width_behind (class.quote q ∷ text) (class.quote q ∷ []) text refl)

pub bad_text : (q : QuoteMark) (place size : ℕ) (text rest : List ℕ) (error : TokenError) → place + width (class.quote q ∷ text) ≡ size → rest ≡ scan.skip (scan.text_part (class.quote q)) text
    → error ≡ cond (begins_backslash rest) (Bad (size - width rest) Escape) (Bad place Unclosed) → BadText place (class.quote q) text error
bad_text q place size text rest error e f why =
    let read = scan.text_part (class.quote q) in
    let g = skip_found (step (text_unit q)) text in
    let parts : text ≡ g.0 ++ rest = g.1 ∙ ap (λ v. g.0 ++ v) (sym f) in
    let stops : read rest ≡ None = ap read f ∙ skip_stops (step (text_unit q)) text in
    let at : size - width rest ≡ place + width (class.quote q ∷ g.0) = omega (arith, e, ap (λ v. width (class.quote q ∷ v)) parts, width_append (class.quote q ∷ g.0) rest) in
    record {
      body = g.0;
      rest = rest;
      parts = parts;
      is_body = g.2;
      stops = λ front back same h. let whole : read rest ≡ Some back = ap read same ∙ (text_unit q).whole front back h in cc (whole, stops);
      why = why ∙ ap (λ (n : ℕ). cond (begins_backslash rest) (Bad n Escape) (Bad place Unclosed)) at;
    }

pub bad_escape : (q : QuoteMark) (place size n : ℕ) (text rest behind : List ℕ) → place + width (class.quote q ∷ text) ≡ size → rest ≡ scan.skip (scan.text_part (class.quote q)) text → n ≡ width rest → Some behind ≡ scan.one (class.is 92) rest
    → BadText place (class.quote q) text (Bad (size - n) Escape)
bad_escape q place size n text rest behind e f w b =
    bad_text q place size text rest (Bad (size - n) Escape) e f (ap (λ (m : ℕ). Bad (size - m) Escape) w ∙ ap (λ (t : Bool). cond t (Bad (size - width rest) Escape) (Bad place Unclosed)) (sym (backslash_some rest behind (sym b))))

pub bad_unclosed : (q : QuoteMark) (place size : ℕ) (text rest : List ℕ) → place + width (class.quote q ∷ text) ≡ size → rest ≡ scan.skip (scan.text_part (class.quote q)) text → None ≡ scan.one (class.is 92) rest
    → BadText place (class.quote q) text (Bad place Unclosed)
bad_unclosed q place size text rest e f b =
    bad_text q place size text rest (Bad place Unclosed) e f (ap (λ (t : Bool). cond t (Bad (size - width rest) Escape) (Bad place Unclosed)) (sym (backslash_none rest (sym b))))

pub faulty_text : (at : ℕ) (text : List ℕ) (c : ℕ) (rest : List ℕ) (error : TokenError) → text ≡ c ∷ rest → (c == 39 || c == 34) ≡ true → BadText at c rest error → Faulty at text error
faulty_text at text c rest error e q bad = subst (λ (v : List ℕ). Faulty at v error) (sym e) (subst (λ (b : Bool). FaultyAt b at c rest error) (sym q) bad)

pub faulty_character : (at : ℕ) (text : List ℕ) (c : ℕ) (rest : List ℕ) (error : TokenError) → text ≡ c ∷ rest → (c == 39 || c == 34) ≡ false → error ≡ Bad at Character → Faulty at text error
faulty_character at text c rest error e q bad = subst (λ (v : List ℕ). Faulty at v error) (sym e) (subst (λ (b : Bool). FaultyAt b at c rest error) (sym q) bad)

pub no_quote : (c : ℕ) → (c ≡ 39 → ⊥) → (c ≡ 34 → ⊥) → (c == 39 || c == 34) ≡ false
no_quote c f g = go (c == 39) (c == 34) refl refl
  where
    go : (x y : Bool) → (c == 39) ≡ x → (c == 34) ≡ y → (x || y) ≡ false
    go true y e h = absurd (f (eqb-true c 39 e))
    go false true e h = absurd (g (eqb-true c 34 h))
    go false false e h = refl

-- ---- one turn of the reader

place_behind : (size : ℕ) (text front rest : List ℕ) → text ≡ front ++ rest → width text ≤ size → size - width text + width front ≡ size - width rest
place_behind size text front rest e h = omega (arith, h, ap width e, width_append front rest)

pub blank_turn : (size : ℕ) (text : List ℕ) (c : ℕ) (rest : List ℕ) (answer : Result (List Token) TokenError) → text ≡ c ∷ rest → class.is_white_space c ≡ true → width text ≤ size
    → Reads (size - width rest) rest answer → Reads (size - width text) text answer
blank_turn size text c rest answer e h within reads =
    blank c rest e h (subst (λ (n : ℕ). Reads n rest answer) (sym (place_behind size text (c ∷ []) rest e within)) reads)

ends_line : (text : List ℕ) → scan.one class.is_in_line text ≡ None → EndsLine text
unfolding scan.one
ends_line [] e = tt
ends_line (c ∷ text) e = go (class.is_line_end c) refl (no_backslash class.is_in_line c text (class.is_in_line c) refl e)
  where
    go : (b : Bool) → class.is_line_end c ≡ b → class.is_in_line c ≡ false → class.is_line_end c ≡ true
    go true f g = f
    go false f g = absurd (cc (f, g))

pub comment_turn : (size : ℕ) (text behind rest : List ℕ) (answer : Result (List Token) TokenError) → text ≡ 35 ∷ behind → rest ≡ scan.skip (scan.one class.is_in_line) behind → width text ≤ size
    → Reads (size - width rest) rest answer → Reads (size - width text) text answer
comment_turn size text behind rest answer e f within reads =
    let g = skip_found (step (unit_one class.is_in_line)) behind in
    let stops : scan.one class.is_in_line rest ≡ None = ap (scan.one class.is_in_line) f ∙ skip_stops (step (unit_one class.is_in_line)) behind in
    let parts : text ≡ 35 ∷ (g.0 ++ rest) = e ∙ ap (λ v. 35 ∷ v) (g.1 ∙ ap (λ v. g.0 ++ v) (sym f)) in
    comment g.0 rest parts g.2 (ends_line rest stops) (subst (λ (n : ℕ). Reads n rest answer) (sym (place_behind size text (35 ∷ g.0) rest parts within)) reads)

pub rest_within : (text behind rest : List ℕ) (c : ℕ) → text ≡ c ∷ behind → rest ≡ scan.skip (scan.one class.is_in_line) behind → width rest ≤ width text
rest_within text behind rest c e f =
    let g = skip_found (step (unit_one class.is_in_line)) behind in
    omega (arith, ap width f, width_behind behind g.0 (scan.skip (scan.one class.is_in_line) behind) g.1, width_behind text (c ∷ []) behind e)

pub rest_smaller : (text behind rest : List ℕ) (c : ℕ) → text ≡ c ∷ behind → rest ≡ scan.skip (scan.one class.is_in_line) behind → length rest < length text
rest_smaller text behind rest c e f =
    let g = skip_found (step (unit_one class.is_in_line)) behind in
    omega (arith, ap (λ (v : List ℕ). length v) (g.1 ∙ ap (λ v. g.0 ++ v) (sym f)), length-append g.0 rest, ap (λ (v : List ℕ). length v) e)

pub begins_token : (text : List ℕ) (c : ℕ) (rest : List ℕ) → text ≡ c ∷ rest → class.is_white_space c ≡ false → (c ≡ 35 → ⊥) → BeginsToken text
begins_token text c rest e f g = subst BeginsToken (sym e) (go (class.is_white_space c) (c == 35) f refl)
  where
    go : (x y : Bool) → x ≡ false → (c == 35) ≡ y → (x || y) ≡ false
    go true y h k = absurd (cc)
    go false true h k = absurd (g (eqb-true c 35 k))
    go false false h k = refl

pub token_within : (text : List ℕ) (k : TokenKind) (rest : List ℕ) → scan.longest text ≡ Some (k, rest) → width rest ≤ width text
token_within text k rest e = let l = longest_some text k rest e in width_behind text l.0 rest l.1.parts

pub token_smaller : (text : List ℕ) (k : TokenKind) (rest : List ℕ) → scan.longest text ≡ Some (k, rest) → length rest < length text
token_smaller text k rest e = let l = longest_some text k rest e in omega (arith, token_some k l.0 l.1.is, ap (λ (v : List ℕ). length v) l.1.parts, length-append l.0 rest)

pub token_turn : (size : ℕ) (text : List ℕ) (k : TokenKind) (rest : List ℕ) (further : Result (List Token) TokenError) → BeginsToken text → scan.longest text ≡ Some (k, rest) → width text ≤ size
    → Reads (size - width rest) rest further → Reads (size - width text) text (with_front (record { kind = k; start = size - width text; end = size - width rest }) further)
token_turn size text k rest further b e within reads =
    let l = longest_some text k rest e in
    let place = place_behind size text l.0 rest l.1.parts within in
    token k l.0 rest further b l.1 (subst (λ (n : ℕ). Reads n rest further) (sym place) reads)
    (ap (λ (n : ℕ). with_front (record { kind = k; start = size - width text; end = n }) further) (sym place))

pub fault_turn : (size : ℕ) (text : List ℕ) (error : TokenError) → BeginsToken text → scan.longest text ≡ None → Faulty (size - width text) text error → Reads (size - width text) text (Err error)
fault_turn size text error b e f = fault error b (longest_none text e) f refl

pub ends_turn : (size : ℕ) (text : List ℕ) → text ≡ [] → Reads (size - width text) text (Ok [])
ends_turn size text e = ends e refl

-- ---- tokens in front of an answer

abbrev pub with_fronts : List Token → Result (List Token) TokenError → Result (List Token) TokenError
with_fronts tokens (Ok further) = Ok (tokens ++ further)
with_fronts tokens (Err error) = Err error

pub no_fronts : (answer : Result (List Token) TokenError) → with_fronts [] answer ≡ answer
no_fronts (Ok tokens) = refl
no_fronts (Err error) = refl

pub one_front : (tokens : List Token) (t : Token) (answer : Result (List Token) TokenError) → with_fronts tokens (with_front t answer) ≡ with_fronts (tokens ++ t ∷ []) answer
one_front tokens t (Ok further) = ap (λ (v : List Token). Ok v) (sym (append_assoc tokens (t ∷ []) further))
one_front tokens t (Err error) = refl

-- what was read, and how reading goes on
pub record SoFar (size : ℕ) (text rest : List ℕ) (tokens : List Token) : Type 0 where
  pub within : width rest ≤ size
  pub reads : (answer : Result (List Token) TokenError) → Reads (size - width rest) rest answer → Reads 0 text (with_fronts tokens answer)

pub so_far_none : (text : List ℕ) → SoFar (width text) text text []
so_far_none text = record {
  within = omega arith;
  reads = λ answer r. subst (λ (a : Result (List Token) TokenError). Reads 0 text a) (sym (no_fronts answer)) (let nothing : width text - width text ≡ 0 = omega arith in subst (λ (n : ℕ). Reads n text answer) nothing r);
}

pub so_far_on : (size : ℕ) (text rest behind : List ℕ) (tokens : List Token) → SoFar size text rest tokens → width behind ≤ width rest → ((answer : Result (List Token) TokenError) → Reads (size - width behind) behind answer → Reads (size - width rest) rest answer) → SoFar size text behind tokens
so_far_on size text rest behind tokens s less turn = record { within = omega (arith, s.within, less); reads = λ answer r. s.reads answer (turn answer r) }

pub so_far_token : (size : ℕ) (text rest behind : List ℕ) (tokens : List Token) (t : Token) → SoFar size text rest tokens → width behind ≤ width rest
    → ((answer : Result (List Token) TokenError) → Reads (size - width behind) behind answer → Reads (size - width rest) rest (with_front t answer)) → SoFar size text behind (tokens ++ t ∷ [])
so_far_token size text rest behind tokens t s less turn = record {
  within = omega (arith, s.within, less);
  reads = λ answer r. subst (λ (a : Result (List Token) TokenError). Reads 0 text a) (one_front tokens t answer) (s.reads (with_front t answer) (turn answer r));
}

pub so_far_end : (size : ℕ) (text rest : List ℕ) (tokens : List Token) → SoFar size text rest tokens → rest ≡ [] → Reads 0 text (Ok tokens)
so_far_end size text rest tokens s e = subst (λ (v : List Token). Reads 0 text (Ok v)) (append-nil tokens) (s.reads (Ok []) (ends_turn size rest e))

pub unless : (error : TokenError) (P : Type 0) → P → UnlessMemory error P
unless Memory P h = tt
unless (Bad place why) P h = h
