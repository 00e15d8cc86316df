-- A text reads in one way.
use Rattle.std.proofs.Common.{◌≡◌, ℕ, ◌+◌, Bool, true, false, cond, ◌||◌, ◌&&◌, not, List, [], ◌∷◌, ◌++◌, length, Option, Some, None, Result, Ok, Err, refl, sym, ap, ◌∙◌, subst, arith}
use Rattle.std.specs.Prelude.{◌==◌, IfOk, IfErr, MatchResult}
use Rattle.fx_tokens.specs.Answers.{width, UnlessMemory}
use Rattle.fx_tokens.specs.Classes as class
use Rattle.fx_tokens.specs.Forms.{One, Repeat}
use Rattle.fx_tokens.specs.Kinds as kind
use Rattle.fx_tokens.specs.Reads.{Longest, NoToken, EndsLine, BeginsToken, begins_backslash, BadText, FaultyAt, Faulty, with_front, Reads, ends, blank, comment, token, fault}
use Rattle.fx_tokens.specs.Scan as scan
use Rattle.fx_tokens.specs.declared.Token.{Token}
use Rattle.fx_tokens.specs.declared.TokenKind.{TokenKind}
use Rattle.fx_tokens.specs.declared.TokenError.{TokenError}
use Rattle.fx_tokens.specs.declared.TokenError.TheVariants.{Bad, Memory}
use Rattle.fx_tokens.specs.declared.TokenFault.TheVariants.{Escape, Unclosed}
use Rattle.fx_tokens.proofs.Readers.{Found, unit_one, skip_exact, width_append}
use Rattle.fx_tokens.proofs.KindLaws.{text_part_unit}
use Rattle.fx_tokens.proofs.Sorts.{one_kind}

abbrev Answer : Type 0
Answer = Result (List Token) TokenError

-- ---- parts that can be told

same_front : (x r y s : List ℕ) → x ++ r ≡ y ++ s → length x ≡ length y → (x ≡ y) × (r ≡ s)
same_front [] r [] s e h = (refl, e)
same_front [] r (d ∷ y) s e h = absurd (omega (arith, h))
same_front (c ∷ x) r [] s e h = absurd (omega (arith, h))
same_front (c ∷ x) r (d ∷ y) s e h =
    let f : x ++ r ≡ y ++ s = cc (e) in
    let g = same_front x r y s f (omega (arith, h)) in
    let same : c ≡ d = cc (e) in
    (ap (λ v. v ∷ x) same ∙ ap (λ v. d ∷ v) g.0, g.1)

plain_backslash : (quote : ℕ) → class.is_plain quote 92 ≡ false
plain_backslash quote = go (92 == quote)
  where
    go : (b : Bool) → ((not b && false) && true) ≡ false
    go true = refl
    go false = refl

no_part : (quote : ℕ) (rest : List ℕ) → ((front back : List ℕ) → rest ≡ front ++ back → kind.TextPart quote front → ⊥) → scan.text_part quote rest ≡ None
no_part quote rest stops = go (scan.text_part quote rest) ((text_part_unit quote (plain_backslash quote)).found rest)
  where
    go : (x : Option (List ℕ)) → Found (kind.TextPart quote) rest x → x ≡ None
    go None f = refl
    go (Some back) f = absurd (stops f.0 back f.1 f.2)

bad_rest : (at quote : ℕ) (text : List ℕ) (error : TokenError) → (b : BadText at quote text error) → scan.skip (scan.text_part quote) text ≡ b.rest
bad_rest at quote text error b =
    ap (scan.skip (scan.text_part quote)) b.parts ∙ skip_exact (text_part_unit quote (plain_backslash quote)) b.body b.rest b.is_body (no_part quote b.rest b.stops)

one_bad_text : (at quote : ℕ) (text : List ℕ) (e f : TokenError) → BadText at quote text e → BadText at quote text f → e ≡ f
one_bad_text at quote text e f x y =
    let rest : x.rest ≡ y.rest = sym (bad_rest at quote text e x) ∙ bad_rest at quote text f y in
    let long : width (quote ∷ x.body) ≡ width (quote ∷ y.body) =
    omega (arith, ap (λ v. width (quote ∷ v)) x.parts, ap (λ v. width (quote ∷ v)) y.parts, width_append (quote ∷ x.body) x.rest, width_append (quote ∷ y.body) y.rest, ap width rest) in
    x.why ∙ ap (λ v. cond (begins_backslash v) (Bad (at + width (quote ∷ x.body)) Escape) (Bad at Unclosed)) rest
    ∙ ap (λ (n : ℕ). cond (begins_backslash y.rest) (Bad (at + n) Escape) (Bad at Unclosed)) long ∙ sym y.why

one_fault_at : (b : Bool) (at c : ℕ) (text : List ℕ) (e f : TokenError) → FaultyAt b at c text e → FaultyAt b at c text f → e ≡ f
one_fault_at true at c text e f x y = one_bad_text at c text e f x y
one_fault_at false at c text e f x y = x ∙ sym y

one_fault : (at : ℕ) (text : List ℕ) (e f : TokenError) → Faulty at text e → Faulty at text f → e ≡ f
one_fault at [] e f x y = absurd x
one_fault at (c ∷ text) e f x y = one_fault_at (c == 39 || c == 34) at c text e f x y

line_end_stops : (text : List ℕ) → EndsLine text → scan.one class.is_in_line text ≡ None
unfolding scan.one
line_end_stops [] h = refl
line_end_stops (c ∷ text) h = ap (λ (b : Bool). cond (not b) (Some text) None) h

line_rest : (body rest : List ℕ) → Repeat (One class.is_in_line) body → EndsLine rest → scan.skip (scan.one class.is_in_line) (body ++ rest) ≡ rest
line_rest body rest b e = skip_exact (unit_one class.is_in_line) body rest b (line_end_stops rest e)

or_false : (a b : Bool) → (a || b) ≡ false → (a ≡ false) × (b ≡ false)
or_false true b e = absurd (cc)
or_false false b e = (refl, e)

begins_with : (text : List ℕ) (c : ℕ) (rest : List ℕ) → text ≡ c ∷ rest → BeginsToken text → (class.is_white_space c ≡ false) × ((c == 35) ≡ false)
begins_with text c rest e h = or_false (class.is_white_space c) (c == 35) (subst BeginsToken e h)

-- ---- each way to read leaves no other

no_blank : (text : List ℕ) (c : ℕ) (rest : List ℕ) → text ≡ c ∷ rest → class.is_white_space c ≡ true → BeginsToken text → ⊥
no_blank text c rest e h b = let f = (begins_with text c rest e b).0 in absurd (cc (h, f))

no_comment : (text rest : List ℕ) → text ≡ 35 ∷ rest → BeginsToken text → ⊥
no_comment text rest e b = let f = (begins_with text 35 rest e b).1 in absurd (cc (f))

nothing_begins : (text : List ℕ) → text ≡ [] → BeginsToken text → ⊥
nothing_begins text e b = subst BeginsToken e b

blank_comment : (text : List ℕ) (c : ℕ) (rest behind : List ℕ) → text ≡ c ∷ rest → class.is_white_space c ≡ true → text ≡ 35 ∷ behind → ⊥
blank_comment text c rest behind e h f = let same : c ≡ 35 = cc (e, f) in let g : class.is_white_space c ≡ false = ap class.is_white_space same in absurd (cc (h, g))

only_ends : (at : ℕ) (text : List ℕ) (a b : Answer) → text ≡ [] → a ≡ Ok [] → Reads at text b → a ≡ b
only_ends at text a b e f (ends g h) = f ∙ sym h
only_ends at text a b e f (blank c rest g h r) = absurd (cc (e, g))
only_ends at text a b e f (comment body rest g h i r) = absurd (cc (e, g))
only_ends at text a b e f (token k front rest further g h r i) = absurd (nothing_begins text e g)
only_ends at text a b e f (fault error g h i j) = absurd (nothing_begins text e g)

only_blank : (at : ℕ) (text : List ℕ) (a b : Answer) (c : ℕ) (rest : List ℕ) → text ≡ c ∷ rest → class.is_white_space c ≡ true → ((b : Answer) → Reads (at + width (c ∷ [])) rest b → a ≡ b) → Reads at text b → a ≡ b
only_blank at text a b c rest e f same (ends g h) = absurd (cc (e, g))
only_blank at text a b c rest e f same (blank d behind g h r) =
    let first : d ≡ c = cc (e, g) in
    let others : behind ≡ rest = cc (e, g) in
    same b (subst (λ v. Reads (at + width (v ∷ [])) rest b) first (subst (λ v. Reads (at + width (d ∷ [])) v b) others r))
only_blank at text a b c rest e f same (comment body behind g h i r) = absurd (blank_comment text c rest (body ++ behind) e f g)
only_blank at text a b c rest e f same (token k front behind further g h r i) = absurd (no_blank text c rest e f g)
only_blank at text a b c rest e f same (fault error g h i j) = absurd (no_blank text c rest e f g)

only_comment : (at : ℕ) (text : List ℕ) (a b : Answer) (body rest : List ℕ) → text ≡ 35 ∷ (body ++ rest) → Repeat (One class.is_in_line) body → EndsLine rest → ((b : Answer) → Reads (at + width (35 ∷ body)) rest b → a ≡ b) → Reads at text b → a ≡ b
only_comment at text a b body rest e f l same (ends g h) = absurd (cc (e, g))
only_comment at text a b body rest e f l same (blank c behind g h r) = absurd (blank_comment text c behind (body ++ rest) g h e)
only_comment at text a b body rest e f l same (comment other behind g h i r) =
    let both : body ++ rest ≡ other ++ behind = cc (e, g) in
    let others : behind ≡ rest = sym (line_rest other behind h i) ∙ ap (scan.skip (scan.one class.is_in_line)) (sym both) ∙ line_rest body rest f l in
    let place : at + width (35 ∷ other) ≡ at + width (35 ∷ body) = omega (arith, ap (λ v. width (35 ∷ v)) both, width_append (35 ∷ body) rest, width_append (35 ∷ other) behind, ap width others) in
    same b (subst (λ (n : ℕ). Reads n rest b) place (subst (λ v. Reads (at + width (35 ∷ other)) v b) others r))
only_comment at text a b body rest e f l same (token k front behind further g h r i) = absurd (no_comment text (body ++ rest) e g)
only_comment at text a b body rest e f l same (fault error g h i j) = absurd (no_comment text (body ++ rest) e g)

one_longest : (text : List ℕ) (k : TokenKind) (front rest : List ℕ) (j : TokenKind) (other behind : List ℕ) → Longest k front rest text → Longest j other behind text → (k ≡ j) × (front ≡ other) × (rest ≡ behind)
one_longest text k front rest j other behind x y =
    let long : length front ≡ length other = omega (arith, x.no_longer j other behind y.parts y.is, y.no_longer k front rest x.parts x.is) in
    let same = same_front front rest other behind (sym x.parts ∙ y.parts) long in
    (one_kind k j front x.is (subst (kind.IsToken j) (sym same.0) y.is), same.0, same.1)

only_token : (at : ℕ) (text : List ℕ) (a b : Answer) (k : TokenKind) (front rest : List ℕ) (further : Answer) → BeginsToken text → Longest k front rest text → a ≡ with_front (record { kind = k; start = at; end = at + width front }) further
    → ((b : Answer) → Reads (at + width front) rest b → further ≡ b) → Reads at text b → a ≡ b
only_token at text a b k front rest further e f l same (ends g h) = absurd (nothing_begins text g e)
only_token at text a b k front rest further e f l same (blank c behind g h r) = absurd (no_blank text c behind g h e)
only_token at text a b k front rest further e f l same (comment body behind g h i r) = absurd (no_comment text (body ++ behind) g e)
only_token at text a b k front rest further e f l same (token j other behind others g h r i) =
    let one = one_longest text k front rest j other behind f h in
    let read : further ≡ others = same others (subst (λ v. Reads (at + width v) rest others) (sym one.1) (subst (λ v. Reads (at + width other) v others) (sym one.2) r)) in
    l ∙ ap (λ v. with_front (record { kind = k; start = at; end = at + width front }) v) read ∙ ap (λ v. with_front (record { kind = v; start = at; end = at + width front }) others) one.0
    ∙ ap (λ v. with_front (record { kind = j; start = at; end = at + width v }) others) one.1 ∙ sym i
only_token at text a b k front rest further e f l same (fault error g h i j) = absurd (h k front rest f.parts f.is)

only_fault : (at : ℕ) (text : List ℕ) (a b : Answer) (error : TokenError) → BeginsToken text → NoToken text → Faulty at text error → a ≡ Err error → Reads at text b → a ≡ b
only_fault at text a b error e n f l (ends g h) = absurd (nothing_begins text g e)
only_fault at text a b error e n f l (blank c behind g h r) = absurd (no_blank text c behind g h e)
only_fault at text a b error e n f l (comment body behind g h i r) = absurd (no_comment text (body ++ behind) g e)
only_fault at text a b error e n f l (token k front behind others g h r i) = absurd (n k front behind h.parts h.is)
only_fault at text a b error e n f l (fault other g h i j) = l ∙ ap (λ v. Err v) (one_fault at text error other f i) ∙ sym j

pub one_answer : (at : ℕ) (text : List ℕ) (a b : Result (List Token) TokenError) → Reads at text a → Reads at text b → a ≡ b
one_answer at text a b (ends e f) s = only_ends at text a b e f s
one_answer at text a b (blank c rest e f r) s = only_blank at text a b c rest e f (λ b. one_answer (at + width (c ∷ [])) rest a b r) s
one_answer at text a b (comment body rest e f l r) s = only_comment at text a b body rest e f l (λ b. one_answer (at + width (35 ∷ body)) rest a b r) s
one_answer at text a b (token k front rest further e f r l) s = only_token at text a b k front rest further e f l (λ b. one_answer (at + width front) rest further b r) s
one_answer at text a b (fault error e n f l) s = only_fault at text a b error e n f l s

-- ---- what a reader of tokens answers is all that a text reads as

refused_only : (text : List ℕ) (e : TokenError) (answer : Answer) → UnlessMemory e (Reads 0 text (Err e)) → Reads 0 text answer → UnlessMemory e (answer ≡ Err e)
refused_only text Memory answer h r = tt
refused_only text (Bad place why) answer h r = one_answer 0 text answer (Err (Bad place why)) r h

pub only : {V : Type 0} (items : V → List Token) (text : List ℕ) (result : Result V TokenError) → IfOk result (λ v. Reads 0 text (Ok (items v))) → IfErr result (λ e. UnlessMemory e (Reads 0 text (Err e))) → (answer : Result (List Token) TokenError) → Reads 0 text answer
    → MatchResult result (λ v. answer ≡ Ok (items v)) (λ e. UnlessMemory e (answer ≡ Err e))
only items text (Ok v) found refused answer r = one_answer 0 text answer (Ok (items v)) r found
only items text (Err e) found refused answer r = refused_only text e answer refused r
