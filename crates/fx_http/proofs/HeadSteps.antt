-- A head of a request ends in an empty line behind a line, so no head is missed by looking only there.
use Rattle.std.proofs.Common.{◌≡◌, ◌∙◌, ℕ, ◌-◌, ◌<◌, ◌≤◌, Bool, true, false, List, [], ◌∷◌, ◌++◌, length, drop, refl, sym, ap, subst, arith, tests, append_assoc, inl, inr, ◌||◌, ◌&&◌, Option, None, Some, option_to_list}
use Rattle.std.specs.Prelude.{◌⊎◌, flat_map, nat_eq, Result, Ok, Err, OnErr}
use Rattle.std.specs.List.{list_any, ends_with}
use Rattle.std.specs.Cmp.Lexicographic.{pointwise}
use Rattle.std.proofs.Math.Seq.{drop-append_seam}
use Rattle.std.proofs.lemmas.List.{length-append, append-nil}
use Rattle.std.proofs.lemmas.List.Elements.{All-head}
use Rattle.std.proofs.lemmas.List.Folds.{list_any-append}
use Rattle.std.proofs.lemmas.Bool.{cases_lt}
use Rattle.httparse.specs.Grammar.{LineEnd, crlf, lf, print_end, print_blank, print_version, Field, print_field, print_section, is_token_byte, IsToken, RequestHead, print_request, ReadsRequest}
use Rattle.fx_http.specs.RequestHeads.{is_of_line, ends_in_empty_line, HasNoHeadYet, BeginsWithSome, IsWholeHead}
use Rattle.fx_http.specs.Requests.{BeginsWithRequest, HasNoRequestHead, TakesOfHead}

-- ---- lists

-- what the list begins with, with one byte more
snoc : (front bs : List ℕ) (b : ℕ) (rest : List ℕ) → bs ++ b ∷ [] ≡ front ++ rest → (rest ≡ []) ⊎ ((left : List ℕ) × (bs ≡ front ++ left))
snoc [] bs b rest e = inr (bs, refl)
snoc (x ∷ front) [] b rest e = inl (nothing front rest (let t : [] ≡ front ++ rest = cc in t))
  where
    nothing : (a c : List ℕ) → [] ≡ a ++ c → c ≡ []
    nothing [] c e = sym e
    nothing (x ∷ a) c e = cc
snoc (x ∷ front) (y ∷ bs) b rest e = more (snoc front bs b rest (let t : bs ++ b ∷ [] ≡ front ++ rest = cc in t))
  where
    more : (rest ≡ []) ⊎ ((left : List ℕ) × (bs ≡ front ++ left)) → (rest ≡ []) ⊎ ((left : List ℕ) × (y ∷ bs ≡ x ∷ (front ++ left)))
    more (inl h) = inl h
    more (inr h) = let t = h.1 in inr (h.0, cc)

-- a shorter front lies in a longer one
within : (front rest bs left : List ℕ) → bs ++ left ≡ front ++ rest → length front ≤ length bs → (more : List ℕ) × (bs ≡ front ++ more)
within [] rest bs left e short = (bs, refl)
within (x ∷ front) rest [] left e short = absurd (omega arith)
within (x ∷ front) rest (y ∷ bs) left e short =
    let t = within front rest bs left (let t : bs ++ left ≡ front ++ rest = cc in t) (omega arith) in
    let same = t.1 in
    (t.0, cc)

-- ---- the end of a head

record EndsLine (bytes : List ℕ) : Type 0 where
  front : List ℕ
  is : bytes ≡ front ++ 10 ∷ []

end_line : (e : LineEnd) → EndsLine (print_end e)
end_line crlf = record { front = 13 ∷ []; is = refl }
end_line lf = record { front = []; is = refl }

line_behind : (a b : List ℕ) → EndsLine b → EndsLine (a ++ b)
line_behind a b x = record { front = a ++ x.front; is = ap (λ (t : List ℕ). a ++ t) x.is ∙ sym (append_assoc a x.front (10 ∷ [])) }

field_line : (f : Field) → EndsLine (print_field f)
field_line f = line_behind (f.name ++ 58 ∷ f.raw) (print_end f.end) (end_line f.end)

fields_line : (a : List ℕ) (fs : List Field) → EndsLine a → EndsLine (a ++ flat_map print_field fs)
fields_line a [] x = subst EndsLine (sym (append-nil a)) x
fields_line a (f ∷ fs) x =
    subst EndsLine (append_assoc a (print_field f) (flat_map print_field fs))
    (fields_line (a ++ print_field f) fs (line_behind a (print_field f) (field_line f)))

-- the bytes end in these
suffix : (front needle : List ℕ) → drop (length (front ++ needle) - length needle) (front ++ needle) ≡ needle
suffix front needle =
    let e : length (front ++ needle) - length needle ≡ length front = omega (arith, length-append front needle) in
    ap (λ (n : ℕ). drop n (front ++ needle)) e ∙ drop-append_seam front needle

two_ends : (front : List ℕ) → ends_with nat_eq (front ++ 10 ∷ 10 ∷ []) (10 ∷ 10 ∷ []) ≡ true
two_ends front = ap (λ (t : List ℕ). pointwise nat_eq (10 ∷ 10 ∷ []) t) (suffix front (10 ∷ 10 ∷ []))

two_crlf : (front : List ℕ) → ends_with nat_eq (front ++ 10 ∷ 13 ∷ 10 ∷ []) (10 ∷ 13 ∷ 10 ∷ []) ≡ true
two_crlf front = ap (λ (t : List ℕ). pointwise nat_eq (10 ∷ 13 ∷ 10 ∷ []) t) (suffix front (10 ∷ 13 ∷ 10 ∷ []))

or_true : (a : Bool) → (a || true) ≡ true
or_true true = refl
or_true false = refl

empty_line : (a : List ℕ) (last : LineEnd) → EndsLine a → ends_in_empty_line (a ++ print_end last) ≡ true
empty_line a lf x =
    let e : a ++ 10 ∷ [] ≡ x.front ++ 10 ∷ 10 ∷ [] = ap (λ (t : List ℕ). t ++ 10 ∷ []) x.is ∙ append_assoc x.front (10 ∷ []) (10 ∷ []) in
    ap ends_in_empty_line e ∙ rw (two_ends x.front) refl
empty_line a crlf x =
    let e : a ++ 13 ∷ 10 ∷ [] ≡ x.front ++ 10 ∷ 13 ∷ 10 ∷ [] = ap (λ (t : List ℕ). t ++ 13 ∷ 10 ∷ []) x.is ∙ append_assoc x.front (10 ∷ []) (13 ∷ 10 ∷ []) in
    ap ends_in_empty_line e ∙ rw (two_crlf x.front) (or_true _)

head_ends : (h : RequestHead) → ends_in_empty_line (print_request h) ≡ true
unfolding print_request
head_ends h =
    let start : List ℕ = print_blank h.blank ++ h.method ++ 32 ∷ h.target ++ 32 ∷ print_version h.minor in
    let lines = fields_line (start ++ print_end h.line_end) h.fields (line_behind start (print_end h.line_end) (end_line h.line_end)) in
    ap ends_in_empty_line (sym (append_assoc (start ++ print_end h.line_end) (flat_map print_field h.fields) (print_end h.last)))
    ∙ empty_line (start ++ print_end h.line_end ++ flat_map print_field h.fields) h.last lines

-- ---- a byte of a line

any_left : (a b : List ℕ) → list_any is_of_line a ≡ true → list_any is_of_line (a ++ b) ≡ true
any_left a b h = list_any-append is_of_line a b ∙ rw h refl

any_right : (a b : List ℕ) → list_any is_of_line b ≡ true → list_any is_of_line (a ++ b) ≡ true
any_right a b h = list_any-append is_of_line a b ∙ rw h (or_true _)

token_of_line : (b : ℕ) → is_token_byte b ≡ true → is_of_line b ≡ true
unfolding is_token_byte
token_of_line b h = grind (arith, tests)

token_any : (m : List ℕ) → IsToken m → list_any is_of_line m ≡ true
token_any [] t = absurd (let some = t.0 in omega arith)
token_any (b ∷ bs) t = rw (token_of_line b (All-head (λ x. is_token_byte x ≡ true) b bs t.1)) refl

head_begun : (h : RequestHead) → IsToken h.method → list_any is_of_line (print_request h) ≡ true
unfolding print_request
head_begun h m =
    let start : List ℕ = print_blank h.blank ++ h.method in
    let line : List ℕ = start ++ 32 ∷ h.target ++ 32 ∷ print_version h.minor in
    any_left (line ++ print_end h.line_end) (print_section h.fields h.last)
    (any_left line (print_end h.line_end)
    (any_left (start ++ 32 ∷ h.target) (32 ∷ print_version h.minor)
    (any_left start (32 ∷ h.target)
    (any_right (print_blank h.blank) h.method (token_any h.method m)))))

-- ---- one byte more

abbrev pub may_end : List ℕ → Bool
may_end bytes = list_any is_of_line bytes && ends_in_empty_line bytes

-- a head is not missed
may_end_head : (bytes : List ℕ) (h : RequestHead) → ReadsRequest bytes h [] → may_end bytes ≡ true
may_end_head bytes h x =
    let e : bytes ≡ print_request h = x.1 ∙ append-nil (print_request h) in
    subst (λ (t : List ℕ). may_end t ≡ true) (sym e) (rw (head_begun h x.0.method, head_ends h) refl)

pub headless_nil : HasNoHeadYet []
headless_nil h rest x = absurd (not_empty (print_request h) rest (head_begun h x.0.method) x.1)
  where
    not_empty : (a c : List ℕ) → list_any is_of_line a ≡ true → [] ≡ a ++ c → ⊥
    not_empty [] c t e = cc
    not_empty (x ∷ a) c t e = cc

-- a head that ends before the last byte
earlier : (bytes : List ℕ) (b : ℕ) (h : RequestHead) (rest : List ℕ) → HasNoHeadYet bytes → ReadsRequest (bytes ++ b ∷ []) h rest → (rest ≡ []) ⊎ (100 < length h.fields)
earlier bytes b h rest none x = by (snoc (print_request h) bytes b rest x.1)
  where
    by : (rest ≡ []) ⊎ ((left : List ℕ) × (bytes ≡ print_request h ++ left)) → (rest ≡ []) ⊎ (100 < length h.fields)
    by (inl e) = inl e
    by (inr t) = inr (none h t.0 (x.0, t.1))

-- where nothing may end, no head ends
pub headless_open : (bytes : List ℕ) (b : ℕ) → HasNoHeadYet bytes → may_end (bytes ++ b ∷ []) ≡ false → HasNoHeadYet (bytes ++ b ∷ [])
headless_open bytes b none shut h rest x = by (earlier bytes b h rest none x)
  where
    by : (rest ≡ []) ⊎ (100 < length h.fields) → 100 < length h.fields
    by (inl e) =
        let t = may_end_head (bytes ++ b ∷ []) h (subst (λ (r : List ℕ). ReadsRequest (bytes ++ b ∷ []) h r) e x) in
        absurd cc
    by (inr many) = many

-- a head that has come with the last byte is all that has come
pub whole_head : (bytes : List ℕ) (b : ℕ) → HasNoHeadYet bytes → BeginsWithSome (bytes ++ b ∷ []) → length (bytes ++ b ∷ []) ≤ 65536 → IsWholeHead (bytes ++ b ∷ [])
whole_head bytes b none x short =
    let few = x.few in
    let nothing : x.rest ≡ [] = by (earlier bytes b x.head x.rest none x.reads) in
    let reads = subst (λ (r : List ℕ). ReadsRequest (bytes ++ b ∷ []) x.head r) nothing x.reads in
    let long = ap length (reads.1 ∙ append-nil (print_request x.head)) in
    record { head = x.head; reads = reads; near = omega arith; few = few }
  where
    by : (x.rest ≡ []) ⊎ (100 < length x.head.fields) → x.rest ≡ []
    by (inl e) = e
    by (inr many) = let few = x.few in absurd (omega arith)

-- the byte that came
pub begun_more : (bytes : List ℕ) (b : ℕ) (begun : Bool) → begun ≡ list_any is_of_line bytes → (begun || is_of_line b) ≡ list_any is_of_line (bytes ++ b ∷ [])
begun_more bytes b begun e = sym (list_any-append is_of_line bytes (b ∷ []) ∙ rw (sym e) (last begun (is_of_line b)))
  where
    last : (x y : Bool) → (x || (y || false)) ≡ (x || y)
    last true y = refl
    last false true = refl
    last false false = refl

-- the test has told that no head ends here
pub shut_here : (now seen : List ℕ) (begun told : Bool) → begun ≡ list_any is_of_line now → seen ≡ now → told ≡ (begun && ends_in_empty_line seen) → told ≡ false
    → may_end now ≡ false
shut_here now seen begun told e f g h = cc

pub one_more : (bytes : List ℕ) (b most : ℕ) → length bytes < most → length (bytes ++ b ∷ []) ≤ most
one_more bytes b most few = omega (arith, length-append bytes (b ∷ []))

pub came_more : (input bytes left after : List ℕ) (o : Option ℕ) (b : ℕ) → input ≡ bytes ++ left → o ≡ Some b → left ≡ option_to_list o ++ after → input ≡ (bytes ++ b ∷ []) ++ after
came_more input bytes left after o b e is more =
    let one : left ≡ b ∷ after = more ∙ ap (λ (p : Option ℕ). option_to_list p ++ after) is in
    e ∙ ap (λ (t : List ℕ). bytes ++ t) one ∙ sym (append_assoc bytes (b ∷ []) after)

pub came_none : (input bytes left after : List ℕ) (o : Option ℕ) → input ≡ bytes ++ left → o ≡ None → left ≡ option_to_list o ++ after → input ≡ bytes ++ after
came_none input bytes left after o e is more = e ∙ ap (λ (t : List ℕ). bytes ++ t) (more ∙ ap (λ (p : Option ℕ). option_to_list p ++ after) is)

-- ---- no head

-- the input has ended
pub headless_ended : (input bytes left : List ℕ) → HasNoHeadYet bytes → input ≡ bytes ++ left → left ≡ [] → HasNoRequestHead input
headless_ended input bytes left none e ended h rest x =
    let few = x.few in
    let same : bytes ≡ input = sym (e ∙ ap (λ (t : List ℕ). bytes ++ t) ended ∙ append-nil bytes) in
    let many : 100 < length h.fields = none h rest (subst (λ (t : List ℕ). ReadsRequest t h rest) (sym same) x.reads) in
    omega arith

-- nothing can follow that makes a head
pub headless_never : (input bytes left : List ℕ) → ((more : List ℕ) → HasNoHeadYet (bytes ++ more)) → input ≡ bytes ++ left → HasNoRequestHead input
headless_never input bytes left none e h rest x =
    let few = x.few in
    let many : 100 < length h.fields = none left h rest (subst (λ (t : List ℕ). ReadsRequest t h rest) e x.reads) in
    omega arith

-- all that a head may have has come
pub headless_long : (input bytes left : List ℕ) → HasNoHeadYet bytes → input ≡ bytes ++ left → 65536 ≤ length bytes → HasNoRequestHead input
headless_long input bytes left none e long h rest x =
    let few = x.few in
    let near = x.near in
    let t = within (print_request h) rest bytes left (sym e ∙ x.reads.1) (omega arith) in
    let many : 100 < length h.fields = none h t.0 (x.reads.0, t.1) in
    omega arith

-- ---- what was taken before a head has come

-- the input's head is longer than bytes at its front in which no head has come
longer : (input bytes left : List ℕ) → HasNoHeadYet bytes → input ≡ bytes ++ left → (h : RequestHead) (rest : List ℕ) → BeginsWithRequest input h rest → length bytes < length (print_request h)
longer input bytes left none e h rest x = by (cases_lt (length bytes) (length (print_request h)))
  where
    by : (length bytes < length (print_request h)) ⊎ (length (print_request h) ≤ length bytes) → length bytes < length (print_request h)
    by (inl less) = less
    by (inr more) =
        let few = x.few in
        let t = within (print_request h) rest bytes left (sym e ∙ x.reads.1) more in
        let many : 100 < length h.fields = none h t.0 (x.reads.0, t.1) in
        absurd (omega arith)

pub head_part : (input bytes left : List ℕ) → HasNoHeadYet bytes → input ≡ bytes ++ left → length bytes ≤ 65536 → TakesOfHead input left
head_part input bytes left none e short = record {
  bytes = bytes;
  taken = e;
  near = short;
  within = λ h rest x. (let t = longer input bytes left none e h rest x in omega arith);
}

-- with the byte that came last
pub head_part_more : (input bytes left : List ℕ) (b : ℕ) → HasNoHeadYet bytes → input ≡ (bytes ++ b ∷ []) ++ left → length bytes < 65536 → TakesOfHead input left
head_part_more input bytes left b none e short = record {
  bytes = bytes ++ b ∷ [];
  taken = e;
  near = one_more bytes b 65536 short;
  within = λ h rest x. one_more bytes b (length (print_request h)) (longer input bytes (b ∷ left) none (e ∙ append_assoc bytes (b ∷ []) left) h rest x);
}

pub on_err : {A E : Type 0} (r : Result A E) (P : Type 0) → P → OnErr r P
on_err (Ok x) P p = tt
on_err (Err e) P p = p
