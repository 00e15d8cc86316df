-- A line from left to right, by states: where a line stands behind some of its bytes. The rules are passed over on which character an
-- escape may name, on absolute IRIs, and on rdf:langString.
use Rattle.std.proofs.Common.{◌≡◌, ℕ, zero, suc, ◌+◌, ◌<◌, ◌==◌, Bool, true, false, cond, not, ◌&&◌, ◌||◌, Option, Some, None, option_and_then, is_some, List, [], ◌∷◌, ◌++◌, length, take, drop, refl, sym, ap, ◌∙◌, subst, arith, append_assoc, append-nil}
use Rattle.std.specs.List.{list_all, slice_split, onto_first}
use Rattle.std.specs.Char.{is_ascii_hexdigit}
use Rattle.std.proofs.lemmas.Bool.Decides.{nat_tests}
use Rattle.std.proofs.lemmas.List.Splits.{length-slice_split}
use Rattle.std.proofs.lemmas.List.{take_all}
use Rattle.fx_terms.specs.Literals.{is_tag, is_dash, is_letters_or_digits, are_tag_parts}
use Rattle.fx_ntriples.specs.declared.quotes.Quote.{Quote}
use Rattle.fx_ntriples.specs.declared.quotes.Quote.TheVariants.{Iri, Text}
use Rattle.fx_ntriples.specs.Quotes.{is_plain, closing, short}
use Rattle.fx_ntriples.specs.Reading.{is_blank, in_part, tag_len}
use Rattle.fx_ntriples.specs.Forms.{AreBlanks, IsComment}
use Rattle.fx_ntriples.specs.Loose as loose
use Rattle.fx_ntriples.specs.Refusals.{Part, subject, predicate, object, datatype}
use Rattle.fx_ntriples.proofs.Complete.{both, parts_of_tag, tag_reads, no_tag_nil}

pub data State : Type 0 where
  start : State
  next : Part → State
  inside : Quote → State → State
  slash : Quote → State → State
  digits : ℕ → Quote → State → State
  closed : State
  spaced : State
  hat : State
  tag : Bool → Bool → State
  after : State
  ended : State
  comment : State

abbrev pub step_spaced : ℕ → Option State
step_spaced b = cond (is_blank b) (Some spaced) (cond (b == 94) (Some hat) (cond (b == 46) (Some ended) None))

abbrev pub step_after : ℕ → Option State
step_after b = cond (is_blank b) (Some after) (cond (b == 46) (Some ended) None)

abbrev pub step : State → ℕ → Option State
step start b = cond (is_blank b) (Some start) (cond (b == 35) (Some comment) (cond (b == 60) (Some (inside Iri (next predicate))) None))
step (next subject) b = None
step (next predicate) b = cond (is_blank b) (Some (next predicate)) (cond (b == 60) (Some (inside Iri (next object))) None)
step (next object) b = cond (is_blank b) (Some (next object)) (cond (b == 60) (Some (inside Iri after)) (cond (b == 34) (Some (inside Text closed)) None))
step (next datatype) b = cond (is_blank b) (Some (next datatype)) (cond (b == 60) (Some (inside Iri after)) None)
step (inside q k) b = cond (is_plain q b) (Some (inside q k)) (cond (b == closing q) (Some k) (cond (b == 92) (Some (slash q k)) None))
step (slash q k) b = cond (b == 117) (Some (digits 3 q k)) (cond (b == 85) (Some (digits 7 q k)) (cond (is_some (short q b)) (Some (inside q k)) None))
step (digits zero q k) b = cond (is_ascii_hexdigit b) (Some (inside q k)) None
step (digits (suc n) q k) b = cond (is_ascii_hexdigit b) (Some (digits n q k)) None
step closed b = cond (b == 64) (Some (tag true true)) (step_spaced b)
step spaced b = step_spaced b
step hat b = cond (b == 94) (Some (next datatype)) None
step (tag f e) b = cond (in_part f b) (Some (tag f false)) (cond (b == 45 && not e) (Some (tag false true)) (cond e None (step_after b)))
step after b = step_after b
step ended b = cond (is_blank b) (Some ended) (cond (b == 35) (Some comment) None)
step comment b = Some comment

abbrev pub go : State → List ℕ → Option State
go q [] = Some q
go q (b ∷ s) = option_and_then (λ r. go r s) (step q b)

-- whether a line may end
abbrev pub accepts : State → Bool
accepts start = true
accepts (next x) = false
accepts (inside q k) = false
accepts (slash q k) = false
accepts (digits n q k) = false
accepts closed = false
accepts spaced = false
accepts hat = false
accepts (tag f e) = false
accepts after = false
accepts ended = true
accepts comment = true

abbrev pub final : Option State → Bool
final None = false
final (Some q) = accepts q

-- bytes lead from one state to another
abbrev pub Goes : State → List ℕ → State → Type 0
Goes q s r = (u : List ℕ) → go q (s ++ u) ≡ go r u

pub goes_nothing : (q : State) → Goes q [] q
goes_nothing q u = refl

pub goes_first : (q r t : State) (b : ℕ) (s : List ℕ) → step q b ≡ Some r → Goes r s t → Goes q (b ∷ s) t
goes_first q r t b s h k u = ap (option_and_then (λ x. go x (s ++ u))) h ∙ k u

pub goes_one : (q r : State) (b : ℕ) → step q b ≡ Some r → Goes q (b ∷ []) r
goes_one q r b h = goes_first q r r b [] h (goes_nothing r)

pub goes_then : (q r t : State) (a b : List ℕ) → Goes q a r → Goes r b t → Goes q (a ++ b) t
goes_then q r t a b h k u = ap (go q) (append_assoc a b u) ∙ h (b ++ u) ∙ k u

-- ---- blanks

pub goes_blanks : (q : State) (a : List ℕ) → ((b : ℕ) → is_blank b ≡ true → step q b ≡ Some q) → AreBlanks a → Goes q a q
goes_blanks q [] h k = goes_nothing q
goes_blanks q (b ∷ a) h k = let t = both (is_blank b) (list_all is_blank a) k in goes_first q q q b a (h b t.0) (goes_blanks q a h t.1)

-- where a part is due
abbrev pub at : Part → State
at subject = start
at predicate = next predicate
at object = next object
at datatype = next datatype

-- what follows an IRI that is a part
abbrev pub leads : Part → State
leads subject = next predicate
leads predicate = next object
leads object = after
leads datatype = after

pub blank_at : (x : Part) (b : ℕ) → is_blank b ≡ true → step (at x) b ≡ Some (at x)
blank_at subject b h = rw h refl
blank_at predicate b h = rw h refl
blank_at object b h = rw h refl
blank_at datatype b h = rw h refl

pub opens_at : (x : Part) → step (at x) 60 ≡ Some (inside Iri (leads x))
opens_at subject = refl
opens_at predicate = refl
opens_at object = refl
opens_at datatype = refl

-- ---- between signs

digits_go : (n : ℕ) (q : Quote) (k : State) (ds : List ℕ) → length ds ≡ suc n → list_all is_ascii_hexdigit ds ≡ true → Goes (digits n q k) ds (inside q k)
digits_go n q k [] e h = absurd (omega arith)
digits_go zero q k (d ∷ []) e h = goes_one (digits zero q k) (inside q k) d (rw (both (is_ascii_hexdigit d) true h).0 refl)
digits_go zero q k (d ∷ c ∷ ds) e h = absurd (omega arith)
digits_go (suc n) q k (d ∷ ds) e h =
    let t = both (is_ascii_hexdigit d) (list_all is_ascii_hexdigit ds) h in
    goes_first (digits (suc n) q k) (digits n q k) (inside q k) d ds (rw t.0 refl) (digits_go n q k ds (omega arith) t.1)

no_number : (q : Quote) (b c : ℕ) → short q b ≡ Some c → ((b == 117) ≡ false) × ((b == 85) ≡ false)
no_number Iri b c h = absurd (cc)
no_number Text b c h = (grind (arith, nat_tests), grind (arith, nat_tests))

pub escape_goes : (q : Quote) (k : State) (e : List ℕ) → loose.IsEscape q e → Goes (slash q k) e (inside q k)
escape_goes q k _ (loose.letter {q = r} {b} {c} h) = let n = no_number r b c h in goes_one (slash r k) (inside r k) b (rw (n.0, n.1, h) refl)
escape_goes q k _ (loose.four {q = r} {ds} e h) = goes_first (slash r k) (digits 3 r k) (inside r k) 117 ds refl (digits_go 3 r k ds e h)
escape_goes q k _ (loose.eight {q = r} {ds} e h) = goes_first (slash r k) (digits 7 r k) (inside r k) 85 ds refl (digits_go 7 r k ds e h)

pub slash_step : (q : Quote) (k : State) → step (inside q k) 92 ≡ Some (slash q k)
slash_step Iri k = refl
slash_step Text k = refl

pub closing_step : (q : Quote) (k : State) → step (inside q k) (closing q) ≡ Some k
closing_step Iri k = refl
closing_step Text k = refl

pub plain_step : (q : Quote) (k : State) (b : ℕ) → is_plain q b ≡ true → step (inside q k) b ≡ Some (inside q k)
plain_step q k b h = rw h refl

pub body_goes : (q : Quote) (k : State) (s : List ℕ) → loose.IsBody q s → Goes (inside q k) s (inside q k)
body_goes q k _ (loose.nothing {q = r}) = goes_nothing (inside r k)
body_goes q k _ (loose.itself {q = r} {b} {s} h more) = goes_first (inside r k) (inside r k) (inside r k) b s (plain_step r k b h) (body_goes r k s more)
body_goes q k _ (loose.escape {q = r} {e} {s} h more) =
    goes_first (inside r k) (slash r k) (inside r k) 92 (e ++ s) (slash_step r k) (goes_then (slash r k) (inside r k) (inside r k) e s (escape_goes r k e h) (body_goes r k s more))

pub between_goes : (q : Quote) (k : State) (s : List ℕ) → loose.IsBody q s → Goes (inside q k) (s ++ closing q ∷ []) k
between_goes q k s h = goes_then (inside q k) (inside q k) k s (closing q ∷ []) (body_goes q k s h) (goes_one (inside q k) k (closing q) (closing_step q k))

pub iri_goes : (x : Part) (s : List ℕ) → loose.IsIriRef s → Goes (at x) s (leads x)
iri_goes x _ (loose.iriref {s} h) = goes_first (at x) (inside Iri (leads x)) (leads x) 60 (s ++ 62 ∷ []) (opens_at x) (between_goes Iri (leads x) s h)

pub string_goes : (s : List ℕ) → loose.IsString s → Goes (next object) s closed
string_goes _ (loose.quoted {s} h) = goes_first (next object) (inside Text closed) closed 34 (s ++ 34 ∷ []) refl (between_goes Text closed s h)

-- ---- tags

-- parts of a tag, the first of which continues a part that is the tag's first, and has no byte yet
abbrev pub parts_test : Bool → Bool → List (List ℕ) → Bool
parts_test first empty [] = false
parts_test first empty (p ∷ ps) = ((not empty || not (length p == 0)) && list_all (in_part first) p) && list_all is_letters_or_digits ps

pub is_tag_test : (t : List ℕ) → is_tag t ≡ parts_test true true (slice_split is_dash t)
is_tag_test t = by_parts (slice_split is_dash t)
  where
    by_parts : (ps : List (List ℕ)) → are_tag_parts ps ≡ parts_test true true ps
    by_parts [] = refl
    by_parts (p ∷ ps) = refl

-- what no tag goes on with, behind a part with no byte yet or with some
abbrev pub TagEnds : Bool → Bool → List ℕ → Type 0
TagEnds f e [] = Unit {0}
TagEnds f e (b ∷ s) = (in_part f b ≡ false) × ((b == 45 && not e) ≡ false)

pub record Scan (first empty : Bool) (y : List ℕ) : Type 0 where
  pub f : Bool
  pub e : Bool
  pub same : (u : List ℕ) → parts_test first empty (slice_split is_dash (take (tag_len first empty y) y ++ u)) ≡ parts_test f e (slice_split is_dash u)
  pub goes : Goes (tag first empty) (take (tag_len first empty y) y) (tag f e)
  pub ends : TagEnds f e (drop (tag_len first empty y) y)

or_true : (v : Bool) → (v || true) ≡ true
or_true true = refl
or_true false = refl

some_more : (n : ℕ) → not (suc n == 0) ≡ true
some_more n = grind (arith, nat_tests)

not_dash : (first : Bool) (b : ℕ) → in_part first b ≡ true → (b == 45) ≡ false
not_dash true b h = grind (arith, nat_tests)
not_dash false b h = grind (arith, nat_tests)

part_parts : (first empty : Bool) (b : ℕ) (ps : List (List ℕ)) → in_part first b ≡ true → 0 < length ps → parts_test first empty (onto_first b ps) ≡ parts_test first false ps
part_parts first empty b [] h l = absurd (omega arith)
part_parts first empty b (p ∷ ps) h l = (λ i. ((not empty || some_more (length p) i) && (h i && list_all (in_part first) p)) && list_all is_letters_or_digits ps) ∙ (λ i. ((or_true (not empty) i) && list_all (in_part first) p) && list_all is_letters_or_digits ps)

dash_parts : (first : Bool) (ps : List (List ℕ)) → 0 < length ps → parts_test first false ([] ∷ ps) ≡ parts_test false true ps
dash_parts first [] l = absurd (omega arith)
dash_parts first (p ∷ ps) l = refl

scan_test : (first empty : Bool) (b : ℕ) (s : List ℕ) (v w : Bool) → in_part first b ≡ v → (b == 45 && not empty) ≡ w → Scan first false s → Scan false true s → Scan first empty (b ∷ s)
unfolding tag_len
scan_test first empty b s true w h g m n =
    let more : 1 + tag_len first false s ≡ suc (tag_len first false s) = omega arith in
    record {
      f = m.f;
      e = m.e;
      same = λ u. let t = take (tag_len first false s) s ++ u in
          rw (h, more, not_dash first b h) (part_parts first empty b (slice_split is_dash t) h (omega (arith, length-slice_split is_dash t)) ∙ m.same u);
      goes = rw (h, more) (goes_first (tag first empty) (tag first false) (tag m.f m.e) b (take (tag_len first false s) s) (rw h refl) m.goes);
      ends = rw (h, more) m.ends;
    }
scan_test first empty b s false true h g m n =
    let more : 1 + tag_len false true s ≡ suc (tag_len false true s) = omega arith in
    let t = both (b == 45) (not empty) g in
    let full : empty ≡ false = was_false empty t.1 in
    record {
      f = n.f;
      e = n.e;
      same = λ u. let t2 = take (tag_len false true s) s ++ u in
          rw (h, g, more, t.0, full) (dash_parts first (slice_split is_dash t2) (omega (arith, length-slice_split is_dash t2)) ∙ n.same u);
      goes = rw (h, g, more) (goes_first (tag first empty) (tag false true) (tag n.f n.e) b (take (tag_len false true s) s) (rw (h, g) refl) n.goes);
      ends = rw (h, g, more) n.ends;
    }
  where
    was_false : (v : Bool) → not v ≡ true → v ≡ false
    was_false true k = cc
    was_false false k = refl
scan_test first empty b s false false h g m n = record {
  f = first;
  e = empty;
  same = λ u. rw (h, g) refl;
  goes = rw (h, g) (goes_nothing (tag first empty));
  ends = rw (h, g) (h, g);
}

pub scan : (first empty : Bool) (y : List ℕ) → Scan first empty y
unfolding tag_len
scan first empty [] = record { f = first; e = empty; same = λ u. refl; goes = goes_nothing (tag first empty); ends = tt }
scan first empty (b ∷ s) = scan_test first empty b s (in_part first b) (b == 45 && not empty) refl refl (scan first false s) (scan false true s)

full_test : (f e : Bool) → parts_test f e ([] ∷ []) ≡ true → e ≡ false
full_test f true h = cc
full_test f false h = refl

pub tag_goes : (t : List ℕ) → is_tag t ≡ true → (f : Bool) × Goes (tag true true) t (tag f false)
tag_goes t h =
    let m = scan true true t in
    let size : tag_len true true t ≡ length t = ap (tag_len true true) (sym (append-nil t)) ∙ tag_reads true true t [] no_tag_nil (parts_of_tag (slice_split is_dash t) h) in
    let whole : take (tag_len true true t) t ≡ t = ap (λ n. take n t) size ∙ take_all (length t) t (omega arith) in
    let good : parts_test m.f m.e ([] ∷ []) ≡ true = sym (m.same []) ∙ ap (λ x. parts_test true true (slice_split is_dash (x ++ []))) whole ∙ ap (λ x. parts_test true true (slice_split is_dash x)) (append-nil t) ∙ sym (is_tag_test t) ∙ h in
    (m.f, subst (λ (x : List ℕ). Goes (tag true true) x (tag m.f false)) whole (subst (λ (v : Bool). Goes (tag true true) (take (tag_len true true t) t) (tag m.f v)) (full_test m.f m.e good) m.goes))

-- ---- objects

-- behind an object blanks may stand, and then a dot
abbrev pub Dots : State → Type 0
Dots q = (d u : List ℕ) → AreBlanks d → go q (d ++ 46 ∷ u) ≡ go ended u

pub dots_after : Dots after
dots_after d u h = goes_blanks after d (λ b k. rw k refl) h (46 ∷ u)

pub dots_spaced : Dots spaced
dots_spaced d u h = goes_blanks spaced d (λ b k. rw k refl) h (46 ∷ u)

pub blank_closed : (b : ℕ) → is_blank b ≡ true → step closed b ≡ Some spaced
blank_closed b h = let other : (b == 64) ≡ false = grind (arith, nat_tests) in rw (other, h) refl

pub blank_tag : (f : Bool) (b : ℕ) → is_blank b ≡ true → step (tag f false) b ≡ Some after
blank_tag f b h = let other = no_part f b h in let dash : (b == 45) ≡ false = grind (arith, nat_tests) in rw (other, dash, h) refl
  where
    no_part : (g : Bool) (c : ℕ) → is_blank c ≡ true → in_part g c ≡ false
    no_part true c k = grind (arith, nat_tests)
    no_part false c k = grind (arith, nat_tests)

dots_closed : Dots closed
dots_closed [] u h = refl
dots_closed (b ∷ d) u h = let t = both (is_blank b) (list_all is_blank d) h in ap (option_and_then (λ x. go x (d ++ 46 ∷ u))) (blank_closed b t.0) ∙ dots_spaced d u t.1

dots_tag : (f : Bool) → Dots (tag f false)
dots_tag true [] u h = refl
dots_tag false [] u h = refl
dots_tag f (b ∷ d) u h = let t = both (is_blank b) (list_all is_blank d) h in ap (option_and_then (λ x. go x (d ++ 46 ∷ u))) (blank_tag f b t.0) ∙ dots_after d u t.1

-- blanks behind a string
pub closed_hat : (a : List ℕ) → AreBlanks a → Goes closed (a ++ 94 ∷ []) hat
closed_hat [] h = goes_one closed hat 94 refl
closed_hat (b ∷ a) h =
    let t = both (is_blank b) (list_all is_blank a) h in
    goes_first closed spaced hat b (a ++ 94 ∷ []) (blank_closed b t.0) (goes_then spaced spaced hat a (94 ∷ []) (goes_blanks spaced a (λ c k. rw k refl) t.1) (goes_one spaced hat 94 refl))

pub hats_go : (str a b : List ℕ) → loose.IsString str → AreBlanks a → AreBlanks b → Goes (next object) (str ++ (a ++ 94 ∷ 94 ∷ b)) (next datatype)
hats_go str a b h x y =
    goes_then (next object) closed (next datatype) str (a ++ 94 ∷ 94 ∷ b) (string_goes str h)
    (λ u. ap (go closed) (append_assoc a (94 ∷ 94 ∷ b) u ∙ sym (append_assoc a (94 ∷ []) (94 ∷ (b ++ u)))) ∙ closed_hat a x (94 ∷ (b ++ u)) ∙ goes_blanks (next datatype) b (blank_at datatype) y u)

pub object_goes : (o : List ℕ) → loose.IsObject o → (q : State) × Goes (next object) o q × Dots q
object_goes _ (loose.reference {s} h) = (after, iri_goes object s h, dots_after)
object_goes _ (loose.alone {s} h) = (closed, string_goes s h, dots_closed)
object_goes _ (loose.with_tag {s} t h k) =
    let m = tag_goes t k in
    (tag m.0 false, goes_then (next object) closed (tag m.0 false) s (64 ∷ t) (string_goes s h) (goes_first closed (tag true true) (tag m.0 false) 64 t refl m.1), dots_tag m.0)
object_goes _ (loose.with_datatype {s} a b d h x y i) =
    (after, λ u. ap (go (next object)) (append_assoc s (a ++ 94 ∷ 94 ∷ (b ++ d)) u ∙ ap (λ z. s ++ z) (append_assoc a (94 ∷ 94 ∷ (b ++ d)) u ∙ ap (λ z. a ++ 94 ∷ 94 ∷ z) (append_assoc b d u) ∙ sym (append_assoc a (94 ∷ 94 ∷ b) (d ++ u))) ∙ sym (append_assoc s (a ++ 94 ∷ 94 ∷ b) (d ++ u))) ∙ hats_go s a b h x y (d ++ u) ∙ iri_goes datatype d i u, dots_after)

-- ---- lines

comment_goes : (s : List ℕ) → go comment s ≡ Some comment
comment_goes [] = refl
comment_goes (b ∷ s) = comment_goes s

start_ends : (c : List ℕ) → IsComment c → final (go start c) ≡ true
start_ends [] h = refl
start_ends (b ∷ c) h = ap (λ x. final (go start (x ∷ c))) h ∙ ap final (comment_goes c)

ended_ends : (c : List ℕ) → IsComment c → final (go ended c) ≡ true
ended_ends [] h = refl
ended_ends (b ∷ c) h = ap (λ x. final (go ended (x ∷ c))) h ∙ ap final (comment_goes c)

-- every line is accepted
pub line_accepted : (l : List ℕ) → loose.IsLine l → final (go start l) ≡ true
line_accepted _ (loose.empty a c h k) = ap final (goes_blanks start a (blank_at subject) h c) ∙ start_ends c k
line_accepted _ (loose.says a b c d e f s p o ha hb hc hd he hf hs hp ho) =
    let g = object_goes o ho in
    ap final (
    goes_blanks start a (blank_at subject) ha (s ++ (b ++ (p ++ (c ++ (o ++ (d ++ 46 ∷ (e ++ f)))))))
    ∙ iri_goes subject s hs (b ++ (p ++ (c ++ (o ++ (d ++ 46 ∷ (e ++ f))))))
    ∙ goes_blanks (next predicate) b (blank_at predicate) hb (p ++ (c ++ (o ++ (d ++ 46 ∷ (e ++ f)))))
    ∙ iri_goes predicate p hp (c ++ (o ++ (d ++ 46 ∷ (e ++ f))))
    ∙ goes_blanks (next object) c (blank_at object) hc (o ++ (d ++ 46 ∷ (e ++ f)))
    ∙ g.1 (d ++ 46 ∷ (e ++ f))
    ∙ g.2 d (e ++ f) hd
    ∙ goes_blanks ended e (λ x k. rw k refl) he f
    ) ∙ ended_ends f hf
