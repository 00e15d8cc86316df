-- Registries by their lines.
use Rattle.std.proofs.Common.{◌≡◌, ◌≢◌, ◌∙◌, ap, sym, subst, refl, ℕ, suc, ◌+◌, ◌<◌, ◌≤◌, Bool, true, false, ◌||◌, inl, inr, if◌then◌else◌, List, [], ◌∷◌, ◌++◌, length, All, AllPairs, Result, Ok, Err, append-nil, append_assoc, length-append, arith}
use Rattle.std.specs.Prelude.{nat_le, bytes_eq}
use Rattle.std.specs.List.{AllByRecursion, cons_option, list_any}
use Rattle.std.specs.Str.Lines.{lines}
use Rattle.std.specs.Cmp.Lexicographic.{bytes_decides}
use Rattle.std.proofs.lemmas.Bool.Decides.{nat_tests}
use Rattle.std.proofs.lemmas.List.{get_or_append_left, get_or_at}
use Rattle.std.proofs.lemmas.List.Elements.{All-from_recursion, recursion_from_All}
use Rattle.std.proofs.lemmas.List.Quantifiers.{all_pairs_push}
use Rattle.fx_terms.proofs.SetLemmas.{Among, among_from, contains_from}
use Rattle.fx_outside.specs.Endpoints.{EndpointParts}
use Rattle.fx_sources.specs.Addresses.{url_text}
use Rattle.fx_sources.specs.Lines.{line_of}
use Rattle.fx_sources.specs.Registries.{and_then, has_name, has_url, with_endpoint, with_line, with_lines}
use Rattle.fx_sources.specs.declared.errors.RegistryError.{RegistryError}
use Rattle.fx_sources.specs.declared.errors.RegistryError.TheVariants.{Bad, RepeatedName, RepeatedUrl, TooMany}
use Rattle.fx_sources.specs.declared.lines.Line.{Line}
use Rattle.fx_sources.specs.declared.lines.Line.TheVariants.{Entry, Malformed, Passed}
use Rattle.fx_laws_registries.specs.Registries.{AreRefused, AreRegistry, MayStand, Refuses, RegistriesAreReadByTheirLines, entries, entry_in, malformed, same_address, same_name, too_many}

abbrev Endpoints : Type 0
Endpoints = List EndpointParts

abbrev Read : Type 0
Read = Result Endpoints RegistryError

-- ---- room for one more

room : (n : ℕ) → n < 64 → nat_le 64 n ≡ false
room n h = grind (arith, nat_tests)

no_room : (n : ℕ) → n ≡ 64 → nat_le 64 n ≡ true
no_room n h = grind (arith, nat_tests)

below : (n : ℕ) → nat_le 64 n ≡ false → n < 64
below n h = grind (arith, nat_tests)

at_least : (n : ℕ) → nat_le 64 n ≡ true → 64 ≤ n
at_least n h = grind (arith, nat_tests)

-- ---- tests on the endpoints in front

module _ (f : EndpointParts → List ℕ) (text : List ℕ) where
  abbrev HasNot : EndpointParts → Type 0
  HasNot d = f d ≢ text

  or_parts : (a b : Bool) → (a || b) ≡ false → (a ≡ false) × (b ≡ false)
  or_parts true b e = absurd (cc)
  or_parts false b e = (refl, e)

  none_has : (es : Endpoints) → list_any (λ d. bytes_eq (f d) text) es ≡ false → AllByRecursion HasNot es
  none_has [] h = tt
  none_has (e ∷ es) h =
      let both = or_parts (bytes_eq (f e) text) (list_any (λ d. bytes_eq (f d) text) es) h in
      (λ same. let t : bytes_eq (f e) text ≡ true = (bytes_decides (f e) text).1 same in let t2 = both.0 in absurd (cc), none_has es both.1)

  has_none : (es : Endpoints) → AllByRecursion HasNot es → list_any (λ d. bytes_eq (f d) text) es ≡ false
  has_none [] h = refl
  has_none (e ∷ es) h = by (bytes_eq (f e) text) refl (has_none es h.1)
    where
      by : (b : Bool) → bytes_eq (f e) text ≡ b → list_any (λ d. bytes_eq (f d) text) es ≡ false → (b || list_any (λ d. bytes_eq (f d) text) es) ≡ false
      by true k rest = absurd (h.0 ((bytes_decides (f e) text).0 k))
      by false k rest = rest

  one_has : (es : Endpoints) → list_any (λ d. bytes_eq (f d) text) es ≡ true → (d : EndpointParts) × Among d es × (f d ≡ text)
  one_has [] h = absurd (cc)
  one_has (e ∷ es) h = by (bytes_eq (f e) text) refl (one_has es) h
    where
      by : (b : Bool) → bytes_eq (f e) text ≡ b → (list_any (λ d. bytes_eq (f d) text) es ≡ true → (d : EndpointParts) × Among d es × (f d ≡ text)) → (b || list_any (λ d. bytes_eq (f d) text) es) ≡ true
          → (d : EndpointParts) × Among d (e ∷ es) × (f d ≡ text)
      by true k rest t = (e, inl refl, (bytes_decides (f e) text).0 k)
      by false k rest t = let r = rest t in (r.0, inr r.1, r.2)

  has_one : (es : Endpoints) (d : EndpointParts) → Among d es → f d ≡ text → list_any (λ c. bytes_eq (f c) text) es ≡ true
  has_one [] d m e = absurd m
  has_one (c ∷ cs) d (inl k) e = ap (λ (b : Bool). b || list_any (λ x. bytes_eq (f x) text) cs) ((bytes_decides (f c) text).1 (ap f k ∙ e))
  has_one (c ∷ cs) d (inr m) e = ap (λ (b : Bool). bytes_eq (f c) text || b) (has_one cs d m e) ∙ or_true (bytes_eq (f c) text)
    where
      or_true : (b : Bool) → (b || true) ≡ true
      or_true true = refl
      or_true false = refl

  -- all in front differ from one behind them
  in_front : (es : Endpoints) (e : EndpointParts) (behind : Endpoints) → f e ≡ text → AllPairs (λ c d. f c ≢ f d) (es ++ (e ∷ behind)) → AllByRecursion HasNot es
  in_front es e behind same pairs = recursion_from_All HasNot es differ
    where
      differ : All HasNot es
      differ k d low = λ eq.
          pairs k (length es) d low (let n = length-append es (e ∷ behind) in omega (arith, n))
          (ap f (get_or_append_left es (e ∷ behind) d k low) ∙ (eq ∙ (sym same ∙ ap f (sym (get_or_at es e behind d (length es) refl)))))

pushed : (f : EndpointParts → List ℕ) (es : Endpoints) (e : EndpointParts) → AllPairs (λ c d. f c ≢ f d) es → AllByRecursion (λ d. f d ≢ f e) es → AllPairs (λ c d. f c ≢ f d) (es ++ (e ∷ []))
pushed f es e pairs none = all_pairs_push (λ c d. f c ≢ f d) es e pairs (λ k d low. All-from_recursion (λ c. f c ≢ f e) es none k d low)

abbrev name_of : EndpointParts → List ℕ
name_of e = e.name

abbrev address_of : EndpointParts → List ℕ
address_of e = url_text e.iri

-- ---- one more endpoint

-- it may stand behind those
record Stands (es : Endpoints) (e : EndpointParts) : Type 0 where
  few : nat_le 64 (length es) ≡ false
  name : has_name e.name es ≡ false
  address : has_url (url_text e.iri) es ≡ false

put : (n : ℕ) (es : Endpoints) (e : EndpointParts) → Stands es e → with_endpoint n es e ≡ Ok (es ++ (e ∷ []))
unfolding with_endpoint
put n es e s =
    ap (λ (b : Bool). if b then Err (TooMany n) else if has_name e.name es then Err (RepeatedName n) else if has_url (url_text e.iri) es then Err (RepeatedUrl n) else Ok (es ++ (e ∷ []))) s.few
    ∙ (ap (λ (b : Bool). if b then Err (RepeatedName n) else if has_url (url_text e.iri) es then Err (RepeatedUrl n) else Ok (es ++ (e ∷ []))) s.name
    ∙ ap (λ (b : Bool). if b then Err (RepeatedUrl n) else Ok (es ++ (e ∷ []))) s.address)

more : (es : Endpoints) (e : EndpointParts) → MayStand es → Stands es e → MayStand (es ++ (e ∷ []))
more es e m s = record {
  few = let n = length-append es (e ∷ []) in let low = below (length es) s.few in omega (arith, n, low);
  names = pushed name_of es e m.names (none_has name_of e.name es s.name);
  addresses = pushed address_of es e m.addresses (none_has address_of (url_text e.iri) es s.address);
}

stands_from : (es : Endpoints) (e : EndpointParts) (behind : Endpoints) → MayStand (es ++ (e ∷ behind)) → Stands es e
stands_from es e behind m = record {
  few = room (length es) (let n = length-append es (e ∷ behind) in let f = m.few in omega (arith, n, f));
  name = has_none name_of e.name es (in_front name_of e.name es e behind refl m.names);
  address = has_none address_of (url_text e.iri) es (in_front address_of (url_text e.iri) es e behind refl m.addresses);
}

-- ---- what comes of one more

data Comes (n : ℕ) (es : Endpoints) (line : Line) (r : Read) : Type 0 where
  passes : line ≡ Passed → r ≡ Ok es → Comes n es line r
  enters : (e : EndpointParts) → line ≡ Entry e → Stands es e → r ≡ Ok (es ++ (e ∷ [])) → Comes n es line r
  ends : (error : RegistryError) → Refuses es n line error → r ≡ Err error → Comes n es line r

entered : (n : ℕ) (es : Endpoints) (e : EndpointParts) → MayStand es → Comes n es (Entry e) (with_endpoint n es e)
unfolding with_endpoint
entered n es e m = by (nat_le 64 (length es)) refl (has_name e.name es) refl (has_url (url_text e.iri) es) refl
  where
    full : nat_le 64 (length es) ≡ true → length es ≡ 64
    full h = let k = at_least (length es) h in let f = m.few in omega (arith, k, f)

    by : (a : Bool) → nat_le 64 (length es) ≡ a → (b : Bool) → has_name e.name es ≡ b → (c : Bool) → has_url (url_text e.iri) es ≡ c
        → Comes n es (Entry e) (if a then Err (TooMany n) else if b then Err (RepeatedName n) else if c then Err (RepeatedUrl n) else Ok (es ++ (e ∷ [])))
    by true h b i c j = ends (TooMany n) (too_many e refl (full h) refl) refl
    by false h true i c j = let d = one_has name_of e.name es i in ends (RepeatedName n) (same_name e d.0 refl (below (length es) h) (contains_from es d.0 d.1) d.2 refl) refl
    by false h false i true j =
        let d = one_has address_of (url_text e.iri) es j in
        ends (RepeatedUrl n) (same_address e d.0 refl (below (length es) h) (All-from_recursion (λ c. c.name ≢ e.name) es (none_has name_of e.name es i)) (contains_from es d.0 d.1) d.2 refl) refl
    by false h false i false j = enters e refl (record { few = h; name = i; address = j }) refl

comes : (n : ℕ) (es : Endpoints) (line : Line) → MayStand es → Comes n es line (with_line n es line)
comes n es Passed m = passes refl refl
comes n es (Entry e) m = entered n es e m
comes n es Malformed m = ends (Bad n) (malformed refl refl) refl

refused : (n : ℕ) (es : Endpoints) (line : Line) (error : RegistryError) → Refuses es n line error → with_line n es line ≡ Err error
unfolding with_endpoint
refused n es line error (malformed l e) = ap (with_line n es) l ∙ ap Err (sym e)
refused n es line error (too_many x l h e) =
    ap (with_line n es) l
    ∙ (ap (λ (b : Bool). if b then Err (TooMany n) else if has_name x.name es then Err (RepeatedName n) else if has_url (url_text x.iri) es then Err (RepeatedUrl n) else Ok (es ++ (x ∷ []))) (no_room (length es) h) ∙ ap Err (sym e))
refused n es line error (same_name x d l low c same e) =
    ap (with_line n es) l
    ∙ (ap (λ (b : Bool). if b then Err (TooMany n) else if has_name x.name es then Err (RepeatedName n) else if has_url (url_text x.iri) es then Err (RepeatedUrl n) else Ok (es ++ (x ∷ []))) (room (length es) low)
    ∙ (ap (λ (b : Bool). if b then Err (RepeatedName n) else if has_url (url_text x.iri) es then Err (RepeatedUrl n) else Ok (es ++ (x ∷ []))) (has_one name_of x.name es d (among_from es d c) same) ∙ ap Err (sym e)))
refused n es line error (same_address x d l low none c same e) =
    ap (with_line n es) l
    ∙ (ap (λ (b : Bool). if b then Err (TooMany n) else if has_name x.name es then Err (RepeatedName n) else if has_url (url_text x.iri) es then Err (RepeatedUrl n) else Ok (es ++ (x ∷ []))) (room (length es) low)
    ∙ (ap (λ (b : Bool). if b then Err (RepeatedName n) else if has_url (url_text x.iri) es then Err (RepeatedUrl n) else Ok (es ++ (x ∷ []))) (has_none name_of x.name es (recursion_from_All (λ c. c.name ≢ x.name) es none))
    ∙ (ap (λ (b : Bool). if b then Err (RepeatedUrl n) else Ok (es ++ (x ∷ []))) (has_one address_of (url_text x.iri) es d (among_from es d c) same) ∙ ap Err (sym e))))

-- ---- lines behind endpoints

abbrev IsWell : List ℕ → Type 0
IsWell text = line_of text ≢ Malformed

-- the same of lines that stand behind endpoints
record Behind (es : Endpoints) (texts : List (List ℕ)) (all : Endpoints) : Type 0 where
  well : AllByRecursion IsWell texts
  are : all ≡ es ++ entries texts
  stand : MayStand all

record Ends (n : ℕ) (es : Endpoints) (texts : List (List ℕ)) (error : RegistryError) : Type 0 where
  front : List (List ℕ)
  text : List ℕ
  rest : List (List ℕ)
  all : Endpoints
  are : texts ≡ front ++ (text ∷ rest)
  read : Behind es front all
  why : Refuses all (length front + n) (line_of text) error

abbrev Told : ℕ → Endpoints → List (List ℕ) → Read → Type 0
Told n es texts (Ok all) = Behind es texts all
Told n es texts (Err error) = Ends n es texts error

entry_passed : (text : List ℕ) (texts : List (List ℕ)) → line_of text ≡ Passed → entries (text ∷ texts) ≡ entries texts
entry_passed text texts l = ap (λ (v : Line). cons_option (entry_in v) (entries texts)) l

entry_entered : (text : List ℕ) (texts : List (List ℕ)) (e : EndpointParts) → line_of text ≡ Entry e → entries (text ∷ texts) ≡ e ∷ entries texts
entry_entered text texts e l = ap (λ (v : Line). cons_option (entry_in v) (entries texts)) l

well_passed : (text : List ℕ) → line_of text ≡ Passed → IsWell text
well_passed text l m = absurd (cc)

well_entered : (text : List ℕ) (e : EndpointParts) → line_of text ≡ Entry e → IsWell text
well_entered text e l m = absurd (cc)

behind_passed : (es : Endpoints) (t : List ℕ) (ts : List (List ℕ)) (all : Endpoints) → line_of t ≡ Passed → Behind es ts all → Behind es (t ∷ ts) all
behind_passed es t ts all l b = record { well = (well_passed t l, b.well); are = b.are ∙ ap (λ (v : Endpoints). es ++ v) (sym (entry_passed t ts l)); stand = b.stand }

behind_entered : (es : Endpoints) (t : List ℕ) (ts : List (List ℕ)) (all : Endpoints) (e : EndpointParts) → line_of t ≡ Entry e → Behind (es ++ (e ∷ [])) ts all → Behind es (t ∷ ts) all
behind_entered es t ts all e l b = record {
  well = (well_entered t e l, b.well);
  are = b.are ∙ (append_assoc es (e ∷ []) (entries ts) ∙ ap (λ (v : Endpoints). es ++ v) (sym (entry_entered t ts e l)));
  stand = b.stand;
}

counted : (n k : ℕ) → k + (n + 1) ≡ suc k + n
counted n k = omega arith

told_passed : (n : ℕ) (es : Endpoints) (t : List ℕ) (ts : List (List ℕ)) (r : Read) → line_of t ≡ Passed → Told (n + 1) es ts r → Told n es (t ∷ ts) r
told_passed n es t ts (Ok all) l b = behind_passed es t ts all l b
told_passed n es t ts (Err error) l b = record {
  front = t ∷ b.front;
  text = b.text;
  rest = b.rest;
  all = b.all;
  are = ap (λ (v : List (List ℕ)). t ∷ v) b.are;
  read = behind_passed es t b.front b.all l b.read;
  why = subst (λ (k : ℕ). Refuses b.all k (line_of b.text) error) (counted n (length b.front)) b.why;
}

told_entered : (n : ℕ) (es : Endpoints) (t : List ℕ) (ts : List (List ℕ)) (r : Read) (e : EndpointParts) → line_of t ≡ Entry e → Told (n + 1) (es ++ (e ∷ [])) ts r → Told n es (t ∷ ts) r
told_entered n es t ts (Ok all) e l b = behind_entered es t ts all e l b
told_entered n es t ts (Err error) e l b = record {
  front = t ∷ b.front;
  text = b.text;
  rest = b.rest;
  all = b.all;
  are = ap (λ (v : List (List ℕ)). t ∷ v) b.are;
  read = behind_entered es t b.front b.all e l b.read;
  why = subst (λ (k : ℕ). Refuses b.all k (line_of b.text) error) (counted n (length b.front)) b.why;
}

from_zero : (n : ℕ) → n ≡ 0 + n
from_zero n = omega arith

told : (n : ℕ) (es : Endpoints) (texts : List (List ℕ)) → MayStand es → Told n es texts (with_lines n es texts)
told n es [] m = record { well = tt; are = sym (append-nil es); stand = m }
told n es (t ∷ ts) m = by (with_line n es (line_of t)) (comes n es (line_of t) m) (λ some stand. told (n + 1) some ts stand)
  where
    by : (r : Read) → Comes n es (line_of t) r → ((some : Endpoints) → MayStand some → Told (n + 1) some ts (with_lines (n + 1) some ts)) → Told n es (t ∷ ts) (and_then r (λ some. with_lines (n + 1) some ts))
    by r (passes l e) rest =
        subst (λ (v : Read). Told n es (t ∷ ts) (and_then v (λ some. with_lines (n + 1) some ts))) (sym e) (told_passed n es t ts (with_lines (n + 1) es ts) l (rest es m))
    by r (enters x l s e) rest =
        subst (λ (v : Read). Told n es (t ∷ ts) (and_then v (λ some. with_lines (n + 1) some ts))) (sym e)
        (told_entered n es t ts (with_lines (n + 1) (es ++ (x ∷ [])) ts) x l (rest (es ++ (x ∷ [])) (more es x m s)))
    by r (ends error w e) rest =
        subst (λ (v : Read). Told n es (t ∷ ts) (and_then v (λ some. with_lines (n + 1) some ts))) (sym e)
        (record {
          front = [];
          text = t;
          rest = ts;
          all = es;
          are = refl;
          read = record { well = tt; are = sym (append-nil es); stand = m };
          why = subst (λ (k : ℕ). Refuses es k (line_of t) error) (from_zero n) w;
        })

-- ---- the other way

step_passed : (n : ℕ) (es : Endpoints) (t : List ℕ) (ts : List (List ℕ)) → line_of t ≡ Passed → with_lines n es (t ∷ ts) ≡ with_lines (n + 1) es ts
step_passed n es t ts l = ap (λ (v : Line). and_then (with_line n es v) (λ some. with_lines (n + 1) some ts)) l

step_entered : (n : ℕ) (es : Endpoints) (t : List ℕ) (ts : List (List ℕ)) (e : EndpointParts) → line_of t ≡ Entry e → Stands es e → with_lines n es (t ∷ ts) ≡ with_lines (n + 1) (es ++ (e ∷ [])) ts
step_entered n es t ts e l s =
    ap (λ (v : Line). and_then (with_line n es v) (λ some. with_lines (n + 1) some ts)) l
    ∙ ap (λ (r : Read). and_then r (λ some. with_lines (n + 1) some ts)) (put n es e s)

-- what is left behind a line
left_passed : (es : Endpoints) (t : List ℕ) (ts : List (List ℕ)) (all : Endpoints) → line_of t ≡ Passed → Behind es (t ∷ ts) all → Behind es ts all
left_passed es t ts all l b = record { well = b.well.1; are = b.are ∙ ap (λ (v : Endpoints). es ++ v) (entry_passed t ts l); stand = b.stand }

all_entered : (es : Endpoints) (t : List ℕ) (ts : List (List ℕ)) (all : Endpoints) (e : EndpointParts) → line_of t ≡ Entry e → Behind es (t ∷ ts) all → all ≡ es ++ (e ∷ entries ts)
all_entered es t ts all e l b = b.are ∙ ap (λ (v : Endpoints). es ++ v) (entry_entered t ts e l)

left_entered : (es : Endpoints) (t : List ℕ) (ts : List (List ℕ)) (all : Endpoints) (e : EndpointParts) → line_of t ≡ Entry e → Behind es (t ∷ ts) all → Behind (es ++ (e ∷ [])) ts all
left_entered es t ts all e l b = record { well = b.well.1; are = all_entered es t ts all e l b ∙ sym (append_assoc es (e ∷ []) (entries ts)); stand = b.stand }

stands_there : (es : Endpoints) (t : List ℕ) (ts : List (List ℕ)) (all : Endpoints) (e : EndpointParts) → line_of t ≡ Entry e → Behind es (t ∷ ts) all → Stands es e
stands_there es t ts all e l b = stands_from es e (entries ts) (subst MayStand (all_entered es t ts all e l b) b.stand)

back : (n : ℕ) (es : Endpoints) (texts : List (List ℕ)) (all : Endpoints) → Behind es texts all → with_lines n es texts ≡ Ok all
back n es [] all b = ap Ok (sym (append-nil es) ∙ sym b.are)
back n es (t ∷ ts) all b = by (line_of t) refl (λ some. back (n + 1) some ts all)
  where
    by : (line : Line) → line_of t ≡ line → ((some : Endpoints) → Behind some ts all → with_lines (n + 1) some ts ≡ Ok all) → with_lines n es (t ∷ ts) ≡ Ok all
    by Passed l rest = step_passed n es t ts l ∙ rest es (left_passed es t ts all l b)
    by (Entry e) l rest = step_entered n es t ts e l (stands_there es t ts all e l b) ∙ rest (es ++ (e ∷ [])) (left_entered es t ts all e l b)
    by Malformed l rest = absurd (b.well.0 l)

back_refused : (n : ℕ) (es : Endpoints) (front : List (List ℕ)) (text : List ℕ) (rest : List (List ℕ)) (all : Endpoints) (error : RegistryError) → Behind es front all → Refuses all (length front + n) (line_of text) error
    → with_lines n es (front ++ (text ∷ rest)) ≡ Err error
back_refused n es [] text rest all error b w =
    let same : all ≡ es = b.are ∙ append-nil es in
    let why : Refuses es n (line_of text) error =
    subst (λ (v : Endpoints). Refuses v n (line_of text) error) same (subst (λ (k : ℕ). Refuses all k (line_of text) error) (sym (from_zero n)) w) in
    ap (λ (r : Read). and_then r (λ some. with_lines (n + 1) some rest)) (refused n es (line_of text) error why)
back_refused n es (t ∷ ts) text rest all error b w = by (line_of t) refl (λ some k. back_refused (n + 1) some ts text rest all error k (subst (λ (m : ℕ). Refuses all m (line_of text) error) (sym (counted n (length ts))) w))
  where
    by : (line : Line) → line_of t ≡ line → ((some : Endpoints) → Behind some ts all → with_lines (n + 1) some (ts ++ (text ∷ rest)) ≡ Err error) → with_lines n es (t ∷ (ts ++ (text ∷ rest))) ≡ Err error
    by Passed l go = step_passed n es t (ts ++ (text ∷ rest)) l ∙ go es (left_passed es t ts all l b)
    by (Entry e) l go = step_entered n es t (ts ++ (text ∷ rest)) e l (stands_there es t ts all e l b) ∙ go (es ++ (e ∷ [])) (left_entered es t ts all e l b)
    by Malformed l go = absurd (b.well.0 l)

-- ---- whole texts

none_stand : MayStand []
none_stand = record { few = omega arith; names = λ i j d a b. absurd (omega arith); addresses = λ i j d a b. absurd (omega arith) }

registry_from : (texts : List (List ℕ)) (all : Endpoints) → Behind [] texts all → AreRegistry texts all
registry_from texts all b = record { well_formed = All-from_recursion IsWell texts b.well; are = b.are; stand = b.stand }

from_registry : (texts : List (List ℕ)) (all : Endpoints) → AreRegistry texts all → Behind [] texts all
from_registry texts all r = record { well = recursion_from_All IsWell texts r.well_formed; are = r.are; stand = r.stand }

refused_from : (texts : List (List ℕ)) (error : RegistryError) → Ends 1 [] texts error → AreRefused texts error
refused_from texts error r = record { front = r.front; text = r.text; behind = r.rest; endpoints = r.all; are = r.are; read = registry_from r.front r.all r.read; why = r.why }

pub registries_are_read_by_their_lines : RegistriesAreReadByTheirLines
registries_are_read_by_their_lines bytes = (
  λ all. (
    λ e. registry_from (lines bytes) all (subst (Told 1 [] (lines bytes)) e (told 1 [] (lines bytes) none_stand)),
    λ r. back 1 [] (lines bytes) all (from_registry (lines bytes) all r),
  ),
  λ error. (
    λ e. refused_from (lines bytes) error (subst (Told 1 [] (lines bytes)) e (told 1 [] (lines bytes) none_stand)),
    λ r. ap (with_lines 1 []) r.are ∙ back_refused 1 [] r.front r.text r.behind r.endpoints error (from_registry r.front r.endpoints r.read) r.why,
  ),
)
