-- What a line says, by its words.
use Rattle.std.proofs.Common.{◌≡◌, ◌≢◌, ◌∙◌, ap, sym, subst, refl, ℕ, ◌⊎◌, inl, inr, Bool, true, false, not, ◌&&◌, if◌then◌else◌, List, [], ◌∷◌, length, Option, Some, None, Ok, Err, option_map, option_and_then, is_none, arith}
use Rattle.std.specs.Prelude.{◌==◌, codes, unwrap_or}
use Rattle.std.specs.Str.{bytes_eq, is_utf8}
use Rattle.std.specs.Cmp.Lexicographic.{bytes_decides}
use Rattle.std.proofs.lemmas.Bool.Decides.{nat_tests}
use Rattle.std.proofs.lemmas.List.{nil_from_length}
use Rattle.url.specs.declared.host.Host.{Host}
use Rattle.url.specs.Host.{host_text}
use Rattle.url.specs.Parser.{Parsed, parse_url}
use Rattle.url.specs.Parts.{Parts, nonempty_host}
use Rattle.fx_outside.specs.Endpoints.{EndpointParts, endpoint_of, flagged, is_sendable}
use Rattle.fx_outside.specs.declared.endpoints.Flags.{Flags}
use Rattle.fx_sources.specs.Addresses.{endpoint_at, is_iri, is_name, is_plain}
use Rattle.fx_sources.specs.Lines.{entry, entry_at, entry_of, flagged_entry, flags_of, is_comment, is_optional, is_values, line_of, line_of_words, named_line, no_flags, words}
use Rattle.fx_sources.specs.declared.lines.Line.{Line}
use Rattle.fx_sources.specs.declared.lines.Line.TheVariants.{Entry, Malformed, Passed}
use Rattle.fx_laws_registries.specs.Lines.{AreFlags, IsEntry, IsEntryLine, IsOfWords, IsPassedLine, LinesAreReadByTheirWords}
use Rattle.fx_laws_registries.proofs.WordLemmas.{of_its_words, words_are}

-- ---- tests

and_both : (b c : Bool) → (b && c) ≡ true → (b ≡ true) × (c ≡ true)
and_both true c e = (refl, e)
and_both false c e = absurd (cc)

five : (a b c d e : Bool) → (a && b && c && d && e) ≡ true → (a ≡ true) × (b ≡ true) × (c ≡ true) × (d ≡ true) × (e ≡ true)
five true true true true true h = (refl, refl, refl, refl, refl)
five a b c d e h = absurd (cc)

all_five : (a b c d e : Bool) → a ≡ true → b ≡ true → c ≡ true → d ≡ true → e ≡ true → (a && b && c && d && e) ≡ true
all_five true true true true true f g h i j = refl
all_five a b c d e f g h i j = cc

empty_text : (xs : List ℕ) → (length xs == 0) ≡ true → xs ≡ []
empty_text xs e = nil_from_length xs (zero_is (length xs) e)
  where
    zero_is : (n : ℕ) → (n == 0) ≡ true → n ≡ 0
    zero_is n h = grind (arith, nat_tests)

none_is : {X : Type 0} (o : Option X) → is_none o ≡ true → o ≡ None
none_is None e = refl
none_is (Some x) e = absurd (cc)

-- ---- entries

of_entry : (o : Option EndpointParts) (flags : Flags) (e : EndpointParts) → entry_of o flags ≡ Entry e → (p : EndpointParts) × (o ≡ Some p) × (is_sendable p ≡ true) × (flagged flags p ≡ e)
of_entry None flags e h = absurd (cc)
of_entry (Some p) flags e h = by (is_sendable p) refl h
  where
    inside : Entry (flagged flags p) ≡ Entry e → flagged flags p ≡ e
    inside k = cc

    by : (b : Bool) → is_sendable p ≡ b → (if b then Entry (flagged flags p) else Malformed) ≡ Entry e → (q : EndpointParts) × (Some p ≡ Some q) × (is_sendable q ≡ true) × (flagged flags q ≡ e)
    by true s k = (p, refl, s, inside k)
    by false s k = absurd (cc)

abbrev host_of : Parts → Option (List ℕ)
host_of url = option_map host_text (nonempty_host url)

module _ (name address : List ℕ) (flags : Flags) (e : EndpointParts) where
  of_host : (url : Parts) → is_name name ≡ true → is_iri address ≡ true → parse_url None address ≡ Ok url → is_plain url ≡ true
      → (o : Option (Host (List ℕ))) → nonempty_host url ≡ o → entry_of (endpoint_at name address url (option_map host_text o)) flags ≡ Entry e → IsEntry name address flags e
  of_host url n i r p None h k = let t = of_entry None flags e k in let no = t.1 in absurd (cc)
  of_host url n i r p (Some host) h k =
      let t = of_entry (Some (endpoint_of name address (host_text host) (unwrap_or url.port 80) url.path)) flags e k in
      let facts = five (bytes_eq url.scheme (codes "http")) (length url.username == 0) (length url.password == 0) (is_none url.query) (is_none url.fragment) p in
      record {
        named = n;
        iri = i;
        url = url;
        reads = r;
        scheme = (bytes_decides url.scheme (codes "http")).0 facts.0;
        username = empty_text url.username facts.1;
        password = empty_text url.password facts.2;
        query = none_is url.query facts.3;
        fragment = none_is url.fragment facts.4;
        host = host;
        has_host = h;
        is = sym t.3 ∙ ap (flagged flags) (sym (out t.0 t.1));
        sendable = ap is_sendable (sym t.3) ∙ t.2;
      }
    where
      out : (p : EndpointParts) → Some (endpoint_of name address (host_text host) (unwrap_or url.port 80) url.path) ≡ Some p → endpoint_of name address (host_text host) (unwrap_or url.port 80) url.path ≡ p
      out p m = cc

  of_plain : (url : Parts) → is_name name ≡ true → is_iri address ≡ true → parse_url None address ≡ Ok url → (c : Bool) → is_plain url ≡ c
      → (if c then entry_of (endpoint_at name address url (host_of url)) flags else Malformed) ≡ Entry e → IsEntry name address flags e
  of_plain url n i r true p k = of_host url n i r p (nonempty_host url) refl k
  of_plain url n i r false p k = absurd (cc)

  of_url : is_name name ≡ true → is_iri address ≡ true → (r : Parsed Parts) → parse_url None address ≡ r → entry_at name address r flags ≡ Entry e → IsEntry name address flags e
  of_url n i (Ok url) r k = of_plain url n i r (is_plain url) refl k
  of_url n i (Err w) r k = absurd (cc)

  entry_there : entry name address flags ≡ Entry e → IsEntry name address flags e
  unfolding entry
  entry_there k = by (is_name name) refl (is_iri address) refl k
    where
      by : (c : Bool) → is_name name ≡ c → (d : Bool) → is_iri address ≡ d → (if c && d then entry_at name address (parse_url None address) flags else Malformed) ≡ Entry e → IsEntry name address flags e
      by true n true i h = of_url n i (parse_url None address) refl h
      by true n false i h = absurd (cc)
      by false n d i h = absurd (cc)

  entry_from : IsEntry name address flags e → entry name address flags ≡ Entry e
  unfolding entry
  entry_from t =
      let p = endpoint_of name address (host_text t.host) (unwrap_or t.url.port 80) t.url.path in
      ap (λ (c : Bool). if c && is_iri address then entry_at name address (parse_url None address) flags else Malformed) t.named
      ∙ (ap (λ (c : Bool). if c then entry_at name address (parse_url None address) flags else Malformed) t.iri
      ∙ (ap (λ (r : Parsed Parts). entry_at name address r flags) t.reads
      ∙ (ap (λ (c : Bool). if c then entry_of (endpoint_at name address t.url (host_of t.url)) flags else Malformed) plain
      ∙ (ap (λ (o : Option (Host (List ℕ))). entry_of (endpoint_at name address t.url (option_map host_text o)) flags) t.has_host
      ∙ (ap (λ (c : Bool). if c then Entry (flagged flags p) else Malformed) (ap is_sendable (sym t.is) ∙ t.sendable)
      ∙ ap Entry (sym t.is))))))
    where
      plain : is_plain t.url ≡ true
      plain =
          all_five (bytes_eq t.url.scheme (codes "http")) (length t.url.username == 0) (length t.url.password == 0) (is_none t.url.query) (is_none t.url.fragment)
          ((bytes_decides t.url.scheme (codes "http")).1 t.scheme) (ap (λ (v : List ℕ). length v == 0) t.username) (ap (λ (v : List ℕ). length v == 0) t.password)
          (ap is_none t.query) (ap is_none t.fragment)

-- ---- flags

abbrev flags_are : (optional values : Bool) → Flags
flags_are o v = record { optional = o; values = v }

-- one word more
abbrev next : Bool → Bool → Flags → Option Flags
next optional values flags =
    if optional && not flags.optional then Some (record { optional = true; values = flags.values })
    else if values && not flags.values then Some (record { optional = flags.optional; values = true })
    else None

abbrev more : List (List ℕ) → Option Flags → Option Flags
more rest o = option_and_then (λ f. flags_of f rest) o

ends_with : (f flags : Flags) → Some f ≡ Some flags → flags ≡ f
ends_with f flags h = cc

none_more : (rest : List (List ℕ)) (flags : Flags) → more rest None ≡ Some flags → ⊥
none_more rest flags h = absurd (cc)

is_the_word : (word text : List ℕ) → bytes_eq word text ≡ true → word ≡ text
is_the_word word text h = (bytes_decides word text).0 h

-- behind both no word adds one
behind_both : (rest : List (List ℕ)) (flags : Flags) → flags_of (flags_are true true) rest ≡ Some flags → (rest ≡ []) × (flags ≡ flags_are true true)
behind_both [] flags h = (refl, ends_with (flags_are true true) flags h)
behind_both (word ∷ rest) flags h = absurd (by (is_optional word) (is_values word) h)
  where
    by : (o v : Bool) → more rest (next o v (flags_are true true)) ≡ Some flags → ⊥
    by true true k = none_more rest flags k
    by true false k = none_more rest flags k
    by false true k = none_more rest flags k
    by false false k = none_more rest flags k

-- behind one the other may stand
behind_optional : (rest : List (List ℕ)) (flags : Flags) → flags_of (flags_are true false) rest ≡ Some flags
    → ((rest ≡ []) × (flags ≡ flags_are true false)) ⊎ ((rest ≡ codes "values" ∷ []) × (flags ≡ flags_are true true))
behind_optional [] flags h = inl (refl, ends_with (flags_are true false) flags h)
behind_optional (word ∷ rest) flags h = by (is_optional word) (is_values word) refl h
  where
    found : is_values word ≡ true → flags_of (flags_are true true) rest ≡ Some flags
        → ((word ∷ rest ≡ []) × (flags ≡ flags_are true false)) ⊎ ((word ∷ rest ≡ codes "values" ∷ []) × (flags ≡ flags_are true true))
    found v k = let t = behind_both rest flags k in inr (ap (λ (w : List ℕ). w ∷ rest) (is_the_word word (codes "values") v) ∙ ap (λ (r : List (List ℕ)). codes "values" ∷ r) t.0, t.1)

    by : (o v : Bool) → is_values word ≡ v → more rest (next o v (flags_are true false)) ≡ Some flags
        → ((word ∷ rest ≡ []) × (flags ≡ flags_are true false)) ⊎ ((word ∷ rest ≡ codes "values" ∷ []) × (flags ≡ flags_are true true))
    by true true is k = found is k
    by false true is k = found is k
    by true false is k = absurd (none_more rest flags k)
    by false false is k = absurd (none_more rest flags k)

behind_values : (rest : List (List ℕ)) (flags : Flags) → flags_of (flags_are false true) rest ≡ Some flags
    → ((rest ≡ []) × (flags ≡ flags_are false true)) ⊎ ((rest ≡ codes "optional" ∷ []) × (flags ≡ flags_are true true))
behind_values [] flags h = inl (refl, ends_with (flags_are false true) flags h)
behind_values (word ∷ rest) flags h = by (is_optional word) refl (is_values word) h
  where
    by : (o : Bool) → is_optional word ≡ o → (v : Bool) → more rest (next o v (flags_are false true)) ≡ Some flags
        → ((word ∷ rest ≡ []) × (flags ≡ flags_are false true)) ⊎ ((word ∷ rest ≡ codes "optional" ∷ []) × (flags ≡ flags_are true true))
    by true is v k = let t = behind_both rest flags k in inr (ap (λ (w : List ℕ). w ∷ rest) (is_the_word word (codes "optional") is) ∙ ap (λ (r : List (List ℕ)). codes "optional" ∷ r) t.0, t.1)
    by false is true k = absurd (none_more rest flags k)
    by false is false k = absurd (none_more rest flags k)

-- flags by their two parts
abbrev Name : List (List ℕ) → Flags → Type 0
Name words flags = AreFlags words flags.optional flags.values

-- the flags that words name
flags_there : (rest : List (List ℕ)) (flags : Flags) → flags_of no_flags rest ≡ Some flags → Name rest flags
flags_there [] flags h = subst (Name []) (sym (ends_with no_flags flags h)) refl
flags_there (word ∷ rest) flags h = by (is_optional word) refl (is_values word) refl h
  where
    optional_first : is_optional word ≡ true → ((rest ≡ []) × (flags ≡ flags_are true false)) ⊎ ((rest ≡ codes "values" ∷ []) × (flags ≡ flags_are true true)) → Name (word ∷ rest) flags
    optional_first is (inl t) =
        subst (Name (word ∷ rest)) (sym t.1) (ap (λ (w : List ℕ). w ∷ rest) (is_the_word word (codes "optional") is) ∙ ap (λ (r : List (List ℕ)). codes "optional" ∷ r) t.0)
    optional_first is (inr t) =
        subst (Name (word ∷ rest)) (sym t.1) (inl (ap (λ (w : List ℕ). w ∷ rest) (is_the_word word (codes "optional") is) ∙ ap (λ (r : List (List ℕ)). codes "optional" ∷ r) t.0))

    values_first : is_values word ≡ true → ((rest ≡ []) × (flags ≡ flags_are false true)) ⊎ ((rest ≡ codes "optional" ∷ []) × (flags ≡ flags_are true true)) → Name (word ∷ rest) flags
    values_first is (inl t) =
        subst (Name (word ∷ rest)) (sym t.1) (ap (λ (w : List ℕ). w ∷ rest) (is_the_word word (codes "values") is) ∙ ap (λ (r : List (List ℕ)). codes "values" ∷ r) t.0)
    values_first is (inr t) =
        subst (Name (word ∷ rest)) (sym t.1) (inr (ap (λ (w : List ℕ). w ∷ rest) (is_the_word word (codes "values") is) ∙ ap (λ (r : List (List ℕ)). codes "values" ∷ r) t.0))

    by : (o : Bool) → is_optional word ≡ o → (v : Bool) → is_values word ≡ v → more rest (next o v no_flags) ≡ Some flags → Name (word ∷ rest) flags
    by true is v also k = optional_first is (behind_optional rest flags k)
    by false is true also k = values_first also (behind_values rest flags k)
    by false is false also k = absurd (none_more rest flags k)

flags_from_parts : (rest : List (List ℕ)) (o v : Bool) → AreFlags rest o v → flags_of no_flags rest ≡ Some (flags_are o v)
flags_from_parts rest false false t = ap (flags_of no_flags) t
flags_from_parts rest true false t = ap (flags_of no_flags) t
flags_from_parts rest false true t = ap (flags_of no_flags) t
flags_from_parts rest true true (inl t) = ap (flags_of no_flags) t
flags_from_parts rest true true (inr t) = ap (flags_of no_flags) t

-- ---- lines

-- a name doesn't begin with #
no_comment : (name : List ℕ) → is_name name ≡ true → is_comment name ≡ false
no_comment [] h = refl
no_comment (c ∷ cs) h = by (c == 35) refl
  where
    same : (c == 35) ≡ true → c ≡ 35
    same e = grind (arith, nat_tests)

    by : (b : Bool) → (c == 35) ≡ b → b ≡ false
    by true e = let no : is_name (35 ∷ cs) ≡ true = subst (λ (x : ℕ). is_name (x ∷ cs) ≡ true) (same e) h in absurd (cc)
    by false e = refl

-- what the words of an entry are
record AreEntryWords (those : List (List ℕ)) (e : EndpointParts) : Type 0 where
  name : List ℕ
  address : List ℕ
  behind : List (List ℕ)
  flags : Flags
  are : those ≡ name ∷ address ∷ behind
  named : AreFlags behind flags.optional flags.values
  is : IsEntry name address flags e

entry_words : (name address : List ℕ) (rest : List (List ℕ)) (e : EndpointParts) (o : Option Flags) → flags_of no_flags rest ≡ o → flagged_entry name address o ≡ Entry e → AreEntryWords (name ∷ address ∷ rest) e
entry_words name address rest e None f h = absurd (cc)
entry_words name address rest e (Some flags) f h = record {
  name = name;
  address = address;
  behind = rest;
  flags = flags;
  are = refl;
  named = flags_there rest flags f;
  is = entry_there name address flags e h;
}

words_there : (those : List (List ℕ)) (e : EndpointParts) → line_of_words those ≡ Entry e → AreEntryWords those e
words_there [] e h = absurd (cc)
words_there (word ∷ rest) e h = by (is_comment word) h
  where
    named : (others : List (List ℕ)) → named_line word others ≡ Entry e → AreEntryWords (word ∷ others) e
    named [] k = absurd (cc)
    named (address ∷ flags) k = entry_words word address flags e (flags_of no_flags flags) refl k

    by : (c : Bool) → (if c then Passed else named_line word rest) ≡ Entry e → AreEntryWords (word ∷ rest) e
    by true k = absurd (cc)
    by false k = named rest k

-- a line by its words
line_there : (line : List ℕ) (says : Line) → line_of line ≡ says → says ≢ Malformed → (is_utf8 line ≡ true) × (line_of_words (words line) ≡ says)
unfolding line_of
line_there line says h n = by (is_utf8 line) refl h
  where
    by : (b : Bool) → is_utf8 line ≡ b → (if b then line_of_words (words line) else Malformed) ≡ says → (is_utf8 line ≡ true) × (line_of_words (words line) ≡ says)
    by true u k = (u, k)
    by false u k = absurd (n (sym k))

line_from : (line : List ℕ) (those : List (List ℕ)) → is_utf8 line ≡ true → IsOfWords those line → line_of line ≡ line_of_words those
unfolding line_of
line_from line those u w = ap (λ (b : Bool). if b then line_of_words (words line) else Malformed) u ∙ ap line_of_words (words_are those line w)

entry_line_there : (line : List ℕ) (e : EndpointParts) → line_of line ≡ Entry e → IsEntryLine line e
entry_line_there line e h =
    let t = line_there line (Entry e) h (λ k. differ k) in
    let w = words_there (words line) e t.1 in
    record { name = w.name; address = w.address; behind = w.behind; flags = w.flags; utf8 = t.0; of_words = of_its_words line (w.name ∷ w.address ∷ w.behind) w.are; are_flags = w.named; entry = w.is }
  where
    differ : Entry e ≡ Malformed → ⊥
    differ k = absurd (cc)

entry_line_from : (line : List ℕ) (e : EndpointParts) → IsEntryLine line e → line_of line ≡ Entry e
entry_line_from line e t =
    line_from line (t.name ∷ t.address ∷ t.behind) t.utf8 t.of_words
    ∙ (ap (λ (b : Bool). if b then Passed else named_line t.name (t.address ∷ t.behind)) (no_comment t.name t.entry.named)
    ∙ (ap (flagged_entry t.name t.address) (flags_from_parts t.behind t.flags.optional t.flags.values t.are_flags) ∙ entry_from t.name t.address t.flags e t.entry))

-- ---- lines that are passed over

not_passed : (o : Option EndpointParts) (flags : Flags) → entry_of o flags ≡ Passed → ⊥
not_passed None flags h = absurd (cc)
not_passed (Some p) flags h = by (is_sendable p) h
  where
    by : (b : Bool) → (if b then Entry (flagged flags p) else Malformed) ≡ Passed → ⊥
    by true k = absurd (cc)
    by false k = absurd (cc)

url_not_passed : (name address : List ℕ) (r : Parsed Parts) (flags : Flags) → entry_at name address r flags ≡ Passed → ⊥
url_not_passed name address (Err w) flags h = absurd (cc)
url_not_passed name address (Ok url) flags h = by (is_plain url) h
  where
    by : (b : Bool) → (if b then entry_of (endpoint_at name address url (host_of url)) flags else Malformed) ≡ Passed → ⊥
    by true k = not_passed (endpoint_at name address url (host_of url)) flags k
    by false k = absurd (cc)

entry_not_passed : (name address : List ℕ) (flags : Flags) → entry name address flags ≡ Passed → ⊥
unfolding entry
entry_not_passed name address flags h = by (is_name name && is_iri address) h
  where
    by : (b : Bool) → (if b then entry_at name address (parse_url None address) flags else Malformed) ≡ Passed → ⊥
    by true k = url_not_passed name address (parse_url None address) flags k
    by false k = absurd (cc)

named_not_passed : (name : List ℕ) (rest : List (List ℕ)) → named_line name rest ≡ Passed → ⊥
named_not_passed name [] h = absurd (cc)
named_not_passed name (address ∷ rest) h = by (flags_of no_flags rest) h
  where
    by : (o : Option Flags) → flagged_entry name address o ≡ Passed → ⊥
    by None k = absurd (cc)
    by (Some flags) k = entry_not_passed name address flags k

comment_there : (word : List ℕ) → is_comment word ≡ true → (rest : List ℕ) × (word ≡ 35 ∷ rest)
comment_there [] h = absurd (cc)
comment_there (c ∷ cs) h = (cs, ap (λ (x : ℕ). x ∷ cs) (same c h))
  where
    same : (c : ℕ) → (c == 35) ≡ true → c ≡ 35
    same c e = grind (arith, nat_tests)

passed_there : (line : List ℕ) → line_of line ≡ Passed → IsPassedLine line
passed_there line h =
    let t = line_there line Passed h (λ k. differ k) in
    record { utf8 = t.0; none_or_comment = by (words line) refl t.1 }
  where
    differ : Passed ≡ Malformed → ⊥
    differ k = absurd (cc)

    first : (word : List ℕ) (rest : List (List ℕ)) → words line ≡ word ∷ rest → (b : Bool) → is_comment word ≡ b → (if b then Passed else named_line word rest) ≡ Passed
        → IsOfWords [] line ⊎ ((rest : List ℕ) × (others : List (List ℕ)) × IsOfWords ((35 ∷ rest) ∷ others) line)
    first word rest w true c k = let t = comment_there word c in inr (t.0, rest, of_its_words line ((35 ∷ t.0) ∷ rest) (w ∙ ap (λ (v : List ℕ). v ∷ rest) t.1))
    first word rest w false c k = absurd (named_not_passed word rest k)

    by : (those : List (List ℕ)) → words line ≡ those → line_of_words those ≡ Passed → IsOfWords [] line ⊎ ((rest : List ℕ) × (others : List (List ℕ)) × IsOfWords ((35 ∷ rest) ∷ others) line)
    by [] w k = inl (of_its_words line [] w)
    by (word ∷ rest) w k = first word rest w (is_comment word) refl k

passed_from : (line : List ℕ) → IsPassedLine line → line_of line ≡ Passed
passed_from line t = by t.none_or_comment
  where
    by : IsOfWords [] line ⊎ ((rest : List ℕ) × (others : List (List ℕ)) × IsOfWords ((35 ∷ rest) ∷ others) line) → line_of line ≡ Passed
    by (inl w) = line_from line [] t.utf8 w
    by (inr w) = line_from line ((35 ∷ w.0) ∷ w.1) t.utf8 w.2

pub lines_are_read_by_their_words : LinesAreReadByTheirWords
lines_are_read_by_their_words line = (λ e. (entry_line_there line e, entry_line_from line e), (passed_there line, passed_from line))
