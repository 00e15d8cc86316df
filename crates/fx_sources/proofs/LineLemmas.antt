-- Entries and lines.
use Rattle.std.proofs.Common.{◌≡◌, ◌∙◌, ℕ, ◌<◌, Bool, true, false, ◌&&◌, nat_le, List, [], ◌∷◌, Option, Some, None, Result, Ok, Err, length, cond, refl, ap, sym, subst, arith, unwrap_or, option_and_then}
use Rattle.std.specs.Prelude.{All, MatchResult, is_ok}
use Rattle.std.specs.List.{list_all}
use Rattle.std.specs.Str.{IsUtf8, is_utf8}
use Rattle.std.proofs.lemmas.Bool.Decides.{nat_tests}
use Rattle.std.proofs.lemmas.List.Elements.{All-nil, All-cons}
use Rattle.std.proofs.lemmas.Str.{is_utf8-from_IsUtf8, IsUtf8-from_is_utf8, IsUtf8-from_ascii}
use Rattle.std.proofs.lemmas.Str.Ascii.{IsAscii-from_all}
use Rattle.url.specs.Parser.{parse_url}
use Rattle.url.specs.Parts.{Parts, serialize}
use Rattle.fx_terms.specs.Iris.{IsIri, read_iri, iri_after, iri_with_scheme, has_scheme}
use Rattle.fx_outside.specs.Endpoints.{EndpointParts, endpoint_of, flagged, is_sendable}
use Rattle.fx_outside.specs.declared.endpoints.Flags.{Flags}
use Rattle.fx_sources.specs.Addresses.{IsEntry, endpoint_at, url_text, text_of, is_name, is_name_byte, is_iri, starts_with_letter}
use Rattle.fx_sources.specs.Lines.{entry, entry_at, with_flag, flags_of}
use Rattle.fx_sources.specs.declared.lines.Line.TheVariants.{Malformed}

keeps_iri : (name address : List ℕ) (url : Parts) (host : Option (List ℕ)) (endpoint : EndpointParts) → endpoint_at name address url host ≡ Some endpoint → endpoint.iri ≡ address
keeps_iri name address url None endpoint e = cc
keeps_iri name address url (Some host) endpoint e =
    let same : endpoint_of name address host (unwrap_or url.port 80) url.path ≡ endpoint = cc in
    ap (λ (p : EndpointParts). p.iri) (sym same)

url_text_is : (address : List ℕ) (url : Parts) → parse_url None address ≡ Ok url → url_text address ≡ serialize url
unfolding url_text
url_text_is address url e = ap text_of e

-- the endpoint of an address that reads to a URL
pub entry_is : (name address : List ℕ) (url : Parts) (host : Option (List ℕ)) (endpoint : EndpointParts) (text : List ℕ) → endpoint_at name address url host ≡ Some endpoint
    → IsIri address → parse_url None address ≡ Ok url → text ≡ serialize url → is_sendable endpoint ≡ true → IsEntry endpoint text
entry_is name address url host endpoint text at iri reads is sendable =
    let same : endpoint.iri ≡ address = keeps_iri name address url host endpoint at in record {
      sendable = sendable;
      iri = rw same iri;
      reads = is ∙ sym (url_text_is address url reads) ∙ ap url_text (sym same);
    }

-- flags change nothing that makes it an entry
pub flagged_is : (flags : Flags) (endpoint with_flags : EndpointParts) (text : List ℕ) → with_flags ≡ flagged flags endpoint → IsEntry endpoint text → IsEntry with_flags text
flagged_is flags endpoint with_flags text same is = subst (λ (e : EndpointParts). IsEntry e text) (sym same) (record { sendable = is.sendable; iri = is.iri; reads = is.reads })

-- a word that adds a flag, and one that adds none
pub flags_go_on : (flags next : Flags) (word : List ℕ) (rest line : List (List ℕ)) → line ≡ word ∷ rest → with_flag flags word ≡ Some next → flags_of flags line ≡ flags_of next rest
flags_go_on flags next word rest line is adds = ap (flags_of flags) is ∙ ap (option_and_then (λ more. flags_of more rest)) adds

pub flags_end : (flags : Flags) (word : List ℕ) (rest line : List (List ℕ)) → line ≡ word ∷ rest → with_flag flags word ≡ None → flags_of flags line ≡ None
flags_end flags word rest line is adds = ap (flags_of flags) is ∙ ap (option_and_then (λ more. flags_of more rest)) adds

ascii_byte : (b : ℕ) → is_name_byte b ≡ true → b < 128
ascii_byte b is = grind (arith, nat_tests)

both_left : (a b : Bool) → a && b ≡ true → a ≡ true
both_left true b e = refl
both_left false b e = e

both_right : (a b : Bool) → a && b ≡ true → b ≡ true
both_right true b e = e
both_right false b e = cc

ascii_bytes : (bs : List ℕ) → list_all is_name_byte bs ≡ true → All (λ b. b < 128) bs
ascii_bytes [] is = All-nil (λ b. b < 128)
ascii_bytes (b ∷ bs) is = All-cons (λ b. b < 128) b bs (ascii_byte b (both_left (is_name_byte b) _ is)) (ascii_bytes bs (both_right (is_name_byte b) _ is))

-- a name is UTF-8
pub name_utf8 : (name : List ℕ) → true ≡ is_name name → IsUtf8 name
name_utf8 name is = IsUtf8-from_ascii name (IsAscii-from_all name (ascii_bytes name (both_right (starts_with_letter name && nat_le (length name) 32) _ (sym is))))

not_true : (b : Bool) → (b ≡ true → ⊥) → b ≡ false
not_true true isnt = absurd (isnt refl)
not_true false isnt = refl

no_utf8 : (bs : List ℕ) → (IsUtf8 bs → ⊥) → is_utf8 bs ≡ false
no_utf8 bs isnt = not_true (is_utf8 bs) (λ is. isnt (IsUtf8-from_is_utf8 bs is))

-- whether bytes were read as UTF-8
pub utf8_read : {T E : Type 0} (P : T → Type 0) (Q : E → Type 0) (r : Result T E) (bs : List ℕ) → MatchResult r (λ s. P s × IsUtf8 bs) (λ e. (IsUtf8 bs → ⊥) × Q e) → is_ok r ≡ is_utf8 bs
utf8_read P Q (Ok s) bs h = sym (is_utf8-from_IsUtf8 bs h.1)
utf8_read P Q (Err e) bs h = sym (no_utf8 bs h.0)

and_false : (b : Bool) → b && false ≡ false
and_false true = refl
and_false false = refl

-- an address that isn't UTF-8
pub entry_not_utf8 : (name address : List ℕ) (flags : Flags) → (IsUtf8 address → ⊥) → Malformed ≡ entry name address flags
unfolding entry
entry_not_utf8 name address flags isnt =
    let iri : is_iri address ≡ false = ap (λ b. b && is_ok (read_iri address)) (no_utf8 address isnt) in
    let out : is_name name && is_iri address ≡ false = ap (λ b. is_name name && b) iri ∙ and_false (is_name name) in
    sym (ap (λ (b : Bool). cond b (entry_at name address (parse_url None address) flags) Malformed) out)

same_iri : (text iri : List ℕ) (b : Bool) → iri_with_scheme text b ≡ Ok iri → text ≡ iri
same_iri text iri true e = cc
same_iri text iri false e = cc

reads_itself : (text iri : List ℕ) (place : Option ℕ) → iri_after text place ≡ Ok iri → text ≡ iri
reads_itself text iri (Some place) e = cc
reads_itself text iri None e = same_iri text iri (has_scheme text) e

-- a name and an IRI
pub entry_is_at : (name address iri name' address' : List ℕ) (flags : Flags) → true ≡ is_name name → IsUtf8 address → name' ≡ name → address' ≡ address → read_iri address' ≡ Ok iri
    → entry name address flags ≡ entry_at name' iri (parse_url None iri) flags
unfolding entry
entry_is_at name address iri name' address' flags named utf8 is_name' is_address' reads =
    let same : address ≡ iri = sym is_address' ∙ reads_itself address' iri _ reads in
    let ok : is_ok (read_iri address) ≡ true = ap (λ t. is_ok (read_iri t)) (sym is_address') ∙ ap is_ok reads in
    let is : is_iri address ≡ true = ap (λ b. b && is_ok (read_iri address)) (is_utf8-from_IsUtf8 address utf8) ∙ ok in
    let both : is_name name && is_iri address ≡ true = ap (λ b. b && is_iri address) (sym named) ∙ is in
    ap (λ (b : Bool). cond b (entry_at name address (parse_url None address) flags) Malformed) both
    ∙ rw (same, is_name') refl
