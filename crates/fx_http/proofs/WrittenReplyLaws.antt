-- The reply that is written with the status 200 is read as a reply.
use Rattle.std.proofs.Common.{◌≡◌, ◌∙◌, ℕ, ◌+◌, ◌<◌, ◌≤◌, ◌^◌, Bool, true, false, cond, List, [], ◌∷◌, ◌++◌, length, refl, sym, ap, arith, append_assoc, append-nil, Some, None}
use Rattle.std.specs.Prelude.{codes, not}
use Rattle.std.specs.List.{All, list_all}
use Rattle.std.specs.Char.{is_ascii_digit}
use Rattle.std.specs.Fmt.{decimal, digits}
use Rattle.std.proofs.lemmas.List.{length-append}
use Rattle.std.proofs.lemmas.List.Elements.{All-cons, All-nil}
use Rattle.httparse.specs.Grammar.{crlf, Field, IsField, trim_ows, is_token_byte, is_value_byte, AllPass, ResponseHead, print_response}
use Rattle.httparse.proofs.GrammarLemmas.{print_response-append}
use Rattle.fx_http.specs.Fields.{named, has_one}
use Rattle.fx_http.specs.Requests.{is_length}
use Rattle.fx_http.specs.Replies.{IsReply, is_plain, is_readable, is_results, is_whole}
use Rattle.fx_http.specs.WrittenReplies.{reply_head, reply_of, reason_of, allowed, type_of}
use Rattle.fx_http.specs.declared.replies.ReplyError.TheVariants.{Status, Coding, ContentType, Length}
use Rattle.fx_http.proofs.RequestLaws.{line_of, IsSize, size_is, is_length_decimal, size_value, digits_value_bytes, passes_all, field_is, value_after_space}

-- ---- the layout

-- with the brackets at the end
abbrev pub spread : List ℕ → List ℕ → List ℕ → List ℕ → List ℕ → List ℕ
spread status reason allow kind size =
    codes "HTTP/1.1 " ++ (status ++ (codes " " ++ (reason ++ (codes "\r\n" ++ (allow ++ (codes "Content-Type: " ++ (kind ++ (codes "\r\nContent-Length: " ++ (size ++ codes "\r\nConnection: close\r\n\r\n")))))))))

pub reply_head_is : (status size : ℕ) → reply_head status size ≡ spread (decimal status) (reason_of status) (allowed status) (type_of status) (decimal size)
reply_head_is status size =
    regroup (codes "HTTP/1.1 ") (decimal status) (codes " ") (reason_of status) (codes "\r\n") (allowed status) (codes "Content-Type: ") (type_of status)
    (codes "Content-Length: ") (decimal size) (codes "Connection: close")
  where
    regroup : (a s b r e w c t l n k : List ℕ)
        → (((a ++ s ++ b ++ r) ++ e) ++ w ++ ((c ++ t) ++ e) ++ ((l ++ n) ++ e) ++ (k ++ e) ++ e)
        ≡ a ++ (s ++ (b ++ (r ++ (e ++ (w ++ (c ++ (t ++ (e ++ (l ++ (n ++ (e ++ (k ++ (e ++ e)))))))))))))
    regroup a s b r e w c t l n k = simp append_assoc

-- ---- the head

abbrev pub fields_of : List ℕ → List Field
fields_of size = line_of (codes "Content-Type") (codes "application/sparql-results+json") ∷ line_of (codes "Content-Length") size ∷ line_of (codes "Connection") (codes "close") ∷ []

abbrev pub head_of : List ℕ → ResponseHead
head_of size = record { blank = []; minor = 1; digits = codes "200"; reason = Some (codes "OK"); line_end = crlf; fields = fields_of size; last = crlf }

hundreds : decimal 200 ≡ codes "200"
unfolding digits
hundreds = refl

-- the head, and a body behind it
head_is : (ds size body : List ℕ) → ds ≡ codes "200" → print_response (head_of size) ++ body ≡ spread ds (codes "OK") [] (codes "application/sparql-results+json") size ++ body
head_is ds size body e =
    print_response-append (head_of size) body
    ∙ ap (λ (t : List ℕ). codes "HTTP/1.1 200 OK\r\n" ++ t)
    (regroup (codes "Content-Type: application/sparql-results+json\r\n") (codes "Content-Length: ") size (codes "\r\n") (codes "Connection: close\r\n") body)
    ∙ ap (λ (t : List ℕ). spread t (codes "OK") [] (codes "application/sparql-results+json") size ++ body) (sym e)
  where
    regroup : (f c n e g x : List ℕ) → ((f ++ ((c ++ (n ++ e)) ++ (g ++ []))) ++ e) ++ x ≡ f ++ (c ++ ((n ++ (e ++ (g ++ e))) ++ x))
    regroup f c n e g x = simp (append_assoc, append-nil)

-- ---- the fields

no_fault : (code : ℕ) (a b c d : Bool) → a ≡ true → b ≡ true → c ≡ true → d ≡ true → cond (not a) (Some (Status code)) (cond (not b) (Some Coding) (cond (not c) (Some ContentType) (cond (not d) (Some Length) None))) ≡ None
no_fault code true true true true p q r s = refl
no_fault code false b c d p q r s = cc
no_fault code true false c d p q r s = cc
no_fault code true true false d p q r s = cc
no_fault code true true true false p q r s = cc

has_size : (n : ℕ) → IsSize n → has_one (codes "content-length") (is_length n) (named (fields_of (decimal n))) ≡ true
has_size n k = rw (size_value (decimal n) k.digits) (is_length_decimal n k)

is_read : (size : List ℕ) → is_readable (named (fields_of size)) ≡ true
is_read size = refl

is_json : (size : List ℕ) → is_results (named (fields_of size)) ≡ true
unfolding trim_ows
is_json size = refl

is_no_chunk : (size : List ℕ) → is_plain (named (fields_of size)) ≡ true
is_no_chunk size = refl

is_all : (n : ℕ) → IsSize n → is_whole n (named (fields_of (decimal n))) ≡ true
is_all n k = has_size n k

three : (a b c : Field) → IsField a → IsField b → IsField c → All IsField (a ∷ b ∷ c ∷ [])
three a b c p q r = All-cons IsField a (b ∷ c ∷ []) p (All-cons IsField b (c ∷ []) q (All-cons IsField c [] r (All-nil IsField)))

fields_are : (size : List ℕ) → AllPass is_value_byte size → All IsField (fields_of size)
unfolding is_token_byte
fields_are size s =
    three _ _ _
    (literal (codes "Content-Type") (codes "application/sparql-results+json") (omega arith) refl refl)
    (field_is (codes "Content-Length") size (omega arith) (passes_all is_token_byte (codes "Content-Length") refl) (value_after_space size s))
    (literal (codes "Connection") (codes "close") (omega arith) refl refl)
  where
    literal : (name value : List ℕ) → 0 < length name → list_all is_token_byte name ≡ true → list_all is_value_byte (32 ∷ value) ≡ true → IsField (line_of name value)
    literal name value some n v = field_is name value some (passes_all is_token_byte name n) (passes_all is_value_byte (32 ∷ value) v)

-- ---- the reply

head_length : (ds size : List ℕ) → length ds ≤ 3 → length size ≤ 19 → length (spread ds (codes "OK") [] (codes "application/sparql-results+json") size) ≤ 200
head_length ds size d s = omega (arith, pieces (codes "HTTP/1.1 ") ds (codes " OK\r\nContent-Type: application/sparql-results+json\r\nContent-Length: ") size (codes "\r\nConnection: close\r\n\r\n"))
  where
    pieces : (a s b n k : List ℕ) → length (a ++ (s ++ (b ++ (n ++ k)))) ≡ length a + (length s + (length b + (length n + length k)))
    pieces a s b n k = simp length-append

pub reply_is : (body : List ℕ) → length body < 10 ^ 19 → IsReply (reply_of 200 body) body
reply_is body short =
    let n = length body in
    let size = decimal n in
    let k = size_is n short in
    let most = k.most in
    let layout : reply_of 200 body ≡ print_response (head_of size) ++ body = ap (λ (t : List ℕ). t ++ body) (reply_head_is 200 n) ∙ sym (head_is (decimal 200) size body hundreds) in
    let printed : length (print_response (head_of size)) ≡ length (spread (decimal 200) (codes "OK") [] (codes "application/sparql-results+json") size) =
    ap length (sym (append-nil (print_response (head_of size))) ∙ head_is (decimal 200) size [] hundreds ∙ append-nil (spread (decimal 200) (codes "OK") [] (codes "application/sparql-results+json") size)) in
    let digits_few : length (decimal 200) ≤ 3 = omega (arith, ap length hundreds) in
    let head_few = head_length (decimal 200) size digits_few most in
    record {
      head = head_of size;
      rest = body;
      begins = record {
        reads = (
          record {
            minor = omega arith;
            digits = (refl, passes_all is_ascii_digit (codes "200") refl);
            reason = passes_all is_value_byte (codes "OK") refl;
            fields = fields_are size (digits_value_bytes size k.digits);
          },
          layout,
        );
        near = omega arith;
        few = omega arith;
      };
      faultless = no_fault 200 true (is_readable (named (fields_of size))) (is_results (named (fields_of size))) (is_whole n (named (fields_of size))) refl (is_read size) (is_json size) (is_all n k);
      holds = refl;
    }
