-- The request that is written is a whole request.
use Rattle.std.proofs.Common.{◌≡◌, ◌∙◌, ℕ, ◌+◌, ◌<◌, ◌≤◌, ◌^◌, Bool, true, false, cond, List, [], ◌∷◌, ◌++◌, length, reverse, refl, sym, ap, arith, tests, append_assoc, ◌==◌, ◌&&◌, None, Ok}
use Rattle.std.specs.Prelude.{codes, drop, suc, nat_le, nat_lt, not}
use Rattle.std.specs.List.{All, list_all, position_or_len}
use Rattle.std.proofs.Math.Seq.{take-length}
use Rattle.std.specs.Fmt.{decimal}
use Rattle.std.specs.Char.{is_ascii_digit}
use Rattle.std.specs.Str.{all_ascii_digits}
use Rattle.std.specs.Str.Parse.{digits_value}
use Rattle.std.proofs.lemmas.List.{length-append, append-nil}
use Rattle.std.proofs.lemmas.List.Elements.{All-cons, All-nil, All-head}
use Rattle.std.proofs.lemmas.Fmt.{decimal_nonempty, length-decimal-le, digits_decimal, digits_value-decimal}
use Rattle.std.proofs.lemmas.Str.{IsUtf8-from_ascii}
use Rattle.std.proofs.lemmas.Str.Ascii.{IsAscii-from_all}
use Rattle.httparse.specs.Grammar.{is_token_byte, is_uri_byte, is_value_byte, is_ows, AllPass, IsToken, crlf, Field, IsField, skip_ows, trim_ows, RequestHead, print_request}
use Rattle.httparse.proofs.GrammarLemmas.{print_request-append}
use Rattle.httparse.proofs.TrimLemmas.{trim_ows_space, AllPass-reverse}
use Rattle.fx_outside.specs.Endpoints.{EndpointParts, is_sendable, is_host_byte, is_host, is_target_byte, is_target}
use Rattle.form_urlencoded.specs.Form.{raw_pairs, split}
use Rattle.fx_http.specs.Fields.{named, values, is_missing, is_repeated, is_number}
use Rattle.fx_http.specs.Forms.{is_question_mark, query_part, names_dataset}
use Rattle.fx_http.specs.Requests.{authority, request_of, is_length, is_query, is_form, stated_length, post_fault, parts_answer, IsRequest}
use Rattle.fx_http.proofs.NumberLemmas.{both, own}

-- ---- the layout

-- with the brackets at the end
abbrev pub spread : List ℕ → List ℕ → List ℕ → List ℕ → List ℕ
spread target host size text =
    codes "POST " ++ (target ++ (codes " HTTP/1.1\r\nHost: " ++ (host ++ (codes "\r\nContent-Type: application/sparql-query\r\nAccept: application/sparql-results+json\r\nAccept-Encoding: identity\r\nConnection: close\r\nContent-Length: " ++ (size ++ (codes "\r\n\r\n" ++ text))))))

pub request_of_is : (at : EndpointParts) (text : List ℕ) → request_of at text ≡ spread at.target (authority at.host at.port) (decimal (length text)) text
request_of_is at text =
    regroup (codes "POST ") at.target (codes " HTTP/1.1") (codes "\r\n") (codes "Host: ") (authority at.host at.port)
    (codes "Content-Type: application/sparql-query") (codes "Accept: application/sparql-results+json") (codes "Accept-Encoding: identity")
    (codes "Connection: close") (codes "Content-Length: ") (decimal (length text)) text
  where
    regroup : (a t b e c h d i j k m n x : List ℕ)
        → ((a ++ t ++ b) ++ e) ++ ((c ++ h) ++ e) ++ (d ++ e) ++ (i ++ e) ++ (j ++ e) ++ (k ++ e) ++ ((m ++ n) ++ e) ++ e ++ x
        ≡ a ++ (t ++ (b ++ (e ++ (c ++ (h ++ (e ++ (d ++ (e ++ (i ++ (e ++ (j ++ (e ++ (k ++ (e ++ (m ++ (n ++ (e ++ (e ++ x))))))))))))))))))
    regroup a t b e c h d i j k m n x = simp append_assoc

-- ---- the head

abbrev pub line_of : List ℕ → List ℕ → Field
line_of name value = record { name = name; raw = 32 ∷ value; end = crlf }

abbrev pub fields_of : List ℕ → List ℕ → List Field
fields_of host size =
    line_of (codes "Host") host
    ∷ line_of (codes "Content-Type") (codes "application/sparql-query")
    ∷ line_of (codes "Accept") (codes "application/sparql-results+json")
    ∷ line_of (codes "Accept-Encoding") (codes "identity")
    ∷ line_of (codes "Connection") (codes "close")
    ∷ line_of (codes "Content-Length") size
    ∷ []

abbrev pub head_of : List ℕ → List ℕ → List ℕ → RequestHead
head_of target host size = record {
  blank = [];
  method = codes "POST";
  target = target;
  minor = 1;
  line_end = crlf;
  fields = fields_of host size;
  last = crlf;
}

spread_is : (target host size text : List ℕ) → print_request (head_of target host size) ++ text ≡ spread target host size text
spread_is target host size text =
    print_request-append (head_of target host size) text
    ∙ ap (λ (t : List ℕ). codes "POST " ++ (target ++ (codes " HTTP/1.1\r\n" ++ t)))
    (regroup (codes "Host: ") host (codes "\r\n") (codes "Content-Type: application/sparql-query") (codes "Accept: application/sparql-results+json")
    (codes "Accept-Encoding: identity") (codes "Connection: close") (codes "Content-Length: ") size text)
  where
    regroup : (c h e d i j k m n x : List ℕ)
        → ((c ++ (h ++ e)) ++ ((d ++ e) ++ ((i ++ e) ++ ((j ++ e) ++ ((k ++ e) ++ ((m ++ (n ++ e)) ++ []))))) ++ e) ++ x
        ≡ c ++ (h ++ (e ++ (d ++ (e ++ (i ++ (e ++ (j ++ (e ++ (k ++ (e ++ (m ++ (n ++ (e ++ (e ++ x))))))))))))))
    regroup c h e d i j k m n x = simp (append_assoc, append-nil)

-- ---- the classes of its bytes

all_pass : (p q : ℕ → Bool) → ((b : ℕ) → p b ≡ true → q b ≡ true) → (bs : List ℕ) → list_all p bs ≡ true → AllPass q bs
all_pass p q h [] e = All-nil (λ b. q b ≡ true)
all_pass p q h (b ∷ bs) e =
    let t = both (p b) (list_all p bs) e in
    All-cons (λ b. q b ≡ true) b bs (h b t.0) (all_pass p q h bs t.1)

pub passes_all : (q : ℕ → Bool) (bs : List ℕ) → list_all q bs ≡ true → AllPass q bs
passes_all q bs e = all_pass q q (λ b h. h) bs e

target_uri : (b : ℕ) → is_target_byte b ≡ true → is_uri_byte b ≡ true
target_uri b h = grind (arith, tests)

target_ascii : (b : ℕ) → is_target_byte b ≡ true → b < 128
target_ascii b h = grind (arith, tests)

host_value : (b : ℕ) → is_host_byte b ≡ true → is_value_byte b ≡ true
host_value b h = grind (arith, tests)

digit_value : (b : ℕ) → is_ascii_digit b ≡ true → is_value_byte b ≡ true
digit_value b h = grind (arith, tests)

digit_no_blank : (b : ℕ) → is_ascii_digit b ≡ true → is_ows b ≡ false
digit_no_blank b h = grind (arith, tests)

slash_target : (b : ℕ) → (b == 47) ≡ true → is_target_byte b ≡ true
slash_target b h = grind (arith, tests)

target_bytes : (target : List ℕ) → is_target target ≡ true → (0 < length target) × (list_all is_target_byte target ≡ true)
target_bytes [] h = cc
target_bytes (b ∷ bs) h =
    let t = both (b == 47) (list_all is_target_byte bs) h in
    (omega arith, rw (slash_target b t.0, t.1) refl)

digits_pass : (ds : List ℕ) → all_ascii_digits ds ≡ true → AllPass is_ascii_digit ds
digits_pass [] h = All-nil (λ b. is_ascii_digit b ≡ true)
digits_pass (b ∷ bs) h =
    let t = both (is_ascii_digit b) (all_ascii_digits bs) h in
    All-cons (λ b. is_ascii_digit b ≡ true) b bs t.0 (digits_pass bs t.1)

pub digits_value_bytes : (ds : List ℕ) → all_ascii_digits ds ≡ true → AllPass is_value_byte ds
digits_value_bytes [] h = All-nil (λ b. is_value_byte b ≡ true)
digits_value_bytes (b ∷ bs) h =
    let t = both (is_ascii_digit b) (all_ascii_digits bs) h in
    All-cons (λ b. is_value_byte b ≡ true) b bs (digit_value b t.0) (digits_value_bytes bs t.1)

host_before : (host rest : List ℕ) → list_all is_host_byte host ≡ true → AllPass is_value_byte rest → AllPass is_value_byte (host ++ rest)
host_before [] rest h r = r
host_before (b ∷ bs) rest h r =
    let t = both (is_host_byte b) (list_all is_host_byte bs) h in
    All-cons (λ b. is_value_byte b ≡ true) b (bs ++ rest) (host_value b t.0) (host_before bs rest t.1 r)

-- such a target has no query part
no_query : (target : List ℕ) → list_all is_target_byte target ≡ true → query_part target ≡ []
no_query [] h = refl
no_query (b ∷ bs) h =
    let t = both (is_target_byte b) (list_all is_target_byte bs) h in
    rw (no_question_mark b t.0) (further (position_or_len is_question_mark bs) b bs ∙ no_query bs t.1)
  where
    no_question_mark : (b : ℕ) → is_target_byte b ≡ true → is_question_mark b ≡ false
    no_question_mark b h = grind (arith, tests)

    further : (n b : ℕ) (bs : List ℕ) → drop (1 + n + 1) (b ∷ bs) ≡ drop (n + 1) bs
    further n b bs = let e : 1 + n + 1 ≡ suc (n + 1) = omega arith in ap (λ (k : ℕ). drop k (b ∷ bs)) e

no_pairs : names_dataset [] ≡ false
unfolding raw_pairs split
no_pairs = refl

-- ---- the length in digits

digits_stay : (ds : List ℕ) → AllPass is_ascii_digit ds → skip_ows ds ≡ ds
digits_stay [] h = refl
digits_stay (b ∷ bs) h = rw (digit_no_blank b (All-head (λ b. is_ascii_digit b ≡ true) b bs h)) refl

pub size_value : (ds : List ℕ) → all_ascii_digits ds ≡ true → trim_ows (32 ∷ ds) ≡ ds
size_value ds h =
    let p = digits_pass ds h in
    trim_ows_space ds (digits_stay ds p) (digits_stay (reverse ds) (AllPass-reverse is_ascii_digit ds p))

pub record IsSize (n : ℕ) : Type 0 where
  pub digits : all_ascii_digits (decimal n) ≡ true
  pub some : 1 ≤ length (decimal n)
  pub most : length (decimal n) ≤ 19
  pub value : digits_value 10 (decimal n) ≡ n

pub size_is : (n : ℕ) → n < 10 ^ 19 → IsSize n
size_is n h =
    let small : n < 2 ^ 64 = omega arith in record {
      digits = digits_decimal own n small;
      some = decimal_nonempty n small;
      most = length-decimal-le 19 n (omega arith) h small;
      value = digits_value-decimal own n small;
    }

pub is_length_decimal : (n : ℕ) → IsSize n → is_length n (decimal n) ≡ true
is_length_decimal n k =
    let some = k.some in
    let most = k.most in
    rw (k.digits, k.value) (grind (arith, tests))

-- ---- the host and the port

authority_value : (host : List ℕ) (port : ℕ) → list_all is_host_byte host ≡ true → port < 2 ^ 16 → AllPass is_value_byte (authority host port)
authority_value host port h small = by_port (port == 80)
  where
    by_port : (b : Bool) → AllPass is_value_byte (cond b host (host ++ 58 ∷ decimal port))
    by_port true = all_pass is_host_byte is_value_byte host_value host h
    by_port false = host_before host (58 ∷ decimal port) h
        (All-cons (λ b. is_value_byte b ≡ true) 58 (decimal port) refl (digits_value_bytes (decimal port) (digits_decimal own port (omega arith))))

authority_length : (host : List ℕ) (port : ℕ) → port < 2 ^ 16 → length (authority host port) ≤ length host + 6
authority_length host port small = by_port (port == 80)
  where
    by_port : (b : Bool) → length (cond b host (host ++ 58 ∷ decimal port)) ≤ length host + 6
    by_port true = omega arith
    by_port false =
        let digits : length (decimal port) ≤ 5 = length-decimal-le 5 port (omega arith) (omega arith) (omega arith) in
        omega (arith, length-append host (58 ∷ decimal port))

-- ---- the request

spread_length : (target host size text : List ℕ)
    → length (spread target host size text) ≡ 5 + (length target + (17 + (length host + (145 + (length size + (4 + length text))))))
spread_length target host size text =
    pieces (codes "POST ") target (codes " HTTP/1.1\r\nHost: ") host
    (codes "\r\nContent-Type: application/sparql-query\r\nAccept: application/sparql-results+json\r\nAccept-Encoding: identity\r\nConnection: close\r\nContent-Length: ")
    size (codes "\r\n\r\n") text
  where
    pieces : (a t b h c s d x : List ℕ) → length (a ++ (t ++ (b ++ (h ++ (c ++ (s ++ (d ++ x)))))))
        ≡ length a + (length t + (length b + (length h + (length c + (length s + (length d + length x))))))
    pieces a t b h c s d x = simp length-append

-- a name and a value of these classes
pub field_is : (name value : List ℕ) → 0 < length name → AllPass is_token_byte name → AllPass is_value_byte (32 ∷ value) → IsField (line_of name value)
field_is name value some n v = record { name = (some, n); raw = v }

pub value_after_space : (value : List ℕ) → AllPass is_value_byte value → AllPass is_value_byte (32 ∷ value)
value_after_space value h = All-cons (λ b. is_value_byte b ≡ true) 32 value refl h

six : (a b c d e f : Field) → IsField a → IsField b → IsField c → IsField d → IsField e → IsField f → All IsField (a ∷ b ∷ c ∷ d ∷ e ∷ f ∷ [])
six a b c d e f p q r s t u =
    All-cons IsField a (b ∷ c ∷ d ∷ e ∷ f ∷ []) p
    (All-cons IsField b (c ∷ d ∷ e ∷ f ∷ []) q
    (All-cons IsField c (d ∷ e ∷ f ∷ []) r
    (All-cons IsField d (e ∷ f ∷ []) s
    (All-cons IsField e (f ∷ []) t
    (All-cons IsField f [] u
    (All-nil IsField))))))

fields_are : (host size : List ℕ) → AllPass is_value_byte host → AllPass is_value_byte size → All IsField (fields_of host size)
unfolding is_token_byte
fields_are host size h s =
    six _ _ _ _ _ _
    (field_is (codes "Host") host (omega arith) (passes_all is_token_byte (codes "Host") refl) (value_after_space host h))
    (literal (codes "Content-Type") (codes "application/sparql-query") (omega arith) refl refl)
    (literal (codes "Accept") (codes "application/sparql-results+json") (omega arith) refl refl)
    (literal (codes "Accept-Encoding") (codes "identity") (omega arith) refl refl)
    (literal (codes "Connection") (codes "close") (omega arith) refl refl)
    (field_is (codes "Content-Length") size (omega arith) (passes_all is_token_byte (codes "Content-Length") refl) (value_after_space size s))
  where
    literal : (name value : List ℕ) → 0 < length name → list_all is_token_byte name ≡ true → list_all is_value_byte (32 ∷ value) ≡ true → IsField (line_of name value)
    literal name value some n v = field_is name value some (passes_all is_token_byte name n) (passes_all is_value_byte (32 ∷ value) v)

post_token : IsToken (codes "POST")
unfolding is_token_byte
post_token = (omega arith, passes_all is_token_byte (codes "POST") refl)

-- ---- what it asks

number_is : (n : ℕ) → IsSize n → is_number (decimal n) ≡ true
number_is n k =
    let some = k.some in
    let most = k.most in
    rw k.digits (grind (arith, tests))

has_size : (host : List ℕ) (n : ℕ) → IsSize n → stated_length (named (fields_of host (decimal n))) ≡ n
has_size host n k = rw (size_value (decimal n) k.digits, number_is n k) k.value

has_no_form : (host size : List ℕ) → is_form (named (fields_of host size)) ≡ false
unfolding trim_ows
has_no_form host size = refl

-- a POST with one length and one media type, which are good, breaks no rule
pub record IsGoodPost (fields : List (List ℕ × List ℕ)) (size : List ℕ) : Type 0 where
  pub sized : values (codes "content-length") fields ≡ size ∷ []
  pub typed : is_repeated (codes "content-type") fields ≡ false
  pub unchunked : is_missing (codes "transfer-encoding") fields ≡ true
  pub query : is_query fields ≡ true
  pub number : is_number size ≡ true
  pub few : digits_value 10 size ≤ 67108864

faultless : (fields : List (List ℕ × List ℕ)) (size : List ℕ) → IsGoodPost fields size → post_fault fields ≡ None
faultless fields size g = rw (g.sized, g.typed, g.unchunked, g.query, g.number, few (digits_value 10 size) g.few) refl
  where
    few : (n : ℕ) → n ≤ 67108864 → nat_lt 67108864 n ≡ false
    few n h = grind (arith, tests)

good_post : (host : List ℕ) (n : ℕ) → IsSize n → n ≤ 67108864 → IsGoodPost (named (fields_of host (decimal n))) (decimal n)
unfolding trim_ows
good_post host n k few =
    let value = k.value in
    record {
      sized = ap (λ (v : List ℕ). v ∷ []) (size_value (decimal n) k.digits);
      typed = refl;
      unchunked = refl;
      query = refl;
      number = number_is n k;
      few = omega arith;
    }

-- a POST of a text that breaks no rule asks the text
asks_text : (fields : List (List ℕ × List ℕ)) (query text : List ℕ) → post_fault fields ≡ None → stated_length fields ≡ length text → is_form fields ≡ false
    → names_dataset query ≡ false → parts_answer (codes "POST") fields query text ≡ Ok text
asks_text fields query text f size form bare = rw (f, size, take-length text, itself (length text), form, bare) refl
  where
    itself : (n : ℕ) → nat_lt n n ≡ false
    itself n = grind (arith, tests)

pub request_is : (at : EndpointParts) (text : List ℕ) → is_sendable at ≡ true → at.port < 2 ^ 16 → length text ≤ 67108864 → IsRequest (request_of at text) text
request_is at text sendable port few =
    let host = authority at.host at.port in
    let size = decimal (length text) in
    let head = head_of at.target host size in
    let s = both (is_host at.host && is_target at.target) (nat_le (length at.host + length at.target) 32768) sendable in
    let t = both (is_host at.host) (is_target at.target) s.0 in
    let host_bytes = (both (not (length at.host == 0)) (list_all is_host_byte at.host) t.0).1 in
    let target = target_bytes at.target t.1 in
    let k = size_is (length text) (omega arith) in
    let long = authority_length at.host at.port port in
    let most = k.most in
    let both_short : length at.host + length at.target ≤ 32768 = grind (arith, tests) in
    let printed = ap length (sym (append-nil (print_request head)) ∙ spread_is at.target host size []) in
    let total = spread_length at.target host size [] in
    record {
      head = head;
      body = text;
      begins = record {
        reads = (
          record {
            method = post_token;
            target = (target.0, all_pass is_target_byte is_uri_byte target_uri at.target target.1);
            target_text = IsUtf8-from_ascii at.target (IsAscii-from_all at.target (ascii at.target target.1));
            minor = omega arith;
            fields = fields_are host size (authority_value at.host at.port host_bytes port) (digits_value_bytes size k.digits);
          },
          request_of_is at text ∙ sym (spread_is at.target host size text),
        );
        near = omega arith;
        few = omega arith;
      };
      whole = sym (has_size host (length text) k);
      answers = asks_text (named (fields_of host size)) (query_part at.target) text (faultless (named (fields_of host size)) size (good_post host (length text) k few)) (has_size host (length text) k) (has_no_form host size)
          (ap names_dataset (no_query at.target target.1) ∙ no_pairs);
    }
  where
    ascii : (bs : List ℕ) → list_all is_target_byte bs ≡ true → All (λ b. b < 128) bs
    ascii [] h = All-nil (λ b. b < 128)
    ascii (b ∷ bs) h =
        let t = both (is_target_byte b) (list_all is_target_byte bs) h in
        All-cons (λ b. b < 128) b bs (target_ascii b t.0) (ascii bs t.1)
