-- How a request is read: its head byte by byte, then its parts by offsets, and then what is behind it.
use Rattle.std.specs.Prelude.{◌≡◌, ℕ, ◌<◌, ◌≤◌, Bool, not, ◌||◌, nat_eq, List, [], ◌∷◌, ◌++◌, length, map, take, drop, All, Result}
use Rattle.std.specs.List.{ends_with}
use Rattle.httparse.specs.declared.spans.HeaderSpan.{HeaderSpan}
use Rattle.httparse.specs.declared.spans.RequestSpans.{RequestSpans}
use Rattle.httparse.specs.Grammar.{RequestHead, ReadsRequest, print_request}
use Rattle.httparse.specs.Spans.{IsWithin, IsHeaderWithin, span_bytes, header_bytes}
use Rattle.fx_terms.specs.Blanks.{is_line_end}
use Rattle.fx_http.specs.Answers.{IsRestWithin}
use Rattle.fx_http.specs.Fields.{named}
use Rattle.fx_http.specs.Requests.{answer_of, body_length, length_behind, HasNoRequestHead}
use Rattle.fx_http.specs.declared.request_heads.Looked.{Looked}
use Rattle.fx_http.specs.declared.request_heads.Looked.TheVariants.{Head, Open, Never}
use Rattle.fx_http.specs.declared.read_requests.RequestError.{RequestError}
use Rattle.fx_http.specs.declared.read_requests.RequestError.TheVariants.{Fault, Malformed, Memory}

-- neither CR nor LF
abbrev pub is_of_line : ℕ → Bool
is_of_line b = not (is_line_end b)

-- the bytes end in the end of a line, and an empty line
abbrev pub ends_in_empty_line : List ℕ → Bool
ends_in_empty_line bytes = ends_with nat_eq bytes (10 ∷ 10 ∷ []) || ends_with nat_eq bytes (10 ∷ 13 ∷ 10 ∷ [])

-- a head that the bytes begin with has more than 100 fields
abbrev pub HasNoHeadYet : List ℕ → Type 0
HasNoHeadYet bytes = (head : RequestHead) (rest : List ℕ) → ReadsRequest bytes head rest → 100 < length head.fields

-- the bytes begin with a head of at most 100 fields
pub record BeginsWithSome (bytes : List ℕ) : Type 0 where
  pub head : RequestHead
  pub rest : List ℕ
  pub reads : ReadsRequest bytes head rest
  pub few : length head.fields ≤ 100

-- what was found out of bytes that a head may end with
abbrev pub IsLooked : List ℕ → Looked → Type 0
IsLooked bytes Head = BeginsWithSome bytes
IsLooked bytes Open = HasNoHeadYet bytes
IsLooked bytes Never = (more : List ℕ) → HasNoHeadYet (bytes ++ more)

-- the bytes are a head, and nothing behind it
pub record IsWholeHead (bytes : List ℕ) : Type 0 where
  pub head : RequestHead
  pub reads : ReadsRequest bytes head []
  pub near : length (print_request head) ≤ 65536
  pub few : length head.fields ≤ 100

-- the input has no head, a read failed, or memory ran out
abbrev pub IsHeadless : List ℕ → RequestError → Type 0
IsHeadless input Malformed = HasNoRequestHead input
IsHeadless input Fault = Unit {0}
IsHeadless input Memory = Unit {0}
IsHeadless input error = ⊥

-- the offsets are those of the head that the bytes are
pub record IsRequestSpans (front : List ℕ) (headers : List HeaderSpan) (spans : RequestSpans) : Type 0 where
  pub head : RequestHead
  pub reads : ReadsRequest front head []
  pub method_within : IsWithin (length front) spans.method
  pub path_within : IsWithin (length front) spans.path
  pub method : span_bytes front spans.method ≡ head.method
  pub path : span_bytes front spans.path ≡ head.target
  pub count : spans.headers ≤ length headers
  pub headers_within : All (IsHeaderWithin (length front)) (take spans.headers headers)
  pub fields : map (header_bytes front) (take spans.headers headers) ≡ named head.fields

-- a head, with this behind it, asks that
abbrev pub AsksBehind : List ℕ → List ℕ → Result (List ℕ) RequestError → Type 0
AsksBehind front rest answer = (head : RequestHead) → ReadsRequest front head [] → answer_of head rest ≡ answer

-- so many bytes were there, and were taken
abbrev pub IsBodyTaken : ℕ → List ℕ → List ℕ → Type 0
IsBodyTaken size before after = (size ≤ length before) × (after ≡ drop size before)

-- the body that a head gives was taken
abbrev pub IsBodyBehind : List ℕ → List ℕ → List ℕ → Type 0
IsBodyBehind front before after = (head : RequestHead) → ReadsRequest front head [] → IsBodyTaken (body_length head.method (named head.fields)) before after

-- at most the bytes that are of a head's request were taken behind it
abbrev pub IsPartBehind : List ℕ → List ℕ → List ℕ → Type 0
IsPartBehind front before after = (head : RequestHead) → ReadsRequest front head [] → IsRestWithin (length_behind head.method (named head.fields)) before after
