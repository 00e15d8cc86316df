-- A reply of an endpoint: its body, or the first of the rules that the bytes break (RFC 9112; SPARQL 1.1 Protocol, 2.1.5).
use Rattle.std.specs.Prelude.{◌≡◌, ℕ, ◌<◌, ◌≤◌, Bool, true, false, List, length, codes, Result, Ok, Err, Option, Some, None, if◌then◌else◌, ◌==◌, ◌&&◌, ◌||◌, not}
use Rattle.std.specs.List.{list_all}
use Rattle.std.specs.Str.{str_eq_ignore_ascii_case}
use Rattle.httparse.specs.Grammar.{ResponseHead, ReadsResponse, print_response, status_code}
use Rattle.fx_http.specs.Fields.{named, values, is_missing, has_one, media_type}
use Rattle.fx_http.specs.Requests.{is_length}
use Rattle.fx_http.specs.Chunks.{IsChunked, HasNoChunks}
use Rattle.fx_http.specs.declared.replies.ReplyError.{ReplyError}
use Rattle.fx_http.specs.declared.replies.ReplyError.TheVariants.{TooLong, Head, Status, Coding, ContentType, Length, Chunk, Memory}

-- the bytes begin with the head, in their first 65,536 and with at most 100 fields, and the rest is behind it
pub record BeginsWith (bytes : List ℕ) (head : ResponseHead) (rest : List ℕ) : Type 0 where
  pub reads : ReadsResponse bytes head rest
  pub near : length (print_response head) ≤ 65536
  pub few : length head.fields ≤ 100

-- the bytes begin with no head
abbrev pub HasNoHead : List ℕ → Type 0
HasNoHead bytes = (head : ResponseHead) (rest : List ℕ) → ¬ BeginsWith bytes head rest

abbrev pub is_identity : List ℕ → Bool
is_identity value = str_eq_ignore_ascii_case value (codes "identity")

abbrev pub is_chunked : List ℕ → Bool
is_chunked value = str_eq_ignore_ascii_case value (codes "chunked")

-- the body comes as it is
abbrev pub is_plain : List (List ℕ × List ℕ) → Bool
is_plain fields = is_missing (codes "transfer-encoding") fields

-- the body comes as it is or in chunks, and is not compressed
abbrev pub is_readable : List (List ℕ × List ℕ) → Bool
is_readable fields =
    list_all is_identity (values (codes "content-encoding") fields)
    && (is_plain fields || has_one (codes "transfer-encoding") is_chunked fields)

abbrev pub is_results_type : List ℕ → Bool
is_results_type value =
    str_eq_ignore_ascii_case (media_type value) (codes "application/sparql-results+json")
    || str_eq_ignore_ascii_case (media_type value) (codes "application/json")

-- the body is a document of results in JSON
abbrev pub is_results : List (List ℕ × List ℕ) → Bool
is_results fields = has_one (codes "content-type") is_results_type fields

-- the length, where there is one, is the number of the bytes behind the head, and does not stand beside chunks
abbrev pub is_whole : ℕ → List (List ℕ × List ℕ) → Bool
is_whole size fields =
    is_missing (codes "content-length") fields
    || (is_plain fields && has_one (codes "content-length") (is_length size) fields)

-- the first rule that a code, fields and so many bytes behind the head break
abbrev pub fault_of : ℕ → List (List ℕ × List ℕ) → ℕ → Option ReplyError
fault_of code fields size =
    if not (code == 200) then Some (Status code)
    else if not (is_readable fields) then Some Coding
    else if not (is_results fields) then Some ContentType
    else if not (is_whole size fields) then Some Length
    else None

abbrev pub fault_in : ResponseHead → List ℕ → Option ReplyError
fault_in head rest = fault_of (status_code head) (named head.fields) (length rest)

-- what is behind the head is the body, plain or in chunks
abbrev pub IsBody : Bool → List ℕ → List ℕ → Type 0
IsBody true rest body = body ≡ rest
IsBody false rest body = IsChunked rest body

-- the bytes are one whole reply with status 200, and the body is a document of results in JSON
pub record IsReply (bytes body : List ℕ) : Type 0 where
  pub head : ResponseHead
  pub rest : List ℕ
  pub begins : BeginsWith bytes head rest
  pub faultless : fault_in head rest ≡ None
  pub holds : IsBody (is_plain (named head.fields)) rest body

-- the head breaks a rule
pub record HasFault (bytes : List ℕ) (fault : ReplyError) : Type 0 where
  pub head : ResponseHead
  pub rest : List ℕ
  pub begins : BeginsWith bytes head rest
  pub broken : fault_in head rest ≡ Some fault

-- the head breaks no rule and says that the body is chunked, and what is behind it is no chunked body
pub record HasBadChunks (bytes : List ℕ) : Type 0 where
  pub head : ResponseHead
  pub rest : List ℕ
  pub begins : BeginsWith bytes head rest
  pub faultless : fault_in head rest ≡ None
  pub chunked : is_plain (named head.fields) ≡ false
  pub broken : HasNoChunks rest

-- which rule bytes that are not too long break first; want of memory is none
abbrev pub Refuses : List ℕ → ReplyError → Type 0
Refuses bytes Head = HasNoHead bytes
Refuses bytes Chunk = HasBadChunks bytes
Refuses bytes Memory = ⊥
Refuses bytes fault = HasFault bytes fault

-- what the bytes answer: their body, or the first rule that they break
abbrev pub Replies : List ℕ → Result (List ℕ) ReplyError → Type 0
Replies bytes (Err TooLong) = 67108864 < length bytes
Replies bytes (Err fault) = (length bytes ≤ 67108864) × Refuses bytes fault
Replies bytes (Ok body) = (length bytes ≤ 67108864) × IsReply bytes body
