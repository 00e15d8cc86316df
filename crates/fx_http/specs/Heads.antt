-- How a reply is read: its head by offsets, and then what the head answers for the bytes behind it.
use Rattle.std.specs.Prelude.{◌≡◌, ℕ, ◌≤◌, Bool, true, false, List, length, map, take, drop, All, Result, Ok, Err, Option, Some, None}
use Rattle.httparse.specs.declared.spans.HeaderSpan.{HeaderSpan}
use Rattle.httparse.specs.declared.spans.ResponseSpans.{ResponseSpans}
use Rattle.httparse.specs.Grammar.{ResponseHead, ReadsResponse, print_response, status_code}
use Rattle.httparse.specs.Spans.{IsHeaderWithin, header_bytes}
use Rattle.fx_http.specs.Fields.{named}
use Rattle.fx_http.specs.Chunks.{IsChunked, HasNoChunks}
use Rattle.fx_http.specs.Replies.{fault_of, is_plain}
use Rattle.fx_http.specs.declared.replies.ReplyError.{ReplyError}
use Rattle.fx_http.specs.declared.replies.ReplyError.TheVariants.{Chunk}

-- the offsets are those of a head that the bytes begin with
pub record IsHeadOf (front : List ℕ) (headers : List HeaderSpan) (spans : ResponseSpans) : Type 0 where
  pub head : ResponseHead
  pub reads : ReadsResponse front head (drop spans.len front)
  pub len : spans.len ≡ length (print_response head)
  pub within : spans.len ≤ length front
  pub code : spans.code ≡ status_code head
  pub count : spans.headers ≤ length headers
  pub few : length head.fields ≤ length headers
  pub headers_within : All (IsHeaderWithin (length front)) (take spans.headers headers)
  pub fields : map (header_bytes front) (take spans.headers headers) ≡ named head.fields

-- by the rule that the head breaks, and by whether the body is plain
abbrev pub Follows : Option ReplyError → Bool → List ℕ → Result (List ℕ) ReplyError → Type 0
Follows (Some fault) plain rest answer = answer ≡ Err fault
Follows None true rest answer = answer ≡ Ok rest
Follows None false rest (Ok body) = IsChunked rest body
Follows None false rest (Err fault) = (fault ≡ Chunk) × HasNoChunks rest

abbrev pub FollowsHead : ℕ → List (List ℕ × List ℕ) → List ℕ → Result (List ℕ) ReplyError → Type 0
FollowsHead code fields rest = Follows (fault_of code fields (length rest)) (is_plain fields) rest
