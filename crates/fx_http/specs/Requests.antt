-- A query as an HTTP request (SPARQL 1.1 Protocol, 2.1.3; RFC 9112).
use Rattle.std.specs.Prelude.{◌≡◌, ℕ, ◌≤◌, ◌⊎◌, Bool, List, [], ◌∷◌, ◌++◌, length, take, codes, Option, Some, None, Result, Ok, Err, if◌then◌else◌, ◌==◌, ◌&&◌, ◌||◌, not, nat_lt, bytes_eq}
use Rattle.std.specs.List.{list_all}
use Rattle.std.specs.Fmt.{decimal}
use Rattle.std.specs.Str.{str_eq_ignore_ascii_case}
use Rattle.std.specs.Str.Parse.{digits_value}
use Rattle.httparse.specs.Grammar.{RequestHead, ReadsRequest, print_request}
use Rattle.fx_outside.specs.Endpoints.{EndpointParts}
use Rattle.fx_http.specs.Answers.{IsRestWithin}
use Rattle.fx_http.specs.Fields.{named, values, only, is_missing, is_repeated, has_one, media_type, is_number}
use Rattle.fx_http.specs.Forms.{query_part, form_values, names_dataset}
use Rattle.fx_http.specs.declared.read_requests.RequestError.{RequestError}
use Rattle.fx_http.specs.declared.read_requests.RequestError.TheVariants.{Fault, Malformed, Method, MediaType, NoQuery, TwoQueries, Dataset, NoLength, TooLong, Ended, Memory}

-- a line, with CR LF
abbrev pub line : List ℕ → List ℕ
line text = text ++ 13 ∷ 10 ∷ []

-- the host, and the port where it is not 80
abbrev pub authority : List ℕ → ℕ → List ℕ
authority host port = if port == 80 then host else host ++ 58 ∷ decimal port

-- the request by which an endpoint is asked a query's text
abbrev pub request_of : EndpointParts → List ℕ → List ℕ
request_of at text =
    line (codes "POST " ++ at.target ++ codes " HTTP/1.1")
    ++ line (codes "Host: " ++ authority at.host at.port)
    ++ line (codes "Content-Type: application/sparql-query")
    ++ line (codes "Accept: application/sparql-results+json")
    ++ line (codes "Accept-Encoding: identity")
    ++ line (codes "Connection: close")
    ++ line (codes "Content-Length: " ++ decimal (length text))
    ++ line []
    ++ text

abbrev pub is_query_type : List ℕ → Bool
is_query_type value = str_eq_ignore_ascii_case (media_type value) (codes "application/sparql-query")

-- a length in 1 to 19 digits, which is so many bytes
abbrev pub is_length : ℕ → List ℕ → Bool
is_length size value = is_number value && digits_value 10 value == size

-- ---- what a head says of the body behind it

abbrev pub is_form_type : List ℕ → Bool
is_form_type value = str_eq_ignore_ascii_case (media_type value) (codes "application/x-www-form-urlencoded")

-- the body is the query's text
abbrev pub is_query : List (List ℕ × List ℕ) → Bool
is_query fields = has_one (codes "content-type") is_query_type fields

-- the body is a form
abbrev pub is_form : List (List ℕ × List ℕ) → Bool
is_form fields = has_one (codes "content-type") is_form_type fields

-- two lengths or two media types, a length beside a coding, or a length that isn't 1 to 19 digits
abbrev pub is_malformed : List (List ℕ × List ℕ) → Bool
is_malformed fields =
    is_repeated (codes "content-length") fields
    || is_repeated (codes "content-type") fields
    || (not (is_missing (codes "content-length") fields) && not (is_missing (codes "transfer-encoding") fields))
    || not (list_all is_number (values (codes "content-length") fields))

abbrev pub length_in : Option (List ℕ) → ℕ
length_in None = 0
length_in (Some value) = if is_number value then digits_value 10 value else 0

-- how many bytes the one Content-Length gives the body; 0 where there isn't one, or it is no number
abbrev pub stated_length : List (List ℕ × List ℕ) → ℕ
stated_length fields = length_in (only (values (codes "content-length") fields))

-- the first rule that the fields of a POST break
abbrev pub post_fault : List (List ℕ × List ℕ) → Option RequestError
post_fault fields =
    if is_malformed fields then Some Malformed
    else if is_missing (codes "content-length") fields then Some NoLength
    else if nat_lt 67108864 (stated_length fields) then Some TooLong
    else if not (is_query fields || is_form fields) then Some MediaType
    else None

-- ---- what a request asks

-- by the values of the pairs that are named `query`
abbrev pub only_query : List (List ℕ) → Result (List ℕ) RequestError
only_query [] = Err NoQuery
only_query (v ∷ []) = Ok v
only_query (v ∷ w ∷ vs) = Err TwoQueries

-- a GET, by the query part of its target
abbrev pub get_answer : List ℕ → Result (List ℕ) RequestError
get_answer query = if names_dataset query then Err Dataset else only_query (form_values (codes "query") query)

-- a POST of a form, by the query part of its target and the form
abbrev pub form_answer : List ℕ → List ℕ → Result (List ℕ) RequestError
form_answer query form = if names_dataset query || names_dataset form then Err Dataset else only_query (form_values (codes "query") form)

-- a POST of a query's text, by the query part of its target and the text
abbrev pub text_answer : List ℕ → List ℕ → Result (List ℕ) RequestError
text_answer query text = if names_dataset query then Err Dataset else Ok text

-- a POST whose body has come as far as it does
abbrev pub body_answer : List (List ℕ × List ℕ) → List ℕ → List ℕ → Result (List ℕ) RequestError
body_answer fields query body =
    if nat_lt (length body) (stated_length fields) then Err Ended
    else if is_form fields then form_answer query body
    else text_answer query body

-- a POST, by the first rule that its fields break, and by what is behind its head
abbrev pub post_answer : Option RequestError → List (List ℕ × List ℕ) → List ℕ → List ℕ → Result (List ℕ) RequestError
post_answer (Some fault) fields query rest = Err fault
post_answer None fields query rest = body_answer fields query (take (stated_length fields) rest)

-- a method, fields, the query part of the target, and what is behind the head
abbrev pub parts_answer : List ℕ → List (List ℕ × List ℕ) → List ℕ → List ℕ → Result (List ℕ) RequestError
parts_answer method fields query rest =
    if bytes_eq method (codes "GET") then get_answer query
    else if bytes_eq method (codes "POST") then post_answer (post_fault fields) fields query rest
    else Err Method

-- the text that a head and what is behind it ask, or the first rule that they break
abbrev pub answer_of : RequestHead → List ℕ → Result (List ℕ) RequestError
answer_of head rest = parts_answer head.method (named head.fields) (query_part head.target) rest

-- the bytes begin with the head, in their first 65,536 and with at most 100 fields, and the rest is behind it
pub record BeginsWithRequest (bytes : List ℕ) (head : RequestHead) (rest : List ℕ) : Type 0 where
  pub reads : ReadsRequest bytes head rest
  pub near : length (print_request head) ≤ 65536
  pub few : length head.fields ≤ 100

-- the bytes begin with no head of a request
abbrev pub HasNoRequestHead : List ℕ → Type 0
HasNoRequestHead bytes = (head : RequestHead) (rest : List ℕ) → ¬ BeginsWithRequest bytes head rest

-- the input begins with a head, and asks this by it
pub record AsksByHead (input : List ℕ) (answer : Result (List ℕ) RequestError) : Type 0 where
  pub head : RequestHead
  pub rest : List ℕ
  pub begins : BeginsWithRequest input head rest
  pub answers : answer_of head rest ≡ answer

-- what an input asks: a text, or the first rule that it breaks; what is behind the request doesn't matter
abbrev pub Asks : List ℕ → Result (List ℕ) RequestError → Type 0
Asks input answer = AsksByHead input answer ⊎ (HasNoRequestHead input × (answer ≡ Err Malformed))

-- how many bytes the body has; a GET has none
abbrev pub body_length : List ℕ → List (List ℕ × List ℕ) → ℕ
body_length method fields = if bytes_eq method (codes "GET") then 0 else stated_length fields

-- how many bytes are behind the head of a POST, of which nothing is looked at where its fields break a rule
abbrev pub post_length : Option RequestError → List (List ℕ × List ℕ) → ℕ
post_length (Some _) fields = 0
post_length None fields = stated_length fields

-- how many bytes behind a head are of its request at most, whether or not it is refused
abbrev pub length_behind : List ℕ → List (List ℕ × List ℕ) → ℕ
length_behind method fields =
    if bytes_eq method (codes "GET") then 0
    else if bytes_eq method (codes "POST") then post_length (post_fault fields) fields
    else 0

-- of an input at most 65,536 bytes were taken, and none behind the head of its request
pub record TakesOfHead (before after : List ℕ) : Type 0 where
  pub bytes : List ℕ
  pub taken : before ≡ bytes ++ after
  pub near : length bytes ≤ 65536
  pub within : (head : RequestHead) (rest : List ℕ) → BeginsWithRequest before head rest → length bytes ≤ length (print_request head)

-- of an input the head of its request was taken, and nothing behind the body
pub record TakesOfBody (before after : List ℕ) : Type 0 where
  pub head : RequestHead
  pub rest : List ℕ
  pub begins : BeginsWithRequest before head rest
  pub within : IsRestWithin (length_behind head.method (named head.fields)) rest after

-- nothing behind its request was taken of an input
abbrev pub TakesOfRequest : List ℕ → List ℕ → Type 0
TakesOfRequest before after = TakesOfHead before after ⊎ TakesOfBody before after

-- the bytes are one whole request that breaks no rule, with nothing behind it, and ask the text
pub record IsRequest (bytes text : List ℕ) : Type 0 where
  pub head : RequestHead
  pub body : List ℕ
  pub begins : BeginsWithRequest bytes head body
  pub whole : length body ≡ body_length head.method (named head.fields)
  pub answers : answer_of head body ≡ Ok text

-- ---- refusals

-- the status that a request is refused with (RFC 9110, 15.5); a fault of reading and want of memory have none
abbrev pub status_of : RequestError → Option ℕ
status_of Fault = None
status_of Malformed = Some 400
status_of Method = Some 405
status_of MediaType = Some 415
status_of NoQuery = Some 400
status_of TwoQueries = Some 400
status_of Dataset = Some 400
status_of NoLength = Some 411
status_of TooLong = Some 413
status_of Ended = Some 400
status_of Memory = None

abbrev pub request_error_name : RequestError → List ℕ
request_error_name Fault = codes "Fault"
request_error_name Malformed = codes "Malformed"
request_error_name Method = codes "Method"
request_error_name MediaType = codes "MediaType"
request_error_name NoQuery = codes "NoQuery"
request_error_name TwoQueries = codes "TwoQueries"
request_error_name Dataset = codes "Dataset"
request_error_name NoLength = codes "NoLength"
request_error_name TooLong = codes "TooLong"
request_error_name Ended = codes "Ended"
request_error_name Memory = codes "Memory"
