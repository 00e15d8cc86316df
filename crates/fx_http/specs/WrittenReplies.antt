-- A reply of an endpoint, as it is written (RFC 9112; SPARQL 1.1 Protocol, 2.1.5 and 2.1.7).
use Rattle.std.specs.Prelude.{ℕ, Bool, List, [], ◌∷◌, ◌++◌, length, codes, if◌then◌else◌, ◌==◌}
use Rattle.std.specs.List.{list_any}
use Rattle.std.specs.Fmt.{decimal}
use Rattle.fx_http.specs.Requests.{line}

-- a status that a reply is written with (RFC 9110, 15)
abbrev pub is_written_status : ℕ → Bool
is_written_status status = list_any (λ s. s == status) (200 ∷ 400 ∷ 405 ∷ 411 ∷ 413 ∷ 415 ∷ 502 ∷ [])

-- what the status is called
abbrev pub reason_of : ℕ → List ℕ
reason_of status =
    if status == 200 then codes "OK"
    else if status == 400 then codes "Bad Request"
    else if status == 405 then codes "Method Not Allowed"
    else if status == 411 then codes "Length Required"
    else if status == 413 then codes "Content Too Large"
    else if status == 415 then codes "Unsupported Media Type"
    else codes "Bad Gateway"

-- the methods that are allowed, where another was used
abbrev pub allowed : ℕ → List ℕ
allowed status = if status == 405 then line (codes "Allow: GET, POST") else []

-- results in JSON, or the text of a refusal
abbrev pub type_of : ℕ → List ℕ
type_of status = if status == 200 then codes "application/sparql-results+json" else codes "text/plain; charset=utf-8"

-- the lines of a reply in front of a body of so many bytes
abbrev pub reply_head : ℕ → ℕ → List ℕ
reply_head status size =
    line (codes "HTTP/1.1 " ++ decimal status ++ codes " " ++ reason_of status)
    ++ allowed status
    ++ line (codes "Content-Type: " ++ type_of status)
    ++ line (codes "Content-Length: " ++ decimal size)
    ++ line (codes "Connection: close")
    ++ line []

-- the reply with a status and a body
abbrev pub reply_of : ℕ → List ℕ → List ℕ
reply_of status body = reply_head status (length body) ++ body
