-- An input asks one thing alone.
use Rattle.std.proofs.Common.{◌≡◌, ◌∙◌, ℕ, Bool, true, false, cond, List, [], ◌++◌, length, map, take, refl, sym, ap, subst, arith, Option, Some, None, Ok, Err, inl, inr, append_assoc}
use Rattle.std.specs.Prelude.{Result, IfOk, codes, bytes_eq}
use Rattle.std.proofs.Math.Seq.{take-length, take-append_seam}
use Rattle.std.proofs.lemmas.List.{length-take, take-append-drop}
use Rattle.httparse.specs.declared.spans.HeaderSpan.{HeaderSpan}
use Rattle.httparse.specs.declared.spans.RequestSpans.{RequestSpans}
use Rattle.httparse.specs.Grammar.{RequestHead, ReadsRequest}
use Rattle.httparse.specs.Spans.{span_bytes, header_bytes}
use Rattle.httparse.proofs.GrammarLemmas.{request_unique, ReadsRequest-append}
use Rattle.fx_http.specs.Answers.{GivesAsked, IsOrLost, IsRestWithin}
use Rattle.fx_http.specs.Fields.{named}
use Rattle.fx_http.specs.Forms.{query_part}
use Rattle.fx_http.specs.Requests.{stated_length, post_fault, get_answer, body_answer, post_answer, parts_answer, answer_of, body_length, length_behind, AsksByHead, Asks, IsRequest, TakesOfRequest}
use Rattle.fx_http.specs.RequestHeads.{IsWholeHead, IsHeadless, IsRequestSpans, AsksBehind, IsBodyTaken, IsBodyBehind, IsPartBehind}
use Rattle.fx_http.specs.declared.read_requests.RequestError.{RequestError}
use Rattle.fx_http.specs.declared.read_requests.RequestError.TheVariants.{Fault, Malformed, Method, Memory}

by_one_head : (input : List ℕ) (a b : Result (List ℕ) RequestError) → AsksByHead input a → AsksByHead input b → a ≡ b
by_one_head input a b x y =
    let same = request_unique input x.head y.head x.rest y.rest x.begins.reads y.begins.reads in
    sym x.answers ∙ ap (λ (h : RequestHead). answer_of h x.rest) same.0 ∙ ap (answer_of y.head) same.1 ∙ y.answers

pub asks_one : (input : List ℕ) (a b : Result (List ℕ) RequestError) → Asks input a → Asks input b → a ≡ b
asks_one input a b (inl x) (inl y) = by_one_head input a b x y
asks_one input a b (inl x) (inr y) = absurd (y.0 x.head x.rest x.begins)
asks_one input a b (inr x) (inl y) = absurd (x.0 y.head y.rest y.begins)
asks_one input a b (inr x) (inr y) = x.1 ∙ sym y.1

-- ---- a request, and what is behind it

-- where the body is whole, what is behind it doesn't matter
pub parts_whole : (method : List ℕ) (fields : List (List ℕ × List ℕ)) (query body rest : List ℕ) → length body ≡ body_length method fields
    → parts_answer method fields query (body ++ rest) ≡ parts_answer method fields query body
parts_whole method fields query body rest whole = by (bytes_eq method (codes "GET")) (bytes_eq method (codes "POST")) (post_fault fields) whole
  where
    front : (n : ℕ) (a b : List ℕ) → length a ≡ n → take n (a ++ b) ≡ a
    front n a b e = ap (λ (k : ℕ). take k (a ++ b)) (sym e) ∙ take-append_seam a b

    same : length body ≡ stated_length fields → body_answer fields query (take (stated_length fields) (body ++ rest)) ≡ body_answer fields query (take (stated_length fields) body)
    same e = ap (body_answer fields query) (front (stated_length fields) body rest e ∙ sym (ap (λ (k : ℕ). take k body) (sym e) ∙ take-length body))

    by : (get post : Bool) (fault : Option RequestError) → length body ≡ cond get 0 (stated_length fields)
        → cond get (get_answer query) (cond post (post_answer fault fields query (body ++ rest)) (Err Method))
        ≡ cond get (get_answer query) (cond post (post_answer fault fields query body) (Err Method))
    by true post fault e = refl
    by false false fault e = refl
    by false true (Some f) e = refl
    by false true None e = same e

body_whole : (head : RequestHead) (body rest : List ℕ) → length body ≡ body_length head.method (named head.fields) → answer_of head (body ++ rest) ≡ answer_of head body
body_whole head body rest whole = parts_whole head.method (named head.fields) (query_part head.target) body rest whole

-- an input that begins with a request asks its text
pub request_asks : (bytes rest text : List ℕ) → IsRequest bytes text → Asks (bytes ++ rest) (Ok text)
request_asks bytes rest text r =
    inl (record {
      head = r.head;
      rest = r.body ++ rest;
      begins = record {
        reads = ReadsRequest-append bytes r.head r.body rest r.begins.reads;
        near = r.begins.near;
        few = r.begins.few;
      };
      answers = body_whole r.head r.body rest r.whole ∙ r.answers;
    })

-- a whole request asks its text
pub request_asks_text : (bytes text : List ℕ) → IsRequest bytes text → Asks bytes (Ok text)
request_asks_text bytes text r =
    inl (record { head = r.head; rest = r.body; begins = r.begins; answers = r.answers })

-- a request has one text
pub text_unique : (bytes s t : List ℕ) → IsRequest bytes s → IsRequest bytes t → s ≡ t
text_unique bytes s t x y =
    let same : Ok s ≡ Ok t = asks_one bytes (Ok s) (Ok t) (request_asks_text bytes s x) (request_asks_text bytes t y) in
    cc

-- ---- what was answered

-- what was given is what the input asks, unless memory ran out or a read failed
pub only_answer : (input : List ℕ) (r : Result (List ℕ) RequestError) → GivesAsked r (Asks input) → (answer : Result (List ℕ) RequestError) → Asks input answer → IsOrLost r answer
only_answer input (Ok text) h answer k = asks_one input (Ok text) answer h k
only_answer input (Err Memory) h answer k = tt
only_answer input (Err Fault) h answer k = tt
only_answer input (Err error) h answer k = asks_one input (Err error) answer h k

pub gives_as : (r : Result (List ℕ) RequestError) (P Q : Result (List ℕ) RequestError → Type 0) → ((a : Result (List ℕ) RequestError) → P a → Q a) → GivesAsked r P → GivesAsked r Q
gives_as (Ok text) P Q f h = f (Ok text) h
gives_as (Err Memory) P Q f h = tt
gives_as (Err Fault) P Q f h = tt
gives_as (Err error) P Q f h = f (Err error) h

pub gives : (r : Result (List ℕ) RequestError) (P : Result (List ℕ) RequestError → Type 0) → P r → GivesAsked r P
gives (Ok text) P h = h
gives (Err Memory) P h = tt
gives (Err Fault) P h = tt
gives (Err error) P h = h

pub ok_as : (r : Result (List ℕ) RequestError) (P Q : List ℕ → Type 0) → ((text : List ℕ) → P text → Q text) → IfOk r P → IfOk r Q
ok_as (Ok text) P Q f h = f text h
ok_as (Err error) P Q f h = tt

-- P and Q of a text give R of it
pub ok_both : (r : Result (List ℕ) RequestError) (P : Result (List ℕ) RequestError → Type 0) (Q R : List ℕ → Type 0)
    → ((text : List ℕ) → P (Ok text) → Q text → R text) → GivesAsked r P → IfOk r Q → IfOk r R
ok_both (Ok text) P Q R f h k = f text h k
ok_both (Err error) P Q R f h k = tt

-- without a head
pub gives_headless : (input : List ℕ) (e : RequestError) → IsHeadless input e → GivesAsked (Err e) (Asks input)
gives_headless input Malformed h = inr (h, refl)
gives_headless input Memory h = tt
gives_headless input Fault h = tt
gives_headless input error h = absurd h

-- ---- by the offsets of a head

-- the head that the offsets are of is the only one
module _ (front : List ℕ) (headers : List HeaderSpan) (spans : RequestSpans) (s : IsRequestSpans front headers spans)
    (method query : List ℕ) (fields : List (List ℕ × List ℕ))
    (method_is : method ≡ span_bytes front spans.method) (query_is : query ≡ query_part (span_bytes front spans.path))
    (fields_are : fields ≡ map (header_bytes front) (take spans.headers headers)) where
  same_head : (head : RequestHead) → ReadsRequest front head [] → s.head ≡ head
  same_head head x = (request_unique front s.head head [] [] s.reads x).0

  pub asks_behind : (rest : List ℕ) (answer : Result (List ℕ) RequestError) → parts_answer method fields query rest ≡ answer → AsksBehind front rest answer
  asks_behind rest answer h head x =
      let e : answer_of s.head rest ≡ parts_answer method fields query rest = rw (method_is, query_is, fields_are, s.method, s.path, s.fields) refl in
      ap (λ (k : RequestHead). answer_of k rest) (sym (same_head head x)) ∙ e ∙ h

  pub body_behind : (before after : List ℕ) → IsBodyTaken (body_length method fields) before after → IsBodyBehind front before after
  body_behind before after h head x =
      let e : body_length method fields ≡ body_length s.head.method (named s.head.fields) = rw (method_is, fields_are, s.method, s.fields) refl in
      let f : body_length s.head.method (named s.head.fields) ≡ body_length head.method (named head.fields) = ap (λ (k : RequestHead). body_length k.method (named k.fields)) (same_head head x) in
      subst (λ (n : ℕ). IsBodyTaken n before after) (e ∙ f) h

  pub part_behind : (before after : List ℕ) → IsRestWithin (length_behind method fields) before after → IsPartBehind front before after
  part_behind before after h head x =
      let e : length_behind method fields ≡ length_behind s.head.method (named s.head.fields) = rw (method_is, fields_are, s.method, s.fields) refl in
      let f : length_behind s.head.method (named s.head.fields) ≡ length_behind head.method (named head.fields) = ap (λ (k : RequestHead). length_behind k.method (named k.fields)) (same_head head x) in
      subst (λ (n : ℕ). IsRestWithin n before after) (e ∙ f) h

-- ---- the whole

-- a whole head was taken, and at most its body behind it
pub takes_behind : (input front rest after : List ℕ) → IsWholeHead front → input ≡ front ++ rest → IsPartBehind front rest after → TakesOfRequest input after
takes_behind input front rest after w e h =
    let reads : ReadsRequest input w.head rest = subst (λ (t : List ℕ). ReadsRequest t w.head rest) (sym e) (ReadsRequest-append front w.head [] rest w.reads) in
    inr (record { head = w.head; rest = rest; begins = record { reads = reads; near = w.near; few = w.few }; within = h w.head w.reads })

-- what a whole head and what is behind it ask, the input asks
pub asks_whole : (input front rest : List ℕ) → IsWholeHead front → input ≡ front ++ rest → (answer : Result (List ℕ) RequestError) → AsksBehind front rest answer → Asks input answer
asks_whole input front rest w e answer h =
    let reads : ReadsRequest input w.head rest = subst (λ (t : List ℕ). ReadsRequest t w.head rest) (sym e) (ReadsRequest-append front w.head [] rest w.reads) in
    inl (record { head = w.head; rest = rest; begins = record { reads = reads; near = w.near; few = w.few }; answers = h w.head w.reads })

-- the head and the body that were taken are a whole request
pub taken_whole : (input front rest after text : List ℕ) → IsWholeHead front → input ≡ front ++ rest → AsksBehind front rest (Ok text) → IsBodyBehind front rest after
    → (bytes : List ℕ) × (input ≡ bytes ++ after) × IsRequest bytes text
taken_whole input front rest after text w e h t =
    let size = body_length w.head.method (named w.head.fields) in
    let taken = t w.head w.reads in
    let body = take size rest in
    let split : rest ≡ body ++ after = sym (take-append-drop size rest) ∙ ap (λ (k : List ℕ). body ++ k) (sym taken.1) in
    let long : length body ≡ size = omega (arith, length-take size rest, taken.0) in (
      front ++ body,
      e ∙ ap (λ (k : List ℕ). front ++ k) split ∙ sym (append_assoc front body after),
      record {
        head = w.head;
        body = body;
        begins = record { reads = ReadsRequest-append front w.head [] body w.reads; near = w.near; few = w.few };
        whole = long;
        answers = sym (body_whole w.head body after long) ∙ ap (answer_of w.head) (sym split) ∙ h w.head w.reads;
      },
    )
