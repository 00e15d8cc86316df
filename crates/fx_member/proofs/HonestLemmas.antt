-- A reply that means the answer of the query that a request asks is honest.
use Rattle.std.proofs.Common.{◌≡◌, ◌∙◌, ap, sym, subst, refl, ℕ, List, [], ◌∷◌, Some, None, Ok, Err}
use Rattle.std.specs.Prelude.{Result, IfOk}
use Rattle.fx_terms.specs.declared.triples.Triple.{Triple}
use Rattle.fx_algebra.specs.Answers.{answer_alone}
use Rattle.fx_algebra.specs.Occurrences.{Occurrence, services}
use Rattle.fx_algebra.specs.declared.answers.Answer.{Answer}
use Rattle.fx_algebra.specs.declared.queries.Query.{Query}
use Rattle.fx_http.specs.Requests.{Asks, status_of, request_error_name}
use Rattle.fx_http.specs.Replies.{IsReply}
use Rattle.fx_http.specs.WrittenReplies.{reply_of}
use Rattle.fx_http.specs.Answers.{GivesAsked}
use Rattle.fx_http.specs.declared.read_requests.RequestError.{RequestError}
use Rattle.fx_http.specs.declared.read_requests.RequestError.TheVariants as kind
use Rattle.fx_http.proofs.ReadRequestLaws.{asks_one, request_asks_text}
use Rattle.fx_results.specs.Documents.{document}
use Rattle.fx_results.specs.Meanings.{Denotes}
use Rattle.fx_grammar.specs.Accepted.{Accepted}
use Rattle.fx_wire.specs.Honest.{IsHonest, Replies}
use Rattle.fx_evaluation.specs.FirstHere.{first_up, first_here}
use Rattle.fx_member.specs.GraphWires.{RepliesTo}
use Rattle.fx_member.specs.Served.{Told, told, own_line, by_services, query_told, IsTextToldBy, IsToldBy, asked, refused, IsServedBy, IsLaidOut}

no_service : (os : List Occurrence) (place : ℕ) → os ≡ [] → first_up [] 0 os ≡ Some place → ⊥
no_service [] place e h = cc
no_service (o ∷ os) place e h = cc

pub ok_as : {X E : Type 0} (r : Result X E) {P Q : X → Type 0} → ((x : X) → P x → Q x) → IfOk r P → IfOk r Q
ok_as r {P} {Q} f h = elim r as (λ v. IfOk v P → IfOk v Q) [ Ok b ↦ λ k. f b k | Err e ↦ λ k. tt ] h

-- ---- what is told

by_none : (os : List Occurrence) (q : Query) (graph : List Triple) → first_up [] 0 os ≡ None → by_services os q graph ≡ told 200 (document (answer_alone q graph))
by_none [] q graph h = refl
by_none (o ∷ os) q graph h = cc

-- no occurrence would have to be asked
pub without_service : (q : Query) (graph : List Triple) → first_here q [] ≡ None → query_told q graph ≡ told 200 (document (answer_alone q graph))
without_service q graph h = by_none (services q) q graph h

-- a refusal with a status is what was asked
pub asks_refusal : (input : List ℕ) (error : RequestError) (code : ℕ) → status_of error ≡ Some code → GivesAsked (Err error) (Asks input) → Asks input (Err error)
asks_refusal input kind.Fault code s h = cc
asks_refusal input kind.Memory code s h = cc
asks_refusal input kind.Malformed code s h = h
asks_refusal input kind.Method code s h = h
asks_refusal input kind.MediaType code s h = h
asks_refusal input kind.NoQuery code s h = h
asks_refusal input kind.TwoQueries code s h = h
asks_refusal input kind.Dataset code s h = h
asks_refusal input kind.NoLength code s h = h
asks_refusal input kind.TooLong code s h = h
asks_refusal input kind.Ended code s h = h

module _ (Tells : Query → Told → Type 0) (input : List ℕ) where
  pub served_text : (text : List ℕ) (t : Told) (status : ℕ) (reply : List ℕ) → Asks input (Ok text) → IsTextToldBy Tells text t → IsLaidOut t status reply → IsServedBy Tells input status reply
  served_text text t status reply a k l = record {
    body = t.body;
    told = subst (λ (s : ℕ). IsToldBy Tells input (told s t.body)) (sym l.is_status) (asked text a k);
    laid_out = l.is_reply ∙ ap (λ s. reply_of s t.body) (sym l.is_status);
  }

  pub served_refusal : (error : RequestError) (code status : ℕ) (reply : List ℕ) → Asks input (Err error) → status_of error ≡ Some code → IsLaidOut (told code (own_line (request_error_name error))) status reply → IsServedBy Tells input status reply
  served_refusal error code status reply a s l = record {
    body = own_line (request_error_name error);
    told = subst (λ (n : ℕ). IsToldBy Tells input (told n (own_line (request_error_name error)))) (sym l.is_status) (refused error code a s refl);
    laid_out = l.is_reply ∙ ap (λ n. reply_of n (own_line (request_error_name error))) (sym l.is_status);
  }

-- ---- what a request asks

abbrev text_in : Result (List ℕ) RequestError → List ℕ
text_in (Ok text) = text
text_in (Err error) = []

-- the request asks this text alone
pub honest_text : (graph : List Triple) (request text reply : List ℕ) → Asks request (Ok text) → RepliesTo graph text reply → IsHonest graph request reply
honest_text graph request text reply a h = λ other q whole short accepted none.
    let same : other ≡ text = ap text_in (asks_one request (Ok other) (Ok text) (request_asks_text request other whole) a) in
    h q (subst (λ (t : List ℕ). Accepted t q) same accepted) none

-- the request asks no text
pub honest_refusal : (graph : List Triple) (request reply : List ℕ) (error : RequestError) → Asks request (Err error) → IsHonest graph request reply
honest_refusal graph request reply error a = λ other q whole short accepted none.
    let clash : Ok other ≡ Err error = asks_one request (Ok other) (Err error) (request_asks_text request other whole) a in
    cc

-- ---- what a reply means

module _ {X E : Type 0} (bytes : X → List ℕ) (r : Result X E) where
  -- a document in a reply
  pub replied : (document : List ℕ) (answer : Answer) → Denotes document answer → IfOk r (λ x. IsReply (bytes x) document) → IfOk r (λ x. Replies (bytes x) answer)
  replied document answer d h =
      elim r as (λ v. IfOk v (λ x. IsReply (bytes x) document) → IfOk v (λ x. Replies (bytes x) answer))
      [ Ok b ↦ λ k. record { body = document; replied = k; denotes = d } | Err e ↦ λ k. tt ] h

  module _ (graph : List Triple) where
    -- the answer is that of the query, whether it has a SERVICE or not
    pub answered : (q : Query) (answer : Answer) → answer ≡ answer_alone q graph → IfOk r (λ x. Replies (bytes x) answer) → IfOk r (λ x. services q ≡ [] → Replies (bytes x) (answer_alone q graph))
    answered q answer e h =
        elim r as (λ v. IfOk v (λ x. Replies (bytes x) answer) → IfOk v (λ x. services q ≡ [] → Replies (bytes x) (answer_alone q graph)))
        [ Ok b ↦ λ k none. subst (Replies (bytes b)) e k | Err e ↦ λ k. tt ] h

    -- the query has a SERVICE
    pub not_alone : (q : Query) (place : ℕ) → first_here q [] ≡ Some place → IfOk r (λ x. services q ≡ [] → Replies (bytes x) (answer_alone q graph))
    not_alone q place h = elim r as (λ v. IfOk v (λ x. services q ≡ [] → Replies (bytes x) (answer_alone q graph))) [ Ok b ↦ λ none. absurd (no_service (services q) place none h) | Err e ↦ tt ]

    -- the text is this query alone
    pub one_query : (text : List ℕ) (q : Query) → ((p : Query) → Accepted text p → q ≡ p) → IfOk r (λ x. services q ≡ [] → Replies (bytes x) (answer_alone q graph)) → IfOk r (λ x. RepliesTo graph text (bytes x))
    one_query text q only h = elim r as (λ v. IfOk v (λ x. services q ≡ [] → Replies (bytes x) (answer_alone q graph)) → IfOk v (λ x. RepliesTo graph text (bytes x))) [ Ok b ↦ λ k p a. subst (λ (v : Query). services v ≡ [] → Replies (bytes b) (answer_alone v graph)) (only p a) k | Err e ↦ λ k. tt ] h

    -- the text is no query
    pub no_query : (text : List ℕ) → ((p : Query) → Accepted text p → ⊥) → IfOk r (λ x. RepliesTo graph text (bytes x))
    no_query text only = elim r as (λ v. IfOk v (λ x. RepliesTo graph text (bytes x))) [ Ok b ↦ λ p a. absurd (only p a) | Err e ↦ tt ]
