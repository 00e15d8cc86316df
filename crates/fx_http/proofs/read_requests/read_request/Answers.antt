use Rattle.std.proofs.Common.{◌≡◌, ◌∙◌, ℕ, List, ◌++◌, sym, ap, subst, arith}
use Rattle.fx_http.specs.RequestHeads.{IsWholeHead, AsksBehind, IsBodyBehind}
use Rattle.fx_http.specs.Requests.{Asks, IsRequest}
use Rattle.fx_http.proofs.ReadingLemmas.{rest_then, rest_within_more}
use Rattle.fx_http.proofs.ReadRequestLaws.{only_answer, gives_as, asks_whole, taken_whole, takes_behind, ok_both}
use Rattle.fx_http.proofs.read_requests.read_request.Goals as goal

pub returns-clause-found : goal.returns-clause-found
returns-clause-found g c t =
    let same : c.deref.result.now ≡ c.in_ok-front.front.items = c.deref.ensures.value in
    let rest : List ℕ = g.S.Ends.left c.read_head.new.source in
    gives_as c.read_behind.result (AsksBehind c.deref.result.now rest) (Asks (g.S.Ends.left c.args.source.now))
    (asks_whole (g.S.Ends.left c.args.source.now) c.deref.result.now rest
    (subst IsWholeHead (sym same) c.in_ok-front.ensures.head)
    (c.in_ok-front.ensures.taken t ∙ ap (λ (bs : List ℕ). bs ++ rest) (sym same)))
    (c.read_behind.ensures.found t)

pub returns-clause-only : goal.returns-clause-only
returns-clause-only g c t = only_answer (g.S.Ends.left c.args.source.now) c.read_behind.result (returns-clause-found g c t)

pub returns-clause-taken : goal.returns-clause-taken
returns-clause-taken g c t =
    let same : c.deref.result.now ≡ c.in_ok-front.front.items = c.deref.ensures.value in
    let rest : List ℕ = g.S.Ends.left c.read_head.new.source in
    let after : List ℕ = g.S.Ends.left c.read_behind.new.source in
    ok_both c.read_behind.result (AsksBehind c.deref.result.now rest) (λ text. IsBodyBehind c.deref.result.now rest after)
    (λ text. (bytes : List ℕ) × (g.S.Ends.left c.args.source.now ≡ bytes ++ after) × IsRequest bytes text)
    (λ text h k. taken_whole (g.S.Ends.left c.args.source.now) c.deref.result.now rest after text
    (subst IsWholeHead (sym same) c.in_ok-front.ensures.head)
    (c.in_ok-front.ensures.taken t ∙ ap (λ (bs : List ℕ). bs ++ rest) (sym same)) h k)
    (c.read_behind.ensures.found t) (c.read_behind.ensures.taken t)

pub returns-clause-within : goal.returns-clause-within
returns-clause-within g c t =
    let same : c.deref.result.now ≡ c.in_ok-front.front.items = c.deref.ensures.value in
    let rest : List ℕ = g.S.Ends.left c.read_head.new.source in
    takes_behind (g.S.Ends.left c.args.source.now) c.deref.result.now rest (g.S.Ends.left c.read_behind.new.source)
    (subst IsWholeHead (sym same) c.in_ok-front.ensures.head)
    (c.in_ok-front.ensures.taken t ∙ ap (λ (bs : List ℕ). bs ++ rest) (sym same))
    (c.read_behind.ensures.within t)

pub returns-clause-rest : goal.returns-clause-rest
returns-clause-rest g c t = rest_then 65536 67108864 67174400 _ _ _ (omega arith) (c.in_ok-front.ensures.rest t) (c.read_behind.ensures.rest t)

pub returns-in_err-front-clause-rest : goal.returns-in_err-front-clause-rest
returns-in_err-front-clause-rest g c t = rest_within_more 65536 67174400 _ _ (omega arith) (c.in_err-front.ensures.rest t)
