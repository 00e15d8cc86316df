-- What one reply to the ASK of a probe tells, or why there is no answer.
use Rattle.std.proofs.Common.{◌≡◌, ◌∙◌, ap, sym, subst, refl, ℕ, zero, suc, ◌<◌, ◌≤◌, Bool, true, false, List, [], ◌∷◌, ◌++◌, map, Option, None, Some, All, Contains, IsPermutation, cond, length, ltb, slice_get, inl, inr, ◌⊎◌, arith}
use Rattle.std.specs.List.{AllByRecursion, zip}
use Rattle.std.proofs.lemmas.List.Elements.{All-append, All-contains, All-from_recursion, All-nil, Contains-append_left, Contains-append_right}
use Rattle.std.proofs.lemmas.List.Sorted.{IsPermutation-refl}
use Rattle.std.proofs.lemmas.Slice.Eq.{bytes_eq-Decides}
use Rattle.fx_terms.specs.declared.triples.Triple.{Triple}
use Rattle.fx_terms.proofs.SetLemmas.{Among, contains_from}
use Rattle.fx_outside.specs.Endpoints.{EndpointParts}
use Rattle.fx_algebra.specs.Units.{fits, graph_of}
use Rattle.fx_algebra.specs.declared.answers.Answer.TheVariants.{Truth}
use Rattle.fx_http.specs.declared.replies.ReplyError.TheVariants.{TooLong}
use Rattle.fx_spelling.specs.Printable.{IsTriple}
use Rattle.fx_keys.specs.declared.probes.Probe.{Probe}
use Rattle.fx_sources.specs.Sources.{ask_text}
use Rattle.fx_sources.specs.Sources as source
use Rattle.fx_traffic.specs.Gains.{Tell, TellAll, faults_at}
use Rattle.fx_traffic.specs.Sent.{Sent, Sends}
use Rattle.fx_traffic.specs.Traffic.{AreAsksSent}
use Rattle.fx_traffic.proofs.SentLemmas.{sent_laws}
use Rattle.fx_wire.specs.Exchanges.{Exchange, Seen, exchanged}
use Rattle.fx_wire.specs.Honest.{IsHonest}
use Rattle.fx_pool.specs.Jobs.{AreDone, AreWanted, IsBadReply, IsDone, IsReplyTo, failures_at, is_at, is_failure}
use Rattle.fx_pool.specs.Posting.{IsPosted, exchanges_of}
use Rattle.fx_pool.specs.Reading.{an_ask, HasFault, HasResults}
use Rattle.fx_pool.specs.Runs.{IsHonestOver}
use Rattle.fx_pool.specs.declared.faults.ReplyFault.TheVariants.{Http}
use Rattle.fx_flows.specs.declared.flows.FlowError.{FlowError}
use Rattle.fx_pool.specs.declared.jobs.BadReply.{BadReply}
use Rattle.fx_pool.specs.declared.jobs.JobReply.{JobReply}
use Rattle.fx_pool.specs.declared.jobs.JobReply.TheVariants as reply
use Rattle.fx_pool.specs.declared.posting.Posted.{Posted}
use Rattle.fx_pool.specs.declared.posting.Posted.TheVariants as posted
use Rattle.fx_pool.proofs.AskJobLemmas.{IsReplied, bad_replied, no_table, none_found, too_long, truth_replied}
use Rattle.fx_pool.proofs.FaultLemmas.{long_fault, truth_faultless}
use Rattle.fx_outcomes.specs.AskSteps.{IsForAsk, IsRefusal, job_of}
use Rattle.fx_outcomes.specs.Asks.{HasProbeCause, IsAnsweredBy, IsAskRead, IsBadAsk}
use Rattle.fx_outcomes.proofs.TruthLemmas.{honest_truth, same_truth}
use Rattle.fx_services.proofs.WentLemmas.{long_or_short}
use Rattle.fx_outcomes.specs.Rounds.{ask_for}

-- all of these exchanges are among those
abbrev pub AllAmong : List Exchange → List Exchange → Type 0
AllAmong xs all = (x : Exchange) → Contains xs x → Contains all x

-- the graph of an endpoint is told by its number
pub tell_at : (wires : List Seen) (es : List EndpointParts) (graphs : List (List Triple)) (at : ℕ) (e : EndpointParts) → TellAll wires es graphs → slice_get es at ≡ Some e → Tell wires e.iri (graph_of graphs at)
tell_at wires [] graphs at e h s = cc
tell_at wires (d ∷ es) [] at e h s = absurd h
tell_at wires (d ∷ es) (g ∷ graphs) zero e h s = let same : d ≡ e = cc in subst (λ (x : EndpointParts). Tell wires x.iri g) same h.0
tell_at wires (d ∷ es) (g ∷ graphs) (suc at) e h s = tell_at wires es graphs at e h.1 s

-- ---- one job

module _ (es : List EndpointParts) (p : Probe) (own all : List Exchange) (more : AllAmong own all) where
  abbrev text : List ℕ
  text = ask_text p.key.pattern

  abbrev Came : JobReply → Type 0
  Came r = IsDone es (job_of p) r own

  here : (e : EndpointParts) (P : List ℕ → List ℕ → Type 0) → (k : IsReplied e text own P) → Contains all (exchanged e k.request k.bytes)
  here e P k =
      let x = exchanged e k.request k.bytes in
      more x (subst (λ (v : List Exchange). Contains v x) (sym k.exchanged_so) (contains_from (x ∷ []) x (inl refl)))

  -- a truth value is one exchange's
  pub answered : (truth : Bool) → Came (reply.Truth truth) → IsAnsweredBy es all (p, truth)
  answered truth d =
      let k = truth_replied es p.at text own truth d in
      record { exchange = exchanged d.endpoint k.request k.bytes; among = here d.endpoint (λ request bytes. HasResults bytes (Truth truth)) k; found = d.found; posts = k.posts.exact; told = k.told }

  -- and that is read
  pub read : (ps : List Probe) → Contains ps p → (truth : Bool) → Came (reply.Truth truth) → All (IsAskRead ps) own
  read ps its truth d =
      let k = truth_replied es p.at text own truth d in
      let x = exchanged d.endpoint k.request k.bytes in
      subst (All (IsAskRead ps)) (sym k.exchanged_so) (All-from_recursion (IsAskRead ps) (x ∷ []) (record { probe = p; among = its; posts = k.posts.exact; truth = truth; tells = k.told }, tt))

  -- where the reply isn't too long it is honest
  told_honest : (wires : List Seen) → All (IsHonestOver wires) all → (e : EndpointParts) (request bytes : List ℕ) → Contains all (exchanged e request bytes) → (g : List Triple) → Tell wires e.iri g → length bytes ≤ 67108864 → IsHonest g request bytes
  told_honest wires honest e request bytes among g tell short = (All-contains (IsHonestOver wires) all (exchanged e request bytes) honest among g tell).1 short

  pub told : (wires : List Seen) → All (IsHonestOver wires) all → IsTriple p.key.pattern → (truth : Bool) → Came (reply.Truth truth) → (graphs : List (List Triple)) → TellAll wires es graphs → source.Tells graphs (p, truth)
  told wires honest triple truth d graphs tell =
      let k = truth_replied es p.at text own truth d in
      let g = graph_of graphs p.at in
      let among = here d.endpoint (λ request bytes. HasResults bytes (Truth truth)) k in
      let true_to = told_honest wires honest d.endpoint k.request k.bytes among g (tell_at wires es graphs p.at d.endpoint tell d.found) k.told.replied.0 in
      same_truth k.bytes truth (fits p.key.pattern g) k.told (honest_truth p.key.pattern g k.request k.bytes triple true_to k.posts.whole k.posts.short k.told.replied.0)

  bad_ask : (wires : List Seen) → All (IsHonestOver wires) all → IsTriple p.key.pattern → (bad : BadReply) → (d : Came (reply.Bad bad)) → IsBadAsk (Tell wires d.endpoint.iri) d.endpoint p all bad
  bad_ask wires honest triple bad d = by (bad_replied es p.at text own bad d)
    where
      by : IsReplied d.endpoint text own (λ request bytes. IsBadReply (job_of p).work request bytes bad) → IsBadAsk (Tell wires d.endpoint.iri) d.endpoint p all bad
      by k = record {
        of_kind = k.told.of_kind;
        posts = k.told.requested ∙ k.posts.exact;
        exchanged_so =
            subst (λ (v : List ℕ). Contains all (exchanged d.endpoint v bad.reply)) (sym k.told.requested)
            (subst (λ (v : List ℕ). Contains all (exchanged d.endpoint k.request v)) (sym k.told.replied) (here d.endpoint (λ request bytes. IsBadReply (job_of p).work request bytes bad) k));
        fault = subst (λ (v : List ℕ). HasFault an_ask v bad.why) (sym k.told.replied) k.told.fault;
        long = λ g tell. only_long g tell (long_or_short (length k.bytes) (ltb 67108864 (length k.bytes)) refl);
      }
        where
          only_long : (g : List Triple) → Tell wires d.endpoint.iri g → (67108864 < length k.bytes) ⊎ (length k.bytes ≤ 67108864) → (bad.why ≡ Http TooLong) × (67108864 < length bad.reply)
          only_long g tell (inl long) = (long_fault an_ask k.bytes bad.why long k.told.fault, subst (λ (v : List ℕ). 67108864 < length v) (sym k.told.replied) long)
          only_long g tell (inr short) =
              let true_to = told_honest wires honest d.endpoint k.request k.bytes (here d.endpoint (λ request bytes. IsBadReply (job_of p).work request bytes bad) k) g tell short in
              absurd (truth_faultless k.bytes (fits p.key.pattern g) bad.why (honest_truth p.key.pattern g k.request k.bytes triple true_to k.posts.whole k.posts.short short) k.told.fault)

  -- the cause of a refusal
  pub cause : (before after : List Seen) (probes : List Probe) → All (IsHonestOver before) all → IsTriple p.key.pattern → Contains probes p → (r : JobReply) (e : FlowError) → (d : Came r)
      → (r ≡ reply.Failed → faults_at before d.endpoint.iri < faults_at after d.endpoint.iri) → IsRefusal p.at r e → HasProbeCause before after es probes all e
  cause before after probes honest triple among (reply.Truth truth) e d rose h = absurd h
  cause before after probes honest triple among (reply.Found founds) e d rose h = absurd h
  cause before after probes honest triple among (reply.Table rows) e d rose h = absurd h
  cause before after probes honest triple among reply.Failed e d rose h =
      subst (HasProbeCause before after es probes all) (sym h) (record { probe = p; among = among; endpoint = d.endpoint; found = d.found; named = refl; cause = rose refl })
  cause before after probes honest triple among (reply.Bad it) e d rose h =
      subst (HasProbeCause before after es probes all) (sym h) (record { probe = p; among = among; endpoint = d.endpoint; found = d.found; named = refl; cause = bad_ask before honest triple it d })
  cause before after probes honest triple among (reply.TooLong size) e d rose h =
      subst (HasProbeCause before after es probes all) (sym h) (record { probe = p; among = among; endpoint = d.endpoint; found = d.found; named = refl; cause = too_long es p.at text own size d })

  -- the reply is one to an ASK
  pub for_ask : (r : JobReply) → Came r → IsForAsk r
  for_ask (reply.Truth truth) d = tt
  for_ask reply.Failed d = tt
  for_ask (reply.Bad it) d = tt
  for_ask (reply.TooLong size) d = tt
  for_ask (reply.Found founds) d = none_found es p.at text own founds d
  for_ask (reply.Table rows) d = no_table es p.at text own rows d

-- ---- all jobs

module _ (es : List EndpointParts) where
  front_among : (all own rest : List Exchange) → all ≡ own ++ rest → AllAmong own all
  front_among all own rest is x m = subst (λ (v : List Exchange). Contains v x) (sym is) (Contains-append_left own rest x m)

  back_among : (all own rest : List Exchange) → all ≡ own ++ rest → AllAmong rest all
  back_among all own rest is x m = subst (λ (v : List Exchange). Contains v x) (sym is) (Contains-append_right own rest x m)

  pub asks_sent : (ps : List Probe) (wanted : List Sent) → AreWanted es (map job_of ps) wanted → AreAsksSent es ps wanted
  asks_sent [] wanted h = h
  asks_sent (p ∷ ps) [] h = h
  asks_sent (p ∷ ps) (s ∷ wanted) h = (record { member = h.0.found; posted = h.0.posts }, asks_sent ps wanted h.1)

  pub as_many : (ps : List Probe) (rs : List JobReply) (xs : List Exchange) → AreDone es (map job_of ps) rs xs → length rs ≡ length ps
  as_many [] [] xs h = refl
  as_many [] (r ∷ rs) xs h = absurd h
  as_many (p ∷ ps) [] xs h = absurd h
  as_many (p ∷ ps) (r ∷ rs) xs h = ap suc (as_many ps rs h.1 h.4)

  pub all_for_ask : (ps : List Probe) (rs : List JobReply) (xs : List Exchange) → AreDone es (map job_of ps) rs xs → AllByRecursion IsForAsk rs
  all_for_ask [] [] xs h = tt
  all_for_ask [] (r ∷ rs) xs h = absurd h
  all_for_ask (p ∷ ps) [] xs h = absurd h
  all_for_ask (p ∷ ps) (r ∷ rs) xs h = (for_ask es p h.0 h.0 (λ x m. m) r h.3, all_for_ask ps rs h.1 h.4)

  abbrev truths_of : List Bool → List JobReply
  truths_of truths = map (λ truth. reply.Truth truth) truths

  pub all_answered : (ps : List Probe) (truths : List Bool) (xs all : List Exchange) → AllAmong xs all → AreDone es (map job_of ps) (truths_of truths) xs → AllByRecursion (IsAnsweredBy es all) (zip ps truths)
  all_answered [] truths xs all more h = tt
  all_answered (p ∷ ps) [] xs all more h = tt
  all_answered (p ∷ ps) (t ∷ truths) xs all more h =
      (answered es p h.0 all (λ x m. more x (front_among xs h.0 h.1 h.2 x m)) t h.3, all_answered ps truths h.1 all (λ x m. more x (back_among xs h.0 h.1 h.2 x m)) h.4)

  pub all_read : (all ps : List Probe) → ((p : Probe) → Contains ps p → Contains all p) → (truths : List Bool) (xs : List Exchange) → AreDone es (map job_of ps) (truths_of truths) xs → All (IsAskRead all) xs
  all_read all [] among [] xs h = subst (All (IsAskRead all)) (sym h) (All-nil (IsAskRead all))
  all_read all [] among (t ∷ truths) xs h = absurd h
  all_read all (p ∷ ps) among [] xs h = absurd h
  all_read all (p ∷ ps) among (t ∷ truths) xs h =
      subst (All (IsAskRead all)) (sym h.2)
      (All-append (IsAskRead all) h.0 h.1 (read es p h.0 h.0 (λ x m. m) all (among p (contains_from (p ∷ ps) p (inl refl))) t h.3) (all_read all ps (λ q m. among q (Contains-append_right (p ∷ []) ps q m)) truths h.1 h.4))

  pub all_told : (wires : List Seen) (graphs : List (List Triple)) → TellAll wires es graphs → (ps : List Probe) (truths : List Bool) (xs all : List Exchange) → AllAmong xs all → All (IsHonestOver wires) all → AllByRecursion (λ p. IsTriple p.key.pattern) ps
      → AreDone es (map job_of ps) (truths_of truths) xs → AllByRecursion (source.Tells graphs) (zip ps truths)
  all_told wires graphs tells [] truths xs all more honest triples h = tt
  all_told wires graphs tells (p ∷ ps) [] xs all more honest triples h = tt
  all_told wires graphs tells (p ∷ ps) (t ∷ truths) xs all more honest triples h = (
    told es p h.0 all (λ x m. more x (front_among xs h.0 h.1 h.2 x m)) wires honest triples.0 t h.3 graphs tells,
    all_told wires graphs tells ps truths h.1 all (λ x m. more x (back_among xs h.0 h.1 h.2 x m)) honest triples.1 h.4,
  )

  -- ---- what was sent, and what is left

  -- what wasn't sent, by the reply
  abbrev pub unsent_by : EndpointParts → Probe → JobReply → List Sent
  unsent_by e p reply.Failed = ask_for e p ∷ []
  unsent_by e p (reply.TooLong size) = ask_for e p ∷ []
  unsent_by e p (reply.Truth truth) = []
  unsent_by e p (reply.Bad bad) = []
  unsent_by e p (reply.Found founds) = []
  unsent_by e p (reply.Table rows) = []

  abbrev pub unsent_for : Option EndpointParts → Probe → JobReply → List Sent
  unsent_for None p r = []
  unsent_for (Some e) p r = unsent_by e p r

  abbrev pub unsent_of : List (Probe × JobReply) → List Sent
  unsent_of [] = []
  unsent_of (x ∷ xs) = unsent_for (slice_get es x.0.at) x.0 x.1 ++ unsent_of xs

  record SplitOne (e : EndpointParts) (p : Probe) (r : JobReply) (own : List Exchange) : Type 0 where
    left : List Sent
    sent : Sends (ask_for e p ∷ []) left own
    unsent : r ≡ reply.Failed → Contains left (ask_for e p)
    none_left : (truth : Bool) → r ≡ reply.Truth truth → left ≡ []
    left_is : left ≡ unsent_by e p r

  nothing_sent : (e : EndpointParts) (p : Probe) (r : JobReply) (own : List Exchange) → own ≡ [] → ((truth : Bool) → r ≡ reply.Truth truth → ⊥) → ask_for e p ∷ [] ≡ unsent_by e p r → SplitOne e p r own
  nothing_sent e p r own none untold is_left = record {
    left = ask_for e p ∷ [];
    sent = subst (Sends (ask_for e p ∷ []) (ask_for e p ∷ [])) (sym none) (IsPermutation-refl (ask_for e p ∷ []));
    unsent = λ is. contains_from (ask_for e p ∷ []) (ask_for e p) (inl refl);
    none_left = λ truth is. absurd (untold truth is);
    left_is = is_left;
  }

  -- where there is a reply nothing is left
  all_sent : (e : EndpointParts) (p : Probe) (r : JobReply) (request bytes : List ℕ) → IsReplyTo (job_of p).work (posted.Replied request bytes) r → [] ≡ unsent_by e p r
  all_sent e p (reply.Truth truth) request bytes told = refl
  all_sent e p (reply.Bad bad) request bytes told = refl
  all_sent e p (reply.Found founds) request bytes told = refl
  all_sent e p (reply.Table rows) request bytes told = refl
  all_sent e p reply.Failed request bytes told = absurd told
  all_sent e p (reply.TooLong size) request bytes told = absurd told

  no_failure : (truth : Bool) → reply.Failed ≡ reply.Truth truth → ⊥
  no_failure truth e = cc

  never_long : (size : ℕ) (truth : Bool) → reply.TooLong size ≡ reply.Truth truth → ⊥
  never_long size truth e = cc

  split_one : (e : EndpointParts) (p : Probe) (r : JobReply) (own : List Exchange) (by : Posted) → IsPosted e (ask_text p.key.pattern) by → IsReplyTo (job_of p).work by r → own ≡ exchanges_of e by → SplitOne e p r own
  split_one e p r own (posted.Replied request bytes) sent told is = record {
    left = [];
    sent =
        subst (λ (v : List Exchange). Sends (ask_for e p ∷ []) [] v) (sym is)
        (subst (λ (v : List ℕ). IsPermutation (record { at = e; request = v } ∷ []) (ask_for e p ∷ [])) (sym sent.exact) (IsPermutation-refl (ask_for e p ∷ [])));
    unsent = λ same. absurd (subst (IsReplyTo (job_of p).work (posted.Replied request bytes)) same told);
    none_left = λ truth is. refl;
    left_is = all_sent e p r request bytes told;
  }
  split_one e p r own posted.Failed sent told is = nothing_sent e p r own is (λ truth truly. no_failure truth (sym told ∙ truly)) (ap (unsent_by e p) (sym told))
  split_one e p r own (posted.TooLong size) sent told is = nothing_sent e p r own is (λ truth truly. never_long size truth (sym told ∙ truly)) (ap (unsent_by e p) (sym told))

  pub record SplitAsks (ps : List Probe) (rs : List JobReply) (xs : List Exchange) : Type 0 where
    pub wanted : List Sent
    pub left : List Sent
    pub texts : AreAsksSent es ps wanted
    pub sent : Sends wanted left xs
    pub unsent : (p : Probe) (e : EndpointParts) → Among (p, reply.Failed) (zip ps rs) → slice_get es p.at ≡ Some e → Contains left (ask_for e p)
    pub none_left : (truths : List Bool) → rs ≡ truths_of truths → left ≡ []
    pub left_is : left ≡ unsent_of (zip ps rs)

  -- the ASK of each probe whose exchange failed is left, and none where all replies are truth values
  pub split_asks : (ps : List Probe) (rs : List JobReply) (xs : List Exchange) → AreDone es (map job_of ps) rs xs → SplitAsks ps rs xs
  split_asks [] [] xs h = record { wanted = []; left = []; texts = refl; sent = subst (Sends [] []) (sym h) (IsPermutation-refl []); unsent = λ p e m found. absurd m; none_left = λ truths is. refl; left_is = refl }
  split_asks [] (r ∷ rs) xs h = absurd h
  split_asks (p ∷ ps) [] xs h = absurd h
  split_asks (p ∷ ps) (r ∷ rs) xs h =
      let d = h.3 in
      let one = split_one d.endpoint p r h.0 d.posted d.sent d.told d.exchanged in
      let rest = split_asks ps rs h.1 h.4 in
      let all : List Sent = one.left ++ rest.left in
      record {
        wanted = ask_for d.endpoint p ∷ rest.wanted;
        left = all;
        texts = (record { member = d.found; posted = refl }, rest.texts);
        sent = subst (Sends (ask_for d.endpoint p ∷ rest.wanted) all) (sym h.2) (sent_laws.together (ask_for d.endpoint p ∷ []) one.left rest.wanted rest.left h.0 h.1 one.sent rest.sent);
        unsent = λ q e m found. left_of q e m found d one rest.left rest.unsent;
        none_left = λ truths is. none truths is one.left rest.left one.none_left rest.none_left;
        left_is =
            ap (λ (v : List Sent). v ++ rest.left) (one.left_is ∙ sym (ap (λ (o : Option EndpointParts). unsent_for o p r) d.found))
            ∙ ap (λ (v : List Sent). unsent_for (slice_get es p.at) p r ++ v) rest.left_is;
      }
    where
      none : (truths : List Bool) → r ∷ rs ≡ truths_of truths → (own more : List Sent) → ((truth : Bool) → r ≡ reply.Truth truth → own ≡ []) → ((others : List Bool) → rs ≡ truths_of others → more ≡ []) → own ++ more ≡ []
      none [] is own more one others = absurd (cc)
      none (truth ∷ truths) is own more one others =
          let first : r ≡ reply.Truth truth = cc in
          let behind : rs ≡ truths_of truths = cc in
          ap (λ (v : List Sent). v ++ more) (one truth first) ∙ others truths behind

      left_of : (q : Probe) (e : EndpointParts) → Among (q, reply.Failed) (zip (p ∷ ps) (r ∷ rs)) → slice_get es q.at ≡ Some e → (d : IsDone es (job_of p) r h.0) (one : SplitOne d.endpoint p r h.0) (more : List Sent)
          → ((q : Probe) (e : EndpointParts) → Among (q, reply.Failed) (zip ps rs) → slice_get es q.at ≡ Some e → Contains more (ask_for e q)) → Contains (one.left ++ more) (ask_for e q)
      left_of q e (inl same) found d one more behind =
          let probe_is : p ≡ q = ap (λ (z : Probe × JobReply). z.0) same in
          let both : Some d.endpoint ≡ Some e = sym d.found ∙ ap (λ (z : Probe). slice_get es z.at) probe_is ∙ found in
          let endpoint_is : d.endpoint ≡ e = cc in
          let own : Contains (one.left ++ more) (ask_for d.endpoint p) = Contains-append_left one.left more (ask_for d.endpoint p) (one.unsent (ap (λ (z : Probe × JobReply). z.1) same)) in
          subst (λ (v : Probe). Contains (one.left ++ more) (ask_for e v)) probe_is (subst (λ (v : EndpointParts). Contains (one.left ++ more) (ask_for v p)) endpoint_is own)
      left_of q e (inr m) found d one more behind = Contains-append_right one.left more (ask_for e q) (behind q e m found)

  -- ---- one of them

  pub record Done (p : Probe) (r : JobReply) (xs : List Exchange) : Type 0 where
    pub own : List Exchange
    pub done : IsDone es (job_of p) r own
    pub more : AllAmong own xs

  pub done_at : (ps : List Probe) (rs : List JobReply) (xs : List Exchange) (p : Probe) (r : JobReply) → AreDone es (map job_of ps) rs xs → Among (p, r) (zip ps rs) → Done p r xs
  done_at [] rs xs p r h m = absurd m
  done_at (q ∷ ps) [] xs p r h m = absurd m
  done_at (q ∷ ps) (s ∷ rs) xs p r h (inl same) = record { own = h.0; done = subst (λ (z : Probe × JobReply). IsDone es (job_of z.0) z.1 h.0) same h.3; more = front_among xs h.0 h.1 h.2 }
  done_at (q ∷ ps) (s ∷ rs) xs p r h (inr m) = let k = done_at ps rs h.1 p r h.4 m in record { own = k.own; done = k.done; more = λ x n. back_among xs h.0 h.1 h.2 x (k.more x n) }

  pub among_probes : (ps : List Probe) (rs : List JobReply) (p : Probe) (r : JobReply) → Among (p, r) (zip ps rs) → Among p ps
  among_probes [] rs p r m = absurd m
  among_probes (q ∷ ps) [] p r m = absurd m
  among_probes (q ∷ ps) (s ∷ rs) p r (inl same) = inl (ap (λ (z : Probe × JobReply). z.0) same)
  among_probes (q ∷ ps) (s ∷ rs) p r (inr m) = inr (among_probes ps rs p r m)

  -- ---- faults

  -- a failure counts at its endpoint
  pub failed_counts : (e : EndpointParts) (p : Probe) → slice_get es p.at ≡ Some e → (ps : List Probe) (rs : List JobReply) → Among (p, reply.Failed) (zip ps rs) → 1 ≤ failures_at es e.iri (map job_of ps) rs
  failed_counts e p found [] rs m = absurd m
  failed_counts e p found (q ∷ ps) [] m = absurd m
  failed_counts e p found (q ∷ ps) (r ∷ rs) (inl same) =
      let here : cond {A = ℕ} (is_at e.iri (slice_get es q.at)) (is_failure r) 0 ≡ 1 =
      ap (λ (z : Probe × JobReply). cond {A = ℕ} (is_at e.iri (slice_get es z.0.at)) (is_failure z.1) 0) same
      ∙ ap (λ o. cond {A = ℕ} (is_at e.iri o) 1 0) found
      ∙ ap (λ (b : Bool). cond {A = ℕ} b 1 0) ((bytes_eq-Decides e.iri e.iri).1 refl) in
      omega (arith, here)
  failed_counts e p found (q ∷ ps) (r ∷ rs) (inr m) = let rest : 1 ≤ failures_at es e.iri (map job_of ps) rs = failed_counts e p found ps rs m in omega (arith, rest)

  nothing : (b : Bool) → cond {A = ℕ} b 0 0 ≡ 0
  nothing true = refl
  nothing false = refl

  -- and a truth value counts nowhere
  pub no_failures : (address : List ℕ) (ps : List Probe) (truths : List Bool) → failures_at es address (map job_of ps) (truths_of truths) ≡ 0
  no_failures address [] truths = refl
  no_failures address (p ∷ ps) [] = refl
  no_failures address (p ∷ ps) (t ∷ truths) =
      let here : cond {A = ℕ} (is_at address (slice_get es p.at)) 0 0 ≡ 0 = nothing (is_at address (slice_get es p.at)) in
      let rest : failures_at es address (map job_of ps) (truths_of truths) ≡ 0 = no_failures address ps truths in
      omega (arith, here, rest)
