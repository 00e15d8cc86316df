-- What is sent in rounds.
use Rattle.std.proofs.Common.{◌≡◌, sym, subst, refl, inl, ◌⊎◌, ℕ, zero, suc, Bool, true, List, [], ◌∷◌, ◌++◌, map, Result, Err}
use Rattle.std.proofs.lemmas.List.Sorted.{IsPermutation-refl, IsPermutation-trans}
use Rattle.fx_terms.specs.declared.triples.Triple.{Triple}
use Rattle.fx_outside.specs.Endpoints.{EndpointParts}
use Rattle.fx_algebra.specs.Cuts.{seeds, stations}
use Rattle.fx_algebra.specs.Graphs.{union}
use Rattle.fx_algebra.specs.Units.{is_kept, of_kept}
use Rattle.fx_algebra.specs.declared.queries.Query.{Query}
use Rattle.fx_flows.specs.declared.flows.FlowError.{FlowError}
use Rattle.fx_plan.specs.declared.parts.Part.{Part}
use Rattle.fx_services.specs.Beside.{Occurrence}
use Rattle.fx_services.specs.Noted.{places}
use Rattle.fx_traffic.specs.Gains.{TellAll}
use Rattle.fx_traffic.specs.Sent.{Sent, Sends}
use Rattle.fx_traffic.specs.Traffic.{IsServiceSent}
use Rattle.fx_traffic.proofs.SentLemmas.{sent_laws}
use Rattle.fx_wire.specs.Exchanges.{Exchange, Seen}
use Rattle.fx_outcomes.specs.Calls.{AgreesWith, AreCalls, Call, down_in, occurrences}
use Rattle.fx_outcomes.specs.InRounds.{plan_over}
use Rattle.fx_outcomes.specs.Mediation.{Serve}
use Rattle.fx_outcomes.specs.Outcomes.{IsPlannedOver, Outcomed}
use Rattle.fx_outcomes.specs.RoundEnds.{AreAbandoned}
use Rattle.fx_outcomes.specs.Rounds.{AreStillKept, without, without_all}
use Rattle.fx_outcomes.specs.declared.federated.FedError.{FedError}
use Rattle.fx_outcomes.specs.declared.federated.Outcome.{Outcome}
use Rattle.fx_outcomes.specs.declared.rounds.Left.{Left}
use Rattle.fx_outcomes.specs.declared.rounds.Round.{Round}
use Rattle.fx_outcomes.proofs.CallLemmas.{first_of}
use Rattle.fx_outcomes.proofs.KeptPlanLemmas.{plan_by_kept}
use Rattle.fx_outcomes.proofs.RunsSentLemmas.{AreCalled, sent_by_all}
use Rattle.fx_pool.proofs.WiresLemmas.{still_tell_all}
use Rattle.fx_rounds.specs.Traffic.{RoundsAreTraffic, RoundsSend, SendsRound}

-- ---- the texts of occurrences

none_called : (es : List EndpointParts) (os : List Occurrence) → AreCalled es os []
none_called es [] = refl
none_called es (o ∷ os) = ([], [], refl, inl refl, none_called es os)

-- what is sent for occurrences that were invoked: each text once at most, and some of that
record CalledTexts (es : List EndpointParts) (os : List Occurrence) (xs : List Exchange) : Type 0 where
  texts : List Sent
  left : List Sent
  called : AreCalled es os texts
  sent : Sends texts left xs

called_texts : (wires : List Seen) (es : List EndpointParts) (calls : List Call) (others os : List Occurrence) (xs : List Exchange) → map (λ c. c.of) calls ++ others ≡ os → AreCalls wires es calls xs → CalledTexts es os xs
called_texts wires es [] others os xs are h = record { texts = []; left = []; called = none_called es os; sent = subst (Sends [] []) (sym h) (IsPermutation-refl []) }
called_texts wires es (c ∷ cs) others [] xs are h = absurd (cc)
called_texts wires es (c ∷ cs) others (o ∷ os) xs are h =
    let both : c.of ∷ (map (λ (d : Call). d.of) cs ++ others) ≡ o ∷ os = are in
    let same : c.of ≡ o = cc in
    let behind : map (λ (d : Call). d.of) cs ++ others ≡ os = cc in
    let rest = called_texts wires es cs others os h.1 behind h.5 in
    record {
      texts = h.4.wanted ++ rest.texts;
      left = h.4.left ++ rest.left;
      called = (h.4.wanted, rest.texts, refl, subst (λ (v : Occurrence). (h.4.wanted ≡ []) ⊎ IsServiceSent es v.iri v.group h.4.wanted) same h.4.text, rest.called);
      sent = subst (Sends (h.4.wanted ++ rest.texts) (h.4.left ++ rest.left)) (sym h.2) (sent_laws.together h.4.wanted h.4.left rest.texts rest.left h.0 h.1 h.4.sent rest.sent);
    }

-- ---- who is kept

without_kept : (kept : List Bool) (gone at : ℕ) → is_kept (without gone kept) at ≡ true → is_kept kept at ≡ true
without_kept [] gone at h = h
without_kept (k ∷ kept) zero zero h = absurd (cc)
without_kept (k ∷ kept) zero (suc at) h = h
without_kept (k ∷ kept) (suc gone) zero h = h
without_kept (k ∷ kept) (suc gone) (suc at) h = without_kept kept gone at h

all_without_kept : (left : List Left) (kept : List Bool) (at : ℕ) → is_kept (without_all left kept) at ≡ true → is_kept kept at ≡ true
all_without_kept [] kept at h = h
all_without_kept (l ∷ left) kept at h = without_kept kept l.at at (all_without_kept left (without l.at kept) at h)

-- ---- a round

module _ (tells alone : Bool) (es : List EndpointParts) (q : Query) (block : ℕ) where
  round_sends : (Told Untold : FlowError → Type 0) (s t : List Seen) (plan : List Part) (r : Result Outcome FedError) (k : Outcomed Told Untold tells alone s t es q plan block r) (graphs : List (List Triple)) (services : List ℕ → List Triple) → IsPlannedOver s es q plan graphs services
      → (down : List ℕ) → AgreesWith down k.calls → SendsRound es graphs block services down q k.exchanges
  round_sends Told Untold s t plan r k graphs services over down agrees =
      let first = first_of k.calls (occurrences q) k.called in
      let c = called_texts s es k.calls first.others (occurrences q) k.of_calls first.are k.are_calls in
      let m = sent_by_all es graphs block (stations q) (seeds q (union graphs) services down) k.texts c.texts (k.runs graphs services over down agrees) c.called in
      let together : Sends (k.texts ++ c.texts) (k.left ++ c.left) (k.of_runs ++ k.of_calls) = sent_laws.together k.texts k.left c.texts c.left k.of_runs k.of_calls k.sent c.sent in
      let moved : Sends (k.texts ++ c.texts) (k.left ++ c.left) k.exchanges = sent_laws.any_order (k.texts ++ c.texts) (k.left ++ c.left) (k.of_runs ++ k.of_calls) k.exchanges k.parted together in
      (k.left ++ c.left, record { texts = m.all; of_stations = m.sent; sent = IsPermutation-trans _ (k.texts ++ c.texts) m.all moved m.same })

  itself : (calls : List Call) → AgreesWith (places (down_in calls)) calls
  itself calls i d there passes before = refl

  module _ (plan : List Bool → List Part) (graphs : List (List Triple)) (services : List ℕ → List Triple) (serve : Serve services es graphs) (Kept : List Bool → Type 0)
      (over : (kept : List Bool) → Kept kept → (s : List Seen) → TellAll s es graphs → IsPlannedOver s es q (plan kept) (of_kept kept graphs) services) (goes_on : (kept : List Bool) (left : List Left) → Kept kept → Kept (without_all left kept)) where
    all_send : (v w : List Seen) (kept last : List Bool) (rounds : List Round) (c : AreAbandoned tells alone v w es q plan block kept last rounds) → Kept kept → TellAll v es graphs → RoundsSend tells alone v w es q plan block kept last rounds c graphs services
    all_send v w kept last [] c is told = tt
    all_send v w kept last (r ∷ rounds) c is told = (
      round_sends (λ it. it ≡ c.1.why) (λ it. it ≡ c.1.why) v c.0 (plan kept) (Err c.1.error) c.1.went (of_kept kept graphs) services (over kept is v told) r.down (subst (λ (d : List ℕ). AgreesWith d c.1.went.calls) (sym c.1.down_is) (itself c.1.went.calls)),
      all_send c.0 w (without_all r.left kept) last rounds c.3 (goes_on kept r.left is) (still_tell_all v c.0 c.1.went.after_all es graphs told),
    )

    at_last : (v w : List Seen) (kept last : List Bool) (rounds : List Round) → AreAbandoned tells alone v w es q plan block kept last rounds → Kept kept → TellAll v es graphs → Kept last × TellAll w es graphs
    at_last v w kept last [] c is told = (subst Kept (sym c.1) is, subst (λ (x : List Seen). TellAll x es graphs) (sym c.0) told)
    at_last v w kept last (r ∷ rounds) c is told = at_last c.0 w (without_all r.left kept) last rounds c.3 (goes_on kept r.left is) (still_tell_all v c.0 c.1.went.after_all es graphs told)

pub rounds_are_traffic : RoundsAreTraffic
rounds_are_traffic tells alone before after es q old new block result w graphs knows services serve =
    let plan = plan_over es q old w.answers in
    let still = λ (kept : List Bool). AreStillKept kept w.answers.kept.items in
    let here = still_tell_all before w.asked w.asking.after_all es graphs knows.told in
    let true_of = w.asking.told graphs knows.told in
    let over : (kept : List Bool) → still kept → (s : List Seen) → TellAll s es graphs → IsPlannedOver s es q (plan kept) (of_kept kept graphs) services =
    λ kept is s told. record { all = graphs; told = told; served = serve; kept = kept; those_kept = refl; plan_is = plan_by_kept s es q old w.answers w.asking.fit kept is graphs told knows.entries_are true_of } in
    let goes_on : (kept : List Bool) (left : List Left) → still kept → still (without_all left kept) = λ kept left is at h. is at (all_without_kept left kept at h) in
    let own : still w.answers.kept.items = λ at h. h in
    let end = at_last tells alone es q block plan graphs services serve still over goes_on w.asked w.went.between w.answers.kept.items w.went.last_kept w.went.abandoned w.went.rounds own here in (
      all_send tells alone es q block plan graphs services serve still over goes_on w.asked w.went.between w.answers.kept.items w.went.last_kept w.went.abandoned w.went.rounds own here,
      λ down agrees. round_sends tells alone es q block _ _ w.went.between after (plan w.went.last_kept) w.went.ended w.went.last (of_kept w.went.last_kept graphs) services (over w.went.last_kept end.0 w.went.between end.1) down agrees,
    )
