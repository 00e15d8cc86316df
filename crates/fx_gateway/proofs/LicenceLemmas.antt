-- Who is left out and what is down has a licence.
use Rattle.std.proofs.Common.{◌≡◌, sym, subst, refl, inl, inr, ◌⊎◌, ℕ, List, [], ◌++◌, Ok, Err}
use Rattle.std.specs.Prelude.{Result}
use Rattle.fx_algebra.specs.declared.queries.Query.{Query}
use Rattle.fx_sources.specs.Registries.{IsRegistry}
use Rattle.fx_outcomes.specs.InRounds.{FederatedInRoundsOver, plan_over}
use Rattle.fx_outcomes.specs.Outcomes.{AllTell}
use Rattle.fx_outcomes.specs.declared.federated.FedError.{FedError}
use Rattle.fx_outcomes.specs.declared.rounds.OutcomeInRounds.{OutcomeInRounds}
use Rattle.fx_rounds.specs.Gained.{went_exchanged}
use Rattle.fx_rounds.specs.LeftOut.{AreLeftOut, left_in}
use Rattle.fx_rounds.specs.Licences.{downs_in}
use Rattle.fx_rounds.proofs.GainedLemmas.{went_gained}
use Rattle.fx_rounds.proofs.LeftOutLemmas.{answers_went, members_are_left_once}
use Rattle.fx_rounds.proofs.LicenceLemmas.{answers_are_licensed, licences_in_any_order}
use Rattle.fx_gateway.specs.Connected.{Federation, IsGated, LinkSeen}
use Rattle.fx_gateway.specs.Laws.{ConnectionsAreLicensed, IsLicensed}
use Rattle.fx_gateway.specs.Replies.{gated_of}
use Rattle.fx_gateway.specs.declared.connections.GateError.TheVariants as error
use Rattle.fx_gateway.specs.declared.connections.Gated.{Gated}

module _ (f : Federation) (told : AllTell f.wires.tells f.wires.before) (registry : IsRegistry f.endpoints) where
  abbrev Licensed : Gated → Type 0
  Licensed gated = ((gated.abandoned ≡ []) × (gated.down ≡ [])) ⊎ ((q : Query) × IsLicensed f q gated)

  answer_licensed : (q : Query) (all : OutcomeInRounds) (status : ℕ) → FederatedInRoundsOver f.wires f.endpoints q f.old f.new f.block (Ok all) → IsLicensed f q (gated_of status (Ok all))
  answer_licensed q all status h =
      let w = f.wires in
      let it = answers_went w.tells w.alone w.before w.after f.endpoints q f.old f.new f.block all h in
      let lefts = left_in all.abandoned in
      let downs = downs_in w.tells w.alone it.asked it.went.between f.endpoints q (plan_over f.endpoints q f.old it.answers) f.block it.answers.kept.items it.went.last_kept it.went.abandoned it.went.rounds in
      let g = went_gained w.tells w.alone f.endpoints q f.block w.before w.after f.old f.new (Ok all) told it in
      let m = members_are_left_once w.tells w.alone w.before w.after f.endpoints q f.old f.new f.block all it in
      record {
        left_out = subst (AreLeftOut f.endpoints lefts) m.those_kept m;
        exchanges = g.exchanges;
        gained = g.gained;
        earlier = downs;
        licence = licences_in_any_order f.endpoints q w.before w.after (went_exchanged w.tells w.alone w.before w.after f.endpoints q f.old f.new f.block (Ok all) it) g.exchanges lefts (downs ++ all.outcome.down) g.same
            (answers_are_licensed w.tells w.alone w.before w.after f.endpoints q f.old f.new f.block all registry it);
      }

  given_licensed : (q : Query) (result : Result OutcomeInRounds FedError) (status : ℕ) → FederatedInRoundsOver f.wires f.endpoints q f.old f.new f.block result → Licensed (gated_of status result)
  given_licensed q (Ok all) status h = inr (q, answer_licensed q all status h)
  given_licensed q (Err e) status h = inl (refl, refl)

  pub gated_licensed : (link : LinkSeen) (gated : Gated) (reply : List ℕ) → IsGated link f gated reply → Licensed gated
  gated_licensed link gated reply (inl r) = subst Licensed (sym r.gated_is) (inl (refl, refl))
  gated_licensed link gated reply (inr r) = subst Licensed (sym r.replied.gated_is) (given_licensed r.asked.query r.result r.replied.t.status r.asked.federated)

pub are_licensed : ConnectionsAreLicensed
are_licensed before after f (Ok gated) c told registry = gated_licensed f told registry before gated c.0 c.1
are_licensed before after f (Err (error.WriteFault gated)) c told registry = gated_licensed f told registry before gated c.0 c.1
are_licensed before after f (Err error.ReadFault) c told registry = tt
are_licensed before after f (Err error.Memory) c told registry = tt
