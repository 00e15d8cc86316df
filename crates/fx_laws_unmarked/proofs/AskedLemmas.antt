-- What asking for all probes comes to where nobody may be left out.
use Rattle.std.specs.Prelude.{[], ◌≡◌, ℕ, Bool, List, IfOk, IfErr, IsTrue, All, IsPermutation, Result, length, ◌++◌}
use Rattle.std.specs.List.{zip}
use Rattle.fx_terms.specs.declared.triples.Triple.{Triple}
use Rattle.fx_outside.specs.Endpoints.{EndpointParts}
use Rattle.fx_keys.specs.declared.probes.Probe.{Probe}
use Rattle.fx_sources.specs.Sources as source
use Rattle.fx_traffic.specs.Gains.{AreAfter, HaveGained, TellAll, faults_at}
use Rattle.fx_traffic.specs.Sent.{Sent, Sends}
use Rattle.fx_traffic.specs.Traffic.{AreAsksSent}
use Rattle.fx_wire.specs.Exchanges.{Exchange, Seen}
use Rattle.fx_flows.specs.declared.flows.FlowError.{FlowError}
use Rattle.fx_outcomes.specs.Asks.{HasFailedAsk, HasProbeCause, IsAnsweredBy, IsAskRead}

-- Probes were asked for over wires: what was exchanged, which of the probes' ASKs that is, each once, and their answers, which tell whether the
-- keys fit where the graphs of the endpoints are told. Where an exchange failed the ASK is left, and where each has its answer none is.
pub record AskedAll (tells alone : Bool) (before after : List Seen) (endpoints : List EndpointParts) (probes : List Probe) (result : Result (List Bool) FlowError) : Type 0 where
  pub exchanges : List Exchange
  pub gained : IsTrue tells → HaveGained before after exchanges
  pub after_all : AreAfter before after
  pub quiet : IsTrue alone → IfOk result (λ _. (address : List ℕ) → faults_at after address ≡ faults_at before address)
  pub asked : List Probe
  pub unasked : List Probe
  pub split : IsPermutation (asked ++ unasked) probes
  pub wanted : List Sent
  pub left : List Sent
  pub texts : AreAsksSent endpoints asked wanted
  pub sent : Sends wanted left exchanges
  pub whole : IfOk result (λ _. left ≡ [])
  pub many : IfOk result (λ truths. length truths ≡ length probes)
  pub faultless : IfOk result (λ _. All (IsAskRead probes) exchanges)
  pub answered : IfOk result (λ truths. All (IsAnsweredBy endpoints exchanges) (zip probes truths))
  pub told : IfOk result (λ truths. (graphs : List (List Triple)) → TellAll before endpoints graphs → All (source.Tells graphs) (zip probes truths))
  pub cause : IfErr result (HasProbeCause before after endpoints probes exchanges)
  pub failed : IfErr result (HasFailedAsk before after endpoints probes left)
