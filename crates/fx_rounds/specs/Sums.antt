-- What licenses, in one sum at each address, all that a call in rounds tells and doesn't tell of members that were left out and of occurrences of SERVICE that were down.
use Rattle.std.specs.Prelude.{◌+◌, ◌≤◌, ℕ, Bool, List, [], ◌∷◌, ◌++◌, All, IsPermutation, IsTrue, Ok}
use Rattle.fx_outside.specs.Endpoints.{EndpointParts}
use Rattle.fx_algebra.specs.declared.queries.Query.{Query}
use Rattle.fx_sources.specs.Probes.{Entry}
use Rattle.fx_sources.specs.Registries.{IsRegistry}
use Rattle.fx_traffic.specs.Gains.{HaveGained, faults_at}
use Rattle.fx_services.specs.declared.noted.Down.{Down}
use Rattle.fx_wire.specs.Exchanges.{Exchange, Seen}
use Rattle.fx_outcomes.specs.InRounds.{FederatedInRounds}
use Rattle.fx_outcomes.specs.Outcomes.{AllTell}
use Rattle.fx_outcomes.specs.declared.rounds.OutcomeInRounds.{OutcomeInRounds}
use Rattle.fx_outcomes.specs.declared.rounds.Round.{Round}
use Rattle.fx_rounds.specs.Counts.{downs_told, exchanges_at, lefts_told, numbers_at}
use Rattle.fx_rounds.specs.LeftOut.{left_in}
use Rattle.fx_rounds.specs.Licences.{IsBad}

-- how many of the occurrences that were down in these rounds ask an endpoint at the address for a text that isn't too long, round by round
abbrev pub numbers_in : List EndpointParts → Query → List ℕ → List Round → ℕ
numbers_in endpoints q address [] = 0
numbers_in endpoints q address (r ∷ rounds) = numbers_at endpoints q address r.down + numbers_in endpoints q address rounds

-- Some of the exchanges of a call ask for something of the query and have a reply that is bad for it. At each address these, and the faults that were counted in it, are at least as many as the
-- occurrences that were down in rounds which were abandoned, the members that were left out since an exchange failed or for a bad reply, and the occurrences that are down for such a reason in the last
-- round.
pub record AreEnough (tells : Bool) (before after : List Seen) (endpoints : List EndpointParts) (q : Query) (rounds : List Round) (down : List Down) : Type 0 where
  pub exchanges : List Exchange
  pub gained : IsTrue tells → HaveGained before after exchanges
  pub refused : List Exchange
  pub others : List Exchange
  pub parted : IsPermutation (refused ++ others) exchanges
  pub each : All (IsBad endpoints q before) refused
  pub enough : (address : List ℕ) → faults_at before address + (numbers_in endpoints q address rounds + (lefts_told endpoints address (left_in rounds) + downs_told address down)) ≤ faults_at after address + exchanges_at address refused

-- so it is with an answer
abbrev pub FaultsAndRefusalsAreEnough : Type 0
FaultsAndRefusalsAreEnough = (tells alone : Bool) (before after : List Seen) (endpoints : List EndpointParts) (q : Query) (old new : List Entry) (block : ℕ) (all : OutcomeInRounds)
    → AllTell tells before → IsRegistry endpoints → FederatedInRounds tells alone before after endpoints q old new block (Ok all) → AreEnough tells before after endpoints q all.abandoned all.outcome.down
