-- A run of some units, and then of others over the rows that these give, is a run of all of them.
use Rattle.std.specs.Prelude.{◌≡◌, ◌≤◌, ◌++◌, ℕ, Bool, List, [], All, Result, Ok, Err}
use Rattle.fx_terms.specs.declared.triples.Triple.{Triple}
use Rattle.fx_outside.specs.Endpoints.{EndpointParts}
use Rattle.fx_algebra.specs.declared.units.Row.{Row}
use Rattle.fx_algebra.specs.declared.units.Unit as unit
use Rattle.fx_steps.specs.Steps.{stepped}
use Rattle.fx_traffic.specs.Batches.{IsRunSent}
use Rattle.fx_traffic.specs.Sent.{Sent}
use Rattle.fx_wire.specs.Exchanges.{Seen}
use Rattle.fx_flows.specs.RunFlows.{RunFlowed}
use Rattle.fx_flows.specs.declared.flows.FlowError.{FlowError}

-- wires all tell their logs, or none does
abbrev pub AllTell : Bool → List Seen → Type 0
AllTell tells wires = All (λ w. w.tells_log ≡ tells) wires

-- what the first units of a run may send, and then what the others may of the rows behind them, as if they began with these, is what all may send
abbrev pub SentInTurn : Type 0
SentInTurn = (endpoints : List EndpointParts) (graph : List Triple) (block most : ℕ) (us vs : List unit.Unit) (rows : List Row) (wanted more : List Sent)
    → 1 ≤ most
    → IsRunSent endpoints graph block most us rows wanted
    → IsRunSent endpoints graph block 1 vs (stepped graph us rows) more
    → IsRunSent endpoints graph block most (us ++ vs) rows (wanted ++ more)

-- a run of some units that has rows, and then one of others which these rows enter, whatever comes of it
abbrev pub RunInTurn : Type 0
RunInTurn = (tells alone : Bool) (before between after : List Seen) (endpoints : List EndpointParts) (us vs : List unit.Unit) (block : ℕ) (rows mid : List Row) (result : Result (List Row) FlowError)
    → AllTell tells before
    → AllTell tells between
    → RunFlowed tells alone before between endpoints us block rows (Ok mid)
    → RunFlowed tells alone between after endpoints vs block mid result
    → RunFlowed tells alone before after endpoints (us ++ vs) block rows result

-- a run of some units that was refused: the others weren't come to
abbrev pub RunRefused : Type 0
RunRefused = (tells alone : Bool) (before after : List Seen) (endpoints : List EndpointParts) (us vs : List unit.Unit) (block : ℕ) (rows : List Row) (why : FlowError)
    → RunFlowed tells alone before after endpoints us block rows (Err why)
    → RunFlowed tells alone before after endpoints (us ++ vs) block rows (Err why)

-- no unit makes of rows these rows
abbrev pub RunOfNone : Type 0
RunOfNone = (tells alone : Bool) (wires : List Seen) (endpoints : List EndpointParts) (block : ℕ) (rows : List Row) → RunFlowed tells alone wires wires endpoints [] block rows (Ok rows)

-- units make no rows of none, whatever they are, and nothing is sent
abbrev pub RunOfNoRows : Type 0
RunOfNoRows = (tells alone : Bool) (wires : List Seen) (endpoints : List EndpointParts) (us : List unit.Unit) (block : ℕ) → RunFlowed tells alone wires wires endpoints us block [] (Ok [])

pub record RunLaws : Type 0 where
  pub sent : SentInTurn
  pub in_turn : RunInTurn
  pub refused : RunRefused
  pub none : RunOfNone
  pub no_rows : RunOfNoRows
