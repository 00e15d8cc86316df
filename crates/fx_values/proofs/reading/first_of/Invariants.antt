use Rattle.std.proofs.Common.{◌≡◌, drop, filter}
use Rattle.fx_values.specs.Sent.{first_of, is_of}
use Rattle.fx_values.proofs.reading.first_of.Given as goal

abbrev pub invariant-loop-sent : goal.invariant-loop-sent
invariant-loop-sent l = first_of (filter (is_of l.columns l.row) (drop l.sent-index l.rows)) ≡ first_of (filter (is_of l.columns l.row) l.rows)
