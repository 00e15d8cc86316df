use Rattle.std.proofs.Common.{◌≡◌, ◌≤◌, ◌-◌, ◌++◌, IsTrue, vec_len}
use Rattle.fx_http.proofs.reading.read_up_to.Given as goal

abbrev pub invariant-loop-buffer : goal.invariant-loop-buffer
invariant-loop-buffer g l = record {
  within : vec_len l.bytes ≤ l.most;
  came : IsTrue g.S.Ends.tells_left → g.S.Ends.left l.initial.source ≡ l.bytes.items ++ g.S.Ends.left l.source;
  faultless : g.S.Ends.read_faults l.source ≡ g.S.Ends.read_faults l.initial.source;
  held : IsTrue g.S.Ends.tells_held → g.S.Ends.held l.source ≡ g.S.Ends.held l.initial.source;
  writes : g.S.Ends.write_faults l.source ≡ g.S.Ends.write_faults l.initial.source;
}

abbrev pub decreases-loop-buffer : goal.decreases-loop-buffer
decreases-loop-buffer g l = l.most - vec_len l.bytes
