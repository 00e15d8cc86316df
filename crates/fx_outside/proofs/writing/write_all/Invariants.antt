use Rattle.std.proofs.Common.{◌≡◌, ◌≤◌, ◌-◌, ◌++◌, IsTrue, length, take}
use Rattle.fx_outside.proofs.writing.write_all.Given as goal

abbrev pub invariant-loop-done : goal.invariant-loop-done
invariant-loop-done g l = record {
  within : l.done ≤ length l.bytes;
  faultless : g.K.Ends.write_faults l.sink ≡ g.K.Ends.write_faults l.initial.sink;
  front : IsTrue g.K.Ends.tells_held → g.K.Ends.held l.sink ≡ g.K.Ends.held l.initial.sink ++ take l.done l.bytes;
  left : IsTrue g.K.Ends.tells_left → g.K.Ends.left l.sink ≡ g.K.Ends.left l.initial.sink;
  reads : g.K.Ends.read_faults l.sink ≡ g.K.Ends.read_faults l.initial.sink;
}

abbrev pub decreases-loop-done : goal.decreases-loop-done
decreases-loop-done g l = length l.bytes - l.done
