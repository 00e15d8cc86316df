use Rattle.std.proofs.Common.{◌≡◌, ◌≤◌, ◌-◌, ◌++◌, IsTrue, vec_len}
use Rattle.std.specs.List.{list_any}
use Rattle.fx_http.specs.RequestHeads.{HasNoHeadYet, is_of_line}
use Rattle.fx_http.proofs.request_heads.read_head.Given as goal

abbrev pub invariant-loop-source : goal.invariant-loop-source
invariant-loop-source g l = record {
  within : vec_len l.bytes ≤ 65536;
  begun : l.begun ≡ list_any is_of_line l.bytes.items;
  headless : HasNoHeadYet l.bytes.items;
  came : IsTrue g.S.Ends.tells_left → g.S.Ends.left l.initial.source ≡ l.bytes.items ++ g.S.Ends.left l.source;
  faultless : g.S.Ends.read_faults l.source ≡ g.S.Ends.read_faults l.initial.source;
  held : IsTrue g.S.Ends.tells_held → g.S.Ends.held l.source ≡ g.S.Ends.held l.initial.source;
  writes : g.S.Ends.write_faults l.source ≡ g.S.Ends.write_faults l.initial.source;
}

abbrev pub decreases-loop-source : goal.decreases-loop-source
decreases-loop-source g l = 65536 - vec_len l.bytes
