use Rattle.std.proofs.Common.{◌≡◌, ◌++◌, List, drop, length}
use Rattle.std.specs.Vec.Iter.{into_iter_items, into_iter_len}
use Rattle.fx_services.specs.Beside.{AreRepliesFor, AreToldOf, Came}
use Rattle.fx_services.proofs.beside.told_of.Given as goal

-- whatever the replies that are left tell, it stands behind what came so far
abbrev pub invariant-loop-occurrence : goal.invariant-loop-occurrence
invariant-loop-occurrence l = record {
  len : into_iter_len l.replies ≡ length (into_iter_items l.replies);
  fits : AreRepliesFor l.registry (drop l.occurrence-index l.asked) (into_iter_items l.replies);
  so_far : (more : List Came) → AreToldOf l.registry (drop l.occurrence-index l.asked) (into_iter_items l.replies) more → AreToldOf l.registry l.asked l.fn.replies.items (l.came.items ++ more);
}
