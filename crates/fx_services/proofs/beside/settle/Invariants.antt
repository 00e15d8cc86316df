use Rattle.std.proofs.Common.{◌≡◌, ◌++◌, [], List, drop, length}
use Rattle.std.specs.Vec.Iter.{into_iter_items, into_iter_len}
use Rattle.fx_algebra.specs.Solutions.{Bindings}
use Rattle.fx_services.specs.Beside.{HavePassed, IsFirstRefusal}
use Rattle.fx_services.specs.declared.noted.Down.{Down}
use Rattle.fx_services.specs.declared.services.ServiceError.{ServiceError}
use Rattle.fx_services.proofs.beside.settle.Given as goal

-- whatever comes of those that are left stands behind what came of those before
abbrev pub invariant-loop-occurrence : goal.invariant-loop-occurrence
invariant-loop-occurrence l = record {
  len : into_iter_len l.came ≡ length (into_iter_items l.came);
  many : length (into_iter_items l.came) ≡ length (drop l.occurrence-index l.asked);
  place : length l.rows.items ≡ l.occurrence-index;
  passed : (new : List Down) (more : List (List Bindings))
      → HavePassed l.occurrence-index (drop l.occurrence-index l.asked) (into_iter_items l.came) l.down.items new more
      → HavePassed 0 l.asked l.fn.came.items [] new (l.rows.items ++ more);
  refused : (new : List Down) (more : List (List Bindings)) (e : ServiceError)
      → IsFirstRefusal l.occurrence-index (drop l.occurrence-index l.asked) (into_iter_items l.came) l.down.items new more e
      → IsFirstRefusal 0 l.asked l.fn.came.items [] new (l.rows.items ++ more) e;
}
