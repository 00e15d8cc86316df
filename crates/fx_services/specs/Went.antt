-- What asking over several wires leaves of them.
use Rattle.std.specs.Prelude.{◌≤◌, ◌+◌, ℕ, Bool, List, IsTrue}
use Rattle.fx_traffic.specs.Gains.{AreAfter, HaveGained, faults_at}
use Rattle.fx_wire.specs.Exchanges.{Exchange, Seen}

-- Wires went through these exchanges, one wire's part behind the other's; beside them so many failed, and if wires count each address alone
-- no more is counted anywhere.
pub record Went (tells alone : Bool) (failed : ℕ) (before after : List Seen) (xs : List Exchange) : Type 0 where
  pub gained : IsTrue tells → HaveGained before after xs
  pub after_all : AreAfter before after
  pub counted : IsTrue alone → (address : List ℕ) → faults_at after address ≤ faults_at before address + failed
