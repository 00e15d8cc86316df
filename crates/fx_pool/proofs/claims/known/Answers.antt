use Rattle.std.proofs.Common.{◌≡◌, ◌<◌, ℕ, List, sym, subst, arith}
use Rattle.atomic_table.specs.Table.{Allows}
use Rattle.fx_pool.specs.declared.claims.Drawn.{Drawn}
use Rattle.fx_pool.specs.Claims.{times, once_below, IsClaimed}
use Rattle.fx_pool.proofs.ClaimLemmas.{knows}
use Rattle.fx_pool.proofs.claims.known.Goals as goal

pub load-requires : goal.load-requires
load-requires c =
    let v : Drawn = c.args.me.now.me.0 in
    let P : List (ℕ × ℕ) → Type 0 = λ l. Allows {S = ℕ} {V = Drawn} (λ s. IsClaimed c.args.claims.now.shared.key s.words s.views) c.args.claims.now.shared.table_id.slots c.args.me.now.id (v, l) 0
    (λ n. n) (λ found after. (after ≡ (v, l)) × ((x : ℕ) → times x v.numbers ≡ once_below x found) × (0 < v.past → v.jobs < found)) in (
      c.requires.table.0,
      omega (arith, c.requires.table.1),
      subst P (sym c.requires.may.1) (knows _ _ _ v c.requires.may.0),
    )
