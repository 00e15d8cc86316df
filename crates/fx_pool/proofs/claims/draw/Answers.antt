use Rattle.std.proofs.Common.{◌≡◌, ◌+◌, ◌%◌, ◌^◌, ℕ, List, [], sym, subst, arith}
use Rattle.atomic_table.specs.Table.{Allows}
use Rattle.fx_pool.specs.declared.claims.Drawn.{Drawn}
use Rattle.fx_pool.specs.Claims.{with_drawn, IsClaimed}
use Rattle.fx_pool.proofs.ClaimLemmas.{draws}
use Rattle.fx_pool.proofs.claims.draw.Goals as goal

pub fetch_add-requires : goal.fetch_add-requires
fetch_add-requires c =
    let v : Drawn = c.args.me.now.me.0 in
    let P : List (ℕ × ℕ) → Type 0 = λ l. Allows {S = ℕ} {V = Drawn} (λ s. IsClaimed c.args.claims.now.shared.key s.words s.views) c.args.claims.now.shared.table_id.slots c.args.me.now.id (v, l) 0
    (λ n. (n + 1) % 2 ^ 64) (λ found after. after ≡ (with_drawn v found, [])) in (
      c.requires.table.0,
      omega (arith, c.requires.table.1),
      subst P (sym c.requires.may.0) (draws _ _ _ v c.requires.may.1),
    )
