use Rattle.std.proofs.Common.{arith}
use Rattle.fx_pool.proofs.ClaimLemmas.{joins}
use Rattle.fx_pool.proofs.claims.joined.Goals as goal

pub join_seat-requires : goal.join_seat-requires
join_seat-requires c =
    let may = c.requires.may in
    (c.requires.table.0, c.requires.table.1, may.3, omega (arith, c.requires.table.2), joins _ _ _ _ _ may.0 may.1)
