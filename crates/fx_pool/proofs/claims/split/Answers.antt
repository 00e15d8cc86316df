use Rattle.std.proofs.Common.{arith}
use Rattle.fx_pool.proofs.ClaimLemmas.{splits}
use Rattle.fx_pool.proofs.claims.split.Goals as goal

pub split_seat-requires : goal.split_seat-requires
split_seat-requires c =
    let may = c.requires.may in
    (c.requires.table.0, omega (arith, c.requires.table.1), splits _ _ _ may.0 may.1 may.2)
