use Rattle.std.proofs.Common.{rules}
use Rattle.std.proofs.lemmas.List.Sorted.{IsNonDecreasingBy-from_sort_by_key}
use Rattle.fx_pool.specs.Sharing.{number_of}
use Rattle.fx_pool.proofs.ordering.order.Goals as goal

pub returns-clause-rising : goal.returns-clause-rising
returns-clause-rising c = IsNonDecreasingBy-from_sort_by_key number_of c.sort_unstable_by_key.new.self.items c.sort_unstable_by_key.ensures.sorted (search rules)
