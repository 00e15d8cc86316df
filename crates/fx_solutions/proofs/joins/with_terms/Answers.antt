use Rattle.std.proofs.Common.{◌≡◌, ◌-◌, length, take, drop, arith, rules, length-drop, List, subst, sym}
use Rattle.std.specs.Ordering.{is_lt, is_le}
use Rattle.std.specs.List.Sorted.{IsPartitionedBy}
use Rattle.std.proofs.lemmas.List.{take_all}
use Rattle.std.proofs.lemmas.List.Sorted.{IsPartitionPoint-from_clause}
use Rattle.fx_algebra.specs.Solutions.{Bindings}
use Rattle.fx_algebra.specs.Sequences.{row_cmp}
use Rattle.fx_solutions.proofs.RunLemmas.{run_is}
use Rattle.fx_solutions.proofs.JoinLemmas.{below_partitioned, up_to_partitioned, partitioned_drop}
use Rattle.fx_solutions.proofs.joins.with_terms.Goals as goal

pub returns : goal.returns
returns c =
    let xs = c.args.rows.now in
    let names = c.args.names.now in
    let row = c.args.row.now in
    let start = c.partition_point-start.result in
    let end = c.partition_point-end.result in
    let rest = take (length xs - start) (drop start xs) in
    let e : rest ≡ drop start xs = take_all (length xs - start) (drop start xs) (omega (arith, length-drop start xs)) in
    run_is (λ (r : Bindings). row_cmp names r row) xs rest start end c.partition_point-start.ensures.bound
    (IsPartitionPoint-from_clause (λ (r : Bindings). is_lt (row_cmp names r row)) xs start c.partition_point-start.ensures.partitioned (below_partitioned names row xs c.requires) (λ a r f called. search rules))
    e
    c.partition_point-end.ensures.bound
    (IsPartitionPoint-from_clause (λ (r : Bindings). is_le (row_cmp names r row)) rest end c.partition_point-end.ensures.partitioned
    (subst (λ (v : List Bindings). IsPartitionedBy (λ r. is_le (row_cmp names r row)) v) (sym e) (partitioned_drop (λ r. is_le (row_cmp names r row)) start xs (up_to_partitioned names row xs c.requires))) (λ a r f called. search rules))
