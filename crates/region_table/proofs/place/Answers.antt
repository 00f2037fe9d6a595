-- `place` meets its contract: the numbers below p stand before the others.
use Rattle.std.proofs.Common.{ltb, ltb-true, ltb-false, arith, rules}
use Rattle.std.proofs.lemmas.List.Sorted.{IsPartitionPoint-from_clause, IsPartitionedBy-ltb}
use Rattle.region_table.proofs.Lookup.{ascends}
use Rattle.region_table.proofs.place.Goals as goal

pub returns : goal.returns
returns c =
    let parted = IsPartitionedBy-ltb (λ x. x) _ c.args.p (ascends c.args.regions.now c.requires) in
    let point = IsPartitionPoint-from_clause (λ x. ltb x c.args.p) _ _ c.partition_point.ensures.partitioned parted (λ a r q k. search rules) in
    record {
      within = c.partition_point.ensures.bound;
      below = λ k h. ltb-true _ _ (point.0 k 0 (omega arith) h);
      from = λ k h l. ltb-false _ _ (point.1 k 0 h l);
    }
