-- The numbers rise, so that those up to the last one answered stand in front. Assumes nothing.
use Rattle.std.proofs.Common.{rules, tests, leb, sym}
use Rattle.std.proofs.lemmas.List.Sorted.{IsPartitionedBy-leb, IsPartitionPoint-from_clause}
use Rattle.outstanding.specs.Outstanding.{store_in, numbers_of}
use Rattle.outstanding.proofs.Laws.{good, length-numbers}
use Rattle.outstanding.proofs.Loops.{in_order, up_to_is}
use Rattle.outstanding.proofs.StoreView.answered_by.Goals as goal

pub slice_bounds-partition_point-end : goal.slice_bounds-partition_point-end
slice_bounds-partition_point-end c = sym (length-numbers (good {k = store_in c.args.self.now} c.requires))

pub returns : goal.returns
returns c =
    let k = store_in c.args.self.now in
    let call = c.partition_point in
    let parted = IsPartitionedBy-leb (λ n. n) (numbers_of k) c.args.last (in_order (numbers_of k) (good {k = k} c.requires).rises) in
    up_to_is c.args.last (numbers_of k) call.result call.ensures.bound
    (IsPartitionPoint-from_clause (λ n. leb n c.args.last) (numbers_of k) call.result call.ensures.partitioned parted (λ a r f q. search (rules, tests)))
