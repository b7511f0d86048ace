-- What was added, and the sum of the lengths that are left, are the whole sum.
use Rattle.std.proofs.Common.{◌≡◌, ◌+◌, ◌^◌, ◌<◌, drop}
use Rattle.writer.specs.Packing.{sum}
use Rattle.writer.proofs.checked_sum_of.Given as goal

abbrev pub invariant-loop-length : goal.invariant-loop-length
invariant-loop-length l = (l.sum < 2 ^ 64) × (l.sum + sum (drop l.length-index l.lengths) ≡ sum l.lengths)
