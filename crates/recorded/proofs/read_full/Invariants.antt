-- `recorded::read_full` stays within the buffer and ends: the measure is the number of bytes that are still to be read.
use Rattle.std.proofs.Common.{length, ◌-◌, ◌≤◌}
use Rattle.recorded.proofs.read_full.Given as goal

abbrev pub invariant-loop-done : goal.invariant-loop-done
invariant-loop-done g l = l.done ≤ length l.buf

abbrev pub decreases-loop-done : goal.decreases-loop-done
decreases-loop-done g l = length l.initial.buf - l.done
