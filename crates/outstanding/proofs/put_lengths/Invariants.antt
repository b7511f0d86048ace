-- Before turn i, what is written and the lengths left to write are all of them.
use Rattle.std.proofs.Common.{◌≡◌, ◌-◌, ◌++◌, length, take}
use Rattle.outstanding.specs.Steps.{sizes_for}
use Rattle.outstanding.proofs.put_lengths.Given as goal

abbrev pub invariant-loop-length : goal.invariant-loop-length
invariant-loop-length l =
    take l.length-index l.lengths ++ sizes_for l.left (length l.lengths - l.length-index) ≡ sizes_for l.q (length l.fn.lengths)
