-- Before turn i, what is written and the numbers left to write are all of them.
use Rattle.std.proofs.Common.{◌≡◌, ◌+◌, ◌-◌, ◌++◌, length, take}
use Rattle.outstanding.specs.Steps.{counting}
use Rattle.outstanding.proofs.put_numbers.Given as goal

abbrev pub invariant-loop-i : goal.invariant-loop-i
invariant-loop-i l =
    take l.i l.numbers ++ counting (l.next + l.i) (length l.numbers - l.i) ≡ counting l.next (length l.fn.numbers)
