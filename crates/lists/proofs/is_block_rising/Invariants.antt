-- `is_block_rising`: what it says before turn i is that the first i numbers rise.
use Rattle.std.proofs.Common.{◌≡◌, take}
use Rattle.lists.specs.Rising.{rising}
use Rattle.lists.proofs.is_block_rising.Given as goal

abbrev pub invariant-loop-i : goal.invariant-loop-i
invariant-loop-i l = l.rises ≡ rising (take l.i l.numbers)
