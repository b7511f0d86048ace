-- `is_rising`: all numbers rise if those from the next block on do.
use Rattle.std.proofs.Common.{◌≡◌, length}
use Rattle.lists.specs.Rising.{rising}
use Rattle.lists.proofs.is_rising.Given as goal

abbrev pub invariant-loop-rest : goal.invariant-loop-rest
invariant-loop-rest l = rising l.numbers ≡ rising l.rest

abbrev pub decreases-loop-rest : goal.decreases-loop-rest
decreases-loop-rest l = length l.rest
