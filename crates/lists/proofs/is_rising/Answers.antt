-- `is_rising`: a block that does not rise decides, and one that does leaves it to the numbers from its last on.
use Rattle.std.proofs.Common.{arith}
use Rattle.std.proofs.lemmas.List.{take_rest}
use Rattle.std.proofs.lemmas.Bool.Decides.{nat_tests}
use Rattle.lists.proofs.Rising.{rising_parts}
use Rattle.lists.proofs.is_rising.Goals as goal

pub returns-then-not-is_block_rising : goal.returns-then-not-is_block_rising
returns-then-not-is_block_rising c =
    let parts = rising_parts 65 c.loop-rest.rest.now in
    grind (arith, nat_tests)

pub loop-rest-preserved : goal.loop-rest-preserved
loop-rest-preserved c =
    let parts = rw (← take_rest c.loop-rest.rest.now 64) at (rising_parts 65 c.loop-rest.rest.now) in
    grind (arith, nat_tests)
