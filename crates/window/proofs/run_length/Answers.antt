-- `run_length`: a held number is not below its index from the expected one on.
use Rattle.std.proofs.Common.{arith}
use Rattle.lists.specs.Numbers.{largest}
use Rattle.window.proofs.Rises.{rises_at}
use Rattle.window.proofs.run_length.Goals as goal

pub overflow_add-expected : goal.overflow_add-expected
overflow_add-expected c =
    let a = c.args in
    omega (arith, rises_at largest a.expected c.loop-k.k a.held.now c.requires (omega arith))
