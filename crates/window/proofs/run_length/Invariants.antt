-- `run_length`: the first k numbers held are the run's first k.
use Rattle.std.proofs.Common.{◌≡◌, ◌+◌, drop}
use Rattle.window.specs.Window.{run_length}
use Rattle.window.proofs.run_length.Given as goal

abbrev pub invariant-loop-k : goal.invariant-loop-k
invariant-loop-k l = run_length l.expected l.held ≡ l.k + run_length (l.expected + l.k) (drop l.k l.held)
