-- `first_held`: no number of the range below base + i is held, as the number at base's place is not below that. Each of those i is paid.
use Rattle.std.proofs.Common.{◌≡◌, ◌≤◌, ◌+◌}
use Rattle.window.proofs.first_held.Given as goal

abbrev pub invariant-loop-i : goal.invariant-loop-i
invariant-loop-i l = record {
  from : l.i ≤ l.distance;
  paid : l.fn.budget ≡ l.budget + l.i;
}
