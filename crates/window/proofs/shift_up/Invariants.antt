-- `shift_up`: with i left to move, the cells are as they came, but those from i to count stand k further up, and are paid.
use Rattle.std.proofs.Common.{◌≡◌, ◌≤◌, ◌+◌, ◌-◌, drop}
use Rattle.std.proofs.Math.Seq.{paste}
use Rattle.window.proofs.shift_up.Given as goal

abbrev pub invariant-loop-i : goal.invariant-loop-i
invariant-loop-i l = record {
  above : l.from ≤ l.i;
  is : l.cells ≡ paste l.fn.cells (l.i + l.k) (drop l.i l.fn.cells) (l.count - l.i);
  paid : l.fn.budget + l.i ≡ l.budget + l.count;
}
