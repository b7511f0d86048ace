-- `fill`: before turn i, what is written and the numbers left to write are all of them. Those written are paid.
use Rattle.std.proofs.Common.{◌≡◌, ◌+◌, ◌-◌, ◌++◌, length, take}
use Rattle.window.specs.Window.{numbers}
use Rattle.window.proofs.fill.Given as goal

abbrev pub invariant-loop-cell : goal.invariant-loop-cell
invariant-loop-cell l = record {
  is : take l.cell-index l.cells ++ numbers l.number (length l.cells - l.cell-index) ≡ numbers l.base (length l.fn.cells);
  next : l.number ≡ l.base + l.cell-index;
  paid : l.fn.budget ≡ l.budget + l.cell-index;
}
