-- `fill`: a turn writes the first of the numbers left.
use Rattle.std.proofs.Common.{◌∙◌, sym, arith, length-set}
use Rattle.window.proofs.Loops.{fill_turn, fill_end}
use Rattle.window.proofs.fill.Goals as goal

pub loop-cell-preserved : goal.loop-cell-preserved
loop-cell-preserved c =
    let w = c.loop-cell in record {
      is = simp length-set (fill_turn w.cells w.cell-index w.number (omega arith) ∙ w.invariant.is);
      next = omega arith;
      paid = omega arith;
    }

pub returns-clause-cells_after : goal.returns-clause-cells_after
returns-clause-cells_after c =
    let w = c.loop-cell in
    sym (fill_end w.cells w.cell-index w.number (omega arith)) ∙ w.invariant.is
