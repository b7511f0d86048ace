-- `store_run`: the searches say how many numbers are stored, a shift and a fill are what the definition stores.
use Rattle.std.proofs.Common.{arith}
use borrow.Author.Tests.{lt-ltb, le-ltb}
use Rattle.window.proofs.Rises.{held_fits}
use Rattle.window.proofs.Loops.{run_of, run_of_none, filled_is}
use Rattle.window.proofs.WindowViewMut.store_run.Goals as goal

pub returns-then-k-eq0-clause-outcome : goal.returns-then-k-eq0-clause-outcome
returns-then-k-eq0-clause-outcome c =
    let a = c.args.self.now in
    let fits = held_fits _ _ c.requires.good.0 in
    run_of_none a.state a.cells.now _ _ _ _ c.held-held.ensures.numbers c.first_held-k.ensures.value.0 fits c.requires.good.1 c.if-k-eq0.true

pub returns-then-k-range-clause-outcome : goal.returns-then-k-range-clause-outcome
returns-then-k-range-clause-outcome c =
    let a = c.args.self.now in
    let at = c.find_place-at in
    let fits = held_fits _ _ c.requires.good.0 in
    let is = run_of a.state a.cells.now _ _ _ _ c.held-held.ensures.numbers c.first_held-k.ensures.value.0 at.result at.ensures.value.0 (omega arith) (omega arith)
    c.shift_up.ensures.cells_after (filled_is _ at.result c.args.base _ (omega arith) c.fill.ensures.cells_after) in
    rw (lt-ltb _ _ c.if-k-range.true) at is

pub returns-clause-outcome : goal.returns-clause-outcome
returns-clause-outcome c =
    let a = c.args.self.now in
    let at = c.find_place-at in
    let fits = held_fits _ _ c.requires.good.0 in
    let is = run_of a.state a.cells.now _ _ _ _ c.held-held.ensures.numbers c.first_held-k.ensures.value.0 at.result at.ensures.value.0 (omega arith) (omega arith)
    c.shift_up.ensures.cells_after (filled_is _ at.result c.args.base _ (omega arith) c.fill.ensures.cells_after) in
    rw (le-ltb _ _ c.if-k-range.false) at is
