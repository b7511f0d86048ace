-- As the numbers rise, the last is below the next number where all are. Assumes nothing.
use Rattle.std.proofs.Common.{sym, arith}
use Rattle.outstanding.specs.Outstanding.{store_in}
use Rattle.outstanding.proofs.Laws.{room, below_none, below_by_last}
use Rattle.outstanding.proofs.StoreView.well_formed_below.Goals as goal

pub offset_bounds-self-count : goal.offset_bounds-self-count
offset_bounds-self-count c = omega (arith, room (store_in c.args.self.now) (sym c.if-well_formed.ensures))

pub bounds-self-count : goal.bounds-self-count
bounds-self-count c = omega (arith, room (store_in c.args.self.now) (sym c.if-well_formed.ensures))

pub returns-then-count-eq0 : goal.returns-then-count-eq0
returns-then-count-eq0 c =
    rw (below_none c.args.next (store_in c.args.self.now) (sym c.if-well_formed.ensures) c.if-count-eq0.true, c.if-count-eq0.true)

pub returns-else-count-eq0 : goal.returns-else-count-eq0
returns-else-count-eq0 c =
    sym (below_by_last c.args.next (store_in c.args.self.now) (sym c.if-well_formed.ensures) (omega arith))
