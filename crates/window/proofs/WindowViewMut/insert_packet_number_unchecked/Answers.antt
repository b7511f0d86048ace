-- `insert_packet_number_unchecked`: past its tests a run of one number is stored.
use Rattle.std.proofs.Common.{sym, ◌∙◌, arith}
use Rattle.window.proofs.Loops.{one_past}
use Rattle.window.proofs.WindowViewMut.insert_packet_number_unchecked.Goals as goal

pub returns-clause-outcome : goal.returns-clause-outcome
returns-clause-outcome c =
    let a = c.args.self.now in
    c.store_run.ensures.outcome
    ∙ sym (one_past a.state a.cells.now c.args.n c.requires c.if-n-smallest_expected.false c.if-n-smallest_expected-ge-MAX_SLIDING_WINDOW_SIZE.false (omega arith))
