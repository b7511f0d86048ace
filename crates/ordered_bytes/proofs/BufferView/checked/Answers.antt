-- What the test says.
use Rattle.std.proofs.Common.{sym}
use Rattle.ordered_bytes.proofs.WellFormed.{good}
use Rattle.ordered_bytes.proofs.BufferView.checked.Goals as goal

pub invariant_of-result : goal.invariant_of-result
invariant_of-result c = record { good = good (sym c.if-well_formed.ensures) }
