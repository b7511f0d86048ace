-- What the test said.
use Rattle.ordered_bytes.proofs.WellFormed.{good}
use Rattle.ordered_bytes.proofs.BufferViewMut.assume_checked.Goals as goal

pub invariant_of-result : goal.invariant_of-result
invariant_of-result c = record { good = rw c.view.ensures.whole (good c.requires) }

pub returns-clause-good : goal.returns-clause-good
returns-clause-good c = good c.requires
