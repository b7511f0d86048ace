-- The boundaries of the waiting time hold of its definitions: each row computes. Assumes nothing.
use Rattle.rtt.specs.Rtt.{sampling, waiting}
use Rattle.samples.specs.RttRows.{SampleRows, WaitRows, ExactRows}

pub sample_rows : SampleRows
unfolding sampling
sample_rows = search

pub wait_rows : WaitRows
unfolding waiting
wait_rows = search

pub exact_rows : ExactRows
unfolding sampling
exact_rows = search
