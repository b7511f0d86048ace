-- Demand 3 of the sample run (Sample.antt): so what the claim says of it (Consequences.antt) is so.
-- Assumes nothing.
use Rattle.link.proofs.Demand3.{demand3}
use Rattle.link.proofs.Sample.{s, state, memory, to_hole, to_consume, calls, meets_to_hole, meets_to_consume, meets_calls}
use Rattle.link.proofs.Consequences.{Shows, says}

pub shows : Shows
shows =
    says (demand3 s 1500 state memory to_hole meets_to_hole) (demand3 s 1500 state memory to_consume meets_to_consume) (demand3 s 1500 state memory calls meets_calls)
