-- The estimator's side of the invariant: every call on it keeps it well formed, and is not refused with 12.
-- Assumes nothing.
use mathlib.Core.Path.{◌≡◌, sym}
use mathlib.Core.Bool.{true}
use Rattle.rtt.specs.Rtt.{well_formed}
use Rattle.rtt.specs.declared.RttEstimator.{RttEstimator}
use Rattle.rtt.proofs.Laws.{sample_keeps, sample_never_12, wait_never_12}
use Rattle.link.specs.Demand3.{TripsCall, sample, wait_time, Called, call_trips, In}
use Rattle.link.proofs.All.{only}

pub record TripsDoes (c : Called RttEstimator) : Type 0 where
  pub keeps : well_formed c.left ≡ true
  pub never12 : In 12 c.refusals → ⊥

pub trips_does : (t : RttEstimator) (c : TripsCall) → well_formed t ≡ true → TripsDoes (call_trips t c)
trips_does t (sample r) h = record { keeps = sample_keeps t r h; never12 = λ i. sample_never_12 t r h (sym (only i)) }
trips_does t wait_time h = record { keeps = h; never12 = λ i. wait_never_12 t h (sym (only i)) }
