-- The answers of the trip estimator as a host has them.
use Rattle.std.specs.Prelude.{ℕ}
use Rattle.refusal.specs.Said.{Said, refusal_in}
use Rattle.rtt.specs.declared.RttEstimator.{RttEstimator}
use Rattle.flat.specs.declared.waiting.Sampled.{Sampled}
use Rattle.flat.specs.declared.waiting.Wait.{Wait}
use Rattle.flat.specs.Answers.{value_or}

-- what is said of a sample, beside the estimator to go on with
abbrev pub sampled_of : Said Unit × RttEstimator → Sampled
sampled_of o = record { estimator = o.1; refusal = refusal_in o.0 }

abbrev pub wait_of : Said ℕ → Wait
wait_of s = record { micros = value_or 0 (λ n. n) s; refusal = refusal_in s }
