-- RFC 6298's exact step, and how near to it a step of whole numbers is (document 02, §2). The theorem is `near_exact` of proofs/Exact.antt.
--
-- In microseconds, SRTT = S/8 and RTTVAR = V/4. Section 2 of the RFC, with alpha = 1/8 and beta = 1/4, says of a sample R
--   (2.2), the first:  SRTT <- R                             RTTVAR <- R/2
--   (2.3), a later:    SRTT <- 7/8 * SRTT + 1/8 * R          RTTVAR <- 3/4 * RTTVAR + 1/4 * |SRTT - R|, the SRTT from before the step in both
-- Cleared of fractions, SRTT in sixty-fourths of a microsecond and RTTVAR in thirty-seconds, off the stored S and V:
--   64 * R                                                   32 * R/2 = 16 * R
--   64 * (7/8 * S/8 + 1/8 * R) = 7 * S + 8 * R               32 * (3/4 * V/4 + 1/4 * |S/8 - R|) = 6 * V + |S - 8 * R|
use Rattle.std.specs.Prelude.{ℕ, ◌+◌, ◌-◌, ◌*◌, ◌<◌, ◌≡◌, cond}
use Rattle.refusal.specs.Said.{answers}
use Rattle.rtt.specs.declared.RttEstimator.{RttEstimator}
use Rattle.rtt.specs.Rtt.{sampling}

-- |a − b|
abbrev pub distance : ℕ → ℕ → ℕ
distance a b = (a - b) + (b - a)

abbrev pub exact_smoothed : RttEstimator → ℕ → ℕ
exact_smoothed t r = cond t.sampled (7 * t.smoothed + 8 * r) (64 * r)

abbrev pub exact_variation : RttEstimator → ℕ → ℕ
exact_variation t r = cond t.sampled (6 * t.variation + distance t.smoothed (8 * r)) (16 * r)

-- half a microsecond, in sixty-fourths and in thirty-seconds
abbrev pub half_smoothed : ℕ
half_smoothed = 32

abbrev pub half_variation : ℕ
half_variation = 16

-- "Each step is proved less than half a microsecond from the RFC's exact step off the same stored numbers, for smoothed trip and variation both":
-- a stored S is 8 S sixty-fourths of a microsecond, and a stored V is 8 V thirty-seconds
pub record Near (t : RttEstimator) (r : ℕ) (left : RttEstimator) : Type 0 where
  pub smoothed : distance (8 * left.smoothed) (exact_smoothed t r) < half_smoothed
  pub variation : distance (8 * left.variation) (exact_variation t r) < half_variation

abbrev pub NearExact : Type 0
NearExact = (t : RttEstimator) (r : ℕ) (left : RttEstimator) → sampling t r ≡ (answers tt, left) → Near t r left
