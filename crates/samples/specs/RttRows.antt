-- Boundaries of the waiting time: document 02, §2.
use Rattle.std.specs.Prelude.{ℕ, ◌-◌, ◌*◌, ◌^◌, ◌≡◌, true, false, List, [], ◌∷◌, map}
use Rattle.refusal.specs.Said.{Said, answers, refuses}
use Rattle.rtt.specs.declared.RttEstimator.{RttEstimator}
use Rattle.rtt.specs.Rtt.{fresh, sampling, waiting}
use Rattle.rtt.specs.Exact.{exact_smoothed, exact_variation}

-- an estimator by S and V, and one that stores S and V before any sample
abbrev pub sampled : ℕ → ℕ → RttEstimator
sampled s v = record { smoothed = s; variation = v; sampled = true }

abbrev pub unsampled : ℕ → ℕ → RttEstimator
unsampled s v = record { smoothed = s; variation = v; sampled = false }

-- a sample R sets S and V
abbrev pub Sets : RttEstimator → ℕ → ℕ → ℕ → Type 0
Sets t r s v = ◌≡◌ {A = Said Unit × RttEstimator} (sampling t r) (answers tt, sampled s v)

-- "it leaves all unchanged"
abbrev pub Refuses : RttEstimator → ℕ → ℕ → Type 0
Refuses t r n = ◌≡◌ {A = Said Unit × RttEstimator} (sampling t r) (refuses n, t)

-- "A stored S above 480,000,000 or V above 240,000,000 is malformed", sampled or not
abbrev pub malformed : List RttEstimator
malformed =
    sampled 480000001 0
    ∷ sampled 0 240000001
    ∷ sampled 480000001 240000001
    ∷ sampled (2 ^ 64 - 1) (2 ^ 64 - 1)
    ∷ unsampled 480000001 0
    ∷ unsampled 0 240000001
    ∷ []

-- a sample is refused with n of all of these, and each is left as it was
abbrev pub RefusesAll : ℕ → ℕ → Type 0
RefusesAll r n = map {B = Said Unit × RttEstimator} (λ t. sampling t r) malformed ≡ map (λ (t : RttEstimator). (refuses n, t)) malformed

pub record SampleRows : Type 0 where
  -- "The first sample R sets S = 8R, V = 2R.", whatever is stored
  pub first : Sets fresh 1000 8000 2000
  pub first_0 : Sets fresh 0 0 0
  pub first_longest : Sets fresh 60000000 480000000 120000000
  pub first_over_stored : Sets (unsampled 480000000 240000000) 1000 8000 2000
  -- a sample of 0 was one, and the next is not the first
  pub after_0 : Sets (sampled 0 0) 1000 1000 1000
  -- "e = R − S/8, .. and signed; S grows by e, V by the size of e less V/4": e is 80, −80, 0
  pub above : Sets (sampled 8000 2000) 1080 8080 1580
  pub below : Sets (sampled 8000 2000) 920 7920 1580
  pub equal : Sets (sampled 8000 2000) 1000 8000 1500
  -- ".. rounded down before subtracting": e is 0, where 1000 − 1000.875 rounded is −1; then 1 and not 0
  pub eighth_rounded_down : Sets (sampled 8007 2000) 1000 8007 1500
  pub eighth_rounded_down_above : Sets (sampled 8007 2000) 1001 8008 1501
  -- "V/4 rounded down": 0 of 1 and of 3, where the whole difference rounded down gives V = 0 and 2; 1 of 4
  pub quarter_of_1 : Sets (sampled 0 1) 0 0 1
  pub quarter_of_3 : Sets (sampled 0 3) 0 0 3
  pub quarter_of_4 : Sets (sampled 0 4) 0 0 3
  -- S does not fall below 0
  pub falls : Sets (sampled 8 0) 0 7 1
  pub falls_no_further : Sets (sampled 7 0) 0 7 0
  -- S and V reach their bounds, and do not pass them
  pub both_largest : Sets (sampled 480000000 240000000) 60000000 480000000 180000000
  pub variation_largest : Sets (sampled 0 240000000) 60000000 60000000 240000000
  pub falls_from_largest : Sets (sampled 480000000 240000000) 0 420000000 240000000
  -- "14, first of all, for a sample above 60,000,000": before 12
  pub too_long : Refuses (sampled 8000 2000) 60000001 14
  pub too_long_first : Refuses fresh 60000001 14
  pub too_long_64_bits : Refuses fresh (2 ^ 64 - 1) 14
  pub too_long_before_12 : RefusesAll 60000001 14
  -- "malformed, 12"
  pub longest_12 : RefusesAll 60000000 12
  pub shortest_12 : RefusesAll 0 12

abbrev pub Waits : RttEstimator → ℕ → Type 0
Waits t n = waiting t ≡ answers n

pub record WaitRows : Type 0 where
  -- "Before any sample the wait is 1,000,000.", whatever is stored; after one of 0 too
  pub first : Waits fresh 1000000
  pub first_over_stored : Waits (unsampled 480000000 240000000) 1000000
  pub after_0 : Waits (sampled 0 0) 1000000
  -- "S/8 rounded down plus the larger of 1,000 and V"
  pub sum : Waits (sampled 16000000 500000) 2500000
  pub eighth_rounded_down : Waits (sampled 16000007 500000) 2500000
  pub eighth_up : Waits (sampled 16000008 500000) 2500001
  pub variation_0 : Waits (sampled 16000000 0) 2001000
  pub variation_999 : Waits (sampled 16000000 999) 2001000
  pub variation_1000 : Waits (sampled 16000000 1000) 2001000
  pub variation_1001 : Waits (sampled 16000000 1001) 2001001
  -- "held between 1,000,000 and 60,000,000": 999,999 and 1,000,001, 59,999,999 and 60,000,001 before that
  pub shortest : Waits (sampled 7991992 0) 1000000
  pub above_shortest : Waits (sampled 7992008 0) 1000001
  pub below_longest : Waits (sampled 479991992 0) 59999999
  pub longest : Waits (sampled 479992008 0) 60000000
  pub both_largest : Waits (sampled 480000000 240000000) 60000000
  -- "malformed, 12"
  pub each_12 : map waiting malformed ≡ map (λ (t : RttEstimator). refuses 12) malformed

-- RFC 6298, off S = 8,000 and V = 2,000: SRTT 1,000 and RTTVAR 500; and how far the step is from it where it is furthest
pub record ExactRows : Type 0 where
  -- a first sample of 1,000: SRTT 1,000 in sixty-fourths, RTTVAR 500 in thirty-seconds
  pub first_smoothed : exact_smoothed fresh 1000 ≡ 1000 * 64
  pub first_variation : exact_variation fresh 1000 ≡ 500 * 32
  -- 7/8 of 1,000 and 1/8 of 1,080; 3/4 of 500 and 1/4 of the 80 between, above or below
  pub above_smoothed : exact_smoothed (sampled 8000 2000) 1080 ≡ 1010 * 64
  pub above_variation : exact_variation (sampled 8000 2000) 1080 ≡ 395 * 32
  pub below_variation : exact_variation (sampled 8000 2000) 920 ≡ 395 * 32
  -- 7/8 of 7/8 is 49 sixty-fourths, where 56 are stored: the furthest of S
  pub furthest_smoothed : exact_smoothed (sampled 7 0) 0 ≡ 49
  pub furthest_smoothed_stored : Sets (sampled 7 0) 0 7 0
  -- 3/4 of 3/4 and 1/4 of the eighth between are 19 thirty-seconds, where 32 are stored: the furthest of V
  pub furthest_variation : exact_variation (sampled 7 3) 1 ≡ 19
  pub furthest_variation_stored : Sets (sampled 7 3) 1 8 4
