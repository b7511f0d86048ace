-- Document 02, §2: RFC 6298's smoothing of measured round trips in whole microseconds, and the waiting time.
-- S, `smoothed`, is the smoothed trip in eighths of a microsecond; V, `variation`, its variation in quarters.
-- A definition takes the estimator as it came; a sample's gives what is said and the estimator left.
use Rattle.std.specs.Prelude.{ℕ, ◌+◌, ◌-◌, ◌*◌, ◌/◌, max, min, Bool, true, false, not, cond, ◌&&◌, List, [], ◌∷◌, ℤ, pos, nat_abs, ◌+ℤ◌, ◌-ℤ◌, ltb, leb}
use Rattle.refusal.specs.Said.{Said, answers, refuses, checks}
use Rattle.rtt.specs.declared.RttEstimator.{RttEstimator}

-- one that has taken a sample
abbrev pub estimator : ℕ → ℕ → RttEstimator
estimator s v = record { smoothed = s; variation = v; sampled = true }

-- before any sample
abbrev pub fresh : RttEstimator
fresh = record { smoothed = 0; variation = 0; sampled = false }

-- "A stored S above 480,000,000 or V above 240,000,000 is malformed", before any sample too
abbrev pub largest_smoothed : ℕ
largest_smoothed = 480000000

abbrev pub largest_variation : ℕ
largest_variation = 240000000

abbrev pub well_formed : RttEstimator → Bool
well_formed t = leb t.smoothed largest_smoothed && leb t.variation largest_variation

-- "e = R − S/8, rounded down before subtracting and signed"
abbrev pub error : ℕ → ℕ → ℤ
error r s = pos r -ℤ pos (s / 8)

-- "S grows by e": never below 0 (`grows` of proofs/Signed.antt)
abbrev pub smoothed_after : ℕ → ℕ → ℕ
smoothed_after r s = nat_abs (pos s +ℤ error r s)

-- "V by the size of e less V/4 rounded down"
abbrev pub variation_after : ℕ → ℕ → ℕ → ℕ
variation_after r s v = v + nat_abs (error r s) - v / 4

-- "The first sample R sets S = 8R, V = 2R. After that .."
abbrev pub first : ℕ → RttEstimator
first r = estimator (8 * r) (2 * r)

abbrev pub later : RttEstimator → ℕ → RttEstimator
later t r = estimator (smoothed_after r t.smoothed) (variation_after r t.smoothed t.variation)

abbrev pub after : RttEstimator → ℕ → RttEstimator
after t r = cond t.sampled (later t r) (first r)

-- "Refused: 14, first of all, for a sample above 60,000,000", with all unchanged
abbrev pub longest_sample : ℕ
longest_sample = 60000000

abbrev pub sample_checks : RttEstimator → ℕ → List (Bool × ℕ)
sample_checks t r = (ltb longest_sample r, 14) ∷ (not (well_formed t), 12) ∷ []

unfoldable pub sampling : RttEstimator → ℕ → Said Unit × RttEstimator
sampling t r = checks (sample_checks t r) (λ n. (refuses n, t)) (answers tt, after t r)

-- "held between 1,000,000 and 60,000,000"
abbrev pub shortest_wait : ℕ
shortest_wait = 1000000

abbrev pub longest_wait : ℕ
longest_wait = 60000000

abbrev pub held_between_bounds : ℕ → ℕ
held_between_bounds n = min longest_wait (max shortest_wait n)

-- "The wait is S/8 rounded down plus the larger of 1,000 and V", so held: the RFC's RTO
abbrev pub rto : ℕ → ℕ → ℕ
rto s v = held_between_bounds (s / 8 + max 1000 v)

-- "Before any sample the wait is 1,000,000."
abbrev pub first_wait : ℕ
first_wait = 1000000

unfoldable pub waiting : RttEstimator → Said ℕ
waiting t = checks ((not (well_formed t), 12) ∷ []) refuses (answers (cond t.sampled (rto t.smoothed t.variation) first_wait))
