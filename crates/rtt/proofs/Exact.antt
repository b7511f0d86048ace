-- Each step lies less than half a microsecond from RFC 6298's exact step off the same stored numbers (specs/Exact.antt).
-- The largest distances are 7 sixty-fourths, at (S, V, R) = (7, 0, 0), and 13 thirty-seconds, at (7, 3, 1). Over a run the roundings add up: nothing is claimed there.
-- Assumes nothing.
use Prim.Native.Nat.{ℕ, ◌+◌, ◌*◌, ◌<◌}
use mathlib.Core.Path.{◌≡◌, sym, ap, ◌∙◌}
use mathlib.Core.Bool.{Bool, true, false, cond}
use native.Mathlib.Omega.{arith}
use Rattle.refusal.specs.Said.{Said, answers, refuses}
use Rattle.refusal.proofs.Checks.{Checked, passes, fails, checked}
use Rattle.rtt.specs.declared.RttEstimator.{RttEstimator}
use Rattle.rtt.specs.Rtt.{smoothed_after, variation_after, first, later, after, sample_checks, sampling}
use Rattle.rtt.specs.Exact.{distance, exact_smoothed, exact_variation, half_smoothed, half_variation, NearExact}
use Rattle.rtt.proofs.Signed.{smoothed_is, variation_is}

-- what an unrefused sample leaves
module _ (t : RttEstimator) (r : ℕ) (left : RttEstimator) where
  abbrev refused : ℕ → Said Unit × RttEstimator
  refused n = (refuses n, t)

  left_is : sampling t r ≡ (answers tt, left) → after t r ≡ left
  unfolding sampling
  left_is e = by (checked refused (answers tt, after t r) (sample_checks t r))
    where
      by : Checked (sample_checks t r) refused (answers tt, after t r) → after t r ≡ left
      by (passes p q) = ap (λ (o : Said Unit × RttEstimator). o.1) (sym q ∙ e)
      by (fails n f q) =
          let both : ◌≡◌ {A = Said Unit} (refuses n) (answers tt) = ap (λ (o : Said Unit × RttEstimator). o.0) (sym q ∙ e) in
          cc

module _ (s v r : ℕ) where
  smoothed_near : distance (8 * smoothed_after r s) (7 * s + 8 * r) < half_smoothed
  smoothed_near = omega (arith, smoothed_is r s)

  variation_near : distance (8 * variation_after r s v) (6 * v + distance s (8 * r)) < half_variation
  variation_near = omega (arith, variation_is r s v)

module _ (t : RttEstimator) (r : ℕ) where
  after_smoothed : distance (8 * (after t r).smoothed) (exact_smoothed t r) < half_smoothed
  after_smoothed = by t.sampled
    where
      by : (b : Bool) → distance (8 * (cond b (later t r) (first r)).smoothed) (cond b (7 * t.smoothed + 8 * r) (64 * r)) < half_smoothed
      by true = smoothed_near t.smoothed t.variation r
      by false = omega arith

  after_variation : distance (8 * (after t r).variation) (exact_variation t r) < half_variation
  after_variation = by t.sampled
    where
      by : (b : Bool)
          → distance (8 * (cond b (later t r) (first r)).variation) (cond b (6 * t.variation + distance t.smoothed (8 * r)) (16 * r)) < half_variation
      by true = variation_near t.smoothed t.variation r
      by false = omega arith

pub near_exact : NearExact
near_exact t r left e =
    let is = left_is t r left e in
    record {
      smoothed = omega (arith, ap (λ (u : RttEstimator). u.smoothed) is, after_smoothed t r);
      variation = omega (arith, ap (λ (u : RttEstimator). u.variation) is, after_variation t r);
    }
