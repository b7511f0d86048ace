-- What the claim of half a microsecond says (specs/Exact.antt), read off it and not proved anew: of every sample that is taken, a first or a later one,
-- twice the distance from the exact step is less than a microsecond, 64 sixty-fourths or 32 thirty-seconds. A claim that said less would not give it.
-- Assumes nothing.
use Prim.Native.Nat.{ℕ, ◌+◌, ◌*◌, ◌<◌}
use mathlib.Core.Path.{◌≡◌}
use native.Mathlib.Omega.{arith}
use Rattle.refusal.specs.Said.{answers}
use Rattle.rtt.specs.declared.RttEstimator.{RttEstimator}
use Rattle.rtt.specs.Rtt.{estimator, fresh, sampling}
use Rattle.rtt.specs.Exact.{distance, NearExact}
use Rattle.rtt.proofs.Exact.{near_exact}

pub record Shows : Type 0 where
  pub first : (r : ℕ) (left : RttEstimator) → sampling fresh r ≡ (answers tt, left)
      → (2 * distance (8 * left.smoothed) (64 * r) < 64) × (2 * distance (8 * left.variation) (16 * r) < 32)
  pub later : (s v r : ℕ) (left : RttEstimator) → sampling (estimator s v) r ≡ (answers tt, left)
      → (2 * distance (8 * left.smoothed) (7 * s + 8 * r) < 64) × (2 * distance (8 * left.variation) (6 * v + distance s (8 * r)) < 32)

says : NearExact → Shows
says claim = record {
  first = λ r left e. let n = claim fresh r left e in (omega (arith, n.smoothed), omega (arith, n.variation));
  later = λ s v r left e. let n = claim (estimator s v) r left e in (omega (arith, n.smoothed), omega (arith, n.variation));
}

pub shows : Shows
shows = says near_exact
