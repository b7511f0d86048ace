-- The paper's step, which is signed, in naturals: arithmetic on ℤ ends here.
-- Assumes nothing.
use Prim.Native.Nat.{ℕ, ◌+◌, ◌-◌, ◌/◌}
use mathlib.Core.Path.{◌≡◌}
use native.Mathlib.Omega.{arith}
use lib.IntN.{pos, ◌+ℤ◌}
use Rattle.std.proofs.lemmas.Int.{ints}
use Rattle.rtt.specs.Rtt.{error, smoothed_after, variation_after}
use Rattle.rtt.specs.Exact.{distance}

pub smoothed_is : (r s : ℕ) → smoothed_after r s ≡ s + r - s / 8
smoothed_is r s = grind (arith, ints)

pub variation_is : (r s v : ℕ) → variation_after r s v ≡ v + distance r (s / 8) - v / 4
variation_is r s v = grind (arith, ints)

-- "S grows by e", as a signed number: S never falls below 0
pub grows : (r s : ℕ) → pos (smoothed_after r s) ≡ pos s +ℤ error r s
grows r s = grind (arith, ints)
