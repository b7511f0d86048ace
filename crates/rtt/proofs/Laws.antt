-- What the calls keep and answer: a step from a well-formed estimator leaves one, such a one is never refused with 12, and the wait lies within its bounds.
-- Assumes nothing.
use Prim.Native.Nat.{ℕ, ◌≤◌}
use mathlib.Core.Path.{◌≡◌, refl}
use mathlib.Core.Bool.{Bool, true, false, not, cond}
use native.Mathlib.Omega.{arith}
use lib.Dec.{ltb}
use borrow.Author.Tests.{ltb-false}
use Rattle.std.proofs.lemmas.Bool.Decides.{nat_tests}
use Rattle.refusal.specs.Said.{Said, answers, refuses, refusal_in}
use Rattle.rtt.specs.declared.RttEstimator.{RttEstimator}
use Rattle.rtt.specs.Rtt.{fresh, well_formed, first, later, after, longest_sample, sampling}
use Rattle.rtt.specs.Rtt.{shortest_wait, longest_wait, rto, first_wait, waiting}
use Rattle.rtt.proofs.Signed.{smoothed_is, variation_is}

pub fresh_well_formed : well_formed fresh ≡ true
fresh_well_formed = refl

-- ---- a sample

after_well_formed : (t : RttEstimator) (r : ℕ) → well_formed t ≡ true → r ≤ longest_sample → well_formed (after t r) ≡ true
after_well_formed t r h l = by t.sampled
  where
    by : (b : Bool) → well_formed (cond b (later t r) (first r)) ≡ true
    by true = grind (arith, nat_tests, smoothed_is r t.smoothed, variation_is r t.smoothed t.variation)
    by false = grind (arith, nat_tests)

module _ (t : RttEstimator) (r : ℕ) (h : well_formed t ≡ true) where
  -- of a well-formed estimator the length of the sample alone decides
  sampled_so : (P : Said Unit × RttEstimator → Type 0) → P (refuses 14, t) → (r ≤ longest_sample → P (answers tt, after t r)) → P (sampling t r)
  unfolding sampling
  sampled_so P long fits = rw h (by (ltb longest_sample r) refl)
    where
      by : (b : Bool) → ltb longest_sample r ≡ b → P (cond b (refuses 14, t) (answers tt, after t r))
      by true q = long
      by false q = fits (ltb-false longest_sample r q)

  pub sample_keeps : well_formed (sampling t r).1 ≡ true
  sample_keeps = sampled_so (λ o. well_formed o.1 ≡ true) h (after_well_formed t r h)

  pub sample_never_12 : refusal_in (sampling t r).0 ≡ 12 → ⊥
  sample_never_12 = sampled_so (λ o. refusal_in o.0 ≡ 12 → ⊥) (λ e. omega arith) (λ l e. omega arith)

-- ---- the wait

module _ (t : RttEstimator) where
  pub wait_never_12 : well_formed t ≡ true → refusal_in (waiting t) ≡ 12 → ⊥
  unfolding waiting
  wait_never_12 h e = let z : ◌≡◌ {A = ℕ} 0 12 = rw h at e in cc

  -- "held between 1,000,000 and 60,000,000", before any sample too
  pub wait_within : (n : ℕ) → waiting t ≡ answers n → (shortest_wait ≤ n) × (n ≤ longest_wait)
  unfolding waiting
  wait_within n e = by (well_formed t) t.sampled e
    where
      by : (good some : Bool) → cond (not good) (refuses 12) (answers (cond some (rto t.smoothed t.variation) first_wait)) ≡ answers n
          → (shortest_wait ≤ n) × (n ≤ longest_wait)
      by true true q = let is : rto t.smoothed t.variation ≡ n = cc in (omega arith, omega arith)
      by true false q = let is : first_wait ≡ n = cc in (omega arith, omega arith)
      by false some q = cc
