-- Slots round a ring of n, counted from slot i: where a distance leads, and what stands where after k slots were cleared.
-- Assumes nothing.
use Prim.Native.Nat.{ℕ, zero, suc, ◌+◌, ◌-◌, ◌≤◌, ◌<◌}
use mathlib.Core.Path.{◌≡◌, refl, ap, ◌∙◌}
use mathlib.Core.Logic.{◌⊎◌, inl, inr, ◌≢◌}
use mathlib.Core.List.{List}
use native.Mathlib.Omega.{arith}
use native.Mathlib.Nat.{add-zero}
use lib.ListN.{length, set, get_or, length-set}
use lib.Seq.{get_or-set_same, get_or-set_other}
use borrow.Author.Tests.{lt-ltb, le-ltb}
use Rattle.lists.proofs.Order.{either}
use Rattle.slots.specs.Slots.{wrap, cleared}

pub wrap_low : {n i : ℕ} → i < n → wrap n i ≡ i
wrap_low {n} {i} h = rw (lt-ltb i n h)

pub wrap_high : {n i : ℕ} → n ≤ i → wrap n i ≡ i - n
wrap_high {n} {i} h = rw (le-ltb i n h)

-- the two cases with what each says
wrapped : (n i : ℕ) → ((wrap n i ≡ i) × (i < n)) ⊎ ((wrap n i ≡ i - n) × (n ≤ i))
wrapped n i = either n i (λ h. inr (wrap_high h, h)) (λ h. inl (wrap_low h, h))

module _ {n i : ℕ} (front : i < n) where
  -- no distance up to n leads out of the ring
  pub wrap-below : {j : ℕ} → j ≤ n → wrap n (i + j) < n
  wrap-below {j} h = by (wrapped n (i + j))
    where
      by : ((wrap n (i + j) ≡ i + j) × (i + j < n)) ⊎ ((wrap n (i + j) ≡ i + j - n) × (n ≤ i + j)) → wrap n (i + j) < n
      by (inl e) = omega arith
      by (inr e) = omega arith

  -- distance 0 is slot i
  pub wrap-zero : wrap n (i + 0) ≡ i
  wrap-zero = rw add-zero (wrap_low front)

  -- two distances that lead to one slot are one
  pub wrap_injective : {j k : ℕ} → j < n → k < n → wrap n (i + j) ≡ wrap n (i + k) → j ≡ k
  wrap_injective {j} {k} hj hk same = by (wrapped n (i + j)) (wrapped n (i + k))
    where
      by : ((wrap n (i + j) ≡ i + j) × (i + j < n)) ⊎ ((wrap n (i + j) ≡ i + j - n) × (n ≤ i + j))
          → ((wrap n (i + k) ≡ i + k) × (i + k < n)) ⊎ ((wrap n (i + k) ≡ i + k - n) × (n ≤ i + k)) → j ≡ k
      by (inl p) (inl q) = omega arith
      by (inl p) (inr q) = omega arith
      by (inr p) (inl q) = omega arith
      by (inr p) (inr q) = omega arith

  -- distance j from the slot at distance k, as long as they do not come round
  pub wrap_on : (k j : ℕ) → k + j ≤ n → wrap n (wrap n (i + k) + j) ≡ wrap n (i + (k + j))
  wrap_on k j h =
      either n (i + k)
      (λ far. rw (wrap_high far, wrap_low (let z : i + k - n + j < n = omega arith in z), wrap_high (let z : n ≤ i + (k + j) = omega arith in z)) (omega arith))
      (λ near. rw (wrap_low near) (ap (wrap n) (omega arith)))

  -- where they come round
  pub wrap_round : (k j : ℕ) → k ≤ n → j < n → n ≤ k + j → wrap n (wrap n (i + k) + j) ≡ wrap n (i + (k + j - n))
  wrap_round k j hk hj h =
      either n (i + k)
      (λ far. rw (wrap_high far) (ap (wrap n) (omega arith)))
      (λ near. rw (wrap_low near, wrap_high (let z : n ≤ i + k + j = omega arith in z), wrap_low (let z : i + (k + j - n) < n = omega arith in z)) (omega arith))

module _ {A : Type 0} (n : ℕ) (x : A) where
  pub length-cleared : (i k : ℕ) (l : List A) → length (cleared n i k x l) ≡ length l
  length-cleared i zero l = refl
  length-cleared i (suc k) l = length-cleared (wrap n (i + 1)) k (set l i x) ∙ length-set l i x

  -- clearing from slot i on clears it first
  pub cleared_first : (i k j : ℕ) (l : List A) → k ≡ suc j → cleared n (wrap n (i + 1)) j x (set l i x) ≡ cleared n i k x l
  cleared_first i zero j l e = absurd (omega arith)
  cleared_first i (suc k) j l e = let z : j ≡ k = omega arith in rw z

  -- one more slot cleared at the back: a loop that has cleared k clears the one at distance k
  pub cleared_next : (i k : ℕ) (l : List A) → i < n → k < n → cleared n i (suc k) x l ≡ set (cleared n i k x l) (wrap n (i + k)) x
  cleared_next i zero l hi hk = rw (wrap-zero hi)
  cleared_next i (suc k) l hi hk =
      let one : wrap n (wrap n (i + 1) + k) ≡ wrap n (i + suc k) = wrap_on hi 1 k (omega arith) ∙ ap (λ (m : ℕ). wrap n (i + m)) (omega arith) in
      cleared_next (wrap n (i + 1)) k (set l i x) (wrap-below hi (omega arith)) (omega arith) ∙ rw one

  -- what is not yet cleared stands as it stood
  pub cleared-later : (i j k : ℕ) (l : List A) (d : A) → i < n → k ≤ j → j < n → get_or (cleared n i k x l) (wrap n (i + j)) d ≡ get_or l (wrap n (i + j)) d
  cleared-later i j zero l d hi hk hj = refl
  cleared-later i j (suc k) l d hi hk hj =
      let before = cleared-later i j k l d hi (omega arith) hj in
      let apart : wrap n (i + j) ≢ wrap n (i + k) = λ e. (let z : j ≡ k = wrap_injective hi hj (omega arith) e in omega arith) in
      rw (cleared_next i k l hi (omega arith), get_or-set_other (cleared n i k x l) (wrap n (i + k)) (wrap n (i + j)) x d apart) before

  -- what is cleared is x
  pub cleared_at : (i j k : ℕ) (l : List A) (d : A) → length l ≡ n → i < n → j < k → k ≤ n → get_or (cleared n i k x l) (wrap n (i + j)) d ≡ x
  cleared_at i j zero l d e hi hj hk = absurd (omega arith)
  cleared_at i j (suc k) l d e hi hj hk =
      let here : wrap n (i + k) < length (cleared n i k x l) = rw (length-cleared i k l, e) (wrap-below hi (omega arith)) in
      rw (cleared_next i k l hi (omega arith))
      (either k j
      (λ last. let z : j ≡ k = omega arith in rw z (get_or-set_same (cleared n i k x l) (wrap n (i + k)) x d here))
      (λ earlier.
      let apart : wrap n (i + j) ≢ wrap n (i + k) = λ e. (let z : j ≡ k = wrap_injective hi (omega arith) (omega arith) e in omega arith) in
      rw (get_or-set_other (cleared n i k x l) (wrap n (i + k)) (wrap n (i + j)) x d apart) (cleared_at i j k l d e hi earlier (omega arith))))
