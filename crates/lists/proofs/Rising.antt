-- The ends of rising numbers, what one number more makes of them, and two parts that share a number.
-- Assumes nothing.
use Prim.Native.Nat.{ℕ, zero, suc, ◌+◌, ◌-◌, ◌≤◌, ◌<◌}
use mathlib.Core.Path.{◌≡◌, refl, sym}
use mathlib.Core.Bool.{true, ◌&&◌, and_assoc, and-true}
use mathlib.Core.List.{List, [], ◌∷◌}
use native.Mathlib.Nat.{le_of_suc-le-suc, not-suc-le-zero}
use native.Mathlib.Numerals.{add-one}
use native.Mathlib.Omega.{arith}
use lib.ListN.{length, take, drop, get_or}
use lib.Dec.{ltb}
use borrow.Author.Tests.{ltb-true}
use Rattle.lists.specs.Rising.{rising}
use Rattle.lists.proofs.Tests.{both}

-- the first is not above the last
pub first_last : (x : ℕ) (xs : List ℕ) → rising (x ∷ xs) ≡ true → x ≤ get_or (x ∷ xs) (length xs) 0
unfolding rising
first_last x [] r = omega arith
first_last x (y ∷ ys) r =
    let up = both (ltb x y) (rising (y ∷ ys)) r in
    let l = ltb-true x y up.0 in
    let m = first_last y ys up.1 in
    omega arith

-- `is_rising`: the first number alone rises; one number more rises if those before it do, and the last of them is below it
pub rising_one : (xs : List ℕ) → rising (take 1 xs) ≡ true
unfolding rising
rising_one [] = refl
rising_one (x ∷ xs) = refl

next_rises : (i : ℕ) (xs : List ℕ) → suc i < length xs → rising (take (suc (suc i)) xs) ≡ (rising (take (suc i) xs) && ltb (get_or xs i 0) (get_or xs (suc i) 0))
unfolding rising
next_rises i [] h = absurd (not-suc-le-zero h)
next_rises i (x ∷ []) h = absurd (omega arith)
next_rises zero (x ∷ y ∷ ys) h = and-true (ltb x y)
next_rises (suc i) (x ∷ y ∷ ys) h = rw (next_rises i (y ∷ ys) (le_of_suc-le-suc h)) (sym (and_assoc (ltb x y) _ _))

pub rising_next : (i : ℕ) (xs : List ℕ) → 0 < i → i < length xs → rising (take (i + 1) xs) ≡ (rising (take i xs) && ltb (get_or xs (i - 1) 0) (get_or xs i 0))
rising_next i xs h l =
    let q : suc (i - 1) ≡ i = omega arith in
    rw (add-one i) (rw q at (next_rises (i - 1) xs (omega arith)))

-- `is_rising`: numbers rise where the first n of them do, and those from the last of these on
parts_rise : (k : ℕ) (xs : List ℕ) → (rising (take (suc k) xs) && rising (drop k xs)) ≡ rising xs
unfolding rising
parts_rise zero [] = refl
parts_rise (suc k) [] = refl
parts_rise zero (x ∷ xs) = refl
parts_rise (suc zero) (x ∷ []) = refl
parts_rise (suc (suc k)) (x ∷ []) = refl
parts_rise (suc k) (x ∷ y ∷ ys) = rw (← parts_rise k (y ∷ ys)) (and_assoc (ltb x y) _ _)

pub rising_parts : (n : ℕ) (xs : List ℕ) → (rising (take n xs) && rising (drop (n - 1) xs)) ≡ rising xs
unfolding rising
rising_parts zero xs = refl
rising_parts (suc k) xs =
    let q : suc k - 1 ≡ k = omega arith in
    rw q (parts_rise k xs)
