-- Numbers that are all within a bound: as a plain fact, both ways; and by the largest of them.
-- Assumes nothing.
use Rattle.std.proofs.Common.{◌≡◌, ℕ, zero, suc, ◌≤◌, ◌&&◌, true, List, [], ◌∷◌, get_or, max, fold, leb, refl, ◌∙◌, arith}
use Prim.Native.Nat.{zero-le}
use mathlib.Core.Bool.{and-eq-true_iff}
use borrow.Author.Tests.{leb-true, le-leb}
use Rattle.std.proofs.lemmas.Bool.Decides.{nat_tests}
use Rattle.lists.specs.Within.{all_within}

-- every number is at most w, and so is the 0 read past the end
pub within : (w : ℕ) (ls : List ℕ) → all_within w ls ≡ true → (i : ℕ) → get_or ls i 0 ≤ w
unfolding all_within
within w [] e i = zero-le
within w (l ∷ ls) e zero = leb-true _ _ ((and-eq-true_iff (leb l w) (all_within w ls)).0 e).0
within w (l ∷ ls) e (suc i) = within w ls ((and-eq-true_iff (leb l w) (all_within w ls)).0 e).1 i

pub is_within : (w : ℕ) (ls : List ℕ) → ((i : ℕ) → get_or ls i 0 ≤ w) → all_within w ls ≡ true
unfolding all_within
is_within w [] f = refl
is_within w (l ∷ ls) f = rw (le-leb l w (f 0)) (is_within w ls (λ i. f (suc i)))

-- ---- by the largest of them

-- with a length m beside them
most_within : (w m : ℕ) (l : List ℕ) → leb (fold max m l) w ≡ (leb m w && all_within w l)
unfolding all_within
most_within w m [] = grind (arith, nat_tests)
most_within w m (x ∷ l) = grind (arith, nat_tests, most_within w (max m x) l)

pub longest_within : (w : ℕ) (l : List ℕ) → leb (fold max 0 l) w ≡ all_within w l
longest_within w l = most_within w 0 l ∙ grind (arith, nat_tests)
