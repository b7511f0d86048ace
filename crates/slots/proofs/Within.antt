-- The test of refusal 12 by the largest length of each block: what it says of all lengths.
-- Assumes nothing.
use Rattle.std.proofs.Common.{◌≡◌, ℕ, suc, zero, ◌*◌, ◌&&◌, List, [], ◌∷◌, max, fold, take, drop, leb, refl, sym, ap, ◌∙◌, arith, zero-mul}
use Rattle.std.proofs.lemmas.List.{drop-drop}
use Rattle.std.specs.List.{list_all}
use Rattle.std.specs.Simd.{first_chunks}
use Rattle.std.proofs.lemmas.Bool.Decides.{nat_tests}
use Rattle.std.proofs.Math.Bool.{and_assoc}
use Rattle.lists.specs.Within.{all_within}
use Rattle.lists.proofs.Within.{longest_within}

parts_within : (w n : ℕ) (l : List ℕ) → (all_within w (take n l) && all_within w (drop n l)) ≡ all_within w l
unfolding all_within
parts_within w zero l = refl
parts_within w (suc n) [] = refl
parts_within w (suc n) (x ∷ l) = grind (arith, nat_tests, parts_within w n l)

pub blocks_within : (w n k : ℕ) (l : List ℕ)
    → (list_all (λ b. leb (fold max 0 b) w) (first_chunks n k l) && leb (fold max 0 (drop (k * n) l)) w) ≡ all_within w l
blocks_within w n zero l = simp (zero-mul) (longest_within w l)
blocks_within w n (suc k) l =
    let there : drop (suc k * n) l ≡ drop (k * n) (drop n l) = ap (λ m. drop m l) (grind arith) ∙ sym (drop-drop (k * n) n l) in
    rw (there, longest_within w (take n l), and_assoc) (rw (blocks_within w n k (drop n l)) (parts_within w n l))
