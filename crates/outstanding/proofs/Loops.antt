-- What the closures and loops over the cells of a store come to.
-- Assumes nothing.
use Prim.Native.Nat.{ℕ, zero, suc, ◌+◌, ◌-◌, ◌≤◌, ◌<◌, min, zero-le}
use mathlib.Core.Path.{◌≡◌, refl, sym, ap, ◌∙◌}
use mathlib.Core.Bool.{true, false, cond}
use mathlib.Core.List.{List, [], ◌∷◌, ◌++◌, append-nil}
use native.Mathlib.Omega.{arith}
use native.Mathlib.Numerals.{add-one}
use native.Mathlib.Nat.{suc-add}
use lib.ListN.{length, take, set}
use lib.Seq.{paste, take-suc-set, take_all, append_snoc}
use borrow.Rule.Slice.PartMut.{mid_of, put_mid}
use Rattle.std.proofs.lemmas.Slice.{put_mid-paste}
use Rattle.lists.proofs.Paste.{length_part}
use lib.Dec.{ltb, leb}
use borrow.Author.Tests.{ltb-true}
use Rattle.std.specs.List.{AllAdjacentBelow, sum_by, prefix_len}
use Rattle.std.specs.List.Sorted.{IsNonDecreasingBy, IsPartitionPoint}
use Rattle.std.proofs.lemmas.List.Sums.{prefix_len_is}
use Rattle.std.proofs.lemmas.List.Sorted.{IsNonDecreasingBy-from_all_adjacent}
use Rattle.lists.proofs.Tests.{both}
use Rattle.std.proofs.lemmas.List.Recursion.{same_from_clauses, is_sum_by}
use Rattle.lists.specs.Rising.{rising}
use Rattle.packet.specs.Sizes.{payload_size}
use Rattle.outstanding.specs.Outstanding.{size, up_to}
use Rattle.outstanding.specs.Steps.{counting, sizes_for}

-- ---- size_of

pub size_is : (ls : List ℕ) → size ls ≡ sum_by (λ l. 20 + l) ls
unfolding size
size_is = is_sum_by size (λ l. 20 + l) refl (λ _ _. refl)

-- ---- answered_by

next_above : (xs : List ℕ) → rising xs ≡ true → AllAdjacentBelow (λ x y. x ≤ y) xs (length xs)
unfolding rising
next_above [] h k d l = absurd (omega arith)
next_above (x ∷ []) h k d l = absurd (omega arith)
next_above (x ∷ y ∷ ys) h zero d l = let u = ltb-true x y (both (ltb x y) (rising (y ∷ ys)) h).0 in omega arith
next_above (x ∷ y ∷ ys) h (suc k) d l =
    rw suc-add (next_above (y ∷ ys) (both (ltb x y) (rising (y ∷ ys)) h).1 k d (omega arith))

-- numbers that rise stand in order
pub in_order : (xs : List ℕ) → rising xs ≡ true → IsNonDecreasingBy (λ x. x) xs
in_order xs h = IsNonDecreasingBy-from_all_adjacent (λ x. x) xs (next_above xs h)

up_to-prefix : (last : ℕ) (ns : List ℕ) → up_to last ns ≡ prefix_len (λ n. leb n last) ns
unfolding up_to
up_to-prefix last =
    same_from_clauses (up_to last) (prefix_len (λ n. leb n last)) (λ n m. cond (leb n last) (suc m) 0) refl (λ _ _. refl)
    (λ n ns. ap (λ k. cond (leb n last) k 0) (omega arith))

-- the place before which all are at most the last one answered, and behind which none is
pub up_to_is : (last : ℕ) (ns : List ℕ) (i : ℕ) → i ≤ length ns → IsPartitionPoint (λ n. leb n last ≡ true) (λ n. leb n last ≡ false) ns i → i ≡ up_to last ns
up_to_is last ns i l p = sym (up_to-prefix last ns ∙ prefix_len_is (λ n. leb n last) ns i 0 l (λ k b. p.0 k 0 zero-le b) (λ b. p.1 i 0 (omega arith) b))

-- ---- put_numbers and put_lengths: what is written, and what is left to write

counting_at : (next n i : ℕ) → i < n → counting (next + i) (n - i) ≡ (next + i) ∷ counting (next + (i + 1)) (n - (i + 1))
unfolding counting
counting_at next n i h =
    let more : n - i ≡ suc (n - (i + 1)) = omega arith in
    let up : next + (i + 1) ≡ suc (next + i) = omega arith in
    rw (more, up)

sizes_at : (left n i : ℕ) → i < n → sizes_for left (n - i) ≡ min payload_size left ∷ sizes_for (left - min payload_size left) (n - (i + 1))
unfolding sizes_for
sizes_at left n i h =
    let more : n - i ≡ suc (n - (i + 1)) = omega arith in
    let rest : left - min payload_size left ≡ left - payload_size = omega arith in
    rw (more, rest)

module _ (d : List ℕ) (i : ℕ) where
  written_more : (s : List ℕ) (x : ℕ) → i < length d → take (i + 1) (set d i x) ++ s ≡ take i d ++ (x ∷ s)
  written_more s x h = rw (add-one, take-suc-set d i x h) (append_snoc (take i d) x s)

  pub number_more : (next : ℕ) → i < length d
      → take (i + 1) (set d i (next + i)) ++ counting (next + (i + 1)) (length d - (i + 1)) ≡ take i d ++ counting (next + i) (length d - i)
  number_more next h = rw (counting_at next (length d) i h) (written_more _ (next + i) h)

  pub length_more : (left part : ℕ) → part ≡ min payload_size left → i < length d
      → take (i + 1) (set d i part) ++ sizes_for (left - part) (length d - (i + 1)) ≡ take i d ++ sizes_for left (length d - i)
  length_more left part e h = rw (e, sizes_at left (length d) i h) (written_more _ (min payload_size left) h)

  -- nothing is left to write
  pub numbers_end : (next : ℕ) → length d ≤ i → take i d ++ counting next (length d - i) ≡ d
  unfolding counting
  numbers_end next h = let none : length d - i ≡ 0 = omega arith in rw (none, take_all i d h) (append-nil d)

  pub lengths_end : (left : ℕ) → length d ≤ i → take i d ++ sizes_for left (length d - i) ≡ d
  unfolding sizes_for
  lengths_end left h = let none : length d - i ≡ 0 = omega arith in rw (none, take_all i d h) (append-nil d)

-- ---- keep: what the loops wrote to a part of the cells, pasted over it

length-counting : (next n : ℕ) → length (counting next n) ≡ n
unfolding counting
length-counting next zero = refl
length-counting next (suc n) = ap suc (length-counting (suc next) n)

length-sizes_for : (q n : ℕ) → length (sizes_for q n) ≡ n
unfolding sizes_for
length-sizes_for q zero = refl
length-sizes_for q (suc n) = ap suc (length-sizes_for (q - payload_size) n)

module _ (d e : List ℕ) (at n : ℕ) (h : at + n ≤ length d) where
  part_long : length (mid_of at (at + n - at) d) ≡ n
  part_long = let z : at + n - at ≡ n = omega arith in rw z (length_part d at n h)

  part_put : (f : ℕ → List ℕ) → length (f n) ≡ n → e ≡ f (length (mid_of at (at + n - at) d)) → put_mid at (at + n - at) d e ≡ paste d at (f n) n
  part_put f l q = put_mid-paste at (at + n - at) d e (f n) n (q ∙ ap f part_long) (omega arith) (sym l)

  pub numbers_put : (next : ℕ) → e ≡ counting next (length (mid_of at (at + n - at) d)) → put_mid at (at + n - at) d e ≡ paste d at (counting next n) n
  numbers_put next = part_put (counting next) (length-counting next n)

  pub lengths_put : (q : ℕ) → e ≡ sizes_for q (length (mid_of at (at + n - at) d)) → put_mid at (at + n - at) d e ≡ paste d at (sizes_for q n) n
  lengths_put q = part_put (sizes_for q) (length-sizes_for q n)
