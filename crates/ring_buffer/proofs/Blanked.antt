-- Laws of `blanked head k ys`: the cells with the k from `head` on, round the end, blank.
-- Assumes nothing.
use Prim.Native.Nat.{ℕ, zero, suc, ◌+◌, ◌%◌, ◌<◌, ◌≤◌}
use native.Mathlib.Nat.{add-zero, mod-eq_of_lt}
use native.Mathlib.Omega.{arith}
use mathlib.Core.Path.{◌≡◌, refl, sym, ap, ◌∙◌}
use mathlib.Core.List.{List, ◌∷◌, ◌++◌}
use lib.ListN.{length, get_or, set, drop, replicate, length-set, length-replicate}
use lib.Seq.{drop-cons, set_at, get_or-drop, get_or-append-add}
use Rattle.lists.proofs.Rotated.{rotated, length_rotated, rotated_set, get_or_rotated}
use Rattle.ring_buffer.specs.Ring.{blank, blanked}
use Rattle.ring_buffer.specs.declared.AckData.{AckData}

pub length-blanked : (head k : ℕ) (ys : List AckData) → length (blanked head k ys) ≡ length ys
unfolding blanked
length-blanked head zero ys = refl
length-blanked head (suc k) ys = length-set (blanked head k ys) _ blank ∙ length-blanked head k ys

module _ (head : ℕ) (ys : List AckData) where
  pub blanked_none : ys ≡ blanked head 0 ys
  unfolding blanked
  blanked_none = refl

  pub blanked-one : head < length ys → blanked head 1 ys ≡ set ys head blank
  unfolding blanked
  blanked-one h = ap (λ (i : ℕ). set ys i blank) (rw add-zero (mod-eq_of_lt h))

one_more : {A : Type 0} (k : ℕ) (a : A) (l : List A) → replicate k a ++ a ∷ l ≡ replicate (suc k) a ++ l
one_more zero a l = refl
one_more {A} (suc k) a l = ap (λ (r : List A). a ∷ r) (one_more k a l)

module _ (head : ℕ) (ys : List AckData) (in-run : head < length ys) where
  -- read from the head on: k blank records, then the rest as it was
  pub rotated_blanked : (k : ℕ) → k ≤ length ys → rotated head (blanked head k ys) ≡ replicate k blank ++ drop k (rotated head ys)
  unfolding blanked
  rotated_blanked zero far = refl
  rotated_blanked (suc k) far =
      let long = length-blanked head k ys in
      let r = rotated head ys in
      let inside : k < length r = rw (length_rotated head ys (omega arith)) far in
      ap (λ (c : ℕ). rotated head (set (blanked head k ys) ((head + k) % c) blank)) (sym long) ∙ rotated_set head k (blanked head k ys) blank (rw long in-run) (rw long far)
      ∙ ap (λ (l : List AckData). set l k blank) (rotated_blanked k (omega arith) ∙ ap (λ (l : List AckData). replicate k blank ++ l) (drop-cons r k blank inside))
      ∙ set_at (replicate k blank) (get_or r k blank) (drop (suc k) r) blank k (length-replicate k blank) ∙ one_more k blank (drop (suc k) r)

  -- the next cell to blank still holds its record
  pub get_or-blanked : (k : ℕ) → k < length ys → get_or (blanked head k ys) ((head + k) % length ys) blank ≡ get_or (rotated head ys) k blank
  get_or-blanked k far =
      let long = length-blanked head k ys in
      let r = rotated head ys in
      ap (λ (c : ℕ). get_or (blanked head k ys) ((head + k) % c) blank) (sym long) ∙ sym (get_or_rotated head k (blanked head k ys) blank (rw long in-run) (rw long far))
      ∙ ap (λ (l : List AckData). get_or l k blank) (rotated_blanked k (omega arith))
      ∙ ap (λ (m : ℕ). get_or (replicate k blank ++ drop k r) m blank) (sym (ap (λ (m : ℕ). m + 0) (length-replicate k blank) ∙ add-zero k))
      ∙ get_or-append-add (replicate k blank) (drop k r) 0 blank ∙ get_or-drop k r 0 blank ∙ ap (λ (m : ℕ). get_or r m blank) (add-zero k)
