-- The numbers that a call stores or leaves rise within the window's bounds again, so every call keeps a well-formed window well formed.
-- Assumes nothing.
use Prim.Native.Nat.{ℕ, zero, suc, ◌+◌, ◌-◌, ◌≤◌, ◌<◌, zero-le, suc-le-suc}
use mathlib.Core.Path.{◌≡◌, refl, sym, ap, ◌∙◌}
use mathlib.Core.Bool.{Bool, true, false, cond, true≢false}
use mathlib.Core.List.{List, [], ◌∷◌, ◌++◌, append_assoc}
use native.Mathlib.Omega.{arith}
use lib.ListN.{length, take, drop, get_or, replicate, length-append, length-drop, length-replicate, take-append-drop}
use lib.Seq.{length-take-le, take_at}
use lib.Dec.{ltb}
use borrow.Author.Tests.{ltb-true}
use Rattle.lists.proofs.Order.{either}
use Rattle.window.specs.declared.SlidingWindow.{SlidingWindow}
use Rattle.window.specs.Window.{expected, held, place, numbers, stored, stored_cells, grown, before_held, run_length, consumed_cells, advanced, Rises}
use Rattle.window.proofs.Rises.{bound, WellFormed, rises_wider, is_member, place-from}
use Rattle.window.proofs.Loops.{length-numbers}
use Rattle.window.proofs.Members.{before, run}

module _ (hi : ℕ) where
  rises_numbers : (lo b k : ℕ) (ys : List ℕ) → lo ≤ b → b + k ≤ hi → Rises (b + k) hi ys → Rises lo hi (numbers b k ++ ys)
  unfolding numbers
  rises_numbers lo b zero [] l h r = tt
  rises_numbers lo b zero (y ∷ ys) l h r = (omega arith, r.1, r.2)
  rises_numbers lo b (suc k) ys l h r =
      let z : b + suc k ≡ suc b + k = omega arith in
      (l, omega arith, rises_numbers (suc b) (suc b) k ys (omega arith) (omega arith) (rw z at r))

  rises_stored : (lo b k : ℕ) (xs : List ℕ) → Rises lo hi xs → lo ≤ b → b + k ≤ hi → (place b xs < length xs → b + k ≤ get_or xs (place b xs) 0)
      → Rises lo hi (stored b k xs)
  unfolding place
  rises_stored lo b k [] r l h f = rises_numbers lo b k [] l h tt
  rises_stored lo b k (x ∷ xs) r l h f = by (ltb x b) refl (λ m. rises_stored (suc x) b k xs r.2 m h) f
    where
      by : (t : Bool) → ltb x b ≡ t → (suc x ≤ b → (place b xs < length xs → b + k ≤ get_or xs (place b xs) 0) → Rises (suc x) hi (stored b k xs)) →
          let p = cond t (suc (place b xs)) zero in
          (p < length (x ∷ xs) → b + k ≤ get_or (x ∷ xs) p 0) → Rises lo hi (take p (x ∷ xs) ++ numbers b k ++ drop p (x ∷ xs))
      by true q ih f = (r.0, r.1, ih (ltb-true x b q) (λ p. f (suc-le-suc p)))
      by false q ih f = rises_numbers lo b k (x ∷ xs) l h (f (suc-le-suc zero-le), r.1, r.2)

-- the numbers before the first held one stand below the one at their place
before-below : (b k : ℕ) (xs : List ℕ) → place b xs < length xs → b + before_held b k xs ≤ get_or xs (place b xs) 0
before-below b k xs h =
    let y = get_or xs (place b xs) 0 in
    let from = place-from b xs h in
    either (b + before_held b k xs) y (λ l. l)
    (λ l. let z : b + (y - b) ≡ y = omega arith in absurd (true≢false (sym (is_member y (place b xs) xs h refl) ∙ rw z at ((before b k xs).free (y - b) (omega arith)))))

-- the numbers held afterwards: those in front of the cells that stay
length-stored : (b k : ℕ) (xs : List ℕ) → length (stored b k xs) ≡ length xs + k
length-stored b k xs =
    let front = take (place b xs) xs in
    let all = sym (length-append front (drop (place b xs) xs)) ∙ ap length (take-append-drop (place b xs) xs) in
    rw (length-append (front ++ numbers b k), length-append front, length-numbers b k) (omega arith)

module _ (w : SlidingWindow) (cells : List ℕ) (h : WellFormed w cells) where
  length-held : length (held w cells) ≡ w.count
  length-held = length-take-le w.count cells h.fits

  pub held-stored : (b k : ℕ) → held (grown w k) (stored_cells w cells b k) ≡ stored b k (held w cells)
  held-stored b k = take_at (stored b k (held w cells)) (drop (w.count + k) cells) (w.count + k) (length-stored b k (held w cells) ∙ rw length-held)

  pub held-consumed : (k : ℕ) → held (advanced w k) (consumed_cells w cells k) ≡ drop k (held w cells)
  held-consumed k =
      let rest = drop k (held w cells) in
      ap (take (w.count - k)) (append_assoc rest (replicate k 0) (drop w.count cells))
      ∙ take_at rest (replicate k 0 ++ drop w.count cells) (w.count - k) (length-drop k (held w cells) ∙ rw length-held)

  pub length_stored_cells : (b k : ℕ) → w.count + k ≤ length cells → length (stored_cells w cells b k) ≡ length cells
  length_stored_cells b k room = rw (length-append (stored b k (held w cells)), length-stored b k (held w cells), length-held, length-drop) (omega arith)

  pub stored_keeps : (b n : ℕ) →
      let k = before_held b n (held w cells) in
      expected w ≤ b → b + k ≤ bound w → w.count + k ≤ length cells → WellFormed (grown w k) (stored_cells w cells b k)
  stored_keeps b n l near room =
      let k = before_held b n (held w cells) in
      record {
        fits = rw (length_stored_cells b k room) room;
        rises = rw (held-stored b k) (rises_stored (bound w) (expected w) b k (held w cells) h.rises l near (before-below b n (held w cells)));
      }

  pub length_consumed_cells : length (consumed_cells w cells (run_length (expected w) (held w cells))) ≡ length cells
  length_consumed_cells =
      let k = run_length (expected w) (held w cells) in
      let all = ap length (run (bound w) (expected w) (held w cells) h.rises).is ∙ length-append (numbers (expected w) k) (drop k (held w cells)) in
      let f = h.fits in
      simp (length-append, length-drop, length-replicate, length-held) (omega (arith, length-held, length-numbers (expected w) k))

  pub consumed_keeps : let k = run_length (expected w) (held w cells) in WellFormed (advanced w k) (consumed_cells w cells k)
  consumed_keeps =
      let e = expected w in
      let k = run_length e (held w cells) in
      let above = (run (bound w) e (held w cells) h.rises).above in
      record {
        fits = rw length_consumed_cells (omega arith);
        rises = rw (held-consumed k) (rises_wider (suc (e + k)) (bound w) (e + k) (bound (advanced w k)) (drop k (held w cells)) (omega arith) (omega arith) above);
      }
