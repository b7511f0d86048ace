-- Which numbers are held after a call's stores: membership equations of the definitions.
-- Assumes nothing.
use Prim.Native.Nat.{ℕ, zero, suc, ◌+◌, ◌≤◌, ◌<◌}
use mathlib.Core.Path.{◌≡◌, refl, sym, ap, ◌∙◌}
use mathlib.Core.Bool.{Bool, true, false, cond, ◌&&◌, ◌||◌, or_assoc, or_comm, true≢false}
use mathlib.Core.List.{List, [], ◌∷◌, ◌++◌}
use native.Mathlib.Nat.{le_of_suc-le-suc, not-suc-le-zero}
use native.Mathlib.Omega.{arith}
use lib.ListN.{take, drop, take-append-drop}
use lib.Dec.{ltb, leb, eqb}
use borrow.Author.Tests.{lt-ltb, le-ltb, le-leb, lt-leb, leb-true, leb-false, eqb-true, eqb-false}
use Rattle.lists.proofs.Order.{either}
use Rattle.window.specs.Window.{member, place, numbers, stored, before_held, run_length}
use Rattle.window.proofs.Rises.{Rises, not-below}

-- n is one of the k numbers from b on
abbrev pub among : ℕ → ℕ → ℕ → Bool
among b k n = leb b n && ltb n (b + k)

pub member-append : (n : ℕ) (xs ys : List ℕ) → member n (xs ++ ys) ≡ (member n xs || member n ys)
unfolding member
member-append n [] ys = refl
member-append n (x ∷ xs) ys = rw (member-append n xs ys) (sym (or_assoc (eqb x n) (member n xs) (member n ys)))

pub member-numbers : (n b k : ℕ) → member n (numbers b k) ≡ among b k n
unfolding member numbers
member-numbers n b zero = by (leb b n) refl
  where
    by : (t : Bool) → leb b n ≡ t → false ≡ (t && ltb n (b + 0))
    by true q = let l = leb-true b n q in sym (le-ltb n (b + 0) (omega arith))
    by false q = refl
member-numbers n b (suc k) = rw (member-numbers n (suc b) k) (by (eqb b n) refl)
  where
    by : (t : Bool) → eqb b n ≡ t → (t || among (suc b) k n) ≡ among b (suc k) n
    by true q =
        let e = eqb-true b n q in
        rw (le-leb b n (omega arith), lt-ltb n (b + suc k) (omega arith))
    by false q =
        let d = eqb-false b n q in
        let s : suc b + k ≡ b + suc k = omega arith in
        rw s (after (leb (suc b) n) refl d)
      where
        after : (t : Bool) → leb (suc b) n ≡ t → (b ≡ n → ⊥) → (t && ltb n (b + suc k)) ≡ (leb b n && ltb n (b + suc k))
        after true q d = let l = leb-true (suc b) n q in rw (le-leb b n (omega arith))
        after false q d = let l = leb-false (suc b) n q in rw (lt-leb b n (omega arith))

-- what is stored is held afterwards, and nothing else is added or lost
pub member-stored : (n b k : ℕ) (xs : List ℕ) → member n (stored b k xs) ≡ (among b k n || member n xs)
member-stored n b k xs =
    let front = take (place b xs) xs in
    let back = drop (place b xs) xs in
    let all = ap (member n) (take-append-drop (place b xs) xs) in
    rw (member-append n (front ++ numbers b k) back, member-append n front (numbers b k), member-numbers n b k)
    (turn (member n front) (among b k n) (member n back) ∙ ap (λ (t : Bool). among b k n || t) (sym (member-append n front back) ∙ all))
  where
    turn : (p q r : Bool) → (p || q || r) ≡ (q || (p || r))
    turn p q r = rw (or_comm p q) (or_assoc q p r)

-- r of the k numbers from b on stand before the first held one: none of them is held, and where there is one more it is
pub record Before (b k : ℕ) (xs : List ℕ) (r : ℕ) : Type 0 where
  pub within : r ≤ k
  pub free : (i : ℕ) → i < r → member (b + i) xs ≡ false
  pub held : r < k → member (b + r) xs ≡ true

pub before : (b k : ℕ) (xs : List ℕ) → Before b k xs (before_held b k xs)
unfolding before_held
before b zero xs = record { within = omega arith; free = λ i h. absurd (not-suc-le-zero h); held = λ h. absurd (not-suc-le-zero h) }
before b (suc k) xs = by (member b xs) refl (before (suc b) k xs)
  where
    z : b + 0 ≡ b
    z = omega arith

    up : (i : ℕ) → b + suc i ≡ suc b + i
    up i = omega arith

    by : (t : Bool) → member b xs ≡ t → Before (suc b) k xs (before_held (suc b) k xs) → Before b (suc k) xs (cond t zero (suc (before_held (suc b) k xs)))
    by true q ih = record { within = omega arith; free = λ i h. absurd (not-suc-le-zero h); held = λ h. rw z q }
    by false q ih = record { within = omega (arith, ih.within); free = free; held = λ h. rw up (ih.held (le_of_suc-le-suc h)) }
      where
        free : (i : ℕ) → i < suc (before_held (suc b) k xs) → member (b + i) xs ≡ false
        free zero h = rw z q
        free (suc i) h = rw up (ih.free i (le_of_suc-le-suc h))

-- .. and no other number of them does
pub before_is : (b k r : ℕ) (xs : List ℕ) → Before b k xs r → before_held b k xs ≡ r
before_is b k r xs f =
    let n = before_held b k xs in
    let g = before b k xs in
    either n r
    (λ l. either r n (λ m. omega arith) (λ m. absurd (true≢false (sym (g.held (omega arith)) ∙ f.free n m))))
    (λ l. absurd (true≢false (sym (f.held (omega arith)) ∙ g.free r l)))

-- numbers that rise from e on: the k of the run, and numbers above the one that the run lacks
pub record Run (hi e : ℕ) (xs : List ℕ) (k : ℕ) : Type 0 where
  pub is : xs ≡ numbers e k ++ drop k xs
  pub above : Rises (suc (e + k)) hi (drop k xs)
  pub fits : e ≤ hi → e + k ≤ hi

module _ (hi : ℕ) where
  pub run : (e : ℕ) (xs : List ℕ) → Rises e hi xs → Run hi e xs (run_length e xs)
  unfolding run_length numbers
  run e [] r = record { is = refl; above = tt; fits = λ l. omega arith }
  run e (x ∷ xs) r = by (eqb x e) refl (run (suc e) xs)
    where
      by : (t : Bool) → eqb x e ≡ t → (Rises (suc e) hi xs → Run hi (suc e) xs (run_length (suc e) xs)) → Run hi e (x ∷ xs) (cond t (suc (run_length (suc e) xs)) zero)
      by true q ih =
          let s = eqb-true x e q in
          let rest = ih (rw s at r.2) in
          let z : e + suc (run_length (suc e) xs) ≡ suc e + run_length (suc e) xs = omega arith in
          record { is = rw s (ap (λ (l : List ℕ). e ∷ l) rest.is); above = rw z rest.above; fits = λ l. omega (arith, rest.fits (omega arith)) }
      by false q ih =
          let d = eqb-false x e q in
          record { is = refl; above = (omega arith, r.1, r.2); fits = λ l. omega arith }

module _ (hi e : ℕ) (xs : List ℕ) (r : Rises e hi xs) where
  run_members : (n : ℕ) → member n xs ≡ (among e (run_length e xs) n || member n (drop (run_length e xs) xs))
  run_members n =
      let k = run_length e xs in
      ap (member n) (run hi e xs r).is ∙ member-append n (numbers e k) (drop k xs) ∙ rw (member-numbers n e k)

  -- every number of the run is held ..
  pub run-held : (n : ℕ) → e ≤ n → n < e + run_length e xs → member n xs ≡ true
  run-held n l h = run_members n ∙ rw (le-leb e n l, lt-ltb n (e + run_length e xs) h)

  -- .. the one after it is not ..
  pub run_ends : member (e + run_length e xs) xs ≡ false
  run_ends =
      let n = e + run_length e xs in
      run_members n ∙ rw (le-leb e n (omega arith), le-ltb n n (omega arith), not-below hi (suc n) n (drop (run_length e xs) xs) (run hi e xs r).above (omega arith))

  -- .. and behind it stand exactly the held numbers from there on
  pub run_dropped : (n : ℕ) → member n (drop (run_length e xs) xs) ≡ (leb (e + run_length e xs) n && member n xs)
  run_dropped n = by (leb (e + run_length e xs) n) refl
    where
      by : (t : Bool) → leb (e + run_length e xs) n ≡ t → member n (drop (run_length e xs) xs) ≡ (t && member n xs)
      by true q =
          let l = leb-true (e + run_length e xs) n q in
          sym (run_members n ∙ rw (le-leb e n (omega arith), le-ltb n (e + run_length e xs) l))
      by false q =
          let l = leb-false (e + run_length e xs) n q in
          not-below hi (suc (e + run_length e xs)) n (drop (run_length e xs) xs) (run hi e xs r).above (omega arith)
