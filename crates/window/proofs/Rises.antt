-- What the test of refusal 12 says of the numbers held, as facts of them; and what follows of membership and of a number's place.
-- Assumes nothing.
use Prim.Native.Nat.{ℕ, zero, suc, ◌+◌, ◌-◌, ◌≤◌, ◌<◌, min, zero-le, suc-le-suc}
use mathlib.Core.Path.{◌≡◌, refl}
use mathlib.Core.Bool.{Bool, true, false, not, cond, ◌&&◌, ◌||◌, or-true}
use mathlib.Core.List.{List, [], ◌∷◌}
use native.Mathlib.Nat.{le_of_suc-le-suc, not-suc-le-zero}
use native.Mathlib.Omega.{arith}
use lib.ListN.{length, get_or}
use lib.Seq.{length-take-le}
use lib.Dec.{ltb, leb, eqb}
use borrow.Author.Tests.{lt-ltb, le-ltb, le-leb, lt-leb, eq-eqb, ne_eqb, ltb-true, ltb-false, leb-true, leb-false, not-true}
use Rattle.lists.specs.Numbers.{largest}
use Rattle.lists.proofs.Tests.{both}
use Rattle.window.specs.declared.SlidingWindow.{SlidingWindow}
use Rattle.window.specs.Window.{window_size, expected, below, beyond, exhausted, held, member, rising, holdable, all_holdable, well_formed, place}
pub use Rattle.window.specs.Window.{Rises}

-- the first number that is too large for the window, by its distance or by its size
abbrev pub bound : SlidingWindow → ℕ
bound w = min (expected w + window_size) largest

pub record WellFormed (w : SlidingWindow) (cells : List ℕ) : Type 0 where
  pub fits : w.count ≤ length cells
  pub rises : Rises (expected w) (bound w) (held w cells)

pub is_holdable : (w : SlidingWindow) (n : ℕ) → holdable w n ≡ true → (expected w ≤ n) × (n < bound w)
is_holdable w n h =
    let ab = both (not (below w n) && not (beyond w n)) (not (exhausted n)) h in
    let a = both (not (below w n)) (not (beyond w n)) ab.0 in
    let l = ltb-false n (expected w) (not-true (below w n) a.0) in
    let m = leb-false window_size (n - expected w) (not-true (beyond w n) a.1) in
    let s = leb-false largest n (not-true (exhausted n) ab.1) in
    (l, omega arith)

pub holdable_is : (w : SlidingWindow) (n : ℕ) → expected w ≤ n → n < bound w → holdable w n ≡ true
holdable_is w n l u = rw (le-ltb n (expected w) l, lt-leb window_size (n - expected w) (omega arith), lt-leb largest n (omega arith))

-- numbers that rise in narrower bounds rise in wider ones
pub rises_wider : (lo hi from top : ℕ) (xs : List ℕ) → from ≤ lo → hi ≤ top → Rises lo hi xs → Rises from top xs
rises_wider lo hi from top [] l h r = tt
rises_wider lo hi from top (x ∷ xs) l h r = (omega arith, omega arith, rises_wider (suc x) hi (suc x) top xs (omega arith) h r.2)

-- the test's two halves as one fact, and back
rises : (w : SlidingWindow) (xs : List ℕ) → rising xs ≡ true → all_holdable w xs ≡ true → Rises (expected w) (bound w) xs
unfolding rising all_holdable
rises w [] r a = tt
rises w (x ∷ []) r a = let h = is_holdable w x (both (holdable w x) true a).0 in (h.0, h.1, tt)
rises w (x ∷ y ∷ ys) r a =
    let up = both (ltb x y) (rising (y ∷ ys)) r in
    let all = both (holdable w x) (all_holdable w (y ∷ ys)) a in
    let h = is_holdable w x all.0 in
    let rest = rises w (y ∷ ys) up.1 all.1 in
    (h.0, h.1, (ltb-true x y up.0, rest.1, rest.2))

rising_is : (lo hi : ℕ) (xs : List ℕ) → Rises lo hi xs → rising xs ≡ true
unfolding rising
rising_is lo hi [] h = refl
rising_is lo hi (x ∷ []) h = refl
rising_is lo hi (x ∷ y ∷ ys) h = rw (lt-ltb x y h.2.0) (rising_is (suc x) hi (y ∷ ys) h.2)

all_holdable_lem : (w : SlidingWindow) (lo : ℕ) (xs : List ℕ) → expected w ≤ lo → Rises lo (bound w) xs → all_holdable w xs ≡ true
unfolding all_holdable
all_holdable_lem w lo [] l r = refl
all_holdable_lem w lo (x ∷ xs) l r = rw (holdable_is w x (omega arith) r.1) (all_holdable_lem w (suc x) xs (omega arith) r.2)

pub well_formed_lem : (w : SlidingWindow) (cells : List ℕ) → well_formed w cells ≡ true → WellFormed w cells
unfolding well_formed
well_formed_lem w cells h =
    let fr = both (leb w.count (length cells) && rising (held w cells)) (all_holdable w (held w cells)) h in
    let f = both (leb w.count (length cells)) (rising (held w cells)) fr.0 in
    record { fits = leb-true w.count (length cells) f.0; rises = rises w (held w cells) f.1 fr.1 }

pub held_fits : (w : SlidingWindow) (cells : List ℕ) → well_formed w cells ≡ true → w.count ≤ length cells
held_fits w cells h = (well_formed_lem w cells h).fits

-- .. as the searches of an insert and of a consume want them
pub held_rises : (w : SlidingWindow) (cells : List ℕ) (from : ℕ) → well_formed w cells ≡ true → from ≤ expected w → Rises from largest (held w cells)
held_rises w cells from h l = rises_wider (expected w) (bound w) from largest (held w cells) l (omega arith) (well_formed_lem w cells h).rises

pub well_formed_is : (w : SlidingWindow) (cells : List ℕ) → WellFormed w cells → well_formed w cells ≡ true
unfolding well_formed
well_formed_is w cells h =
    rw (le-leb w.count (length cells) h.fits, rising_is (expected w) (bound w) (held w cells) h.rises)
    (all_holdable_lem w (expected w) (held w cells) (omega arith) h.rises)

module _ (hi : ℕ) where
  -- the number at an index has at least as many numbers of the range below it
  pub rises_at : (lo i : ℕ) (xs : List ℕ) → Rises lo hi xs → i < length xs → (lo + i ≤ get_or xs i 0) × (get_or xs i 0 < hi)
  rises_at lo i [] r h = absurd (not-suc-le-zero h)
  rises_at lo zero (x ∷ xs) r h = (omega arith, r.1)
  rises_at lo (suc i) (x ∷ xs) r h = let q = rises_at (suc x) i xs r.2 (le_of_suc-le-suc h) in (omega arith, q.1)

  -- a number below all of them is none of them
  pub not-below : (lo n : ℕ) (xs : List ℕ) → Rises lo hi xs → n < lo → member n xs ≡ false
  unfolding member
  not-below lo n [] r h = refl
  not-below lo n (x ∷ xs) r h = rw (ne_eqb x n (λ q. omega arith), not-below (suc x) n xs r.2 (omega arith))

  -- nor is one from b on that stands before the number at b's place
  pub not-before : (lo b n : ℕ) (xs : List ℕ) → Rises lo hi xs → b ≤ n → (place b xs < length xs → n < get_or xs (place b xs) 0) → member n xs ≡ false
  unfolding member place
  not-before lo b n [] r h f = refl
  not-before lo b n (x ∷ xs) r h f = by (not-before (suc x) b n xs r.2 h) (ltb x b) refl f
    where
      by : ((place b xs < length xs → n < get_or xs (place b xs) 0) → member n xs ≡ false) → (t : Bool) → ltb x b ≡ t
          → (cond t (suc (place b xs)) zero < length (x ∷ xs) → n < get_or (x ∷ xs) (cond t (suc (place b xs)) zero) 0)
          → (eqb x n || member n xs) ≡ false
      by ih true t f = let l = ltb-true x b t in rw (ne_eqb x n (λ q. omega arith)) (ih (λ p. f (suc-le-suc p)))
      by ih false t f = let l : n < x = f (suc-le-suc zero-le) in rw (ne_eqb x n (λ q. omega arith), not-below (suc x) n xs r.2 (omega arith))

-- a number that stands at an index is one of them
pub is_member : (n i : ℕ) (xs : List ℕ) → i < length xs → get_or xs i 0 ≡ n → member n xs ≡ true
unfolding member
is_member n i [] h q = absurd (not-suc-le-zero h)
is_member n zero (x ∷ xs) h q = rw (eq-eqb x n q)
is_member n (suc i) (x ∷ xs) h q = rw (is_member n i xs (le_of_suc-le-suc h) q) (or-true (eqb x n))

-- the number at n's place is not below n
pub place-from : (n : ℕ) (xs : List ℕ) → place n xs < length xs → n ≤ get_or xs (place n xs) 0
unfolding place
place-from n [] h = absurd (not-suc-le-zero h)
place-from n (x ∷ xs) h = by (place-from n xs) (ltb x n) refl h
  where
    by : (place n xs < length xs → n ≤ get_or xs (place n xs) 0) → (t : Bool) → ltb x n ≡ t
        → cond t (suc (place n xs)) zero < length (x ∷ xs) → n ≤ get_or (x ∷ xs) (cond t (suc (place n xs)) zero) 0
    by ih true t h = ih (le_of_suc-le-suc h)
    by ih false t h = ltb-false x n t

-- a window holds at most as many numbers as it spans
pub few : (w : SlidingWindow) (cells : List ℕ) → well_formed w cells ≡ true → w.count ≤ window_size
few w cells h = by w.count refl
  where
    by : (count : ℕ) → w.count ≡ count → count ≤ window_size
    by zero q = omega arith
    by (suc i) q =
        let wf = well_formed_lem w cells h in
        let long = length-take-le w.count cells wf.fits in
        let last = rises_at (bound w) (expected w) i (held w cells) wf.rises (omega arith) in
        omega arith
