-- Document 01, "From acks to the window", and what refusal 12 means for the window.
-- A call's definition takes the window and the lent cells as they came, and gives what is said, the window left and the cells left.
use Rattle.std.specs.Prelude.{ℕ, zero, suc, ◌+◌, ◌-◌, ◌≤◌, ◌<◌, Bool, true, false, not, cond, ◌&&◌, ◌||◌, List, [], ◌∷◌, ◌++◌, length, take, drop, replicate, ltb, leb, eqb}
use Rattle.std.proofs.Math.Option.{Option, none, some}
use Rattle.refusal.specs.Said.{Said, answers, refuses, checks}
use Rattle.lists.specs.Numbers.{largest}
unfoldable pub use Rattle.lists.specs.Rising.{rising}
use Rattle.window.specs.declared.SlidingWindow.{SlidingWindow}

-- "the 40,000"
abbrev pub window_size : ℕ
window_size = 40000

-- what is said, the window left, the cells left
abbrev pub Outcome : Type 0 → Type 0
Outcome A = Said A × SlidingWindow × List ℕ

-- "all unchanged"
abbrev pub refused : {A : Type 0} → SlidingWindow → List ℕ → ℕ → Outcome A
refused w cells r = (refuses r, w, cells)

-- the smallest expected number, and the window that expects e and holds k numbers
abbrev pub expected : SlidingWindow → ℕ
expected w = w.smallest_expected

abbrev pub window : ℕ → ℕ → SlidingWindow
window e k = record { smallest_expected = e; count = k }

-- "rising numbers in lent 64-bit cells, from the first": the numbers held
abbrev pub held : SlidingWindow → List ℕ → List ℕ
held w cells = take w.count cells

-- the numbers rise, from lo on and below hi: what the searches of src/ ask of the numbers held
abbrev pub Rises : ℕ → ℕ → List ℕ → Type 0
Rises lo hi [] = Unit
Rises lo hi (x ∷ xs) = (lo ≤ x) × (x < hi) × Rises (suc x) hi xs

-- n is one of the numbers
unfoldable pub member : ℕ → List ℕ → Bool
member n [] = false
member n (x ∷ xs) = eqb x n || member n xs

-- "below the smallest expected"
abbrev pub below : SlidingWindow → ℕ → Bool
below w n = ltb n (expected w)

-- "distance 40,000 or more"
abbrev pub beyond : SlidingWindow → ℕ → Bool
beyond w n = leb window_size (n - expected w)

-- "n = 2^64 − 1", above which there is no number of 64 bits; of a held one, "above 2^64 − 2"
abbrev pub exhausted : ℕ → Bool
exhausted n = leb largest n

-- "the cells are too few" for k numbers more
abbrev pub too_few : SlidingWindow → List ℕ → ℕ → Bool
too_few w cells k = ltb (length cells) (w.count + k)

-- Refusal 12: "a held number above 2^64 − 2; window numbers not rising or outside the 40,000; more of them than cells"

abbrev pub holdable : SlidingWindow → ℕ → Bool
holdable w n = not (below w n) && not (beyond w n) && not (exhausted n)

unfoldable pub all_holdable : SlidingWindow → List ℕ → Bool
all_holdable w [] = true
all_holdable w (x ∷ xs) = holdable w x && all_holdable w xs

unfoldable pub well_formed : SlidingWindow → List ℕ → Bool
well_formed w cells = leb w.count (length cells) && rising (held w cells) && all_holdable w (held w cells)

-- "12 comes first everywhere"
abbrev pub unless_malformed : {A : Type 0} → SlidingWindow → List ℕ → Outcome A → Outcome A
unless_malformed w cells = checks ((not (well_formed w cells), 12) ∷ []) (refused w cells)

-- Storing k numbers, b and those after it, of which none is held

-- n's place among rising numbers: how many from the front on are below it
unfoldable pub place : ℕ → List ℕ → ℕ
place n [] = zero
place n (x ∷ xs) = cond (ltb x n) (suc (place n xs)) zero

-- b, b + 1 and so on, k numbers
unfoldable pub numbers : ℕ → ℕ → List ℕ
numbers b zero = []
numbers b (suc k) = b ∷ numbers (suc b) k

abbrev pub stored : ℕ → ℕ → List ℕ → List ℕ
stored b k xs = take (place b xs) xs ++ numbers b k ++ drop (place b xs) xs

abbrev pub stored_cells : SlidingWindow → List ℕ → ℕ → ℕ → List ℕ
stored_cells w cells b k = stored b k (held w cells) ++ drop (w.count + k) cells

abbrev pub grown : SlidingWindow → ℕ → SlidingWindow
grown w k = window (expected w) (w.count + k)

-- .. those of the run of `count` numbers from base on that stand before the first already held:
-- "find the first number already held, and store those before it: 10 if the cells are too few (nothing stored), 7 if one was held"

-- how many of the k numbers from b on stand before the first already held
unfoldable pub before_held : ℕ → ℕ → List ℕ → ℕ
before_held b zero xs = zero
before_held b (suc k) xs = cond (member b xs) zero (suc (before_held (suc b) k xs))

-- k of them stored
abbrev pub stored_before : SlidingWindow → List ℕ → ℕ → ℕ → ℕ → Outcome Unit
stored_before w cells base count k = (cond (ltb k count) (refuses 7) (answers tt), grown w k, stored_cells w cells base k)

abbrev pub store_before : SlidingWindow → List ℕ → ℕ → ℕ → ℕ → Outcome Unit
store_before w cells base count k = checks ((too_few w cells k, 10) ∷ []) (refused w cells) (stored_before w cells base count k)

abbrev pub store_run : SlidingWindow → List ℕ → ℕ → ℕ → Outcome Unit
store_run w cells base count = store_before w cells base count (before_held base count (held w cells))

-- "Insert n: below the smallest expected, 5; distance 40,000 or more, 6; n = 2^64 − 1, 9; present, 7; no cell, 10"

abbrev pub insert_checks : SlidingWindow → List ℕ → ℕ → List (Bool × ℕ)
insert_checks w cells n = (below w n, 5) ∷ (beyond w n, 6) ∷ (exhausted n, 9) ∷ (member n (held w cells), 7) ∷ (too_few w cells 1, 10) ∷ []

unfoldable pub insert_packet_number : SlidingWindow → List ℕ → ℕ → Outcome Unit
insert_packet_number w cells n = unless_malformed w cells (checks (insert_checks w cells n) (refused w cells) (answers tt, grown w 1, stored_cells w cells n 1))

-- "`insert_range`: count 0 is accepted unchecked; base below, 5; base + count above 2^64 − 1, 9; last number's distance 40,000 or more, 6;
-- then find the first number already held, and store those before it"

abbrev pub range_checks : SlidingWindow → ℕ → ℕ → List (Bool × ℕ)
range_checks w base count = (below w base, 5) ∷ (ltb largest (base + count), 9) ∷ (beyond w (base + count - 1), 6) ∷ []

unfoldable pub insert_range : SlidingWindow → List ℕ → ℕ → ℕ → Outcome Unit
insert_range w cells base count =
    unless_malformed w cells
    (cond (eqb count 0) (answers tt, w, cells) (checks (range_checks w base count) (refused w cells) (store_run w cells base count)))

-- "`consume`: none if the smallest expected is absent; otherwise it drops the unbroken run from it, answers the run's last number and length,
-- and expects the next; the rest moves to the first cells, freed cells become 0"

-- how many of the numbers are, from the front on, e, e + 1 and so on
unfoldable pub run_length : ℕ → List ℕ → ℕ
run_length e [] = zero
run_length e (x ∷ xs) = cond (eqb x e) (suc (run_length (suc e) xs)) zero

abbrev pub consumed_cells : SlidingWindow → List ℕ → ℕ → List ℕ
consumed_cells w cells k = drop k (held w cells) ++ replicate k 0 ++ drop w.count cells

abbrev pub advanced : SlidingWindow → ℕ → SlidingWindow
advanced w k = window (expected w + k) (w.count - k)

-- .. with an unbroken run of k
abbrev pub consumed_run : SlidingWindow → List ℕ → ℕ → Outcome (Option (ℕ × ℕ))
consumed_run w cells k = (answers (some (expected w + k - 1, k)), advanced w k, consumed_cells w cells k)

abbrev pub consume_run : SlidingWindow → List ℕ → ℕ → Outcome (Option (ℕ × ℕ))
consume_run w cells k = cond (eqb k 0) (answers none, w, cells) (consumed_run w cells k)

unfoldable pub consume : SlidingWindow → List ℕ → Outcome (Option (ℕ × ℕ))
consume w cells = unless_malformed w cells (consume_run w cells (run_length (expected w) (held w cells)))
