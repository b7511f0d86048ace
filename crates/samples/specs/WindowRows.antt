-- Boundaries of the window of acknowledged numbers: document 01, "From acks to the window", and document 02 §4.
use Rattle.std.specs.Prelude.{ℕ, ◌-◌, ◌^◌, ◌≡◌, List, [], ◌∷◌, map}
use Rattle.std.proofs.Math.Option.{none, some}
use Rattle.refusal.specs.Said.{Said, answers, refuses}
use Rattle.window.specs.declared.SlidingWindow.{SlidingWindow}
use Rattle.window.specs.Window.{Outcome, insert_packet_number, insert_range, consume}
use Rattle.window.specs.Passes.{passes_allowed, passes_made}
use Rattle.samples.specs.Inputs.{lent}

-- a window by the smallest expected number and how many numbers it holds; the cells after those are not its own
abbrev pub window : ℕ → ℕ → SlidingWindow
window expected count = record { smallest_expected = expected; count = count }

-- what a call says, and the window and the cells that it leaves
abbrev pub Leaves : {A : Type 0} → Outcome A → Said A → SlidingWindow → List ℕ → Type 0
Leaves {A} call said w cells = ◌≡◌ {A = Outcome A} call (said, w, cells)

abbrev pub Inserts : SlidingWindow → List ℕ → ℕ → SlidingWindow → List ℕ → Type 0
Inserts w cells n w_left cells_left = Leaves (insert_packet_number w cells n) (answers tt) w_left cells_left

-- "all unchanged"
abbrev pub Refuses : SlidingWindow → List ℕ → ℕ → ℕ → Type 0
Refuses w cells n r = Leaves (insert_packet_number w cells n) (refuses r) w cells

abbrev pub InsertsRange : SlidingWindow → List ℕ → ℕ → ℕ → SlidingWindow → List ℕ → Type 0
InsertsRange w cells base count w_left cells_left = Leaves (insert_range w cells base count) (answers tt) w_left cells_left

abbrev pub RefusesRange : SlidingWindow → List ℕ → ℕ → ℕ → ℕ → Type 0
RefusesRange w cells base count r = Leaves (insert_range w cells base count) (refuses r) w cells

-- "window numbers not rising or outside the 40,000; more of them than cells", and "a held number above 2^64 − 2"
abbrev pub malformed : List (SlidingWindow × List ℕ)
malformed =
    (window 10 2, 12 ∷ 11 ∷ 99 ∷ [])
    ∷ (window 10 2, 12 ∷ 12 ∷ 99 ∷ [])
    ∷ (window 10 3, 11 ∷ 13 ∷ 12 ∷ [])
    ∷ (window 10 1, 9 ∷ 99 ∷ [])
    ∷ (window 10 1, 40010 ∷ 99 ∷ [])
    ∷ (window 10 2, 12 ∷ 40010 ∷ [])
    ∷ (window 10 2, 12 ∷ [])
    ∷ (window 10 1, [])
    ∷ (window (2 ^ 64 - 1) 1, (2 ^ 64 - 1) ∷ 99 ∷ [])
    ∷ (window (2 ^ 64 - 3) 2, (2 ^ 64 - 2) ∷ (2 ^ 64 - 1) ∷ [])
    ∷ []

-- all of these are refused with 12, and left as they were
abbrev pub Refuses12 : {A : Type 0} → (SlidingWindow → List ℕ → Outcome A) → Type 0
Refuses12 {A} call =
    map {B = Outcome A} (λ (m : SlidingWindow × List ℕ). call m.0 m.1) malformed ≡ map (λ (m : SlidingWindow × List ℕ). (refuses 12, m.0, m.1)) malformed

pub record InsertRows : Type 0 where
  -- "rising numbers in lent 64-bit cells, from the first"
  pub into_empty : Inserts (window 10 0) (99 ∷ 99 ∷ []) 10 (window 10 1) (10 ∷ 99 ∷ [])
  pub at_the_front : Inserts (window 10 1) (12 ∷ 99 ∷ 99 ∷ []) 11 (window 10 2) (11 ∷ 12 ∷ 99 ∷ [])
  pub in_between : Inserts (window 10 2) (10 ∷ 12 ∷ 99 ∷ 99 ∷ []) 11 (window 10 3) (10 ∷ 11 ∷ 12 ∷ 99 ∷ [])
  pub last_cell : Inserts (window 10 2) (10 ∷ 12 ∷ 99 ∷ []) 14 (window 10 3) (10 ∷ 12 ∷ 14 ∷ [])
  -- "below the smallest expected, 5": before 10
  pub below : Refuses (window 10 1) (12 ∷ 99 ∷ []) 9 5
  pub far_below : Refuses (window 40001 0) (99 ∷ []) 0 5
  pub below_the_last : Refuses (window (2 ^ 64 - 1) 0) (99 ∷ []) (2 ^ 64 - 2) 5
  pub below_before_no_cell : Refuses (window 10 1) (12 ∷ []) 9 5
  -- "distance 40,000 or more, 6": before 9 and 10
  pub distance_40000_before_no_cell : Refuses (window 10 1) (12 ∷ []) 40010 6
  pub distance_before_exhausted : Refuses (window 10 0) (99 ∷ []) (2 ^ 64 - 1) 6
  pub distance_40000_before_exhausted : Refuses (window (2 ^ 64 - 40001) 0) (99 ∷ []) (2 ^ 64 - 1) 6
  -- "n = 2^64 − 1, 9": before 10
  pub distance_39999_exhausted : Refuses (window (2 ^ 64 - 40000) 0) (99 ∷ []) (2 ^ 64 - 1) 9
  pub exhausted : Refuses (window (2 ^ 64 - 1) 0) (99 ∷ []) (2 ^ 64 - 1) 9
  pub exhausted_before_no_cell : Refuses (window (2 ^ 64 - 1) 0) [] (2 ^ 64 - 1) 9
  pub last_number : Inserts (window (2 ^ 64 - 2) 0) (99 ∷ []) (2 ^ 64 - 2) (window (2 ^ 64 - 2) 1) ((2 ^ 64 - 2) ∷ [])
  pub distance_39999_last_number : Inserts (window (2 ^ 64 - 40001) 0) (99 ∷ []) (2 ^ 64 - 2) (window (2 ^ 64 - 40001) 1) ((2 ^ 64 - 2) ∷ [])
  -- "present, 7": before 10, and not by a number in a cell that is not the window's
  pub present : Refuses (window 10 3) (10 ∷ 12 ∷ 14 ∷ 99 ∷ []) 14 7
  pub present_before_no_cell : Refuses (window 10 1) (12 ∷ []) 12 7
  pub behind_the_window : Inserts (window 10 1) (12 ∷ 14 ∷ 99 ∷ []) 14 (window 10 2) (12 ∷ 14 ∷ 99 ∷ [])
  -- "no cell, 10"
  pub no_cell : Refuses (window 10 1) (12 ∷ []) 11 10
  pub no_cells : Refuses (window 10 0) [] 10 10
  -- "12 comes first everywhere": before 5, and before any other
  pub below_12 : Refuses12 (λ w cells. insert_packet_number w cells 9)
  pub last_12 : Refuses12 (λ w cells. insert_packet_number w cells (2 ^ 64 - 1))

pub record RangeRows : Type 0 where
  -- "count 0 is accepted unchecked": below, beyond, exhausted, held, no cell
  pub count_0_below : InsertsRange (window 10 1) (12 ∷ []) 9 0 (window 10 1) (12 ∷ [])
  pub count_0_beyond : InsertsRange (window 10 1) (12 ∷ []) 40010 0 (window 10 1) (12 ∷ [])
  pub count_0_exhausted : InsertsRange (window 10 1) (12 ∷ []) (2 ^ 64 - 1) 0 (window 10 1) (12 ∷ [])
  pub count_0_held : InsertsRange (window 10 1) (12 ∷ []) 12 0 (window 10 1) (12 ∷ [])
  -- "base below, 5": before 9, 6, 10 and 7
  pub below : RefusesRange (window 10 0) (lent 9) 9 5 5
  pub below_before_exhausted : RefusesRange (window (2 ^ 64 - 1) 0) (99 ∷ []) (2 ^ 64 - 2) 2 5
  pub below_before_beyond : RefusesRange (window 10 0) (99 ∷ []) 9 40002 5
  pub below_before_no_cell : RefusesRange (window 10 1) (12 ∷ []) 9 3 5
  pub below_before_held : RefusesRange (window 10 1) (10 ∷ 99 ∷ 99 ∷ []) 9 2 5
  -- "base + count above 2^64 − 1, 9": before 6, 10 and 7
  pub last_number : InsertsRange (window (2 ^ 64 - 3) 0) (99 ∷ 99 ∷ []) (2 ^ 64 - 3) 2 (window (2 ^ 64 - 3) 2) ((2 ^ 64 - 3) ∷ (2 ^ 64 - 2) ∷ [])
  pub exhausted : RefusesRange (window (2 ^ 64 - 3) 0) (99 ∷ 99 ∷ 99 ∷ []) (2 ^ 64 - 3) 3 9
  pub exhausted_base : RefusesRange (window (2 ^ 64 - 1) 0) (99 ∷ []) (2 ^ 64 - 1) 1 9
  pub exhausted_before_beyond : RefusesRange (window 10 0) (99 ∷ []) (2 ^ 64 - 1) 1 9
  pub exhausted_before_no_cell : RefusesRange (window (2 ^ 64 - 2) 0) [] (2 ^ 64 - 2) 2 9
  pub exhausted_before_held : RefusesRange (window (2 ^ 64 - 2) 1) ((2 ^ 64 - 2) ∷ 99 ∷ []) (2 ^ 64 - 2) 2 9
  -- "last number's distance 40,000 or more, 6": before 10 and 7
  pub distance_39999 : InsertsRange (window 10 0) (99 ∷ 99 ∷ []) 40008 2 (window 10 2) (40008 ∷ 40009 ∷ [])
  pub distance_40000 : RefusesRange (window 10 0) (lent 3) 40008 3 6
  pub distance_before_no_cell : RefusesRange (window 10 0) [] 10 40001 6
  pub distance_before_held : RefusesRange (window 10 1) (10 ∷ 99 ∷ []) 10 40001 6
  -- "then find the first number already held, and store those before it: 10 if the cells are too few (nothing stored), 7 if one was held"
  pub fits : InsertsRange (window 10 0) (99 ∷ 99 ∷ []) 10 2 (window 10 2) (10 ∷ 11 ∷ [])
  pub in_between : InsertsRange (window 10 2) (10 ∷ 20 ∷ 99 ∷ 99 ∷ 99 ∷ 99 ∷ []) 12 3 (window 10 5) (10 ∷ 12 ∷ 13 ∷ 14 ∷ 20 ∷ 99 ∷ [])
  pub up_to_held : InsertsRange (window 10 1) (14 ∷ 99 ∷ 99 ∷ []) 12 2 (window 10 3) (12 ∷ 13 ∷ 14 ∷ [])
  pub one_cell_short : RefusesRange (window 10 0) (99 ∷ []) 10 2 10
  pub whole_window_no_cell : RefusesRange (window 10 0) [] 10 40000 10
  pub last_held : Leaves (insert_range (window 10 1) (14 ∷ lent 4) 10 5) (refuses 7) (window 10 5) (10 ∷ 11 ∷ 12 ∷ 13 ∷ 14 ∷ [])
  pub stops_at_first_held : Leaves (insert_range (window 10 2) (12 ∷ 14 ∷ lent 4) 10 8) (refuses 7) (window 10 4) (10 ∷ 11 ∷ 12 ∷ 14 ∷ 99 ∷ 99 ∷ [])
  pub stops_with_last_cell : Leaves (insert_range (window 10 1) (12 ∷ 99 ∷ 99 ∷ []) 10 5) (refuses 7) (window 10 3) (10 ∷ 11 ∷ 12 ∷ [])
  pub no_cell_before_held : RefusesRange (window 10 1) (12 ∷ 99 ∷ []) 10 5 10
  pub first_held : RefusesRange (window 10 1) (10 ∷ 99 ∷ 99 ∷ []) 10 3 7
  pub first_held_no_cell : RefusesRange (window 10 1) (10 ∷ []) 10 3 7
  pub held_far_behind : InsertsRange (window 10 1) (12 ∷ 14 ∷ 99 ∷ []) 14 1 (window 10 2) (12 ∷ 14 ∷ 99 ∷ [])
  -- "12 comes first everywhere": before count 0 is accepted, and before 5 and 9
  pub count_0_12 : Refuses12 (λ w cells. insert_range w cells 10 0)
  pub below_12 : Refuses12 (λ w cells. insert_range w cells 9 1)
  pub exhausted_12 : Refuses12 (λ w cells. insert_range w cells (2 ^ 64 - 1) 5)

-- the passes that the loops of an insert make, after 12's check
pub record PassesRows : Type 0 where
  -- "at most two passes for each number held and two for each in the range"
  pub allowed_for_one : passes_allowed 0 1 ≡ 2
  pub allowed : passes_allowed 3 5 ≡ 16
  -- .. and no fewer: all of them are made where nothing is held, and where the range stands before all that is held
  pub into_empty : passes_made (window 10 0) (99 ∷ []) 10 1 ≡ 2
  pub before_all : passes_made (window 10 2) (14 ∷ 15 ∷ 99 ∷ 99 ∷ []) 11 2 ≡ 8
  -- behind all that is held the last number alone is looked at, and none is moved
  pub behind_all : passes_made (window 10 2) (10 ∷ 11 ∷ 99 ∷ 99 ∷ []) 12 2 ≡ 5
  pub in_between : passes_made (window 10 2) (10 ∷ 20 ∷ 99 ∷ 99 ∷ 99 ∷ []) 12 3 ≡ 9
  -- the first number already held ends the search, and those before it are written
  pub stops_at_first_held : passes_made (window 10 1) (12 ∷ 99 ∷ 99 ∷ []) 10 5 ≡ 7
  -- nothing is moved or written where the first number is held, or the cells are too few
  pub first_held : passes_made (window 10 2) (10 ∷ 14 ∷ 99 ∷ 99 ∷ 99 ∷ []) 10 3 ≡ 3
  pub one_cell_short : passes_made (window 10 1) (14 ∷ 99 ∷ []) 10 2 ≡ 3

pub record WindowConsumeRows : Type 0 where
  -- "none if the smallest expected is absent"
  pub nothing_held : Leaves (consume (window 10 0) (10 ∷ [])) (answers none) (window 10 0) (10 ∷ [])
  pub absent : Leaves (consume (window 10 2) (11 ∷ 12 ∷ 99 ∷ [])) (answers none) (window 10 2) (11 ∷ 12 ∷ 99 ∷ [])
  -- "otherwise it drops the unbroken run from it, answers the run's last number and length, and expects the next; the rest moves to the first cells, freed cells become 0"
  pub run_of_1 : Leaves (consume (window 10 1) (10 ∷ 99 ∷ [])) (answers (some (10, 1))) (window 11 0) (0 ∷ 99 ∷ [])
  pub run_of_all : Leaves (consume (window 10 3) (10 ∷ 11 ∷ 12 ∷ [])) (answers (some (12, 3))) (window 13 0) (0 ∷ 0 ∷ 0 ∷ [])
  pub run_and_rest : Leaves (consume (window 10 5) (10 ∷ 11 ∷ 13 ∷ 14 ∷ 20 ∷ 99 ∷ [])) (answers (some (11, 2))) (window 12 3) (13 ∷ 14 ∷ 20 ∷ 0 ∷ 0 ∷ 99 ∷ [])
  pub run_longer_than_rest : Leaves (consume (window 10 4) (10 ∷ 11 ∷ 12 ∷ 14 ∷ [])) (answers (some (12, 3))) (window 13 1) (14 ∷ 0 ∷ 0 ∷ 0 ∷ [])
  pub run_ends_with_the_window : Leaves (consume (window 10 1) (10 ∷ 11 ∷ [])) (answers (some (10, 1))) (window 11 0) (0 ∷ 11 ∷ [])
  pub last_number : Leaves (consume (window (2 ^ 64 - 2) 1) ((2 ^ 64 - 2) ∷ [])) (answers (some (2 ^ 64 - 2, 1))) (window (2 ^ 64 - 1) 0) (0 ∷ [])
  -- "12 comes first everywhere"
  pub each_12 : Refuses12 consume
  -- .. and the bounds themselves are well formed
  pub distance_39999 : Leaves (consume (window 10 2) (10 ∷ 40009 ∷ [])) (answers (some (10, 1))) (window 11 1) (40009 ∷ 0 ∷ [])
  pub as_many_as_cells : Leaves (consume (window 10 1) (12 ∷ [])) (answers none) (window 10 1) (12 ∷ [])
