-- Document 02 §4: how many passes the loops of an insert make "after 12's check". A pass is an entry into a loop's body, whatever the body then does.
-- The code pays 1 for each out of a budget that begins at `passes_allowed`; the inner promises say by these counts what is left of it.
use Rattle.std.specs.Prelude.{ℕ, ◌+◌, ◌-◌, ◌*◌, min, cond, ◌||◌, List, eqb}
use Rattle.window.specs.declared.SlidingWindow.{SlidingWindow}
use Rattle.window.specs.Window.{held, too_few, place, before_held}

-- "at most two passes for each number held and two for each in the range"; a number inserted alone is a range of one
abbrev pub passes_allowed : ℕ → ℕ → ℕ
passes_allowed count range = 2 * count + 2 * range

-- looking for a place among `count` numbers, from the back: those from the place on, and the one before it, if there is one
abbrev pub place_passes : ℕ → ℕ → ℕ
place_passes count at = count - at + min 1 at

-- looking through the range for its first number already held: the k before it, and that one, if there is one
abbrev pub first_held_passes : ℕ → ℕ → ℕ
first_held_passes range k = min range (k + 1)

-- moving the numbers from the place on, and writing k; neither where there is none to write, or the cells are too few
abbrev pub store_passes : SlidingWindow → List ℕ → ℕ → ℕ → ℕ
store_passes w cells at k = cond (eqb k 0 || too_few w cells k) 0 (w.count - at + k)

-- "together": the four loops, for a range whose place is `at` and of which k numbers stand before the first already held
abbrev pub passes_at : SlidingWindow → List ℕ → ℕ → ℕ → ℕ → ℕ
passes_at w cells range at k = place_passes w.count at + first_held_passes range k + store_passes w cells at k

abbrev pub passes_made : SlidingWindow → List ℕ → ℕ → ℕ → ℕ
passes_made w cells base range = passes_at w cells range (place base (held w cells)) (before_held base range (held w cells))
