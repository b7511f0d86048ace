-- What the tests of refusal 12 say, as plain facts: `Shaped` for `shape_fits`, `Good` for `well_formed`.
use Rattle.std.specs.Prelude.{ℕ, ◌≡◌, ◌+◌, ◌*◌, ◌≤◌, ◌<◌, Bool, true, List, length, get_or}
use Rattle.std.proofs.Math.Option.{none}
use Rattle.lists.specs.Numbers.{largest}
use Rattle.ordered_bytes.specs.Receiver.{is_held}
use Rattle.ordered_bytes.specs.Buffer.{Buffer, slots, width, view}

-- what `new` asks of the shape
pub record Shaped (w : ℕ) (marks : List Bool) (lengths store : List ℕ) : Type 0 where
  pub some_slots : 1 ≤ length marks
  pub few_slots : length marks ≤ 2000
  pub some_width : 1 ≤ w
  pub small_width : w ≤ 65535
  pub lengths_n : length lengths ≡ length marks
  pub store_n : length store ≡ (length marks + 1) * w

-- what every call but `new` asks of the state
pub record Good (b : Buffer) : Type 0 where
  pub shape : Shaped (width b) b.marks b.lengths b.store
  pub front_n : b.state.front_slot < slots b
  pub carry_w : b.state.carry_len ≤ width b
  pub lengths_w : (i : ℕ) → get_or b.lengths i 0 ≤ width b
  pub numbers : (d : ℕ) → is_held (get_or (view b).held d none) ≡ true → b.state.front_number + d < largest
