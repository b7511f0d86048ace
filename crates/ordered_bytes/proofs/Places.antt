-- What the tests of the calls ask of the receiver, read off the lent lists: front, widths, lengths, and which places are held.
-- Assumes nothing.
use Prim.Native.Nat.{ℕ, ◌<◌}
use mathlib.Core.Path.{◌≡◌, refl, ap, ◌∙◌}
use mathlib.Core.Bool.{Bool, true, false, cond, ◌||◌}
use mathlib.Core.Option.{none, some}
use mathlib.Core.List.{List}
use lib.ListN.{get_or}
use lib.Dec.{ltb}
use Rattle.ordered_bytes.specs.Receiver.{is_held, place_at, base, available}
use Rattle.ordered_bytes.specs.Buffer.{Buffer, slots, width, slot_at, view}
use Rattle.ordered_bytes.proofs.WellFormed.{Good}
use Rattle.slots.proofs.Ring.{wrap-zero}
use Rattle.ordered_bytes.proofs.View.{held_at, length-carry}

pub held_mark : (m : Bool) (p : List ℕ) → is_held (cond m (some p) none) ≡ m
held_mark true p = refl
held_mark false p = refl

module _ (b : Buffer) where
  pub view-front : (view b).front ≡ b.state.front_number
  unfolding view
  view-front = refl

  pub view-width : (view b).width ≡ width b
  unfolding view
  view-width = refl

  -- a place is held exactly if its slot is marked
  pub mark_at : {d : ℕ} → d < slots b → is_held (place_at (view b) d) ≡ get_or b.marks (slot_at b d) false
  mark_at {d} h = ap is_held (held_at b h) ∙ held_mark (get_or b.marks (slot_at b d) false) _

module _ {b : Buffer} (g : Good b) where
  pub front_at : slot_at b 0 ≡ b.state.front_slot
  front_at = wrap-zero g.front_n

  pub front_mark : is_held (place_at (view b) 0) ≡ get_or b.marks b.state.front_slot false
  front_mark = mark_at b g.shape.some_slots ∙ ap (λ (i : ℕ). get_or b.marks i false) front_at

-- the front number, where the front slot is marked
pub base_at : (b : Buffer) → Good b → base (view b) ≡ cond (get_or b.marks b.state.front_slot false) b.state.front_number 0
base_at b g = rw (front_mark g, view-front b)

-- whether there is something to read, by the carry-over's length and the front slot's mark
pub available_at : (b : Buffer) → Good b → available (view b) ≡ (ltb 0 b.state.carry_len || get_or b.marks b.state.front_slot false)
available_at b g = rw (length-carry g, front_mark g)
