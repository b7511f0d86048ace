-- The receive buffer as it lies in lent memory: which receiver it means, refusal 12's test, and how a change of the receiver is written back.
-- Document 01, "From packets to the reader" and the refusal table. What concerns the slots alone is said in crates/slots.
use Rattle.std.specs.Prelude.{ℕ, zero, suc, ◌≡◌, ◌+◌, ◌*◌, Bool, true, false, cond, ◌&&◌, List, [], ◌∷◌, length, take, drop, set, get_or, ltb, leb}
use Rattle.std.proofs.Math.Option.{Option, none, some}
use Rattle.std.proofs.Math.Seq.{paste}
use Rattle.ordered_bytes.specs.declared.OrderedBytes.{OrderedBytes}
use Rattle.ordered_bytes.specs.declared.BufferView.{BufferView}
use Rattle.ordered_bytes.specs.declared.BufferViewMut.{BufferViewMut}
use Rattle.ordered_bytes.specs.Receiver.{Receiver, numbers_fit}
pub use Rattle.slots.specs.Slots.{wrap, cleared, between, shape_fits}
unfoldable pub use Rattle.lists.specs.Within.{all_within}

-- the state and all that is lent beside it
pub record Buffer : Type 0 where
  pub state : OrderedBytes
  pub marks : List Bool
  pub lengths : List ℕ
  pub store : List ℕ

abbrev pub buffer_of : OrderedBytes → List Bool → List ℕ → List ℕ → Buffer
buffer_of o marks lengths store = record { state = o; marks = marks; lengths = lengths; store = store }

-- .. as a view of it has them: one to read, and one to change, as it stands
abbrev pub buffer_in : BufferView → Buffer
buffer_in v = buffer_of v.state v.marks.now v.lengths.now v.store.now

abbrev pub buffer_now : BufferViewMut → Buffer
buffer_now v = buffer_of v.state v.marks.now v.lengths.now v.store.now

-- the second view is lent the very memory that the first one is: what is written through it, the lender finds
abbrev pub SameLent : BufferViewMut → BufferViewMut → Type 0
SameLent a b = (b.marks.ghost_name ≡ a.marks.ghost_name) × (b.lengths.ghost_name ≡ a.lengths.ghost_name) × (b.store.ghost_name ≡ a.store.ghost_name)

-- N
abbrev pub slots : Buffer → ℕ
slots b = length b.marks

-- W
abbrev pub width : Buffer → ℕ
width b = b.state.slot_width

-- the slot at a distance from the front slot
abbrev pub slot_at : Buffer → ℕ → ℕ
slot_at b distance = wrap (slots b) (b.state.front_slot + distance)

-- what a slot holds: where it is marked, as many bytes as its length says, from the slot's place in the store on
abbrev pub in_slot : Buffer → ℕ → Option (List ℕ)
in_slot b i = cond (get_or b.marks i false) (some (take (get_or b.lengths i 0) (drop (i * width b) b.store))) none

-- f 0, f 1 and so on, n of them
abbrev pub tabulate : {A : Type 0} → ℕ → (ℕ → A) → List A
tabulate zero f = []
tabulate (suc n) f = f zero ∷ tabulate n (λ i. f (suc i))

-- the receiver that the lent lists mean; the carry-over stands in "the extra W, at the end"
unfoldable pub view : Buffer → Receiver
view b = record {
  front = b.state.front_number;
  width = width b;
  held = tabulate (slots b) (λ distance. in_slot b (slot_at b distance));
  carry = take b.state.carry_len (drop (slots b * width b) b.store);
}

-- ---- refusal 12

-- "N, W, store, front slot, slot or carry-over length out of range; a held number above 2^64 − 2"
unfoldable pub well_formed : Buffer → Bool
well_formed b =
    shape_fits (width b) b.marks b.lengths b.store
    && (ltb b.state.front_slot (slots b)
    && (leb b.state.carry_len (width b)
    && (all_within (width b) b.lengths
    && numbers_fit b.state.front_number (view b).held)))

-- ---- writing back

-- a payload stored in a slot: its mark, its length, and its bytes from the slot's start on
abbrev pub stored : Buffer → ℕ → List ℕ → Buffer
stored b i payload = record {
  state = b.state;
  marks = set b.marks i true;
  lengths = set b.lengths i (length payload);
  store = paste b.store (i * width b) payload (length payload);
}

-- k packets have left their slots from the front ("A taken slot loses its mark, its length becomes 0"), and the carry-over is another
-- ("Carry-over begins at the extra W's start, its rest moved there after each read. No other store bytes change")
abbrev pub taken : Buffer → ℕ → List ℕ → Buffer
taken b k carry = record {
  state = record {
    slot_width = width b;
    front_slot = slot_at b k;
    front_number = b.state.front_number + k;
    carry_len = length carry;
  };
  marks = cleared (slots b) b.state.front_slot k false b.marks;
  lengths = cleared (slots b) b.state.front_slot k 0 b.lengths;
  store = paste b.store (slots b * width b) carry (length carry);
}
