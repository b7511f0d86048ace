-- The memory lent keeps its size: no call changes the number of slots, their width W, or how long the lists and the store are.
-- Assumes nothing.
use Prim.Native.Nat.{ℕ, ◌*◌, ◌≤◌, ◌<◌, zero-le}
use mathlib.Core.Path.{◌≡◌, refl, sym, ◌∙◌}
use mathlib.Core.Bool.{Bool, false}
use mathlib.Core.List.{List, []}
use native.Mathlib.Omega.{arith}
use native.Mathlib.Nat.{le_refl, le_of_lt}
use lib.ListN.{length, length-set, length-replicate}
use lib.Seq.{length-paste}
use Rattle.refusal.specs.Said.{answers}
use Rattle.slots.proofs.Ring.{length-cleared}
use Rattle.ordered_bytes.specs.declared.OrderedBytes.{OrderedBytes}
use Rattle.ordered_bytes.specs.Receiver.{consumed, consumed_pieces}
use Rattle.ordered_bytes.specs.Buffer.{Buffer, buffer_of, slots, width, view, stored, taken}
use Rattle.ordered_bytes.specs.Calls.{creating, starting, accepting, consuming, consuming_bytes}
use Rattle.ordered_bytes.proofs.WellFormed.{Shaped, Good}
use Rattle.ordered_bytes.proofs.View.{fresh, slot_below, slot_ends, store_long, length-held, length-carry, held_small}
use Rattle.ordered_bytes.proofs.Walk.{took_few, consumed_took, consumed_carries, pieces_took}
use Rattle.ordered_bytes.proofs.Outcome.{malformed, makes, create_ways, renumbered, holds, starts, start_ways, accept_case, consume_case, consume_bytes_case}

pub record SameSizes (b c : Buffer) : Type 0 where
  pub many : slots c ≡ slots b
  pub wide : width c ≡ width b
  pub lengths : length c.lengths ≡ length b.lengths
  pub store : length c.store ≡ length b.store

-- what is asked of the shape is asked of the sizes alone
pub still_shaped : {b c : Buffer} → SameSizes b c → Shaped (width b) b.marks b.lengths b.store → Shaped (width c) c.marks c.lengths c.store
still_shaped s h = record {
  some_slots = rw s.many h.some_slots;
  few_slots = rw s.many h.few_slots;
  some_width = rw s.wide h.some_width;
  small_width = rw s.wide h.small_width;
  lengths_n = s.lengths ∙ h.lengths_n ∙ sym s.many;
  store_n = s.store ∙ rw (s.many, s.wide) h.store_n;
}

same_sizes : (b : Buffer) → SameSizes b b
same_sizes b = record { many = refl; wide = refl; lengths = refl; store = refl }

pub stored_sizes : {b : Buffer} {i : ℕ} (p : List ℕ) → Good b → i < slots b → length p ≤ width b → SameSizes b (stored b i p)
stored_sizes {b} {i} p g here fits = record {
  many = length-set b.marks i _;
  wide = refl;
  lengths = length-set b.lengths i _;
  store = length-paste b.store (i * width b) p (length p) (omega (arith, store_long g, slot_ends g here)) (le_refl _);
}

pub taken_sizes : {b : Buffer} (k : ℕ) (c : List ℕ) → Good b → length c ≤ width b → SameSizes b (taken b k c)
taken_sizes {b} k c g fits = record {
  many = length-cleared (slots b) false b.state.front_slot k b.marks;
  wide = refl;
  lengths = length-cleared (slots b) 0 b.state.front_slot k b.lengths;
  store = length-paste b.store (slots b * width b) c (length c) (omega (arith, store_long g)) (le_refl _);
}

pub fresh_sizes : (w s : ℕ) (marks : List Bool) (lengths store : List ℕ)
    → let b = fresh w s marks lengths store in SameSizes (buffer_of b.state marks lengths store) b
fresh_sizes w s marks lengths store = record { many = length-replicate (length marks) false; wide = refl; lengths = length-replicate (length lengths) 0; store = refl }

-- what a read takes and carries over fits the buffer
pub consume_fits : {b : Buffer} → Good b → (len : ℕ) → ((consumed (view b) len).packets ≤ slots b) × (length (consumed (view b) len).carry ≤ width b)
consume_fits {b} g len =
    (rw length-held at (took_few (consumed_took (view b) len)), consumed_carries (view b) len (rw (length-carry g) g.carry_w) (held_small g))

pub pieces_fit : (b : Buffer) (limit : ℕ) → (consumed_pieces (view b) limit).packets ≤ slots b
pieces_fit b limit = rw length-held at (took_few (pieces_took (view b) limit))

-- ---- the calls

-- `new` leaves lists as long as they came, and the width is the one given; the store is not written
pub create_sizes : (w s : ℕ) (marks : List Bool) (lengths store : List ℕ) {o : OrderedBytes} → (creating w s marks lengths store).said ≡ answers o
    → SameSizes (buffer_of o marks lengths store) (buffer_of o (creating w s marks lengths store).marks (creating w s marks lengths store).lengths store) × (o.slot_width ≡ w)
create_sizes w s marks lengths store {o} said =
    elim (create_ways w s marks lengths store) [
      | malformed m e ↦ absurd (let z : ◌≡◌ {A = ℕ} 0 1 = cc in omega arith)
      | makes h e ↦ let q : o ≡ (fresh w s marks lengths store).state = cc in rw (q, e) (fresh_sizes w s marks lengths store, refl)
    ]

-- `set_start_packet_number` is lent nothing to change
pub start_sizes : (b : Buffer) (s : ℕ) {o : OrderedBytes} → starting b s ≡ answers o → o.slot_width ≡ width b
start_sizes b s {o} said =
    elim (start_ways b s) [
      | malformed m e ↦ absurd (let z : ◌≡◌ {A = ℕ} 0 1 = cc in omega arith)
      | holds g h e ↦ absurd (let z : ◌≡◌ {A = ℕ} 0 1 = cc in omega arith)
      | starts g h e ↦ let q : o ≡ (renumbered b s).state = cc in rw q
    ]

pub accept_sizes : (b : Buffer) (n : ℕ) (payload : List ℕ) → SameSizes b (accepting b n payload).buffer
accept_sizes b n payload =
    accept_case b n payload (λ o. SameSizes b o.buffer) (λ r. same_sizes b) (λ a. stored_sizes payload a.well (slot_below a.well (le_of_lt a.near)) a.fits)

pub consume_sizes : (b : Buffer) (len : ℕ) (out : List ℕ) → SameSizes b (consuming b len out).buffer
consume_sizes b len out =
    consume_case b len out (λ o. SameSizes b o.buffer) (λ r other. same_sizes b)
    (λ g room. taken_sizes (consumed (view b) len).packets (consumed (view b) len).carry g (consume_fits g len).1)

pub consume_bytes_sizes : (b : Buffer) (limit : ℕ) (out list : List ℕ) → SameSizes b (consuming_bytes b limit out list).buffer
consume_bytes_sizes b limit out list =
    consume_bytes_case b limit out list (λ o. SameSizes b o.buffer) (λ r none_left. same_sizes b)
    (λ g room any. taken_sizes (consumed_pieces (view b) limit).packets [] g zero-le)
