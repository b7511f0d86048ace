-- What a well formed ring's positions are, that positions so related are well formed, and that a position brought round the end is a remainder.
-- Assumes nothing.
use Prim.Native.Nat.{ℕ, ◌+◌, ◌-◌, ◌%◌, ◌<◌, ◌≤◌}
use native.Mathlib.Nat.{add-zero, sub-zero, mod-lt, mod-eq_of_lt}
use native.Mathlib.Omega.{arith}
use mathlib.Core.Path.{◌≡◌, refl, sym, ap}
use mathlib.Core.Bool.{Bool, true, false, cond, ◌&&◌}
use lib.Dec.{ltb, leb, eqb}
use Rattle.std.proofs.lemmas.Bool.{and_parts}
use borrow.Author.Tests.{ltb-true, ltb-false, leb-true, eqb-true, eqb-false, le-leb, lt-leb, lt-ltb, le-ltb, eq-eqb, ne_eqb}
use Rattle.lists.proofs.Rotated.{wraps}
use Rattle.ring_buffer.specs.Ring.{well_formed, popped}
use Rattle.ring_buffer.specs.Places.{slot_of, popped_by}
use Rattle.ring_buffer.specs.declared.RingBuffer.{RingBuffer}

-- from a cell on, no further than once round, the position is the remainder
pub slot_is : (p c i : ℕ) → p < c → i ≤ c → slot_of p c i ≡ (p + i) % c
slot_is p c i in-run once = rw (lt-leb c p in-run) (by (ltb (p + i) c) refl)
  where
    by : (b : Bool) → ltb (p + i) c ≡ b → cond b (p + i) (p + i - c) ≡ (p + i) % c
    by true e = sym (mod-eq_of_lt (ltb-true (p + i) c e))
    by false e = sym (wraps (p + i) c (ltb-false (p + i) c e) (omega arith))

-- no cell at all, or a head among them and the tail behind the last record
pub data Placed (g : RingBuffer) (c : ℕ) : Type 0 where
  nowhere : c ≡ 0 → g.head ≡ 0 → g.tail ≡ 0 → Placed g c
  somewhere : g.head < c → g.tail ≡ (g.head + g.len) % c → Placed g c

module _ (g : RingBuffer) (c : ℕ) where
  pub room : well_formed g c ≡ true → g.len ≤ c
  room w = leb-true g.len c (and_parts (leb g.len c) _ w).0

  pub placed : well_formed g c ≡ true → Placed g c
  placed w = by (eqb c 0) refl (and_parts (leb g.len c) _ w).1
    where
      by : (b : Bool) → eqb c 0 ≡ b → cond b (eqb g.head 0 && eqb g.tail 0) (ltb g.head c && eqb g.tail ((g.head + g.len) % c)) ≡ true → Placed g c
      by true e p = nowhere (eqb-true c 0 e) (eqb-true g.head 0 (and_parts (eqb g.head 0) _ p).0) (eqb-true g.tail 0 (and_parts (eqb g.head 0) _ p).1)
      by false e p = somewhere (ltb-true g.head c (and_parts (ltb g.head c) _ p).0) (eqb-true g.tail _ (and_parts (ltb g.head c) _ p).1)

  -- with a cell at all, head and tail are cells
  pub head_in : well_formed g c ≡ true → 0 < c → g.head < c
  head_in w some = by (placed w)
    where
      by : Placed g c → g.head < c
      by (nowhere z h t) = absurd (omega arith)
      by (somewhere h t) = h

  pub tail_in : well_formed g c ≡ true → 0 < c → g.tail < c
  tail_in w some = by (placed w)
    where
      by : Placed g c → g.tail < c
      by (nowhere z h t) = absurd (omega arith)
      by (somewhere h t) = rw t (mod-lt (g.head + g.len) some)

  pub well : g.len ≤ c → g.head < c → g.tail ≡ (g.head + g.len) % c → well_formed g c ≡ true
  well l h t = simp (le-leb g.len c l, ne_eqb c 0 (λ z. omega arith), lt-ltb g.head c h, eq-eqb g.tail ((g.head + g.len) % c) t)

  -- nothing popped is the ring as it was
  pub popped_none : well_formed g c ≡ true → popped g c 0 ≡ g
  popped_none w = simp sub-zero (ap (λ (h : ℕ). record { head = h; tail = g.tail; len = g.len }) (by (placed w)))
    where
      by : Placed g c → (g.head + 0) % c ≡ g.head
      by (nowhere z h t) = rw (z, h) refl
      by (somewhere h t) = rw add-zero (mod-eq_of_lt h)

  -- the cell of the i-th record
  pub slot_queued : well_formed g c ≡ true → (i : ℕ) → i < g.len → slot_of g.head c i ≡ (g.head + i) % c
  slot_queued w i h = let fits = room w in slot_is g.head c i (head_in w (omega arith)) (omega arith)

  -- k of the records popped
  pub popped_by_is : well_formed g c ≡ true → (k : ℕ) → k ≤ g.len → popped_by g c k ≡ popped g c k
  popped_by_is w k few = by (eqb k 0) refl
    where
      by : (b : Bool) → eqb k 0 ≡ b → popped_by g c k ≡ popped g c k
      by true e = let none = eqb-true k 0 e in rw none (sym (popped_none w))
      by false e =
          let fits = room w in
          let some : 0 < k = omega (arith, eqb-false k 0 e) in
          rw (e, le-ltb g.len k few, slot_is g.head c k (head_in w (omega arith)) (omega arith)) refl
