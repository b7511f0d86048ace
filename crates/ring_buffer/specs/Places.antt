-- Positions on a run of c cells, for the functions that decide by value: the i-th from a cell on, and the ring after k pops. A place that is no cell is c itself.
use Rattle.std.specs.Prelude.{ℕ, ◌+◌, ◌-◌, cond, ◌||◌, eqb, ltb, leb}
use Rattle.ring_buffer.specs.declared.RingBuffer.{RingBuffer}

-- the i-th position from p on: past the end it comes round once, and where p is no cell neither is it
abbrev pub slot_of : ℕ → ℕ → ℕ → ℕ
slot_of p c i = cond (leb c p) c (cond (ltb (p + i) c) (p + i) (p + i - c))

-- the ring with k records fewer in front; with none to pop, or more than there are, it stays
abbrev pub popped_by : RingBuffer → ℕ → ℕ → RingBuffer
popped_by g c k = cond (eqb k 0 || ltb g.len k) g (record g { head = slot_of g.head c k; len = g.len - k })
