-- How many acks are packed: no more than are queued, and no more than fit.
-- Assumes nothing.
use Prim.Native.Nat.{ℕ, ◌-◌, ◌/◌, ◌<◌, ◌≤◌}
use mathlib.Core.Path.{◌≡◌}
use native.Mathlib.Omega.{arith}
use Rattle.ring_buffer.specs.declared.RingBuffer.{RingBuffer}
use Rattle.writer.specs.Acks.{datagram_limit, ack_count}

module _ (g : RingBuffer) (used : ℕ) where
  pub count_queued : ack_count g used ≤ g.len
  count_queued = omega arith

  pub count_fits : ack_count g used ≤ 760
  unfolding datagram_limit
  count_fits = omega arith

  pub count_none : datagram_limit < used → ack_count g used ≡ 0
  count_none h = omega arith

  pub count_all : g.len < (datagram_limit - used) / 20 → ack_count g used ≡ g.len
  count_all h = omega arith

  pub count_limit : (datagram_limit - used) / 20 ≤ g.len → ack_count g used ≡ (datagram_limit - used) / 20
  count_limit h = omega arith
