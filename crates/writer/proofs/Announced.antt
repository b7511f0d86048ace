-- The walk of `payload_bytes_in_datagram`, one packet on: what is still to be added from a cursor on.
-- Assumes nothing.
use Prim.Native.Nat.{ℕ, zero, suc, ◌+◌, ◌-◌, ◌<◌, ◌≤◌}
use mathlib.Core.Path.{◌≡◌, refl, ap}
use mathlib.Core.Bool.{Bool, true, false, cond, ◌||◌}
use mathlib.Core.List.{List}
use native.Mathlib.Omega.{arith}
use lib.ListN.{length}
use lib.Dec.{ltb}
use borrow.Author.Tests.{lt-ltb, le-ltb, ltb-false}
use Rattle.header.specs.Header.{field_at}
use Rattle.writer.specs.PayloadBytes.{payload_bytes_by}

-- more steps than there are bytes left change nothing
steps_enough : (f g : ℕ) (s : List ℕ) (at : ℕ) → length s - at < f → length s - at < g → payload_bytes_by f s at ≡ payload_bytes_by g s at
unfolding payload_bytes_by
steps_enough zero g s at h k = absurd (omega arith)
steps_enough (suc f) zero s at h k = absurd (omega arith)
steps_enough (suc f) (suc g) s at h k =
    by (λ l. steps_enough f g s (at + 20 + field_at s at) (omega arith) (omega arith)) (ltb (length s) (at + 20)) refl
  where
    onward : Bool → ℕ → ℕ
    onward t n = cond (t || ltb (length s) (at + 20 + field_at s at)) 0 (field_at s at + n)

    by : (at + 20 ≤ length s → payload_bytes_by f s (at + 20 + field_at s at) ≡ payload_bytes_by g s (at + 20 + field_at s at)) → (t : Bool) → ltb (length s) (at + 20) ≡ t
        → onward t (payload_bytes_by f s (at + 20 + field_at s at)) ≡ onward t (payload_bytes_by g s (at + 20 + field_at s at))
    by ih true e = refl
    by ih false e = ap (onward false) (ih (ltb-false _ _ e))

-- what the packets from the cursor on announce
abbrev pub announced : List ℕ → ℕ → ℕ
announced s at = payload_bytes_by (suc (length s - at)) s at

module _ (s : List ℕ) where
  pub announced_first : announced s 0 ≡ payload_bytes_by (suc (length s)) s 0
  announced_first = steps_enough (suc (length s - 0)) (suc (length s)) s 0 (omega arith) (omega arith)

  module _ (at : ℕ) where
    pub announced_tail : length s - at < 20 → announced s at ≡ 0
    unfolding payload_bytes_by
    announced_tail h = rw (lt-ltb (length s) (at + 20) (omega arith))

    module _ (header : 20 ≤ length s - at) where
      whole : ltb (length s) (at + 20) ≡ false
      whole = le-ltb (length s) (at + 20) (omega arith)

      pub announced_short : {field : ℕ} → field ≡ field_at s at → length s - at - 20 < field → announced s at ≡ 0
      unfolding payload_bytes_by
      announced_short e h = rw (whole, lt-ltb (length s) (at + 20 + field_at s at) (omega arith))

      pub announced_next : {field : ℕ} → field ≡ field_at s at → field ≤ length s - at - 20 → announced s at ≡ field + announced s (at + (20 + field))
      unfolding payload_bytes_by
      announced_next e h =
          let next : at + (20 + field_at s at) ≡ at + 20 + field_at s at = omega arith in
          rw (e, next, whole, le-ltb (length s) (at + 20 + field_at s at) (omega arith))
          (ap (λ (n : ℕ). field_at s at + n) (steps_enough (length s - at) (suc (length s - (at + 20 + field_at s at))) s (at + 20 + field_at s at) (omega arith) (omega arith)))
