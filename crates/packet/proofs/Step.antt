-- What stands at a cursor, and what the walk makes of it.
-- No other law opens `look_at` or `payload_missing`; the samples compute `payload_missing`.
-- Assumes nothing.
use Prim.Native.Nat.{ℕ, suc, ◌+◌, ◌-◌, ◌<◌, ◌≤◌}
use mathlib.Core.Path.{◌≡◌, refl, ap}
use mathlib.Core.Bool.{Bool, true, false, cond, not, ◌&&◌}
use mathlib.Core.List.{List}
use native.Mathlib.Omega.{arith}
use lib.ListN.{length}
use lib.Dec.{ltb, leb}
use Rattle.std.specs.Prelude.{Option, Some, None, Result, Ok, Err}
use borrow.Author.Tests.{le-ltb, le-leb, lt-leb, ltb-false, leb-false}
use Rattle.refusal.specs.Refusal.{number_of}
use Rattle.refusal.specs.Said.{answers, refuses_at}
use Rattle.refusal.specs.declared.Refusal.{Refusal}
use Rattle.refusal.specs.declared.Refusal.TheVariants.{Tail, UnknownType, PayloadMissing}
use Rattle.header.specs.Types.{row_of}
use Rattle.header.specs.Header.{type_at, field_at}
use Rattle.header.proofs.Fields.{neither}
use Rattle.packet.specs.Datagram.{Walk, ends, onto, walk_by, payload_missing}
use Rattle.packet.specs.Step.{look_at}

-- a payload is there where it has a byte or more, and ends before the datagram does
module _ (len at field : ℕ) where
  payload_whole : 20 < len - at → 19 + field < len - at → payload_missing len at field ≡ false
  unfolding payload_missing
  payload_whole some enough = rw (lt-leb len (at + 20) (omega arith), lt-leb len (at + 19 + field) (omega arith))

  payload_fits : payload_missing len at field ≡ false → at + 20 + field ≤ len
  unfolding payload_missing
  payload_fits e = omega (arith, leb-false len (at + 19 + field) (neither (leb len (at + 20)) (leb len (at + 19 + field)) e).1)

-- what the walk makes of it
abbrev pub stepped : Result (Option ℕ) Refusal → ℕ → (ℕ → Walk) → Walk
stepped (Ok (Some len)) at next = onto (at, len) (next len)
stepped (Err r) at next = ends (refuses_at (number_of r) at)
stepped (Ok None) at next = ends (answers tt)

-- a packet found lies within the datagram, and no fault is 12
abbrev pub Sound : List ℕ → ℕ → Result (Option ℕ) Refusal → Type 0
Sound s at (Ok (Some len)) = at + 20 + len ≤ length s
Sound s at (Err r) = number_of r ≡ 12 → ⊥
Sound s at (Ok None) = Unit

pub record Looked (s : List ℕ) (at : ℕ) (r : Result (Option ℕ) Refusal) : Type 0 where
  pub step : (steps : ℕ) → walk_by (suc steps) s at ≡ stepped r at (λ len. walk_by steps s (at + 20 + len))
  pub sound : Sound s at r

module _ (s : List ℕ) (at : ℕ) where
  pub at_end : length s - at ≡ 0 → look_at s at ≡ Ok None
  unfolding look_at
  at_end e = rw (le-leb (length s) at (omega arith))

  module _ (more : 20 ≤ length s - at) (known : (row_of (type_at s at)).known ≡ true) where
    not_end : leb (length s) at ≡ false
    not_end = lt-leb (length s) at (omega arith)

    not_tail : ltb (length s) (at + 20) ≡ false
    not_tail = le-ltb (length s) (at + 20) (omega arith)

    pub at_bare : (row_of (type_at s at)).has_payload ≡ false → look_at s at ≡ Ok (Some 0)
    unfolding look_at
    at_bare p = rw (not_end, not_tail, ap not known, p)

    pub at_whole_payload : (row_of (type_at s at)).has_payload ≡ true → 20 < length s - at → 19 + field_at s at < length s - at → look_at s at ≡ Ok (Some (field_at s at))
    unfolding look_at
    at_whole_payload p some enough = rw (not_end, not_tail, ap not known, p, payload_whole (length s) at (field_at s at) some enough)

  looks : (end tail unknown payload missing : Bool)
      → leb (length s) at ≡ end
      → ltb (length s) (at + 20) ≡ tail
      → not (row_of (type_at s at)).known ≡ unknown
      → (row_of (type_at s at)).has_payload ≡ payload
      → payload_missing (length s) at (field_at s at) ≡ missing
      → Looked s at
      (cond end (Ok None)
      (cond tail (Err Tail) (cond unknown (Err UnknownType) (cond (payload && missing) (Err PayloadMissing) (Ok (Some (cond payload (field_at s at) 0)))))))
  unfolding walk_by
  looks true tail unknown payload missing a b c d e = record { step = λ steps. rw a; sound = tt }
  looks false true unknown payload missing a b c d e = record { step = λ steps. rw (a, b); sound = λ q. omega arith }
  looks false false true payload missing a b c d e = record { step = λ steps. rw (a, b, c); sound = λ q. omega arith }
  looks false false false true true a b c d e = record { step = λ steps. rw (a, b, c, d, e); sound = λ q. omega arith }
  looks false false false true false a b c d e = record { step = λ steps. rw (a, b, c, d, e); sound = payload_fits (length s) at (field_at s at) e }
  looks false false false false missing a b c d e = record { step = λ steps. rw (a, b, c, d); sound = omega (arith, ltb-false (length s) (at + 20) b) }

  pub looked : Looked s at (look_at s at)
  unfolding look_at
  looked = looks _ _ _ _ _ refl refl refl refl refl
