-- Each return of `pack_up_to`: the checks in their order, then what was written and what leaves the queue.
-- Assumes nothing.
use Prim.Native.Nat.{ℕ, ◌+◌, ◌/◌, ◌%◌, ◌<◌, ◌≤◌, min}
use mathlib.Core.Path.{◌≡◌, ap}
use mathlib.Core.Bool.{true, false}
use mathlib.Core.List.{List}
use native.Mathlib.Omega.{arith}
use lib.ListN.{length, take}
use lib.Seq.{paste, length-take-le}
use lib.Dec.{eqb}
use borrow.Author.Tests.{lt-ltb, le-ltb}
use Rattle.refusal.specs.Said.{answers, refuses}
use Rattle.lists.specs.Numbers.{largest}
use Rattle.writer.specs.Packing.{payload_size, queued, packets_for, packed_size, all_packed, removed, sum, Outcome, packing}

-- a quotient rounded up, as `div_ceil` has it
pub packets_ceil : (q : ℕ) → q / payload_size + min 1 (q % payload_size) ≡ packets_for q
unfolding payload_size
packets_ceil q = omega arith

module _ (limit : ℕ) (bytes lengths : List ℕ) (next src dst : ℕ) (out : List ℕ) where
  abbrev defined : Outcome
  defined = packing limit (queued bytes lengths) next src dst out

  abbrev refused : ℕ → Outcome
  refused n = (refuses n, out)

  pub malformed : eqb (sum lengths) (length bytes) ≡ false → refused 12 ≡ defined
  unfolding packing
  malformed e = rw e

  module _ (add_up : eqb (sum lengths) (length bytes) ≡ true) {q : ℕ} (taken : q ≡ min (length bytes) limit) where
    pub exhausted : largest < next + packets_for q → refused 9 ≡ defined
    unfolding packing
    exhausted h = rw (add_up, lt-ltb _ _ (rw taken at h))

    module _ (numbers : next + packets_for q ≤ largest) where
      pub short : length out < packed_size q → refused 10 ≡ defined
      unfolding packing
      short h = rw (add_up, le-ltb _ _ (rw taken at numbers), lt-ltb _ _ (rw taken at h))

      pub packed : {e : List ℕ} {entries cut : ℕ} → packed_size q ≤ length out → e ≡ paste out 0 (all_packed src dst next (take q bytes)) (packed_size (length (take q bytes)))
          → ◌≡◌ {A = ℕ × ℕ} (entries, cut) (removed limit (queued bytes lengths))
          → ◌≡◌ {A = Outcome}
          (answers (record { bytes = q; packets = packets_for q; next_packet_num = next + packets_for q; entries_removed = entries; bytes_cut = cut }), e)
          defined
      unfolding packing
      packed {e} {entries} {cut} room wrote gone =
          let long : length (take q bytes) ≡ q = length-take-le q bytes (omega arith) in
          rw (add_up, le-ltb _ _ (rw taken at numbers), le-ltb _ _ (rw taken at room), wrote, long, taken, ap (λ (r : ℕ × ℕ). r.0) gone, ap (λ (r : ℕ × ℕ). r.1) gone)
