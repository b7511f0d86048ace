-- Laws of `takes` and `takes_all`: what a packet's type decides, and the walk over the packets of an index, one packet on.
-- Assumes nothing.
use Prim.Native.Nat.{ℕ, suc, ◌+◌, ◌/◌, ◌<◌}
use mathlib.Core.Path.{◌≡◌}
use mathlib.Core.List.{List}
use native.Mathlib.Omega.{arith}
use lib.ListN.{length, get_or, set}
use borrow.Author.Tests.{eq-eqb, ne_eqb}
use Rattle.refusal.specs.Said.{Said, refusal_in}
use Rattle.header.specs.Types.{type_number}
use Rattle.header.specs.Header.{type_at}
use Rattle.packet.specs.Packet.{Packet}
use Rattle.packet.specs.Datagram.{packet_at, listed}
use Rattle.packet.proofs.Index.{type_is, none_listed, FirstCell}
use Rattle.receive.specs.Datagram.{Progress, progress, takes, takes_all, Leaves}

-- the packet at a cursor, whose type number was read: of another type, or of this one
module _ {S : Type 0} (Good : S → Type 0) (type : ℕ) (call : S → Packet → Said Unit × S) (early : type < 6) (s : List ℕ) (i at len : ℕ) (x : S) (answers : List ℕ)
    {t : ℕ} (read : t ≡ type_at s at) where
  pub taken_other : (t ≡ type → ⊥) → Good x → Leaves Good (takes type call i (packet_at s (at, len)) (progress x answers)) (progress x answers)
  taken_other k good = record { same = rw (ne_eqb (type_number (packet_at s (at, len)).header.type_field) type (λ e. k (omega (arith, type_is s at len)))); good = good }

  pub taken-one : {y : S} {r : ℕ} → t ≡ type →
      let made = call x (packet_at s (at, len)) in
      r ≡ refusal_in made.0 → y ≡ made.1 → Good y → Leaves Good (takes type call i (packet_at s (at, len)) (progress x answers)) (progress y (set answers i r))
  taken-one k answer left good =
      record { same = rw (answer, left, eq-eqb (type_number (packet_at s (at, len)).header.type_field) type (omega (arith, type_is s at len))); good = good }

module _ {S : Type 0} (type : ℕ) (call : S → Packet → Said Unit × S) (s : List ℕ) where
  -- what is left to do, where these cells are left and the i-th packet is the next
  abbrev pub rest : ℕ → List ℕ → Progress S → Progress S
  rest i cells d = takes_all type call i (listed s cells (length cells / 2)) d

  pub rest_on : {n i next : ℕ} {cells cell left : List ℕ} (d : Progress S) → i ≡ n → next ≡ n + 1 → FirstCell s cells cell left
      → rest next left (takes type call i (packet_at s (get_or cell 0 0, get_or cell 1 0)) d) ≡ rest n cells d
  unfolding takes_all
  rest_on {n = n} {cell = cell} {left = left} d here on f =
      let z : n + 1 ≡ suc n = omega arith in
      rw (here, on, z, f.first)

  pub rest_end : (i : ℕ) (cells : List ℕ) (d : Progress S) → length cells < 2 → rest i cells d ≡ d
  unfolding takes_all
  rest_end i cells d h = rw (none_listed s cells h)
