-- Where nothing is refused, the packets that stand in the index are those that the answer counts. Assumes nothing.
use Prim.Native.Nat.{ℕ}
use mathlib.Core.Path.{◌≡◌}
use mathlib.Core.Bool.{Bool}
use mathlib.Core.List.{List}
use native.Mathlib.Omega.{arith}
use Rattle.refusal.specs.Said.{Said, answers}
use Rattle.packet.specs.Packet.{Packet}
use Rattle.packet.specs.Datagram.{cells_written, parses_into}
use Rattle.packet.proofs.Index.{all_written}
use Rattle.ordered_bytes.specs.Buffer.{Buffer}
use Rattle.ordered_bytes.specs.Buffer as buffer
use Rattle.window.specs.Window as window
use Rattle.window.specs.declared.SlidingWindow.{SlidingWindow}
use Rattle.receive.specs.Datagram.{acks_of, accepts, enters, takes_datagram, receiving, receiving_acks}
use Rattle.receive.proofs.Whole.{whole_ways}

module _ (s index : List ℕ) {n : ℕ} where
  pub listing-counted : (parses_into s index).0 ≡ answers n → cells_written s index ≡ n
  listing-counted e = all_written s index e

  whole-counted : {S : Type 0} (well : Bool) (type : ℕ) (call : S → Packet → Said Unit × S) (state : S) (given : List ℕ) →
      let r = takes_datagram well type call state s index given in
      r.said ≡ answers n → r.cells ≡ n
  whole-counted well type call state given =
      whole_ways type call state s index given well (λ r. r.said ≡ answers n → r.cells ≡ n) (λ m e. absurd (let z : ◌≡◌ {A = ℕ} 0 1 = cc in omega arith)) listing-counted

  pub receive_counted : (b : Buffer) (given : List ℕ) → (receiving b s index given).said ≡ answers n → (receiving b s index given).cells ≡ n
  unfolding receiving
  receive_counted b given = whole-counted (buffer.well_formed b) 3 accepts b given

  pub receive_acks_counted : (w : SlidingWindow) (cells given : List ℕ) → (receiving_acks w cells s index given).said ≡ answers n
      → (receiving_acks w cells s index given).cells ≡ n
  unfolding receiving_acks
  receive_acks_counted w cells given = whole-counted (window.well_formed w cells) 4 enters (acks_of w cells) given
