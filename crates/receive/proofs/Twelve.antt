-- One test of refusal 12 stands for those of all the calls: each call leaves the state well formed, so that none of them answers 12.
-- Assumes nothing.
use Prim.Native.Nat.{ℕ, zero, suc, ◌≤◌}
use mathlib.Core.Path.{◌≡◌}
use mathlib.Core.Bool.{Bool, true, false, cond}
use mathlib.Core.List.{List, [], ◌∷◌}
use lib.ListN.{get_or, set}
use lib.Dec.{eqb}
use Rattle.refusal.specs.Said.{Said, refusal_in}
use Rattle.lists.specs.Numbers.{largest}
use Rattle.lists.proofs.Bytes.{Bytes}
use Rattle.lists.proofs.Table.{Every}
use Rattle.header.specs.Types.{type_number}
use Rattle.packet.specs.Packet.{Packet}
use Rattle.packet.specs.Datagram.{cells_written, parses_into, packet_at}
use Rattle.packet.proofs.Index.{number_fits, every_listed}
use Rattle.ordered_bytes.specs.Buffer.{Buffer}
use Rattle.ordered_bytes.specs.Buffer as buffer
use Rattle.ordered_bytes.proofs.Kept.{accept-kept}
use Rattle.ordered_bytes.proofs.Refused.{accept_never}
use Rattle.window.specs.Window as window
use Rattle.window.specs.declared.SlidingWindow.{SlidingWindow}
use Rattle.window.proofs.Calls.{range_law, range_fine}
use Rattle.receive.specs.Datagram.{Progress, progress, acks_of, accepts, enters, takes, takes_all, takes_datagram, receiving, receiving_acks, WellBuffer, WellAcks}
use Rattle.receive.proofs.Whole.{whole_ways}

-- no number of the list is 12
abbrev pub None12 : List ℕ → Type 0
None12 l = (i : ℕ) → get_or l i 0 ≡ 12 → ⊥

set_none : (l : List ℕ) (i r : ℕ) → (r ≡ 12 → ⊥) → None12 l → None12 (set l i r)
set_none [] i r h f j = f j
set_none (x ∷ l) zero r h f zero = h
set_none (x ∷ l) zero r h f (suc j) = f (suc j)
set_none (x ∷ l) (suc i) r h f zero = f zero
set_none (x ∷ l) (suc i) r h f (suc j) = set_none l i r h (λ k. f (suc k)) j

-- where each call on a packet that can be listed finds a good state, it leaves one, and does not answer 12: so it goes for all of them
module _ {S : Type 0} (type : ℕ) (call : S → Packet → Said Unit × S) (s : List ℕ) (Good : S → Type 0) (Fits : Packet → Type 0)
    (fits : (c : ℕ × ℕ) → Fits (packet_at s c))
    (kept : (x : S) (p : Packet) → Fits p → Good x → Good (call x p).1)
    (never : (x : S) (p : Packet) → Good x → refusal_in (call x p).0 ≡ 12 → ⊥) where
  abbrev Fine : Progress S → Type 0
  Fine d = Good d.state × None12 d.answers

  takes_fine : (i : ℕ) (p : Packet) (d : Progress S) → Fits p → Fine d → Fine (takes type call i p d)
  takes_fine i p d h f = by (eqb (type_number p.header.type_field) type)
    where
      by : (t : Bool) → Fine (cond t (progress (call d.state p).1 (set d.answers i (refusal_in (call d.state p).0))) d)
      by true = (kept d.state p h f.0, set_none d.answers i _ (never d.state p f.0) f.1)
      by false = f

  all_fine : (ps : List Packet) (i : ℕ) (d : Progress S) → Every (λ k. Fits) i ps → Fine d → Fine (takes_all type call i ps d)
  unfolding takes_all
  all_fine [] i d each f = f
  all_fine (p ∷ ps) i d each f = all_fine ps (suc i) (takes type call i p d) each.1 (takes_fine i p d each.0 f)

  datagram_fine : (well : Bool) (x : S) (index answers : List ℕ) → Good x → None12 answers →
      let e = takes_datagram well type call x s index answers in
      Good e.state × None12 e.answers
  datagram_fine well x index answers good none =
      let each = every_listed s Fits fits (parses_into s index).1 (cells_written s index) 0 in
      whole_ways type call x s index answers well (λ e. Good e.state × None12 e.answers) (λ n. (good, none)) (all_fine _ 0 (progress x answers) each (good, none))

-- `receive` keeps the buffer well formed, and enters no 12 among the answers
pub receive_fine : (b : Buffer) (s index answers : List ℕ) → Bytes s → buffer.well_formed b ≡ true → None12 answers →
    let r = receiving b s index answers in
    (buffer.well_formed r.state ≡ true) × None12 r.answers
unfolding receiving
receive_fine b s index answers bytes well none =
    datagram_fine 3 accepts s WellBuffer (λ p. p.header.packet_number ≤ largest) (number_fits s bytes)
    (λ x p small h. accept-kept x p.header.packet_number p.payload small h)
    (λ x p h. accept_never x h p.header.packet_number p.payload)
    (buffer.well_formed b) b index answers well none

-- `receive_acks` keeps the window well formed, and enters no 12 among the answers
pub receive_acks_fine : (w : SlidingWindow) (cells s index answers : List ℕ) → window.well_formed w cells ≡ true → None12 answers →
    let r = receiving_acks w cells s index answers in
    (window.well_formed r.state.window r.state.cells ≡ true) × None12 r.answers
unfolding receiving_acks
receive_acks_fine w cells s index answers well none =
    datagram_fine 4 enters s WellAcks (λ p. Unit) (λ c. tt)
    (λ x p u h. (range_law x.window x.cells h p.header.packet_number p.header.type_specific_payload).1)
    (λ x p h. (range_fine x.window x.cells h p.header.packet_number p.header.type_specific_payload).never)
    (window.well_formed w cells) (acks_of w cells) index answers well none
