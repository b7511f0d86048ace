-- One data packet accepted, one ack entered: what is read from the datagram is the listed packet's, and the state stays well formed.
-- Assumes nothing.
use Prim.Native.Nat.{ℕ, ◌+◌, ◌≤◌}
use mathlib.Core.Path.{◌≡◌, sym, ap, ap₂, ◌∙◌}
use mathlib.Core.Option.{Option}
use mathlib.Core.Bool.{true}
use mathlib.Core.List.{List}
use lib.ListN.{take, drop}
use Rattle.refusal.specs.Said.{Said}
use Rattle.lists.specs.Numbers.{largest}
use Rattle.header.specs.Header.{field_at, packet_number_at}
use Rattle.packet.specs.Datagram.{packet_at}
use Rattle.packet.proofs.Index.{number_is, field_is, payload_is}
use Rattle.ordered_bytes.specs.Buffer.{Buffer, well_formed}
use Rattle.ordered_bytes.specs.Calls.{Acceptance, accepting}
use Rattle.ordered_bytes.proofs.Kept.{accept-kept}
use Rattle.window.specs.Window.{Outcome, insert_range}
use Rattle.window.specs.Window as window
use Rattle.window.specs.declared.SlidingWindow.{SlidingWindow}
use Rattle.window.proofs.Calls.{range_law}
use Rattle.receive.specs.Datagram.{Acks, acks_of, accepts, enters}

module _ (s : List ℕ) (at : ℕ) where
  pub accepted : (b : Buffer) (len : ℕ) {after : Buffer} {said : Said Unit} {ack : Option (ℕ × ℕ × ℕ)} {n : ℕ} {payload : List ℕ} → n ≡ packet_number_at s at
      → payload ≡ take len (drop (at + 20) s) → record { said = said; ack = ack; buffer = after } ≡ accepting b n payload
      → ◌≡◌ {A = Said Unit × Buffer} (said, after) (accepts b (packet_at s (at, len)))
  accepted b len number payload e =
      ap (λ (a : Acceptance). (a.said, a.buffer)) (e ∙ ap₂ (λ (k : ℕ) (l : List ℕ). accepting b k l) (number ∙ sym (number_is s at len)) (payload ∙ sym (payload_is s at len)))

  -- no payload is read: the header is the same, whatever length the cell says
  pub entered : (w : SlidingWindow) (cells : List ℕ) (len : ℕ) {v : SlidingWindow} {after : List ℕ} {said : Said Unit} {base count : ℕ}
      → base ≡ packet_number_at s at → count ≡ field_at s at → ◌≡◌ {A = Outcome Unit} (said, v, after) (insert_range w cells base count)
      → ◌≡◌ {A = Said Unit × Acks} (said, acks_of v after) (enters (acks_of w cells) (packet_at s (at, len)))
  entered w cells len number field e =
      ap (λ (o : Outcome Unit). (o.0, acks_of o.1 o.2)) (e ∙ ap₂ (λ (k l : ℕ). insert_range w cells k l) (number ∙ sym (number_is s at len)) (field ∙ sym (field_is s at len)))

pub accepted_well : (b : Buffer) (n : ℕ) (payload : List ℕ) {after : Buffer} {said : Said Unit} {ack : Option (ℕ × ℕ × ℕ)} → n ≤ largest
    → record { said = said; ack = ack; buffer = after } ≡ accepting b n payload → well_formed b ≡ true → well_formed after ≡ true
accepted_well b n payload small e well = ap (λ (a : Acceptance). well_formed a.buffer) e ∙ accept-kept b n payload small well

pub entered_well : (w : SlidingWindow) (cells : List ℕ) (base count : ℕ) {v : SlidingWindow} {after : List ℕ} {said : Said Unit}
    → ◌≡◌ {A = Outcome Unit} (said, v, after) (insert_range w cells base count) → window.well_formed w cells ≡ true → window.well_formed v after ≡ true
entered_well w cells base count e well = ap (λ (o : Outcome Unit). window.well_formed o.1 o.2) e ∙ (range_law w cells well base count).1
